-- How much a listener draws in a turn.
use Rattle.std.specs.Prelude.{ℕ, Bool, false, length, nat_le}
use Rattle.radio_events.specs.declared.reply.Reply.{Reply}
use Rattle.radio_events.specs.declared.reply.Reply.TheVariants.{Drawn}

-- a listener has room for so many bytes of data in a turn
abbrev pub draw_room : ℕ
draw_room = 65536

-- whether a draw has brought as much as there was room for
abbrev pub fills_room : Reply → Bool
fills_room (Drawn pieces title) = nat_le draw_room (length pieces)
fills_room reply = false
