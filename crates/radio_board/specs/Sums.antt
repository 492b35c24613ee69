-- What is made of what the desks of all workers say.
use Rattle.std.specs.Prelude.{ℕ, ◌+◌, ◌-◌, ◌^◌, ◌%◌, min, max, nat_lt, Bool, Option, None, Some, unwrap_or, not, ◌&&◌, if◌then◌else◌}
use Rattle.radio_connections.specs.Rooms.{draw_room}

-- the smaller of two numbers, of which the second is that of a worker, if that worker counts
abbrev pub least_of : ℕ → Bool → ℕ → ℕ
least_of least counts number = if counts then min least number else least

-- the larger of them
abbrev pub most_of : ℕ → Bool → ℕ → ℕ
most_of most counts number = if counts then max most number else most

-- how many connections a worker has, with those that were put for it; a count has 64 bits
abbrev pub load_of : ℕ → ℕ → ℕ
load_of connections newcomers = min (2 ^ 64 - 1) (connections + newcomers)

-- how many of so many of a worker's connections may linger, if so many of all do, and so many of all may: those that are too
-- many are its own
-- rule: Most that linger
abbrev pub may_linger : ℕ → ℕ → ℕ → ℕ
may_linger count all most = count - (all - most)

-- up to which of all bytes listeners have drawn that had drawn some before. It is as many as had come, but no more than a draw
-- brings if one of them has more to draw; there are at most 64 bits
abbrev pub drawn_after : ℕ → ℕ → Bool → ℕ
drawn_after before received has_more = if has_more then min received (min (2 ^ 64 - 1) (before + draw_room)) else received

-- how many of the bytes that came are still to be drawn, if there are listeners
abbrev pub left_to_draw : ℕ → ℕ → Bool → ℕ
left_to_draw received drawn has_listeners = if has_listeners then received - drawn else 0

-- the number so many steps behind another, of so many in a ring: behind the last comes the first
abbrev pub place_on : ℕ → ℕ → ℕ → ℕ
place_on from step count = if nat_lt (from % count + step) count then from % count + step else (from % count + step) - count

-- whether the first listeners of a worker have come, who had some or not, and has some or not
abbrev pub first_come : Bool → Bool → Bool
first_come had has = has && not had

-- how many newcomers are left of so many, of which so many at most are taken; nothing changes if none is
abbrev pub newcomers_left : ℕ → ℕ → Option ℕ
newcomers_left newcomers most = if nat_lt 0 (min newcomers most) then Some (newcomers - most) else None

-- which worker is woken for a newcomer: the one that takes newcomers next, or the one for which it was
-- put
abbrev pub taker_of : Option ℕ → ℕ → ℕ
taker_of next own = unwrap_or next own
