-- Sessions on the course of a connection.
use Rattle.std.proofs.Common.{◌≡◌, ℕ, false, List, refl, sym, ap, ◌∙◌}
use Rattle.radio_events.specs.declared.entry.Entry.{Entry}
use Rattle.radio_session.specs.Conversation.{Conversation}
use Rattle.radio_session.specs.Laws.{HearingFailsNothing}
use Rattle.radio_connections.specs.declared.conn.Fate.TheVariants.{Open}
use Rattle.radio_connections.specs.Connections.{Connection}
use Rattle.radio_connections.specs.Course.{Arrival, Standing, Course, arrives, turned_away, hears, has_room, applies, closes, is_cut, passes_over, leaves}
use Rattle.radio_connections.specs.Serving.{Stands}

-- no session fails on its course
is_whole : HearingFailsNothing → (arrival : Arrival) (id : ℕ) (s : Standing) → Course arrival id s → s.session.has_failed ≡ false
is_whole kept arrival id s (arrives came) = refl
is_whole kept arrival id s (turned_away nobody) = refl
is_whole kept arrival id s (hears before course quiet bytes heard is) = kept before.session bytes heard is ∙ is_whole kept arrival id before course
is_whole kept arrival id s (has_room before course quiet room) = is_whole kept arrival id before course
is_whole kept arrival id s (applies before course goes event later some reply) = is_whole kept arrival id before course
is_whole kept arrival id s (closes before course goes none) = is_whole kept arrival id before course
is_whole kept arrival id s (is_cut before course unheard) = is_whole kept arrival id before course
is_whole kept arrival id s (passes_over before course ended bytes) = is_whole kept arrival id before course
is_whole kept arrival id s (leaves before course over here reply) = is_whole kept arrival id before course

pub open_session_is_whole : HearingFailsNothing → (arrival : Arrival) (c : Connection) (entries : List Entry) → Stands arrival c entries → c.status.fate ≡ Open
    → c.session.has_failed ≡ false
open_session_is_whole kept arrival c entries st goes =
    ap (λ (x : Conversation). x.has_failed) (sym (st.same_session goes)) ∙ is_whole kept arrival c.id st.standing st.course
