-- The live mounts' sessions.
use Rattle.std.specs.Prelude.{◌≡◌, ℕ, ◌≤◌, Bool, false, List, [], ◌∷◌, Option, Some, None, find, filter, not}
use Rattle.std.specs.declared.cmp.Ordering.{Ordering}
use Rattle.std.specs.Cmp.Lexicographic.{slice_cmp}
use Rattle.std.specs.Ordering.{nat_cmp}
use Rattle.std.specs.Str.{bytes_eq}
use Rattle.radio_values.specs.declared.field.Shown.{Shown}
use Rattle.radio_tables.specs.Lists.{update_first, placed, Each}
use Rattle.radio_parts_mount.specs.Stream.{WholeStream, AreRising, no_data, end_of, with_block}

-- what a source feeds to a mount, from its admission on
pub record Session : Type 0 where
  pub mount : List ℕ
  -- the number of the client that feeds it
  pub number : ℕ
  pub stream : WholeStream
  -- the title of what is on the air, if one was set
  pub title : Option (List ℕ)
  -- what the heads of its listeners show
  pub shown : Shown
  -- the moment of its last block, or of its admission before there is one, in milliseconds
  pub last_block : ℕ

abbrev pub is_of : List ℕ → Session → Bool
is_of mount session = bytes_eq session.mount mount

-- the session that feeds the mount, if it is live
abbrev pub session_of : List Session → List ℕ → Option Session
session_of live mount = find (is_of mount) live

-- a session that begins
abbrev pub opened : List ℕ → ℕ → Shown → ℕ → Session
opened mount number shown moment = record { mount = mount; number = number; stream = no_data; title = None; shown = shown; last_block = moment }

-- sessions are in the order of their mounts' bytes
abbrev pub by_mount : Session → Session → Ordering
by_mount a b = slice_cmp nat_cmp a.mount b.mount

-- one session more
abbrev pub with_session : List Session → Session → List Session
with_session live session = placed by_mount session live

-- a session that has delivered a block at this moment
abbrev pub longer : List ℕ → ℕ → Session → Session
longer block moment session = record session { stream = with_block session.stream block; last_block = moment }

-- the mount's session has delivered it
abbrev pub fed : List Session → List ℕ → List ℕ → ℕ → List Session
fed live mount block moment = update_first (is_of mount) (longer block moment) live

-- a session that has this title, or none
abbrev pub with_title : Option (List ℕ) → Session → Session
with_title title session = record session { title = title }

-- the mount's session has this title
abbrev pub titled : List Session → List ℕ → List ℕ → List Session
titled live mount title = update_first (is_of mount) (with_title (Some title)) live

-- the mount's session has ended
abbrev pub without_session : List Session → List ℕ → List Session
without_session live mount = filter (λ session. not (is_of mount session)) live

-- no two of the sessions are of one mount
abbrev pub AreApart : List Session → Type 0
AreApart [] = Unit {0}
AreApart (session ∷ live) = Each (λ (other : Session). bytes_eq session.mount other.mount ≡ false) live × AreApart live

-- blocks start one after another, within the stream
abbrev pub HasRisingStarts : Session → Type 0
HasRisingStarts session = AreRising session.stream.starts (end_of session.stream)

-- no stream goes further than this
abbrev pub GoNoFurther : ℕ → List Session → Type 0
GoNoFurther furthest live = Each (λ (session : Session). end_of session.stream ≤ furthest) live
