-- Who feeds a mount.
use Rattle.std.specs.Prelude.{ℕ, ◌+◌, ◌==◌, ◌||◌, Bool, true, false, List, [], ◌∷◌, ◌++◌, take, drop, Option, None, Some}
use Rattle.std.specs.List.{position}
use Rattle.std.specs.Option.{is_some}

-- the clients who feed a mount by what was asked, and whether there may be others, for whose numbers memory was refused
pub record FeedingClients : Type 0 where
  pub numbers : List ℕ
  pub is_blind : Bool

-- none
abbrev pub nobody_feeds : FeedingClients
nobody_feeds = record { numbers = []; is_blind = false }

-- the place of a client among them
abbrev pub place_among : ℕ → List ℕ → Option ℕ
place_among id numbers = position (λ n. n == id) numbers

-- whether it is one of them
abbrev pub is_source_number : ℕ → FeedingClients → Bool
is_source_number id f = is_some (place_among id f.numbers)

-- one more
abbrev pub with_source : ℕ → FeedingClients → FeedingClients
with_source id f = record f { numbers = f.numbers ++ id ∷ [] }

-- one more, whose number is not known
abbrev pub blinded : FeedingClients → FeedingClients
blinded f = record f { is_blind = true }

-- without the one at this place
abbrev pub without_place : Option ℕ → List ℕ → List ℕ
without_place None numbers = numbers
without_place (Some at) numbers = take at numbers ++ drop (at + 1) numbers

-- without this client
abbrev pub without_source : ℕ → FeedingClients → FeedingClients
without_source id f = record f { numbers = without_place (place_among id f.numbers) f.numbers }

-- whether a client may be one of them
abbrev pub may_feed : ℕ → FeedingClients → Bool
may_feed id f = f.is_blind || is_source_number id f
