-- A body that is fed piece by piece: what each feed answers, and what it leaves.
use Rattle.std.specs.Prelude.{List, [], ◌∷◌, ℕ, Bool, true, false, ◌&&◌, ◌||◌, not, if◌then◌else◌, Option, None, Some}
use Rattle.radio_source.specs.declared.fault.BodyFault.{BodyFault}
use Rattle.radio_source.specs.declared.fault.BodyFault.TheVariants.{Failed}
use Rattle.radio_source.specs.Place.{Place, after, data_of, has_ended, fault_at}
use Rattle.radio_blocks.specs.Cutting.{blocks_of}

-- a body between two feeds: the place after the bytes so far, and what its feeds have answered
pub record Feeding : Type 0 where
  pub place : Place
  -- a feed has answered that the body is complete
  pub is_end_told : Bool
  -- a feed has answered a fault
  pub has_failed : Bool

-- a body before its first feed
abbrev pub unfed : Place → Feeding
unfed place = record { place = place; is_end_told = false; has_failed = false }

-- the answer of a feed
pub data Answer : Type 0 where
  -- blocks of data, and whether the body's end came
  Brings : List (List ℕ) → Bool → Answer
  Refuses : BodyFault → Answer

-- the data and the end come before a fault: it is answered by a feed that meets neither
abbrev pub answer_with : List (List ℕ) → Bool → Option BodyFault → Answer
answer_with blocks is_complete None = Brings blocks is_complete
answer_with [] false (Some fault) = Refuses fault
answer_with [] true (Some fault) = Brings [] true
answer_with (block ∷ blocks) is_complete (Some fault) = Brings (block ∷ blocks) is_complete

-- the body's end came, and did not come before
abbrev pub body_ends_in : Feeding → List ℕ → Bool
body_ends_in body piece = has_ended (after body.place piece) && not body.is_end_told

-- what a feed answers
-- rule: Feed
unfoldable pub answer_to : Feeding → List ℕ → Answer
answer_to body piece =
    if body.has_failed then Refuses Failed
    else answer_with (blocks_of (data_of body.place piece)) (body_ends_in body piece) (fault_at (after body.place piece))

abbrev pub is_refusal : Answer → Bool
is_refusal (Brings blocks is_complete) = false
is_refusal (Refuses fault) = true

-- the body after a feed: one that has failed stays as it is
-- rule: Feed
unfoldable pub after_feed : Feeding → List ℕ → Feeding
after_feed body piece =
    if body.has_failed then body
    else record {
      place = after body.place piece;
      is_end_told = body.is_end_told || has_ended (after body.place piece);
      has_failed = is_refusal (answer_to body piece);
    }
