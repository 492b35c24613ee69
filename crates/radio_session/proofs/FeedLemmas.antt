-- What a body's answer to a feed says of its place.
use Rattle.std.proofs.Common.{◌≡◌, ℕ, Bool, true, false, List, [], ◌∷◌, Option, None, Some, refl, ap, sym, ◌∙◌}
use Rattle.std.proofs.Math.Bool.{and-true, false-or}
use Rattle.radio_blocks.specs.Cutting.{blocks_of}
use Rattle.radio_source.specs.declared.fault.BodyFault.{BodyFault}
use Rattle.radio_source.specs.Place.{Place, after, data_of, has_ended, fault_at}
use Rattle.radio_source.specs.Feeding.{Feeding, unfed, Answer, Brings, Refuses, answer_with, answer_to, after_feed, is_refusal}
use Rattle.radio_session.specs.declared.session.LastWord.TheVariants.{Complete, Faulty}
use Rattle.radio_session.specs.Hearing.{body_closes}

-- an answer with blocks
brings : (B blocks : List (List ℕ)) (ended is_complete : Bool) (fault : Option BodyFault) → answer_with B ended fault ≡ Brings blocks is_complete
    → (blocks ≡ B) × (is_complete ≡ ended)
brings B blocks ended is_complete None e = (cc, cc)
brings [] blocks false is_complete (Some fault) e = cc
brings [] blocks true is_complete (Some fault) e = (cc, cc)
brings (b ∷ B) blocks ended is_complete (Some fault) e = (cc, cc)

-- an answer with a fault
refuses : (B : List (List ℕ)) (ended : Bool) (fault : Option BodyFault) (named : BodyFault) → answer_with B ended fault ≡ Refuses named → (B ≡ [])
    × (body_closes ended fault ≡ Some Faulty)
refuses B ended None named e = cc
refuses [] false (Some fault) named e = (refl, refl)
refuses [] true (Some fault) named e = cc
refuses (b ∷ B) ended (Some fault) named e = cc

-- an answer with nothing, before the end
brings_nothing : (blocks : List (List ℕ)) (is_complete : Bool) (fault : Option BodyFault) → answer_with [] false fault ≡ Brings blocks is_complete
    → body_closes false fault ≡ None
brings_nothing blocks is_complete None e = refl
brings_nothing blocks is_complete (Some fault) e = cc

module _ (place : Place) (bytes : List ℕ) where
  answered : answer_to (unfed place) bytes ≡ answer_with (blocks_of (data_of place bytes)) (has_ended (after place bytes)) (fault_at (after place bytes))
  unfolding answer_to
  answered =
      ap (λ (ended : Bool). answer_with (blocks_of (data_of place bytes)) ended (fault_at (after place bytes))) (and-true (has_ended (after place bytes)))

  -- the data of the feed, and whether the body ended in it
  pub brought : (blocks : List (List ℕ)) (is_complete : Bool) → answer_to (unfed place) bytes ≡ Brings blocks is_complete
      → (blocks ≡ blocks_of (data_of place bytes)) × (is_complete ≡ has_ended (after place bytes))
  brought blocks is_complete e =
      brings (blocks_of (data_of place bytes)) blocks (has_ended (after place bytes)) is_complete (fault_at (after place bytes)) (sym answered ∙ e)

  pub closed_whole : (blocks : List (List ℕ)) → answer_to (unfed place) bytes ≡ Brings blocks true
      → Some Complete ≡ body_closes (has_ended (after place bytes)) (fault_at (after place bytes))
  closed_whole blocks e =
      ap (λ (ended : Bool). body_closes ended (fault_at (after place bytes))) (brought blocks true e).1

  pub closed_faulty : (named : BodyFault) → answer_to (unfed place) bytes ≡ Refuses named → ([] ≡ blocks_of (data_of place bytes))
      × (Some Faulty ≡ body_closes (has_ended (after place bytes)) (fault_at (after place bytes)))
  closed_faulty named e =
      let r = refuses (blocks_of (data_of place bytes)) (has_ended (after place bytes)) (fault_at (after place bytes)) named (sym answered ∙ e) in
      (sym r.0, sym r.1)

  -- a body that has not ended goes on
  pub goes_on : (blocks : List (List ℕ)) → answer_to (unfed place) bytes ≡ Brings blocks false → after_feed (unfed place) bytes ≡ unfed (after place bytes)
  unfolding after_feed
  goes_on blocks e =
      ap (λ (ended : Bool). let f : Feeding = record {
        place = after place bytes;
        is_end_told = ended;
        has_failed =
            is_refusal (answer_to (unfed place) bytes);
      } in f)
      (false-or (has_ended (after place bytes)) ∙ sym (brought blocks false e).1)
      ∙ ap (λ (answer : Answer). let f : Feeding = record { place = after place bytes; is_end_told = false; has_failed = is_refusal answer } in f) e

module _ (place : Place) (unended : has_ended place ≡ false) where
  answered_nothing : answer_to (unfed place) [] ≡ answer_with [] false (fault_at place)
  unfolding blocks_of
  answered_nothing = answered place [] ∙ ap (λ (ended : Bool). answer_with [] ended (fault_at place)) unended

  -- if an empty feed is taken, the body has no fault
  pub faultless : (blocks : List (List ℕ)) (is_complete : Bool) → answer_to (unfed place) [] ≡ Brings blocks is_complete
      → None ≡ body_closes false (fault_at place)
  faultless blocks is_complete e = sym (brings_nothing blocks is_complete (fault_at place) (sym answered_nothing ∙ e))

  -- if an empty feed is refused, the body has a fault
  pub faulty : (named : BodyFault) → answer_to (unfed place) [] ≡ Refuses named → Some Faulty ≡ body_closes false (fault_at place)
  faulty named e = sym (refuses [] false (fault_at place) named (sym answered_nothing ∙ e)).1

  pub same_after : (blocks : List (List ℕ)) (is_complete : Bool) → answer_to (unfed place) [] ≡ Brings blocks is_complete
      → after_feed (unfed place) [] ≡ unfed place
  same_after blocks is_complete e =
      goes_on place [] blocks (e ∙ ap (λ (c : Bool). Brings blocks c) ((brought place [] blocks is_complete e).1 ∙ unended))
