-- What is pulled in, by what a head is read as.
use Rattle.std.proofs.Common.{◌≡◌, ℕ, List, [], ◌++◌, map, ap, sym, ◌∙◌, refl, Result, Ok, Err}
use Rattle.radio_relay.proofs.Words.{IfOk, More, IsReading, ShowsResponse, PullItem, Sound, PullStage, Head, Behind, PulledStream, goes_on, stream_pulled, stream_parts, after_bytes, Gathered, nothing_gathered, all_items}
use Rattle.radio_relay.proofs.Words.{with_parts, items_of, GivesItems}
use Rattle.radio_blocks.specs.Cutting.{blocks_of}

-- no parts are no items
pub items_of-none : blocks_of [] ≡ [] → items_of [] ≡ []
items_of-none none = ap (λ (blocks : List (List ℕ)). map Sound blocks) none

-- a head that has not ended is answered by nothing, and its bytes are held
pub answered-more : (held bytes all kept : List ℕ) (items : List PullItem) → blocks_of [] ≡ [] → items ≡ [] → all ≡ held ++ bytes → kept ≡ held ++ bytes
    → IsReading ShowsResponse all (Ok More) → GivesItems (Head held) bytes items (Head kept)
answered-more held bytes all kept items none empty together same reading = (
  goes_on [] (Head (held ++ bytes)),
  (Ok More, rw together at reading, refl),
  record { brought = empty ∙ sym (items_of-none none); goes_on = rw same refl },
)

-- bytes of a stream are answered by the items that they bring
pub answered-stream : {X E : Type 0} (r : Result X E) (items : X → List PullItem) (stage : X → PullStage) (old : PullStage) (stream : PulledStream) (bytes : List ℕ)
    (start : Gathered) → old ≡ Behind stream → start ≡ nothing_gathered
    → IfOk r (λ x. items x ≡ all_items (with_parts start (stream_parts stream bytes))) → IfOk r (λ x. stage x ≡ Behind (after_bytes stream bytes))
    → IfOk r (λ x. GivesItems old bytes (items x) (stage x))
answered-stream (Ok x) items stage old stream bytes start at none brought after =
    rw at (
      stream_pulled [] stream bytes,
      refl,
      record {
        brought = brought ∙ ap (λ (g : Gathered). all_items (with_parts g (stream_parts stream bytes))) none;
        goes_on = rw after refl;
      },
    )
answered-stream (Err e) items stage old stream bytes start at none brought after = tt
