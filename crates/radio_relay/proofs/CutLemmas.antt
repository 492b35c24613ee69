-- However an answer is cut, the same is pulled in.
use Rattle.std.proofs.Common.{◌≡◌, ℕ, List, [], ◌∷◌, ◌++◌, drop, ap, sym}
use Rattle.std.proofs.Common.{◌∙◌, refl, subst, inl, inr, Option, Result, Ok, Err, IsErr, append_assoc, append-nil, arith}
use Rattle.radio_relay.proofs.Words.{flat_map-append, drop-append-le, map-append, concat, Progress, More, Whole, IsReading, ResponseParts, ShowsResponse, ReadingsAgree, IsStableReading, HeadsLieWithin, Unweaving}
use Rattle.radio_relay.proofs.Words.{atoms_of_piece, after_feeding, heard_by_pieces, after_pieces, PullStage, Head, Behind, Over, PulledStream, interval_in, shown_in_response, PulledPart, ShownPart, SoundPart}
use Rattle.radio_relay.proofs.Words.{parts_of_atom, parts_heard, stream_parts, after_bytes, stream_with, PullProgress, GoesOn, Stops, Pulled, goes_on, stream_pulled, pulled_by_interval, answer_pulled, pulled_as}
use Rattle.radio_relay.proofs.Words.{IsPulled, IsPulledAt}
use Rattle.radio_heads.specs.declared.outcome.HeadFault.{HeadFault}
use Rattle.radio_relay.specs.declared.fault.PullFault.{PullFault}
use Rattle.radio_relay.specs.declared.stream.PulledStream.TheVariants.{Plain, Woven}
use Rattle.radio_relay.specs.Cuts.{behind, Continues, IsPulledIn, PiecesArePulledAsOne, PullingIsOne}

-- two faults pull in the same
faults-alike : (bytes : List ℕ) (r s : Result (Progress ResponseParts) HeadFault) → IsErr r → IsErr s → pulled_as bytes r ≡ pulled_as bytes s
faults-alike bytes (Err e) (Err f) h k = refl
faults-alike bytes (Err e) (Ok p) h k = cc
faults-alike bytes (Ok p) s h k = cc

-- what some bytes pull in is one thing
pub readings-alike : ReadingsAgree ShowsResponse → (bytes : List ℕ) (r s : Result (Progress ResponseParts) HeadFault)
    → IsReading ShowsResponse bytes r → IsReading ShowsResponse bytes s → pulled_as bytes r ≡ pulled_as bytes s
readings-alike agree bytes r s p q = elim (agree bytes r s p q) [
  | inl same ↦ ap (pulled_as bytes) same
  | inr faults ↦ faults-alike bytes r s faults.0 faults.1
]

pub pulling_is_one : ReadingsAgree ShowsResponse → PullingIsOne
pulling_is_one agree bytes one other h k = h.2 ∙ readings-alike agree bytes h.0 k.0 h.1 k.1 ∙ sym k.2

-- no bytes are no head yet
nothing_came : IsReading ShowsResponse [] (Ok More)
nothing_came = record { open_end = λ place end ends. let is = ends.line in cc; room = omega arith }

-- pieces are read as their bytes are
abbrev pub HeardInPieces : Type 0
HeardInPieces = (u : Unweaving) (pieces : List (List ℕ)) → heard_by_pieces u pieces ≡ atoms_of_piece u (concat pieces)

abbrev pub AfterPieces : Type 0
AfterPieces = (u : Unweaving) (pieces : List (List ℕ)) → after_pieces u pieces ≡ after_feeding u (concat pieces)

module _ (in_pieces : HeardInPieces) (after : AfterPieces) where
  pub parts-cut : (stream : PulledStream) (one two : List ℕ) → stream_parts stream (one ++ two) ≡ stream_parts stream one ++ stream_parts (after_bytes stream one) two
  parts-cut Plain one two = map-append (λ b. SoundPart b) one two
  parts-cut (Woven reader) one two =
      let first = atoms_of_piece reader one in
      let second = atoms_of_piece (after_feeding reader one) two in
      let joined : atoms_of_piece reader (one ++ two) ≡ first ++ second =
      ap (λ (bytes : List ℕ). atoms_of_piece reader (one ++ bytes)) (sym (append-nil two)) ∙ sym (in_pieces reader (one ∷ two ∷ []))
      ∙ ap (λ atoms. first ++ atoms) (append-nil second) in
      ap parts_heard joined ∙ flat_map-append parts_of_atom first second

  pub after-cut : (stream : PulledStream) (one two : List ℕ) → after_bytes stream (one ++ two) ≡ after_bytes (after_bytes stream one) two
  after-cut Plain one two = refl
  after-cut (Woven reader) one two =
      ap Woven (ap (λ (bytes : List ℕ). after_feeding reader (one ++ bytes)) (sym (append-nil two)) ∙ sym (after reader (one ∷ two ∷ [])))

  -- bytes of a stream in two pieces
  stream-cut : (before : List PulledPart) (stream : PulledStream) (one two : List ℕ) (Next : PullStage → Pulled → Type 0) (cut : Pulled)
      → ((stage : PullStage) (rest : Pulled) → Next stage rest → IsPulledAt stage two rest)
      → Continues (before ++ stream_parts stream one) (GoesOn (Behind (after_bytes stream one))) Next cut
      → cut ≡ stream_pulled before stream (one ++ two)
  stream-cut before stream one two Next cut next (rest, h, e) =
      let first = stream_parts stream one in
      let second = stream_parts (after_bytes stream one) two in
      let late : rest ≡ stream_pulled [] (after_bytes stream one) two = next (Behind (after_bytes stream one)) rest h in
      let parts : (before ++ first) ++ second ≡ before ++ stream_parts stream (one ++ two) =
      append_assoc before first second ∙ ap (λ (parts : List PulledPart). before ++ parts) (sym (parts-cut stream one two)) in
      e ∙ ap (behind (before ++ first)) late
      ∙ ap (λ (parts : List PulledPart). goes_on parts (Behind (after_bytes (after_bytes stream one) two))) parts
      ∙ ap (λ (s : PulledStream). goes_on (before ++ stream_parts stream (one ++ two)) (Behind s)) (sym (after-cut stream one two))

  -- bytes behind a head in two pieces
  answer-cut : (head : ResponseParts) (interval : Result (Option ℕ) PullFault) (one two : List ℕ) (Next : PullStage → Pulled → Type 0) (cut : Pulled)
      → ((stage : PullStage) (rest : Pulled) → Next stage rest → IsPulledAt stage two rest)
      → Continues (pulled_by_interval head one interval).parts (pulled_by_interval head one interval).standing Next cut
      → cut ≡ pulled_by_interval head (one ++ two) interval
  answer-cut head (Err fault) one two Next cut next e = e
  answer-cut head (Ok interval) one two Next cut next e = stream-cut (ShownPart (shown_in_response head) ∷ []) (stream_with interval) one two Next cut next e

  module _ (settled : IsStableReading ShowsResponse) (fits : HeadsLieWithin ShowsResponse) where
    -- a head in two pieces, by what the first is read as
    head-cut : (held one two : List ℕ) (r : Result (Progress ResponseParts) HeadFault) (Next : PullStage → Pulled → Type 0) (cut : Pulled)
        → IsReading ShowsResponse (held ++ one) r → ((stage : PullStage) (rest : Pulled) → Next stage rest → IsPulledAt stage two rest)
        → Continues (pulled_as (held ++ one) r).parts (pulled_as (held ++ one) r).standing Next cut → IsPulled (held ++ (one ++ two)) cut
    head-cut held one two (Ok More) Next cut read next (rest, h, e) =
        let late : IsPulled ((held ++ one) ++ two) rest = next (Head (held ++ one)) rest h in
        rw e (subst (λ (bytes : List ℕ). IsPulled bytes rest) (append_assoc held one two) late)
    head-cut held one two (Ok (Whole head n)) Next cut read next c =
        let bytes = held ++ one in
        let longer : IsReading ShowsResponse (bytes ++ two) (Ok (Whole head n)) = settled bytes two (Ok (Whole head n)) read (λ e. cc) in
        let same = append_assoc held one two in
        let rest : drop n (held ++ (one ++ two)) ≡ drop n bytes ++ two = ap (drop n) (sym same) ∙ drop-append-le n bytes two (fits bytes head n read) in (
          Ok (Whole head n),
          subst (λ (xs : List ℕ). IsReading ShowsResponse xs (Ok (Whole head n))) same longer,
          answer-cut head (interval_in head) (drop n bytes) two Next cut next c ∙ ap (answer_pulled head) (sym rest),
        )
    head-cut held one two (Err fault) Next cut read next c =
        let longer : IsReading ShowsResponse ((held ++ one) ++ two) (Err fault) = settled (held ++ one) two (Err fault) read (λ e. cc) in
        (Err fault, subst (λ (xs : List ℕ). IsReading ShowsResponse xs (Err fault)) (append_assoc held one two) longer, c)

    -- two pieces at any stage
    stage-cut : (stage : PullStage) (one two : List ℕ) (first : Pulled) (Next : PullStage → Pulled → Type 0) (cut : Pulled) → IsPulledAt stage one first
        → ((stage : PullStage) (rest : Pulled) → Next stage rest → IsPulledAt stage two rest) → Continues first.parts first.standing Next cut
        → IsPulledAt stage (one ++ two) cut
    stage-cut (Head held) one two first Next cut h next c =
        head-cut held one two h.0 Next cut h.1 next (subst (λ (p : Pulled). Continues p.parts p.standing Next cut) h.2 c)
    stage-cut (Behind stream) one two first Next cut h next c =
        stream-cut [] stream one two Next cut next (subst (λ (p : Pulled). Continues p.parts p.standing Next cut) h c)
    stage-cut Over one two first Next cut h next c = subst (λ (p : Pulled). Continues p.parts p.standing Next cut) h c

    -- no bytes at the end
    at_end : (first cut : Pulled) → Continues first.parts first.standing (IsPulledIn []) cut → (standing : PullProgress) → first.standing ≡ standing → cut ≡ first
    at_end first cut c (GoesOn stage) is =
        let d : Continues first.parts (GoesOn stage) (IsPulledIn []) cut = subst (λ s. Continues first.parts s (IsPulledIn []) cut) is c in
        d.2 ∙ ap (behind first.parts) d.1
        ∙ ap (λ (parts : List PulledPart). goes_on parts stage) (append-nil first.parts)
        ∙ ap (λ (s : PullProgress). record first { standing = s }) (sym is)
    at_end first cut c (Stops fault) is =
        let d : Continues first.parts (Stops fault) (IsPulledIn []) cut = subst (λ s. Continues first.parts s (IsPulledIn []) cut) is c in
        d ∙ ap (λ (s : PullProgress). record first { standing = s }) (sym is)

    in_order : (piece : List ℕ) (pieces : List (List ℕ)) (stage : PullStage) (cut : Pulled) → IsPulledIn (piece ∷ pieces) stage cut
        → IsPulledAt stage (concat (piece ∷ pieces)) cut
    in_order piece [] stage cut (first, h, c) =
        let same = at_end first cut c first.standing refl in
        subst (λ (p : Pulled). IsPulledAt stage (piece ++ []) p) (sym same) (rw append-nil h)
    in_order piece (other ∷ pieces) stage cut (first, h, c) =
        stage-cut stage piece (concat (other ∷ pieces)) first (IsPulledIn (other ∷ pieces)) cut h (λ late rest k. in_order other pieces late rest k) c

    module _ (agree : ReadingsAgree ShowsResponse) where
      pub cuts_do_not_matter : PiecesArePulledAsOne
      cuts_do_not_matter [] cut whole h w = h ∙ sym (w.2 ∙ readings-alike agree [] w.0 (Ok More) w.1 nothing_came)
      cuts_do_not_matter (piece ∷ pieces) cut whole h w =
          pulling_is_one agree (concat (piece ∷ pieces)) cut whole (in_order piece pieces (Head []) cut h) w
