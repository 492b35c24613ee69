-- What all mounts have in common follows from the entries of the control's list.
use Rattle.std.proofs.Common.{◌≡◌, ℕ, Bool, true, false, Option, None, Some, inl, inr, List, [], ◌∷◌, ◌++◌, Result, Ok, Err, IfOk, OnOk, OnErr, refl, ap, sym, subst, ◌∙◌}
use Rattle.radio_book.proofs.Words.{MatchOption, append-nil, AllocError, IsLentTo, ControlLine, Cut, Made, entry, Event, Reply, World, MountPart, entries_in, AreWantedOver, AreWantedThere, CanBe, HasNoPass}
use Rattle.radio_book.proofs.Words.{IsControlLent, IsControlReply, IsMadeByEntries, IsOpening, WasThere, AreBack, AreLent, ControlState, IsBack, IsControlAsBefore, IsControlStep, IsLentOrStays, IsRefused, with_moment}
use Rattle.radio_book.proofs.Words.{with_mount_part, AreCuts, BookOfMount}
use Rattle.std.proofs.Math.Logic.{∥∥₁_map}
use Rattle.radio_parts.specs.CanStep.{CanStep}
use Rattle.radio_parts.specs.Common.{Common, common_after, common_by, common_of}
use Rattle.radio_parts.specs.ControlSteps.{control_after, control_reply}
use Rattle.radio_events.specs.declared.entry.Entry.{Entry}
use Rattle.radio_parts_station.specs.StationState.{StationState}
use Rattle.radio_seats_rows.specs.Seats.{last_mount_of}
use Rattle.radio_parts.specs.Lending.{IsTakenOut}
use Rattle.radio_parts_facts.specs.Wanted.{wanted}
use Rattle.radio_book.specs.Clocks.{LeavesParts}
use Rattle.radio_book.specs.ControlLists.CanBe.{opens, stays, steps}

exchanged_common : (part there : MountPart) (before after : World) → IsLentTo part there before after → common_of after ≡ common_of before
exchanged_common part there before after is = ap (λ (station : StationState). common_of (record after { station = station })) is.station

lent_common : (reached : Bool) (book lent : BookOfMount) (before after : World) → IsLentOrStays reached book lent before after → common_of after ≡ common_of before
lent_common reached book lent before after (inl is) = ap common_of is.1
lent_common reached book lent before after (inr is) = exchanged_common is.0 is.1 before after is.4

all_lent_common : (reached : Bool) (books lent : List BookOfMount) (before after : World) → AreLent reached books lent before after → common_of after ≡ common_of before
all_lent_common reached [] [] before after are = ap common_of are
all_lent_common reached [] (one ∷ lent) before after are = absurd are
all_lent_common reached (book ∷ books) [] before after are = absurd are
all_lent_common reached (book ∷ books) (one ∷ lent) before after are =
    all_lent_common reached books lent are.0 after are.2 ∙ lent_common reached book one before are.0 are.1

back_common : (lent back : BookOfMount) (before after : World) → IsBack lent back before after → common_of after ≡ common_of before
back_common lent back before after (inl is) = ap common_of is.1
back_common lent back before after (inr is) = let out = is.2 in exchanged_common out.0 is.0 before after out.2

all_back_common : (lent back : List BookOfMount) (before after : World) → AreBack lent back before after → common_of after ≡ common_of before
all_back_common [] [] before after are = ap common_of are
all_back_common [] (book ∷ back) before after are = absurd are
all_back_common (one ∷ lent) [] before after are = absurd are
all_back_common (one ∷ lent) (book ∷ back) before after are =
    all_back_common lent back are.0 after are.2 ∙ back_common one book before are.0 are.1

pub stepped_common : (books back : List BookOfMount) (before after : World) (event : Event) (reply : Reply) → IsControlStep books before event reply back after
    → common_of after ≡ common_after (common_of before) event reply
stepped_common books back before after event reply is =
    all_back_common is.lent back is.later after is.takes_back
    ∙ is.common
    ∙ ap (λ (common : Common). common_after common event reply) (all_lent_common is.reached books is.lent before is.whole is.lends)

pub as_before_common : (books back : List BookOfMount) (before after : World) → IsControlAsBefore books before back after → common_of after ≡ common_of before
as_before_common books back before after is =
    all_back_common is.lent back is.whole after is.takes_back ∙ all_lent_common is.reached books is.lent before is.whole is.lends

-- the control's step over what it was lent, which is taken back then
pub stepped_over : (books lent back : List BookOfMount) (before whole later after : World) (event : Event) (reached : Bool) (result : Result Reply AllocError)
    → (reached ≡ false → LeavesParts before.station.settings books event) → AreLent reached books lent before whole → AreBack lent back later after
    → (CanStep whole event → IfOk result (λ reply. reply ≡ control_reply whole event)) → (CanStep whole event → OnOk result (later ≡ control_after whole event))
    → IfOk result (λ reply. common_of later ≡ common_after (common_of whole) event reply)
    → IfOk result (λ reply. IsControlStep books before event reply back after)
stepped_over books lent back before whole later after event reached (Err refused) leaves lends takes_back told ok common = tt
stepped_over books lent back before whole later after event reached (Ok reply) leaves lends takes_back told ok common =
    record { lent = lent; whole = whole; later = later; reached = reached; leaves = leaves; lends = lends; replied = told; changed = ok; common = common; takes_back = takes_back }

-- the control was refused memory, and what it was lent is taken back
pub refused_over : (books lent back : List BookOfMount) (before whole later after : World) (reached : Bool) (result : Result Reply AllocError)
    → AreLent reached books lent before whole → AreBack lent back later after → OnErr result (later ≡ whole) → OnErr result (IsControlAsBefore books before back after)
refused_over books lent back before whole later after reached (Ok reply) lends takes_back err = tt
refused_over books lent back before whole later after reached (Err refused) lends takes_back err =
    record { lent = lent; whole = whole; reached = reached; lends = lends; takes_back = subst (λ (w : World). AreBack lent back w after) err takes_back }

refused_common : (books back : List BookOfMount) (before after : World) → IsRefused books before back after → common_of after ≡ common_of before
refused_common books back before after (inl is) = ap common_of is.1
refused_common books back before after (inr is) = as_before_common books back before after is

one_more : (common : Common) (entries : List Entry) (last : Entry)
    → common_by common (entries ++ last ∷ []) ≡ common_after (common_by common entries) last.event last.reply
one_more common [] last = refl
one_more common (first ∷ entries) last = one_more (common_after common first.event first.reply) entries last

entries_append : (lines others : List ControlLine) → entries_in (lines ++ others) ≡ entries_in lines ++ entries_in others
entries_append [] others = refl
entries_append (Cut list from to ∷ lines) others = entries_append lines others
entries_append (Made made ∷ lines) others = ap (λ (rest : List Entry). made ∷ rest) (entries_append lines others)

no_entries : (books : List BookOfMount) (cuts : List ControlLine) → AreCuts books cuts → entries_in cuts ≡ []
no_entries [] [] are = refl
no_entries [] (line ∷ cuts) are = absurd are
no_entries (book ∷ books) [] are = absurd are
no_entries (book ∷ books) (Cut list from to ∷ cuts) are = no_entries books cuts are.1
no_entries (book ∷ books) (Made made ∷ cuts) are = absurd are.0

-- cuts were noted, and then an entry
pub noted_entries : (lines cuts : List ControlLine) (books : List BookOfMount) (made : Entry) → AreCuts books cuts
    → entries_in ((lines ++ cuts) ++ Made made ∷ []) ≡ entries_in lines ++ made ∷ []
noted_entries lines cuts books made are =
    entries_append (lines ++ cuts) (Made made ∷ [])
    ∙ ap (λ (front : List Entry). front ++ made ∷ [])
    (entries_append lines cuts ∙ ap (λ (rest : List Entry). entries_in lines ++ rest) (no_entries books cuts are) ∙ append-nil (entries_in lines))

-- a part was taken out, or none
abbrev TakenBack : World → World → Type 0
TakenBack before after = (books : List BookOfMount) × (back : List BookOfMount) × IsControlAsBefore books before back after

nothing_lent : (before after : World) → after ≡ before → TakenBack before after
nothing_lent before after same = ([], [], record { lent = []; whole = before; reached = false; lends = refl; takes_back = same })

pub taken_back : (mount : List ℕ) (before after : World) (result : Result (Option MountPart) AllocError)
    → IfOk result (λ out. MatchOption out (after ≡ before) (λ part. IsTakenOut mount part before after)) → OnErr result (after ≡ before)
    → TakenBack before after
taken_back mount before after (Err refused) out err = nothing_lent before after err
taken_back mount before after (Ok None) out err = nothing_lent before after out
taken_back mount before after (Ok (Some part)) out err =
    let without : BookOfMount = record { mount = mount; list = 0; part = None; moment = 0; queue = 0 } in
    let back = with_mount_part (Some part) (with_moment before.station.time without) in (
      without ∷ [],
      back ∷ [],
      record {
        lent = without ∷ [];
        whole = before;
        reached = false;
        lends = (before, inl (refl, refl, λ its has reached. let no : false ≡ true = reached in cc), refl);
        takes_back = (after, inr (part, refl, out), refl);
      },
    )

-- the mounts are wanted by the control over what it is lent
pub wanted_over : {A E : Type 0} (names : A → List (List ℕ)) (books lent : List BookOfMount) (before whole : World) (result : Result A E)
    → AreLent true books lent before whole → IfOk result (λ mounts. names mounts ≡ wanted whole) → IfOk result (λ mounts. AreWantedOver books before (names mounts))
wanted_over names books lent before whole (Err refused) lends are = tt
wanted_over names books lent before whole (Ok mounts) lends are = record { lent = lent; whole = whole; lends = lends; are = are }

module _ (keeps : Bool) (opening : World) where
  pub made_first : (control : World) → control ≡ opening → IsOpening opening → ∥ IsMadeByEntries keeps opening [] control ∥₁
  made_first control first opened =
      let made : IsMadeByEntries keeps opening [] control = record {
        entries = [];
        common = ap common_of first;
        kept = λ keeps_them. refl;
        comes = subst (CanBe opening) (sym first) (opens opened);
      } in ∣ made ∣₁

  -- nothing was noted, and nothing has happened
  pub made_still : (lines lines' : List ControlLine) (books back : List BookOfMount) (before after : World) → lines' ≡ lines
      → IsControlAsBefore books before back after → ∥ IsMadeByEntries keeps opening lines before ∥₁ → ∥ IsMadeByEntries keeps opening lines' after ∥₁
  made_still lines lines' books back before after same as_before by_entries =
      ∥∥₁_map by_entries (λ (t : IsMadeByEntries keeps opening lines before).
      let still : IsMadeByEntries keeps opening lines' after = record {
        entries = t.entries;
        common = as_before_common books back before after as_before ∙ t.common;
        kept = λ kept. ap entries_in same ∙ t.kept kept;
        comes = stays before after t.comes books back as_before;
      } in still)

  -- an entry was made
  pub made_more : (lines lines' : List ControlLine) (books back : List BookOfMount) (before after : World) (made : Entry)
      → IsControlStep books before made.event made.reply back after → (keeps ≡ true → entries_in lines' ≡ entries_in lines ++ made ∷ [])
      → ∥ IsMadeByEntries keeps opening lines before ∥₁ → ∥ IsMadeByEntries keeps opening lines' after ∥₁
  made_more lines lines' books back before after made step noted by_entries =
      ∥∥₁_map by_entries (λ (t : IsMadeByEntries keeps opening lines before).
      let more : IsMadeByEntries keeps opening lines' after = record {
        entries = t.entries ++ made ∷ [];
        common =
            stepped_common books back before after made.event made.reply step
            ∙ ap (λ (c : Common). common_after c made.event made.reply) t.common
            ∙ sym (one_more (common_of opening) t.entries made);
        kept = λ kept. noted kept ∙ ap (λ (front : List Entry). front ++ made ∷ []) (t.kept kept);
        comes = steps before after t.comes books back made.event made.reply step;
      } in more)

  -- an event was answered over what was lent, or memory was refused; nothing is stored
  pub made_unkept : (lines : List ControlLine) (books back : List BookOfMount) (before after : World) (event : Event) (result : Result Reply AllocError)
      → keeps ≡ false → IfOk result (λ reply. IsControlStep books before event reply back after) → OnErr result (IsControlAsBefore books before back after)
      → ∥ IsMadeByEntries keeps opening lines before ∥₁ → ∥ IsMadeByEntries keeps opening lines after ∥₁
  made_unkept lines books back before after event (Ok reply) unkept step err by_entries =
      made_more lines lines books back before after (entry event reply) step (λ kept. let both : true ≡ false = sym kept ∙ unkept in cc) by_entries
  made_unkept lines books back before after event (Err refused) unkept step err by_entries =
      made_still lines lines books back before after refl err by_entries

  -- the mounts are wanted by a control that its entries have made
  pub legal_wanted : {A E : Type 0} (names : A → List (List ℕ)) (lines : List ControlLine) (books lent : List BookOfMount) (before whole : World) (result : Result A E)
      → AreLent true books lent before whole → IfOk result (λ mounts. names mounts ≡ wanted whole) → ∥ IsMadeByEntries keeps opening lines before ∥₁
      → IfOk result (λ mounts. ∥ AreWantedThere opening (names mounts) ∥₁)
  legal_wanted names lines books lent before whole (Err refused) lends are by_entries = tt
  legal_wanted names lines books lent before whole (Ok mounts) lends are by_entries =
      ∥∥₁_map by_entries (λ (t : IsMadeByEntries keeps opening lines before).
      let is : IsControlLent opening whole = record { entries = t.entries; control = before; common = t.common; comes = t.comes; books = books; lent = lent; reached = true; lends = lends } in
      let wants : AreWantedThere opening (names mounts) = record { whole = whole; is = is; reached = refl; are = are } in wants)

  -- the reply is that of a control that its entries have made
  pub legal_reply : (lines : List ControlLine) (books back : List BookOfMount) (before after : World) (event : Event) (result : Result Reply AllocError)
      → IfOk result (λ reply. IsControlStep books before event reply back after)
      → ∥ IsMadeByEntries keeps opening lines before ∥₁ → IfOk result (λ reply. ∥ IsControlReply opening event reply ∥₁)
  legal_reply lines books back before after event (Err refused) step by_entries = tt
  legal_reply lines books back before after event (Ok reply) step by_entries =
      ∥∥₁_map by_entries (λ (t : IsMadeByEntries keeps opening lines before).
      let lent : IsControlLent opening step.whole = record { entries = t.entries; control = before; common = t.common; comes = t.comes; books = books; lent = step.lent; reached = step.reached; lends = step.lends } in
      let is : IsControlReply opening event reply = record { whole = step.whole; is = lent; leaves = step.leaves; replied = step.replied } in is)

  -- the listener was there, as a control has it that its entries have made
  pub legal_last : (lines : List ControlLine) (control : World) (id : ℕ) (mount : Option (List ℕ)) → mount ≡ last_mount_of control.seats id
      → ∥ IsMadeByEntries keeps opening lines control ∥₁ → ∥ WasThere opening id mount ∥₁
  legal_last lines control id mount was by_entries =
      ∥∥₁_map by_entries (λ (t : IsMadeByEntries keeps opening lines control).
      let there : WasThere opening id mount = record { entries = t.entries; control = control; common = t.common; comes = t.comes; was = was } in there)

  -- no pass is left
  pub legal_none : (book : ControlState) → book.passes ≡ 0 → ∥ IsMadeByEntries keeps opening book.lines book.control ∥₁ → ∥ HasNoPass keeps opening ∥₁
  legal_none book none by_entries =
      ∥∥₁_map by_entries (λ (t : IsMadeByEntries keeps opening book.lines book.control).
      let has : HasNoPass keeps opening = record { book = book; made = t; none = none } in has)
