-- A source's events and their end are exchanged alike, however its data were cut into blocks.
use Rattle.std.proofs.Common.{◌≡◌, ℕ, List, [], ◌∷◌, ◌++◌, length, ap, sym, ◌∙◌, refl, subst, append_assoc, Option, None, Some, arith}
use Rattle.std.proofs.lemmas.List.{map-append}
use Rattle.std.specs.List.{concat, All}
use Rattle.std.proofs.lemmas.List.Elements.{All-nil, All-head, All-append}
use Rattle.std.proofs.lemmas.List.Folds.{concat-append}
use Rattle.radio_blocks.specs.Block.{IsBlock}
use Rattle.radio_events.specs.declared.event.Event.{Event}
use Rattle.radio_events.specs.declared.event.Event.TheVariants.{Push, SourceEnd}
use Rattle.radio_events.specs.declared.reply.Reply.{Reply}
use Rattle.radio_session.specs.declared.session.LastWord.{LastWord}
use Rattle.radio_session.specs.declared.session.Says.{Says}
use Rattle.radio_events.specs.declared.state.State.{State}
use Rattle.radio_events.specs.declared.state.State.TheVariants.{Running, Shut}
use Rattle.radio_events.specs.declared.state.Ending.{Ending}
use Rattle.radio_session.specs.Saying.{said}
use Rattle.radio_events.specs.Servers.{Steps}
use Rattle.radio_session.specs.Exchanges.{Exchange, prefixed, GoesOn, Exchanges}
use Rattle.radio_session.specs.DataServers.{GoesByData}
use Rattle.radio_session.specs.CutTelling.{AreToldAlike}
use Rattle.radio_session.proofs.ExchangeParts.{FollowsBy, split, join_on, join_shut}
use Rattle.radio_session.proofs.AwaitLemmas.{awaiting, with_closing, free, free_says, awaited, stays_free}
use Rattle.radio_session.proofs.DataLemmas.{ToldAlike, blocks_as, behind_alike}

-- if two parts are empty together, the first is empty
nil_left : (xs ys : List ℕ) → xs ++ ys ≡ [] → xs ≡ []
nil_left [] ys e = refl
nil_left (x ∷ xs) ys e = cc

pub no_blocks : (blocks : List (List ℕ)) → All IsBlock blocks → concat blocks ≡ [] → blocks ≡ []
no_blocks [] valid e = refl
no_blocks (block ∷ blocks) valid e =
    let here = All-head IsBlock block blocks valid in
    let none : length block ≡ 0 = ap length (nil_left block (concat blocks) e) in
    absurd (omega (arith, here.0, none))

-- the events of blocks in two parts are joined
pub blocks_joined : (id : ℕ) (before : List Event) (one two : List (List ℕ))
    → (before ++ blocks_as id one) ++ blocks_as id two ≡ before ++ blocks_as id (one ++ two)
blocks_joined id before one two =
    append_assoc before (blocks_as id one) (blocks_as id two) ∙ ap (λ (es : List Event). before ++ es) (sym (map-append (Push id) one two))

module _ {S : Type 0} (steps : Steps S) (id : ℕ) where
  -- events, and then the last one, while its reply is awaited
  pub record Ended (says : Says) (events : List Event) (word : LastWord) (from : S) (all : Exchange) (to : S) : Type 0 where
    pub x : Exchange
    pub mid : S
    pub alone : Exchanges steps id (free says) events from x mid
    pub goes : x.state ≡ Running → (last : Exchange) × Exchanges steps id (with_closing x.says (awaiting 0 word)) (SourceEnd id ∷ []) mid last to
        × (all.bytes ≡ x.bytes ++ last.bytes) × (all.state ≡ last.state)
    pub shut : (ending : Ending) → x.state ≡ Shut ending → (all.bytes ≡ x.bytes) × (all.state ≡ x.state)

  pub ended : (says : Says) (events : List Event) (word : LastWord) (from : S) (all : Exchange) (to : S)
      → Exchanges steps id (with_closing says (awaiting (length events) word)) (events ++ SourceEnd id ∷ []) from all to → Ended says events word from all to
  ended says events word from all to e =
      let p = split steps id events (SourceEnd id ∷ []) (with_closing says (awaiting (length events) word)) from all to e in
      let a = awaited steps id events says (length events) 0 word from p.x p.mid (omega arith) p.begins in
      record {
        x = a.x;
        mid = p.mid;
        alone = a.alone;
        goes = λ runs.
            let g = subst (λ (state : State). FollowsBy steps id state (SourceEnd id ∷ []) p.x p.mid all to) (a.state ∙ runs) p.follows in (
              g.0,
              subst (λ (s : Says). Exchanges steps id s (SourceEnd id ∷ []) p.mid g.0 to) (a.says_on runs) g.1,
              ap (λ (z : Exchange). z.bytes) g.2 ∙ ap (λ (bytes : List ℕ). bytes ++ g.0.bytes) a.bytes,
              ap (λ (z : Exchange). z.state) g.2,
            );
        shut = λ ending is_shut.
            let g = subst (λ (state : State). FollowsBy steps id state (SourceEnd id ∷ []) p.x p.mid all to) (a.state ∙ is_shut) p.follows in
            (ap (λ (z : Exchange). z.bytes) g.0 ∙ a.bytes, ap (λ (z : Exchange). z.state) g.0 ∙ a.state);
      }

  -- some events, and then the end of the data if a last word is awaited
  abbrev pub Closes : Option LastWord → Says → List Event → S → Exchange → S → Type 0
  Closes None says events from all to = Exchanges steps id (free says) events from all to
  Closes (Some word) says events from all to = Ended says events word from all to

  -- the connection is shut before the end
  pub closes_shut : (word : Option LastWord) (says : Says) (first second : List Event) (from : S) (x : Exchange) (to : S) (ending : Ending)
      → Exchanges steps id (free says) first from x to → x.state ≡ Shut ending → Closes word says (first ++ second) from x to
  closes_shut None says first second from x to ending e shut = join_shut steps id first second (free says) from to x ending e shut
  closes_shut (Some word) says first second from x to ending e shut = record {
    x = x;
    mid = to;
    alone = join_shut steps id first second (free says) from to x ending e shut;
    goes = λ runs. let no : Shut ending ≡ Running = sym shut ∙ runs in cc;
    shut = λ last is_shut. (refl, refl);
  }

  -- after events that leave the connection open
  pub closes_on : (word : Option LastWord) (says : Says) (first second : List Event) (from mid to : S) (x y : Exchange)
      → Exchanges steps id (free says) first from x mid → x.state ≡ Running → Closes word x.says second mid y to
      → Closes word says (first ++ second) from (prefixed x.bytes y) to
  closes_on None says first second from mid to x y e runs f =
      join_on steps id first second (free says) from mid to x y e runs
      (subst (λ (s : Says). Exchanges steps id s second mid y to) (free_says x.says (stays_free steps id first says from x mid e)) f)
  closes_on (Some word) says first second from mid to x y e runs f = record {
    x = prefixed x.bytes f.x;
    mid = f.mid;
    alone =
        join_on steps id first second (free says) from mid f.mid x f.x e runs
        (subst (λ (s : Says). Exchanges steps id s second mid f.x f.mid) (free_says x.says (stays_free steps id first says from x mid e)) f.alone);
    goes = λ on.
        let g = f.goes on in
        (g.0, g.1, ap (λ (bytes : List ℕ). x.bytes ++ bytes) g.2 ∙ sym (append_assoc x.bytes f.x.bytes g.0.bytes), g.3);
    shut = λ ending is_shut.
        let g = f.shut ending is_shut in
        (ap (λ (bytes : List ℕ). x.bytes ++ bytes) g.0, g.1);
  }

  -- data in some blocks, after other events
  pub record InBlocks (says : Says) (before : List Event) (bytes : List ℕ) (word : Option LastWord) (from : S) (all : Exchange) (to : S) : Type 0 where
    pub blocks : List (List ℕ)
    pub valid : All IsBlock blocks
    pub joined : concat blocks ≡ bytes
    pub closes : Closes word says (before ++ blocks_as id blocks) from all to

  -- no data
  pub no_rest : (says : Says) (word : Option LastWord) (from to : S) (x : Exchange) → says.closing ≡ None → word ≡ None
      → Exchanges steps id says [] from x to → InBlocks says [] [] word from x to
  no_rest says word from to x is_free still e = record {
    blocks = [];
    valid = All-nil IsBlock;
    joined = refl;
    closes =
        subst (λ (w : Option LastWord). Closes w says [] from x to) (sym still)
        (subst (λ (s : Says). Exchanges steps id s [] from x to) (sym (free_says says is_free)) e);
  }

  -- the first of the data, and then the rest
  pub blocks_on : (word : Option LastWord) (says : Says) (before : List Event) (first rest : List ℕ) (blocks : List (List ℕ)) (from mid to : S) (x y : Exchange)
      → All IsBlock blocks → concat blocks ≡ first → Exchanges steps id (free says) (before ++ blocks_as id blocks) from x mid → x.state ≡ Running
      → InBlocks x.says [] rest word mid y to → InBlocks says before (first ++ rest) word from (prefixed x.bytes y) to
  blocks_on word says before first rest blocks from mid to x y valid joined e runs later = record {
    blocks = blocks ++ later.blocks;
    valid = All-append IsBlock blocks later.blocks valid later.valid;
    joined = concat-append blocks later.blocks ∙ ap (λ (bytes : List ℕ). bytes ++ concat later.blocks) joined
        ∙ ap (λ (bytes : List ℕ). first ++ bytes) later.joined;
    closes =
        subst (λ (es : List Event). Closes word says es from (prefixed x.bytes y) to) (blocks_joined id before blocks later.blocks)
        (closes_on word says (before ++ blocks_as id blocks) (blocks_as id later.blocks) from mid to x y e runs later.closes);
  }

  -- the first of the data, if the rest are not taken
  pub blocks_shut : (word : Option LastWord) (says : Says) (before : List Event) (first rest : List ℕ) (blocks others : List (List ℕ)) (from to : S)
      (x : Exchange) (ending : Ending)
      → All IsBlock blocks → concat blocks ≡ first → All IsBlock others → concat others ≡ rest
      → Exchanges steps id (free says) (before ++ blocks_as id blocks) from x to → x.state ≡ Shut ending → InBlocks says before (first ++ rest) word from x to
  blocks_shut word says before first rest blocks others from to x ending valid joined valid' joined' e shut = record {
    blocks = blocks ++ others;
    valid = All-append IsBlock blocks others valid valid';
    joined = concat-append blocks others ∙ ap (λ (bytes : List ℕ). bytes ++ concat others) joined ∙ ap (λ (bytes : List ℕ). first ++ bytes) joined';
    closes =
        subst (λ (es : List Event). Closes word says es from x to) (blocks_joined id before blocks others)
        (closes_shut word says (before ++ blocks_as id blocks) (blocks_as id others) from x to ending e shut);
  }

  module _ (server : GoesByData steps id) where
    -- the end of the data gets the same reply
    last_alike : (says : Says) (from other : S) (x y : Exchange) (to end : S) → server.to_end from [] ≡ server.to_end other []
        → Exchanges steps id says (SourceEnd id ∷ []) from x to → Exchanges steps id says (SourceEnd id ∷ []) other y end → (x.bytes ≡ y.bytes)
        × (x.state ≡ y.state)
    last_alike says from other x y to end same e f =
        let reply : f.0 ≡ e.0 = server.at_end other f.1 f.0 f.2 ∙ sym same ∙ sym (server.at_end from e.1 e.0 e.2) in
        let again = subst (λ (r : Reply). GoesOn steps id (said says r).state (SourceEnd id) (said says r) f.1
        (λ z. Exchanges steps id (said says r).says [] f.1 z end) y end) reply f.3 in
        by_state (said says e.0).state e.3 again where
          by_state : (state : State) → GoesOn steps id state (SourceEnd id) (said says e.0) e.1 (λ z. Exchanges steps id (said says e.0).says [] e.1 z to) x to
              → GoesOn steps id state (SourceEnd id) (said says e.0) f.1 (λ z. Exchanges steps id (said says e.0).says [] f.1 z end) y end
              → (x.bytes ≡ y.bytes) × (x.state ≡ y.state)
          by_state Running g h =
              let same : x ≡ y = g.2 ∙ ap (prefixed (said says e.0).bytes) (g.1.0 ∙ sym h.1.0) ∙ sym h.2 in
              (ap (λ (z : Exchange). z.bytes) same, ap (λ (z : Exchange). z.state) same)
          by_state (Shut ending) g h =
              let same : x ≡ y = g.1 ∙ sym h.1 in
              (ap (λ (z : Exchange). z.bytes) same, ap (λ (z : Exchange). z.state) same)

    -- two cuttings of the same data, after the same events
    module _ (says : Says) (before : List Event) (one other : List (List ℕ)) (valid : All IsBlock one) (valid' : All IsBlock other)
        (same : concat one ≡ concat other) (from to end : S) where
      events_alike : (x y : Exchange) (mid mid' : S) → Exchanges steps id (free says) (before ++ blocks_as id one) from x mid
          → Exchanges steps id (free says) (before ++ blocks_as id other) from y mid'
          → ToldAlike steps id server x mid y mid'
      events_alike x y mid mid' e f =
          behind_alike steps id server before says one other from x y mid mid' valid valid' same
          (λ none. no_blocks other valid' (sym same ∙ ap concat none))
          (λ none. no_blocks one valid (same ∙ ap concat none))
          e f

      closes_alike : (word : Option LastWord) (x y : Exchange) → Closes word says (before ++ blocks_as id one) from x to
          → Closes word says (before ++ blocks_as id other) from y end → AreToldAlike x y
      closes_alike None x y e f =
          let alike = events_alike x y to end e f in
          record { bytes = alike.bytes; state = alike.state }
      closes_alike (Some word) x y v w = by_end v.x.state refl where
        alike : ToldAlike steps id server v.x v.mid w.x w.mid
        alike = events_alike v.x w.x v.mid w.mid v.alone w.alone

        by_end : (state : State) → v.x.state ≡ state → AreToldAlike x y
        by_end Running on =
            let here = v.goes on in
            let there = w.goes (sym alike.state ∙ on) in
            let same_says = subst (λ (s : Says). Exchanges steps id (with_closing s (awaiting 0 word)) (SourceEnd id ∷ []) w.mid there.0 end)
            (sym (alike.says on)) there.1 in
            let last = last_alike (with_closing v.x.says (awaiting 0 word)) v.mid w.mid here.0 there.0 to end (alike.at_end on) here.1 same_says in
            record {
              bytes = here.2 ∙ ap (λ (bytes : List ℕ). v.x.bytes ++ bytes) last.0 ∙ ap (λ (bytes : List ℕ). bytes ++ there.0.bytes) alike.bytes ∙ sym there.2;
              state = here.3 ∙ last.1 ∙ sym there.3;
            }
        by_end (Shut ending) off =
            let here = v.shut ending off in
            let there = w.shut ending (sym alike.state ∙ off) in
            record { bytes = here.0 ∙ alike.bytes ∙ sym there.0; state = here.1 ∙ alike.state ∙ sym there.1 }

    pub blocks_alike : (says : Says) (before : List Event) (bytes : List ℕ) (word : Option LastWord) (from to end : S) (x y : Exchange)
        → InBlocks says before bytes word from x to → InBlocks says before bytes word from y end → AreToldAlike x y
    blocks_alike says before bytes word from to end x y v w =
        closes_alike says before v.blocks w.blocks v.valid w.valid (v.joined ∙ sym w.joined) from to end word x y v.closes w.closes
