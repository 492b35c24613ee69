-- What is written to a source does not depend on how its data were cut into blocks.
use Rattle.std.proofs.Common.{◌≡◌, ◌⊎◌, inl, inr, ℕ, List, [], ◌∷◌, ◌++◌, map, refl, ap, sym, subst, ◌∙◌, append_assoc, append-nil, None}
use Rattle.std.specs.List.{concat, All}
use Rattle.std.proofs.lemmas.List.Elements.{All-head, All-tail}
use Rattle.radio_blocks.specs.Block.{IsBlock}
use Rattle.radio_events.specs.declared.event.Event.{Event}
use Rattle.radio_events.specs.declared.event.Event.TheVariants.{Push}
use Rattle.radio_events.specs.declared.reply.Reply.{Reply}
use Rattle.radio_events.specs.declared.reply.Reply.TheVariants.{Arrived, Feeding, Seated, Drawn, Noted, Text, Deny, Finished, Stray}
use Rattle.radio_events.specs.Replies.{IsQuiet, EndsByRule}
use Rattle.radio_session.specs.declared.session.Says.{Says}
use Rattle.radio_events.specs.declared.state.State.{State}
use Rattle.radio_events.specs.declared.state.State.TheVariants.{Running, Shut}
use Rattle.radio_events.specs.declared.state.Ending.{Ending}
use Rattle.radio_events.specs.declared.state.Ending.TheVariants.{By}
use Rattle.radio_session.specs.Saying.{Said, said, tells}
use Rattle.radio_events.specs.Servers.{Steps}
use Rattle.radio_session.specs.Exchanges.{Exchange, nothing_exchanged, GoesOn, Exchanges}
use Rattle.radio_session.specs.DataServers.{GoesByData}
use Rattle.radio_session.proofs.AwaitLemmas.{free, free_says, stays_free}
use Rattle.radio_session.proofs.ExchangeParts.{FollowsBy, split, exchanged_as_one}

quiet_told : (says : Says) (reply : Reply) → IsQuiet reply → said (free says) reply ≡ tells [] (free says)
quiet_told says Noted q = refl
quiet_told says Stray q = refl
quiet_told says (Arrived id) q = absurd q
quiet_told says Feeding q = absurd q
quiet_told says (Seated interval shown) q = absurd q
quiet_told says (Drawn bytes title) q = absurd q
quiet_told says (Text text) q = absurd q
quiet_told says (Deny rule) q = absurd q
quiet_told says (Finished rule) q = absurd q

ends_told : (says : Says) (reply : Reply) → EndsByRule reply → (ending : Ending) × ((said says reply).state ≡ Shut ending)
ends_told says (Arrived id) e = absurd e
ends_told says Feeding e = absurd e
ends_told says (Seated interval shown) e = absurd e
ends_told says (Drawn bytes title) e = absurd e
ends_told says Noted e = absurd e
ends_told says (Text text) e = absurd e
ends_told says Stray e = absurd e
ends_told says (Deny rule) e = (By rule, refl)
ends_told says (Finished rule) e = (By rule, refl)

never_both : (reply : Reply) → IsQuiet reply → EndsByRule reply → ⊥
never_both Noted q e = e
never_both Stray q e = e
never_both (Arrived id) q e = q
never_both Feeding q e = q
never_both (Seated interval shown) q e = q
never_both (Drawn bytes title) q e = q
never_both (Text text) q e = q
never_both (Deny rule) q e = q
never_both (Finished rule) q e = q

abbrev pub blocks_as : ℕ → List (List ℕ) → List Event
blocks_as id blocks = map (Push id) blocks

module _ {S : Type 0} (steps : Steps S) (id : ℕ) (server : GoesByData steps id) where
  -- the server took all data
  pub record WentOn (says : Says) (blocks : List (List ℕ)) (from : S) (x : Exchange) (to : S) : Type 0 where
    pub nothing : x ≡ nothing_exchanged (free says)
    pub data_on : (rest : List ℕ) → server.to_data from (concat blocks ++ rest) ≡ server.to_data to rest
    pub end_on : (rest : List ℕ) → server.to_end from (concat blocks ++ rest) ≡ server.to_end to rest
    pub quiet : (blocks ≡ []) ⊎ IsQuiet (server.to_data from (concat blocks))

  -- a rule ended the connection
  pub record Stopped (says : Says) (blocks : List (List ℕ)) (from : S) (x : Exchange) : Type 0 where
    pub reply : Reply
    pub by_rule : EndsByRule reply
    pub data_on : (rest : List ℕ) → server.to_data from (concat blocks ++ rest) ≡ reply
    pub bytes : x.bytes ≡ (said (free says) reply).bytes
    pub state : x.state ≡ (said (free says) reply).state
    pub some : blocks ≡ [] → ⊥

  abbrev pub Fed : Says → List (List ℕ) → S → Exchange → S → Type 0
  Fed says blocks from x to = WentOn says blocks from x to ⊎ Stopped says blocks from x

  module _ (says : Says) (block : List ℕ) (blocks : List (List ℕ)) (from mid to : S) (reply : Reply) (valid : IsBlock block)
      (step : steps from (Push id block) reply mid) (x : Exchange) where
    -- the server takes the block, and others follow
    quiet_on : IsQuiet reply → reply ≡ server.to_data from block → Fed says blocks mid x to → Fed says (block ∷ blocks) from x to
    quiet_on q at (inl on) = inl (record {
      nothing = on.nothing;
      data_on = λ rest. ap (server.to_data from) (append_assoc block (concat blocks) rest)
          ∙ (server.after_block from mid block (concat blocks ++ rest) reply valid step q).0 ∙ on.data_on rest;
      end_on = λ rest. ap (server.to_end from) (append_assoc block (concat blocks) rest)
          ∙ (server.after_block from mid block (concat blocks ++ rest) reply valid step q).1 ∙ on.end_on rest;
      quiet = inr (elim on.quiet [
        | inl none ↦ subst IsQuiet (at ∙ ap (server.to_data from) (sym (append-nil block) ∙ ap (λ (bs : List (List ℕ)). block ++ concat bs) (sym none))) q
        | inr later ↦ subst IsQuiet (sym (server.after_block from mid block (concat blocks) reply valid step q).0) later
      ]);
    })
    quiet_on q at (inr stop) = inr (record {
      reply = stop.reply;
      by_rule = stop.by_rule;
      data_on = λ rest. ap (server.to_data from) (append_assoc block (concat blocks) rest)
          ∙ (server.after_block from mid block (concat blocks ++ rest) reply valid step q).0 ∙ stop.data_on rest;
      bytes = stop.bytes;
      state = stop.state;
      some = λ none. cc;
    })

    -- a rule ends the connection
    rule_on : EndsByRule reply → (Others : Exchange → Type 0) → GoesOn steps id (said (free says) reply).state (Push id block)
        (said (free says) reply) mid Others x to → Fed says (block ∷ blocks) from x to
    rule_on ends Others goes =
        let shut = ends_told (free says) reply ends in
        let written = said (free says) reply in
        let g = subst (λ (state : State). GoesOn steps id state (Push id block) written mid Others x to) shut.1 goes in
        inr (record {
          reply = reply;
          by_rule = ends;
          data_on = λ rest. ap (server.to_data from) (append_assoc block (concat blocks) rest)
              ∙ server.at_rule from mid block (concat blocks ++ rest) reply valid step ends;
          bytes = ap (λ (y : Exchange). y.bytes) g.1;
          state = ap (λ (y : Exchange). y.state) g.1 ∙ sym shut.1;
          some = λ none. cc;
        })

  feeds : (blocks : List (List ℕ)) (says : Says) (from : S) (x : Exchange) (to : S) → All IsBlock blocks
      → Exchanges steps id (free says) (blocks_as id blocks) from x to → Fed says blocks from x to
  feeds [] says from x to valid e = inl (record {
    nothing = e.0;
    data_on = λ rest. ap (λ (s : S). server.to_data s rest) (sym e.1);
    end_on = λ rest. ap (λ (s : S). server.to_end s rest) (sym e.1);
    quiet = inl refl;
  })
  feeds (block ∷ blocks) says from x to valid e =
      let here = All-head IsBlock block blocks valid in
      let at = server.at_block from e.1 block e.0 here e.2 in
      elim at.1 [
        | inl q ↦
            let g = subst (λ (written : Said). GoesOn steps id written.state (Push id block) written e.1
            (λ others. Exchanges steps id written.says (blocks_as id blocks) e.1 others to) x to) (quiet_told says e.0 q) e.3 in
            quiet_on says block blocks from e.1 to e.0 here e.2 x q at.0
            (subst (λ (y : Exchange). Fed says blocks e.1 y to) (sym g.2) (feeds blocks says e.1 g.0 to (All-tail IsBlock block blocks valid) g.1))
        | inr ends ↦ rule_on says block blocks from e.1 to e.0 here e.2 x ends
            (λ others. Exchanges steps id (said (free says) e.0).says (blocks_as id blocks) e.1 others to) e.3
      ]

  -- Two exchanges write the same. If the connection goes on, the end of the data has the same reply in both.
  pub record ToldAlike (x : Exchange) (to : S) (y : Exchange) (other : S) : Type 0 where
    pub bytes : x.bytes ≡ y.bytes
    pub state : x.state ≡ y.state
    pub says : x.state ≡ Running → x.says ≡ y.says
    pub at_end : x.state ≡ Running → server.to_end to [] ≡ server.to_end other []

  module _ (says : Says) (one other : List (List ℕ)) (from : S) (x y : Exchange) (to to' : S) (same : concat one ≡ concat other)
      (none : other ≡ [] → one ≡ []) where
    -- the server cannot take all data in one cutting, and end the connection in the other
    clash : WentOn says one from x to → Stopped says other from y → (one ≡ [] → other ≡ []) → ⊥
    clash on stop empty = elim on.quiet [
      | inl is_none ↦ stop.some (empty is_none)
      | inr q ↦ never_both stop.reply (subst IsQuiet (ap (server.to_data from) (same ∙ sym (append-nil (concat other))) ∙ stop.data_on []) q) stop.by_rule
    ]

    both_on : WentOn says one from x to → WentOn says other from y to' → ToldAlike x to y to'
    both_on on again = record {
      bytes = ap (λ (z : Exchange). z.bytes) (on.nothing ∙ sym again.nothing);
      state = ap (λ (z : Exchange). z.state) (on.nothing ∙ sym again.nothing);
      says = λ e. ap (λ (z : Exchange). z.says) (on.nothing ∙ sym again.nothing);
      at_end = λ e. sym (on.end_on []) ∙ ap (λ (bytes : List ℕ). server.to_end from (bytes ++ [])) same ∙ again.end_on [];
    }

    both_stop : Stopped says one from x → Stopped says other from y → ToldAlike x to y to'
    both_stop stop again =
        let reply : stop.reply ≡ again.reply = sym (stop.data_on []) ∙ ap (λ (bytes : List ℕ). server.to_data from (bytes ++ [])) same ∙ again.data_on [] in
        let shut = ends_told (free says) stop.reply stop.by_rule in
        record {
          bytes = stop.bytes ∙ ap (λ (r : Reply). (said (free says) r).bytes) reply ∙ sym again.bytes;
          state = stop.state ∙ ap (λ (r : Reply). (said (free says) r).state) reply ∙ sym again.state;
          says = λ e. let no : Shut shut.0 ≡ Running = sym (stop.state ∙ shut.1) ∙ e in cc;
          at_end = λ e. let no : Shut shut.0 ≡ Running = sym (stop.state ∙ shut.1) ∙ e in cc;
        }

  pub fed_alike : (says : Says) (one other : List (List ℕ)) (from : S) (x y : Exchange) (to to' : S) → All IsBlock one → All IsBlock other
      → concat one ≡ concat other → (one ≡ [] → other ≡ []) → (other ≡ [] → one ≡ [])
      → Exchanges steps id (free says) (blocks_as id one) from x to → Exchanges steps id (free says) (blocks_as id other) from y to' → ToldAlike x to y to'
  fed_alike says one other from x y to to' valid valid' same empty none e f =
      by_fed (feeds one says from x to valid e) (feeds other says from y to' valid' f) where
        by_fed : Fed says one from x to → Fed says other from y to' → ToldAlike x to y to'
        by_fed (inl on) (inl again) = both_on says one other from x y to to' same none on again
        by_fed (inl on) (inr again) = absurd (clash says one other from x y to to' same none on again empty)
        by_fed (inr stop) (inl again) = absurd (clash says other one from y x to' to (sym same) empty again stop none)
        by_fed (inr stop) (inr again) = both_stop says one other from x y to to' same none stop again

  -- the same after other events
  pub behind_alike : (before : List Event) (says : Says) (one other : List (List ℕ)) (from : S) (x y : Exchange) (to to' : S) → All IsBlock one
      → All IsBlock other → concat one ≡ concat other → (one ≡ [] → other ≡ []) → (other ≡ [] → one ≡ [])
      → Exchanges steps id (free says) (before ++ blocks_as id one) from x to
      → Exchanges steps id (free says) (before ++ blocks_as id other) from y to' → ToldAlike x to y to'
  behind_alike before says one other from x y to to' valid valid' same empty none e f =
      let p = split steps id before (blocks_as id one) (free says) from x to e in
      let q = split steps id before (blocks_as id other) (free says) from y to' f in
      let first = exchanged_as_one steps id server.is_one before (free says) from p.x q.x p.mid q.mid p.begins q.begins in
      let moved = subst (λ (z : Exchange). FollowsBy steps id z.state (blocks_as id other) z q.mid y to') (sym first.0) q.follows in
      let again = subst (λ (m : S). FollowsBy steps id p.x.state (blocks_as id other) p.x m y to') (sym first.1) moved in
      by_state p.x p.mid (stays_free steps id before says from p.x p.mid p.begins) p.x.state refl p.follows again where
        by_state : (z : Exchange) (mid : S) → z.says.closing ≡ None → (state : State) → z.state ≡ state
            → FollowsBy steps id state (blocks_as id one) z mid x to → FollowsBy steps id state (blocks_as id other) z mid y to' → ToldAlike x to y to'
        by_state z mid c Running runs g h =
            let e' = subst (λ (s : Says). Exchanges steps id s (blocks_as id one) mid g.0 to) (sym (free_says z.says c)) g.1 in
            let f' = subst (λ (s : Says). Exchanges steps id s (blocks_as id other) mid h.0 to') (sym (free_says z.says c)) h.1 in
            let rest = fed_alike z.says one other mid g.0 h.0 to to' valid valid' same empty none e' f' in
            let on = ap (λ (v : Exchange). v.state) g.2 in
            record {
              bytes = ap (λ (v : Exchange). v.bytes) g.2 ∙ ap (λ (bytes : List ℕ). z.bytes ++ bytes) rest.bytes ∙ sym (ap (λ (v : Exchange). v.bytes) h.2);
              state = on ∙ rest.state ∙ sym (ap (λ (v : Exchange). v.state) h.2);
              says = λ e. ap (λ (v : Exchange). v.says) g.2 ∙ rest.says (sym on ∙ e) ∙ sym (ap (λ (v : Exchange). v.says) h.2);
              at_end = λ e. rest.at_end (sym on ∙ e);
            }
        by_state z mid c (Shut ending) shut g h = record {
          bytes = ap (λ (v : Exchange). v.bytes) (g.0 ∙ sym h.0);
          state = ap (λ (v : Exchange). v.state) (g.0 ∙ sym h.0);
          says = λ e. ap (λ (v : Exchange). v.says) (g.0 ∙ sym h.0);
          at_end = λ e. let no : Shut ending ≡ Running = sym shut ∙ sym (ap (λ (v : Exchange). v.state) g.0) ∙ e in cc;
        }
