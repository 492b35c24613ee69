-- The replies to a source depend on its data.
use Rattle.std.proofs.Common.{◌≡◌, ◌⊎◌, inl, inr, ℕ, ◌+◌, Bool, true, false, List, [], ◌∷◌, ◌++◌, length, length-append, Option, None, Some, is_some, refl, ap}
use Rattle.std.proofs.Common.{sym, subst, ◌∙◌, arith}
use Rattle.radio_core.proofs.Words.{find, nat_lt, if◌then◌else◌, option_map, ltb-true, lt-ltb, le-ltb, NumbersSpent, update_first, listener_of, StationState, Reply, Noted, Deny, Stray, Standing, Unknown, Sits, changed}
use Rattle.radio_core.proofs.Words.{is_taken_in, received, Client, client_of, Relay, relay_of, largest_number, live_end, rows_to_push, says, on_verdict, if_feeding, unless_relayed, delivers, takes_in, Nothing, End}
use Rattle.radio_core.proofs.Words.{Outcome, Allow, verdict_in, Session, is_of, session_of, longer, unless_spent, to_session, to_data_from, to_feeders_end, to_end_from, to_data, to_end, IsToldByData}
use Rattle.radio_core.proofs.Words.{SourcesAreToldByTheirData, EndsAreTold, outcome, reply_to, world_after, end_of, World, standing_of, has_relay, standing_of_found}
use Rattle.radio_blocks.specs.Block.{IsBlock}
use Rattle.radio_events.specs.declared.reply.Reply.TheVariants.{Finished}
use Rattle.radio_parts_station.specs.declared.standing.Standing.TheVariants.{Undecided as IsUndecided, Feeds as IsFeeding}
use Rattle.radio_parts_station.specs.declared.standing.Standing.TheVariants.{Answered as IsAnswered, Finished as IsFinished}
use Rattle.radio_policy.specs.declared.judgement.Verdict.TheVariants.{Deny as Denied}
use Rattle.radio_events.specs.Replies.{IsQuiet, EndsByRule}
use Rattle.radio_core.proofs.Clients.Standings.{feeds_in}

-- the first that is sought, after a change of it
find-updated : {X : Type 0} (p : X → Bool) (f : X → X) → ((x : X) → p (f x) ≡ p x) → (xs : List X) → find p (update_first p f xs) ≡ option_map f (find p xs)
find-updated p f same [] = refl
find-updated p f same (x ∷ xs) = by_test (find-updated p f same xs) (p x) refl where
  by_test : find p (update_first p f xs) ≡ option_map f (find p xs) → (b : Bool) → p x ≡ b → find p (update_first p f (x ∷ xs)) ≡ option_map f (find p (x ∷ xs))
  by_test ih true e = rw (e, same x, e) refl
  by_test ih false e = rw (e, e) ih

-- a source feeds its mount as long as the table of clients stays as it is
feeds_on : (w w' : World) (id : ℕ) (mount : List ℕ) → w'.station.clients ≡ w.station.clients → w'.station.relays ≡ w.station.relays
    → standing_of w id ≡ IsFeeding mount → standing_of w' id ≡ IsFeeding mount
feeds_on w w' id mount same same_relays e =
    ap (λ (clients : List Client). standing_of_found (relay_of w'.station.relays id) (listener_of w'.seats id) (client_of clients id)) same
    ∙ ap (λ (relays : List Relay). standing_of_found (relay_of relays id) (listener_of w'.seats id) (client_of w.station.clients id)) same_relays
    ∙ feeds_in (relay_of w.station.relays id) (listener_of w.seats id) (listener_of w'.seats id) (client_of w.station.clients id) mount e

-- more data, behind a block that was taken
in_longer : (session : Option Session) (block rest : List ℕ) (moment : ℕ)
    → to_session session (block ++ rest) ≡ to_session (option_map (longer block moment) session) rest
in_longer None block rest moment = refl
in_longer (Some session) block rest moment =
    ap (λ (n : ℕ). unless_spent (nat_lt largest_number n)) (omega (arith, length-append block rest, length-append session.stream.bytes block))

-- a block alone is never too much, and more data behind one that is too much are too much
fits : (session : Option Session) (block : List ℕ) (w : World) (mount : List ℕ) → IsBlock block → session_of w.station.live mount ≡ session
    → unless_spent (nat_lt largest_number (live_end w.station mount + length block)) ≡ to_session session block
fits None block w mount valid e =
    let small : nat_lt largest_number (0 + length block) ≡ false = le-ltb largest_number (0 + length block) (omega (arith, valid.0, valid.1)) in
    rw (e, small) refl
fits (Some session) block w mount valid e = rw e refl

stays_spent : (session : Option Session) (block rest : List ℕ) → to_session session block ≡ Deny NumbersSpent
    → to_session session (block ++ rest) ≡ Deny NumbersSpent
stays_spent None block rest e = cc
stays_spent (Some session) block rest e = by_test (nat_lt largest_number (end_of session.stream + length block)) refl e where
  by_test : (b : Bool) → nat_lt largest_number (end_of session.stream + length block) ≡ b → unless_spent b ≡ Deny NumbersSpent
      → to_session (Some session) (block ++ rest) ≡ Deny NumbersSpent
  by_test true t d =
      ap unless_spent
      (lt-ltb largest_number (end_of session.stream + length (block ++ rest))
      (omega (arith, length-append block rest, ltb-true largest_number (end_of session.stream + length block) t)))
  by_test false t d = cc

module _ (w : World) (id : ℕ) (block : List ℕ) (valid : IsBlock block) where
  -- the outcome of the block, by the client's standing, and by whether the numbers are spent
  abbrev by_number : List ℕ → Bool → Outcome
  by_number mount b = on_verdict (if b then Denied NumbersSpent else Allow) Nothing (takes_in mount block)

  abbrev by_standing : Standing → Outcome
  by_standing standing = if_feeding standing (λ mount. on_verdict (verdict_in (rows_to_push w.station mount block)) Nothing (takes_in mount block))

  abbrev here : Outcome
  here = delivers w id block

  abbrev next : World
  next = changed w here.change

  -- one who is replied to alike whatever the data, and nothing changes
  elsewhere : (standing : Standing) (reply : Reply) → standing_of w id ≡ standing → here ≡ says reply Nothing
      → ((bytes : List ℕ) → to_data_from standing w.station bytes ≡ reply) → IsQuiet reply ⊎ EndsByRule reply → IsToldByData w id block
  unfolding reply_to world_after outcome to_data to_end
  elsewhere standing reply e out always kind =
      let told : here.reply ≡ reply = ap (λ (o : Outcome). o.reply) out in
      let same : w ≡ next = sym (ap (λ (o : Outcome). changed w o.change) out) in
      let stands = λ (bytes : List ℕ). ap (λ (s : Standing). to_data_from s w.station bytes) e ∙ always bytes in
      record {
        at_block = told ∙ sym (stands block);
        kinds = subst (λ (r : Reply). IsQuiet r ⊎ EndsByRule r) (sym told) kind;
        more = λ rest on. stands (block ++ rest) ∙ sym (stands rest) ∙ ap (λ (v : World). to_data v id rest) same;
        end_stays = λ on. ap (λ (v : World). to_end v id) same;
        rule_stays = λ rest named. stands (block ++ rest) ∙ sym told;
      }

  -- a source of the mount
  feeding : (mount : List ℕ) → standing_of w id ≡ IsFeeding mount → (b : Bool) → nat_lt largest_number (live_end w.station mount + length block) ≡ b
      → IsToldByData w id block
  unfolding reply_to world_after outcome to_data to_end
  feeding mount e true t =
      let out : here ≡ says (Deny NumbersSpent) Nothing = ap by_standing e ∙ ap (by_number mount) t in
      let reply : here.reply ≡ Deny NumbersSpent = ap (λ (o : Outcome). o.reply) out in
      let spent : to_session (session_of w.station.live mount) block ≡ Deny NumbersSpent = sym (fits (session_of w.station.live mount) block w mount valid refl)
      ∙ ap unless_spent t in
      record {
        at_block = reply ∙ sym spent ∙ ap (λ (s : Standing). to_data_from s w.station block) (sym e);
        kinds = inr (subst EndsByRule (sym reply) tt);
        more = λ rest on. absurd (subst IsQuiet reply on);
        end_stays = λ on. absurd (subst IsQuiet reply on);
        rule_stays = λ rest told. ap (λ (s : Standing). to_data_from s w.station (block ++ rest)) e
            ∙ stays_spent (session_of w.station.live mount) block rest spent ∙ sym reply;
      }
  feeding mount e false t =
      let out : here ≡ takes_in mount block = ap by_standing e ∙ ap (by_number mount) t in
      let reply : here.reply ≡ Noted = ap (λ (o : Outcome). o.reply) out in
      let taken : to_session (session_of w.station.live mount) block ≡ Noted = sym (fits (session_of w.station.live mount) block w mount valid refl)
      ∙ ap unless_spent t in
      let station : next.station ≡ received w.station mount block = ap (λ (o : Outcome). (changed w o.change).station) out
      ∙ ap (λ (later : World). later.station) (is_taken_in w mount block) in
      let feeds : standing_of next id ≡ IsFeeding mount = feeds_on w next id mount (ap (λ (h : StationState). h.clients) station) (ap (λ (h : StationState). h.relays) station) e in
      record {
        at_block = reply ∙ sym taken ∙ ap (λ (s : Standing). to_data_from s w.station block) (sym e);
        kinds = inl (subst IsQuiet (sym reply) tt);
        more = λ rest on.
            ap (λ (s : Standing). to_data_from s w.station (block ++ rest)) e
            ∙ in_longer (session_of w.station.live mount) block rest w.station.time
            ∙ ap (λ (session : Option Session). to_session session rest)
            (sym (find-updated (is_of mount) (longer block w.station.time) (λ session. refl) w.station.live))
            ∙ ap (λ (h : StationState). to_session (session_of h.live mount) rest) (sym station)
            ∙ ap (λ (s : Standing). to_data_from s next.station rest) (sym feeds);
        end_stays = λ on. ap (λ (h : StationState). to_end_from (is_some (relay_of h.relays id)) (standing_of w id)) (sym station)
            ∙ ap (to_end_from (has_relay next id)) (e ∙ sym feeds);
        rule_stays = λ rest told. absurd (subst EndsByRule reply told);
      }

  told_by : (standing : Standing) → standing_of w id ≡ standing → IsToldByData w id block
  told_by (IsFeeding mount) e = feeding mount e (nat_lt largest_number (live_end w.station mount + length block)) refl
  told_by Unknown e = elsewhere Unknown Stray e (ap by_standing e) (λ bytes. refl) (inl tt)
  told_by (IsUndecided peer) e = elsewhere (IsUndecided peer) Stray e (ap by_standing e) (λ bytes. refl) (inl tt)
  told_by Sits e = elsewhere Sits Stray e (ap by_standing e) (λ bytes. refl) (inl tt)
  told_by IsAnswered e = elsewhere IsAnswered Stray e (ap by_standing e) (λ bytes. refl) (inl tt)
  told_by (IsFinished rule) e = elsewhere (IsFinished rule) (Finished rule) e (ap by_standing e) (λ bytes. refl) (inr tt)

pub told_by_data : SourcesAreToldByTheirData
told_by_data w id block valid = told_by w id block valid (standing_of w id) refl

feeders_end : (relayed : Bool) (mount : List ℕ) (id : ℕ) → (unless_relayed relayed (says Noted (End id mount))).reply ≡ to_feeders_end relayed
feeders_end true mount id = refl
feeders_end false mount id = refl

end_by : (relayed : Bool) (standing : Standing) (id : ℕ)
    → (if_feeding standing (λ mount. unless_relayed relayed (says Noted (End id mount)))).reply ≡ to_end_from relayed standing
end_by relayed (IsFeeding mount) id = feeders_end relayed mount id
end_by relayed Unknown id = refl
end_by relayed (IsUndecided peer) id = refl
end_by relayed Sits id = refl
end_by relayed IsAnswered id = refl
end_by relayed (IsFinished rule) id = refl

pub ends_told : EndsAreTold
unfolding reply_to outcome to_end
ends_told w id = end_by (has_relay w id) (standing_of w id) id
