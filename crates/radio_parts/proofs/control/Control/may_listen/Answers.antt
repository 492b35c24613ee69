use Rattle.std.proofs.Common.{◌≡◌, true, ℕ, List, Some, refl, ap, sym, subst, ◌∙◌}
use Rattle.radio_parts.proofs.Words.{Peer, Verdict, Allow, listen_rows, verdict_in, ListenRequest, Change, Answer, Outcome, Standing, Undecided, Landing, listen_facts_at, names_mount, rows_to_listen, walks_to}
use Rattle.radio_parts.proofs.Words.{sits_where, on_verdict, if_undecided, StationState, World, standing_of, Listener}
use Rattle.radio_policy.specs.declared.facts.ListenFacts.{ListenFacts}
use Rattle.radio_policy.specs.declared.judgement.Verdict.TheVariants.{Deny as Denied}
use Rattle.radio_parts.proofs.control.Control.may_listen.Goals as goal

-- the policy judges by the facts of the mount that the path names, from the present station and listeners
judged : (w : World) (station : StationState) (seats : List Listener) (asked : ListenRequest) (mount : List ℕ) (facts : ListenFacts) (verdict : Verdict)
    → station ≡ w.station → seats ≡ w.seats → names_mount station.settings asked.mount ≡ true → mount ≡ asked.mount
    → facts ≡ listen_facts_at station seats mount asked.pair → verdict ≡ verdict_in (listen_rows (Some facts)) → verdict_in (rows_to_listen w asked) ≡ verdict
judged w station seats asked mount facts verdict its_station its_seats named same looked_up said =
    let named_there : names_mount w.station.settings asked.mount ≡ true = subst (λ (h : StationState). names_mount h.settings asked.mount ≡ true) its_station named in
    let looked_up_there : facts ≡ listen_facts_at w.station w.seats mount asked.pair = rw (← its_station, ← its_seats) looked_up in
    rw named_there (ap (λ (m : List ℕ). verdict_in (listen_rows (Some (listen_facts_at w.station w.seats m asked.pair)))) (sym same)
    ∙ ap (λ (f : ListenFacts). verdict_in (listen_rows (Some f))) (sym looked_up_there) ∙ sym said)

decided : (s : Standing) (v : Verdict) (peer : Peer) (verdict : Verdict) (answered : Change) (go : Peer → Outcome) → s ≡ Undecided peer → v ≡ verdict
    → if_undecided s (λ p. on_verdict v answered (go p)) ≡ on_verdict verdict answered (go peer)
decided s v peer verdict answered go undecided is = rw (undecided, is) refl

module _ (w : World) (asked : ListenRequest) (peer : Peer) (undecided : standing_of w asked.id ≡ Undecided peer) (verdict : Verdict)
    (is : verdict_in (rows_to_listen w asked) ≡ verdict) where
  abbrev end_of_walk : Landing
  end_of_walk = walks_to w.station w.seats asked.mount asked.pair

  comes_to : if_undecided (standing_of w asked.id) (λ p. on_verdict (verdict_in (rows_to_listen w asked)) (Answer asked.id)
      (sits_where w.station asked p end_of_walk))
      ≡ on_verdict verdict (Answer asked.id) (sits_where w.station asked peer end_of_walk)
  comes_to = decided (standing_of w asked.id) (verdict_in (rows_to_listen w asked)) peer verdict (Answer asked.id)
      (λ p. sits_where w.station asked p end_of_walk) undecided is

pub returns-in-Deny : goal.returns-in-Deny
returns-in-Deny c =
    let w = c.args.self.now in
    let asked = c.args.asked.now in
    c.refused-in-Deny.ensures
    ∙ sym (comes_to w asked c.in-Undecided.peer (sym c.standing.ensures ∙ c.in-Undecided.is) (Denied c.in-Deny.rule)
    (judged w c.station-station.result c.seats.result.now.seats asked c.in-Some.home c.listen_facts-landing.result.0 (Denied c.in-Deny.rule) c.station-station.ensures
    c.seats.ensures.seats (rw (← c.as_slice.ensures) c.in-Some.ensures.0) (c.in-Some.ensures.1 ∙ c.as_slice.ensures)
    (rw (← c.as_ref.ensures.value) c.listen_facts-landing.ensures.facts) (sym c.in-Deny.is ∙ c.judge.ensures)))

pub returns-in-Allow : goal.returns-in-Allow
returns-in-Allow c =
    let w = c.args.self.now in
    let asked = c.args.asked.now in
    let landing : c.listen_facts-landing.result.1 ≡ walks_to w.station w.seats c.in-Some.home asked.pair =
    rw (← c.station-station.ensures, ← c.seats.ensures.seats, ← c.as_ref.ensures.value) c.listen_facts-landing.ensures.landing in
    let landed : c.listen_facts-landing.result.1 ≡ walks_to w.station w.seats asked.mount asked.pair =
    landing ∙ ap (λ (m : List ℕ). walks_to w.station w.seats m asked.pair) (c.in-Some.ensures.1 ∙ c.as_slice.ensures) in (
      c.in-Some.ensures.1 ∙ c.as_slice.ensures,
      comes_to w asked c.in-Undecided.peer (sym c.standing.ensures ∙ c.in-Undecided.is) Allow
          (judged w c.station-station.result c.seats.result.now.seats asked c.in-Some.home c.listen_facts-landing.result.0 Allow c.station-station.ensures c.seats.ensures.seats
          (rw (← c.as_slice.ensures) c.in-Some.ensures.0) (c.in-Some.ensures.1 ∙ c.as_slice.ensures)
          (rw (← c.as_ref.ensures.value) c.listen_facts-landing.ensures.facts) (sym c.in-Allow.is ∙ c.judge.ensures))
          ∙ ap (sits_where w.station asked c.in-Undecided.peer) (sym landed),
    )
