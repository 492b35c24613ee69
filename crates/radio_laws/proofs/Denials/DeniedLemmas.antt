-- What the policy denies is denied.
use Rattle.std.proofs.Common.{◌≡◌, ◌↔◌, Option, Some, None, List, refl, ap, sym, ◌∙◌}
use Rattle.radio_laws.proofs.Words.{Rule, Verdict, Row, verdict_in, Denies, WebPath, web_path, Event, ListenRequest, Deny, Change, Outcome, says, on_verdict, asks_by, outcome, reply_to, rows_for, rows_from, rows_to_push}
use Rattle.radio_laws.proofs.Words.{Standing, World, standing_of, ToArrive, ToFeed, ToSend, ToListen, ToCommand, ToComeUp, ThePolicyDenies, IsPath}
use Rattle.radio_policy.specs.declared.judgement.Verdict.TheVariants.{Deny as Denied}
use Rattle.radio_laws.proofs.Denials.ServiceLemmas.{goes_feeding, goes_undecided}
use Rattle.radio_laws.proofs.Listings.WebLaws.{is_path}

denied_so : (v : Verdict) (rule : Rule) (denied : Change) (allowed : Outcome) → v ≡ Denied rule → on_verdict v denied allowed ≡ says (Deny rule) denied
denied_so v rule denied allowed e = rw e refl

-- a client asks for a path that is none of the web site's
no_page : (w : World) (asked : ListenRequest) → ((path : WebPath) → IsPath w asked.mount path → ⊥) → web_path w.station.settings.web asked.mount ≡ None
no_page w asked none = by_path (web_path w.station.settings.web asked.mount) refl where
  by_path : (found : Option WebPath) → web_path w.station.settings.web asked.mount ≡ found → found ≡ None
  by_path None e = refl
  by_path (Some path) e = absurd (none path (is_path w asked.mount path e))

module _ (denies : (rows : List Row) (rule : Rule) → (verdict_in rows ≡ Denied rule) ↔ Denies rows rule) (w : World) where
  pub policy_denies : (event : Event) → ThePolicyDenies w event
  unfolding reply_to outcome
  policy_denies event (ToArrive peer) rule d = ap (λ (o : Outcome). o.reply) (denied_so (verdict_in (rows_for w event)) rule _ _ ((denies (rows_for w event) rule).1 d))
  policy_denies event (ToFeed asked (peer, e)) rule d =
      ap (λ (o : Outcome). o.reply)
      (goes_undecided (standing_of w asked.id) peer _ e ∙ denied_so (verdict_in (rows_for w event)) rule _ _ ((denies (rows_for w event) rule).1 d))
  policy_denies event (ToSend id mount block e) rule d =
      ap (λ (o : Outcome). o.reply)
      (goes_feeding (standing_of w id) mount _ e
      ∙ denied_so (verdict_in (rows_to_push w.station mount block)) rule _ _
      (ap (λ (s : Standing). verdict_in (rows_from w.station block s)) (sym e) ∙ (denies (rows_for w event) rule).1 d))
  policy_denies event (ToListen asked (peer, e) none) rule d =
      ap (λ (o : Outcome). o.reply)
      (ap (asks_by w asked) (no_page w asked none)
      ∙ goes_undecided (standing_of w asked.id) peer _ e ∙ denied_so (verdict_in (rows_for w event)) rule _ _ ((denies (rows_for w event) rule).1 d))
  policy_denies event (ToCommand asked (peer, e)) rule d =
      ap (λ (o : Outcome). o.reply)
      (goes_undecided (standing_of w asked.id) peer _ e ∙ denied_so (verdict_in (rows_for w event)) rule _ _ ((denies (rows_for w event) rule).1 d))
  policy_denies event (ToComeUp mount shown) rule d = ap (λ (o : Outcome). o.reply) (denied_so (verdict_in (rows_for w event)) rule _ _ ((denies (rows_for w event) rule).1 d))
