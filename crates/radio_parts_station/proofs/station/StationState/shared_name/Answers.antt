use Rattle.std.proofs.Common.{◌≡◌, ℕ, Some, List, Result, Ok, Err, IfOk, MatchResult, ap, sym, ◌∙◌}
use Rattle.radio_parts_station.proofs.Words.{option_copied, Session, session_of, found_named}
use Rattle.radio_parts_station.proofs.station.StationState.shared_name.Goals as goal

-- an equal name is named alike
named_as : {E : Type 0} (P : E → Type 0) (result : Result (List ℕ) E) (a b : List ℕ) → a ≡ b → MatchResult result (λ name. name ≡ a) P
    → IfOk result (λ name. name ≡ b)
named_as P (Ok name) a b same e = e ∙ same
named_as P (Err refused) a b same e = tt

pub returns-in-Some : goal.returns-in-Some
returns-in-Some c =
    let live = c.args.self.now.live in
    let found : session_of live c.args.mount ≡ Some c.in-Some.session.now = sym c.session.ensures ∙ ap option_copied c.in-Some.is in
    named_as _ c.clone.result c.session-in-Some.inside.mount c.args.mount
    (ap (λ (x : Session). x.mount) c.session-in-Some.view_is ∙ found_named live c.args.mount c.in-Some.session.now found) c.clone.ensures.cases
