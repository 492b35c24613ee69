use Rattle.std.proofs.Common.{◌≡◌, ◌∙◌, ◌++◌, ap, sym, append_assoc, length}
use Rattle.radio_source.specs.Place.{after, data_of}
use Rattle.radio_source.specs.Position.{data_ahead, past_data}
use Rattle.radio_source.proofs.PlaceLemmas.{after_run, data_of_run}
use Rattle.radio_source.proofs.position.Position.pass_some.Goals as goal

pub returns-then-ahead-gt0-clause-place : goal.returns-then-ahead-gt0-clause-place
returns-then-ahead-gt0-clause-place c =
    let front = c.split_at.result.0.now in
    let rest = c.split_at.result.1.now in
    let place = c.args.self.now in
    let size : length front ≡ c.data_ahead-ahead.result = c.split_at.ensures.front_len in
    let ahead : length front ≡ data_ahead place (length c.args.bytes.now) = size ∙ c.data_ahead-ahead.ensures.value in
    ap (λ p. after p rest) (c.pass_data.ensures ∙ ap (past_data place) (sym size))
    ∙ (after_run place front rest (length c.args.bytes.now) ahead ∙ ap (after place) (sym c.split_at.ensures.by_index.0))

pub returns-then-ahead-gt0-clause-found : goal.returns-then-ahead-gt0-clause-found
returns-then-ahead-gt0-clause-found c =
    let front = c.split_at.result.0.now in
    let rest = c.split_at.result.1.now in
    let place = c.args.self.now in
    let before = c.args.gathering.now in
    let size : length front ≡ c.data_ahead-ahead.result = c.split_at.ensures.front_len in
    let ahead : length front ≡ data_ahead place (length c.args.bytes.now) = size ∙ c.data_ahead-ahead.ensures.value in
    ap (λ t. t ++ data_of c.pass_data.new.self rest) c.in_ok-add.ensures
    ∙ (append_assoc before front (data_of c.pass_data.new.self rest)
    ∙ (ap (λ p. before ++ (front ++ data_of p rest)) (c.pass_data.ensures ∙ ap (past_data place) (sym size))
    ∙ (ap (λ t. before ++ t) (data_of_run place front rest (length c.args.bytes.now) ahead)
    ∙ ap (λ t. before ++ data_of place t) (sym c.split_at.ensures.by_index.0))))
