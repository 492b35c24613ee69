use Rattle.std.proofs.Common.{◌≡◌}
use Rattle.std.specs.List.{find}
use Rattle.form_urlencoded.specs.Form.{raw_pairs}
use Rattle.form_urlencoded.specs.Parse.{raw_pairs_left}
use Rattle.radio_admin.specs.Arguments.{is_argument_named}
use Rattle.radio_admin.proofs.query.argument.Given as goal

abbrev pub invariant-loop-sent_name : goal.invariant-loop-sent_name
invariant-loop-sent_name l =
    find (is_argument_named l.name) (raw_pairs_left l.sent_name-iterator) ≡ find (is_argument_named l.name) (raw_pairs l.query)
