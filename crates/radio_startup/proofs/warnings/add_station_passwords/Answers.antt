use Rattle.std.proofs.Common.{codes, ap, ◌++◌, [], ◌∙◌}
use Rattle.std.specs.Option.{option_to_list}
use Rattle.radio_startup.specs.Warnings.{weak_password, weak_relay_password}
use Rattle.radio_startup.proofs.StepsLemmas.{added_three}
use Rattle.radio_startup.proofs.warnings.add_station_passwords.Goals as goal

pub returns : goal.returns
returns c =
    let source = weak_password (codes "source-password") [] c.args.access.now.source_password in
    let admin = weak_password (codes "admin-password") [] c.args.access.now.admin.password in
    let relay = weak_relay_password c.args.access.now.relays.password in
    added_three c.args.to.now.items (option_to_list source) (option_to_list admin) (option_to_list relay) c.add.new.to.items c.add-2.new.to.items c.add-3.new.to.items
    (c.in_ok-add.ensures ∙ ap (λ w. c.args.to.now.items ++ option_to_list w) (c.weak_password.ensures ∙ ap (λ p. weak_password (codes "source-password") [] p) c.as_str-source.ensures))
    (c.in_ok-add-2.ensures ∙ ap (λ w. c.add.new.to.items ++ option_to_list w) (c.weak_password-2.ensures ∙ ap (λ p. weak_password (codes "admin-password") [] p) c.as_str-admin.ensures))
    (c.in_ok-add-3.ensures ∙ ap (λ w. c.add-2.new.to.items ++ option_to_list w) c.weak_relay_password.ensures)
