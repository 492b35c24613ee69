-- The first fault of a table, by those of the groups of its rows.
use Rattle.std.proofs.Common.{◌≡◌, List, [], ◌∷◌, ◌++◌, Option, refl, ap, ◌∙◌}
use Rattle.std.specs.Option.{option_or}
use Rattle.toml.specs.Data.{Members}
use Rattle.radio_keys.specs.declared.fault.SettingsFault.{SettingsFault}
use Rattle.radio_keys.specs.declared.key.Key.TheVariants.{SourcePassword, AdminUser, AdminPassword, MountName, Server, Port, OnDemand}
use Rattle.radio_keys.specs.declared.key.Key.TheVariants.{MasterServer, MasterPort, MasterUsername, MasterPassword, MasterUpdateInterval}
use Rattle.radio_keys.specs.Rows.{faults_in, first_fault, flag, key_row, mount_name, number, optional, required, row_fault, text}
use Rattle.radio_settings.specs.Access.{access_fault, address_keys, addresses_fault, relay_access_fault, relay_access_keys}
use Rattle.radio_settings.specs.Logins.{login_fault, login_keys}
use Rattle.radio_settings.specs.Masters.{master_fault, master_keys}
use Rattle.radio_settings.specs.Mounts.{listener_keys, listeners_fault, mount_fault, options_fault, source_fault, source_keys, stream_fault, stream_keys}
use Rattle.radio_settings.specs.Mounts.{user_keys, users_fault}
use Rattle.radio_settings.specs.Relays.{relay_mounts_fault, pair_fault, pair_keys, relay_fault, relay_mount_keys}
use Rattle.radio_settings.specs.Slave.{slave_fault}
use Rattle.radio_settings.proofs.FaultLemmas.{first_fault-append, in_groups}

-- two groups and a row
in_two_and_one : (a b : List (Option SettingsFault)) (f : Option SettingsFault)
    → first_fault (a ++ (b ++ f ∷ [])) ≡ first_fault (first_fault a ∷ first_fault b ∷ f ∷ [])
in_two_and_one a b f = first_fault-append a (b ++ f ∷ []) ∙ ap (option_or (first_fault a)) (first_fault-append b (f ∷ []))

pub access_parts : (t : Members) → access_fault t ≡ first_fault (
    row_fault (key_row SourcePassword text required) t ∷ login_fault AdminUser AdminPassword t
    ∷ first_fault (relay_access_fault t ∷ addresses_fault t ∷ []) ∷ [])
unfolding access_fault login_fault relay_access_fault addresses_fault
access_parts t =
    ap (option_or (row_fault (key_row SourcePassword text required) t))
    (in_groups (faults_in (login_keys AdminUser AdminPassword) t) (faults_in relay_access_keys t) (faults_in address_keys t))

pub options_parts : (t : Members) → options_fault t ≡ first_fault (
    source_fault t ∷ listeners_fault t ∷ first_fault (stream_fault t ∷ users_fault t ∷ []) ∷ [])
unfolding options_fault source_fault listeners_fault stream_fault users_fault
options_parts t =
    first_fault-append (faults_in source_keys t) (faults_in listener_keys t ++ (faults_in stream_keys t ++ faults_in user_keys t))
    ∙ ap (option_or (source_fault t)) (in_groups (faults_in listener_keys t) (faults_in stream_keys t) (faults_in user_keys t))

pub mount_parts : (t : Members) → mount_fault t ≡ option_or (row_fault (key_row MountName mount_name required) t) (options_fault t)
unfolding mount_fault options_fault
mount_parts t = refl

pub relay_parts : (t : Members) → relay_fault t ≡ first_fault (
    master_fault Server Port t ∷ relay_mounts_fault t ∷ pair_fault t ∷ row_fault (key_row OnDemand flag optional) t ∷ [])
unfolding relay_fault master_fault relay_mounts_fault pair_fault
relay_parts t =
    let mounts = faults_in relay_mount_keys t in
    let pair = faults_in pair_keys t in
    let on_demand = row_fault (key_row OnDemand flag optional) t in
    first_fault-append (faults_in (master_keys Server Port) t) (mounts ++ (pair ++ on_demand ∷ []))
    ∙ ap (option_or (master_fault Server Port t)) (in_two_and_one mounts pair on_demand)

pub slave_parts : (t : Members) → slave_fault t ≡ first_fault (
    master_fault MasterServer MasterPort t ∷ login_fault MasterUsername MasterPassword t
    ∷ row_fault (key_row MasterUpdateInterval (number 1 86400) optional) t ∷ [])
unfolding slave_fault master_fault login_fault
slave_parts t =
    in_two_and_one (faults_in (master_keys MasterServer MasterPort) t) (faults_in (login_keys MasterUsername MasterPassword) t)
    (row_fault (key_row MasterUpdateInterval (number 1 86400) optional) t)
