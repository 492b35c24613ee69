-- which rules the rows of a command have
use Rattle.std.proofs.Common.{◌≡◌, ◌++◌, false, Bool, Option, Some, None}
use Rattle.radio_laws.proofs.Words.{Rule, NoCommand, AdminPassword, SourcePassword, RelayPassword, MissingArgument, NoMount, NoDestination, SameMount, NoClient, NoUsers, NoUser, CommandFacts, access_rows, needs_rows}
use Rattle.radio_laws.proofs.Words.{password_rule, command_rows, Each}
use Rattle.radio_policy.specs.declared.facts.CommandAccess.{CommandAccess}
use Rattle.radio_policy.specs.declared.facts.CommandAccess.TheVariants.{Everybody, Pair}
use Rattle.radio_policy.specs.declared.facts.CommandNeeds.{CommandNeeds}
use Rattle.radio_policy.specs.declared.facts.CommandNeeds.TheVariants.{Argument, Nothing, Mount, Destination, Client, Users, User}
use Rattle.radio_policy.specs.declared.facts.Opener.{Opener}
use Rattle.radio_policy.specs.declared.facts.Opener.TheVariants.{Admin, Source, Relay}

-- none of them is meant
module _ (meant : Rule → Bool) (no_command : meant NoCommand ≡ false) (admin : meant AdminPassword ≡ false) (source : meant SourcePassword ≡ false)
    (relay : meant RelayPassword ≡ false) (argument : meant MissingArgument ≡ false) (mount : meant NoMount ≡ false)
    (destination : meant NoDestination ≡ false) (same : meant SameMount ≡ false) (client : meant NoClient ≡ false) (users : meant NoUsers ≡ false) (user : meant NoUser ≡ false) where
  needed : (needs : CommandNeeds) → Each (λ row. meant row.rule ≡ false) (needs_rows needs)
  needed Argument = (argument, tt)
  needed Nothing = tt
  needed (Mount live) = (mount, tt)
  needed (Destination facts) = (mount, (destination, (same, tt)))
  needed (Client live sits) = (mount, (client, tt))
  needed (Users has_users) = (users, tt)
  needed (User has_users is_listed) = (users, (user, tt))

  to_open : (opener : Opener) → meant (password_rule opener) ≡ false
  to_open Admin = admin
  to_open Source = source
  to_open Relay = relay

  to_give : (access : CommandAccess) (needs : CommandNeeds) → Each (λ row. meant row.rule ≡ false) (access_rows access ++ needs_rows needs)
  to_give Everybody needs = needed needs
  to_give (Pair opener sent) needs = (to_open opener, needed needs)

  pub of_no_command : (facts : Option CommandFacts) → Each (λ row. meant row.rule ≡ false) (command_rows facts)
  of_no_command None = (no_command, tt)
  of_no_command (Some facts) = to_give facts.access facts.needs
