use Rattle.std.proofs.Common.{[], ◌∷◌, ◌++◌, subst}
use Rattle.radio_core.specs.Lagging.{NobodyLags}
use Rattle.radio_headline.proofs.Words.{opening}
use Rattle.radio_laws.specs.Limits.{IsWithinLimits}
use Rattle.radio_laws.specs.Users.{SittersAreLetIn}
use Rattle.radio_headline.proofs.Logs.{after_joined}
use Rattle.radio_headline.proofs.laws.events_are_lawful.Goals as goal

pub returns : goal.returns
returns c settings lists events event =
    let then_one = after_joined (opening settings lists) events (event ∷ []) in
    record {
      serving = record {
        happens = c.whoever_may_is_served.ensures.served settings lists events;
        handed = c.access_is_kept.ensures.access settings lists events event;
        title = c.listeners_are_told_titles.ensures.told settings lists events event;
        begins = c.listeners_begin_at_a_block.ensures.seated settings lists events event;
        keeps = c.stretches_are_whole.ensures.mounts settings lists events event;
        moves = c.listeners_walk_on.ensures.turns settings lists events event;
        no_other_moves = c.listeners_walk_on.ensures.whole settings lists events event;
        silent = c.commands_are_done.ensures.silent settings lists events event;
      };
      denying = record {
        denied = c.denials_are_the_policys.ensures.denied settings lists events event;
        denies = c.denials_are_the_policys.ensures.denies settings lists events event;
        addresses = c.denials_are_the_policys.ensures.addresses settings lists events;
        sources = c.denials_are_the_policys.ensures.sources settings lists events event;
        known = c.denials_are_the_policys.ensures.known settings lists events;
        by_limits = c.limits_are_kept.ensures.denied settings lists events event;
        finished = c.finished_are_told.ensures.finished settings lists events event;
        nothing = c.whoever_may_is_served.ensures.nothing settings lists events event;
      };
      limits = record {
        within = subst IsWithinLimits then_one (c.limits_are_kept.ensures.within settings lists (events ++ event ∷ []));
        admits = c.limits_are_kept.ensures.admitted settings lists events event;
        near = subst NobodyLags then_one (c.nobody_lags.ensures.near settings lists (events ++ event ∷ []));
        in_time = c.nobody_outstays.ensures.in_time settings lists events;
      };
      listing = record {
        only_who_may = c.sight_is_kept.ensures.may settings lists events event;
        who_may = c.sight_is_kept.ensures.served settings lists events;
        who_visits = c.sight_is_kept.ensures.visited settings lists events;
        unfed = c.sight_is_kept.ensures.unfed settings lists events;
        hidden = c.sight_is_kept.ensures.hidden settings lists events;
        hidden_on_the_web = c.sight_is_kept.ensures.untold settings lists events;
        alike = λ others files more. c.sight_is_kept.ensures.alike settings others lists files events more;
      };
      changing = record {
        only_who_may = c.commands_are_done.ensures.may settings lists events event;
        who_may = c.commands_are_done.ensures.served settings lists events;
        kept = c.commands_are_done.ensures.kept settings lists events event;
        fallbacks = c.commands_are_done.ensures.fallbacks settings lists events event;
        users = c.users_change_one_by_one.ensures.steps settings lists events event;
        sitters = subst SittersAreLetIn then_one (c.users_change_one_by_one.ensures.sitters settings lists (events ++ event ∷ []));
      };
    }
