-- A core's replies depend on a source's data.
use Rattle.std.proofs.Common.{◌≡◌, ◌⊎◌, ◌++◌, sym, subst, ◌∙◌}
use Rattle.radio_floor.proofs.Words.{Event, Push, SourceEnd, Reply, Represents, StandsForSome, core_steps, reply_to, world_after, World, CoresGoByData}
use Rattle.radio_events.specs.Replies.{IsQuiet, EndsByRule}
use Rattle.radio_core.specs.CoreReplies.{CoresGoByTheirStates}
use Rattle.radio_core.specs.SourceReplies.{to_data, to_end, SourcesAreToldByTheirData, EndsAreTold}
use Rattle.radio_session.specs.DataServers.{HasOneReply}

-- a step of a core, from a state that it represents
record IsStep (core core' : World) (event : Event) (reply : Reply) (w : World) : Type 0 where
  pub before : Represents core w
  pub replies : reply ≡ reply_to w event
  pub after : Represents core' (world_after w event)

step_from : (core core' : World) (event : Event) (reply : Reply) → core_steps core event reply core' → (w : World) → Represents core w
    → IsStep core core' event reply w
step_from core core' event reply steps w stands =
    let s = steps.1 w stands in
    record { before = stands; replies = s.1.0; after = subst (λ (x : World). Represents core' x) s.1.1 s.2 }

stepped : (core core' : World) (event : Event) (reply : Reply) → core_steps core event reply core' → (w : World) × IsStep core core' event reply w
unfolding StandsForSome
stepped core core' event reply steps = (steps.0.0, step_from core core' event reply steps steps.0.0 steps.0.1)

one_reply : CoresGoByTheirStates → HasOneReply core_steps
one_reply cores from to other event reply again s t =
    let a = stepped from to event reply s in
    let b = step_from from other event again t a.0 a.1.before in
    (a.1.replies ∙ sym b.replies, cores.is_one to other (world_after a.0 event) a.1.after b.after)

pub cores_go_by_data : CoresGoByTheirStates → SourcesAreToldByTheirData → EndsAreTold → CoresGoByData
cores_go_by_data cores blocks ends id = record {
  to_data = λ core bytes. to_data core id bytes;
  to_end = λ core bytes. to_end core id;
  is_one = one_reply cores;
  at_block = λ core core' block reply valid s.
      let a = stepped core core' (Push id block) reply s in
      let by_data = blocks a.0 id block valid in (
        a.1.replies ∙ by_data.at_block ∙ sym (cores.to_data core a.0 id block a.1.before),
        subst (λ (r : Reply). IsQuiet r ⊎ EndsByRule r) (sym a.1.replies) by_data.kinds,
      );
  after_block = λ core core' block rest reply valid s quiet.
      let a = stepped core core' (Push id block) reply s in
      let by_data = blocks a.0 id block valid in
      let on = subst IsQuiet a.1.replies quiet in
      let later = world_after a.0 (Push id block) in (
        cores.to_data core a.0 id (block ++ rest) a.1.before ∙ by_data.more rest on ∙ sym (cores.to_data core' later id rest a.1.after),
        cores.to_end core a.0 id a.1.before ∙ by_data.end_stays on ∙ sym (cores.to_end core' later id a.1.after),
      );
  at_rule = λ core core' block rest reply valid s rule.
      let a = stepped core core' (Push id block) reply s in
      cores.to_data core a.0 id (block ++ rest) a.1.before
      ∙ (blocks a.0 id block valid).rule_stays rest (subst EndsByRule a.1.replies rule) ∙ sym a.1.replies;
  at_end = λ core core' reply s.
      let a = stepped core core' (SourceEnd id) reply s in
      a.1.replies ∙ ends a.0 id ∙ sym (cores.to_end core a.0 id a.1.before);
}
