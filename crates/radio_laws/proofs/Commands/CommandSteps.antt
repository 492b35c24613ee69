-- the outcome of a command that the policy allows
use Rattle.std.proofs.Common.{◌≡◌, ℕ, refl, ap, sym, subst, ◌∙◌}
use Rattle.radio_laws.proofs.Words.{Verdict, Allow, verdict_in, Peer, Asked, Event, Answer, Obey, Outcome, Standing, Undecided, IsCommanded, changed, obeys, does_asked, said_of, counts_by, on_verdict, if_undecided}
use Rattle.radio_laws.proofs.Words.{outcome, reply_to, world_after, rows_to_command, World, standing_of}
use Rattle.radio_events.specs.declared.command.Asked.TheVariants.{Command as Asks}
use Rattle.radio_events.specs.declared.command.Command.{Command as TheCommand}
use Rattle.radio_events.specs.declared.reply.Reply.TheVariants.{Text as SaysText}

does_so : (w : World) (id : ℕ) (command : TheCommand) (now : Standing) (peer : Peer) (verdict : Verdict) (asked : Asked) → now ≡ Undecided peer → verdict ≡ Allow
    → asked ≡ Asks command → if_undecided now (λ _. on_verdict verdict (Answer id) (does_asked w id asked)) ≡ obeys w id command
does_so w id command now peer verdict asked e v is = rw (e, v, is) refl

module _ (w : World) (event : Event) {command : TheCommand} (c : IsCommanded w event command) where
  comes_of : outcome w event ≡ obeys w c.asked.id command
  unfolding outcome
  comes_of =
      ap (outcome w) c.is_event
      ∙ does_so w c.asked.id command (standing_of w c.asked.id) c.peer (verdict_in (rows_to_command w c.asked)) c.asked.asked c.undecided c.allowed c.is_asked

  pub later_so : world_after w event ≡ changed w (Obey c.asked.id command)
  unfolding world_after
  later_so = ap (λ (o : Outcome). changed w o.change) comes_of

  pub told_so : reply_to w event ≡ SaysText (said_of command (counts_by w command))
  unfolding reply_to
  told_so = ap (λ (o : Outcome). o.reply) comes_of

  -- what holds of the world that the command makes holds after the event
  pub after : (P : World → Type 0) → P (changed w (Obey c.asked.id command)) → P (world_after w event)
  after P holds = subst P (sym later_so) holds
