-- What is known of each label, whatever became of its connection.
use Rattle.std.proofs.Common.{ℕ, List, Option, None, Some, sym, subst}
use Rattle.radio_headline.proofs.Words.{Pulling, WebAnswers, Conversation, Connection, Client, Relay, Entry}
use Rattle.radio_headline.proofs.Logs.{Each, each_as}
use Rattle.radio_headline.proofs.RunLemmas.{IsOwn, IsIdling}
use Rattle.radio_headline.proofs.Connections.{AsksNothing, Facts, HasAskedNothing, HasSentGet, IsSource, IsPulling, IsClosed, IsSo}
use Rattle.radio_headline.proofs.Connections.{Stage, AtHead, AfterGet, AtBody, AfterBody, Refused, RelayStage, AtAnswer, InAnswer}
use Rattle.radio_headline.proofs.ClientEvents.{client_owns, idle_asks_nothing}
use Rattle.radio_headline.proofs.OwnLogs.{relay_owns}

module _ (web : WebAnswers) (bytes : List ℕ) (log : List Entry) (given : List ℕ) where
  of_stage : (conversation : Conversation) → Stage web bytes log given conversation → Facts web bytes log given
  of_stage conversation (AtHead idle arrived idles hears held t) =
      HasAskedNothing (subst (Each AsksNothing) (sym arrived)
      ((λ a. a), each_as (IsIdling conversation.id) AsksNothing (λ e i. idle_asks_nothing conversation.id e.event i) idle idles))
  of_stage conversation (AfterGet g hears t) = HasSentGet g
  of_stage conversation (AtBody f told none hears) = IsSource f told
  of_stage conversation (AfterBody f told hears) = IsSource f told
  of_stage conversation (Refused h hears) = HasAskedNothing h

  of_relay : (pulling : Pulling) → RelayStage bytes log pulling → Facts web bytes log given
  of_relay pulling (AtAnswer st lg) = HasAskedNothing (subst (Each AsksNothing) (sym lg) tt)
  of_relay pulling (InAnswer p st whole calm) = IsPulling p

  pub known_of : (c : Option (Option Connection)) → IsSo web c bytes log given → IsClosed web bytes log given
  known_of None h = record {
    own = subst (λ (xs : List Entry). Each (IsOwn xs) xs) (sym h.1) tt;
    facts = HasAskedNothing (subst (Each AsksNothing) (sym h.1) tt);
  }
  known_of (Some None) h = h
  known_of (Some (Some (Client conversation))) h = record {
    own = client_owns conversation.id conversation.peer h.others log h.arrived h.his;
    facts = of_stage conversation h.stage;
  }
  known_of (Some (Some (Relay pulling))) h = record { own = relay_owns log h.own; facts = of_relay pulling h.stage }
