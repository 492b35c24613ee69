use Rattle.radio_chronicle.proofs.TotalLemmas.{adds_up}
use Rattle.radio_chronicle.proofs.laws.histories_add_up.Goals as goal

pub returns : goal.returns
returns c = record {
  add_up = λ settings lists history run. adds_up settings lists (c.clients_and_seats_add_up.ensures.add_up settings lists)
      (c.events_are_of_their_clients.ensures.own settings lists) history run;
}
