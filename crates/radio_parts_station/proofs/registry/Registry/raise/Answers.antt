use Rattle.std.proofs.Common.{◌≡◌, List, ap, ◌∙◌}
use Rattle.radio_parts_station.proofs.Words.{LiveMount, Registry, Relay, risen, with_relay, put_back}
use Rattle.radio_parts_station.proofs.RelayRows.{restored}
use Rattle.radio_parts_station.proofs.registry.Registry.raise.Goals as goal

pub returns-in-Err-clause-err : goal.returns-in-Err-clause-err
returns-in-Err-clause-err c =
    ap (with_rows c.insert-2.new.self) as_before ∙ ap (λ (live : List LiveMount). with_rows live c.self.inside.relays) c.in-Err.ensures.err ∙ c.self.view_is
  where
    with_rows : List LiveMount → List Relay → Registry
    with_rows live rows = record {
      time = c.self.inside.time;
      settings = c.self.inside.settings;
      lists = c.self.inside.lists;
      live = live;
      fallbacks = c.self.inside.fallbacks;
      clients = c.self.inside.clients;
      relays = rows;
      last_id = c.self.inside.last_id;
    }

    as_before : c.put_relay_back.new.relays ≡ c.self.inside.relays
    as_before =
        let relays = c.self.inside.relays in
        let id = c.args.id in
        let new = risen id c.args.mount in
        c.put_relay_back.ensures
        ∙ ap (λ (rows : List Relay). put_back rows id c.relay_state-before.result) c.in_ok-insert.ensures.ok
        ∙ ap (put_back (with_relay relays new) id) c.relay_state-before.ensures
        ∙ restored new relays c.len-relays.ensures.rising
