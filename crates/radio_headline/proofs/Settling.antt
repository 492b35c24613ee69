-- Events of a client's connection are exchanged.
use Rattle.std.proofs.Common.{◌≡◌, ℕ, List, ◌∷◌, ◌++◌, Some, sym, ap, subst, ◌∙◌, append_assoc}
use Rattle.radio_headline.proofs.Words.{Peer, Entry, Event, client_in, World, Running, Conversation, saying_now, exchanged, Client, connection_unless, applied, WebAnswers}
use Rattle.radio_headline.proofs.Logs.{entries, Each}
use Rattle.radio_headline.proofs.AppliedLemmas.{EachAsked}
use Rattle.radio_headline.proofs.Connections.{arrival}
use Rattle.radio_headline.proofs.Connections.{Facts, Stage}
use Rattle.radio_headline.proofs.Connections.{IsClient, IsSo}
use Rattle.radio_headline.proofs.ClientEvents.{settles}

pub logged : {A : Type 0} (first : A) (xs ys zs : List A) → first ∷ xs ++ ys ++ zs ≡ first ∷ xs ++ (ys ++ zs)
logged first xs ys zs = append_assoc (first ∷ xs) ys zs

-- An input arrives on a client's connection, whose conversation is in this state.
module _ (web : WebAnswers) (w : World) (bytes : List ℕ) (log : List Entry) (given : List ℕ) (conversation : Conversation) (c : IsClient web bytes log given conversation) where
  abbrev pub CameOn : List ℕ → Conversation → List Event → Type 0
  CameOn later now events =
      let y = exchanged w now.id now.says events in
      IsSo web (Some (connection_unless (Some (Client (saying_now now y.exchange.says))) y.exchange.state)) later
      (log ++ entries w (applied w now.id now.says events)) (given ++ y.exchange.bytes)

  abbrev id : ℕ
  id = conversation.id

  pub settled_in : (now : Conversation) (later : List ℕ) (events : List Event) → now.id ≡ id → now.peer ≡ conversation.peer
      → EachAsked (λ e. client_in e ≡ Some id) events
      → ((exchanged w now.id now.says events).exchange.state ≡ Running
      → Stage web later (log ++ entries w (applied w now.id now.says events)) (given ++ (exchanged w now.id now.says events).exchange.bytes)
      (saying_now now (exchanged w now.id now.says events).exchange.says))
      → Facts web later (log ++ entries w (applied w now.id now.says events)) (given ++ (exchanged w now.id now.says events).exchange.bytes)
      → CameOn later now events
  settled_in now later events same also his stage facts =
      settles web w later log given now events c.others
      (c.arrived ∙ ap (λ (n : ℕ). arrival conversation.peer n ∷ c.others) (sym same) ∙ ap (λ (p : Peer). arrival p now.id ∷ c.others) (sym also))
      (subst (λ (n : ℕ). Each (λ e. client_in e.event ≡ Some n) c.others) (sym same) c.his) c.goes_on
      (subst (λ (n : ℕ). EachAsked (λ e. client_in e ≡ Some n) events) (sym same) his) stage facts
