-- Connections that have just come.
use Rattle.std.proofs.Common.{◌≡◌, ℕ, List, [], ◌++◌, refl, sym, ◌∙◌, ap}
use Rattle.radio_addr.specs.declared.peer.Peer.{Peer}
use Rattle.radio_events.specs.declared.reply.Reply.{Reply}
use Rattle.radio_events.specs.declared.reply.Reply.TheVariants.{Arrived, Feeding, Seated, Drawn, Noted, Text, Deny, Finished, Stray}
use Rattle.radio_answers.specs.declared.web_answers.WebAnswers.{WebAnswers}
use Rattle.radio_connections.specs.declared.conn.ConnStatus.{ConnStatus}
use Rattle.radio_connections.specs.declared.conn.Fate.TheVariants.{Open, Ended}
use Rattle.radio_connections.specs.Lines.{Calls}
use Rattle.radio_connections.specs.Connections.{Connection, newly_come, ClientIsTurnedAway}
use Rattle.radio_connections.specs.Course.{Arrival, LetsNobodyIn, newcomer, stranger, arrives, turned_away}
use Rattle.radio_connections.specs.Admission.{IsTakenIn, first_entries}
use Rattle.radio_connections.proofs.Standing.{stands_so}

pub comes_in : (web : WebAnswers) (peer : Peer) (id : ℕ) (given taken : List ℕ) (calls : Calls) (ms : ℕ)
    → IsTakenIn (record { web = web; peer = peer; reply = Arrived id }) given taken (newly_come web id peer given taken calls ms)
comes_in web peer id given taken calls ms g t =
    let c = newly_come web id peer given taken calls ms in
    stands_so c [] _ (newcomer web peer id) Open (arrives refl) (sym g) refl refl refl refl refl refl (λ o. refl) (sym (ap (λ (xs : List ℕ). xs ++ []) t))

-- a reply that gives no number
pub lets_nobody_in : (reply : Reply) → ((id : ℕ) → reply ≡ Arrived id → ⊥) → LetsNobodyIn reply
lets_nobody_in (Arrived id) other = other id refl
lets_nobody_in Feeding other = tt
lets_nobody_in (Seated interval shown) other = tt
lets_nobody_in (Drawn bytes title) other = tt
lets_nobody_in Noted other = tt
lets_nobody_in (Text text) other = tt
lets_nobody_in (Deny rule) other = tt
lets_nobody_in (Finished rule) other = tt
lets_nobody_in Stray other = tt

none_made : (peer : Peer) (reply : Reply) → LetsNobodyIn reply → first_entries peer reply ≡ []
none_made peer (Arrived id) nobody = absurd nobody
none_made peer Feeding nobody = refl
none_made peer (Seated interval shown) nobody = refl
none_made peer (Drawn bytes title) nobody = refl
none_made peer Noted nobody = refl
none_made peer (Text text) nobody = refl
none_made peer (Deny rule) nobody = refl
none_made peer (Finished rule) nobody = refl
none_made peer Stray nobody = refl

pub is_turned_away : (arrival : Arrival) (given taken : List ℕ) (ms : ℕ) (c : Connection) → LetsNobodyIn arrival.reply
    → ClientIsTurnedAway arrival.web arrival.reply given taken ms c → IsTakenIn arrival given taken c
is_turned_away arrival given taken ms c nobody away g t =
    stands_so c [] (first_entries arrival.peer arrival.reply) (stranger arrival) Ended (turned_away nobody) (sym (away.given_so_far ∙ g))
    (sym (none_made arrival.peer arrival.reply nobody)) refl
    (ap (λ (s : ConnStatus). s.sits) (sym away.status))
    (ap (λ (s : ConnStatus). s.has_left) (sym away.status)) (ap (λ (s : ConnStatus). s.fate) away.status) refl (λ o. absurd (cc))
    (sym away.outgoing ∙ ap (λ (xs : List ℕ). xs ++ c.outgoing) (sym (away.taken_so_far ∙ t)))
