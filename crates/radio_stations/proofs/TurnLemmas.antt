-- A connection over its turns.
use Rattle.std.proofs.Common.{◌≡◌, ℕ, List, [], ◌∷◌, ◌++◌, refl, sym, subst, ◌∙◌, append_assoc}
use Rattle.radio_stations.proofs.Words.{append-nil, Peer, Entry, WebAnswers, Arrive, Reply, Arrived, entry, Steps, ShowsRequest, IsStableReading, PiecesAreHeardAsOne, Fate, Connection, Arrival, LetsNobodyIn}
use Rattle.radio_stations.proofs.Words.{first_entries, IsHanded, Stands, MeansItsBytes, AreTurnsOf, ConnectionTurn, ConnectionsMeanTheirBytes, IsServedThrough, IsNotLetIn, StrangersAreOnlyAnswered, applied_in}
use Rattle.radio_stations.proofs.Courses.{meant_all, meant_so}
use Rattle.radio_stations.proofs.Strangers.{let_in_so, nobodys_so}

record AreTheSame (x y : Entry) (xs ys : List Entry) : Type 0 where
  first : x ≡ y
  others : xs ≡ ys

are_the_same : (x y : Entry) (xs ys : List Entry) → x ∷ xs ≡ y ∷ ys → AreTheSame x y xs ys
are_the_same x y xs ys e = record { first = cc; others = cc }

same_id : (n m : ℕ) → Arrived n ≡ Arrived m → n ≡ m
same_id n m e = cc

none_behind : (xs ys : List Entry) → xs ++ ys ≡ [] → ys ≡ []
none_behind [] ys e = e
none_behind (x ∷ xs) ys e = absurd (cc)

abbrev came_so : WebAnswers → Peer → Reply → Arrival
came_so web peer reply = record { web = web; peer = peer; reply = reply }

-- the state of the connection gives what its bytes mean
served_so : IsStableReading ShowsRequest → PiecesAreHeardAsOne → (web : WebAnswers) (peer : Peer) (id : ℕ) (c : Connection) (applied : List Entry)
    → Stands (came_so web peer (Arrived id)) c (entry (Arrive peer) (Arrived id) ∷ applied) → IsServedThrough web peer id c applied
served_so settled pieces web peer id c applied st =
    let arrival = came_so web peer (Arrived id) in
    let let_in = let_in_so arrival c.id st.standing st.course id refl in
    let his = same_id c.id id (sym let_in) in
    let m = meant_so settled pieces arrival c.id let_in st.standing st.course in
    let same = are_the_same (entry (Arrive peer) (Arrived c.id)) (entry (Arrive peer) (Arrived id)) m.others applied (sym m.arrived ∙ st.same_entries) in
    let means = meant_all arrival c.id st.standing m st.same_pending in
    record {
      same = his;
      stands = st;
      means =
          subst (λ (n : ℕ). MeansItsBytes web peer n c.given c.status.fate applied) his
          (subst (λ (xs : List Entry). MeansItsBytes web peer c.id c.given c.status.fate xs) same.others
          (subst (λ (f : Fate). MeansItsBytes web peer c.id c.given f m.others) st.same_fate
          (subst (λ (xs : List ℕ). MeansItsBytes web peer c.id xs st.standing.fate m.others) st.same_given means)));
    }

told_so : (web : WebAnswers) (peer : Peer) (reply : Reply) (c : Connection) (applied : List Entry) → LetsNobodyIn reply
    → Stands (came_so web peer reply) c (first_entries peer reply ++ applied) → IsNotLetIn web reply c applied
told_so web peer reply c applied nobody st =
    let n = nobodys_so (came_so web peer reply) c.id nobody st.standing st.course in
    record {
      nobodys = sym st.same_left ∙ n.gone;
      none = none_behind (first_entries peer reply) applied (sym st.same_entries ∙ n.none);
      handed = subst (λ (xs : List ℕ). IsHanded c.status.fate xs c.taken c.outgoing) n.text st.handed;
    }

module _ {S : Type 0} (steps : Steps S) where
  stands_on : (arrival : Arrival) (first last : Connection) (turns : List (ConnectionTurn steps)) (past : List Entry) → AreTurnsOf steps first turns last
      → Stands arrival first past → Stands arrival last (past ++ applied_in steps turns)
  stands_on arrival first last [] past same st =
      subst (λ (xs : List Entry). Stands arrival last xs) (sym (append-nil past)) (subst (λ (c : Connection). Stands arrival c past) (sym same) st)
  stands_on arrival first last (turn ∷ turns) past (begins, others) st =
      subst (λ (xs : List Entry). Stands arrival last xs) (append_assoc past turn.serves.entries (applied_in steps turns))
      (stands_on arrival turn.after last turns (past ++ turn.serves.entries) others
      (turn.serves.served.stands arrival past (subst (λ (c : Connection). Stands arrival c past) (sym begins) st)))

  pub mean_their_bytes : IsStableReading ShowsRequest → PiecesAreHeardAsOne → ConnectionsMeanTheirBytes steps
  mean_their_bytes settled pieces web peer id first last turns taken are =
      served_so settled pieces web peer id last (applied_in steps turns)
      (stands_on (came_so web peer (Arrived id)) first last turns (entry (Arrive peer) (Arrived id) ∷ []) are (taken refl refl))

  pub only_answered : StrangersAreOnlyAnswered steps
  only_answered web peer reply first last turns nobody taken are =
      told_so web peer reply last (applied_in steps turns) nobody
      (stands_on (came_so web peer reply) first last turns (first_entries peer reply) are (taken refl refl))
