-- From the connections and pulls of a history to what its listeners are given.
use Rattle.std.proofs.Common.{◌≡◌, inl, inr, ℕ, true, false, List, [], ◌∷◌, ◌++◌, refl, sym, ap, subst, ◌∙◌}
use Rattle.radio_stations.proofs.Words.{if◌then◌else◌, AllByRecursion, Peer, WebAnswers, Entry, Arrive, Leave, Reply, Arrived, Feeding, Seated, Drawn, Noted, Text, Deny, Finished, Stray, entry, World, opening, IsRun}
use Rattle.radio_stations.proofs.Words.{asking, said, Connection, LetsNobodyIn, IsHanded, HasCourse, HasHappened, HasLabelOrMoment, NothingWas, ServedCoursesHearSlices, WasLetGo, WasPulled, WasServed, WasTurnedAway}
use Rattle.radio_stations.proofs.Words.{IsInterleaved, nothing_left, takes_one, takes_other, IsHandedTo, StationsAddUp, StationsHearSlices, both_rolls, course_of, either_has, given_by, IsServedThrough, IsNotLetIn}
use Rattle.radio_stations.proofs.Words.{IsOfItsConnection, IsServedBy, IsUnder, Made, UnderLabel, closed, made_entries, entries_on, made_entry_on, gone, happening, here, pulled, unknown}
use Rattle.radio_core.specs.Handing.{is_same_number}
use Rattle.radio_parts.specs.Step.{reply_to, world_after}
use Rattle.radio_headline.specs.Course.{log_on}

-- the replies of a run are those that its entries note
same_entry : (w : World) (e : Entry) → e.reply ≡ reply_to w e.event → entry e.event (reply_to w e.event) ≡ e
same_entry w e same = ap (λ (r : Reply). entry e.event r) (sym same)

logged_so : (w : World) (made : List Made) (label : ℕ) → IsRun w (made_entries made) → log_on w (course_of made) label ≡ entries_on label made
logged_so w [] label run = refl
logged_so w (m ∷ made) label run =
    ap (λ (e : Entry). (if is_same_number label m.label then e ∷ [] else []) ++ log_on (world_after w m.done.event) (course_of made) label) (same_entry w m.done run.0)
    ∙ ap (λ (xs : List Entry). made_entry_on label m ++ xs) (logged_so (world_after w m.done.event) made label run.1)

moments_so : (made : List Made) → AllByRecursion (λ m. HasLabelOrMoment (happening m)) made → AllByRecursion HasLabelOrMoment (course_of made)
moments_so [] told = tt
moments_so (m ∷ made) told = (told.0, moments_so made told.1)

-- what has happened on the connection, and what was written to it. Its client may be let go after that
record IsKnownOf (web : WebAnswers) (c : Connection) (entries : List Entry) : Type 0 where
  pub text : List ℕ
  pub handed : IsHanded c.status.fate text c.taken c.outgoing
  pub happened : HasHappened web c.given entries text
  pub let_go : c.status.has_left ≡ false → (reply : Reply) → HasHappened web c.given (entries ++ entry (Leave c.id) reply ∷ []) text

module _ (web : WebAnswers) (peer : Peer) (c : Connection) (applied : List Entry) where
  of_client : (id : ℕ) → IsServedThrough web peer id c applied → IsKnownOf web c (entry (Arrive peer) (Arrived id) ∷ applied)
  of_client id s =
      let course : HasCourse web c.id c.given (entry (Arrive peer) (Arrived id) ∷ applied) s.stands.standing.text =
      record {
        arrival = record { web = web; peer = peer; reply = Arrived id };
        let_in = ap (λ (n : ℕ). Arrived n) (sym s.same);
        answers = refl;
        standing = s.stands.standing;
        course = s.stands.course;
        same_given = s.stands.same_given;
        same_entries = s.stands.same_entries;
        same_text = refl;
      } in
      record {
        text = s.stands.standing.text;
        handed = s.stands.handed;
        happened = WasServed c.id course;
        let_go = λ here reply. WasLetGo c.id (entry (Arrive peer) (Arrived id) ∷ applied) reply course refl;
      }

  of_stranger : (reply : Reply) → LetsNobodyIn reply → IsNotLetIn web reply c applied → IsKnownOf web c (entry (Arrive peer) reply ∷ applied)
  of_stranger reply nobody t = record {
    text = (said (asking web) reply).bytes;
    handed = t.handed;
    happened = WasTurnedAway peer reply nobody (ap (λ (xs : List Entry). entry (Arrive peer) reply ∷ xs) t.none);
    let_go = λ here other. absurd (let both : true ≡ false = sym t.nobodys ∙ here in cc);
  }

  by_reply : (reply : Reply) → IsServedBy web peer reply c applied → IsKnownOf web c (entry (Arrive peer) reply ∷ applied)
  by_reply (Arrived id) s = of_client id s
  by_reply Feeding s = of_stranger Feeding tt s
  by_reply (Seated interval head) s = of_stranger (Seated interval head) tt s
  by_reply (Drawn bytes title) s = of_stranger (Drawn bytes title) tt s
  by_reply Noted s = of_stranger Noted tt s
  by_reply (Text text) s = of_stranger (Text text) tt s
  by_reply (Deny rule) s = of_stranger (Deny rule) tt s
  by_reply (Finished rule) s = of_stranger (Finished rule) tt s
  by_reply Stray s = of_stranger Stray tt s

of_connection : (web : WebAnswers) (c : Connection) (entries : List Entry) → IsOfItsConnection web entries c → IsKnownOf web c entries
of_connection web c entries of =
    subst (λ (es : List Entry). IsKnownOf web c es) (sym of.in_order) (by_reply web of.peer c of.applied of.reply of.served)

-- what has happened under a label, and what was written to its connection
record IsKnown (web : WebAnswers) (place : UnderLabel) (entries : List Entry) : Type 0 where
  pub text : List ℕ
  pub handed : IsHandedTo place text
  pub happened : HasHappened web (given_by place) entries text

known : (web : WebAnswers) (place : UnderLabel) (entries : List Entry) → IsUnder web place entries → IsKnown web place entries
known web unknown entries none = record { text = []; handed = refl; happened = NothingWas none }
known web (here c) entries of =
    let k = of_connection web c entries of in record { text = k.text; handed = k.handed; happened = k.happened }
known web (gone c) entries (before, reply, stayed, all, of) =
    let k = of_connection web c before of in
    record {
      text = k.text;
      handed = k.handed;
      happened = subst (λ (es : List Entry). HasHappened web c.given es k.text) (sym all) (k.let_go stayed reply);
    }
known web closed entries (peer, reply, nobody, all) = record { text = []; handed = refl; happened = WasTurnedAway peer reply nobody all }
known web (pulled given) entries of =
    record { text = []; handed = refl; happened = WasPulled of.mount of.pull of.course of.same_given of.same_entries refl }

pub hear_slices : ServedCoursesHearSlices → StationsHearSlices
hear_slices law web settings lists made roll run of =
    let w = opening settings lists in
    let k = λ (label : ℕ). known web (roll label) (entries_on label made) (of.labels label) in
    record {
      says = λ label. (k label).text;
      handed = λ label. (k label).handed;
      hears = law web settings lists (course_of made) (λ label. given_by (roll label)) (λ label. (k label).text) (moments_so made of.moments)
          (λ label. subst (λ (es : List Entry). HasHappened web (given_by (roll label)) es (k label).text) (sym (logged_so w made label run)) (k label).happened);
    }

-- Of what two workers made.

both_none : (xs ys : List Entry) → xs ++ ys ≡ [] → (xs ≡ []) × (ys ≡ [])
both_none [] ys e = (refl, e)
both_none (x ∷ xs) ys e = absurd (cc)

woven_other : (one other made : List Made) → IsInterleaved one other made → IsInterleaved other one made
woven_other one other made nothing_left = nothing_left
woven_other one other made (takes_one before behind rest m w) = takes_other behind before rest m (woven_other before behind rest w)
woven_other one other made (takes_other before behind rest m w) = takes_one behind before rest m (woven_other before behind rest w)

-- where the other made nothing under the label
on_woven : (label : ℕ) (one other made : List Made) → IsInterleaved one other made → entries_on label other ≡ [] → entries_on label made ≡ entries_on label one
on_woven label one other made nothing_left none = refl
on_woven label one other made (takes_one before behind rest m w) none =
    ap (λ (es : List Entry). made_entry_on label m ++ es) (on_woven label before behind rest w none)
on_woven label one other made (takes_other before behind rest m w) none =
    let both = both_none (made_entry_on label m) (entries_on label behind) none in
    ap (λ (es : List Entry). es ++ entries_on label rest) both.0 ∙ on_woven label before behind rest w both.1

moments_woven : (one other made : List Made) → IsInterleaved one other made → AllByRecursion (λ m. HasLabelOrMoment (happening m)) one
    → AllByRecursion (λ m. HasLabelOrMoment (happening m)) other → AllByRecursion (λ m. HasLabelOrMoment (happening m)) made
moments_woven one other made nothing_left h k = tt
moments_woven one other made (takes_one before behind rest m w) h k = (h.0, moments_woven before behind rest w h.1 k)
moments_woven one other made (takes_other before behind rest m w) h k = (k.0, moments_woven before behind rest w h k.1)

of_one : (place other : UnderLabel) → other ≡ unknown → place ≡ either_has place other
of_one unknown other none = sym none
of_one (here c) other none = refl
of_one (gone c) other none = refl
of_one closed other none = refl
of_one (pulled given) other none = refl

of_other : (place other : UnderLabel) → place ≡ unknown → other ≡ either_has place other
of_other place other none = ap (λ (p : UnderLabel). either_has p other) (sym none)

-- what is under a label that is known to one of them alone
under_as : (web : WebAnswers) (place both : UnderLabel) (entries all : List Entry) → place ≡ both → all ≡ entries → IsUnder web place entries → IsUnder web both all
under_as web place both entries all same e under =
    subst (λ (es : List Entry). IsUnder web both es) (sym e) (subst (λ (p : UnderLabel). IsUnder web p entries) same under)

pub add_up : StationsAddUp
add_up web one other made roll more first second apart woven = record {
  labels = λ label. elim (apart label) [
    | inl none ↦ under_as web (more label) (both_rolls roll more label) (entries_on label other) (entries_on label made)
        (of_other (roll label) (more label) none)
        (on_woven label other one made (woven_other one other made woven)
        (subst (λ (p : UnderLabel). IsUnder web p (entries_on label one)) none (first.labels label)))
        (second.labels label)
    | inr none ↦ under_as web (roll label) (both_rolls roll more label) (entries_on label one) (entries_on label made)
        (of_one (roll label) (more label) none)
        (on_woven label one other made woven (subst (λ (p : UnderLabel). IsUnder web p (entries_on label other)) none (second.labels label)))
        (first.labels label)
  ];
  moments = moments_woven one other made woven first.moments second.moments;
}
