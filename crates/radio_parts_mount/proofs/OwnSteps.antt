-- an own step of a part, as its list has it: whoever lagged out before is not looked at
use Rattle.std.proofs.Common.{◌≡◌, Bool, true, false, ℕ, Option, Some, None, List, refl, ap, sym, subst, ◌∙◌}
use Rattle.radio_parts_mount.proofs.Words.{find, if◌then◌else◌, option_map, option_map_or, Attachment, is_attached, Event, end_in, Session, with_title, after_own, part_of, IsList, heard_on, is_fed_by, is_spent_with}
use Rattle.radio_parts_mount.proofs.Words.{part_after, part_answers, part_fed, part_heard, part_lagged, portion_at, Portion, PartList, MountPart, Elsewhere, Replied}
use Rattle.radio_events.specs.declared.event.Event.TheVariants.{Arrive, Source, Push, SourceEnd, Title, Listen, Draw, Command, Leave, RelayUp, RelayDown, Clock}
use Rattle.radio_parts_mount.proofs.PartLemmas.{none_changes}
use Rattle.radio_events.specs.declared.reply.Reply.{Reply}
use Rattle.radio_events.specs.declared.reply.Reply.TheVariants.{Drawn}
use Rattle.radio_parts_mount.specs.Parts.{with_session_changed}

-- the parts have one session, and the same attachments
abbrev Alike : MountPart → MountPart → Type 0
Alike a b = (a.session ≡ b.session) × (a.attachments ≡ b.attachments)

module _ (queue moment : ℕ) (p : MountPart) where
  abbrev bare : MountPart
  bare = part_of p.mount p.session p.attachments

  pushed : (block : List ℕ) (fed spent : Bool)
      → Alike (if fed then (if spent then bare else part_lagged (end_in (part_fed queue moment block bare).session) queue (part_fed queue moment block bare)) else bare)
      (if fed then (if spent then p else part_lagged (end_in (part_fed queue moment block p).session) queue (part_fed queue moment block p)) else p)
  pushed block true true = (refl, refl)
  pushed block true false = (refl, refl)
  pushed block false spent = (refl, refl)

  titled : (f : MountPart → MountPart) (fed : Bool) → Alike (f bare) (f p) → Alike (if fed then f bare else bare) (if fed then f p else p)
  titled f true alike = alike
  titled f false alike = (refl, refl)

  pub own_alike : (event : Event) → Alike (after_own queue p.mount moment p.session p.attachments event) (part_after queue moment p event)
  own_alike (Arrive peer) = (refl, refl)
  own_alike (Source asked) = (refl, refl)
  own_alike (Push id block) = pushed block (is_fed_by id p) (is_spent_with block p)
  own_alike (SourceEnd id) = (refl, refl)
  own_alike (Title id text) = titled (with_session_changed (with_title (Some text))) (is_fed_by id p) (refl, refl)
  own_alike (Listen asked) = (refl, refl)
  own_alike (Draw id room) = (refl, refl)
  own_alike (Command asked) = (refl, refl)
  own_alike (Leave id) = (refl, refl)
  own_alike (RelayUp mount shown) = (refl, refl)
  own_alike (RelayDown id) = (refl, refl)
  own_alike (Clock ms) = (refl, refl)

  mount_stays : (f : MountPart) (b : Bool) → f.mount ≡ p.mount → (if b then f else p).mount ≡ p.mount
  mount_stays f true e = e
  mount_stays f false e = refl

  spent_stays : (f : MountPart) (b c : Bool) → f.mount ≡ p.mount → (if b then (if c then p else f) else p).mount ≡ p.mount
  spent_stays f true true e = refl
  spent_stays f true false e = e
  spent_stays f false c e = refl

  same_mount : (event : Event) → (part_after queue moment p event).mount ≡ p.mount
  same_mount (Arrive peer) = refl
  same_mount (Source asked) = refl
  same_mount (Push id block) = spent_stays (part_lagged (end_in (part_fed queue moment block p).session) queue (part_fed queue moment block p)) (is_fed_by id p)
      (is_spent_with block p) refl
  same_mount (SourceEnd id) = refl
  same_mount (Title id text) = mount_stays (with_session_changed (with_title (Some text)) p) (is_fed_by id p) refl
  same_mount (Listen asked) = refl
  same_mount (Draw id room) = refl
  same_mount (Command asked) = refl
  same_mount (Leave id) = refl
  same_mount (RelayUp mount shown) = refl
  same_mount (RelayDown id) = refl
  same_mount (Clock ms) = refl

  answers_alike : (event : Event) → part_answers bare event ≡ part_answers p event
  answers_alike (Arrive peer) = refl
  answers_alike (Source asked) = refl
  answers_alike (Push id block) = refl
  answers_alike (SourceEnd id) = refl
  answers_alike (Title id text) = refl
  answers_alike (Listen asked) = refl
  answers_alike (Draw id room) = refl
  answers_alike (Command asked) = refl
  answers_alike (Leave id) = refl
  answers_alike (RelayUp mount shown) = refl
  answers_alike (RelayDown id) = refl
  answers_alike (Clock ms) = refl

  if_elsewhere : (reply : Reply) (event other : Event) (f : MountPart) (b : Bool) → (if b then Replied reply else Elsewhere event) ≡ Elsewhere other → (if b then f else p) ≡ p
  if_elsewhere reply event other f true e = cc
  if_elsewhere reply event other f false e = refl

  none_heard : (id room : ℕ) (event other : Event) (found : Option Attachment) → find (is_attached id) p.attachments ≡ found
      → option_map_or (λ (portion : Portion). Replied (Drawn portion.pieces portion.title))
      (option_map (λ (row : Attachment). portion_at p.session row.place room) found) (Elsewhere event) ≡ Elsewhere other
      → part_heard p id room ≡ p
  none_heard id room event other None is e =
      ap (λ (rows : List Attachment). record p { attachments = rows }) (none_changes (is_attached id) (heard_on p.session room) p.attachments is)
  none_heard id room event other (Some row) is e = cc

  elsewhere_stays : (event other : Event) → part_answers p event ≡ Elsewhere other → part_after queue moment p event ≡ p
  elsewhere_stays (Arrive peer) other e = refl
  elsewhere_stays (Source asked) other e = refl
  elsewhere_stays (Push id block) other e = if_elsewhere _ (Push id block) other _ (is_fed_by id p) e
  elsewhere_stays (SourceEnd id) other e = refl
  elsewhere_stays (Title id text) other e = if_elsewhere _ (Title id text) other _ (is_fed_by id p) e
  elsewhere_stays (Listen asked) other e = refl
  elsewhere_stays (Draw id room) other e = none_heard id room (Draw id room) other (find (is_attached id) p.attachments) refl e
  elsewhere_stays (Command asked) other e = refl
  elsewhere_stays (Leave id) other e = refl
  elsewhere_stays (RelayUp mount shown) other e = refl
  elsewhere_stays (RelayDown id) other e = refl
  elsewhere_stays (Clock ms) other e = refl

  abbrev IsListOfPart : PartList → MountPart → Type 0
  IsListOfPart list part = IsList list part.mount part.session part.attachments

  -- the list of a part that has replied
  pub replied_so : (before noted after : PartList) (later : MountPart) (event : Event) (reply : Reply) → later ≡ part_after queue moment p event
      → part_answers p event ≡ Replied reply
      → ((mount : List ℕ) (session : Option Session) (attachments : List Attachment) → IsList before mount session attachments
      → part_answers (part_of mount session attachments) event ≡ Replied reply
      → IsList noted mount (after_own queue mount moment session attachments event).session (after_own queue mount moment session attachments event).attachments)
      → ((mount : List ℕ) (session : Option Session) (attachments : List Attachment) → IsList noted mount session attachments → IsList after mount session attachments)
      → IsListOfPart before p → IsListOfPart after later
  replied_so before noted after later event reply is replied notes ends told =
      let alike = own_alike event in
      let done = part_after queue moment p event in
      let noted_so = ends p.mount (after_own queue p.mount moment p.session p.attachments event).session
      (after_own queue p.mount moment p.session p.attachments event).attachments
      (notes p.mount p.session p.attachments told (answers_alike event ∙ replied)) in
      subst (IsListOfPart after) (sym is)
      (subst (λ (mount : List ℕ). IsList after mount done.session done.attachments) (sym (same_mount event))
      (subst (λ (session : Option Session). IsList after p.mount session done.attachments) alike.0
      (subst (λ (rows : List Attachment). IsList after p.mount (after_own queue p.mount moment p.session p.attachments event).session rows) alike.1 noted_so)))

  -- and of one that has not
  pub elsewhere_so : (list : PartList) (later : MountPart) (event other : Event) → later ≡ part_after queue moment p event → part_answers p event ≡ Elsewhere other
      → IsListOfPart list p → IsListOfPart list later
  elsewhere_so list later event other is elsewhere told = subst (IsListOfPart list) (sym (is ∙ elsewhere_stays event other elsewhere)) told
