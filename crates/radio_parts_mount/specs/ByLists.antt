-- What a mount's part is by the list of what happened to it.
use Rattle.std.specs.Prelude.{◌≡◌, ℕ, ◌+◌, Bool, false, not, ◌==◌, if◌then◌else◌, List, [], ◌∷◌, ◌++◌, Option, Some, None, length, find, filter}
use Rattle.std.specs.Option.{option_map, option_map_or}
use Rattle.radio_attachments.specs.declared.attachment.Attachment.{Attachment}
use Rattle.radio_attachments.specs.Rows.{is_attached, put_in}
use Rattle.radio_events.specs.declared.event.Event.{Event}
use Rattle.radio_events.specs.Events.{client_in}
use Rattle.radio_parts_mount.specs.Sessions.{Session, opened, with_title}
use Rattle.radio_parts_mount.specs.Items.{is_lagged}
use Rattle.radio_parts_mount.specs.Steps.{part_answers, part_after}
use Rattle.radio_parts_mount.specs.declared.item.Attaching.{Attaching}
use Rattle.radio_parts_mount.specs.declared.item.Attaching.TheVariants.{Listener, Feeder}
use Rattle.radio_parts_mount.specs.declared.item.MountItem.{MountItem}
use Rattle.radio_parts_mount.specs.declared.item.MountItem.TheVariants.{Attach, Detach, Own, Titled}
use Rattle.radio_parts_mount.specs.declared.list.Grant.{Grant}
use Rattle.radio_parts_mount.specs.declared.list.KeptItems.{KeptItems}
use Rattle.radio_parts_mount.specs.declared.list.PartList.{PartList}
use Rattle.radio_parts_mount.specs.declared.part.MountPart.{MountPart}
use Rattle.radio_parts_mount.specs.declared.step.PartAnswer.TheVariants.{Replied}

-- what a part is by a list
pub record ByList : Type 0 where
  -- what the mount's source feeds, if it is live
  pub session : Option Session
  -- who is attached, and up to where each has heard the stream
  pub attachments : List Attachment
  -- who has a grant
  pub grants : List Grant
  -- how many items there were
  pub count : ℕ

abbrev pub by_list : Option Session → List Attachment → List Grant → ℕ → ByList
by_list session attachments grants count = record { session = session; attachments = attachments; grants = grants; count = count }

-- nothing has happened
abbrev pub nothing : ByList
nothing = by_list None [] [] 0

abbrev pub is_of_client : ℕ → Grant → Bool
is_of_client id grant = grant.id == id

-- the grant of the client of this number, if it has one
abbrev pub grant_of : List Grant → ℕ → Option ℕ
grant_of grants id = option_map (λ (grant : Grant). grant.place) (find (is_of_client id) grants)

abbrev pub without_grant : ℕ → List Grant → List Grant
without_grant id grants = filter (λ grant. not (is_of_client id grant)) grants

-- a client has the grant of this place
abbrev pub granted : ℕ → ℕ → Grant
granted id place = record { id = id; place = place }

-- the client of this number feeds the session
abbrev pub feeds : ℕ → Option Session → Bool
feeds id session = option_map_or (λ (session : Session). session.number == id) session false

-- the session, and who is attached, once a client is attached
abbrev pub session_with : List ℕ → ℕ → Attaching → Option Session → Option Session
session_with mount id (Listener place) session = session
session_with mount id (Feeder shown moment) session = Some (opened mount id shown moment)

abbrev pub attached_with : ℕ → Attaching → List Attachment → List Attachment
attached_with id (Listener place) attachments = put_in (record { id = id; place = place }) attachments
attached_with id (Feeder shown moment) attachments = attachments

-- and once it is detached: a push has taken out who lagged
abbrev pub session_without : ℕ → Bool → Option Session → Option Session
session_without id lagged session = if lagged then session else if feeds id session then None else session

abbrev pub attached_without : ℕ → Bool → Option Session → List Attachment → List Attachment
attached_without id lagged session attachments =
    if lagged then attachments else if feeds id session then attachments else filter (λ row. not (is_attached id row)) attachments

-- without each of these
abbrev pub without_all : List Attachment → List Attachment → List Attachment
without_all [] rows = rows
without_all (gone ∷ others) rows = without_all others (filter (λ row. not (is_attached gone.id row)) rows)

-- the part of the mount that is this by its list
abbrev pub part_of : List ℕ → Option Session → List Attachment → MountPart
part_of mount session attachments = record { mount = mount; session = session; attachments = attachments; lagged = [] }

-- the part after an own event
abbrev pub after_own : ℕ → List ℕ → ℕ → Option Session → List Attachment → Event → MountPart
after_own queue mount moment session attachments event = part_after queue moment (part_of mount session attachments) event

-- the part after an item; of its stream the last blocks are kept that have so many bytes
abbrev pub played : ℕ → List ℕ → ByList → MountItem → ByList
played queue mount s (Attach id attached) = by_list (session_with mount id attached s.session) (attached_with id attached s.attachments)
    (s.grants ++ granted id (s.count + 1) ∷ []) (s.count + 1)
played queue mount s (Detach id grant rule) = by_list (session_without id (is_lagged rule) s.session)
    (attached_without id (is_lagged rule) s.session s.attachments) (without_grant id s.grants) (s.count + 1)
played queue mount s (Own grant moment entry) = by_list (after_own queue mount moment s.session s.attachments entry.event).session
    (after_own queue mount moment s.session s.attachments entry.event).attachments s.grants (s.count + 1)
played queue mount s (Titled title) = by_list (option_map (with_title (Some title)) s.session) s.attachments s.grants (s.count + 1)

abbrev pub played_all : ℕ → List ℕ → ByList → List MountItem → ByList
played_all queue mount s [] = s
played_all queue mount s (item ∷ items) = played_all queue mount (played queue mount s item) items

-- An item may be here: a client that is attached has no grant yet, one that is detached has this, and an own entry is of a client that has it, with
-- the part's own reply.
abbrev pub May : List ℕ → ByList → MountItem → Type 0
May mount s (Attach id attached) = grant_of s.grants id ≡ None
May mount s (Detach id grant rule) = grant_of s.grants id ≡ Some grant
May mount s (Own grant moment entry) = ((id : ℕ) × (client_in entry.event ≡ Some id) × (grant_of s.grants id ≡ Some grant))
    × (part_answers (part_of mount s.session s.attachments) entry.event ≡ Replied entry.reply)
May mount s (Titled title) = Unit {0}

-- each item may be where it is
abbrev pub Replays : ℕ → List ℕ → ByList → List MountItem → Type 0
Replays queue mount s [] = Unit {0}
Replays queue mount s (item ∷ items) = May mount s item × Replays queue mount (played queue mount s item) items

-- The list replays by itself, and gives this.
pub record IsListOf (queue : ℕ) (mount : List ℕ) (items : List MountItem) (grants : List Grant) (session : Option Session) (attachments : List Attachment)
    : Type 0 where
  pub replays : Replays queue mount nothing items
  pub gives : played_all queue mount nothing items ≡ by_list session attachments grants (length items)

-- the list of what was kept is that of a part with this session and these attachments
abbrev pub IsListIf : Option KeptItems → List ℕ → Option Session → List Attachment → Type 0
IsListIf None mount session attachments = Unit {0}
IsListIf (Some kept) mount session attachments = IsListOf kept.queue mount kept.items.items kept.grants.items session attachments

abbrev pub IsList : PartList → List ℕ → Option Session → List Attachment → Type 0
IsList list mount session attachments = IsListIf list.kept mount session attachments
