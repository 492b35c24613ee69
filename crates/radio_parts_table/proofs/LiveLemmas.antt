-- the sessions among the parts, after a part has changed
use Rattle.std.proofs.Common.{◌≡◌, Bool, true, false, ℕ, Option, Some, None, List, [], ◌∷◌, not, refl, ap, sym, subst, ◌∙◌}
use Rattle.radio_parts_table.proofs.Words.{find, filter, map, is_some, if◌then◌else◌, slice_cmp, AllByRecursion, IsStrictlySortedBy, option_map, option_and_then, nat_cmp, is_eq, match_ordering, ordering_reverse}
use Rattle.radio_parts_table.proofs.Words.{Ordering, Less, Equal, Greater, bytes_eq, nat_list_cmp_total, bytes_eq-Decides, update_first, placed, Each, find_here, find_later, finds_none, name_is, Session, is_of}
use Rattle.radio_parts_table.proofs.Words.{session_of, by_mount, with_session, without_session, none_changes, MountPart, live_in, IsNamed, AreNamed, is_part_of, with_session_in, with_session_changed}

abbrev names : List MountPart → List (List ℕ)
names parts = map (λ (part : MountPart). part.mount) parts

abbrev pub AreRising : List MountPart → Type 0
AreRising parts = IsStrictlySortedBy (slice_cmp nat_cmp) (names parts)

-- all of these come behind the name
abbrev AreBehind : List ℕ → List MountPart → Type 0
AreBehind mount parts = AllByRecursion (λ name. slice_cmp nat_cmp mount name ≡ Less) (names parts)

behind : (part : MountPart) (parts : List MountPart) → AreRising (part ∷ parts) → AreBehind part.mount parts
unfolding IsStrictlySortedBy
behind part parts rising = rising.0

pub rest_rises : (part : MountPart) (parts : List MountPart) → AreRising (part ∷ parts) → AreRising parts
unfolding IsStrictlySortedBy
rest_rises part parts rising = rising.1

-- and are of other mounts
abbrev AreOthers : List ℕ → List MountPart → Type 0
AreOthers mount parts = Each (λ (part : MountPart). is_part_of mount part ≡ false) parts

others_behind : (mount : List ℕ) (parts : List MountPart) → AreBehind mount parts → AreOthers mount parts
others_behind mount [] all = tt
others_behind mount (part ∷ parts) all = (name_is mount part.mount ∙ ap is_eq all.0, others_behind mount parts all.1)

-- the sessions, by that of the first part
pub live_none : (part : MountPart) (parts : List MountPart) → part.session ≡ None → live_in (part ∷ parts) ≡ live_in parts
live_none part parts e = rw e refl

pub live_some : (part : MountPart) (parts : List MountPart) (session : Session) → part.session ≡ Some session → live_in (part ∷ parts) ≡ session ∷ live_in parts
live_some part parts session e = rw e refl

named_so : (part : MountPart) (session : Session) → part.session ≡ Some session → IsNamed part.mount part.session → session.mount ≡ part.mount
named_so part session e named = subst (IsNamed part.mount) e named

-- the sessions of other mounts
abbrev PlayElsewhere : List ℕ → List Session → Type 0
PlayElsewhere mount live = Each (λ (session : Session). is_of mount session ≡ false) live

elsewhere_at : (mount : List ℕ) (part : MountPart) (parts : List MountPart) (found : Option Session) → part.session ≡ found → IsNamed part.mount part.session
    → is_part_of mount part ≡ false → PlayElsewhere mount (live_in parts) → PlayElsewhere mount (live_in (part ∷ parts))
elsewhere_at mount part parts None e named apart later = subst (PlayElsewhere mount) (sym (live_none part parts e)) later
elsewhere_at mount part parts (Some session) e named apart later =
    subst (PlayElsewhere mount) (sym (live_some part parts session e)) (ap (λ m. bytes_eq m mount) (named_so part session e named) ∙ apart, later)

elsewhere : (mount : List ℕ) (parts : List MountPart) → AreNamed parts → AreOthers mount parts → PlayElsewhere mount (live_in parts)
elsewhere mount [] named others = tt
elsewhere mount (part ∷ parts) named others =
    elsewhere_at mount part parts part.session refl named.0 others.0 (elsewhere mount parts named.1 others.1)

none_live : (mount : List ℕ) (parts : List MountPart) → AreNamed parts → AreOthers mount parts → session_of (live_in parts) mount ≡ None
none_live mount parts named others = finds_none (is_of mount) (live_in parts) (elsewhere mount parts named others)

none_found : (mount : List ℕ) (parts : List MountPart) → AreOthers mount parts → find (is_part_of mount) parts ≡ None
none_found mount parts others = finds_none (is_part_of mount) parts others

update_here : {X : Type 0} (p : X → Bool) (f : X → X) (x : X) (xs : List X) → p x ≡ true → update_first p f (x ∷ xs) ≡ f x ∷ xs
update_here p f x xs e = rw e refl

update_later : {X : Type 0} (p : X → Bool) (f : X → X) (x : X) (xs : List X) → p x ≡ false → update_first p f (x ∷ xs) ≡ x ∷ update_first p f xs
update_later p f x xs e = rw e refl

drop_here : {X : Type 0} (p : X → Bool) (x : X) (xs : List X) → p x ≡ true → filter (λ y. not (p y)) (x ∷ xs) ≡ filter (λ y. not (p y)) xs
drop_here p x xs e = rw e refl

keep_here : {X : Type 0} (p : X → Bool) (x : X) (xs : List X) → p x ≡ false → filter (λ y. not (p y)) (x ∷ xs) ≡ x ∷ filter (λ y. not (p y)) xs
keep_here p x xs e = rw e refl

none_dropped : {X : Type 0} (p : X → Bool) (xs : List X) → Each (λ x. p x ≡ false) xs → filter (λ y. not (p y)) xs ≡ xs
none_dropped p [] all = refl
none_dropped p (x ∷ xs) all = keep_here p x xs all.0 ∙ ap (λ ys. x ∷ ys) (none_dropped p xs all.1)

-- the part is the mount's: those behind it are of others
pub are_others : (mount : List ℕ) (part : MountPart) (parts : List MountPart) → is_part_of mount part ≡ true → AreRising (part ∷ parts) → AreOthers mount parts
are_others mount part parts e rising =
    subst (λ m. AreOthers m parts) ((bytes_eq-Decides part.mount mount).0 e) (others_behind part.mount parts (behind part parts rising))

module _ (mount : List ℕ) where
  abbrev of : MountPart → Bool
  of = is_part_of mount

  named_here : (part : MountPart) (session : Session) (b : Bool) → part.session ≡ Some session → IsNamed part.mount part.session → of part ≡ b
      → is_of mount session ≡ b
  named_here part session b e named is = ap (λ m. bytes_eq m mount) (named_so part session e named) ∙ is

  abbrev pub its : Option MountPart → Option Session
  its found = option_and_then (λ (part : MountPart). part.session) found

  -- the session of the mount is that of its part
  found_at : (part : MountPart) (parts : List MountPart) (b : Bool) (found : Option Session) → of part ≡ b → part.session ≡ found
      → IsNamed part.mount part.session → AreNamed parts → (of part ≡ true → AreOthers mount parts)
      → session_of (live_in parts) mount ≡ its (find of parts) → session_of (live_in (part ∷ parts)) mount ≡ its (find of (part ∷ parts))
  found_at part parts true None is e named all others later =
      ap (λ live. session_of live mount) (live_none part parts e) ∙ none_live mount parts all (others is)
      ∙ sym (ap its (find_here of part parts is) ∙ e)
  found_at part parts true (Some session) is e named all others later =
      ap (λ live. session_of live mount) (live_some part parts session e) ∙ find_here (is_of mount) session (live_in parts) (named_here part session true e named is)
      ∙ sym (ap its (find_here of part parts is) ∙ e)
  found_at part parts false None is e named all others later =
      ap (λ live. session_of live mount) (live_none part parts e) ∙ later ∙ sym (ap its (find_later of part parts is))
  found_at part parts false (Some session) is e named all others later =
      ap (λ live. session_of live mount) (live_some part parts session e)
      ∙ find_later (is_of mount) session (live_in parts) (named_here part session false e named is) ∙ later
      ∙ sym (ap its (find_later of part parts is))

  pub session_found : (parts : List MountPart) → AreNamed parts → AreRising parts → session_of (live_in parts) mount ≡ its (find of parts)
  session_found [] named rising = refl
  session_found (part ∷ parts) named rising =
      found_at part parts (of part) part.session refl refl named.0 named.1 (λ is. are_others mount part parts is rising)
      (session_found parts named.1 (rest_rises part parts rising))

  -- the session of the mount's part has changed, and with it that of the mount
  module _ (f : Session → Session) where
    abbrev changed_parts : List MountPart → List MountPart
    changed_parts parts = update_first of (with_session_changed f) parts

    changed_here : (part : MountPart) (parts : List MountPart) (found : Option Session) → of part ≡ true → part.session ≡ found
        → IsNamed part.mount part.session → AreNamed parts → AreOthers mount parts
        → live_in (with_session_changed f part ∷ parts) ≡ update_first (is_of mount) f (live_in (part ∷ parts))
    changed_here part parts None is e named all others =
        live_none (with_session_changed f part) parts (ap (option_map f) e) ∙ sym (none_changes (is_of mount) f (live_in parts) (none_live mount parts all others))
        ∙ ap (update_first (is_of mount) f) (sym (live_none part parts e))
    changed_here part parts (Some session) is e named all others =
        live_some (with_session_changed f part) parts (f session) (ap (option_map f) e)
        ∙ sym (ap (update_first (is_of mount) f) (live_some part parts session e)
        ∙ update_here (is_of mount) f session (live_in parts) (named_here part session true e named is))

    changed_later : (part : MountPart) (parts : List MountPart) (found : Option Session) → of part ≡ false → part.session ≡ found
        → IsNamed part.mount part.session → live_in (changed_parts parts) ≡ update_first (is_of mount) f (live_in parts)
        → live_in (part ∷ changed_parts parts) ≡ update_first (is_of mount) f (live_in (part ∷ parts))
    changed_later part parts None is e named later =
        live_none part (changed_parts parts) e ∙ later ∙ ap (update_first (is_of mount) f) (sym (live_none part parts e))
    changed_later part parts (Some session) is e named later =
        live_some part (changed_parts parts) session e ∙ ap (λ live. session ∷ live) later
        ∙ sym (ap (update_first (is_of mount) f) (live_some part parts session e)
        ∙ update_later (is_of mount) f session (live_in parts) (named_here part session false e named is))

    changed_at : (part : MountPart) (parts : List MountPart) (b : Bool) → of part ≡ b → AreNamed (part ∷ parts) → AreRising (part ∷ parts)
        → live_in (changed_parts parts) ≡ update_first (is_of mount) f (live_in parts)
        → live_in (if b then with_session_changed f part ∷ parts else part ∷ changed_parts parts) ≡ update_first (is_of mount) f (live_in (part ∷ parts))
    changed_at part parts true is named rising later = changed_here part parts part.session is refl named.0 named.1 (are_others mount part parts is rising)
    changed_at part parts false is named rising later = changed_later part parts part.session is refl named.0 later

    pub session_changed : (parts : List MountPart) → AreNamed parts → AreRising parts
        → live_in (changed_parts parts) ≡ update_first (is_of mount) f (live_in parts)
    session_changed [] named rising = refl
    session_changed (part ∷ parts) named rising =
        changed_at part parts (of part) refl named rising (session_changed parts named.1 (rest_rises part parts rising))

  -- the session of the mount has ended
  abbrev pub ended_parts : List MountPart → List MountPart
  ended_parts parts = update_first of (with_session_in None) parts

  ended_here : (part : MountPart) (parts : List MountPart) (found : Option Session) → of part ≡ true → part.session ≡ found
      → IsNamed part.mount part.session → AreNamed parts → AreOthers mount parts
      → live_in (with_session_in None part ∷ parts) ≡ without_session (live_in (part ∷ parts)) mount
  ended_here part parts None is e named all others =
      sym (ap (λ live. without_session live mount) (live_none part parts e)
      ∙ none_dropped (is_of mount) (live_in parts) (elsewhere mount parts all others))
  ended_here part parts (Some session) is e named all others =
      sym (ap (λ live. without_session live mount) (live_some part parts session e)
      ∙ drop_here (is_of mount) session (live_in parts) (named_here part session true e named is)
      ∙ none_dropped (is_of mount) (live_in parts) (elsewhere mount parts all others))

  ended_later : (part : MountPart) (parts : List MountPart) (found : Option Session) → of part ≡ false → part.session ≡ found
      → IsNamed part.mount part.session → live_in (ended_parts parts) ≡ without_session (live_in parts) mount
      → live_in (part ∷ ended_parts parts) ≡ without_session (live_in (part ∷ parts)) mount
  ended_later part parts None is e named later =
      live_none part (ended_parts parts) e ∙ later ∙ ap (λ live. without_session live mount) (sym (live_none part parts e))
  ended_later part parts (Some session) is e named later =
      live_some part (ended_parts parts) session e ∙ ap (λ live. session ∷ live) later
      ∙ sym (ap (λ live. without_session live mount) (live_some part parts session e)
      ∙ keep_here (is_of mount) session (live_in parts) (named_here part session false e named is))

  ended_at : (part : MountPart) (parts : List MountPart) (b : Bool) → of part ≡ b → AreNamed (part ∷ parts) → AreRising (part ∷ parts)
      → live_in (ended_parts parts) ≡ without_session (live_in parts) mount
      → live_in (if b then with_session_in None part ∷ parts else part ∷ ended_parts parts) ≡ without_session (live_in (part ∷ parts)) mount
  ended_at part parts true is named rising later = ended_here part parts part.session is refl named.0 named.1 (are_others mount part parts is rising)
  ended_at part parts false is named rising later = ended_later part parts part.session is refl named.0 later

  pub session_ended : (parts : List MountPart) → AreNamed parts → AreRising parts → live_in (ended_parts parts) ≡ without_session (live_in parts) mount
  session_ended [] named rising = refl
  session_ended (part ∷ parts) named rising =
      ended_at part parts (of part) refl named rising (session_ended parts named.1 (rest_rises part parts rising))

-- a session begins at a mount that has a part
module _ (new : Session) where
  abbrev its_part : MountPart → Bool
  its_part = is_part_of new.mount

  abbrev pub begun_parts : List MountPart → List MountPart
  begun_parts parts = update_first its_part (with_session_in (Some new)) parts

  -- it comes before the sessions of the parts behind its own
  before_at : (part : MountPart) (parts : List MountPart) (found : Option Session) → part.session ≡ found → IsNamed part.mount part.session
      → slice_cmp nat_cmp new.mount part.mount ≡ Less → with_session (live_in parts) new ≡ new ∷ live_in parts
      → with_session (live_in (part ∷ parts)) new ≡ new ∷ live_in (part ∷ parts)
  before_at part parts None e named less later =
      ap (λ live. with_session live new) (live_none part parts e) ∙ later ∙ ap (λ live. new ∷ live) (sym (live_none part parts e))
  before_at part parts (Some session) e named less later =
      ap (λ live. with_session live new) (live_some part parts session e)
      ∙ comes_before session (live_in parts) (ap (slice_cmp nat_cmp new.mount) (named_so part session e named) ∙ less)
      ∙ ap (λ live. new ∷ live) (sym (live_some part parts session e)) where
        comes_before : (session : Session) (live : List Session) → by_mount new session ≡ Less → with_session (session ∷ live) new ≡ new ∷ session ∷ live
        comes_before session live less = rw less refl

  before : (parts : List MountPart) → AreNamed parts → AreBehind new.mount parts → with_session (live_in parts) new ≡ new ∷ live_in parts
  before [] named all = refl
  before (part ∷ parts) named all = before_at part parts part.session refl named.0 all.0 (before parts named.1 all.1)

  same_name : (part : MountPart) → its_part part ≡ true → part.mount ≡ new.mount
  same_name part e = (bytes_eq-Decides part.mount new.mount).0 e

  same_compared : (name : List ℕ) → slice_cmp nat_cmp name name ≡ Equal
  same_compared name = is_equal (slice_cmp nat_cmp name name) (sym (name_is name name) ∙ (bytes_eq-Decides name name).1 refl) where
    is_equal : (o : Ordering) → is_eq o ≡ true → o ≡ Equal
    is_equal Less e = cc
    is_equal Equal e = refl
    is_equal Greater e = cc

  begun_here : (part : MountPart) (parts : List MountPart) (found : Option Session) → its_part part ≡ true → part.session ≡ found
      → IsNamed part.mount part.session → AreNamed parts → AreBehind part.mount parts
      → live_in (with_session_in (Some new) part ∷ parts) ≡ with_session (live_in (part ∷ parts)) new
  begun_here part parts None is e named all later =
      sym (ap (λ live. with_session live new) (live_none part parts e)
      ∙ before parts all (subst (λ m. AreBehind m parts) (same_name part is) later))
  begun_here part parts (Some session) is e named all later =
      sym (ap (λ live. with_session live new) (live_some part parts session e)
      ∙ takes_place session (live_in parts) (ap (slice_cmp nat_cmp new.mount) (named_so part session e named ∙ same_name part is) ∙ same_compared new.mount)) where
        takes_place : (session : Session) (live : List Session) → by_mount new session ≡ Equal → with_session (session ∷ live) new ≡ new ∷ live
        takes_place session live equal = rw equal refl

  -- its part comes behind this one
  begun_later : (part : MountPart) (parts : List MountPart) (found : Option Session) → part.session ≡ found → IsNamed part.mount part.session
      → slice_cmp nat_cmp new.mount part.mount ≡ Greater → live_in (begun_parts parts) ≡ with_session (live_in parts) new
      → live_in (part ∷ begun_parts parts) ≡ with_session (live_in (part ∷ parts)) new
  begun_later part parts None e named greater later =
      live_none part (begun_parts parts) e ∙ later ∙ ap (λ live. with_session live new) (sym (live_none part parts e))
  begun_later part parts (Some session) e named greater later =
      live_some part (begun_parts parts) session e ∙ ap (λ live. session ∷ live) later
      ∙ sym (ap (λ live. with_session live new) (live_some part parts session e)
      ∙ comes_behind session (live_in parts) (ap (slice_cmp nat_cmp new.mount) (named_so part session e named) ∙ greater)) where
        comes_behind : (session : Session) (live : List Session) → by_mount new session ≡ Greater
            → with_session (session ∷ live) new ≡ session ∷ with_session live new
        comes_behind session live greater = rw greater refl

  -- a part behind another has the greater name
  found_behind_at : (mount : List ℕ) (part : MountPart) (parts : List MountPart) (b : Bool) → its_part part ≡ b
      → slice_cmp nat_cmp mount part.mount ≡ Less → (is_some (find its_part parts) ≡ true → slice_cmp nat_cmp mount new.mount ≡ Less)
      → is_some (if b then Some part else find its_part parts) ≡ true → slice_cmp nat_cmp mount new.mount ≡ Less
  found_behind_at mount part parts true is less later has = ap (slice_cmp nat_cmp mount) (sym (same_name part is)) ∙ less
  found_behind_at mount part parts false is less later has = later has

  found_behind : (mount : List ℕ) (parts : List MountPart) → AreBehind mount parts → is_some (find its_part parts) ≡ true
      → slice_cmp nat_cmp mount new.mount ≡ Less
  found_behind mount [] all has = cc
  found_behind mount (part ∷ parts) all has = found_behind_at mount part parts (its_part part) refl all.0 (found_behind mount parts all.1) has

  begun_at : (part : MountPart) (parts : List MountPart) (b : Bool) → its_part part ≡ b → AreNamed (part ∷ parts) → AreRising (part ∷ parts)
      → (is_some (find its_part parts) ≡ true → live_in (begun_parts parts) ≡ with_session (live_in parts) new)
      → is_some (if b then Some part else find its_part parts) ≡ true
      → live_in (if b then with_session_in (Some new) part ∷ parts else part ∷ begun_parts parts) ≡ with_session (live_in (part ∷ parts)) new
  begun_at part parts true is named rising later has = begun_here part parts part.session is refl named.0 named.1 (behind part parts rising)
  begun_at part parts false is named rising later has =
      begun_later part parts part.session refl named.0 greater (later has) where
        greater : slice_cmp nat_cmp new.mount part.mount ≡ Greater
        greater =
            nat_list_cmp_total.antisymm new.mount part.mount
            ∙ ap ordering_reverse (found_behind part.mount parts (behind part parts rising) has)

  pub session_begun : (parts : List MountPart) → AreNamed parts → AreRising parts → is_some (find its_part parts) ≡ true
      → live_in (begun_parts parts) ≡ with_session (live_in parts) new
  session_begun [] named rising has = cc
  session_begun (part ∷ parts) named rising has =
      begun_at part parts (its_part part) refl named rising (session_begun parts named.1 (rest_rises part parts rising)) has

abbrev pub mounts_of : List Session → List (List ℕ)
mounts_of live = map (λ (session : Session). session.mount) live

abbrev LiveBehind : List ℕ → List Session → Type 0
LiveBehind mount live = AllByRecursion (λ name. slice_cmp nat_cmp mount name ≡ Less) (mounts_of live)

abbrev pub LiveRises : List Session → Type 0
LiveRises live = IsStrictlySortedBy (slice_cmp nat_cmp) (mounts_of live)

live_behind_at : (mount : List ℕ) (part : MountPart) (parts : List MountPart) (found : Option Session) → part.session ≡ found
    → IsNamed part.mount part.session → slice_cmp nat_cmp mount part.mount ≡ Less → LiveBehind mount (live_in parts) → LiveBehind mount (live_in (part ∷ parts))
live_behind_at mount part parts None e named less later = subst (LiveBehind mount) (sym (live_none part parts e)) later
live_behind_at mount part parts (Some session) e named less later =
    subst (LiveBehind mount) (sym (live_some part parts session e)) (ap (slice_cmp nat_cmp mount) (named_so part session e named) ∙ less, later)

live_behind : (mount : List ℕ) (parts : List MountPart) → AreNamed parts → AreBehind mount parts → LiveBehind mount (live_in parts)
live_behind mount [] named all = tt
live_behind mount (part ∷ parts) named all = live_behind_at mount part parts part.session refl named.0 all.0 (live_behind mount parts named.1 all.1)

one_more : (session : Session) (live : List Session) → LiveBehind session.mount live → LiveRises live → LiveRises (session ∷ live)
unfolding IsStrictlySortedBy
one_more session live behind rises = (behind, rises)

none_rise : LiveRises []
unfolding IsStrictlySortedBy
none_rise = tt

live_rises_at : (part : MountPart) (parts : List MountPart) (found : Option Session) → part.session ≡ found → IsNamed part.mount part.session
    → LiveBehind part.mount (live_in parts) → LiveRises (live_in parts) → LiveRises (live_in (part ∷ parts))
live_rises_at part parts None e named behind later = subst LiveRises (sym (live_none part parts e)) later
live_rises_at part parts (Some session) e named behind later =
    subst LiveRises (sym (live_some part parts session e))
    (one_more session (live_in parts) (subst (λ m. LiveBehind m (live_in parts)) (sym (named_so part session e named)) behind) later)

-- the sessions of parts in rising order are in rising order
pub live_rises : (parts : List MountPart) → AreNamed parts → AreRising parts → LiveRises (live_in parts)
live_rises [] named rising = none_rise
live_rises (part ∷ parts) named rising =
    live_rises_at part parts part.session refl named.0 (live_behind part.mount parts named.1 (behind part parts rising))
    (live_rises parts named.1 (rest_rises part parts rising))

-- the sessions behind a part stay, and its own
kept_behind : (part : MountPart) (rest parts : List MountPart) (found : Option Session) → part.session ≡ found → live_in rest ≡ live_in parts
    → live_in (part ∷ rest) ≡ live_in (part ∷ parts)
kept_behind part rest parts None e later = live_none part rest e ∙ later ∙ sym (live_none part parts e)
kept_behind part rest parts (Some session) e later =
    live_some part rest session e ∙ ap (λ live. session ∷ live) later ∙ sym (live_some part parts session e)

-- a part that is not live comes, or goes
module _ (fresh : MountPart) (silent : fresh.session ≡ None) where
  abbrev by_name : MountPart → MountPart → Ordering
  by_name a b = slice_cmp nat_cmp a.mount b.mount

  added_at : (part : MountPart) (parts : List MountPart) (o : Ordering) → by_name fresh part ≡ o → is_part_of fresh.mount part ≡ false
      → live_in (placed by_name fresh parts) ≡ live_in parts
      → live_in (match_ordering o (fresh ∷ part ∷ parts) (fresh ∷ parts) (part ∷ placed by_name fresh parts)) ≡ live_in (part ∷ parts)
  added_at part parts Less o apart later = live_none fresh (part ∷ parts) silent
  added_at part parts Equal o apart later =
      let same : is_part_of fresh.mount part ≡ true = name_is fresh.mount part.mount ∙ ap is_eq o in cc
  added_at part parts Greater o apart later = kept_behind part (placed by_name fresh parts) parts part.session refl later

  pub part_added : (parts : List MountPart) → Each (λ (part : MountPart). is_part_of fresh.mount part ≡ false) parts
      → live_in (placed by_name fresh parts) ≡ live_in parts
  part_added [] others = live_none fresh [] silent
  part_added (part ∷ parts) others = added_at part parts (by_name fresh part) refl others.0 (part_added parts others.1)

module _ (mount : List ℕ) where
  removed_at : (part : MountPart) (parts : List MountPart) (b : Bool) → is_part_of mount part ≡ b → (is_part_of mount part ≡ true → part.session ≡ None)
      → live_in (filter (λ other. not (is_part_of mount other)) parts) ≡ live_in parts
      → live_in (if not b then part ∷ filter (λ other. not (is_part_of mount other)) parts else filter (λ other. not (is_part_of mount other)) parts)
      ≡ live_in (part ∷ parts)
  removed_at part parts true is silent later = later ∙ sym (live_none part parts (silent is))
  removed_at part parts false is silent later =
      kept_behind part (filter (λ other. not (is_part_of mount other)) parts) parts part.session refl later

  pub part_removed : (parts : List MountPart) → Each (λ (part : MountPart). is_part_of mount part ≡ true → part.session ≡ None) parts
      → live_in (filter (λ part. not (is_part_of mount part)) parts) ≡ live_in parts
  part_removed [] silent = refl
  part_removed (part ∷ parts) silent = removed_at part parts (is_part_of mount part) refl silent.0 (part_removed parts silent.1)

-- a change of a part that leaves its session
module _ (p : MountPart → Bool) (f : MountPart → MountPart) (same : (part : MountPart) → (f part).session ≡ part.session) where
  left_here : (part : MountPart) (parts : List MountPart) (found : Option Session) → part.session ≡ found → live_in (f part ∷ parts) ≡ live_in (part ∷ parts)
  left_here part parts None e = live_none (f part) parts (same part ∙ e) ∙ sym (live_none part parts e)
  left_here part parts (Some session) e = live_some (f part) parts session (same part ∙ e) ∙ sym (live_some part parts session e)

  left_at : (part : MountPart) (parts : List MountPart) (b : Bool) → live_in (update_first p f parts) ≡ live_in parts
      → live_in (if b then f part ∷ parts else part ∷ update_first p f parts) ≡ live_in (part ∷ parts)
  left_at part parts true later = left_here part parts part.session refl
  left_at part parts false later = kept_behind part (update_first p f parts) parts part.session refl later

  pub sessions_left : (parts : List MountPart) → live_in (update_first p f parts) ≡ live_in parts
  sessions_left [] = refl
  sessions_left (part ∷ parts) = left_at part parts (p part) (sessions_left parts)
