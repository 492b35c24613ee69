-- Lists of connections that a worker holds, each under its label.
use Rattle.std.proofs.Common.{◌≡◌, ℕ, zero, suc, ◌==◌, Bool, true, false, Option, None, Some, List, [], ◌∷◌, ◌++◌, refl, sym, ap, ◌∙◌}
use Rattle.radio_stations.proofs.Words.{filter, remove, slice_get, if◌then◌else◌, position, Connection, lingers, stays, without_at, without_first, by_number, Roll, UnderLabel, enrolled, here, unknown, AreHeld, Held}
use Rattle.radio_stations.proofs.Words.{IsOther, connections}
use Rattle.radio_stations.proofs.WorkLemmas.{enrolled_elsewhere}

pub apart_of : (label other : ℕ) → (other ≡ label → ⊥) → (label == other) ≡ false
apart_of label other apart = by_number label other (λ same. absurd (apart (sym same))) (λ e. e)

other_then : (label : ℕ) (held : List Held) (last : Held) → IsOther label held → (last.label ≡ label → ⊥) → IsOther label (held ++ last ∷ [])
other_then label [] last h apart = (apart, tt)
other_then label (one ∷ held) last h apart = (h.0, other_then label held last h.1 apart)

-- what is elsewhere is held as before
pub still_held : (held : List Held) (label : ℕ) (place : UnderLabel) (roll : Roll) → AreHeld held roll → IsOther label held
    → AreHeld held (enrolled label place roll)
still_held [] label place roll h other = tt
still_held (one ∷ held) label place roll h other = (
  enrolled_elsewhere label one.label place roll (apart_of label one.label other.0) ∙ h.0,
  h.1,
  still_held held label place roll h.2 other.1,
)

-- one more
pub held_then : (held : List Held) (last : Held) (roll : Roll) → AreHeld held roll → IsOther last.label held → roll last.label ≡ here last.connection
    → AreHeld (held ++ last ∷ []) roll
held_then [] last roll h other there = (there, tt, tt)
held_then (one ∷ held) last roll h other there = (
  h.0,
  other_then one.label held last h.1 (λ e. other.0 (sym e)),
  held_then held last roll h.2 other.1 there,
)

-- those that stay
pub stay : List Held → List Held
stay [] = []
stay (one ∷ held) = if stays one.connection then one ∷ stay held else stay held

pub other_stays : (label : ℕ) (held : List Held) → IsOther label held → IsOther label (stay held)
unfolding stay
other_stays label [] h = tt
other_stays label (one ∷ held) h = by_test (other_stays label held h.1) (stays one.connection) where
  by_test : IsOther label (stay held) → (b : Bool) → IsOther label (if b then one ∷ stay held else stay held)
  by_test others true = (h.0, others)
  by_test others false = others

pub held_stay : (held : List Held) (roll : Roll) → AreHeld held roll → AreHeld (stay held) roll
unfolding stay
held_stay [] roll h = tt
held_stay (one ∷ held) roll h = by_test (held_stay held roll h.2) (stays one.connection) where
  by_test : AreHeld (stay held) roll → (b : Bool) → AreHeld (if b then one ∷ stay held else stay held) roll
  by_test others true = (h.0, other_stays one.label held h.1, others)
  by_test others false = others

pub conns_stay : (held : List Held) → connections (stay held) ≡ filter stays (connections held)
unfolding stay
conns_stay [] = refl
conns_stay (one ∷ held) = by_test (conns_stay held) (stays one.connection) where
  by_test : connections (stay held) ≡ filter stays (connections held) → (b : Bool) → connections (if b then one ∷ stay held else stay held)
      ≡ (if b then one.connection ∷ filter stays (connections held) else filter stays (connections held))
  by_test same true = ap (λ (cs : List Connection). one.connection ∷ cs) same
  by_test same false = same

not_here : (c : Connection) → here c ≡ unknown → ⊥
not_here c e = absurd (cc)

-- a label that the roll does not know is that of none
pub other_if_unknown : (held : List Held) (label : ℕ) (roll : Roll) → AreHeld held roll → roll label ≡ unknown → IsOther label held
other_if_unknown [] label roll h new = tt
other_if_unknown (one ∷ held) label roll h new =
    ((λ same. not_here one.connection (sym h.0 ∙ ap roll same ∙ new)), other_if_unknown held label roll h.2 new)

-- no label of these is that of one of those
abbrev pub AreOthers : List Held → List Held → Type 0
AreOthers [] those = Unit {0}
AreOthers (one ∷ these) those = IsOther one.label those × AreOthers these those

without_head : (these : List Held) (one : Held) (those : List Held) → AreOthers these (one ∷ those) → IsOther one.label these × AreOthers these those
without_head [] one those h = (tt, tt)
without_head (first ∷ these) one those h =
    let rest = without_head these one those h.1 in (((λ e. h.0.0 (sym e)), rest.0), (h.0.1, rest.1))

pub turned : (these those : List Held) → AreOthers those these → AreOthers these those
turned [] those h = tt
turned (one ∷ these) those h = let rest = without_head those one these h in (rest.0, turned these those rest.1)

-- of fewer, or of the same
pub others_of : (these those fewer : List Held) → ((label : ℕ) → IsOther label those → IsOther label fewer) → AreOthers these those → AreOthers these fewer
others_of [] those fewer so h = tt
others_of (one ∷ these) those fewer so h = (so one.label h.0, others_of these those fewer so h.1)

-- with one more
pub others_then : (these : List Held) (last : Held) (those : List Held) → AreOthers these those → IsOther last.label those → AreOthers (these ++ last ∷ []) those
others_then [] last those h other = (other, tt)
others_then (one ∷ these) last those h other = (h.0, others_then these last those h.1 other)

-- what changed is elsewhere
pub held_in : (these those : List Held) (roll after : Roll) → ((label : ℕ) → IsOther label those → after label ≡ roll label) → AreOthers these those
    → AreHeld these roll → AreHeld these after
held_in [] those roll after so others h = tt
held_in (one ∷ these) those roll after so others h = (so one.label others.0 ∙ h.0, h.1, held_in these those roll after so others.1 h.2)

-- without the one at this place
pub other_removed : (label : ℕ) (held : List Held) (at : ℕ) → IsOther label held → IsOther label (remove held at)
other_removed label [] zero h = tt
other_removed label [] (suc at) h = tt
other_removed label (one ∷ held) zero h = h.1
other_removed label (one ∷ held) (suc at) h = (h.0, other_removed label held at h.1)

pub held_removed : (held : List Held) (at : ℕ) (roll : Roll) → AreHeld held roll → AreHeld (remove held at) roll
held_removed [] zero roll h = tt
held_removed [] (suc at) roll h = tt
held_removed (one ∷ held) zero roll h = h.2
held_removed (one ∷ held) (suc at) roll h = (h.0, other_removed one.label held at h.1, held_removed held at roll h.2)

pub conns_removed : (held : List Held) (at : ℕ) → connections (remove held at) ≡ remove (connections held) at
conns_removed [] zero = refl
conns_removed [] (suc at) = refl
conns_removed (one ∷ held) zero = refl
conns_removed (one ∷ held) (suc at) = ap (λ (cs : List Connection). one.connection ∷ cs) (conns_removed held at)

-- the one at a place, whose label is none of the others'
pub record IsHeldAt (held : List Held) (at : ℕ) (conn : Connection) (roll : Roll) : Type 0 where
  pub one : Held
  pub same : one.connection ≡ conn
  pub there : roll one.label ≡ here one.connection
  pub other : IsOther one.label (remove held at)
  pub apart : (label : ℕ) → IsOther label held → one.label ≡ label → ⊥
  pub elsewhere : (those : List Held) → AreOthers held those → IsOther one.label those

same_conn : (x y : Connection) → Some x ≡ Some y → x ≡ y
same_conn x y e = cc

none_there : (conn : Connection) → None ≡ Some conn → ⊥
none_there conn e = absurd (cc)

pub held_at_place : (held : List Held) (at : ℕ) (conn : Connection) (roll : Roll) → AreHeld held roll → slice_get (connections held) at ≡ Some conn
    → IsHeldAt held at conn roll
held_at_place [] zero conn roll h is = absurd (none_there conn is)
held_at_place [] (suc at) conn roll h is = absurd (none_there conn is)
held_at_place (one ∷ held) zero conn roll h is = record {
  one = one;
  same = same_conn one.connection conn is;
  there = h.0;
  other = h.1;
  apart = λ label other. other.0;
  elsewhere = λ those others. others.0;
}
held_at_place (first ∷ held) (suc at) conn roll h is =
    let rest = held_at_place held at conn roll h.2 is in
    record {
      one = rest.one;
      same = rest.same;
      there = rest.there;
      other = ((λ e. rest.apart first.label h.1 (sym e)), rest.other);
      apart = λ label other. rest.apart label other.1;
      elsewhere = λ those others. rest.elsewhere those others.1;
    }

-- without the first that lingers
pub record AreLeft (held : List Held) (conns : List Connection) (roll : Roll) : Type 0 where
  pub now : List Held
  pub same : connections now ≡ conns
  pub are_held : AreHeld now roll
  pub apart : (label : ℕ) → IsOther label held → IsOther label now

pub left_as_before : (held : List Held) (roll : Roll) → AreHeld held roll → AreLeft held (connections held) roll
left_as_before held roll h = record { now = held; same = refl; are_held = h; apart = λ label other. other }

pub left_by_first : (held : List Held) (roll : Roll) → AreHeld held roll → AreLeft held (without_first (connections held)) roll
left_by_first held roll h = by_place (position lingers (connections held)) where
  by_place : (place : Option ℕ) → AreLeft held (without_at place (connections held)) roll
  by_place None = left_as_before held roll h
  by_place (Some at) = record {
    now = remove held at;
    same = conns_removed held at;
    are_held = held_removed held at roll h;
    apart = λ label other. other_removed label held at other;
  }
