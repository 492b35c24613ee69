-- A body that has closed its conversation stays as it is.
use Rattle.std.proofs.Common.{◌≡◌, ℕ, zero, suc, List, [], ◌∷◌, Option, Some, refl}
use Rattle.radio_source.specs.Place.{Place, InPlain, InSized, InLine, InChunk, AfterReturn, AtTrailer, AfterTrailerReturn, InTrailer, AtEnd}
use Rattle.radio_source.specs.Place.{PastTheEnd, Broken, after, data_of, has_ended, fault_at}
use Rattle.radio_session.specs.declared.session.LastWord.{LastWord}
use Rattle.radio_session.specs.Hearing.{body_closes}

abbrev pub closes_at : Place → Option LastWord
closes_at place = body_closes (has_ended place) (fault_at place)

-- more bytes bring no data, and the body closes its conversation in the same way
pub record StaysClosed (place : Place) (bytes : List ℕ) (word : LastWord) : Type 0 where
  pub dataless : data_of place bytes ≡ []
  pub closed : closes_at (after place bytes) ≡ Some word

past : (bytes : List ℕ) (word : LastWord) → closes_at PastTheEnd ≡ Some word → StaysClosed PastTheEnd bytes word
past [] word e = record { dataless = refl; closed = e }
past (b ∷ bytes) word e =
    let rest = past bytes word e in
    record { dataless = rest.dataless; closed = rest.closed }

broken : (bytes : List ℕ) (word : LastWord) → closes_at Broken ≡ Some word → StaysClosed Broken bytes word
broken [] word e = record { dataless = refl; closed = e }
broken (b ∷ bytes) word e =
    let rest = broken bytes word e in
    record { dataless = rest.dataless; closed = rest.closed }

ended : (bytes : List ℕ) (word : LastWord) → closes_at AtEnd ≡ Some word → StaysClosed AtEnd bytes word
ended [] word e = record { dataless = refl; closed = e }
ended (b ∷ bytes) word e =
    let rest = past bytes word e in
    record { dataless = rest.dataless; closed = rest.closed }

filled : (bytes : List ℕ) (word : LastWord) → closes_at (InSized 0) ≡ Some word → StaysClosed (InSized 0) bytes word
filled [] word e = record { dataless = refl; closed = e }
filled (b ∷ bytes) word e =
    let rest = past bytes word e in
    record { dataless = rest.dataless; closed = rest.closed }

pub stays_closed : (place : Place) (bytes : List ℕ) (word : LastWord) → closes_at place ≡ Some word → StaysClosed place bytes word
stays_closed InPlain bytes word e = cc
stays_closed (InSized zero) bytes word e = filled bytes word e
stays_closed (InSized (suc left)) bytes word e = cc
stays_closed (InLine held) bytes word e = cc
stays_closed (InChunk left) bytes word e = cc
stays_closed AfterReturn bytes word e = cc
stays_closed (AtTrailer left) bytes word e = cc
stays_closed (AfterTrailerReturn left) bytes word e = cc
stays_closed (InTrailer left) bytes word e = cc
stays_closed AtEnd bytes word e = ended bytes word e
stays_closed PastTheEnd bytes word e = past bytes word e
stays_closed Broken bytes word e = broken bytes word e
