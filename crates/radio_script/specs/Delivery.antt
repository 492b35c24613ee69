-- The lines of a script. Each line is a delivery: a word and its fields, separated by one space.
use Rattle.std.specs.Prelude.{ℕ, nat_lt, List, Option, Some, None, if◌then◌else◌}
use Rattle.std.specs.Str.{bytes_eq}
use Rattle.std.specs.Prelude.{codes}
use Rattle.radio_script.specs.declared.delivery.Delivery.{Delivery}
use Rattle.radio_script.specs.declared.delivery.Delivery.TheVariants.{Open, Pull, To, Clock}
use Rattle.radio_script.specs.declared.delivery.Input.TheVariants.{Data, Room, Title, End}
use Rattle.radio_script.specs.Steps.{◌>>=◌}
use Rattle.radio_texts.specs.Cuts.{cut}
use Rattle.radio_texts.specs.Numbers.{number_of}
use Rattle.radio_addr.specs.Addresses.{peer_of}
use Rattle.radio_script.specs.Escapes.{unescaped}

-- a number of 32 bits in decimal; leading zeros are allowed
abbrev pub decimal_of : List ℕ → Option ℕ
decimal_of text = number_of 10 4294967295 text

-- a label: a number from 1 on
unfoldable pub label_of : List ℕ → Option ℕ
label_of text = do
  label ← decimal_of text
  if nat_lt 0 label then Some label else None

-- `open C PEER`
unfoldable pub open_of : List ℕ → Option Delivery
open_of fields = do
  field ← cut 32 fields
  label ← label_of field.0
  peer ← peer_of field.1
  Some (Open label peer)

-- `pull C MOUNT`: the name is written as it is, without escapes
unfoldable pub pull_of : List ℕ → Option Delivery
pull_of fields = do
  field ← cut 32 fields
  label ← label_of field.0
  Some (Pull label field.1)

-- a label, and the bytes that a text writes
unfoldable pub text_fields : List ℕ → Option (ℕ × List ℕ)
text_fields fields = do
  field ← cut 32 fields
  label ← label_of field.0
  bytes ← unescaped field.1
  Some (label, bytes)

-- `in C TEXT`
unfoldable pub in_of : List ℕ → Option Delivery
in_of fields = do
  field ← text_fields fields
  Some (To field.0 (Data field.1))

-- `title C TEXT`
unfoldable pub title_delivery : List ℕ → Option Delivery
title_delivery fields = do
  field ← text_fields fields
  Some (To field.0 (Title field.1))

-- `room C N`
unfoldable pub room_of : List ℕ → Option Delivery
room_of fields = do
  field ← cut 32 fields
  label ← label_of field.0
  room ← decimal_of field.1
  Some (To label (Room room))

-- `end C`
unfoldable pub end_delivery : List ℕ → Option Delivery
end_delivery fields = do
  label ← label_of fields
  Some (To label End)

-- `clock MS`: a number of 64 bits
unfoldable pub clock_of : List ℕ → Option Delivery
clock_of fields = do
  ms ← number_of 10 18446744073709551615 fields
  Some (Clock ms)

-- the delivery of one of these words and its fields, if they mean one
abbrev pub other_fields_of : List ℕ → List ℕ → Option Delivery
other_fields_of word fields =
    if bytes_eq word (codes "title") then title_delivery fields else
    (if bytes_eq word (codes "end") then end_delivery fields else
    (if bytes_eq word (codes "pull") then pull_of fields else
    (if bytes_eq word (codes "clock") then clock_of fields else None)))

-- the delivery of any word and its fields
abbrev pub delivery_of_fields : List ℕ → List ℕ → Option Delivery
delivery_of_fields word fields =
    if bytes_eq word (codes "open") then open_of fields else
    (if bytes_eq word (codes "in") then in_of fields else
    (if bytes_eq word (codes "room") then room_of fields else other_fields_of word fields))

-- the delivery that a line means, if it means one
-- rule: Line of a script
unfoldable pub delivery_of : List ℕ → Option Delivery
delivery_of line = do
  parts ← cut 32 line
  delivery_of_fields parts.0 parts.1
