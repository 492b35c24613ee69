-- Address lists: the lines of a text, and what they list.
use Rattle.std.specs.Prelude.{◌≡◌, ℕ, Bool, false, ◌+◌, ◌-◌, ◌/◌, ◌^◌, ◌==◌, ◌||◌, List, [], ◌∷◌, ◌++◌, length, slice_index, Option, None, Some}
use Rattle.std.specs.Prelude.{Result, Ok, Err, codes, if◌then◌else◌}
use Rattle.std.specs.Fmt.{decimal}
use Rattle.std.specs.Option.{option_map, option_and_then}
use Rattle.std.specs.List.{list_any}
use Rattle.radio_texts.specs.Blanks.{without_blanks}
use Rattle.radio_texts.specs.Cuts.{cut, fields_at}
use Rattle.radio_texts.specs.Lines.{without_return}
use Rattle.radio_texts.specs.Numbers.{number_of}
use Rattle.radio_addr.specs.Addresses.{address_of}
use Rattle.radio_addr.specs.declared.address.Address.{Address}
use Rattle.radio_addr.specs.declared.address.Address.TheVariants.{V4, V6}
use Rattle.radio_addr.specs.declared.lines.AddressRange.{AddressRange}
use Rattle.radio_addr.specs.declared.lists.ListFault.{ListFault}
use Rattle.radio_addr.specs.declared.lists.ListFault.TheVariants.{LineFault, OutOfMemory}
use Rattle.radio_addr.specs.declared.lines.ListLine.{ListLine}
use Rattle.radio_addr.specs.declared.lines.ListLine.TheVariants.{Passed, Listed, Bad}

-- how many bits an address has
abbrev pub width_of : Address → ℕ
width_of (V4 n) = 32
width_of (V6 n) = 128

-- an address and how many of its bits count
abbrev pub range_from : Address → ℕ → AddressRange
range_from address bits = record { address = address; bits = bits }

-- an address alone is a range of one: all its bits count
abbrev pub whole_range : Address → AddressRange
whole_range address = range_from address (width_of address)

-- an address with the number of bits that count
abbrev pub part_range : Address → List ℕ → Option AddressRange
part_range address text = option_map (λ n. range_from address n) (number_of 10 (width_of address) text)

-- an address, or an address, a slash and a number
abbrev pub range_in : List ℕ → Option (List ℕ × List ℕ) → Option AddressRange
range_in text None = option_map whole_range (address_of text)
range_in text (Some parts) = option_and_then (λ address. part_range address parts.1) (address_of parts.0)

unfoldable pub range_of : List ℕ → Option AddressRange
range_of text = range_in text (cut 47 text)

-- a line that lists nothing and is no fault: it is empty, or begins with `#`
abbrev pub is_passed : List ℕ → Bool
is_passed text = length text == 0 || slice_index text 0 == 35

-- what a line lists, once it is trimmed
abbrev pub listed : Option AddressRange → ListLine
listed None = Bad
listed (Some range) = Listed range

abbrev pub text_line : List ℕ → ListLine
text_line text = if is_passed text then Passed else listed (range_of text)

-- rule: Address list
unfoldable pub line_of : List ℕ → ListLine
line_of line = text_line (without_blanks (without_return line))

-- one line before what later lines list; a bad line is counted from 1
abbrev pub with_line : ℕ → ListLine → Result (List AddressRange) ℕ → Result (List AddressRange) ℕ
with_line before Passed later = later
with_line before (Listed range) (Ok ranges) = Ok (range ∷ ranges)
with_line before (Listed range) (Err line) = Err line
with_line before Bad later = Err (before + 1)

-- what some lines list, after so many others: or the first bad one
abbrev pub lines_after : ℕ → List (List ℕ) → Result (List AddressRange) ℕ
lines_after before [] = Ok []
lines_after before (line ∷ lines) = with_line before (line_of line) (lines_after (before + 1) lines)

-- what an address list lists, or its first bad line
-- rule: Address list
abbrev pub list_of : List ℕ → Result (List AddressRange) ℕ
list_of bytes = lines_after 0 (fields_at 10 bytes)

-- whether a peer of the same family agrees with the range's address in the bits that count
abbrev pub is_in : AddressRange → Address → Bool
is_in range peer = agrees range.bits range.address peer
  where
    agrees : ℕ → Address → Address → Bool
    agrees bits (V4 a) (V4 n) = a / 2 ^ (32 - bits) == n / 2 ^ (32 - bits)
    agrees bits (V6 a) (V6 n) = a / 2 ^ (128 - bits) == n / 2 ^ (128 - bits)
    agrees bits (V4 a) (V6 n) = false
    agrees bits (V6 a) (V4 n) = false

-- whether some range lists the peer
-- rule: Address list
abbrev pub is_listed : List AddressRange → Address → Bool
is_listed ranges peer = list_any (λ range. is_in range peer) ranges

-- what a fault of a list says
abbrev pub Explains : Result (List AddressRange) ℕ → ListFault → Type 0
Explains list (LineFault line) = list ≡ Err line
Explains list OutOfMemory = Unit {0}

-- ranges read already, before what later lines list
abbrev pub after_ranges : List AddressRange → Result (List AddressRange) ℕ → Result (List AddressRange) ℕ
after_ranges ranges (Ok more) = Ok (ranges ++ more)
after_ranges ranges (Err line) = Err line

-- the new ranges are the old ones with what this line lists, whatever later lines do
abbrev pub AddsLine : List AddressRange → ℕ → List ℕ → List AddressRange → Type 0
AddsLine old before line new =
    (later : Result (List AddressRange) ℕ)
    → after_ranges new later ≡ after_ranges old (with_line before (line_of line) later)

-- the fault is this line's, whatever later lines do
abbrev pub FaultsLine : ℕ → List ℕ → ListFault → Type 0
FaultsLine before line fault =
    (ranges : List AddressRange) (later : Result (List AddressRange) ℕ)
    → Explains (after_ranges ranges (with_line before (line_of line) later)) fault

-- what is written of a fault
abbrev pub fault_text : ListFault → List ℕ
fault_text (LineFault line) = codes "line " ++ (decimal line ++ codes " is no address")
fault_text OutOfMemory = codes "out of memory"
