-- Address lists in words of their own: what a line lists, and the first bad line.
use Rattle.std.specs.Prelude.{◌≡◌, ℕ, ◌+◌, Bool, true, false, List, ◌∷◌, ◌++◌, length, Option, None, Some}
use Rattle.std.specs.List.{Contains, filter_map, list_any}
use Rattle.radio_texts.specs.Numbers.{number_of}
use Rattle.radio_addr.specs.Addresses.{address_of}
use Rattle.radio_addr.specs.Lists.{line_of, range_from, whole_range, width_of}
use Rattle.radio_addr.specs.declared.address.Address.{Address}
use Rattle.radio_addr.specs.declared.lines.AddressRange.{AddressRange}
use Rattle.radio_addr.specs.declared.lines.ListLine.{ListLine}
use Rattle.radio_addr.specs.declared.lines.ListLine.TheVariants.{Passed, Listed, Bad}

abbrev pub slash : ℕ
slash = 47

-- a text lists one address, or the addresses that share the first bits of one: a slash and their number in decimal
-- rule: Address list
pub data ListsRange (text : List ℕ) : AddressRange → Type 0 where
  Whole : (address : Address) → ¬ Contains text slash → address_of text ≡ Some address → ListsRange text (whole_range address)
  Part : (front digits : List ℕ) (address : Address) (bits : ℕ) → text ≡ front ++ slash ∷ digits → ¬ Contains front slash
      → address_of front ≡ Some address → number_of 10 (width_of address) digits ≡ Some bits → ListsRange text (range_from address bits)

abbrev pub is_bad : List ℕ → Bool
is_bad line = says_nothing (line_of line)
  where
    says_nothing : ListLine → Bool
    says_nothing Passed = false
    says_nothing (Listed range) = false
    says_nothing Bad = true

-- the n-th line, counted from 1, is bad, and none before it
-- rule: Address list
pub record IsFirstBad (lines : List (List ℕ)) (n : ℕ) : Type 0 where
  pub before : List (List ℕ)
  pub line : List ℕ
  pub after : List (List ℕ)
  pub are_lines : lines ≡ before ++ line ∷ after
  pub none_before : list_any is_bad before ≡ false
  pub bad : is_bad line ≡ true
  pub counted : n ≡ length before + 1

-- what a line lists
abbrev pub range_on : List ℕ → Option AddressRange
range_on line = range_said (line_of line)
  where
    range_said : ListLine → Option AddressRange
    range_said Passed = None
    range_said (Listed range) = Some range
    range_said Bad = None

-- what the lines list, in their order, where none is bad
-- rule: Address list
pub record AreRanges (lines : List (List ℕ)) (ranges : List AddressRange) : Type 0 where
  pub none_bad : list_any is_bad lines ≡ false
  pub listed : ranges ≡ filter_map range_on lines
