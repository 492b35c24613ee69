-- The arguments of a query (WHATWG URL Standard, section 5.1), and what each must be.
use Rattle.std.specs.Prelude.{ℕ, ◌-◌, ◌^◌, Bool, ◌==◌, ◌&&◌, ◌||◌, not, nat_lt, slice_index, List, ◌++◌, length, Option, None, Some, codes, if◌then◌else◌}
use Rattle.std.specs.List.{find, list_any}
use Rattle.std.specs.Option.{option_map, option_and_then}
use Rattle.std.specs.Str.{bytes_eq}
use Rattle.std.specs.Str.Lossy.{utf8_lossy}
use Rattle.form_urlencoded.specs.Form.{decode, raw_pairs}
use Rattle.radio_values.specs.MountName.{is_mount_name}
use Rattle.radio_texts.specs.Numbers.{number_of}

-- the text of an encoded name or value: `+` is a space, escapes are decoded, what is no UTF-8 is U+FFFD
unfoldable pub text_of : List ℕ → List ℕ
text_of bytes = utf8_lossy (decode bytes)

-- the pair has this name
abbrev pub is_argument_named : List ℕ → List ℕ × List ℕ → Bool
is_argument_named name pair = bytes_eq (text_of pair.0) name

-- the first argument of a name
-- rule: Missing argument; First argument
unfoldable pub argument : List ℕ → List ℕ → Option (List ℕ)
argument name query = option_map (λ pair. text_of pair.1) (find (is_argument_named name) (raw_pairs query))

-- what two arguments make, where both are there
abbrev pub both : {A B C : Type 0} → (A → B → C) → Option A → Option B → Option C
both f (Some a) (Some b) = Some (f a b)
both f (Some a) None = None
both f None b = None

-- the name of a mount
abbrev pub as_mount : List ℕ → Option (List ℕ)
as_mount text = if is_mount_name text then Some text else None

-- a whole number of 64 bits, in digits alone
abbrev pub as_number : List ℕ → Option ℕ
as_number text = number_of 10 (2 ^ 64 - 1) text

-- the name of a mount, or nothing, which is none
abbrev pub as_fallback : List ℕ → Option (Option (List ℕ))
as_fallback text = if length text == 0 then Some None else option_map (λ mount. Some mount) (as_mount text)

-- the mount that an argument names
abbrev pub mount_in : List ℕ → List ℕ → Option (List ℕ)
mount_in name query = option_and_then as_mount (argument name query)

-- the number that an argument writes
abbrev pub number_argument : List ℕ → List ℕ → Option ℕ
number_argument name query = option_and_then as_number (argument name query)

-- the fallback that an argument names
-- rule: Fallbacks
abbrev pub fallback_in : List ℕ → List ℕ → Option (Option (List ℕ))
fallback_in name query = option_and_then as_fallback (argument name query)

-- the title of a song: `song`, else `artist` and `title` with ` - ` between them, else `title`
abbrev pub song_title : Option (List ℕ) → Option (List ℕ) → Option (List ℕ) → Option (List ℕ)
song_title (Some song) artist title = Some song
song_title None (Some artist) (Some title) = Some ((artist ++ codes " - ") ++ title)
song_title None None (Some title) = Some title
song_title None artist None = None

-- the title that a query sets, where its `mode` is `updinfo`
-- rule: Metadata
abbrev pub title_in : List ℕ → Option (List ℕ)
title_in query =
    option_and_then
    (λ mode. if bytes_eq mode (codes "updinfo")
    then song_title (argument (codes "song") query) (argument (codes "artist") query) (argument (codes "title") query)
    else None)
    (argument (codes "mode") query)

-- the name of a user, as a file of users has it: 1 to 255 bytes, of which none is a colon or a line end, and the first is no `#`
abbrev pub is_user_name : List ℕ → Bool
is_user_name text =
    nat_lt 0 (length text) && nat_lt (length text) 256 && not (slice_index text 0 == 35)
    && not (list_any (λ b. (b == 58) || (b == 10) || (b == 13)) text)

abbrev pub as_user : List ℕ → Option (List ℕ)
as_user text = if is_user_name text then Some text else None

-- the user that a query names
abbrev pub user_argument : List ℕ → Option (List ℕ)
user_argument query = option_and_then as_user (argument (codes "username") query)
