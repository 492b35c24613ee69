-- The fallbacks that commands have set.
use Rattle.std.specs.Prelude.{ℕ, Bool, List, Option, find}
use Rattle.std.specs.declared.cmp.Ordering.{Ordering}
use Rattle.std.specs.Cmp.Lexicographic.{slice_cmp}
use Rattle.std.specs.Ordering.{nat_cmp}
use Rattle.std.specs.Str.{bytes_eq}
use Rattle.radio_tables.specs.Lists.{placed}

-- the listeners of a mount fall back to another one, or to none, whatever the settings say
pub record Fallback : Type 0 where
  pub mount : List ℕ
  pub fallback : Option (List ℕ)

abbrev pub is_set_for : List ℕ → Fallback → Bool
is_set_for mount set = bytes_eq set.mount mount

-- what was set for the mount last, if anything was
-- rule: Fallback of a mount
abbrev pub set_for : List Fallback → List ℕ → Option Fallback
set_for fallbacks mount = find (is_set_for mount) fallbacks

-- they are in the order of their mounts' bytes
abbrev pub by_name : Fallback → Fallback → Ordering
by_name a b = slice_cmp nat_cmp a.mount b.mount

-- it is set for the mount from now on, in place of what was set before
-- rule: Fallbacks
abbrev pub with_fallback : List Fallback → List ℕ → Option (List ℕ) → List Fallback
with_fallback fallbacks mount fallback = placed by_name (record { mount = mount; fallback = fallback }) fallbacks
