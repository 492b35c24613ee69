-- What `Access-Control-Allow-Origin` may say.
use Rattle.std.specs.Prelude.{ℕ, Bool, ◌&&◌, nat_le, List, length}
use Rattle.std.specs.List.{list_all}

-- a visible character of ASCII (RFC 5234, appendix B.1)
abbrev pub is_visible : ℕ → Bool
is_visible b = nat_le 33 b && nat_le b 126

-- 1 to 255 of them
-- rule: Web table
unfoldable pub is_allowed_origin : List ℕ → Bool
is_allowed_origin text = nat_le 1 (length text) && nat_le (length text) 255 && list_all is_visible text
