-- What a request head shows of itself.
use Rattle.std.specs.Prelude.{◌≡◌, ℕ, ◌+◌, ◌≤◌, ◌==◌, Bool, List, [], length, drop, map, Option, option_map, position}
use Rattle.std.specs.List.{before_first}
use Rattle.httparse.specs.Grammar.{RequestHead, ReadsRequest}
use Rattle.httparse.specs.Spans.{name_and_value}

-- a request: its method, its target cut at the first question mark, and its headers
pub record RequestParts : Type 0 where
  pub method : List ℕ
  pub path : List ℕ
  pub query : Option (List ℕ)
  pub headers : List (List ℕ × List ℕ)

-- b'?'
abbrev pub is_question_mark : ℕ → Bool
is_question_mark b = b == 63

-- what is before the first question mark of the target, or all of it
-- rule: Percent decoding
abbrev pub path_of : List ℕ → List ℕ
path_of target = before_first is_question_mark target

-- what is after the first question mark of the target, if it has one
abbrev pub query_of : List ℕ → Option (List ℕ)
query_of target = option_map (λ at. drop (at + 1) target) (position is_question_mark target)

-- what a head of the grammar shows
abbrev pub request_parts : RequestHead → RequestParts
request_parts h = record {
  method = h.method;
  path = path_of h.target;
  query = query_of h.target;
  headers = map name_and_value h.fields;
}

-- the whole front is a request head of at most 64 headers, and these are its parts
-- rule: Grammar of heads
abbrev pub ShowsRequest : List ℕ → RequestParts → Type 0
ShowsRequest front parts =
    (h : RequestHead) × ReadsRequest front h [] × (length h.fields ≤ 64) × (parts ≡ request_parts h)
