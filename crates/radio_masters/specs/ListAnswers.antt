-- What a master answers to the request for its list of streams.
use Rattle.std.specs.Prelude.{◌≡◌, ◌⊎◌, ◌+◌, ◌<◌, ℕ, suc, Bool, true, not, ◌==◌, nat_lt, List, ◌++◌, codes, drop, take, length, Option, None, Some, is_some, Result, Ok, Err, if◌then◌else◌}
use Rattle.radio_texts.specs.Numbers.{number_of}
use Rattle.radio_heads.specs.declared.outcome.Progress.{Progress}
use Rattle.radio_heads.specs.declared.outcome.Progress.TheVariants.{More, Whole}
use Rattle.radio_heads.specs.declared.outcome.HeadFault.{HeadFault}
use Rattle.radio_connections.specs.Lines.{Calls}
use Rattle.radio_heads.specs.Headers.{value_of}
use Rattle.radio_heads.specs.Reading.{IsReading}
use Rattle.radio_heads.specs.Response.{ResponseParts, ShowsResponse}
use Rattle.radio_masters.specs.declared.list_answer.MasterListFault.{MasterListFault}
use Rattle.radio_masters.specs.declared.list_answer.MasterListFault.TheVariants.{Status, BadHead, Cut, TooLong}

-- the longest list, in bytes
abbrev pub max_list : ℕ
max_list = 1048576

-- a body of the length of a number
abbrev pub body_of_length : Option ℕ → List ℕ → Result (List ℕ) MasterListFault
body_of_length None rest = Err TooLong
body_of_length (Some n) rest = if nat_lt (length rest) n then Err Cut else Ok (take n rest)

-- the body, by the value of the header `Content-Length`; without that header, all bytes up to the master's close
-- rule: List of a slave
abbrev pub body_by : Bool → Option (List ℕ) → List ℕ → Result (List ℕ) MasterListFault
body_by has_closed (Some text) rest = body_of_length (number_of 10 max_list text) rest
body_by has_closed None rest = if nat_lt max_list (length rest) then Err TooLong else if not has_closed then Err Cut else Ok rest

-- the body behind a head, or the first fault of the answer
abbrev pub body_in : Bool → ResponseParts → List ℕ → Result (List ℕ) MasterListFault
body_in has_closed head rest =
    if not (head.status == 200) then Err (Status head.status)
    else if is_some (value_of (codes "Transfer-Encoding") head.headers) then Err BadHead
    else body_by has_closed (value_of (codes "Content-Length") head.headers) rest

-- all that has come, by what its head is read as
abbrev pub body_as : Bool → List ℕ → Result (Progress ResponseParts) HeadFault → Result (List ℕ) MasterListFault
body_as has_closed bytes (Ok More) = Err Cut
body_as has_closed bytes (Ok (Whole head length)) = body_in has_closed head (drop length bytes)
body_as has_closed bytes (Err fault) = Err BadHead

-- the body of a master's answer, or its fault: all bytes of it that have come, and whether the master has closed
-- rule: List of a slave; Failed list
abbrev pub IsListBody : List ℕ → Bool → Result (List ℕ) MasterListFault → Type 0
IsListBody bytes has_closed body =
    (reading : Result (Progress ResponseParts) HeadFault) × IsReading ShowsResponse bytes reading × (body ≡ body_as has_closed bytes reading)

-- A slave's connection to its master: what is still to be written of the request, what the line gave and took, and how often it
-- was called. Then what is kept of the answer.
pub record ListOver : Type 0 where
  pub outgoing : List ℕ
  pub given : List ℕ
  pub taken : List ℕ
  pub calls : Calls
  pub came : List ℕ

-- how much is kept of an answer: a list and its head
abbrev pub most_of_answer : ℕ
most_of_answer = 1064960

-- why a turn yields no list: the line has failed; more has come than is kept; or what has come whole has no list
abbrev pub WhyNoList : MasterListFault → ListOver → ListOver → Type 0
WhyNoList fault pull pull' =
    ((fault ≡ Cut) × (pull'.calls.faults ≡ suc pull.calls.faults))
    ⊎ ((fault ≡ TooLong) × ((bytes : List ℕ) × (pull'.given ≡ pull.given ++ bytes) × (most_of_answer < length pull.came + length bytes)))
    ⊎ IsListBody pull'.came true (Err fault)
