-- The bytes of each answer.
use Rattle.std.specs.Prelude.{ℕ, zero, suc, Bool, true, false, List, [], ◌++◌, codes, decimal, Option, None, Some}
use Rattle.radio_policy.specs.declared.rule.Rule.{Rule}
use Rattle.radio_policy.specs.declared.rule.Status.{Status}
use Rattle.radio_policy.specs.Words.{word_of, status_of}
use Rattle.radio_events.specs.declared.text.ReplyText.{ReplyText as CommandText}
use Rattle.radio_events.specs.declared.text.ReplyText.TheVariants.{Done as CommandDone, Moved, Ended as ListenersEnded, Json, Streams, Public, Page}
use Rattle.radio_events.specs.Texts.{done_line, moved_line, ended_line}
use Rattle.radio_events.specs.declared.reply.StreamHead.{StreamHead}
use Rattle.radio_values.specs.declared.about.About.{About}
use Rattle.radio_heads.specs.declared.answer.AboutHeaders.{AboutHeaders}
use Rattle.radio_heads.specs.Answer.{denial_text, sized_text, content_type}
use Rattle.radio_heads.specs.declared.answer.TextKind.TheVariants.{Plain, Json as InJson}
use Rattle.radio_heads.specs.WebAnswer.{shared_text, stream_head_text}
use Rattle.radio_answers.specs.Page.{page_answer}
use Rattle.radio_answers.specs.declared.web_answers.WebAnswers.{WebAnswers}
use Rattle.radio_answers.specs.WebAnswers.{answered_by, stream_by}

-- the answer that names the rule; a rule without a status has none
abbrev pub denial_with : WebAnswers → Option Status → Rule → List ℕ
denial_with web None rule = []
denial_with web (Some status) rule = answered_by web (denial_text status (word_of rule))

abbrev pub denial : WebAnswers → Rule → List ℕ
denial web rule = denial_with web (status_of rule) rule

-- after how many bytes of data a block is sent, if any is; an interval of none has no blocks
-- rule: Metadata interval
abbrev pub sent_interval : Option ℕ → Option ℕ
sent_interval None = None
sent_interval (Some zero) = None
sent_interval (Some (suc n)) = Some (suc n)

-- a text, or none of it
abbrev pub text_if : Bool → List ℕ → List ℕ
text_if true text = text
text_if false text = []

-- what the head of a stream has of what else it says of itself
-- rule: Icecast heads
abbrev pub about_told : WebAnswers → About → AboutHeaders
about_told web about = record {
  description = text_if web.icecast_heads about.description;
  url = text_if web.icecast_heads about.url;
  bitrate = text_if web.icecast_heads about.bitrate;
}

-- the head of a stream, with metadata blocks at this interval
-- rule: Allow origin
-- rule: Icecast heads
abbrev pub head_text : WebAnswers → Option ℕ → StreamHead → List ℕ
head_text web interval head = stream_by web head.shown.content_type (stream_head_text head.allow_origin (record {
  content_type = head.shown.content_type;
  name = head.shown.name;
  genre = head.shown.genre;
  about = about_told web head.shown.about;
  interval = sent_interval interval;
}))

-- a line of what was done to listeners, and to how many
abbrev pub count_line : List ℕ → ℕ → List ℕ
count_line done count = done ++ (codes ": " ++ (decimal count ++ codes "\n"))

-- what is said of a command that was done, or shown of the station
abbrev pub bare_answer : CommandText → List ℕ
bare_answer CommandDone = sized_text 200 (content_type Plain) done_line
bare_answer (Moved count) = sized_text 200 (content_type Plain) (moved_line count)
bare_answer (ListenersEnded count) = sized_text 200 (content_type Plain) (ended_line count)
bare_answer (Json bytes) = sized_text 200 (content_type InJson) bytes
bare_answer (Streams bytes) = sized_text 200 (content_type Plain) bytes
bare_answer (Public bytes origin) = shared_text origin (content_type InJson) bytes
bare_answer (Page origin) = page_answer origin

-- rule: One moment; Allow origin
abbrev pub text_answer : WebAnswers → CommandText → List ℕ
text_answer web text = answered_by web (bare_answer text)
