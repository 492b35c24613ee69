-- The text of each answer that the pages of web sites read.
use Rattle.std.specs.Prelude.{ℕ, List, [], ◌++◌, length, codes, decimal, Option, None, Some, IfSome}
use Rattle.radio_heads.specs.declared.answer.Welcome.{Welcome}
use Rattle.radio_heads.specs.declared.web_answer.WebAnswer.{WebAnswer as AnyWebAnswer}
use Rattle.radio_heads.specs.declared.web_answer.WebAnswer.TheVariants.{Stream, Text, Page}
use Rattle.radio_heads.specs.Answer.{about_lines, content_type, line, header_line, shown_line, interval_line, status_line}
use Rattle.radio_heads.specs.FieldValue.{IsFieldText}
use Rattle.radio_heads.specs.Laws.{IsCleanWelcome}

-- whose pages may read an answer, where that is said
abbrev pub origin_line : Option (List ℕ) → List ℕ
origin_line None = []
origin_line (Some origin) = header_line (codes "Access-Control-Allow-Origin") origin

-- the lines for a stream of this type, name and genre, with metadata at each interval where one is given
abbrev pub stream_start : Welcome → List ℕ
stream_start w =
    status_line (codes "HTTP/1.0") 200
    ++ header_line (codes "Content-Type") w.content_type
    ++ shown_line (codes "icy-name") w.name
    ++ shown_line (codes "icy-genre") w.genre
    ++ about_lines w.about
    ++ interval_line w.interval

-- rule: Allow origin
abbrev pub stream_head_text : Option (List ℕ) → Welcome → List ℕ
stream_head_text origin w =
    stream_start w
    ++ origin_line origin
    ++ header_line (codes "Connection") (codes "close")
    ++ line []

-- the lines for a text of this type and of so many bytes
abbrev pub text_start : List ℕ → ℕ → List ℕ
text_start type size =
    status_line (codes "HTTP/1.0") 200
    ++ header_line (codes "Content-Type") type
    ++ header_line (codes "Content-Length") (decimal size)

abbrev pub shared_head : Option (List ℕ) → List ℕ → ℕ → List ℕ
shared_head origin type size =
    text_start type size
    ++ origin_line origin
    ++ header_line (codes "Connection") (codes "close")
    ++ line []

-- rule: Allow origin
abbrev pub shared_text : Option (List ℕ) → List ℕ → List ℕ → List ℕ
shared_text origin type body = shared_head origin type (length body) ++ body

-- the media type of a page
abbrev pub html : List ℕ
html = codes "text/html; charset=utf-8"

-- the lines for a page of so many bytes, for which a browser allows what the policy allows
abbrev pub page_start : List ℕ → ℕ → List ℕ
page_start policy size = text_start html size ++ header_line (codes "Content-Security-Policy") policy

abbrev pub page_head : Option (List ℕ) → List ℕ → ℕ → List ℕ
page_head origin policy size =
    page_start policy size
    ++ origin_line origin
    ++ header_line (codes "Connection") (codes "close")
    ++ line []

-- rule: Allow origin
abbrev pub page_text : Option (List ℕ) → List ℕ → List ℕ → List ℕ
page_text origin policy body = page_head origin policy (length body) ++ body

-- the text of an answer
-- rule: Answers are read back
abbrev pub web_answer_text : Option (List ℕ) → AnyWebAnswer → List ℕ
web_answer_text origin (Stream welcome) = stream_head_text origin welcome
web_answer_text origin (Text kind body) = shared_text origin (content_type kind) body.now
web_answer_text origin (Page policy body) = page_text origin policy body.now

-- the value ends no line, where there is one
abbrev pub IsCleanOrigin : Option (List ℕ) → Type 0
IsCleanOrigin origin = IfSome origin IsFieldText

-- the values from outside in an answer's headers end no line
-- rule: Answers are read back
abbrev pub HasWebFieldTexts : AnyWebAnswer → Type 0
HasWebFieldTexts (Stream w) = IsCleanWelcome w
HasWebFieldTexts (Text kind body) = Unit {0}
HasWebFieldTexts (Page policy body) = IsFieldText policy
