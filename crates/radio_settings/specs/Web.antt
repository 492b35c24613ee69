-- The table `[web]`.
use Rattle.std.specs.Prelude.{ℕ, true, false, Option, List, [], ◌∷◌, ◌++◌, option_map}
use Rattle.std.specs.Option.{option_map_or}
use Rattle.toml.specs.Parse.{parse_document}
use Rattle.toml.specs.Data.{Members}
use Rattle.radio_keys.specs.declared.fault.SettingsFault.{SettingsFault}
use Rattle.radio_keys.specs.declared.key.Key.TheVariants.{Web, AllowOrigin, IcecastStatus, Page, PublicUrl, CacheControl, BrowserCommands, LogPolls, IcecastHeads}
use Rattle.radio_keys.specs.Lookup.{text_at, flag_or, table_at}
use Rattle.radio_keys.specs.Rows.{KeyRow, key_row, faults_in, first_fault, flag, optional, origin, text}
use Rattle.radio_settings_values.specs.declared.web.WebSettings.{WebSettings}
use Rattle.radio_settings.specs.declared.web.AnswerSettings.{AnswerSettings}

-- what the web site has
abbrev pub site_keys : List KeyRow
site_keys = key_row AllowOrigin origin optional ∷ key_row IcecastStatus flag optional ∷ key_row Page flag optional ∷ key_row PublicUrl text optional ∷ []

-- how requests and answers are dealt with
abbrev pub answer_keys : List KeyRow
answer_keys =
    key_row CacheControl flag optional
    ∷ key_row BrowserCommands flag optional
    ∷ key_row LogPolls flag optional
    ∷ key_row IcecastHeads flag optional
    ∷ []

-- rule: Web table
abbrev pub web_keys : List KeyRow
web_keys = site_keys ++ answer_keys

-- the first fault of its keys
unfoldable pub web_fault : Members → Option SettingsFault
web_fault table = first_fault (faults_in web_keys table)

unfoldable pub web_of : Members → WebSettings
web_of table = record {
  allow_origin = text_at AllowOrigin table;
  icecast_status = flag_or IcecastStatus table false;
  page = flag_or Page table false;
  public_url = text_at PublicUrl table;
}

unfoldable pub answers_fault : Members → Option SettingsFault
answers_fault table = first_fault (faults_in answer_keys table)

-- what the table says of answers
-- rule: Web table; Polls
unfoldable pub answers_of : Members → AnswerSettings
answers_of table = record {
  has_table = true;
  cache_control = flag_or CacheControl table false;
  browser_commands = flag_or BrowserCommands table false;
  log_polls = flag_or LogPolls table true;
  icecast_heads = flag_or IcecastHeads table false;
}

-- without a table
abbrev pub no_answers : AnswerSettings
no_answers = record { has_table = false; cache_control = false; browser_commands = false; log_polls = true; icecast_heads = false }

-- what a document says of them
abbrev pub answers_in : Members → AnswerSettings
answers_in document = option_map_or answers_of (table_at Web document) no_answers

-- what a text says of them, if it is TOML
abbrev pub answers_of_text : List ℕ → Option AnswerSettings
answers_of_text bytes = option_map answers_in (parse_document bytes)
