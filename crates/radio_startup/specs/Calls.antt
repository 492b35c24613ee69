-- What the words of a command line ask for.
use Rattle.std.specs.Prelude.{ℕ, true, false, ◌&&◌, if◌then◌else◌, List, codes, Option, None, Some}
use Rattle.std.specs.Str.{bytes_eq}
use Rattle.std.specs.String.{string_bytes}
use Rattle.std.specs.declared.alloc.Global.{Global}
use Rattle.std.specs.declared.string.String.{String}
use Rattle.radio_startup.specs.declared.call.CommandLine.{CommandLine}
use Rattle.radio_startup.specs.declared.call.CommandLine.TheVariants.{Play, Serve, Check, Version, Help}

-- a single word
abbrev pub asked_alone : List ℕ → Option CommandLine
asked_alone word =
    if bytes_eq word (codes "--version") then Some Version
    else if bytes_eq word (codes "--help") then Some Help
    else None

-- a word and the path of the settings
abbrev pub asked_of : List ℕ → String Global → Option CommandLine
asked_of verb path =
    if bytes_eq verb (codes "play") then Some (Play path)
    else if bytes_eq verb (codes "serve") then Some (Serve path)
    else if bytes_eq verb (codes "check") then Some (Check path false)
    else None

-- a word, the path of the settings and a flag
abbrev pub asked_with_flag : List ℕ → String Global → List ℕ → Option CommandLine
asked_with_flag verb path flag =
    if bytes_eq verb (codes "check") && bytes_eq flag (codes "--strict") then Some (Check path true) else None

-- up to four words behind the program's name; a missing one has none behind it
-- rule: Fault of a call
abbrev pub command_line_of : Option (String Global) → Option (String Global) → Option (String Global) → Option (String Global) → Option CommandLine
command_line_of (Some verb) None None None = asked_alone (string_bytes verb)
command_line_of (Some verb) (Some path) None None = asked_of (string_bytes verb) path
command_line_of (Some verb) (Some path) (Some flag) None = asked_with_flag (string_bytes verb) path (string_bytes flag)
command_line_of verb path flag more = None
