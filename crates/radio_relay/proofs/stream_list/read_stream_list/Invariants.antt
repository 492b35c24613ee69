use Rattle.std.proofs.Common.{◌≡◌, length}
use Rattle.radio_relay.proofs.Words.{names_listed, with_names, stream_list_lines}
use Rattle.radio_relay.proofs.stream_list.read_stream_list.Given as goal

-- with the lines that are left they are all names
abbrev pub invariant-lines : goal.invariant-lines
invariant-lines l = names_listed l.text ≡ with_names l.names.keys (stream_list_lines l.rest)

abbrev pub decreases-lines : goal.decreases-lines
decreases-lines l = length l.rest
