-- Connections of proxies that end before a client has arrived, as the log has them.
use Rattle.std.specs.Prelude.{ℕ, List, [], codes}
use Rattle.radio_addr.specs.declared.address.Address.{Address}
use Rattle.radio_log.specs.declared.facts.ClientEnded.{ClientEnded}
use Rattle.radio_proxy.specs.declared.pending.HeaderOutcome.{HeaderOutcome}
use Rattle.radio_proxy.specs.declared.pending.HeaderOutcome.TheVariants.{Named, Bad, Left}

-- the word of its end
-- rule: Missing proxy header
abbrev pub gone_word : HeaderOutcome → List ℕ
gone_word (Named named) = codes "left"
gone_word Bad = codes "bad-proxy"
gone_word Left = codes "left"

-- nobody has asked for anything, and nothing was answered
abbrev pub gone : Address → List ℕ → ℕ → ClientEnded
gone peer why seconds = record {
  peer = peer;
  method = [];
  path = [];
  mount = [];
  status = 0;
  why = why;
  user = [];
  seconds = seconds;
  bytes = 0;
  agent = [];
}
