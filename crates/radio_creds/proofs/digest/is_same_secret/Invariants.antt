use Rattle.std.proofs.Common.{◌≡◌, true, false, take}
use Rattle.std.specs.Prelude.{◌≢◌}
use Rattle.radio_creds.proofs.digest.is_same_secret.Given as goal

abbrev pub invariant-loop-i : goal.invariant-loop-i
invariant-loop-i l = record {
  same_so_far : l.is_same ≡ true → take l.i l.a ≡ take l.i l.b;
  apart : l.is_same ≡ false → l.a ≢ l.b;
}
