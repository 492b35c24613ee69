use Rattle.std.proofs.Common.{ℕ, ◌==◌, not, ap, sym, ◌∙◌}
use Rattle.radio_parts_table.proofs.Words.{◌&&◌, bytes_eq, is_prepared, named_at, places_in, Listening}
use Rattle.radio_parts_table.proofs.HeardReads.{named_heard}
use Rattle.radio_parts_table.proofs.listeners.Listeners.release.Goals as goal

pub returns-then-not-is_prepared-clause-prepared : goal.returns-then-not-is_prepared-clause-prepared
returns-then-not-is_prepared-clause-prepared c = λ other.
    let i = c.self.inside in
    c.release.ensures.prepared other
    ∙ ap (λ (n : ℕ). is_prepared i.seats.prepared other && not (bytes_eq c.args.mount.now other && (n == 0)))
    (sym (named_heard (places_in i.parts.attached) c.args.mount.now i.seats.seats))
    ∙ ap (λ (b : Listening). is_prepared b.prepared other && not (bytes_eq c.args.mount.now other && (named_at b.seats c.args.mount.now == 0))) c.self.view_is

pub returns-else-not-is_prepared-clause-prepared : goal.returns-else-not-is_prepared-clause-prepared
returns-else-not-is_prepared-clause-prepared c = λ other.
    let i = c.self.inside in
    c.release.ensures.prepared other
    ∙ ap (λ (n : ℕ). is_prepared i.seats.prepared other && not (bytes_eq c.args.mount.now other && (n == 0)))
    (sym (named_heard (places_in i.parts.attached) c.args.mount.now i.seats.seats))
    ∙ ap (λ (b : Listening). is_prepared b.prepared other && not (bytes_eq c.args.mount.now other && (named_at b.seats c.args.mount.now == 0))) c.self.view_is
