use Rattle.std.proofs.Common.{◌≡◌}
use Rattle.radio_fallback.proofs.Words.{option_copied, others_of, walk}
use Rattle.radio_fallback.proofs.walker.Walker.walk.Given as goal

-- from here, with what is left to look at, the walk ends where it ends from the beginning
abbrev pub invariant-mounts : goal.invariant-mounts
invariant-mounts g l =
    walk l.left (g.V.View.sight l.fn.self.view.now) (others_of l.fn.self.seats.now.seats l.fn.self.own) (option_copied l.fn.pair) l.here
    ≡ walk l.fn.most (g.V.View.sight l.fn.self.view.now) (others_of l.fn.self.seats.now.seats l.fn.self.own) (option_copied l.fn.pair) l.fn.mount

abbrev pub decreases-mounts : goal.decreases-mounts
decreases-mounts g l = l.left
