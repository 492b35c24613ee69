-- What all threads of a station share, apart from what is in atomics.
use Rattle.std.specs.Prelude.{ℕ, List}
use Rattle.std.specs.declared.alloc.Global.{Global}
use Rattle.radio_board.specs.declared.shared.Limits.{Limits}
use Rattle.radio_board.specs.declared.worker_desk.WorkerDesk.{WorkerDesk}
use Rattle.radio_board.specs.Paces.{slow_at, much_at}

-- where its memory comes from; the desks of its workers; how many connections may linger, of all together. And how many bytes behind listeners are when sources
-- are read slowly, and when listeners get news at once
pub record SharedOf : Type 0 where
  pub alloc : Global
  pub desks : List WorkerDesk
  pub most_lingering : ℕ
  pub slow : ℕ
  pub much : ℕ

-- that of these workers, within these limits
abbrev pub shared_of : Global → List WorkerDesk → Limits → SharedOf
shared_of alloc desks limits = record {
  alloc = alloc;
  desks = desks;
  most_lingering = limits.most_lingering;
  slow = slow_at limits.queue_size;
  much = much_at limits.queue_size;
}
