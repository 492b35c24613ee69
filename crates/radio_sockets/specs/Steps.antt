-- What a worker's turn source decides. Moments are in milliseconds.
use Rattle.std.specs.Prelude.{ℕ, ℤ, pos, ◌+◌, ◌-◌, ◌*◌, ◌^◌, ◌==◌, min, max, nat_le, nat_lt, Bool, not, ◌&&◌, ◌||◌, if◌then◌else◌}
use Rattle.std.specs.Ordering.{int_eq}
use Rattle.radio_sockets.specs.declared.steps.Called.{Called}
use Rattle.radio_board.specs.declared.news.NewsFor.{NewsFor}
use Rattle.radio_board.specs.declared.news.NewsFor.TheVariants.{AllBut, All}

-- whether those who wait are put off: the last turn was more than so many milliseconds ago, and they were not put off before it
-- rule: Newcomers
abbrev pub puts_off : ℕ → ℕ → Bool → Bool
puts_off waiting passed were = nat_lt 0 waiting && nat_lt 50 passed && not were

-- how many of those who wait are taken in before a turn: 64 at most, and none if they are put off
-- rule: Newcomers
abbrev pub called_of : ℕ → ℕ → Bool → Called
called_of waiting passed were = record { count = if puts_off waiting passed were then 0 else min waiting 64; puts_off = puts_off waiting passed were }

-- what a worker has to do, in connections, if so many are its own and so many of these are sources: a source counts as five; a count
-- has 64 bits
abbrev pub weight_of : ℕ → ℕ → ℕ
weight_of connections sources = min (2 ^ 64 - 1) (connections + min (2 ^ 64 - 1) (sources * 4))

-- whether the log gets the moment by the clock, which it last got at another moment, or never
abbrev pub is_log_due : ℕ → ℕ → Bool
is_log_due log_set clock = (log_set == 0) || nat_le 100 (clock - log_set)

-- whether a turn is due at a moment, if the last one was at another
abbrev pub is_turn_due : ℕ → ℕ → Bool
is_turn_due now last = nat_le 500 (now - last)

-- whose listeners have news if the sources of the worker of this number have brought something
abbrev pub news_for : ℕ → Bool → NewsFor
news_for number may_draw = if may_draw then AllBut number else All

-- for how long the acceptor waits: not at all if it is called, shorter if a connection may be accepted soon, or newcomers wait
abbrev pub acceptor_wait : Bool → Bool → ℕ → ℕ
acceptor_wait called may_accept newcomers = if called then 0 else if may_accept then 50 else if nat_lt 0 newcomers then 250 else 1000

-- no longer than until the first header is overdue; if one is, 50 milliseconds
abbrev pub header_wait : ℕ → ℕ → ℕ
header_wait wait header = min wait (max header 50)

-- the number of the next connection that waits for a header: any other name of the system is higher
abbrev pub next_pending_number : ℕ → ℕ
next_pending_number number = if nat_lt number (2 ^ 32 - 1) then number + 1 else 0

-- whether a worker that has served for so long ends the server, since the acceptor has not begun
abbrev pub is_alone : ℕ → Bool → Bool
is_alone served has_acceptor = nat_lt 10000 served && not has_acceptor

-- whether a worker has something to do, apart from its sockets: news that waits no more, newcomers, or the end of all
abbrev pub has_to_do : Bool → ℕ → ℕ → Bool → Bool
has_to_do news left newcomers over = (news && (left == 0)) || nat_lt 0 newcomers || over

-- whether the worker's log gets the moment at this one, and when it last got it then
abbrev pub log_set_at : ℕ → ℕ → ℕ
log_set_at log_set clock = if is_log_due log_set clock then clock else log_set

-- whether the system's fault of this number is that there is no descriptor left, for the process or at all
abbrev pub lacks_descriptors : ℤ → Bool
lacks_descriptors code = int_eq code (pos 24) || int_eq code (pos 23)
