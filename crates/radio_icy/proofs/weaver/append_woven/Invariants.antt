use Rattle.std.proofs.Common.{◌≡◌, ◌<◌, ◌≤◌, ◌++◌, length, take, vec_len, IfSome}
use Rattle.std.specs.Option.{option_copied}
use Rattle.radio_icy.specs.Weaving.{from_place, woven, after_weaving}
use Rattle.radio_values.specs.Limits.{max_title}
use Rattle.radio_icy.proofs.weaver.append_woven.Given as goal

-- what has been written and what is still to be woven make what is asked for
abbrev pub invariant-intervals : goal.invariant-intervals
invariant-intervals l =
    (l.place < l.interval)
    × IfSome l.news (λ t. length t.now ≤ max_title)
    × (l.out.items ++ woven (from_place l.interval l.place) (option_copied l.news) l.rest
    ≡ l.initial.out.items ++ woven (from_place l.interval l.fn.place) (option_copied l.news-2) l.sound)
    × ((after_weaving (from_place l.interval l.place) (option_copied l.news) l.rest).place
    ≡ (after_weaving (from_place l.interval l.fn.place) (option_copied l.news-2) l.sound).place)
    × (take (vec_len l.initial.out) l.out.items ≡ l.initial.out.items)

abbrev pub decreases-intervals : goal.decreases-intervals
decreases-intervals l = length l.rest
