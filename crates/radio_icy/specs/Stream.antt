-- A woven stream as a whole: the sound of all calls, cut after each multiple of the interval, with the block of each part.
use Rattle.std.specs.Prelude.{◌≡◌, ℕ, zero, suc, ◌+◌, ◌-◌, ◌*◌, ◌/◌, List, [], ◌∷◌, ◌++◌, length, take, drop, map, Option, None, slice_index_or}
use Rattle.std.specs.List.{flat_map}
use Rattle.std.specs.Option.{option_to_list}
use Rattle.radio_icy.specs.Block.{metadata_block, news_of, sent_with}
use Rattle.radio_icy.specs.Weaving.{Call}

-- the sound of some calls
abbrev pub sound_of_calls : List Call → List ℕ
sound_of_calls calls = flat_map (λ (c : Call). c.sound) calls

-- for each byte of that sound, the title of its call
abbrev pub titles_of_calls : List Call → List (Option (List ℕ))
titles_of_calls calls = flat_map (λ (c : Call). map (λ _. c.title) c.sound) calls

-- the k-th part, from 0: the sound of one interval
abbrev pub interval_sound : ℕ → List Call → ℕ → List ℕ
interval_sound n calls k = take n (drop (n * k) (sound_of_calls calls))

-- the title at the end of the k-th part: that of the call which brought the last byte of it
abbrev pub title_at : ℕ → List Call → ℕ → Option (List ℕ)
title_at n calls k = slice_index_or (titles_of_calls calls) (n * k + (n - 1)) None

-- the last title sent with the blocks of the first k parts
abbrev pub sent_before : ℕ → List Call → ℕ → Option (List ℕ)
sent_before n calls zero = None
sent_before n calls (suc k) = sent_with (news_of (title_at n calls k) (sent_before n calls k)) (sent_before n calls k)

-- the title that the block of the k-th part carries, if any
abbrev pub news_at : ℕ → List Call → ℕ → Option (List ℕ)
news_at n calls k = news_of (title_at n calls k) (sent_before n calls k)

-- the first k parts, each with its block
abbrev pub woven_parts : ℕ → List Call → ℕ → List ℕ
woven_parts n calls zero = []
woven_parts n calls (suc k) = woven_parts n calls k ++ (interval_sound n calls k ++ metadata_block (news_at n calls k))

-- how many intervals the sound fills
abbrev pub interval_count : ℕ → List Call → ℕ
interval_count n calls = length (sound_of_calls calls) / n

-- the sound after the last whole part
abbrev pub rest_of : ℕ → List Call → List ℕ
rest_of n calls = drop (n * interval_count n calls) (sound_of_calls calls)

-- `out` is the woven stream of these calls, with the interval n
-- rule: Metadata count
abbrev pub IsWoven : ℕ → List Call → List ℕ → Type 0
IsWoven n calls out = out ≡ woven_parts n calls (interval_count n calls) ++ rest_of n calls

-- the titles that the blocks of the first k parts carry
abbrev pub titles_sent : ℕ → List Call → ℕ → List (List ℕ)
titles_sent n calls zero = []
titles_sent n calls (suc k) = titles_sent n calls k ++ option_to_list (news_at n calls k)

-- no call has a title
abbrev pub AreUntitled : List Call → Type 0
AreUntitled [] = Unit {0}
AreUntitled (c ∷ calls) = (c.title ≡ None) × AreUntitled calls
