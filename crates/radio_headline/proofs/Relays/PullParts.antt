-- The parts and items of a master's answer, and more bytes of it.
use Rattle.std.proofs.Common.{◌≡◌, ℕ, List, [], ◌∷◌, ◌++◌, drop, Option, None, Some, Ok, refl, sym, ap, ◌∙◌, append_assoc}
use Rattle.radio_headline.proofs.Words.{map, concat, append-nil, drop-append-le, flat_map-append, blocks_of, Shown, Entry, RelayUp, Whole, IsStableReading, HeadsLieWithin, IsReading, ResponseParts, ShowsResponse}
use Rattle.radio_headline.proofs.Words.{shown_in_response, Gathered, all_items, items_of, nothing_gathered, with_gathered_part, with_parts, sound_of_parts, PulledPart, ShownPart, SoundPart, TitlePart, parts_heard}
use Rattle.radio_headline.proofs.Words.{stream_parts, stream_with, title_parts, PullItem, Up, Sound, PulledStream, AfterPieces, HeardInPieces, parts-cut, pushed}
use Rattle.radio_icy.specs.Unweaving.{StreamItem, SoundByte, WholeText, atoms_of_piece}
use Rattle.radio_icy.specs.Titles.{title_of}
use Rattle.radio_relay.specs.declared.items.PullItem.TheVariants.{Title as Named}
use Rattle.radio_relay.specs.declared.stream.PulledStream.TheVariants.{Plain, Woven}
use Rattle.radio_headline.proofs.Logs.{Each}
use Rattle.radio_headline.proofs.Relays.RelayWords.{AreNoUps, IsCut, IsNoUp, OwnRelay}
use Rattle.radio_headline.proofs.Relays.PullEntries.{sound_of_item, sound_of_items}
use Rattle.radio_headline.proofs.Connections.{Pulls, events_of, stream_after}

-- sound among parts, one after another
pub sound_joined : (parts more : List PulledPart) → sound_of_parts (parts ++ more) ≡ sound_of_parts parts ++ sound_of_parts more
sound_joined [] more = refl
sound_joined (ShownPart shown ∷ parts) more = sound_joined parts more
sound_joined (SoundPart b ∷ parts) more = ap (λ (xs : List ℕ). b ∷ xs) (sound_joined parts more)
sound_joined (TitlePart title ∷ parts) more = sound_joined parts more

-- a stream shows nothing of itself behind its head
abbrev ShowNothing : List PulledPart → Type 0
ShowNothing [] = Unit {0}
ShowNothing (ShownPart shown ∷ parts) = ⊥
ShowNothing (part ∷ parts) = ShowNothing parts

show_joined : (parts more : List PulledPart) → ShowNothing parts → ShowNothing more → ShowNothing (parts ++ more)
show_joined [] more h k = k
show_joined (ShownPart shown ∷ parts) more h k = elim h [ ]
show_joined (SoundPart b ∷ parts) more h k = show_joined parts more h k
show_joined (TitlePart title ∷ parts) more h k = show_joined parts more h k

plain_shows : (bytes : List ℕ) → ShowNothing (map (λ b. SoundPart b) bytes)
plain_shows [] = tt
plain_shows (b ∷ bytes) = plain_shows bytes

title_shows : (title : Option (List ℕ)) → ShowNothing (title_parts title)
title_shows None = tt
title_shows (Some title) = tt

woven_shows : (atoms : List StreamItem) → ShowNothing (parts_heard atoms)
woven_shows [] = tt
woven_shows (SoundByte b ∷ atoms) = woven_shows atoms
woven_shows (WholeText text ∷ atoms) = show_joined (title_parts (title_of text)) (parts_heard atoms) (title_shows (title_of text)) (woven_shows atoms)

pub stream_shows : (stream : PulledStream) (bytes : List ℕ) → ShowNothing (stream_parts stream bytes)
stream_shows Plain bytes = plain_shows bytes
stream_shows (Woven reader) bytes = woven_shows (atoms_of_piece reader bytes)

-- items
pub ups_joined : (items more : List PullItem) → AreNoUps items → AreNoUps more → AreNoUps (items ++ more)
ups_joined [] more h k = k
ups_joined (Up shown ∷ items) more h k = elim h [ ]
ups_joined (Sound block ∷ items) more h k = ups_joined items more h k
ups_joined (Named text ∷ items) more h k = ups_joined items more h k

pub sounds_up : (blocks : List (List ℕ)) → AreNoUps (map Sound blocks)
sounds_up [] = tt
sounds_up (block ∷ blocks) = sounds_up blocks

pub items_up : (g : Gathered) (parts : List PulledPart) → AreNoUps g.complete → ShowNothing parts → AreNoUps (all_items (with_parts g parts))
items_up g [] h s = ups_joined g.complete (map Sound (blocks_of g.run)) h (sounds_up (blocks_of g.run))
items_up g (ShownPart shown ∷ parts) h s = elim s [ ]
items_up g (SoundPart b ∷ parts) h s = items_up (with_gathered_part g (SoundPart b)) parts h s
items_up g (TitlePart title ∷ parts) h s =
    items_up (with_gathered_part g (TitlePart title)) parts
    (ups_joined (all_items g) (Named title ∷ []) (ups_joined g.complete (map Sound (blocks_of g.run)) h (sounds_up (blocks_of g.run))) tt) s

abbrev led_by : List PullItem → Gathered → Gathered
led_by before g = record { complete = before ++ g.complete; run = g.run }

pub led_items : (before : List PullItem) (g : Gathered) → all_items (led_by before g) ≡ before ++ all_items g
led_items before g = append_assoc before g.complete (map Sound (blocks_of g.run))

pub led_part : (before : List PullItem) (g : Gathered) (part : PulledPart) → with_gathered_part (led_by before g) part ≡ led_by before (with_gathered_part g part)
led_part before g (ShownPart shown) =
    ap (λ (xs : List PullItem). record { complete = xs ++ Up shown ∷ []; run = [] }) (led_items before g)
    ∙ ap (λ (xs : List PullItem). record { complete = xs; run = [] }) (append_assoc before (all_items g) (Up shown ∷ []))
led_part before g (SoundPart b) = refl
led_part before g (TitlePart title) =
    ap (λ (xs : List PullItem). record { complete = xs ++ Named title ∷ []; run = [] }) (led_items before g)
    ∙ ap (λ (xs : List PullItem). record { complete = xs; run = [] }) (append_assoc before (all_items g) (Named title ∷ []))

pub led_parts : (before : List PullItem) (g : Gathered) (parts : List PulledPart) → all_items (with_parts (led_by before g) parts) ≡ before ++ all_items (with_parts g parts)
led_parts before g [] = led_items before g
led_parts before g (part ∷ parts) =
    ap (λ (x : Gathered). all_items (with_parts x parts)) (led_part before g part) ∙ led_parts before (with_gathered_part g part) parts

module _ (settled : IsStableReading ShowsResponse) (within : HeadsLieWithin ShowsResponse) (joined : (bytes : List ℕ) → concat (blocks_of bytes) ≡ bytes)
    (none_blocks : blocks_of [] ≡ []) (in_pieces : HeardInPieces) (afters : AfterPieces) where
  -- items have the sound of their parts
  pub block_sounds : (blocks : List (List ℕ)) → sound_of_items (map Sound blocks) ≡ concat blocks
  block_sounds [] = refl
  block_sounds (block ∷ blocks) = ap (λ (xs : List ℕ). block ++ xs) (block_sounds blocks)

  pub all_sounds : (g : Gathered) → sound_of_items (all_items g) ≡ sound_of_items g.complete ++ g.run
  all_sounds g =
      flat_map-append sound_of_item g.complete (map Sound (blocks_of g.run))
      ∙ ap (λ (xs : List ℕ). sound_of_items g.complete ++ xs) (block_sounds (blocks_of g.run) ∙ joined g.run)

  pub with_sounds : (g : Gathered) (parts : List PulledPart)
      → sound_of_items (all_items (with_parts g parts)) ≡ sound_of_items g.complete ++ g.run ++ sound_of_parts parts
  with_sounds g [] = all_sounds g ∙ sym (append-nil (sound_of_items g.complete ++ g.run))
  with_sounds g (ShownPart shown ∷ parts) =
      with_sounds (with_gathered_part g (ShownPart shown)) parts
      ∙ ap (λ (xs : List ℕ). xs ++ [] ++ sound_of_parts parts)
      (flat_map-append sound_of_item (all_items g) (Up shown ∷ []) ∙ append-nil (sound_of_items (all_items g)) ∙ all_sounds g)
      ∙ ap (λ (xs : List ℕ). xs ++ sound_of_parts parts) (append-nil (sound_of_items g.complete ++ g.run))
  with_sounds g (SoundPart b ∷ parts) =
      with_sounds (with_gathered_part g (SoundPart b)) parts
      ∙ ap (λ (xs : List ℕ). xs ++ sound_of_parts parts) (sym (append_assoc (sound_of_items g.complete) g.run (b ∷ [])))
      ∙ append_assoc (sound_of_items g.complete ++ g.run) (b ∷ []) (sound_of_parts parts)
  with_sounds g (TitlePart title ∷ parts) =
      with_sounds (with_gathered_part g (TitlePart title)) parts
      ∙ ap (λ (xs : List ℕ). xs ++ [] ++ sound_of_parts parts)
      (flat_map-append sound_of_item (all_items g) (Named title ∷ []) ∙ append-nil (sound_of_items (all_items g)) ∙ all_sounds g)
      ∙ ap (λ (xs : List ℕ). xs ++ sound_of_parts parts) (append-nil (sound_of_items g.complete ++ g.run))

  pub items_sound : (parts : List PulledPart) → sound_of_items (items_of parts) ≡ sound_of_parts parts
  items_sound parts = with_sounds nothing_gathered parts

  -- the first of what comes with a head
  pub head_items : (shown : Shown) (parts : List PulledPart) → items_of (ShownPart shown ∷ parts) ≡ Up shown ∷ items_of parts
  head_items shown parts =
      ap (λ (blocks : List (List ℕ)). all_items (with_parts (record { complete = map Sound blocks ++ Up shown ∷ []; run = [] }) parts)) none_blocks
      ∙ led_parts (Up shown ∷ []) nothing_gathered parts

  pub no_items : items_of [] ≡ []
  no_items = ap (map Sound) none_blocks

  -- more of an answer
  pub read_more : (bytes more : List ℕ) (head : ResponseParts) (n : ℕ) → IsReading ShowsResponse bytes (Ok (Whole head n))
      → IsReading ShowsResponse (bytes ++ more) (Ok (Whole head n))
  read_more bytes more head n reading = settled bytes more (Ok (Whole head n)) reading (λ e. cc)

  pub behind_head : (bytes more : List ℕ) (head : ResponseParts) (n : ℕ) → IsReading ShowsResponse bytes (Ok (Whole head n))
      → drop n (bytes ++ more) ≡ drop n bytes ++ more
  behind_head bytes more head n reading = drop-append-le n bytes more (within bytes head n reading)

  pub more_sound : (bytes more : List ℕ) (log : List Entry) (p : Pulls bytes log)
      → sound_of_parts (stream_parts (stream_with p.interval) (drop p.length (bytes ++ more)))
      ≡ sound_of_parts (stream_parts (stream_with p.interval) (drop p.length bytes)) ++ sound_of_parts (stream_parts (stream_after p) more)
  more_sound bytes more log p =
      ap (λ (xs : List ℕ). sound_of_parts (stream_parts (stream_with p.interval) xs)) (behind_head bytes more p.head p.length p.reading)
      ∙ ap sound_of_parts (parts-cut in_pieces afters (stream_with p.interval) (drop p.length bytes) more)
      ∙ sound_joined (stream_parts (stream_with p.interval) (drop p.length bytes)) (stream_parts (stream_after p) more)

  abbrev pub pulls_with : (bytes bytes' : List ℕ) (log log' : List Entry) (p : Pulls bytes log) → IsReading ShowsResponse bytes' (Ok (Whole p.head p.length))
      → (behind : List Entry) → log' ≡ record { event = RelayUp p.mount (shown_in_response p.head); reply = p.reply } ∷ behind → OwnRelay None log'
      → Each (λ e. IsNoUp e.event) behind → IsCut log' → (rest : List ℕ)
      → pushed (events_of behind) ++ rest ≡ sound_of_parts (stream_parts (stream_with p.interval) (drop p.length bytes')) → Pulls bytes' log'
  pulls_with bytes bytes' log log' p reading behind in_order own no_more cut rest front = record {
    mount = p.mount;
    head = p.head;
    reply = p.reply;
    behind = behind;
    in_order = in_order;
    own = own;
    no_more = no_more;
    cut = cut;
    length = p.length;
    reading = reading;
    interval = p.interval;
    told = p.told;
    rest = rest;
    front = front;
  }

  pub more_pulled : (bytes more : List ℕ) (log : List Entry) → Pulls bytes log → Pulls (bytes ++ more) log
  more_pulled bytes more log p =
      pulls_with bytes (bytes ++ more) log log p (read_more bytes more p.head p.length p.reading) p.behind p.in_order p.own p.no_more p.cut
      (p.rest ++ sound_of_parts (stream_parts (stream_after p) more))
      (sym (append_assoc (pushed (events_of p.behind)) p.rest (sound_of_parts (stream_parts (stream_after p) more)))
      ∙ ap (λ (xs : List ℕ). xs ++ sound_of_parts (stream_parts (stream_after p) more)) p.front ∙ sym (more_sound bytes more log p))
