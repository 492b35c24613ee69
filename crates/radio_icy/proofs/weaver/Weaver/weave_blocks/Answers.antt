use Rattle.std.proofs.Common.{◌≡◌, ℕ, ◌+◌, ◌≤◌, ◌++◌, length, List, Option, ap, ◌∙◌, sym, refl}
use Rattle.std.specs.Option.{option_copied, option_map}
use Rattle.radio_icy.specs.Block.{news_of, sent_with}
use Rattle.radio_icy.specs.Weaving.{from_place}
use Rattle.radio_icy.proofs.WeavingLemmas.{woven_news, news_of_first, place_same, interval_same, place_below, sent_after_block, same_weaving, option_map-or}
use Rattle.radio_icy.proofs.weaver.Weaver.weave_blocks.Goals as goal

pub invariant_of-self : goal.invariant_of-self
invariant_of-self c =
    rw c.in-Ok.ensures.place
    (place_below (from_place c.self.inside.interval c.self.inside.place) (option_copied c.news_of-news.result) c.args.sound.now c.self.invariant)

pub returns-in-Ok-clause-woven : goal.returns-in-Ok-clause-woven
returns-in-Ok-clause-woven c =
    let news = option_copied c.news_of-news.result in
    let start = from_place c.self.inside.interval c.self.inside.place in
    let is_news : news ≡ news_of (option_copied c.args.title) (option_map (λ v. v.items) c.self.inside.sent) =
    rw (← c.self.view_is) at c.news_of-news.ensures in
    rw (c.in-Ok.ensures.woven, c.sent_with_room.ensures.items, ← c.self.view_is)
    (ap (λ t. c.args.out.now.items ++ t) (woven_news start _ news (option_copied c.args.title) c.args.sound.now refl refl (news_of_first news ∙ is_news)))

pub returns-in-Ok-clause-after : goal.returns-in-Ok-clause-after
returns-in-Ok-clause-after c =
    let news = option_copied c.news_of-news.result in
    let start = from_place c.self.inside.interval c.self.inside.place in
    let is_news : news ≡ news_of (option_copied c.args.title) (option_map (λ v. v.items) c.self.inside.sent) =
    rw (← c.self.view_is) at c.news_of-news.ensures in
    let due : c.self.inside.interval ≤ c.self.inside.place + length c.args.sound.now = rw (← c.self.view_is) at c.requires.due in
    let old : Option (List ℕ) = option_map (λ v. v.items) c.self.inside.sent in
    rw (← c.self.view_is)
    (same_weaving _ _
    (sym (interval_same _ (option_copied c.args.title) c.args.sound.now))
    (c.in-Ok.ensures.place ∙ place_same start _ news (option_copied c.args.title) c.args.sound.now refl refl)
    (rw (c.or.ensures, c.take.ensures.value)
    (option_map-or (λ v. v.items) c.in_ok-sent.sent c.self.inside.sent
    ∙ (ap (λ o. sent_with o old) (c.in_ok-sent.ensures.sent ∙ is_news)
    ∙ sym (sent_after_block (record start { sent = old }) (option_copied c.args.title) c.args.sound.now c.self.invariant due)))))
