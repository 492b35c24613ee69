use Rattle.std.proofs.Common.{◌≡◌, ℕ, None, List, refl, ap, sym, subst, ◌∙◌}
use Rattle.radio_parts_table.proofs.Words.{if◌then◌else◌, SeatTable, passes_at, how_many, AreByNumber, sits_at, with_ended, Listener, heard, AreAttached, Listening, places_in}
use Rattle.radio_parts_table.proofs.FitsChanges.{tested_fits}
use Rattle.radio_parts_table.proofs.ListenersLemmas.{have_tested, how_many_heard, same_listening}
use Rattle.radio_parts_table.proofs.listeners.Listeners.finish_at_if.Goals as goal

pub invariant_of-self : goal.invariant_of-self
invariant_of-self g c =
    let i = c.self.inside in
    let p = g.T.SeatTest.passes c.args.test.now in
    let before = places_in i.parts.attached in
    let after = places_in c.detach_others.new.self.attached in
    let there = subst (λ (s : List Listener). (n : ℕ) → after c.args.mount.now n ≡ (if sits_at s n c.args.mount.now then before c.args.mount.now n else None))
    (ap (λ (b : SeatTable). b.seats) c.finish_at_if-count.ensures.seats) c.detach_others.ensures.there in
    subst (AreAttached c.self.inside.is_whole c.detach_others.new.self.attached) (sym c.finish_at_if-count.ensures.seats) (record {
      parts = λ mount is. c.detach_others.ensures.parts mount ∙ c.self.invariant.parts mount is;
      fits = λ whole. tested_fits before after c.args.mount.now p c.args.rule i.seats.seats there (λ m n apart. c.detach_others.ensures.elsewhere m n apart)
          (c.self.invariant.fits whole);
    })

pub returns-clause-seats : goal.returns-clause-seats
returns-clause-seats g c =
    let i = c.self.inside in
    let p = g.T.SeatTest.passes c.args.test.now in
    let before = places_in i.parts.attached in
    let after = places_in c.detach_others.new.self.attached in
    let there = subst (λ (s : List Listener). (n : ℕ) → after c.args.mount.now n ≡ (if sits_at s n c.args.mount.now then before c.args.mount.now n else None))
    (ap (λ (b : SeatTable). b.seats) c.finish_at_if-count.ensures.seats) c.detach_others.ensures.there in
    let rising = subst AreByNumber (ap (λ (b : SeatTable). b.seats) c.finish_at_if-count.ensures.seats) c.len.ensures.rising in
    same_listening
    (ap (λ (b : SeatTable). b.prepared) c.finish_at_if-count.ensures.seats ∙ ap (λ (b : Listening). b.prepared) c.self.view_is)
    (ap (λ (b : SeatTable). heard after b.seats) c.finish_at_if-count.ensures.seats
    ∙ have_tested before after c.args.mount.now p c.args.rule i.seats.seats rising there (λ m n apart. c.detach_others.ensures.elsewhere m n apart)
    ∙ ap (λ (b : Listening). with_ended b.seats (passes_at c.args.mount.now p) c.args.rule) c.self.view_is)
    (c.detach_others.ensures.live ∙ ap (λ (b : Listening). b.live) c.self.view_is)

pub returns-clause-count : goal.returns-clause-count
returns-clause-count g c =
    let i = c.self.inside in
    let p = g.T.SeatTest.passes c.args.test.now in
    c.finish_at_if-count.ensures.count
    ∙ sym (how_many_heard (places_in i.parts.attached) (passes_at c.args.mount.now p) (λ seat place. refl) i.seats.seats)
    ∙ ap (λ (b : Listening). how_many (passes_at c.args.mount.now p) b.seats) c.self.view_is
