use Rattle.std.proofs.Common.{◌≡◌, ap, sym, ◌∙◌}
use Rattle.radio_events.specs.declared.reply.Reply.TheVariants.{Text as SaysText}
use Rattle.radio_parts.proofs.Words.{ReplyText, Answer, page_at, World, says}
use Rattle.radio_parts.proofs.LentState.{lent_state}
use Rattle.radio_parts.proofs.control.Control.visit.Goals as goal

pub returns-in_ok-page-in-Undecided : goal.returns-in_ok-page-in-Undecided
returns-in_ok-page-in-Undecided c =
    let w = c.args.self.now in
    let asked = c.args.asked.now in
    let is_there : c.in_ok-page-in-Undecided.field-0 ≡ page_at w c.args.path asked.visit
    = c.in_ok-page-in-Undecided.ensures
    ∙ ap (λ (v : World). page_at v c.args.path asked.visit) (lent_state w c.station.result c.seats.result.now.seats c.station.ensures c.seats.ensures.seats) in
    rw (sym c.standing.ensures ∙ c.in-Undecided.is) (ap (λ (text : ReplyText). says (SaysText text) (Answer asked.id)) is_there)
