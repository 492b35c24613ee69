-- why a client gets a text
use Rattle.std.proofs.Common.{◌≡◌, ap, subst, true}
use Rattle.radio_laws.proofs.Words.{Event, ReplyText, Outcome, outcome, reply_to, World}
use Rattle.radio_events.specs.declared.reply.Reply.TheVariants.{Text as SaysText}
use Rattle.radio_laws.proofs.Denials.GrantedLemmas.{IsToldFor, Granted, AdmitsClient, AdmitsSource, AdmitsRelay, AdmitsListener, HandsData, TellsText, GrantsNothing, grants, granted}

told_by : (w : World) (event : Event) (o : Outcome) → Granted w event o → (text : ReplyText) → o.reply ≡ SaysText text → IsToldFor w event text
told_by w event o (TellsText told change why) text d = let same : told ≡ text = cc in subst (IsToldFor w event) same why
told_by w event o (AdmitsClient peer change is allowed) text d = cc
told_by w event o (AdmitsSource asked change is allowed) text d = cc
told_by w event o (AdmitsRelay mount shown change is allowed) text d = cc
told_by w event o (AdmitsListener asked peer session is undecided lands live) text d = cc
told_by w event o (HandsData id room seat session change is sits has live) text d = cc
told_by w event o (GrantsNothing _ none idle) text d = let some : grants o.reply ≡ true = ap grants d in cc

pub told_for : (w : World) (event : Event) (text : ReplyText) → reply_to w event ≡ SaysText text → IsToldFor w event text
unfolding reply_to
told_for w event text d = told_by w event (outcome w event) (granted w event) text d
