-- What is written on a listener's connection.
use Rattle.std.proofs.Common.{◌≡◌, ℕ, zero, suc, ◌<◌, true, List, [], ◌∷◌, ◌++◌, Option, None, Some, refl, ap, sym, subst, ◌∙◌, arith, map}
use Rattle.std.specs.Option.{option_map}
use Rattle.radio_icy.specs.Weaving.{Call, Weaving, new_weaving, woven_by_calls}
use Rattle.radio_icy.specs.Stream.{IsWoven, sound_of_calls, titles_sent, interval_count}
use Rattle.radio_icy.specs.Block.{title_text}
use Rattle.radio_icy.specs.Unweaving.{new_unweaving, atoms_of_piece}
use Rattle.radio_icy.specs.Bare.{bare, block_texts, sound_in, texts_in}
use Rattle.radio_events.specs.declared.reply.Reply.{Reply}
use Rattle.radio_events.specs.declared.reply.Reply.TheVariants.{Arrived, Feeding, Seated, Drawn, Noted, Text, Deny, Finished, Stray}
use Rattle.radio_events.specs.declared.text.ReplyText.{ReplyText as CommandText}
use Rattle.radio_policy.specs.declared.rule.Rule.{Rule}
use Rattle.radio_session.specs.declared.session.Says.{Says}
use Rattle.radio_session.specs.declared.session.Closing.{Closing}
use Rattle.radio_answers.specs.Answers.{sent_interval}
use Rattle.radio_session.specs.Draws.{draw, drawn, after_draw, drawn_by, joined_draws}
use Rattle.radio_answers.specs.Answers.{head_text}
use Rattle.radio_session.specs.Saying.{Said, said, denied, noted, one_less, listener_admitted, texted}
use Rattle.radio_session.specs.Told.{told, while_open, draws_of, AdmitNobody, DrawsFollowTheHead, PlainDrawsAreTheirData, JoinedDrawsAreWoven}
use Rattle.radio_session.specs.Told.{DrawsAreTakenOutAgain}

no_draws : (w : Option Weaving) → drawn_by w [] ≡ []
no_draws None = refl
no_draws (Some w) = refl

one_draw_on : (w : Option Weaving) (c : Call) (draws : List Call) → drawn w c ++ drawn_by (after_draw w c) draws ≡ drawn_by w (c ∷ draws)
one_draw_on None c draws = refl
one_draw_on (Some w) c draws = refl

none_less : (closing : Option Closing) → closing ≡ None → option_map one_less closing ≡ None
none_less closing e = ap (option_map one_less) e

-- a denial after an admission writes nothing
silent : (says : Says) (rule : Rule) → says.is_admitted ≡ true → (denied says rule).bytes ≡ []
silent says rule e = rw e refl

-- nor does the text of a command
unsaid : (says : Says) (text : CommandText) → says.is_admitted ≡ true → (texted says text).bytes ≡ []
unsaid says text e = rw e refl

-- what is written on a listener's connection are its draws
pub draws_follow : (says : Says) (replies : List Reply) → says.is_admitted ≡ true → says.closing ≡ None → AdmitNobody replies
    → told says replies ≡ drawn_by says.weaver (draws_of replies)
draws_follow says [] a c n = sym (no_draws says.weaver)
draws_follow says (Arrived id ∷ replies) a c n = draws_follow (said says (Arrived id)).says replies a (none_less says.closing c) n
draws_follow says (Feeding ∷ replies) a c n = absurd n
draws_follow says (Seated interval shown ∷ replies) a c n = absurd n
draws_follow says (Drawn bytes title ∷ replies) a c n =
    ap (λ (later : List ℕ). drawn says.weaver (draw bytes title) ++ later)
    (draws_follow (said says (Drawn bytes title)).says replies a (none_less says.closing c) n)
    ∙ one_draw_on says.weaver (draw bytes title) (draws_of replies)
draws_follow says (Noted ∷ replies) a c n =
    ap (λ (here : Said). here.bytes ++ while_open here.state (told here.says replies)) (ap (noted says) c) ∙ draws_follow says replies a c n
draws_follow says (Text text ∷ replies) a c n = rw (unsaid says text a) (sym (no_draws says.weaver))
draws_follow says (Deny rule ∷ replies) a c n = rw (silent says rule a) (sym (no_draws says.weaver))
draws_follow says (Finished rule ∷ replies) a c n = sym (no_draws says.weaver)
draws_follow says (Stray ∷ replies) a c n = draws_follow (said says Stray).says replies a (none_less says.closing c) n

pub draws_follow_the_head : DrawsFollowTheHead
draws_follow_the_head says interval head replies c n =
    ap (λ (later : List ℕ). head_text says.web interval head ++ later)
    (draws_follow (listener_admitted says interval) replies refl (none_less says.closing c) n)

pub plain_draws : PlainDrawsAreTheirData
plain_draws interval draws e = ap (λ (chosen : Option ℕ). drawn_by (option_map new_weaving chosen) draws) e

-- an interval that a head names is at least one
some_told : (interval : Option ℕ) (n : ℕ) → sent_interval interval ≡ Some n → 0 < n
some_told None n e = cc
some_told (Some zero) n e = cc
some_told (Some (suc m)) zero e = cc
some_told (Some (suc m)) (suc n) e = omega arith

at_interval : (interval : Option ℕ) (n : ℕ) (draws : List Call) → sent_interval interval ≡ Some n
    → joined_draws interval draws ≡ woven_by_calls (new_weaving n) draws
at_interval interval n draws e = ap (λ (chosen : Option ℕ). drawn_by (option_map new_weaving chosen) draws) e

module _ (streams : (n : ℕ) (calls : List Call) → 0 < n → IsWoven n calls (woven_by_calls (new_weaving n) calls)) where
  pub draws_are_woven : JoinedDrawsAreWoven
  draws_are_woven interval n draws e =
      subst (λ (bytes : List ℕ). IsWoven n draws bytes) (sym (at_interval interval n draws e)) (streams n draws (some_told interval n e))

  module _
      (sounds : (n : ℕ) (calls : List Call) (out : List ℕ) → 0 < n → IsWoven n calls out → bare n out ≡ sound_of_calls calls)
      (texts : (n : ℕ) (calls : List Call) (out : List ℕ) → 0 < n → IsWoven n calls out
      → block_texts n out ≡ map title_text (titles_sent n calls (interval_count n calls)))
      (sounds_heard : (n : ℕ) (out : List ℕ) → sound_in (atoms_of_piece (new_unweaving n) out) ≡ bare n out)
      (texts_heard : (n : ℕ) (out : List ℕ) → texts_in (atoms_of_piece (new_unweaving n) out) ≡ block_texts n out) where
    pub draws_are_taken_out : DrawsAreTakenOutAgain
    draws_are_taken_out interval n draws e =
        let out = joined_draws interval draws in
        let woven = draws_are_woven interval n draws e in
        let some = some_told interval n e in (
          sounds_heard n out ∙ sounds n draws out some woven,
          texts_heard n out ∙ texts n draws out some woven,
        )
