-- From replies to the bytes that are written on a connection.
use Rattle.std.specs.Prelude.{ℕ, ◌-◌, ◌==◌, true, List, [], Option, None, Some, option_map, if◌then◌else◌}
use Rattle.radio_policy.specs.declared.rule.Rule.{Rule}
use Rattle.radio_events.specs.declared.reply.Reply.{Reply}
use Rattle.radio_events.specs.declared.reply.Reply.TheVariants.{Arrived, Feeding, Seated, Drawn, Noted, Text, Deny, Finished, Stray}
use Rattle.radio_events.specs.declared.text.ReplyText.{ReplyText as CommandText}
use Rattle.radio_heads.specs.Answer.{source_text, continue_text}
use Rattle.radio_answers.specs.declared.web_answers.WebAnswers.{WebAnswers}
use Rattle.radio_answers.specs.WebAnswers.{answered_by}
use Rattle.radio_answers.specs.Answers.{denial, head_text, text_answer}
use Rattle.radio_icy.specs.Weaving.{Call}
use Rattle.radio_session.specs.Draws.{draw, weaver_at, drawn, after_draw}
use Rattle.radio_session.specs.declared.session.Says.{Says}
use Rattle.radio_session.specs.declared.session.Closing.{Closing}
use Rattle.radio_session.specs.declared.session.LastWord.{LastWord}
use Rattle.radio_session.specs.declared.session.LastWord.TheVariants.{Refusal, Complete, Faulty}
use Rattle.radio_session.specs.declared.session.Greeting.{Greeting}
use Rattle.radio_session.specs.declared.session.Greeting.TheVariants.{Welcome, Continue}
use Rattle.radio_events.specs.declared.state.State.{State}
use Rattle.radio_events.specs.declared.state.State.TheVariants.{Running, Shut}
use Rattle.radio_events.specs.declared.state.Ending.{Ending}
use Rattle.radio_events.specs.declared.state.Ending.TheVariants.{Done, By, BadBody}

-- the result of a reply: bytes to write, how replies are written from then on, and whether the connection goes on
pub record Said : Type 0 where
  pub bytes : List ℕ
  pub says : Says
  pub state : State

-- these bytes are written, and the connection goes on
abbrev pub tells : List ℕ → Says → Said
tells bytes says = record { bytes = bytes; says = says; state = Running }

-- these bytes are written, and the connection ends
abbrev pub ends : List ℕ → Says → Ending → Said
ends bytes says ending = record { bytes = bytes; says = says; state = Shut ending }

-- one reply fewer is awaited before the one with the last word
abbrev pub one_less : Closing → Closing
one_less closing = record closing { awaits = closing.awaits - 1 }

abbrev pub counted_down : Says → Says
counted_down says = record says { closing = option_map one_less says.closing }

-- a source or a listener is admitted
abbrev pub admitted : Says → Says
admitted says = counted_down (record says { is_admitted = true })

-- a listener is admitted, with metadata blocks at this interval
abbrev pub listener_admitted : Says → Option ℕ → Says
listener_admitted says interval = admitted (record says { weaver = weaver_at interval })

-- a listener has drawn
abbrev pub drew : Says → Call → Says
drew says draw = counted_down (record says { weaver = after_draw says.weaver draw })

-- what an admitted source reads first
-- rule: Greeting of a source
abbrev pub greeting_text : WebAnswers → Greeting → List ℕ
greeting_text web Welcome = answered_by web source_text
greeting_text web Continue = continue_text

-- what a source reads at the end of its body: the answer that it is admitted, if it only read `100 Continue` before
abbrev pub body_text : WebAnswers → Greeting → List ℕ
body_text web Welcome = []
body_text web Continue = answered_by web source_text

-- The policy denies. If nothing was admitted, an answer says so. Else the connection closes without one.
-- rule: Answer to a denial; Greeting of a source
abbrev pub denied : Says → Rule → Said
denied says rule = ends (if says.is_admitted then [] else denial says.web rule) says (By rule)

-- A command was done. If nothing was admitted, an answer says so. Else the connection closes without one.
abbrev pub texted : Says → CommandText → Said
texted says text = ends (if says.is_admitted then [] else text_answer says.web text) says Done

-- the bytes of the connection's own last word
-- rule: Greeting of a source
abbrev pub last_text : WebAnswers → Greeting → LastWord → List ℕ
last_text web greeting (Refusal rule) = denial web rule
last_text web greeting Complete = body_text web greeting
last_text web greeting Faulty = []

-- rule: Greeting of a source
abbrev pub last_ending : LastWord → Ending
last_ending (Refusal rule) = By rule
last_ending Complete = Done
last_ending Faulty = BadBody

-- Nothing is written, except the connection's own last word if no other reply is awaited before it.
-- rule: Bad method
abbrev pub noted : Says → Option Closing → Said
noted says None = tells [] says
noted says (Some closing) =
    if closing.awaits == 0 then ends (last_text says.web says.greeting closing.word) says (last_ending closing.word) else tells [] (counted_down says)

-- what is written for a reply
-- rule: Answer to a denial
abbrev pub said : Says → Reply → Said
said says (Arrived id) = tells [] (counted_down says)
said says Feeding = tells (greeting_text says.web says.greeting) (admitted says)
said says (Seated interval head) = tells (head_text says.web interval head) (listener_admitted says interval)
said says (Drawn bytes title) = tells (drawn says.weaver (draw bytes title)) (drew says (draw bytes title))
said says Noted = noted says says.closing
said says (Text text) = texted says text
said says (Deny rule) = denied says rule
said says (Finished rule) = ends [] says (By rule)
said says Stray = tells [] (counted_down says)
