-- What is written on a listener's connection: its head, and then the data of its draws, with metadata between them if it asked
-- for that.
use Rattle.std.specs.Prelude.{◌≡◌, ℕ, List, [], ◌∷◌, ◌++◌, map, Option, None, Some}
use Rattle.radio_icy.specs.Block.{title_text}
use Rattle.radio_icy.specs.Weaving.{Call}
use Rattle.radio_icy.specs.Stream.{IsWoven, sound_of_calls, titles_sent, interval_count}
use Rattle.radio_icy.specs.Unweaving.{StreamItem, new_unweaving, atoms_of_piece}
use Rattle.radio_icy.specs.Bare.{sound_in, texts_in}
use Rattle.radio_events.specs.declared.reply.StreamHead.{StreamHead}
use Rattle.radio_events.specs.declared.reply.Reply.{Reply}
use Rattle.radio_events.specs.declared.reply.Reply.TheVariants.{Feeding, Seated, Drawn, Text, Deny, Finished}
use Rattle.radio_session.specs.declared.session.Says.{Says}
use Rattle.radio_events.specs.declared.state.State.{State}
use Rattle.radio_events.specs.declared.state.State.TheVariants.{Running, Shut}
use Rattle.radio_answers.specs.Answers.{sent_interval}
use Rattle.radio_session.specs.Draws.{draw, joined_draws}
use Rattle.radio_answers.specs.Answers.{head_text}
use Rattle.radio_session.specs.Saying.{said}

-- what is written later, while the connection goes on
abbrev pub while_open : State → List ℕ → List ℕ
while_open Running later = later
while_open (Shut ending) later = []

-- all that is written for replies, one after another, up to the end of the connection
abbrev pub told : Says → List Reply → List ℕ
told says [] = []
told says (reply ∷ replies) = (said says reply).bytes ++ while_open (said says reply).state (told (said says reply).says replies)

-- the draws among replies, up to the end of the connection
abbrev pub draws_of : List Reply → List Call
draws_of [] = []
draws_of (Drawn bytes title ∷ replies) = draw bytes title ∷ draws_of replies
draws_of (Text text ∷ replies) = []
draws_of (Deny rule ∷ replies) = []
draws_of (Finished rule ∷ replies) = []
draws_of (reply ∷ replies) = draws_of replies

-- none of the replies admits a client: an admitted client is not admitted again
abbrev pub AdmitNobody : List Reply → Type 0
AdmitNobody [] = Unit {0}
AdmitNobody (Feeding ∷ replies) = ⊥
AdmitNobody (Seated interval head ∷ replies) = ⊥
AdmitNobody (reply ∷ replies) = AdmitNobody replies

-- A listener's head is followed by the joined data of its draws, woven at the interval that the head names.
abbrev pub DrawsFollowTheHead : Type 0
DrawsFollowTheHead = (says : Says) (interval : Option ℕ) (head : StreamHead) (replies : List Reply) →
    says.closing ≡ None → AdmitNobody replies →
    told says (Seated interval head ∷ replies)
    ≡ head_text says.web interval head ++ joined_draws interval (draws_of replies)

-- if the head names no interval, they are the data alone
abbrev pub PlainDrawsAreTheirData : Type 0
PlainDrawsAreTheirData = (interval : Option ℕ) (draws : List Call) →
    sent_interval interval ≡ None → joined_draws interval draws ≡ sound_of_calls draws

-- If it names one, a block follows each interval of the data. The block has the title of the draw that brought the interval's
-- last byte, if it has one other than the title sent last. Else the block is a zero byte.
abbrev pub JoinedDrawsAreWoven : Type 0
JoinedDrawsAreWoven = (interval : Option ℕ) (n : ℕ) (draws : List Call) →
    sent_interval interval ≡ Some n → IsWoven n draws (joined_draws interval draws)

-- what a player takes out of these bytes: data, and texts of titles
abbrev pub taken_out : ℕ → List ℕ → List StreamItem
taken_out n bytes = atoms_of_piece (new_unweaving n) bytes

-- Taken out of the stream, the data are those of the draws, and the texts are those of the titles that were sent.
abbrev pub DrawsAreTakenOutAgain : Type 0
DrawsAreTakenOutAgain = (interval : Option ℕ) (n : ℕ) (draws : List Call) → sent_interval interval ≡ Some n →
    (sound_in (taken_out n (joined_draws interval draws)) ≡ sound_of_calls draws)
    × (texts_in (taken_out n (joined_draws interval draws)) ≡ map title_text (titles_sent n draws (interval_count n draws)))
