-- The numbers that a relay's events have.
use Rattle.std.proofs.Common.{◌≡◌, inl, ℕ, List, [], ◌∷◌, ◌++◌, Option, None, Some, sym, ap, subst, ◌∙◌, append_assoc}
use Rattle.radio_headline.proofs.Words.{Entry, Event, Arrive, Source, Push, SourceEnd, Title, Listen, Draw, Command, Leave, RelayUp, RelayDown, Clock, Reply, Arrived, Feeding, Seated, Drawn, Text, Deny, Finished, Stray}
use Rattle.radio_headline.proofs.Words.{client_in, state_after_reply}
use Rattle.radio_events.specs.declared.reply.Reply.TheVariants.{Noted as WasNoted}
use Rattle.radio_headline.proofs.Logs.{Each}
use Rattle.radio_headline.proofs.Relays.RelayWords.{OfRelay, OwnRelay, number_stays}
use Rattle.radio_headline.proofs.RunLemmas.{HasNumber, IsOwn, number_before, number_behind}

-- a relay's events come on the connection on which it was given its number
numbers_then : (number : Option ℕ) (log : List Entry) (e : Entry) → ((id : ℕ) → number ≡ Some id → HasNumber id log) → (id : ℕ)
    → (state_after_reply number e.reply).number ≡ Some id → HasNumber id (log ++ e ∷ [])
numbers_then (Some n) log e has id h =
    let same : Some n ≡ Some id = sym (number_stays n e.reply) ∙ h in number_before id log (e ∷ []) (has id same)
numbers_then None log e has id h = number_behind id log (e ∷ []) (inl (by_reply e.reply h)) where
  by_reply : (r : Reply) → (state_after_reply None r).number ≡ Some id → r ≡ Arrived id
  by_reply (Arrived him) h = let same : him ≡ id = cc in ap (λ (n : ℕ). Arrived n) same
  by_reply Feeding h = cc
  by_reply (Seated interval head) h = cc
  by_reply (Drawn bytes title) h = cc
  by_reply WasNoted h = cc
  by_reply (Text text) h = cc
  by_reply (Deny rule) h = cc
  by_reply (Finished rule) h = cc
  by_reply Stray h = cc

pub whose : (number : Option ℕ) (event : Event) (id : ℕ) → OfRelay number event → client_in event ≡ Some id → number ≡ Some id
whose number (Arrive peer) id h e = elim h [ ]
whose number (Source asked) id h e = elim h [ ]
whose number (SourceEnd him) id h e = elim h [ ]
whose number (Listen asked) id h e = elim h [ ]
whose number (Command asked) id h e = elim h [ ]
whose number (Leave him) id h e = elim h [ ]
whose number (Clock ms) id h e = elim h [ ]
whose number (Push him block) id h e = h ∙ e
whose number (Title him text) id h e = h ∙ e
whose number (Draw him room) id h e = h ∙ e
whose number (RelayDown him) id h e = h ∙ e
whose number (RelayUp mount shown) id h e = cc

relay_owns_from : (number : Option ℕ) (before log : List Entry) → ((id : ℕ) → number ≡ Some id → HasNumber id before) → OwnRelay number log
    → Each (IsOwn (before ++ log)) log
relay_owns_from number before [] has own = tt
relay_owns_from number before (e ∷ log) has own = (
  λ id his. number_before id before (e ∷ log) (has id (whose number e.event id own.0 his)),
  subst (λ (xs : List Entry). Each (IsOwn xs) log) (append_assoc before (e ∷ []) log)
      (relay_owns_from (state_after_reply number e.reply).number (before ++ e ∷ []) log (numbers_then number before e has) own.1),
)

pub relay_owns : (log : List Entry) → OwnRelay None log → Each (IsOwn log) log
relay_owns log own = relay_owns_from None [] log (λ id h. cc) own
