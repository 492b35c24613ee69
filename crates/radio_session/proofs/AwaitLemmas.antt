-- What is written while a last word is awaited.
use Rattle.std.proofs.Common.{◌≡◌, ℕ, zero, suc, ◌+◌, ◌-◌, List, [], ◌∷◌, ◌++◌, length, Option, None, Some, refl, ap, sym, subst, ◌∙◌, arith}
use Rattle.std.proofs.Math.Dec.{eqb-suc-zero}
use Rattle.radio_events.specs.declared.event.Event.{Event}
use Rattle.radio_events.specs.declared.reply.Reply.{Reply}
use Rattle.radio_events.specs.declared.reply.Reply.TheVariants.{Arrived, Feeding, Seated, Drawn, Noted, Text, Deny, Finished, Stray}
use Rattle.radio_session.specs.declared.session.Says.{Says}
use Rattle.radio_session.specs.declared.session.Closing.{Closing}
use Rattle.radio_session.specs.declared.session.LastWord.{LastWord}
use Rattle.radio_session.specs.declared.session.LastWord.TheVariants.{Complete}
use Rattle.radio_events.specs.declared.state.State.{State}
use Rattle.radio_events.specs.declared.state.State.TheVariants.{Running, Shut}
use Rattle.radio_session.specs.Saying.{Said, said}
use Rattle.radio_events.specs.Servers.{Steps}
use Rattle.radio_session.specs.Exchanges.{Exchange, nothing_exchanged, prefixed, ended_with, GoesOn, Exchanges}
use Rattle.radio_session.proofs.ExchangeLemmas.{one_on, one_last}

-- n replies come before the one with which this last word is written
abbrev pub awaiting : ℕ → LastWord → Option Closing
awaiting n word = Some (record { awaits = n; word = word })

abbrev pub with_closing : Says → Option Closing → Says
with_closing says closing = record says { closing = closing }

-- no last word is awaited
abbrev pub free : Says → Says
free says = with_closing says None

pub free_says : (says : Says) → says.closing ≡ None → free says ≡ says
free_says says e = ap (with_closing says) (sym e)

-- a reply that is not the last is written as if no last word were awaited
pub record IsAwaited (now alone : Said) (n : ℕ) (word : LastWord) : Type 0 where
  pub bytes : now.bytes ≡ alone.bytes
  pub state : now.state ≡ alone.state
  pub says : alone.state ≡ Running → now.says ≡ with_closing alone.says (awaiting n word)
  pub is_free : alone.says.closing ≡ None

less_one : (n : ℕ) → suc n - 1 ≡ n
less_one n = omega arith

pub told_awaiting : (says : Says) (n : ℕ) (word : LastWord) (reply : Reply)
    → IsAwaited (said (with_closing says (awaiting (suc n) word)) reply) (said (free says) reply) n word
told_awaiting says n word (Arrived id) = record {
  bytes = refl;
  state = refl;
  says =
      λ e. ap (λ (m : ℕ). with_closing (said (free says) (Arrived id)).says (awaiting m word)) (less_one n);
  is_free = refl;
}
told_awaiting says n word Feeding = record {
  bytes = refl;
  state = refl;
  says =
      λ e. ap (λ (m : ℕ). with_closing (said (free says) Feeding).says (awaiting m word)) (less_one n);
  is_free = refl;
}
told_awaiting says n word (Seated interval shown) = record {
  bytes = refl;
  state = refl;
  says =
      λ e. ap (λ (m : ℕ). with_closing (said (free says) (Seated interval shown)).says (awaiting m word)) (less_one n);
  is_free = refl;
}
told_awaiting says n word (Drawn bytes title) = record {
  bytes = refl;
  state = refl;
  says =
      λ e. ap (λ (m : ℕ). with_closing (said (free says) (Drawn bytes title)).says (awaiting m word)) (less_one n);
  is_free = refl;
}
told_awaiting says n word Noted = record {
  bytes = rw (eqb-suc-zero n) refl;
  state = rw (eqb-suc-zero n) refl;
  says = λ e. rw (eqb-suc-zero n) (ap (λ (m : ℕ). with_closing says (awaiting m word)) (less_one n));
  is_free = refl;
}
told_awaiting says n word (Text text) = record { bytes = refl; state = refl; says = λ e. cc; is_free = refl }
told_awaiting says n word (Deny rule) = record { bytes = refl; state = refl; says = λ e. cc; is_free = refl }
told_awaiting says n word (Finished rule) = record { bytes = refl; state = refl; says = λ e. cc; is_free = refl }
told_awaiting says n word Stray = record {
  bytes = refl;
  state = refl;
  says =
      λ e. ap (λ (m : ℕ). with_closing (said (free says) Stray).says (awaiting m word)) (less_one n);
  is_free = refl;
}

module _ {S : Type 0} (steps : Steps S) (id : ℕ) where
  -- the same for events, none of which is the last
  pub record Awaited (says : Says) (events : List Event) (n : ℕ) (word : LastWord) (from : S) (now : Exchange) (to : S) : Type 0 where
    pub x : Exchange
    pub alone : Exchanges steps id (free says) events from x to
    pub bytes : now.bytes ≡ x.bytes
    pub state : now.state ≡ x.state
    pub says_on : x.state ≡ Running → now.says ≡ with_closing x.says (awaiting n word)

  pub awaited : (events : List Event) (says : Says) (m n : ℕ) (word : LastWord) (from : S) (now : Exchange) (to : S) → m ≡ length events + n
      → Exchanges steps id (with_closing says (awaiting m word)) events from now to → Awaited says events n word from now to
  awaited [] says m n word from now to size e = record {
    x = nothing_exchanged (free says);
    alone = (refl, e.1);
    bytes = ap (λ (x : Exchange). x.bytes) e.0;
    state = ap (λ (x : Exchange). x.state) e.0;
    says_on = λ runs. ap (λ (x : Exchange). x.says) e.0 ∙ ap (λ (k : ℕ). with_closing says (awaiting k word)) (omega (arith, size));
  }
  awaited (event ∷ events) says m n word from now to size all = by_state
      (λ later end. awaited events (said (free says) e.0).says (length events + n) n word e.1 later end refl) (said (free says) e.0).state refl goes where
        e : Exchanges steps id (with_closing says (awaiting (suc (length events + n)) word)) (event ∷ events) from now to
        e = subst (λ (k : ℕ). Exchanges steps id (with_closing says (awaiting k word)) (event ∷ events) from now to) (omega (arith, size)) all

        here : Said
        here = said (with_closing says (awaiting (suc (length events + n)) word)) e.0

        single : Said
        single = said (free says) e.0

        is_awaited : IsAwaited here single (length events + n) word
        is_awaited = told_awaiting says (length events + n) word e.0

        goes : GoesOn steps id single.state event here e.1 (λ others. Exchanges steps id here.says events e.1 others to) now to
        goes =
            subst (λ (state : State). GoesOn steps id state event here e.1 (λ others. Exchanges steps id here.says events e.1 others to) now to)
            is_awaited.state e.3

        by_state : ((later : Exchange) (end : S) → Exchanges steps id (with_closing single.says (awaiting (length events + n) word)) events e.1 later end
            → Awaited single.says events n word e.1 later end)
            → (state : State) → single.state ≡ state → GoesOn steps id state event here e.1
            (λ others. Exchanges steps id here.says events e.1 others to) now to → Awaited says (event ∷ events) n word from now to
        by_state further Running runs g =
            let rest = further g.0 to (subst (λ (s : Says). Exchanges steps id s events e.1 g.0 to) (is_awaited.says runs) g.1) in
            let others = subst (λ (s : Says). Exchanges steps id s events e.1 rest.x to) (free_says single.says is_awaited.is_free) rest.alone in
            record {
              x = prefixed single.bytes rest.x;
              alone = one_on steps id (free says) event events from e.1 to e.0 e.2 rest.x runs others;
              bytes = ap (λ (x : Exchange). x.bytes) g.2 ∙ ap (λ (bytes : List ℕ). bytes ++ g.0.bytes) is_awaited.bytes
                  ∙ ap (λ (bytes : List ℕ). single.bytes ++ bytes) rest.bytes;
              state = ap (λ (x : Exchange). x.state) g.2 ∙ rest.state;
              says_on = λ on. ap (λ (x : Exchange). x.says) g.2 ∙ rest.says_on on;
            }
        by_state further (Shut ending) ends g = record {
          x = ended_with single ending;
          alone = one_last steps id (free says) event events from e.1 to e.0 e.2 ending ends g.0;
          bytes = ap (λ (x : Exchange). x.bytes) g.1 ∙ is_awaited.bytes;
          state = ap (λ (x : Exchange). x.state) g.1;
          says_on = λ on. cc;
        }

  -- if no last word is awaited, none is awaited later
  pub stays_free : (events : List Event) (says : Says) (from : S) (x : Exchange) (to : S) → Exchanges steps id (free says) events from x to
      → x.says.closing ≡ None
  stays_free [] says from x to e = ap (λ (y : Exchange). y.says.closing) e.0
  stays_free (event ∷ events) says from x to e = by_state (stays_free events (said (free says) e.0).says e.1) (said (free says) e.0).state e.3 where
    single : Said
    single = said (free says) e.0

    is_free : single.says.closing ≡ None
    is_free = (told_awaiting says zero Complete e.0).is_free

    by_state : ((y : Exchange) (end : S) → Exchanges steps id (free single.says) events e.1 y end → y.says.closing ≡ None)
        → (state : State) → GoesOn steps id state event single e.1 (λ others. Exchanges steps id single.says events e.1 others to) x to → x.says.closing ≡ None
    by_state further Running g =
        let others = subst (λ (s : Says). Exchanges steps id s events e.1 g.0 to) (sym (free_says single.says is_free)) g.1 in
        ap (λ (y : Exchange). y.says.closing) g.2 ∙ further g.0 to others
    by_state further (Shut ending) g = ap (λ (y : Exchange). y.says.closing) g.1 ∙ is_free
