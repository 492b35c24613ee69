-- What a source reads of its request.
use Rattle.std.proofs.Common.{◌≡◌, ℕ, List, [], ◌∷◌, ◌++◌, Option, refl, sym, ap, ◌∙◌, append_assoc}
use Rattle.radio_headline.proofs.Words.{append-nil, Entry, Event, Reply, Arrived, reply_to, world_after, World, RequestParts, Closing, Says, State, Running, Shut, asking, WorldExchange, exchanged, then_exchanged}
use Rattle.radio_headline.proofs.Words.{greeting_of, said, told, WebAnswers}
use Rattle.radio_headline.proofs.Logs.{replies}
use Rattle.radio_headline.proofs.AppliedLemmas.{IsLast, IsOpen, last_shuts, said_all}

-- how the reply to its request is written
abbrev pub greeted_says : (web : WebAnswers) → ℕ → List Entry → RequestParts → Option Closing → Says
greeted_says web id idle request closing =
    record (said_all (asking web) (Arrived id ∷ replies idle)) { greeting = greeting_of request; closing = closing }

-- The text of the reply to its request was written, after the text before it, and nothing after a last word.
pub record Greeted (web : WebAnswers) (id : ℕ) (idle : List Entry) (request : RequestParts) (reply : Reply) (given : List ℕ) : Type 0 where
  pub goes : IsOpen (asking web) (Arrived id ∷ replies idle)
  pub closing : Option Closing
  pub rest : List ℕ
  pub is_told : given ≡ told (asking web) (Arrived id ∷ replies idle) ++ ((said (greeted_says web id idle request closing) reply).bytes ++ rest)
  pub ends : IsLast reply → rest ≡ []

-- more may be written if that was no last word
pub greeted_on : (web : WebAnswers) (id : ℕ) (idle : List Entry) (request : RequestParts) (reply : Reply) (given more : List ℕ) → Greeted web id idle request reply given
    → (IsLast reply → ⊥) → Greeted web id idle request reply (given ++ more)
greeted_on web id idle request reply given more g goes_on =
    let before = told (asking web) (Arrived id ∷ replies idle) in
    let here = (said (greeted_says web id idle request g.closing) reply).bytes in
    record {
      goes = g.goes;
      closing = g.closing;
      rest = g.rest ++ more;
      is_told = ap (λ (xs : List ℕ). xs ++ more) g.is_told ∙ append_assoc before (here ++ g.rest) more
          ∙ ap (λ (xs : List ℕ). before ++ xs) (append_assoc here g.rest more);
      ends = λ last. absurd (goes_on last);
    }

-- of exchanged events the first is written first, and a last reply is written alone
pub record ToldFirst (w : World) (id : ℕ) (says : Says) (event : Event) (asked : List Event) : Type 0 where
  pub rest : List ℕ
  pub is_told : (exchanged w id says (event ∷ asked)).exchange.bytes ≡ (said says (reply_to w event)).bytes ++ rest
  pub ends : IsLast (reply_to w event) → rest ≡ []

module _ (w : World) (id : ℕ) (says : Says) (event : Event) (asked : List Event) where
  abbrev others : WorldExchange
  others = exchanged (world_after w event) id (said says (reply_to w event)).says asked

  first_by : (state : State) → (said says (reply_to w event)).state ≡ state → ToldFirst w id says event asked
  first_by Running e = record {
    rest = others.exchange.bytes;
    is_told = ap (λ (s : State). (then_exchanged (world_after w event) id event (said says (reply_to w event)) s others).exchange.bytes) e;
    ends = λ last. absurd (last_shuts says (reply_to w event) e last);
  }
  first_by (Shut ending) e = record {
    rest = [];
    is_told = ap (λ (s : State). (then_exchanged (world_after w event) id event (said says (reply_to w event)) s others).exchange.bytes) e
        ∙ sym (append-nil (said says (reply_to w event)).bytes);
    ends = λ last. refl;
  }

  pub told_first : ToldFirst w id says event asked
  told_first = first_by (said says (reply_to w event)).state refl
