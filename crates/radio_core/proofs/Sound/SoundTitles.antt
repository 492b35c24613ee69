-- what holds of every state of a run holds still when a source has set a title
use Rattle.std.proofs.Common.{◌≡◌, false, ℕ, Some, List, refl, ap, sym, subst, ◌∙◌, arith}
use Rattle.radio_core.proofs.Words.{bytes_eq, by_name, Feeds, World, standing_of, changed, Session, AreApart, is_of, session_of, with_title, AreRising, WholeStream, end_of, IsSound, updated_apart, is_on_air}
use Rattle.radio_core.proofs.Words.{on_air_there, on_air_beside}
use Rattle.radio_parts_changes.specs.declared.change.Change.TheVariants.{SetTitle}
use Rattle.radio_core.proofs.Sound.Soundness.{IsLiveStill, seated_beside}

-- a session is as it was, but that it may have another title
pub record IsBut (session now : Session) : Type 0 where
  pub number : session.number ≡ now.number
  pub stream : session.stream ≡ now.stream

module _ (w : World) (s : IsSound w) (mount text : List ℕ) (him : ℕ) (feeding : standing_of w him ≡ Feeds mount) where
  abbrev after_title : World
  after_title = changed w (SetTitle mount text)

  -- what is live now is the session of the source with this title, or was live as it is
  pub titled_cases : {A : Type 0} (other : List ℕ) (now : Session) → session_of after_title.station.live other ≡ Some now
      → ((session : Session) → mount ≡ other → session_of w.station.live other ≡ Some session → session.number ≡ him → with_title (Some text) session ≡ now → A)
      → (bytes_eq mount other ≡ false → session_of w.station.live other ≡ Some now → A) → A
  titled_cases {A} other now e new old =
      by_name mount other here (λ apart. old apart (sym (on_air_beside w mount text other apart) ∙ e)) where
        here : mount ≡ other → A
        here same =
            let ours = s.feeds him mount feeding in
            let titled_here : session_of after_title.station.live mount ≡ Some (with_title (Some text) ours.0) =
            on_air_there w mount text ours.0 ours.1 in
            let both : Some (with_title (Some text) ours.0) ≡ Some now = sym titled_here ∙ ap (session_of after_title.station.live) same ∙ e in
            let one : with_title (Some text) ours.0 ≡ now = cc in
            new ours.0 same (ap (session_of w.station.live) (sym same) ∙ ours.1) ours.2 one

  -- what was live is live still
  live_still : (other : List ℕ) (session : Session) → session_of w.station.live other ≡ Some session
      → IsLiveStill after_title.station other session
  live_still other session e =
      by_name mount other
      (λ same.
      let here : session_of w.station.live mount ≡ Some session = ap (session_of w.station.live) same ∙ e in (
        with_title (Some text) session,
        ap (session_of after_title.station.live) (sym same) ∙ on_air_there w mount text session here,
        refl,
        omega arith,
      ))
      (λ apart. (session, on_air_beside w mount text other apart ∙ e, refl, omega arith))

  -- and what is live now was
  was_live : (other : List ℕ) (now : Session) → session_of after_title.station.live other ≡ Some now
      → (session : Session) × (session_of w.station.live other ≡ Some session) × IsBut session now
  was_live other now e =
      titled_cases other now e
      (λ session same found number one. (session, found, record { number = ap (λ (x : Session). x.number) one; stream = ap (λ (x : Session). x.stream) one }))
      (λ apart found. (now, found, record { number = refl; stream = refl }))

  pub sound_titled : IsSound after_title
  sound_titled = record {
    numbered = λ id h. s.numbered id h;
    from_one = s.from_one;
    feeds = λ id other e.
        let old = s.feeds id other e in
        let now = live_still other old.0 old.1 in
        (now.0, now.1, now.2 ∙ old.2);
    fed = λ other now e.
        let old = was_live other now e in
        ap (standing_of w) (sym old.2.number) ∙ s.fed other old.0 old.1;
    apart = subst (λ (later : World). AreApart later.station.live) (sym (is_on_air w mount text))
        (updated_apart (is_of mount) (with_title (Some text)) (λ x. refl) w.station.live s.apart);
    starts = λ other now e.
        let old = was_live other now e in
        subst (λ (x : WholeStream). AreRising x.starts (end_of x)) old.2.stream (s.starts other old.0 old.1);
    by_number = s.by_number;
    sitting = λ id seat e. s.sitting id seat e;
    seated =
        seated_beside w s after_title.station mount him feeding refl (λ other apart. on_air_beside w mount text other apart) live_still;
  }
