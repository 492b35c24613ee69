use Rattle.std.proofs.Common.{◌≡◌, List, ℕ, None, subst}
use Rattle.radio_headline.proofs.Words.{Ok, Result, PlayFault, deliveries_from, script_lines, PlaysScript, HearsSlices}
use Rattle.radio_script.specs.Plays.{Writes}
use Rattle.radio_floor.proofs.Weakened.{known-weaker, writes-weaker}
use Rattle.radio_headline.proofs.playing.play.Goals as goal

pub returns-clause-hears : goal.returns-clause-hears
returns-clause-hears g c =
    let web = c.args.web in
    let settings = c.args.settings in
    let lists = c.args.lists in
    let result = c.play.result in
    let remaining = g.R.Read.remaining in
    let contents = g.W.Write.contents in
    let calls = g.W.Counted.calls in
    let old = c.args.writer.now in
    let new = c.play.new.writer in
    let plays = λ (script left written : List ℕ) (turns : ℕ). PlaysScript web settings lists script left result written turns in
    let hears = λ (script written : List ℕ). (done : Unit {0}) → result ≡ Ok done → HearsSlices web settings lists (deliveries_from 1 (script_lines script)) written None in
    known-weaker (remaining c.args.reader.now) (remaining c.play.new.reader)
    (λ script left. Writes (contents old) (contents new) (calls old) (calls new) (λ written turns. plays script left written turns))
    (λ script left. Writes (contents old) (contents new) (calls old) (calls new) (λ written turns. hears script written))
    (λ script left. writes-weaker (contents old) (contents new) (calls old) (calls new)
    (λ written turns. plays script left written turns) (λ written turns. hears script written)
    (λ written turns it done e. c.played_scripts_hear_slices.ensures web settings lists script left written done turns
    (subst (λ (r : Result (Unit {0}) PlayFault). PlaysScript web settings lists script left r written turns) e it)))
    c.play.ensures.plays
