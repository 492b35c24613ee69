use Rattle.radio_session.proofs.ToldLemmas as lemmas
use Rattle.radio_session.proofs.SentTitleLemmas as titles
use Rattle.radio_session.proofs.laws.listeners_are_told_what_they_draw.Goals as goal

pub returns : goal.returns
returns c = record {
  joined = lemmas.draws_follow_the_head;
  plain = lemmas.plain_draws;
  woven = lemmas.draws_are_woven c.woven_streams.ensures.woven;
  in_time = titles.sent_in_time;
  not_repeated = titles.not_repeated;
  taken_out = lemmas.draws_are_taken_out c.woven_streams.ensures.woven c.bare_of_woven.ensures.sound c.bare_of_woven.ensures.texts
      c.unwoven_streams.ensures.sound c.unwoven_streams.ensures.texts;
}
