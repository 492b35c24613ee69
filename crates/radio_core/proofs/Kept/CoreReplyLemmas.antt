-- cores give the replies of the states that they represent
use Rattle.std.proofs.Common.{◌≡◌, ℕ, ◌+◌, Option, Some, None, List, length, refl, ap, sym, ◌∙◌}
use Rattle.radio_core.proofs.Words.{nat_lt, option_map, Each, found_has, Standing, Unknown, Undecided, Feeds, Sits, Answered, Finished, largest_number, kept_session, kept_of, Session, is_of, session_of, HasRisingStarts}
use Rattle.radio_core.proofs.Words.{to_data, to_data_from, to_session, to_end, unless_spent, Represents, World, standing_of, kept_found, kept_end}
use Rattle.radio_core.specs.CoreReplies.{CoresGoByTheirStates}

module _ (w : World) (rise : Each HasRisingStarts w.station.live) (bytes : List ℕ) where
  abbrev queue : ℕ
  queue = w.station.settings.limits.queue_size

  session_replies : (found : Option Session) → ((session : Session) → found ≡ Some session → HasRisingStarts session)
      → to_session (option_map (kept_session queue) found) bytes ≡ to_session found bytes
  session_replies None rises = refl
  session_replies (Some session) rises =
      ap (λ (end : ℕ). unless_spent (nat_lt largest_number (end + length bytes))) (kept_end queue session.stream (rises session refl))

  standing_replies : (standing : Standing) → to_data_from standing (kept_of w).station bytes ≡ to_data_from standing w.station bytes
  standing_replies (Feeds mount) =
      ap (λ (found : Option Session). to_session found bytes) (kept_found queue w.station.live mount)
      ∙ session_replies (session_of w.station.live mount) (λ session e. found_has (is_of mount) HasRisingStarts w.station.live session rise e)
  standing_replies Unknown = refl
  standing_replies (Undecided peer) = refl
  standing_replies Sits = refl
  standing_replies Answered = refl
  standing_replies (Finished rule) = refl

  data_replies : (id : ℕ) → to_data (kept_of w) id bytes ≡ to_data w id bytes
  unfolding to_data
  data_replies id = standing_replies (standing_of w id)

end_replies : (w : World) (id : ℕ) → to_end (kept_of w) id ≡ to_end w id
unfolding to_end
end_replies w id = refl

pub cores_by_states : CoresGoByTheirStates
unfolding Represents
cores_by_states = record {
  is_one = λ core other w one another. one.shows ∙ sym another.shows;
  to_data = λ core w id bytes stands. ap (λ (x : World). to_data x id bytes) stands.shows ∙ data_replies w stands.rise bytes id;
  to_end = λ core w id stands. ap (λ (x : World). to_end x id) stands.shows ∙ end_replies w id;
}
