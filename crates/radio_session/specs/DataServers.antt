-- Servers whose replies depend on a source's data, not on how the data were cut into blocks.
use Rattle.std.specs.Prelude.{◌≡◌, ℕ, List, [], ◌++◌, ◌⊎◌}
use Rattle.radio_blocks.specs.Block.{IsBlock}
use Rattle.radio_events.specs.declared.event.Event.{Event}
use Rattle.radio_events.specs.declared.event.Event.TheVariants.{Push, SourceEnd}
use Rattle.radio_events.specs.declared.reply.Reply.{Reply}
use Rattle.radio_events.specs.Replies.{IsQuiet, EndsByRule}
use Rattle.radio_events.specs.Servers.{Steps}

-- in each state an event has one reply, and leads to one state
abbrev pub HasOneReply : {S : Type 0} → Steps S → Type 0
HasOneReply {S} steps = (from to other : S) (event : Event) (reply again : Reply) →
    steps from event reply to → steps from event again other → (reply ≡ again) × (to ≡ other)

module _ {S : Type 0} (steps : Steps S) (id : ℕ) where
  -- The replies to the source of this number depend on its data alone.
  -- rule: Cuts do not matter
  pub record GoesByData : Type 0 where
    -- the reply to some data in a state, and to the end of the body after these data
    pub to_data : S → List ℕ → Reply
    pub to_end : S → List ℕ → Reply
    pub is_one : HasOneReply steps
    -- a block gets the reply to its data: a quiet one, or a rule that ends the connection
    pub at_block : (from to : S) (block : List ℕ) (reply : Reply) → IsBlock block → steps from (Push id block) reply to
        → (reply ≡ to_data from block) × (IsQuiet reply ⊎ EndsByRule reply)
    -- after a quiet reply, more data get the reply that they would get if all had arrived at once
    pub after_block : (from to : S) (block rest : List ℕ) (reply : Reply) → IsBlock block → steps from (Push id block) reply to → IsQuiet reply
        → (to_data from (block ++ rest) ≡ to_data to rest) × (to_end from (block ++ rest) ≡ to_end to rest)
    -- a rule that ends the connection also ends it if more data follow
    pub at_rule : (from to : S) (block rest : List ℕ) (reply : Reply) → IsBlock block → steps from (Push id block) reply to → EndsByRule reply
        → to_data from (block ++ rest) ≡ reply
    pub at_end : (from to : S) (reply : Reply) → steps from (SourceEnd id) reply to → reply ≡ to_end from []
