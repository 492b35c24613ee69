-- What a feed answers, by what it has found.
use Rattle.std.proofs.Common.{◌≡◌, ℕ, Bool, false, not, ◌&&◌, List, refl, Option, ◌≢◌, Result, Ok, Err}
use Rattle.std.specs.Prelude.{IfErr}
use Rattle.radio_source.specs.declared.body.Blocks.{Blocks}
use Rattle.radio_source.specs.declared.fault.BodyFault.TheVariants.{OutOfMemory as NoMemory}
use Rattle.radio_source.specs.declared.fault.BodyFault.{BodyFault}
use Rattle.radio_source.specs.Place.{Place, after, data_of, has_ended, fault_at}
use Rattle.radio_blocks.specs.Cutting.{blocks_of}
use Rattle.radio_source.specs.Feeding.{Feeding, Answer, Refuses, answer_with, answer_to}

pub answer_to-found : (body : Feeding) (piece : List ℕ) (blocks : List (List ℕ)) (found : List ℕ) (ends : Bool) (place : Place) (fault : Option BodyFault)
    → body.has_failed ≡ false → place ≡ after body.place piece → found ≡ data_of body.place piece → blocks ≡ blocks_of found
    → ends ≡ (has_ended place && not body.is_end_told) → fault ≡ fault_at place → answer_to body piece ≡ answer_with blocks ends fault
unfolding answer_to
answer_to-found body piece blocks found ends place fault sound at brought cut told stands = rw (sound, stands, told, cut, brought, at) refl

pub unless_memory : (r : Result Blocks BodyFault) (a : Answer) → IfErr r (λ e. a ≡ Refuses e) → IfErr r (λ e. e ≢ NoMemory → a ≡ Refuses e)
unless_memory (Ok b) a h = tt
unless_memory (Err e) a h = λ _. h
