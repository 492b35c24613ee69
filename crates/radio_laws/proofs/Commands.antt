-- What commands do, and to whom.
-- Read CommandSteps first, then CommandLaws.
pub mod CommandSteps
pub mod CommandLaws
pub mod CommandRows
pub mod CommandService
pub mod UserChanges
pub mod ObeyLemmas
pub mod KilledLemmas
