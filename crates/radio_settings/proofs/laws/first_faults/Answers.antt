use Rattle.radio_settings.proofs.LawLemmas.{fault_of_reading, reading_of_fault, settings_of_reading, reading_of_settings}
use Rattle.radio_settings.proofs.laws.first_faults.Goals as goal

pub returns-clause-fault : goal.returns-clause-fault
returns-clause-fault c text fault = (fault_of_reading text fault, reading_of_fault text fault)

pub returns-clause-settings : goal.returns-clause-settings
returns-clause-settings c text settings = (settings_of_reading text settings, reading_of_settings text settings)
