use Rattle.store_layout.specs.OneReading.{same_records, spells_one}
use Rattle.store_layout.proofs.laws.one_spelling.Goals as goal

pub returns-clause-records : goal.returns-clause-records
returns-clause-records c = λ session bodies a b. same_records c.one_batch.ensures session bodies a b

pub returns-clause-logs : goal.returns-clause-logs
returns-clause-logs c = λ logs a b. spells_one c.one_batch.ensures logs a b
