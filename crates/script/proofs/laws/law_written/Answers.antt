use Rattle.script.proofs.Again.{written_is_read, read_is_command}
use Rattle.script.proofs.laws.law_written.Goals as goal

pub returns-clause-again : goal.returns-clause-again
returns-clause-again c = written_is_read

pub returns-clause-ranges : goal.returns-clause-ranges
returns-clause-ranges c = read_is_command
