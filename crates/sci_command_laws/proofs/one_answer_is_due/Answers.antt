use Rattle.sci_command_laws.proofs.OneAnswer.{one_answer, one_answer_of_bytes}
use Rattle.sci_command_laws.proofs.one_answer_is_due.Goals as goal

pub returns-clause-told : goal.returns-clause-told
returns-clause-told c = one_answer

pub returns-clause-bytes : goal.returns-clause-bytes
returns-clause-bytes c = one_answer_of_bytes
