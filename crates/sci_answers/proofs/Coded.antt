-- The program that is defined for a plan is due of it.
use Rattle.std.proofs.Common.{List}
use Rattle.sci_net.specs.Parts.{Parts}
use Rattle.sci_net.specs.Net.{IsNet}
use Rattle.sci_reaction.specs.Schedule.{Entry, IsSchedule}
use Rattle.sci_run.specs.Laws.{AreLoopFree}
use Rattle.sci_program.specs.Program.{program}
use Rattle.sci_program_laws.proofs.Run.{program_means_run, program_can_step}
use Rattle.sci_program_laws.proofs.Whole.{program_is_whole}
use Rattle.sci_program_laws.proofs.Blocks.{program_has_block_functions}
use Rattle.sci_cgen_laws.proofs.Kept.{program_keeps_values}
use Rattle.sci_cgen_laws.proofs.Placed.{program_has_places}
use Rattle.sci_verdict.proofs.Verdicts.{given_is_net}
use Rattle.sci_answers.specs.Code.{IsCode}
use Rattle.sci_answers.specs.Defined.{DefinedCodeIsDue}

pub program_is_code : (n : Parts) (rows : List (List Entry)) → IsNet n → AreLoopFree n → IsSchedule n rows → IsCode n rows (program n rows)
program_is_code n rows net free schedule =
    let whole = program_is_whole n rows net free schedule in
    record {
      whole = whole.0;
      rules = whole.1;
      means = λ i until limit st how os columns late most finish. program_means_run n rows i until limit st how os net free schedule columns late most finish;
      steps = program_can_step n rows net free schedule;
      functions = program_has_block_functions n rows net schedule;
      values = program_keeps_values n rows net schedule;
      places = program_has_places n rows net free schedule;
    }

pub defined_code_is_due : DefinedCodeIsDue
defined_code_is_due bytes p a accepted is = record {
  code = program p.net p.rows;
  is_code = program_is_code p.net p.rows (given_is_net bytes p.net accepted.given) accepted.planned.free accepted.planned.schedule;
  told = is;
}
