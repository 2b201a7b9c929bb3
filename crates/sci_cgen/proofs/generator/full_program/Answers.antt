use Rattle.sci_sched.specs.Plain.{rows_of}
use Rattle.sci_cgen_base.proofs.LaidLemmas.{plan_named}
use Rattle.sci_cgen.proofs.generator.full_program.Goals as goal

pub scheduled-requires : goal.scheduled-requires
scheduled-requires c = plan_named c.args.net.now (rows_of c.args.schedule.now) c.well_formed-2.ensures c.requires

pub functions-requires-clause-named : goal.functions-requires-clause-named
functions-requires-clause-named c = plan_named c.args.net.now (rows_of c.args.schedule.now) c.well_formed-2.ensures c.requires
