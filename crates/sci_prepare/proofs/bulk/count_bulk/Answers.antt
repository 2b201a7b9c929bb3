use Rattle.std.proofs.Common.{rules}
use Rattle.sci_prepare.proofs.Bulked.{stopped_judging, was_accepted, few_entries, few_guards, all_counted, bulk_counts}
use Rattle.sci_prepare.proofs.bulk.count_bulk.Goals as goal

pub returns-in_err-checked-clause-counted : goal.returns-in_err-checked-clause-counted
returns-in_err-checked-clause-counted g c = stopped_judging c.args.seed c.args.size c.requires.least c.requires.most _ c.judged.result c.from_residual.result c.in_err-checked.was (search rules) c.judged.ensures

pub entry_count-entries-requires : goal.entry_count-entries-requires
entry_count-entries-requires g c = few_entries _ _ (was_accepted c.args.seed c.args.size c.in_ok-checked.checked c.judged.result c.in_ok-checked.was c.judged.ensures).planned

pub guard_count-guards-requires : goal.guard_count-guards-requires
guard_count-guards-requires g c = few_guards _ _ (was_accepted c.args.seed c.args.size c.in_ok-checked.checked c.judged.result c.in_ok-checked.was c.judged.ensures).planned

pub run_net-requires-clause-plan : goal.run_net-requires-clause-plan
run_net-requires-clause-plan g c = (was_accepted c.args.seed c.args.size c.in_ok-checked.checked c.judged.result c.in_ok-checked.was c.judged.ensures).planned

pub returns-clause-counted : goal.returns-clause-counted
returns-clause-counted g c =
    let accepted = was_accepted c.args.seed c.args.size c.in_ok-checked.checked c.judged.result c.in_ok-checked.was c.judged.ensures in
    all_counted c.args.seed c.args.size c.in_ok-checked.checked c.in_ok-ran.ran _ accepted c.in_ok-ran.ensures.ran
    c.len-blocks.ensures c.source_count-sources.ensures c.entry_count-entries.ensures c.guard_count-guards.ensures c.lines.ensures c.sum.ensures

pub returns-clause-counts_run : goal.returns-clause-counts_run
returns-clause-counts_run g c =
    let accepted = was_accepted c.args.seed c.args.size c.in_ok-checked.checked c.judged.result c.in_ok-checked.was c.judged.ensures in
    bulk_counts c.args.seed c.args.size c.in_ok-checked.checked _ accepted c.in_ok-ran.ensures.counts_run
