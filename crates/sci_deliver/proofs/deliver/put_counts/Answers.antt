use Rattle.sci_answers.specs.Report.{counts_line}
use Rattle.sci_deliver.proofs.deliver.put_counts.Goals as goal

pub returns : goal.returns
unfolding counts_line
returns g c = simp (c.len.ensures, c.source_count.ensures) at c.put_line.ensures
