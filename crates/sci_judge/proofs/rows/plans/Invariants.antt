use Rattle.std.proofs.Common.{◌≡◌, ℕ, ◌<◌, ◌+◌, length, get_or}
use Rattle.sci_net.specs.Sources.{sources_of, source_of}
use Rattle.sci_judge.specs.declared.rows.SourcePlan.{SourcePlan}
use Rattle.sci_judge.specs.Rows.{IsPlanOf}
use Rattle.sci_judge.proofs.rows.plans.Given as goal

abbrev pub invariant-loop-source : goal.invariant-loop-source
invariant-loop-source l = record {
  end : l.source-end ≡ length (sources_of l.kept.fixed.net);
  found : l.found.count ≡ length l.kept.fixed.net.specs + 1;
  always : l.always.count ≡ length l.kept.fixed.net.specs + 1;
  long : length l.plans.items ≡ l.source;
  each : (k : ℕ) (d : SourcePlan) → k < length l.plans.items → IsPlanOf l.kept.fixed (source_of l.kept.fixed.net k) (get_or l.plans.items k d);
}
