use Rattle.std.proofs.Common.{◌≡◌}
use Rattle.sci_forms.specs.Forms.{own_feed}
use Rattle.sci_forms.proofs.values.own_feed.Given as goal

abbrev pub invariant-loop-k : goal.invariant-loop-k
invariant-loop-k l = l.truths ≡ own_feed l.kind l.k
