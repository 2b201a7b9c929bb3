use Rattle.std.proofs.Common.{◌≡◌, ℕ, ◌<◌, Bool, None}
use Rattle.sci_forms.specs.Forms.{first_not}
use Rattle.sci_forms.proofs.search.first_failing.Given as goal

abbrev pub invariant-loop-k : goal.invariant-loop-k
invariant-loop-k g l = (test : ℕ → Bool) → ((k : ℕ) (r : Bool) → k < l.n → goal.F-post g l.passes k r → r ≡ test k) → first_not test l.k ≡ None
