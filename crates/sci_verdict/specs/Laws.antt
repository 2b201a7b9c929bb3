-- Of each diagram at most one verdict holds, but that any loop of the least source that has one may be told.
use Rattle.std.specs.Prelude.{◌≡◌, ◌⊎◌, take}
use Rattle.sci_base.specs.Plain.{Violation}
use Rattle.sci_base.specs.declared.refusal.Rule.TheVariants.{AlgebraicLoop}
use Rattle.sci_verdict.specs.Verdict.{Accepts, Breaks, TreeAccepts, TreeBreaks}

-- both tell a loop of one source, whose block and port are the first two details
pub record AreLoops (v w : Violation) : Type 0 where
  pub one : v.rule ≡ AlgebraicLoop
  pub other : w.rule ≡ AlgebraicLoop
  pub source : take 2 v.detail ≡ take 2 w.detail

abbrev pub AreAlike : Violation → Violation → Type 0
AreAlike v w = (v ≡ w) ⊎ AreLoops v w

-- at most one thing is accepted, what is broken is alike, and not both
pub record IsOneVerdict {B A : Type 0} (accepts : B → A → Type 0) (breaks : B → Violation → Type 0) : Type 0 where
  pub one_made : (b : B) (m n : A) → accepts b m → accepts b n → m ≡ n
  pub one_break : (b : B) (v w : Violation) → breaks b v → breaks b w → AreAlike v w
  pub not_both : (b : B) (m : A) (v : Violation) → accepts b m → breaks b v → ⊥

-- of a diagram's file
abbrev pub OneVerdict : Type 0
OneVerdict = IsOneVerdict Accepts Breaks

-- and of a diagram in memory
abbrev pub OneTreeVerdict : Type 0
OneTreeVerdict = IsOneVerdict TreeAccepts TreeBreaks
