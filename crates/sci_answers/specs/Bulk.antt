-- `bulk`: the counts of a bulk diagram and those of its run.
use Rattle.std.specs.Prelude.{ℕ, ◌≡◌, List, [], ◌∷◌, length, codes}
use Rattle.sci_base.specs.declared.limits.TheConstants.{TICKS}
use Rattle.sci_base.specs.declared.observation.Obs.{Obs}
use Rattle.sci_net.specs.Sources.{sources_of}
use Rattle.sci_sched.specs.Size.{entry_count, guard_count}
use Rattle.sci_run.specs.Run.{IsRun}
use Rattle.sci_store.specs.Written.{sum_of}
use Rattle.sci_verdict.specs.Verdict.{Plan, TreeAccepts}
use Rattle.sci_bulk.specs.Bulk.{bulk}
use Rattle.sci_answers.specs.Answer.{Answer, prints}
use Rattle.sci_print.specs.Numbers.{numbers_line}
use Rattle.sci_answers.specs.Course.{Course, makes}

-- how many blocks, sources, schedule entries, guards and observations there are, and the sum of the values observed
unfoldable pub bulk_line : (blocks sources entries guards lines sum : ℕ) → List ℕ
bulk_line blocks sources entries guards lines sum = numbers_line (codes "bulk") (blocks ∷ sources ∷ entries ∷ guards ∷ lines ∷ sum ∷ [])

-- the line of a plan and of its run; the sum is one modulo 2^32
abbrev pub run_line : Plan → List Obs → List ℕ
run_line p os =
    bulk_line (length p.net.specs) (length (sources_of p.net)) (entry_count p.rows) (guard_count p.rows) (length os) (sum_of 0 os)

-- The bulk diagram keeps all rules, and this is the line of its plan and of its run on no columns, up to date 2^62, of at most 1,000 events.
pub record IsBulkLine (seed size : ℕ) (line : List ℕ) : Type 0 where
  pub plan : Plan
  pub accepted : TreeAccepts (bulk seed size) plan
  pub observed : List Obs
  pub run : IsRun plan.net [] TICKS 1000 observed
  pub told : line ≡ run_line plan observed

-- it is told
abbrev pub IsBulkAnswer : ℕ → ℕ → Answer → Type 0
IsBulkAnswer seed size a = (line : List ℕ) × IsBulkLine seed size line × (a ≡ prints line)

-- no file is read
abbrev pub bulk_course : (seed size : ℕ) → Course
bulk_course seed size = makes (IsBulkAnswer seed size)
