-- How often the banks have computed outputs behind a run that is over.
use Rattle.std.specs.Prelude.{ℕ, ℤ, ◌≡◌, ◌+◌, ◌≤◌, ◌⊎◌, List, [], ◌∷◌}
use Rattle.sci_base.specs.declared.limits.TheConstants.{TICKS}
use Rattle.sci_base.specs.declared.observation.Obs.{Obs}
use Rattle.sci_base.specs.declared.observation.EndWord.{EndWord}
use Rattle.sci_base.specs.declared.observation.StopWord.{StopWord}
use Rattle.sci_forms.specs.declared.Kind.{Kind}
use Rattle.sci_net.specs.Parts.{Parts}
use Rattle.sci_net.specs.Sources.{source_of}
use Rattle.sci_needs.specs.Needs.{needs_of}
use Rattle.sci_reaction.specs.Memory.{Columns}
use Rattle.sci_reaction.specs.Result.{Stopped, IsResult}
use Rattle.sci_run.specs.Activity.{Activity}
use Rattle.sci_run.specs.Counts.{activations_of_kind}
use Rattle.sci_run.specs.Run.{State}
use Rattle.sci_run.specs.Finish.{ByEnd, Finish}
use Rattle.sci_bank.specs.Bank.{Meaning}
use Rattle.sci_bank.specs.Library.{bank_of}
use Rattle.sci_store.specs.Store.{active_of, MayActivate}
use Rattle.sci_sim.specs.Steps.{IsFiring}
use Rattle.sci_verdict.specs.Verdict.{Plan, Accepts, TreeAccepts}
use Rattle.sci_bulk.specs.Bulk.{bulk as bulk_tree}
use Rattle.sci_answers.specs.Inputs.{AcceptsColumns}
use Rattle.sci_words.specs.Words.{Request, simulate, bulk, dump, Spells}

-- The run ended behind this state: each bank has counted how many blocks of its kind were active, over all reactions.
pub record CountsEnded (n : Parts) (i : Columns) (until limit : ℕ) (banks : List Meaning) : Type 0 where
  pub last : State
  pub word : EndWord
  pub observed : List Obs
  pub over : Finish n i until limit last (ByEnd word) observed
  pub counts : (k : Kind) → (bank_of banks k).outs ≡ activations_of_kind n last k

-- The source that fired behind these observations stopped the run at a block without a value: each bank has counted its active blocks in the
-- reactions before, and of this one at most each block of its kind that the source may activate.
pub record CountsStopped (n : Parts) (i : Columns) (until limit : ℕ) (banks : List Meaning) : Type 0 where
  pub before : List Obs
  pub date : ℕ
  pub source : ℕ
  pub from : State
  pub fires : IsFiring n i until limit before date source from
  pub block : ℕ
  pub word : StopWord
  pub stops : IsResult n from.memory i (source_of n source) (Stopped block word)
  pub least : (k : Kind) → activations_of_kind n from k ≤ (bank_of banks k).outs
  pub most : (possible : Activity) → MayActivate n (source_of n source) possible → (k : Kind)
      → (bank_of banks k).outs ≤ activations_of_kind n from k + active_of n possible k

-- the banks have counted the run of a net on these columns, up to the last date, of at most so many events
abbrev pub CountsRun : Parts → Columns → (until limit : ℕ) → List Meaning → Type 0
CountsRun n i until limit banks = CountsEnded n i until limit banks ⊎ CountsStopped n i until limit banks

-- ---- the run of a command

-- of the diagram and the input file with these bytes
abbrev pub CountsSimulation : (until limit : ℕ) → (bytes : List (List ℕ)) → List Meaning → Type 0
CountsSimulation until limit (diagram ∷ inputs ∷ more) banks =
    (p : Plan) × Accepts diagram p × (columns : List (List ℤ)) × AcceptsColumns (needs_of p.net) inputs columns × CountsRun p.net columns until limit banks
CountsSimulation until limit (diagram ∷ []) banks = ⊥
CountsSimulation until limit [] banks = ⊥

-- of the bulk diagram
abbrev pub CountsBulk : (seed size : ℕ) → List Meaning → Type 0
CountsBulk seed size banks = (p : Plan) × TreeAccepts (bulk_tree seed size) p × CountsRun p.net [] TICKS 1000 banks

-- the banks have counted the run of `simulate`, of `vcd` and of `bulk`; nothing is said of other commands
abbrev pub CountsRunOf : Request → (bytes : List (List ℕ)) → List Meaning → Type 0
CountsRunOf (simulate d i until limit) bytes banks = CountsSimulation until limit bytes banks
CountsRunOf (bulk seed size) bytes banks = CountsBulk seed size banks
CountsRunOf (dump d i until limit) bytes banks = CountsSimulation until limit bytes banks
CountsRunOf _ bytes banks = Unit {0}

-- the same of the command that these words spell
abbrev pub HaveCounted : (words bytes : List (List ℕ)) → List Meaning → Type 0
HaveCounted words bytes banks = (c : Request) × Spells words c × CountsRunOf c bytes banks
