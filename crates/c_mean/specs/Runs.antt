-- How runs go: on, to their end, and turn by turn.
use Rattle.std.specs.Prelude.{◌≡◌, ℕ, zero, suc, pos, List, [], ◌∷◌, ◌++◌, Some, true, false}
use Rattle.sci_base.specs.declared.observation.Obs.{Obs}
use Rattle.sci_base.specs.declared.observation.Obs.TheVariants.{End, Stop}
use Rattle.sci_base.specs.declared.observation.EndWord.{EndWord}
use Rattle.sci_base.specs.declared.observation.StopWord.{StopWord}
use Rattle.c_ast.specs.declared.Name.{Name}
use Rattle.c_mean.specs.Meaning.{World, How, going, undefined, over, halted, Ran, quietly, Around}
use Rattle.c_mean.specs.Places.{get, Has}
use Rattle.c_mean.specs.Texts.{May}

-- It goes on without an observation, to a world of which P holds.
pub record Leads (r : Ran) (P : World → Type 0) : Type 0 where
  pub to : World
  pub is : r ≡ quietly (going to)
  pub holds : P to

-- It ends by this stop of this block, and nothing else is observed.
abbrev pub Stops : Ran → StopWord → ℕ → Type 0
Stops r word block = r ≡ record { seen = Stop word (pos block) (pos 0) ∷ []; how = halted }

-- It ends with this word, and nothing else is observed.
abbrev pub Ends : Ran → EndWord → Type 0
Ends r word = r ≡ record { seen = End word ∷ []; how = over }

-- ---- what a text leaves as it was

-- A name that may not be assigned has the values that it had, what was there is there, and where nothing may be taken, all input is left.
pub record LeftAlone (may : May) (w w' : World) : Type 0 where
  pub same : (y : Name) (j : ℕ) → may.assign y ≡ false → get w' y j ≡ get w y j
  pub there : (y : Name) (j : ℕ) → Has w y j → Has w' y j
  pub left : may.take ≡ false → w'.left ≡ w.left

abbrev pub LeftBy : May → World → List Obs → How → Type 0
LeftBy may w seen (going w') = LeftAlone may w w' × (may.show ≡ false → seen ≡ [])
LeftBy may w seen (undefined n) = Unit {0}
LeftBy may w seen over = Unit {0}
LeftBy may w seen halted = Unit {0}

-- Where it goes on, it does no more than it may.
abbrev pub Leaves : May → World → Ran → Type 0
Leaves may w r = LeftBy may w r.seen r.how

-- So do the functions that may be called.
abbrev pub LeaveCalls : May → Around → Type 0
LeaveCalls may env = (f : Name) (run : World → Ran) → may.call f ≡ true → env.calls f ≡ Some run → (w : World) → Leaves may w (run w)

-- ---- turn by turn, where a moment is what stands between two turns

-- what a turn comes to: the run ends, or goes on at another moment
pub data Next (M : Type 0) : Type 0 where
  ends : List Obs → How → Next M
  leads : List Obs → M → Next M

abbrev pub next_run : {M : Type 0} → Next M → (M → Ran) → Ran
next_run (ends seen h) rest = record { seen = seen; how = h }
next_run (leads seen m) rest = record { seen = seen ++ (rest m).seen; how = (rest m).how }

-- A run of k turns at most: `step` is a turn, `close` is what comes behind the last.
abbrev pub run_on : {M : Type 0} → (M → Next M) → (M → Ran) → ℕ → M → Ran
run_on step close zero m = close m
run_on step close (suc k) m = next_run (step m) (run_on step close k)

abbrev pub IsOver : How → Type 0
IsOver over = Unit {0}
IsOver halted = Unit {0}
IsOver (going w) = ⊥
IsOver (undefined n) = ⊥

-- A run does this turn; where it goes on, the world that it leads to shows the moment.
abbrev pub Does : {M : Type 0} → (M → World → Type 0) → Next M → Ran → Type 0
Does shows (ends seen h) r = (r ≡ record { seen = seen; how = h }) × IsOver h
Does shows (leads seen m) r = (w : World) × ((r ≡ record { seen = seen; how = going w }) × shows m w)
