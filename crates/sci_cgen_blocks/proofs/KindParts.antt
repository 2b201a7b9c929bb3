-- The recipe of a kind, by the block's kind.
use Rattle.std.proofs.Common.{◌≡◌, ◌≤◌, ◌<◌, ℕ, zero, suc, ◌+◌, ◌-◌, if◌then◌else◌, nat_lt, List, [], ◌∷◌, length, drop, ap}
use Rattle.std.proofs.lemmas.List.{drop_more}
use Rattle.sci_forms.specs.declared.ports.Port.{Port}
use Rattle.sci_forms.specs.Ports.{elements, port_at, no_port}
use Rattle.sci_cgen_blocks.specs.Terms.{Term, constant, input, along, state, state_along, state_behind, mask, scratch, both, Work, assign, assign_if, Step, change, stop_if, repeat, Recipe, Readable, TermFits, WorkFits, WorksFit, StepFits, StepsFit, RecipeFits}
use Rattle.sci_cgen_blocks.specs.Plain.{AreSpelled, IsWorkSpelled, AreWorksSpelled, IsStepSpelled, AreStepsSpelled, IsRecipeSpelled}
use Rattle.sci_cgen_blocks.specs.Recipes.{flat_from}

-- the input of number i, or those behind it
pub flat_step : (ps : List Port) (i k e : ℕ) → i < length ps
    → flat_from (drop i ps) k e ≡ (if nat_lt e (elements (port_at ps i)) then input k e else flat_from (drop (i + 1) ps) (suc k) (e - elements (port_at ps i)))
flat_step ps i k e l = ap (λ xs. flat_from xs k e) (drop_more ps i no_port l)

-- ---- what C spells

pub fits_spelled : (r : Readable) (d : ℕ) (t : Term) → TermFits r d t → AreSpelled t
fits_spelled r zero t h = elim h [ ]
fits_spelled r (suc d) (constant z) h = h
fits_spelled r (suc d) (input k e) h = tt
fits_spelled r (suc d) (along k) h = tt
fits_spelled r (suc d) (state i) h = tt
fits_spelled r (suc d) state_along h = tt
fits_spelled r (suc d) state_behind h = tt
fits_spelled r (suc d) mask h = tt
fits_spelled r (suc d) (scratch n) h = tt
fits_spelled r (suc d) (both op a b) h = (fits_spelled r d a h.0, fits_spelled r d b h.1)

work_spelled : (r : Readable) (w : Work) → WorkFits r w → IsWorkSpelled w
work_spelled r (assign n t) h = fits_spelled r 32 t h.1
work_spelled r (assign_if c n t) h = (fits_spelled r 32 c h.1, fits_spelled r 32 t h.2)

works_spelled : (r : Readable) (ws : List Work) → WorksFit r ws → AreWorksSpelled ws
works_spelled r [] h = tt
works_spelled r (w ∷ ws) h = (work_spelled r w h.0, works_spelled r ws h.1)

step_spelled : (r : Readable) (x : Step) → StepFits r x → IsStepSpelled x
step_spelled r (change w) h = work_spelled r w h
step_spelled r (stop_if c word) h = fits_spelled r 32 c h.0
step_spelled r (repeat n k ws) h = works_spelled r ws h.2

steps_spelled : (r : Readable) (xs : List Step) → StepsFit r xs → AreStepsSpelled xs
steps_spelled r [] h = tt
steps_spelled r (x ∷ xs) h = (step_spelled r x h.0, steps_spelled r xs h.1)

pub recipe_spelled : (r : Readable) (c : Recipe) → RecipeFits r c → IsRecipeSpelled c
recipe_spelled r c h = (steps_spelled r c.steps h.0, fits_spelled r 32 c.value h.1)
