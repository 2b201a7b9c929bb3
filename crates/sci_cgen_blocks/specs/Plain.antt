-- The plain values that recipes and layouts in memory stand for.
use Rattle.std.specs.Prelude.{ℕ, ◌+◌, ◌<◌, ◌≤◌, ◌^◌, List, [], ◌∷◌, length}
use Rattle.sci_forms.specs.declared.spec.Spec.{Spec}
use Rattle.sci_forms.specs.Ports.{port_at, elements, total}
use Rattle.sci_forms.specs.Words.{state_len_of}
use Rattle.sci_cgen_blocks.specs.declared.recipe_parts.Term.{Term as Kept}
use Rattle.sci_cgen_blocks.specs.declared.recipe_parts.Term.TheVariants as terms
use Rattle.sci_cgen_blocks.specs.declared.recipe_parts.Work.{Work as KeptWork}
use Rattle.sci_cgen_blocks.specs.declared.recipe_parts.Work.TheVariants as works
use Rattle.sci_cgen_blocks.specs.declared.recipe_parts.Cause.{Cause}
use Rattle.sci_cgen_blocks.specs.declared.recipe_parts.Cause.TheVariants.{Overflow, Zero}
use Rattle.sci_cgen_blocks.specs.declared.recipe_parts.Step.{Step as KeptStep}
use Rattle.sci_cgen_blocks.specs.declared.recipe_parts.Step.TheVariants as kept_steps
use Rattle.sci_cgen_blocks.specs.declared.recipe_parts.Recipe.{Recipe as KeptRecipe}
use Rattle.sci_cgen_blocks.specs.declared.recipe_parts.Which.{Which as KeptWhich}
use Rattle.sci_cgen_blocks.specs.declared.recipe_parts.Which.TheVariants as kept_which
use Rattle.sci_cgen_blocks.specs.declared.block_layout.BlockLayout.{BlockLayout}
use Rattle.sci_cgen_blocks.specs.Terms.{Term, constant, input, along, state, state_along, state_behind, mask, scratch, both, Work, assign, assign_if, Step, change, stop_if, repeat, Recipe, IsSpelled}
use Rattle.sci_cgen_blocks.specs.Texts.{Which, fixed, counted_by, Places, input_place}

abbrev pub term_of : Kept → Term
term_of (terms.Constant z) = constant z
term_of (terms.Input k e) = input k e
term_of (terms.Along k) = along k
term_of (terms.State i) = state i
term_of terms.StateAlong = state_along
term_of terms.StateBehind = state_behind
term_of terms.Mask = mask
term_of (terms.Scratch n) = scratch n
term_of (terms.Both' op p a q b) = both op (term_of a) (term_of b)

abbrev pub work_of : KeptWork → Work
work_of (works.Assign n t) = assign n (term_of t)
work_of (works.AssignIf c n t) = assign_if (term_of c) n (term_of t)

abbrev pub works_of : List KeptWork → List Work
works_of [] = []
works_of (w ∷ ws) = work_of w ∷ works_of ws

-- the number of the word by which the run stops
abbrev pub word_of : Cause → ℕ
word_of Overflow = 0
word_of Zero = 1

abbrev pub step_of : KeptStep → Step
step_of (kept_steps.Change w) = change (work_of w)
step_of (kept_steps.StopIf c cause) = stop_if (term_of c) (word_of cause)
step_of (kept_steps.Repeat n k ws) = repeat n k (works_of ws.items)

abbrev pub steps_of : List KeptStep → List Step
steps_of [] = []
steps_of (x ∷ xs) = step_of x ∷ steps_of xs

abbrev pub plain_recipe : KeptRecipe → Recipe
plain_recipe r = record { steps = steps_of r.steps.items; value = term_of r.value }

abbrev pub which_of : KeptWhich → Which
which_of (kept_which.Fixed e) = fixed e
which_of (kept_which.CountedBy n) = counted_by n

abbrev pub plain_places : BlockLayout → Places
plain_places at = record { number = at.number; ins = at.ins.items; outs = at.outs; state = at.state; mask = at.mask; which = fixed 0 }

-- ---- what C spells

-- all numbers of a term
abbrev pub AreSpelled : Term → Type 0
AreSpelled (constant z) = IsSpelled z
AreSpelled (input k e) = Unit {0}
AreSpelled (along k) = Unit {0}
AreSpelled (state i) = Unit {0}
AreSpelled state_along = Unit {0}
AreSpelled state_behind = Unit {0}
AreSpelled mask = Unit {0}
AreSpelled (scratch n) = Unit {0}
AreSpelled (both op a b) = AreSpelled a × AreSpelled b

abbrev pub IsWorkSpelled : Work → Type 0
IsWorkSpelled (assign n t) = AreSpelled t
IsWorkSpelled (assign_if c n t) = AreSpelled c × AreSpelled t

abbrev pub AreWorksSpelled : List Work → Type 0
AreWorksSpelled [] = Unit {0}
AreWorksSpelled (w ∷ ws) = IsWorkSpelled w × AreWorksSpelled ws

abbrev pub IsStepSpelled : Step → Type 0
IsStepSpelled (change w) = IsWorkSpelled w
IsStepSpelled (stop_if c word) = AreSpelled c
IsStepSpelled (repeat n k ws) = AreWorksSpelled ws

abbrev pub AreStepsSpelled : List Step → Type 0
AreStepsSpelled [] = Unit {0}
AreStepsSpelled (x ∷ xs) = IsStepSpelled x × AreStepsSpelled xs

abbrev pub IsRecipeSpelled : Recipe → Type 0
IsRecipeSpelled r = AreStepsSpelled r.steps × AreSpelled r.value

-- ---- where a block's values lie

-- the elements of a block have places below 2^20
pub record AreFew (s : Spec) (p : Places) : Type 0 where
  pub ins : (k e : ℕ) → k < length s.ins → e < elements (port_at s.ins k) → input_place p k e < 2 ^ 20
  pub outs : p.outs + total s.outs ≤ 2 ^ 20
  pub state : p.state + state_len_of s.kind s ≤ 2 ^ 20
