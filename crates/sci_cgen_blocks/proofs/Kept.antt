-- Recipes in memory, put together.
use Rattle.std.proofs.Common.{arith, ◌≡◌, ◌<◌, ◌-◌, ◌+◌, sym, ℕ, suc, List, [], ◌∷◌, ◌++◌, refl, ap, ◌∙◌}
use Rattle.sci_cgen_blocks.specs.declared.recipe_parts.Step.{Step as KeptStep}
use Rattle.sci_cgen_blocks.specs.declared.recipe_parts.Work.{Work as KeptWork}
use Rattle.sci_cgen_blocks.specs.Terms.{Step, Work}
use Rattle.sci_cgen_blocks.specs.Plain.{step_of, steps_of, work_of, works_of}

pub steps_behind : (xs ys : List KeptStep) → steps_of (xs ++ ys) ≡ steps_of xs ++ steps_of ys
steps_behind [] ys = refl
steps_behind (x ∷ xs) ys = ap (λ zs. step_of x ∷ zs) (steps_behind xs ys)

pub works_behind : (xs ys : List KeptWork) → works_of (xs ++ ys) ≡ works_of xs ++ works_of ys
works_behind [] ys = refl
works_behind (x ∷ xs) ys = ap (λ zs. work_of x ∷ zs) (works_behind xs ys)

-- A step was pushed, the first of those that a list by counting from k on has; n is where it ends.
pub step_done : (f : ℕ → ℕ → List Step) (k n : ℕ) (xs ys : List KeptStep) (x : KeptStep) (first : Step) (all : List Step)
    → k < n → ys ≡ xs ++ x ∷ [] → step_of x ≡ first → ((m : ℕ) → f k (suc m) ≡ first ∷ f (suc k) m)
    → steps_of xs ++ f k (n - k) ≡ all → steps_of ys ++ f (k + 1) (n - (k + 1)) ≡ all
step_done f k n xs ys x first all lt pushed is cut so_far =
    ap (λ zs. steps_of zs ++ f (k + 1) (n - (k + 1))) pushed ∙ before xs (f (k + 1) (n - (k + 1))) ∙ ap (λ w. steps_of xs ++ w ∷ f (k + 1) (n - (k + 1))) is
    ∙ ap (λ zs. steps_of xs ++ zs) (sym come) ∙ so_far
  where
    before : (xs : List KeptStep) (zs : List Step) → steps_of (xs ++ x ∷ []) ++ zs ≡ steps_of xs ++ step_of x ∷ zs
    before [] zs = refl
    before (y ∷ ys) zs = ap (λ ws. step_of y ∷ ws) (before ys zs)

    come : f k (n - k) ≡ first ∷ f (k + 1) (n - (k + 1))
    come =
        let more : n - k ≡ suc (n - (k + 1)) = omega arith in
        let next : suc k ≡ k + 1 = omega arith in
        ap (f k) more ∙ cut (n - (k + 1)) ∙ ap (λ j. first ∷ f j (n - (k + 1))) next

-- The same of a change.
pub work_done : (f : ℕ → ℕ → List Work) (k n : ℕ) (xs ys : List KeptWork) (x : KeptWork) (first : Work) (all : List Work)
    → k < n → ys ≡ xs ++ x ∷ [] → work_of x ≡ first → ((m : ℕ) → f k (suc m) ≡ first ∷ f (suc k) m)
    → works_of xs ++ f k (n - k) ≡ all → works_of ys ++ f (k + 1) (n - (k + 1)) ≡ all
work_done f k n xs ys x first all lt pushed is cut so_far =
    ap (λ zs. works_of zs ++ f (k + 1) (n - (k + 1))) pushed ∙ before xs (f (k + 1) (n - (k + 1))) ∙ ap (λ w. works_of xs ++ w ∷ f (k + 1) (n - (k + 1))) is
    ∙ ap (λ zs. works_of xs ++ zs) (sym come) ∙ so_far
  where
    before : (xs : List KeptWork) (zs : List Work) → works_of (xs ++ x ∷ []) ++ zs ≡ works_of xs ++ work_of x ∷ zs
    before [] zs = refl
    before (y ∷ ys) zs = ap (λ ws. work_of y ∷ ws) (before ys zs)

    come : f k (n - k) ≡ first ∷ f (k + 1) (n - (k + 1))
    come =
        let more : n - k ≡ suc (n - (k + 1)) = omega arith in
        let next : suc k ≡ k + 1 = omega arith in
        ap (f k) more ∙ cut (n - (k + 1)) ∙ ap (λ j. first ∷ f j (n - (k + 1))) next

-- A step was pushed, the first of those that a list by counting from k down has.
pub step_down : (f : ℕ → List Step) (k : ℕ) (xs ys : List KeptStep) (x : KeptStep) (first : Step) (all : List Step)
    → 0 < k → ys ≡ xs ++ x ∷ [] → step_of x ≡ first → f (suc (k - 1)) ≡ first ∷ f (k - 1)
    → steps_of xs ++ f k ≡ all → steps_of ys ++ f (k - 1) ≡ all
step_down f k xs ys x first all lt pushed is cut so_far =
    let more : k ≡ suc (k - 1) = omega arith in
    ap (λ zs. steps_of zs ++ f (k - 1)) pushed ∙ before xs ∙ ap (λ w. steps_of xs ++ w ∷ f (k - 1)) is ∙ ap (λ zs. steps_of xs ++ zs) (sym (ap f more ∙ cut)) ∙ so_far
  where
    before : (xs : List KeptStep) → steps_of (xs ++ x ∷ []) ++ f (k - 1) ≡ steps_of xs ++ step_of x ∷ f (k - 1)
    before [] = refl
    before (y ∷ ys) = ap (λ ws. step_of y ∷ ws) (before ys)

-- Two steps were pushed, the first two of those that a list by counting from k on has; n is where it ends.
pub pair_done : (f : ℕ → ℕ → List Step) (k n : ℕ) (xs ys zs : List KeptStep) (x y : KeptStep) (first second : Step) (all : List Step)
    → k < n → ys ≡ xs ++ x ∷ [] → zs ≡ ys ++ y ∷ [] → step_of x ≡ first → step_of y ≡ second → ((m : ℕ) → f k (suc m) ≡ first ∷ second ∷ f (suc k) m)
    → steps_of xs ++ f k (n - k) ≡ all → steps_of zs ++ f (k + 1) (n - (k + 1)) ≡ all
pair_done f k n xs ys zs x y first second all lt one two is_first is_second cut so_far =
    ap (λ ws. steps_of ws ++ f (k + 1) (n - (k + 1))) two ∙ before ys y (f (k + 1) (n - (k + 1)))
    ∙ ap (λ ws. steps_of ws ++ step_of y ∷ f (k + 1) (n - (k + 1))) one ∙ before xs x (step_of y ∷ f (k + 1) (n - (k + 1)))
    ∙ ap (λ w. steps_of xs ++ w ∷ step_of y ∷ f (k + 1) (n - (k + 1))) is_first ∙ ap (λ w. steps_of xs ++ first ∷ w ∷ f (k + 1) (n - (k + 1))) is_second
    ∙ ap (λ ws. steps_of xs ++ ws) (sym come) ∙ so_far
  where
    before : (xs : List KeptStep) (x : KeptStep) (ws : List Step) → steps_of (xs ++ x ∷ []) ++ ws ≡ steps_of xs ++ step_of x ∷ ws
    before [] x ws = refl
    before (y ∷ ys) x ws = ap (λ vs. step_of y ∷ vs) (before ys x ws)

    come : f k (n - k) ≡ first ∷ second ∷ f (k + 1) (n - (k + 1))
    come =
        let more : n - k ≡ suc (n - (k + 1)) = omega arith in
        let next : suc k ≡ k + 1 = omega arith in
        ap (f k) more ∙ cut (n - (k + 1)) ∙ ap (λ j. first ∷ second ∷ f j (n - (k + 1))) next
