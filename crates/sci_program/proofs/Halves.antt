-- The choice of a source by halves.
use Rattle.std.proofs.Common.{arith, ◌≡◌, ℕ, zero, suc, ◌+◌, ◌-◌, ◌<◌, ◌≤◌, ◌^◌, Bool, nat_lt, if◌then◌else◌, refl, ap, ◌∙◌, lt-ltb, le-ltb}
use Rattle.c_ast.specs.declared.Op.TheVariants.{Lt}
use Rattle.c_ast.specs.Syntax.{var, bin, Statement, choice, call}
use Rattle.sci_due.specs.Due.{best as chosen_name}
use Rattle.sci_program.specs.Names.{source_name}
use Rattle.sci_program.specs.Program.{natural, one, react_step}

-- the test between two halves, the second of which begins at place i
abbrev pub in_first : ℕ → ℕ → Statement → Statement → Statement
in_first i m a b = choice (bin Lt (var chosen_name) (natural (i + m))) (one a) (one b)

-- one source is left
pub react_last : (i c : ℕ) → react_step zero i c ≡ call (source_name (suc i))
unfolding react_step
react_last i c = refl

-- or a decision more
pub react_more : (d i c : ℕ) → react_step (suc d) i c
    ≡ (if nat_lt (2 ^ d) c then in_first i (2 ^ d) (react_step d i (2 ^ d)) (react_step d (i + 2 ^ d) (c - 2 ^ d)) else react_step d i c)
unfolding react_step
react_more d i c = refl

-- ---- the same, as it is written

pub react_one : (d i c : ℕ) → d ≡ 0 → react_step d i c ≡ call (source_name (i + 1))
react_one d i c none =
    ap (λ (e : ℕ). react_step e i c) none ∙ (react_last i c ∙ ap (λ (j : ℕ). call (source_name j)) (let next : suc i ≡ i + 1 = omega arith in next))

pub react_within : (d i c : ℕ) → 0 < d → c ≤ 2 ^ (d - 1) → react_step d i c ≡ react_step (d - 1) i c
react_within zero i c some few = absurd (omega (arith, some))
react_within (suc d) i c some few =
    let less : suc d - 1 ≡ d = omega arith in
    let fits : c ≤ 2 ^ d = (let same : 2 ^ (suc d - 1) ≡ 2 ^ d = ap (λ (e : ℕ). 2 ^ e) less in omega (arith, few, same)) in
    react_more d i c
    ∙ (ap (λ (t : Bool). if t then in_first i (2 ^ d) (react_step d i (2 ^ d)) (react_step d (i + 2 ^ d) (c - 2 ^ d)) else react_step d i c) (le-ltb (2 ^ d) c fits)
    ∙ ap (λ (e : ℕ). react_step e i c) (let same : d ≡ suc d - 1 = omega arith in same))

pub react_halved : (d i c : ℕ) → 0 < d → 2 ^ (d - 1) < c
    → react_step d i c ≡ in_first i (2 ^ (d - 1)) (react_step (d - 1) i (2 ^ (d - 1))) (react_step (d - 1) (i + 2 ^ (d - 1)) (c - 2 ^ (d - 1)))
react_halved zero i c some many = absurd (omega (arith, some))
react_halved (suc d) i c some many =
    let less : suc d - 1 ≡ d = omega arith in
    let more : 2 ^ d < c = (let same : 2 ^ (suc d - 1) ≡ 2 ^ d = ap (λ (e : ℕ). 2 ^ e) less in omega (arith, many, same)) in
    react_more d i c
    ∙ (ap (λ (t : Bool). if t then in_first i (2 ^ d) (react_step d i (2 ^ d)) (react_step d (i + 2 ^ d) (c - 2 ^ d)) else react_step d i c) (lt-ltb (2 ^ d) c more)
    ∙ ap (λ (e : ℕ). in_first i (2 ^ e) (react_step e i (2 ^ e)) (react_step e (i + 2 ^ e) (c - 2 ^ e))) (let same : d ≡ suc d - 1 = omega arith in same))
