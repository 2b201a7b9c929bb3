-- The guards of a source, counted by the synchronous blocks that give them.
use Rattle.std.proofs.Common.{◌≡◌, ℕ, zero, suc, ◌+◌, ◌-◌, ◌<◌, ◌≤◌, Bool, true, false, cond, eqb, ⊎_elim, List, [], ◌∷◌, length, get_or, set, Contains, refl, sym, ap, ap₂, subst, ◌∙◌, arith, length-set, get_or-set_same, get_or-set_other, true≢false, ◌||◌}
use Rattle.std.specs.List.{sum_by, count_by, list_any, IsDistinct, AllByRecursion}
use Rattle.std.proofs.lemmas.Bool.{cases_eq, eqb-true}
use Rattle.std.proofs.lemmas.List.{get_or_default}
use Rattle.std.proofs.lemmas.List.Sums.{sum_by-cons, sum_by-set}
use Rattle.std.proofs.lemmas.Map.Keys.{IsDistinct-head, IsDistinct-tail}
use Rattle.sci_net.specs.declared.Feed.{Feed}
use Rattle.sci_net.specs.Parts.{numbered}
use Rattle.sci_reaction.proofs.Lists.{Contains-cons, cons-Contains}
use Rattle.sci_reaction.proofs.Rows.{Contains-has, has-Contains}
use Rattle.sci_sched.specs.Guards.{is_of, is_possible}
use Rattle.sci_sched.proofs.Members.{head_in}

-- ---- sums

pub sum_by-plus : {X : Type 0} (f g : X → ℕ) (xs : List X) → sum_by f xs + sum_by g xs ≡ sum_by (λ x. f x + g x) xs
sum_by-plus f g [] = refl
sum_by-plus f g (x ∷ xs) =
    let a = sum_by-cons f x xs in let b = sum_by-cons g x xs in let c = sum_by-cons (λ y. f y + g y) x xs in let rest = sum_by-plus f g xs in
    omega (arith, a, b, c, rest)

pub sum_by-same : {X : Type 0} (f g : X → ℕ) (xs : List X) → ((x : X) → Contains xs x → f x ≡ g x) → sum_by f xs ≡ sum_by g xs
sum_by-same f g [] same = refl
sum_by-same f g (x ∷ xs) same =
    sum_by-cons f x xs ∙ (ap₂ (λ a b. a + b) (same x (head_in x xs)) (sum_by-same f g xs (λ y has. same y (cons-Contains x xs y has))) ∙ sym (sum_by-cons g x xs))

pub sum_by-none : {X : Type 0} (f : X → ℕ) (xs : List X) → ((x : X) → Contains xs x → f x ≡ 0) → sum_by f xs ≡ 0
sum_by-none f [] none = refl
sum_by-none f (x ∷ xs) none =
    let a = sum_by-cons f x xs in let b = none x (head_in x xs) in let rest = sum_by-none f xs (λ y has. none y (cons-Contains x xs y has)) in
    omega (arith, a, b, rest)

-- the order of two sums
pub sums_exchanged : {X Y : Type 0} (f : X → Y → ℕ) (xs : List X) (ys : List Y) → sum_by (λ x. sum_by (f x) ys) xs ≡ sum_by (λ y. sum_by (λ x. f x y) xs) ys
sums_exchanged f [] ys = sym (sum_by-none (λ y. 0) ys (λ y has. refl))
sums_exchanged {X} {Y} f (x ∷ xs) ys =
    sum_by-cons (λ z. sum_by (f z) ys) x xs
    ∙ (ap (λ m. sum_by (f x) ys + m) (sums_exchanged f xs ys)
    ∙ (sum_by-plus (f x) (λ y. sum_by (λ z. f z y) xs) ys
    ∙ sum_by-same (λ y. f x y + sum_by (λ z. f z y) xs) (λ y. sum_by (λ z. f z y) (x ∷ xs)) ys (λ y has. sym (sum_by-cons (λ z. f z y) x xs))))

-- ---- distinct numbers

none_of : (b : ℕ) (bs : List ℕ) → AllByRecursion (λ c. eqb b c ≡ false) bs → list_any (eqb b) bs ≡ false
none_of b [] h = refl
none_of b (c ∷ bs) h = rw (h.0) (none_of b bs h.1)

-- a number is among them once or not at all
once_step : (t r : Bool) → (t ≡ true → r ≡ false) → cond {A = ℕ} t 1 0 + cond {A = ℕ} r 1 0 ≡ cond {A = ℕ} (t || r) 1 0
once_step true true apart = absurd (let e = apart refl in true≢false e)
once_step true false apart = refl
once_step false true apart = refl
once_step false false apart = refl

pub counted_once : (x : ℕ) (bs : List ℕ) → IsDistinct eqb bs → count_by (eqb x) bs ≡ cond {A = ℕ} (list_any (eqb x) bs) 1 0
counted_once x [] distinct = refl
counted_once x (b ∷ bs) distinct =
    sum_by-cons (λ c. cond {A = ℕ} (eqb x c) 1 0) b bs
    ∙ (ap (λ m. cond {A = ℕ} (eqb x b) 1 0 + m) (counted_once x bs (IsDistinct-tail eqb b bs distinct))
    ∙ once_step (eqb x b) (list_any (eqb x) bs) (λ same. subst (λ c. list_any (eqb c) bs ≡ false) (sym (eqb-true x b same)) (none_of b bs (IsDistinct-head eqb b bs distinct))))

-- ---- a sum over numbers

at_number : {X : Type 0} (ls : List (List X)) (b : ℕ) → 1 ≤ b → numbered [] ls b ≡ get_or ls (b - 1) []
at_number ls zero h = absurd (omega (arith, h))
at_number ls (suc k) h = let e : suc k - 1 ≡ k = omega arith in ap (λ (i : ℕ). get_or ls i []) (sym e)

-- where all else gives nothing, the sum over these numbers is the sum over all
pub sum_numbered : {X : Type 0} (f : List X → ℕ) → f [] ≡ 0 → (ls : List (List X)) (bs : List ℕ) → IsDistinct eqb bs → ((b : ℕ) → Contains bs b → (1 ≤ b) × (b ≤ length ls))
    → ((k : ℕ) → k < length ls → (Contains bs (k + 1) → ⊥) → f (get_or ls k []) ≡ 0) → sum_by (λ b. f (numbered [] ls b)) bs ≡ sum_by f ls
sum_numbered f nothing ls [] distinct within none =
    sym (sum_by-none f ls (λ l has.
    let h = has.1 in
    ap f (sym has.2 ∙ get_or_default ls has.0 l [] h) ∙ none has.0 h (λ c. let m = c.1 in omega (arith, m))))
sum_numbered {X} f nothing ls (b ∷ bs) distinct within none =
    let one = within b (head_in b bs) in
    let least = one.0 in let most = one.1 in
    let i : ℕ = b - 1 in
    let inside : i < length ls = omega (arith, least, most) in
    let rest : List (List X) = set ls i [] in
    let long : length rest ≡ length ls = length-set ls i [] in
    let later = sum_numbered f nothing rest bs (IsDistinct-tail eqb b bs distinct)
    (λ c has. let w = within c (cons-Contains b bs c has) in let m = w.1 in (w.0, omega (arith, m, long)))
    (λ k h out. ⊎_elim
    (λ same. ap f (ap (λ (j : ℕ). get_or rest j []) same ∙ get_or-set_same ls i [] [] inside) ∙ nothing)
    (λ apart. ap f (get_or-set_other ls i k [] [] apart) ∙ none k (omega (arith, h, long))
    (λ has. ⊎_elim (λ e. apart (omega (arith, e))) out (Contains-cons b bs (k + 1) has)))
    (cases_eq k i)) in
    let first = sum_by-cons (λ (c : ℕ). f (numbered [] ls c)) b bs in
    let here : f (numbered [] ls b) ≡ f (get_or ls i []) = ap f (at_number ls b least) in
    let same : sum_by (λ (c : ℕ). f (numbered [] ls c)) bs ≡ sum_by (λ (c : ℕ). f (numbered [] rest c)) bs =
    sum_by-same (λ (c : ℕ). f (numbered [] ls c)) (λ (c : ℕ). f (numbered [] rest c)) bs (λ c has.
    let low = (within c (cons-Contains b bs c has)).0 in
    ap f (at_number ls c low
    ∙ (sym (get_or-set_other ls i (c - 1) [] [] (λ e. let d : b ≡ c = omega (arith, e, least, low) in once b bs distinct (subst (Contains bs) (sym d) has)))
    ∙ sym (at_number rest c low)))) in
    let moved = sum_by-set f ls i [] [] inside in
    omega (arith, first, here, same, later, moved, nothing)
  where
    once : (b : ℕ) (bs : List ℕ) → IsDistinct eqb (b ∷ bs) → Contains bs b → ⊥
    once b bs distinct has = true≢false (sym (Contains-has bs b has) ∙ none_of b bs (IsDistinct-head eqb b bs distinct))

-- ---- guards

no_unit : (t : Bool) → (t ≡ true → ⊥) → cond {A = ℕ} t 1 0 ≡ 0
no_unit true h = absurd (h refl)
no_unit false h = refl

-- a branch is of one of these blocks, or of none
of_blocks : (bs : List ℕ) → IsDistinct eqb bs → (qs : List Feed) → sum_by (λ c. count_by (is_of c) qs) bs ≡ count_by (is_possible bs) qs
of_blocks bs distinct qs =
    sums_exchanged (λ (c : ℕ) (q : Feed). cond {A = ℕ} (is_of c q) 1 0) bs qs
    ∙ sum_by-same (λ (q : Feed). count_by (eqb q.block) bs) (λ (q : Feed). cond {A = ℕ} (is_possible bs q) 1 0) qs (λ q has. counted_once q.block bs distinct)

-- where what the branches of these blocks reach is among them, as many guards are given as the blocks have
pub counted_by_givers : (ls : List (List Feed)) (bs : List ℕ) → IsDistinct eqb bs → ((b : ℕ) → Contains bs b → (1 ≤ b) × (b ≤ length ls))
    → ((b : ℕ) (q : Feed) → Contains (numbered [] ls b) q → Contains bs q.block → Contains bs b)
    → sum_by (λ c. sum_by (λ qs. count_by (is_of c) qs) ls) bs ≡ sum_by (λ b. count_by (is_possible bs) (numbered [] ls b)) bs
counted_by_givers ls bs distinct within closed =
    sums_exchanged (λ (c : ℕ) (qs : List Feed). count_by (is_of c) qs) bs ls
    ∙ (sum_by-same (λ (qs : List Feed). sum_by (λ c. count_by (is_of c) qs) bs) (λ (qs : List Feed). count_by (is_possible bs) qs) ls (λ qs has. of_blocks bs distinct qs)
    ∙ sym (sum_numbered (λ (qs : List Feed). count_by (is_possible bs) qs) refl ls bs distinct within none))
  where
    none : (k : ℕ) → k < length ls → (Contains bs (k + 1) → ⊥) → count_by (is_possible bs) (get_or ls k []) ≡ 0
    none k h out =
        sum_by-none (λ (q : Feed). cond {A = ℕ} (is_possible bs q) 1 0) (get_or ls k []) (λ q has.
        no_unit (is_possible bs q) (λ on. let next : suc k ≡ k + 1 = omega arith in out (subst (Contains bs) next (closed (suc k) q has (has-Contains bs q.block on)))))
