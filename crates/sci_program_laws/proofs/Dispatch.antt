-- The chosen event's source reacts.
use Rattle.std.proofs.Common.{◌≡◌, ℕ, zero, suc, ◌+◌, ◌-◌, ◌<◌, ◌≤◌, ◌^◌, List, Some, Bool, true, false, nat_lt, if◌then◌else◌, refl, sym, ap, ◌∙◌, subst, arith, pos, ltb-true, ltb-false}
use Rattle.std.proofs.Math.Nat.{pow-suc}
use Rattle.std.proofs.lemmas.List.{append-nil}
use Rattle.sci_base.specs.declared.observation.Obs.{Obs}
use Rattle.c_ast.specs.declared.Op.TheVariants.{Lt}
use Rattle.c_ast.specs.Syntax.{var, bin, call, Statement, done}
use Rattle.c_mean.specs.Meaning.{World, Around, Ran, How, going, undefined, over, halted, quietly, then_run, on_how, run_block}
use Rattle.c_mean.specs.Places.{get}
use Rattle.c_mean.proofs.Steps.{run_done, then_same, test_runs, call_runs}
use Rattle.c_mean.proofs.Values.{lt_is}
use Rattle.sci_due.specs.Due.{best as chosen_name}
use Rattle.sci_program.specs.Names.{source_name}
use Rattle.sci_program.specs.Program.{one, natural, react_step, react_deep}
use Rattle.sci_program.proofs.Halves.{in_first, react_last, react_more}

-- what goes on and does nothing more
pub still_going : (r : Ran) → then_run r (λ w. quietly (going w)) ≡ r
still_going r = by_how r.seen r.how
  where
    by_how : (seen : List Obs) (h : How) → on_how seen h (λ w. quietly (going w)) ≡ (let q : Ran = record { seen = seen; how = h } in q)
    by_how seen (going w) = ap (λ (s : List Obs). let q : Ran = record { seen = s; how = going w } in q) (append-nil seen)
    by_how seen (undefined n) = refl
    by_how seen over = refl
    by_how seen halted = refl

pow_some : (d : ℕ) → 1 ≤ 2 ^ d
pow_some zero = omega arith
pow_some (suc d) = let more = pow_some d in omega (arith, pow-suc 2 d, more)

-- where nothing comes behind a run
pub nothing_behind : (env : Around) (m : ℕ) (r : Ran) → then_run r (run_block env m done) ≡ r
nothing_behind env m r = then_same r (run_block env m done) (λ w. quietly (going w)) (run_done env m) ∙ still_going r

module _ (env : Around) (b all : ℕ) (w : World) (is : 2 ≤ all → get w chosen_name 0 ≡ Some (pos b)) (run : World → Ran)
    (calls : env.calls (source_name (suc b)) ≡ Some run) where
  -- of so many sources around the chosen one; of one nothing is asked
  abbrev Reacts : ℕ → Type 0
  Reacts d = (i c k : ℕ) → i ≤ b → b < i + c → c ≤ 2 ^ d → c ≤ all → run_block env k (one (react_step d i c)) w ≡ run w

  alone : Reacts 0
  alone i c k lo hi most few =
      let same : b ≡ i = omega (arith, lo, hi, most) in
      subst (λ (s : Statement). run_block env k (one s) w ≡ run w) (sym (react_last i c))
      (subst (λ (j : ℕ). run_block env k (one (call (source_name (suc j)))) w ≡ run w) same
      (call_runs (λ r. r ≡ run w) env k (source_name (suc b)) done w run calls (λ j. nothing_behind env j (run w))))

  halved : (d : ℕ) → Reacts d → Reacts (suc d)
  halved d go i c k lo hi most few =
      subst (λ (s : Statement). run_block env k (one s) w ≡ run w) (sym (react_more d i c)) (by_count (nat_lt (2 ^ d) c) refl)
    where
      by_half : (x y z : ℕ) (u : Bool) → nat_lt b (i + 2 ^ d) ≡ u → nat_lt (2 ^ d) c ≡ true
          → then_run (if u then run_block env x (one (react_step d i (2 ^ d))) w else run_block env y (one (react_step d (i + 2 ^ d) (c - 2 ^ d))) w)
          (run_block env z done) ≡ run w
      by_half x y z true p q =
          nothing_behind env z (run_block env x (one (react_step d i (2 ^ d))) w) ∙ go i (2 ^ d) x lo (ltb-true b (i + 2 ^ d) p) (omega arith)
          (let more = ltb-true (2 ^ d) c q in omega (arith, more, few))
      by_half x y z false p q =
          let more = ltb-true (2 ^ d) c q in
          let past = ltb-false b (i + 2 ^ d) p in
          let double : 2 ^ suc d ≡ 2 ^ d + 2 ^ d = omega (arith, pow-suc 2 d) in
          nothing_behind env z (run_block env y (one (react_step d (i + 2 ^ d) (c - 2 ^ d))) w)
          ∙ go (i + 2 ^ d) (c - 2 ^ d) y past (omega (arith, more, hi)) (omega (arith, double, most)) (omega (arith, few))

      by_count : (t : Bool) → nat_lt (2 ^ d) c ≡ t
          → run_block env k (one (if t then in_first i (2 ^ d) (react_step d i (2 ^ d)) (react_step d (i + 2 ^ d) (c - 2 ^ d)) else react_step d i c)) w ≡ run w
      by_count true q =
          test_runs (λ r. r ≡ run w) env k (bin Lt (var chosen_name) (natural (i + 2 ^ d))) (one (react_step d i (2 ^ d)))
          (one (react_step d (i + 2 ^ d) (c - 2 ^ d))) done w
          (nat_lt b (i + 2 ^ d)) (lt_is (var chosen_name) (natural (i + 2 ^ d)) w (pos b) (pos (i + 2 ^ d))
          (is (let more = ltb-true (2 ^ d) c q in let some = pow_some d in omega (arith, more, some, few))) refl)
          (λ x y z. by_half x y z (nat_lt b (i + 2 ^ d)) refl q)
      by_count false q = go i c k lo hi (ltb-false (2 ^ d) c q) few

  reacts : (d : ℕ) → Reacts d
  reacts zero = alone
  reacts (suc d) = halved d (reacts d)

  -- Of all sources the chosen one reacts.
  pub dispatch_is : (k : ℕ) → b < all → all ≤ 2048 → run_block env k (one (react_step react_deep 0 all)) w ≡ run w
  dispatch_is k l few = reacts react_deep 0 all k (omega arith) (omega (arith, l)) few (omega arith)
