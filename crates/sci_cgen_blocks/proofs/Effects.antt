-- Delays and branches.
use Rattle.std.proofs.Common.{◌≡◌, ℕ, suc, ◌≤◌, ◌≤ℤ◌, ◌+ℤ◌, ◌-ℤ◌, Bool, true, false, Option, Some, refl, ap, ◌∙◌, arith, ℤ, pos, negsuc, List, length, if◌then◌else◌, inl, inr}
use Rattle.std.specs.Prelude.{int_lt, unsigned_abs}
use Rattle.std.specs.Int.{int_min}
use Rattle.std.proofs.lemmas.Int.{ints}
use Rattle.sci_base.specs.Lists.{at}
use Rattle.sci_base.proofs.FitLemmas.{int_le_yes, int_le_no}
use Rattle.sci_forms.specs.declared.Kind.{Kind}
use Rattle.sci_forms.specs.declared.Kind.TheVariants.{EvtDly, EvtVarDly, IfThEl, ESelect}
use Rattle.sci_forms.specs.declared.spec.Spec.{Spec}
use Rattle.sci_forms.specs.Ports.{total, type_at, Fills}
use Rattle.sci_forms.specs.Form.{is_sync, has_delay}
use Rattle.sci_kinds.specs.Table.{brought, delay_of, branch_of}
use Rattle.sci_kinds.specs.Asks.{Asks}
use Rattle.sci_kinds.proofs.LawProofs.{asks}
use Rattle.sci_kinds.proofs.TypedLemmas.{Tests, tests, only_total}
use Rattle.c_ast.specs.declared.Op.TheVariants.{Add, Sub, Mul, Lt, Le, Gt, Ge}
use Rattle.c_mean.specs.Meaning.{operate, truth}
use Rattle.c_mean.specs.Laws.{Within}
use Rattle.sci_cgen_blocks.specs.Terms.{Readable, Term, value, input, Scratch, TermFits}
use Rattle.sci_cgen_blocks.specs.Recipes.{given, inputs, at_most, delay_term, branch_term}
use Rattle.sci_cgen_blocks.specs.Laws.{DelayTermLaw, BranchTermLaw}
use Rattle.sci_cgen_blocks.proofs.Operators.{add_is, sub_is, lt_is, le_is, gt_is, ge_is}
use Rattle.sci_cgen_blocks.proofs.Fitting.{cases_below, lt_yes, lt_no}
use Rattle.sci_cgen_blocks.proofs.Reading.{Reads, both_reads, natural_reads, input_reads}
use Rattle.sci_cgen_blocks.proofs.Inputs.{given_first, small}
use Rattle.sci_cgen_blocks.proofs.StateKinds.{chosen}

-- ---- values

word : (z : ℤ) → negsuc 4611686018427387903 ≤ℤ z → z ≤ℤ pos 4611686018427387904 → Within z
word z h k = record { above = omega (arith, ints, h); below = omega (arith, ints, k) }

min_within : (v : ℤ) (n : ℕ) → negsuc 2147483647 ≤ℤ v → v ≤ℤ pos 4294967295 → n ≤ 2147483647
    → (negsuc 2147483647 ≤ℤ int_min v (pos n)) × (int_min v (pos n) ≤ℤ pos 4294967295)
min_within v n h k l = by_case (int_lt (pos n) v)
  where
    by_case : (b : Bool) → (negsuc 2147483647 ≤ℤ (if b then pos n else v)) × ((if b then pos n else v) ≤ℤ pos 4294967295)
    by_case true = (omega (arith, ints), omega (arith, ints, l))
    by_case false = (h, k)

told : {a b : Bool} → a ≡ b → Some (truth a) ≡ Some (truth b)
told q = ap (λ (x : Bool). Some (truth x)) q

positive : (z : ℤ) → pos 1 ≤ℤ z → (z +ℤ pos 0) ≡ pos (unsigned_abs z)
positive (pos a) h = omega (arith, ints)
positive (negsuc a) h = absurd (omega (arith, ints, h))

module _ {p : Option ℤ} (v : ℤ) (e : p ≡ Some v) (above : negsuc 2147483647 ≤ℤ v) (below : v ≤ℤ pos 4294967295) where
  here : Within v
  here = word v (omega (arith, ints, above)) (omega (arith, ints, below))

  -- the number, or the most where it is above
  most_is : (n : ℕ) → n ≤ 2147483647
      → operate Add (operate Mul (operate Le p (Some (pos n))) p) (operate Mul (operate Gt p (Some (pos n))) (Some (pos n))) ≡ Some (int_min v (pos n))
  most_is n h = elim (cases_below (pos n) v) [
    | inl l ↦
        let less : (pos 0 +ℤ pos n) ≡ int_min v (pos n) = rw (lt_yes (pos n) v l) (omega (arith, ints)) in
        add_is (chosen false (le_is {y = pos n} e refl ∙ told (int_le_no v (pos n) l)) e here)
        (chosen true (gt_is {y = pos n} e refl ∙ told (lt_yes (pos n) v l)) refl end)
        (word _ (omega (arith, ints)) (omega (arith, ints, h))) ∙ ap Some less
    | inr l ↦
        let same : (v +ℤ pos 0) ≡ int_min v (pos n) = rw (lt_no (pos n) v l) (omega (arith, ints)) in
        add_is (chosen true (le_is {y = pos n} e refl ∙ told (int_le_yes v (pos n) l)) e here)
        (chosen false (gt_is {y = pos n} e refl ∙ told (lt_no (pos n) v l)) refl end)
        (word _ (omega (arith, ints, above)) (omega (arith, ints, below))) ∙ ap Some same
  ]
    where
      end : Within (pos n)
      end = word (pos n) (omega (arith, ints)) (omega (arith, ints, h))

  -- no delay for a number below 0
  var_delay_is : {q : Option ℤ} → q ≡ Some (int_min v (pos 2147483647))
      → operate Sub (operate Mul (operate Ge p (Some (pos 0))) q) (operate Lt p (Some (pos 0)))
      ≡ Some (if int_lt v (pos 0) then negsuc 0 else int_min v (pos 2147483647))
  var_delay_is f =
      let b = min_within v 2147483647 above below (omega arith) in
      let least = word (int_min v (pos 2147483647)) (omega (arith, ints, b.0)) (omega (arith, ints, b.1)) in
      elim (cases_below v (pos 0)) [
        | inl l ↦ rw (lt_yes v (pos 0) l)
            (sub_is (chosen false (ge_is {y = pos 0} e refl ∙ told (int_le_no (pos 0) v l)) f least) (lt_is {y = pos 0} e refl ∙ told (lt_yes v (pos 0) l))
            (word (negsuc 0) (omega arith) (omega arith)))
        | inr r ↦
            let same : (int_min v (pos 2147483647) -ℤ pos 0) ≡ int_min v (pos 2147483647) = omega (arith, ints) in
            rw (lt_no v (pos 0) r)
            (sub_is (chosen true (ge_is {y = pos 0} e refl ∙ told (int_le_yes (pos 0) v r)) f least) (lt_is {y = pos 0} e refl ∙ told (lt_no v (pos 0) r))
            (word (int_min v (pos 2147483647) -ℤ pos 0) (omega (arith, ints, b.0)) (omega (arith, ints, b.1))) ∙ ap Some same)
      ]

  -- the branch of a number between 1 and the last
  select_is : (n : ℕ) → 1 ≤ n → n ≤ 64 → {q : Option ℤ} → q ≡ Some (int_min v (pos n))
      → operate Add (operate Mul (operate Ge p (Some (pos 1))) q) (operate Lt p (Some (pos 1))) ≡ Some (pos (unsigned_abs (brought (pos 1) (pos n) v)))
  select_is n h k f =
      let b = min_within v n above below (omega (arith, k)) in
      let least = word (int_min v (pos n)) (omega (arith, ints, b.0)) (omega (arith, ints, b.1)) in
      elim (cases_below v (pos 1)) [
        | inl l ↦ rw (lt_yes v (pos 1) l)
            (add_is (chosen false (ge_is {y = pos 1} e refl ∙ told (int_le_no (pos 1) v l)) f least) (lt_is {y = pos 1} e refl ∙ told (lt_yes v (pos 1) l))
            (word (pos 1) (omega arith) (omega arith)))
        | inr r ↦ rw (lt_no v (pos 1) r)
            (add_is (chosen true (ge_is {y = pos 1} e refl ∙ told (int_le_yes (pos 1) v r)) f least) (lt_is {y = pos 1} e refl ∙ told (lt_no v (pos 1) r))
            (word (int_min v (pos n) +ℤ pos 0) (omega (arith, ints, b.0)) (omega (arith, ints, b.1)))
            ∙ ap Some (positive (int_min v (pos n)) (at_least (int_lt (pos n) v) r)))
      ]
    where
      at_least : (b : Bool) → pos 1 ≤ℤ v → pos 1 ≤ℤ (if b then pos n else v)
      at_least true r = omega (arith, ints, h)
      at_least false r = r

  then_else_is : operate Sub (Some (pos 2)) (operate Gt p (Some (pos 0))) ≡ Some (pos (if int_lt (pos 0) v then 1 else 2))
  then_else_is = ap (operate Sub (Some (pos 2))) (gt_is {y = pos 0} e refl) ∙ by_case (int_lt (pos 0) v)
    where
      by_case : (b : Bool) → operate Sub (Some (pos 2)) (Some (truth b)) ≡ Some (pos (if b then 1 else 2))
      by_case true = refl
      by_case false = refl

-- ---- what they read

-- the one element of the one input
only_reads : {d : ℕ} (s : Spec) → length s.ins ≡ 1 → total s.ins ≡ 1 → Reads (inputs s) (suc d) (input 0 0)
only_reads s one all = input_reads (omega (arith, one), omega (arith, all, only_total s.ins one))

at_most_reads : {r : Readable} {d : ℕ} {t : Term} (n : ℕ) → n ≤ 2147483647 → ((c : ℕ) → Reads r (suc c) t) → Reads r (suc (suc (suc (suc d)))) (at_most n t)
at_most_reads {d} n h k =
    both_reads (both_reads (both_reads (k d) (natural_reads (omega (arith, h)))) (k (suc d)))
    (both_reads (both_reads (k d) (natural_reads (omega (arith, h)))) (natural_reads (omega (arith, h))))

-- ---- the laws

module _ (s : Spec) (x : List ℤ) (m p : ℕ) (u : List ℤ) (t : Scratch) (f : Fills s.ins u) where
  abbrev DelayIs : Kind → Type 0
  DelayIs k = (value (given s x m u) t (delay_term k s) ≡ Some (delay_of k s p u)) × TermFits (inputs s) 32 (delay_term k s)

  abbrev BranchIs : Kind → Type 0
  BranchIs k = (value (given s x m u) t (branch_term k s) ≡ Some (pos (branch_of k s u))) × TermFits (inputs s) 32 (branch_term k s)

  first : value (given s x m u) t (input 0 0) ≡ Some (at u 0)
  first = ap Some (given_first s x m u 0)

  first_small : total s.ins ≡ 1 → (negsuc 2147483647 ≤ℤ at u 0) × (at u 0 ≤ℤ pos 4294967295)
  first_small all = small (type_at s.ins 0) (at u 0) (f.in_range 0 (omega (arith, all)))

  evt_dly_delay : Asks EvtDly s → DelayIs EvtDly
  evt_dly_delay a = (refl, (omega (arith, ints, a.2), omega (arith, ints, a.3)))

  evt_var_dly_delay : Asks EvtVarDly s → Tests EvtVarDly s → DelayIs EvtVarDly
  evt_var_dly_delay a ts = (var_delay_is (at u 0) first b.0 b.1 (most_is (at u 0) first b.0 b.1 2147483647 (omega arith)), term.fits)
    where
      b : (negsuc 2147483647 ≤ℤ at u 0) × (at u 0 ≤ℤ pos 4294967295)
      b = first_small a.1

      read : (d : ℕ) → Reads (inputs s) (suc d) (input 0 0)
      read d = only_reads s (omega (arith, ts.ins_least, ts.ins_most)) a.1

      term : Reads (inputs s) 32 (delay_term EvtVarDly s)
      term = both_reads
          (both_reads (both_reads (read 28) (natural_reads (omega arith))) (at_most_reads 2147483647 (omega arith) read))
          (both_reads (read 29) (natural_reads (omega arith)))

  if_then_else_branch : Asks IfThEl s → Tests IfThEl s → BranchIs IfThEl
  if_then_else_branch a ts = (then_else_is (at u 0) first (first_small a.1).0 (first_small a.1).1, term.fits)
    where
      term : Reads (inputs s) 32 (branch_term IfThEl s)
      term = both_reads (natural_reads (omega arith)) (both_reads (only_reads s (omega (arith, ts.ins_least, ts.ins_most)) a.1) (natural_reads (omega arith)))

  event_select_branch : Asks ESelect s → Tests ESelect s → BranchIs ESelect
  event_select_branch a ts =
      (select_is (at u 0) first b.0 b.1 s.evtout (omega (arith, a.2)) a.3 (most_is (at u 0) first b.0 b.1 s.evtout (omega (arith, a.3))), term.fits)
    where
      b : (negsuc 2147483647 ≤ℤ at u 0) × (at u 0 ≤ℤ pos 4294967295)
      b = first_small a.1

      read : (d : ℕ) → Reads (inputs s) (suc d) (input 0 0)
      read d = only_reads s (omega (arith, ts.ins_least, ts.ins_most)) a.1

      term : Reads (inputs s) 32 (branch_term ESelect s)
      term = both_reads
          (both_reads (both_reads (read 28) (natural_reads (omega arith))) (at_most_reads s.evtout (omega (arith, a.3)) read))
          (both_reads (read 29) (natural_reads (omega arith)))

  delay_is : (k : Kind) → Asks k s → Tests k s → has_delay k ≡ true → DelayIs k
  delay_is EvtDly a ts h = evt_dly_delay a
  delay_is EvtVarDly a ts h = evt_var_dly_delay a ts
  delay_is _ a ts h = cc

  branch_is : (k : Kind) → Asks k s → Tests k s → is_sync k ≡ true → BranchIs k
  branch_is IfThEl a ts h = if_then_else_branch a ts
  branch_is ESelect a ts h = event_select_branch a ts
  branch_is _ a ts h = cc

pub delay_term_law : DelayTermLaw
delay_term_law s x m p u h d f t = delay_is s x m p u t f s.kind (asks s h) (tests s.kind s h) d

pub branch_term_law : BranchTermLaw
branch_term_law s x m u h d f t = branch_is s x m 0 u t f s.kind (asks s h) (tests s.kind s h) d
