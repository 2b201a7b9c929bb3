-- RELATIONALOP and SWITCH2.
use Rattle.std.proofs.Common.{◌≡◌, ℕ, ◌+◌, ◌<◌, ◌≤◌, Bool, true, false, Option, Some, refl, sym, ap, ◌∙◌, arith, ℤ, pos, negsuc, List, [], ◌∷◌, length, if◌then◌else◌}
use Rattle.std.specs.Prelude.{int_lt, int_le, not}
use Rattle.std.proofs.lemmas.Int.{ints}
use Rattle.sci_base.specs.Fit.{int_eq}
use Rattle.sci_base.specs.Lists.{at}
use Rattle.sci_forms.specs.declared.Kind.TheVariants.{RelationalOp, Switch2}
use Rattle.sci_forms.specs.declared.spec.Spec.{Spec}
use Rattle.sci_forms.specs.Ports.{total, before, elements, port_at}
use Rattle.sci_forms.specs.Words.{param, in_type, size}
use Rattle.sci_forms.proofs.TestLemmas.{between_told}
use Rattle.sci_kinds.specs.Table.{cell_of, switches as switches_by}
use Rattle.sci_kinds.specs.Asks.{Asks}
use Rattle.sci_kinds.proofs.TypedLemmas.{Tests, scalar_one, before_one, three_total}
use Rattle.sci_forms.specs.declared.ports.Port.{Port}
use Rattle.c_ast.specs.declared.Op.TheVariants.{Lt, Le, Gt, Ge, Eq, Ne}
use Rattle.c_mean.specs.Meaning.{operate, truth}
use Rattle.sci_cgen_blocks.specs.Terms.{Given, Term, value, constant, input, along, both, Scratch, Gives, WayGives, Readable, IsSpelled, RecipeFits, WayFits}
use Rattle.sci_cgen_blocks.specs.Recipes.{given, recipe_of, way_of, copied, relation, switches}
use Rattle.sci_cgen_blocks.proofs.Operators.{lt_is, le_is, gt_is, ge_is, eq_is, ne_is}
use Rattle.sci_cgen_blocks.proofs.Working.{done_gives}
use Rattle.sci_cgen_blocks.proofs.Deciding.{by_truth}
use Rattle.sci_cgen_blocks.proofs.Reading.{Reads, both_reads, number_reads, input_reads}
use Rattle.sci_cgen_blocks.proofs.Inputs.{given_for, given_first, given_input, in_size, fed_of, fed_for, copied_reads, IsFed, element_read}

-- ---- RELATIONALOP

relation_is : {p q : Option ℤ} {x y : ℤ} → p ≡ Some x → q ≡ Some y → (b0 b1 b2 b3 b4 : Bool)
    → operate (if b0 then Eq else if b1 then Ne else if b2 then Lt else if b3 then Le else if b4 then Gt else Ge) p q
    ≡ Some (truth (
    if b0 then int_eq x y else if b1 then not (int_eq x y) else if b2 then int_lt x y else
    if b3 then int_le x y else if b4 then int_lt y x else int_le y x))
relation_is e f true b1 b2 b3 b4 = eq_is e f
relation_is e f false true b2 b3 b4 = ne_is e f
relation_is e f false false true b3 b4 = lt_is e f
relation_is e f false false false true b4 = le_is e f
relation_is e f false false false false true = gt_is e f
relation_is e f false false false false false = ge_is e f

module _ (s : Spec) (x : List ℤ) (m : ℕ) (u : List ℤ) (e : ℕ) (t : Scratch) where
  pub relational_op_gives : Asks RelationalOp s → Gives (given_for s x m u e) (recipe_of RelationalOp s) t (cell_of RelationalOp s x m u e)
  relational_op_gives a =
      let op = param s 0 in
      let first = ap Some (given_input s x m u (in_type s) (size s) a.0.ins_alike 0 e (omega arith)) in
      let second = ap Some (given_input s x m u (in_type s) (size s) a.0.ins_alike 1 e (omega (arith, a.1))) in
      (done_gives {v = both (relation op) (along 0) (along 1)}
      (relation_is first second (int_eq op (pos 0)) (int_eq op (pos 1)) (int_eq op (pos 2)) (int_eq op (pos 3)) (int_eq op (pos 4)))).gives

module _ (s : Spec) (e : ℕ) (l : e < total s.outs) where
  pub relational_op_reads : Asks RelationalOp s → IsFed RelationalOp s → RecipeFits (fed_for RelationalOp s e) (recipe_of RelationalOp s)
  relational_op_reads a f =
      let here = in_size s a.0.outs_alike a.0.one e l in
      let read = λ (k : ℕ) (h : k < 2). element_read RelationalOp s (in_type s) a.0.ins_alike f k e (omega (arith, h, a.1)) refl here in
      (tt, (read 0 (omega arith), read 1 (omega arith)))

-- ---- SWITCH2

switches_is : (g : Given) (s : Scratch) (i : Term) (v a : ℤ) → value g s i ≡ Some v → (b0 b1 : Bool)
    → value g s (if b0 then both Ge i (constant a) else if b1 then both Gt i (constant a) else both Ne i (constant a))
    ≡ Some (truth (if b0 then int_le a v else if b1 then int_lt a v else not (int_eq v a)))
switches_is g s i v a e true b1 = ge_is e refl
switches_is g s i v a e false true = gt_is e refl
switches_is g s i v a e false false = ne_is e refl

switches_read : {r : Readable} (i : Term) (a : ℤ) → Reads r 31 i → IsSpelled a → (b0 b1 : Bool)
    → Reads r 32 (if b0 then both Ge i (constant a) else if b1 then both Gt i (constant a) else both Ne i (constant a))
switches_read i a h k true b1 = both_reads h (number_reads k)
switches_read i a h k false true = both_reads h (number_reads k)
switches_read i a h k false false = both_reads h (number_reads k)

before_two : (ps : List Port) → 2 ≤ length ps → before ps 2 ≡ elements (port_at ps 0) + elements (port_at ps 1)
before_two [] h = absurd (omega (arith, h))
before_two (p ∷ []) h = absurd (omega (arith, h))
before_two (p ∷ q ∷ ps) h = omega arith

-- three inputs, the second a number
record IsThree (s : Spec) : Type 0 where
  three : length s.ins ≡ 3
  first : elements (port_at s.ins 0) ≡ size s
  second : elements (port_at s.ins 1) ≡ 1
  third : elements (port_at s.ins 2) ≡ size s

is_three : (s : Spec) → Asks Switch2 s → Tests Switch2 s → IsThree s
is_three s a t =
    let three : length s.ins ≡ 3 = omega (arith, t.ins_least, t.ins_most) in
    let second = scalar_one (port_at s.ins 1) (t.in_sizes 1 (omega (arith, three))) in
    let first : elements (port_at s.ins 0) ≡ size s = omega (arith, before_one s.ins (omega (arith, three)), a.0.first_size) in
    record { three = three; first = first; second = second; third = omega (arith, three_total s.ins three, a.0.total_ins, first, second) }

module _ (s : Spec) (x : List ℤ) (m : ℕ) (u : List ℤ) where
  pub switch_gives : Asks Switch2 s → Tests Switch2 s → WayGives (given s x m u) (total s.outs) (cell_of Switch2 s x m u) (way_of Switch2 s)
  switch_gives a ts =
      let i = is_three s a ts in
      let second : at u (before s.ins 1 + 0) ≡ at u (size s) = ap (at u) (omega (arith, a.0.first_size)) in
      let two : before s.ins 2 ≡ size s + 1 = before_two s.ins (omega (arith, i.three)) ∙ rw (i.first, i.second) refl in
      let b0 = int_eq (param s 0) (pos 0) in
      let b1 = int_eq (param s 0) (pos 1) in
      λ t. by_truth {p = WayGives (given s x m u) (total s.outs) (cell_of Switch2 s x m u) (copied 0)}
      {q = WayGives (given s x m u) (total s.outs) (cell_of Switch2 s x m u) (copied 2)}
      (value (given s x m u) t (switches (param s 0) (param s 1) (input 1 0))) (switches_by (param s 0) (param s 1) (at u (size s)))
      (switches_is (given s x m u) t (input 1 0) (at u (size s)) (param s 1) (ap Some second) b0 b1)
      (λ on e l t'. record {
        behind = t';
        works = refl;
        is = ap Some (given_first s x m u e) ∙ ap (λ (c : Bool). Some (if c then at u e else at u (size s + 1 + e))) (sym on);
      })
      (λ off e l t'. record {
        behind = t';
        works = refl;
        is = ap (λ (n : ℕ). Some (at u (n + e))) two ∙ ap (λ (c : Bool). Some (if c then at u e else at u (size s + 1 + e))) (sym off);
      })

module _ (s : Spec) where
  pub switch_reads : Asks Switch2 s → Tests Switch2 s → IsFed Switch2 s → WayFits (fed_of Switch2 s) (total s.outs) (way_of Switch2 s) 8
  switch_reads a ts f =
      let i = is_three s a ts in
      let here = λ (e : ℕ) (l : e < total s.outs). in_size s a.0.outs_alike a.0.one e l in
      let second : (fed_of Switch2 s).input 1 0 = ((omega (arith, i.three), omega (arith, i.second)), f 1 (omega (arith, i.three)) refl) in
      let bounds = between_told (negsuc 2147483647) (pos 4294967295) (param s 1) (ts.params 1 (omega (arith, a.1))) in
      let number : IsSpelled (param s 1) = (omega (arith, ints, bounds.0), omega (arith, ints, bounds.1)) in
      let test : Reads (fed_of Switch2 s) 32 (switches (param s 0) (param s 1) (input 1 0)) =
      switches_read (input 1 0) (param s 1) (input_reads second) number (int_eq (param s 0) (pos 0)) (int_eq (param s 0) (pos 1)) in (
        test.fits,
        copied_reads Switch2 s 7 0 refl refl
            (λ e l. ((omega (arith, i.three), omega (arith, here e l, i.first)), f 0 (omega (arith, i.three)) refl)),
        copied_reads Switch2 s 7 2 refl refl
            (λ e l. ((omega (arith, i.three), omega (arith, here e l, i.third)), f 2 (omega (arith, i.three)) refl)),
      )
