use Rattle.std.proofs.Common.{ℕ, ◌≡◌, ◌+◌, ◌*◌, ◌<◌, ◌≤◌, take, drop, ◌++◌, length, refl, sym, ap, ◌∙◌, subst, arith}
use Rattle.std.proofs.Math.ListN.{set, length-set}
use Rattle.sci_forms.specs.declared.spec.Spec.{Spec}
use Rattle.sci_infer.specs.Typed.{typed_specs}
use Rattle.sci_infer.proofs.Places.{start_zero, start_more}
use Rattle.sci_infer.proofs.Filled.{start_within, mutated, behind, at_front, same_spec}
use Rattle.sci_infer.proofs.typed.fill_specs.Goals as goal

pub loop-at-init : goal.loop-at-init
loop-at-init c = record {
  start = sym (start_zero c.args.specs.now.items);
  small = omega arith;
  long = refl;
  behind = refl;
  filled = refl;
}

pub part_count-count-requires-clause-ins : goal.part_count-count-requires-clause-ins
part_count-count-requires-clause-ins c =
    let orig = c.args.specs.now.items in
    let inside : c.loop-at.at < length orig = omega (arith, c.loop-at-test.true, c.len-at-end.ensures, c.args.specs.now.ok) in
    let e = at_front c.loop-at.specs.items orig c.loop-at.at c.index.result.now c.index.result.now inside c.loop-at.invariant.long c.loop-at.invariant.behind c.index.ensures in
    subst (λ (s : Spec). length s.ins ≤ 64) (sym e) (c.requires.few_ins c.loop-at.at c.index.result.now inside)

pub part_count-count-requires-clause-outs : goal.part_count-count-requires-clause-outs
part_count-count-requires-clause-outs c =
    let orig = c.args.specs.now.items in
    let inside : c.loop-at.at < length orig = omega (arith, c.loop-at-test.true, c.len-at-end.ensures, c.args.specs.now.ok) in
    let e = at_front c.loop-at.specs.items orig c.loop-at.at c.index.result.now c.index.result.now inside c.loop-at.invariant.long c.loop-at.invariant.behind c.index.ensures in
    subst (λ (s : Spec). length s.outs ≤ 64) (sym e) (c.requires.few_outs c.loop-at.at c.index.result.now inside)

pub fill_spec-requires : goal.fill_spec-requires
fill_spec-requires c =
    let orig = c.args.specs.now.items in
    let inside : c.loop-at.at < length orig = omega (arith, c.loop-at-test.true, c.len-at-end.ensures, c.args.specs.now.ok) in
    let e = at_front c.loop-at.specs.items orig c.loop-at.at c.index_mut.result.now c.index_mut.result.now inside c.loop-at.invariant.long c.loop-at.invariant.behind c.index_mut.ensures.value in
    let w = start_within 1 orig c.loop-at.at c.index_mut.result.now inside e in
    omega (arith, w, c.loop-at.invariant.start, c.requires.long)

pub overflow_add-start : goal.overflow_add-start
overflow_add-start c =
    let orig = c.args.specs.now.items in
    let inside : c.loop-at.at < length orig = omega (arith, c.loop-at-test.true, c.len-at-end.ensures, c.args.specs.now.ok) in
    let x : Spec = c.index.result.now in
    let e = at_front c.loop-at.specs.items orig c.loop-at.at x x inside c.loop-at.invariant.long c.loop-at.invariant.behind c.index.ensures in
    let ins = subst (λ (s : Spec). length s.ins ≤ 64) (sym e) (c.requires.few_ins c.loop-at.at x inside) in
    let outs = subst (λ (s : Spec). length s.outs ≤ 64) (sym e) (c.requires.few_outs c.loop-at.at x inside) in
    omega (arith, ins, outs, inside, c.requires.few, c.loop-at.invariant.small, c.part_count-count.ensures)

pub loop-at-preserved : goal.loop-at-preserved
loop-at-preserved c =
    let orig = c.args.specs.now.items in
    let now = c.loop-at.specs.items in
    let inside : c.loop-at.at < length orig = omega (arith, c.loop-at-test.true, c.len-at-end.ensures, c.args.specs.now.ok) in
    let x : Spec = c.index.result.now in
    let e = at_front now orig c.loop-at.at x x inside c.loop-at.invariant.long c.loop-at.invariant.behind c.index.ensures in
    let y : Spec = c.index_mut.result.now in
    let f = at_front now orig c.loop-at.at y y inside c.loop-at.invariant.long c.loop-at.invariant.behind c.index_mut.ensures.value in
    let ins = subst (λ (s : Spec). length s.ins ≤ 64) (sym e) (c.requires.few_ins c.loop-at.at x inside) in
    let outs = subst (λ (s : Spec). length s.outs ≤ 64) (sym e) (c.requires.few_outs c.loop-at.at x inside) in
    let more = start_more orig c.loop-at.at x inside e in
    let same : x ≡ y = same_spec orig c.loop-at.at x y inside e f in
    let count : c.loop-at.start + c.part_count-count.result ≡ c.loop-at.start + (3 * length y.ins + 3 * length y.outs) =
    ap (λ (n : ℕ). c.loop-at.start + n) (c.part_count-count.ensures ∙ ap (λ (s : Spec). 3 * length s.ins + 3 * length s.outs) same) in
    record {
      start = omega (arith, more, c.part_count-count.ensures, c.loop-at.invariant.start);
      small = omega (arith, ins, outs, c.part_count-count.ensures, c.loop-at.invariant.small);
      long = length-set now c.loop-at.at c.fill_spec.new.spec ∙ c.loop-at.invariant.long;
      behind = behind now _ orig c.loop-at.at c.fill_spec.new.spec c.loop-at.invariant.behind refl;
      filled = ap (λ (j : ℕ). take (c.loop-at.at + 1) (set now c.loop-at.at c.fill_spec.new.spec) ++ typed_specs c.args.values.now j (drop (c.loop-at.at + 1) orig)) count
          ∙ mutated c.args.values.now now _ orig (typed_specs c.args.values.now 0 orig) c.loop-at.at c.loop-at.start y c.fill_spec.new.spec inside c.loop-at.invariant.long f c.in_ok-fill_spec.ensures refl c.loop-at.invariant.filled;
    }
