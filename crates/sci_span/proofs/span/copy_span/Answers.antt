use Rattle.std.proofs.Common.{rules, ◌<◌, ◌+◌, ◌∙◌, ap, arith, length, get_or, set, ℤ, List, pos, w64, FitsSigned}
use Rattle.std.proofs.lemmas.Int.{to_z-of_z}
use Rattle.sci_span.proofs.Copying.{paste_next, paste_one}
use Rattle.sci_span.proofs.span.copy_span.Goals as goal

pub loop-e-preserved : goal.loop-e-preserved
loop-e-preserved c =
    let e = c.loop-e.e in
    let from = c.args.span.start in
    let values = c.args.values.now in
    let fits : FitsSigned w64 (get_or values (from + e) (pos 0)) = search rules in
    let to : c.args.at + e < length c.args.ins.now = omega arith in
    let within : from + e < length values = omega arith in
    ap (λ (v : ℤ). set c.loop-e.ins (c.args.at + e) v) (to_z-of_z w64 (get_or values (from + e) (pos 0)) fits)
    ∙ (ap (λ (ins : List ℤ). set ins (c.args.at + e) (get_or values (from + e) (pos 0))) c.loop-e.invariant
    ∙ paste_next values c.args.ins.now from c.args.at e (pos 0) to within)

pub returns-then-span-eq1 : goal.returns-then-span-eq1
returns-then-span-eq1 c =
    let from = c.args.span.start in
    let values = c.args.values.now in
    let fits : FitsSigned w64 (get_or values from (pos 0)) = search rules in
    let to : c.args.at < length c.args.ins.now = omega arith in
    let within : from < length values = omega arith in
    ap (λ (v : ℤ). set c.args.ins.now c.args.at v) (to_z-of_z w64 (get_or values from (pos 0)) fits)
    ∙ paste_one values c.args.ins.now from c.args.at c.args.span.len (pos 0) (search rules) to within
