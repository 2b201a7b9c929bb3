use Rattle.std.proofs.Common.{◌≡◌, ◌+◌, ◌-◌, ◌<◌, ℕ, List, cond, length, drop, get_or, refl, sym, ap, ◌∙◌, arith}
use Rattle.std.specs.Prelude.{bit_or}
use Rattle.std.proofs.lemmas.List.{at_drop_all, get_or_default}
use Rattle.sci_reaction.specs.Kept.{guard_of, guards_of}
use Rattle.sci_reaction.specs.declared.entry.Guard.{Guard}
use Rattle.sci_ranges_rows.specs.Marks.{dead_of, lets, acts_at}
use Rattle.sci_ranges_rows.specs.Tests.{fed_by}
use Rattle.sci_ranges_marks.specs.View.{marks_of}
use Rattle.sci_ranges_marks.proofs.Tested.{fed_more}
use Rattle.sci_ranges_marks.proofs.marks.RowMarks.fed_by.Goals as goal

pub loop-g-init : goal.loop-g-init
loop-g-init c = sym (at_drop_all (λ (gs : List Guard). fed_by (marks_of c.args.self.now) c.args.k (guards_of gs)) c.args.guards.now (length c.args.guards.now) (omega arith))

pub loop-g-preserved : goal.loop-g-preserved
loop-g-preserved c =
    let m = marks_of c.args.self.now in
    let gs = c.args.guards.now in
    let i = c.loop-g.g - 1 in
    let none : Guard = record { block = 0; port = 0; mask = 0 } in
    let g : Guard = get_or gs i none in
    let on = lets (dead_of m.dead) (acts_at m c.args.k) (guard_of g) in
    let one : c.loop-g.g ≡ i + 1 = let some = c.loop-g-test.true in omega (arith, some) in
    let within : i < length gs = let some = c.loop-g-test.true in let most = c.loop-g.auto.g in omega (arith, some, most) in
    let rest : c.loop-g.fed ≡ fed_by m c.args.k (guards_of (drop (i + 1) gs)) = c.loop-g.invariant ∙ ap (λ (j : ℕ). fed_by m c.args.k (guards_of (drop j gs))) one in
    c.fed_with-fed.ensures ∙ (ap (λ (x : ℕ). cond on (bit_or g.mask x) x) rest ∙ fed_more m c.args.k gs i g on within (get_or_default gs i none g within) refl)
