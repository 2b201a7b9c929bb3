use Rattle.std.proofs.Common.{w64, ℤ, ap, ◌∙◌}
use Rattle.std.proofs.lemmas.Int.{to_z-of_z}
use Rattle.std.proofs.lemmas.Result.{on_ok_weaker}
use Rattle.c_ast.specs.View.{statements_of}
use Rattle.c_mean.specs.Texts.{number, joined}
use Rattle.sci_cgen_run.proofs.OutsetLemmas.{set_is, begun_none, begun_some, zero_bits, other_bits}
use Rattle.sci_cgen_run.proofs.outset_texts.push_begun.Goals as goal

pub returns-then-value-eq0 : goal.returns-then-value-eq0
returns-then-value-eq0 c =
    begun_none c.args.array c.args.at c.args.value (statements_of c.args.out.now.items) (zero_bits c.args.value c.ranges.value c.if-value-eq0.true)

pub returns-in_ok-number : goal.returns-in_ok-number
returns-in_ok-number c =
    on_ok_weaker c.push.result (λ e. e ∙ ap (joined (statements_of c.args.out.now.items)) (set_is _ _ _ _ c.cell.ensures
    (c.in_ok-number.ensures ∙ ap (λ (z : ℤ). number z) (to_z-of_z w64 c.args.value c.ranges.value))
    ∙ begun_some c.args.array c.args.at c.args.value (other_bits c.args.value c.if-value-eq0.false))) c.push.ensures
