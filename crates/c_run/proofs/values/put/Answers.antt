use Rattle.std.proofs.Common.{◌∙◌, ap, sym, map, Option, Some, ℕ, ℤ}
use Rattle.std.specs.Prelude.{slice_set}
use Rattle.std.proofs.lemmas.Int.{to_z-of_z}
use mir.Syntax.{w64}
use Rattle.c_ast.specs.View.{declared_of}
use Rattle.c_mean.specs.Meaning.{◌>>=◌}
use Rattle.c_run.specs.Spans.{cut}
use Rattle.c_run.proofs.Elements.{store_is}
use Rattle.c_run.proofs.values.put.Goals as goal

pub returns-in-None : goal.returns-in-None
returns-in-None c =
    let ds = map declared_of c.args.memory.now.decls.now in
    let cells = c.args.memory.now.cells.items in
    sym (store_is ds cells c.args.name c.args.index c.args.value ∙ ap (λ (o : Option ℕ). o >>= λ k. Some (cut ds (slice_set cells k c.args.value))) (sym c.place.ensures.value ∙ c.in-None.is))

pub returns-in-Some : goal.returns-in-Some
returns-in-Some c =
    let ds = map declared_of c.args.memory.now.decls.now in
    let cells = c.args.memory.now.cells.items in
    ap (λ (z : ℤ). Some (cut ds (slice_set cells c.in-Some.k z))) (to_z-of_z w64 c.args.value c.ranges.value)
    ∙ sym (store_is ds cells c.args.name c.args.index c.args.value ∙ ap (λ (o : Option ℕ). o >>= λ k. Some (cut ds (slice_set cells k c.args.value))) (sym c.place.ensures.value ∙ c.in-Some.is))
