use Rattle.std.proofs.Common.{◌∙◌, rules, Some, ap, sym, map, Option, ℕ}
use Rattle.std.specs.Prelude.{slice_get}
use Rattle.std.proofs.lemmas.Int.{to_z-of_z}
use mir.Val.{SFits}
use mir.Syntax.{w64}
use Rattle.c_ast.specs.View.{declared_of}
use Rattle.c_mean.specs.Meaning.{◌>>=◌}
use Rattle.c_run.proofs.Elements.{lookup_is, get_here}
use Rattle.c_run.proofs.values.look.Goals as goal

pub returns-in-None : goal.returns-in-None
returns-in-None c =
    let cells = c.args.memory.now.cells.items in
    sym (lookup_is (map declared_of c.args.memory.now.decls.now) cells c.args.name c.args.index ∙ ap (λ (o : Option ℕ). o >>= slice_get cells) (sym c.place.ensures.value ∙ c.in-None.is))

pub returns-in-Some : goal.returns-in-Some
returns-in-Some c =
    let cells = c.args.memory.now.cells.items in
    let fits : SFits w64 c.index.result.now = search rules in
    ap Some (to_z-of_z w64 c.index.result.now fits ∙ c.index.ensures)
    ∙ get_here cells c.in-Some.k c.index.result.now c.in-Some.ensures.within
    ∙ sym (lookup_is (map declared_of c.args.memory.now.decls.now) cells c.args.name c.args.index ∙ ap (λ (o : Option ℕ). o >>= slice_get cells) (sym c.place.ensures.value ∙ c.in-Some.is))
