use Rattle.std.proofs.Common.{arith, ap, length, ◌≡◌, List, ℤ, None, map, take, ◌∙◌}
use Rattle.std.proofs.lemmas.List.{length-replicate}
use Rattle.c_ast.specs.declared.Decl.{Decl}
use Rattle.c_ast.specs.View.{declared_of}
use Rattle.c_run.proofs.Elements.{total, laid_span, laid_cells, laid_out}
use Rattle.c_run.proofs.start.memory_of.Goals as goal

pub loop-decl-preserved : goal.loop-decl-preserved
loop-decl-preserved c =
    let d : Decl = record { name = record { letter = 0; number = 0 }; size = None } in
    let long : c.len-first.result ≡ length c.loop-decl.cells.items = omega (arith, c.loop-decl.cells.ok.0) in
    let filled : c.len-first.result ≡ total (map declared_of (take c.loop-decl.decl-index c.args.decls.now)) = long ∙ ap (λ (l : List ℤ). length l) c.loop-decl.invariant.1 ∙ length-replicate _ _ in (
      λ q. laid_span c.args.decls.now c.loop-decl.decl-index d (omega arith) q c.len-first.result c.elements-size.result _ _ filled c.elements-size.ensures.value (c.loop-decl.invariant.0 q) (c.in_ok-enter.ensures.entered q),
      laid_cells c.args.decls.now c.loop-decl.decl-index d (omega arith) c.len-first.result c.elements-size.result c.loop-decl.cells.items c.resize.new.self.items c.loop-decl.invariant.1 long c.elements-size.ensures.value (rw (← c.len-first.ensures) at c.in_ok-resize.ensures.items),
    )

pub returns : goal.returns
returns c = laid_out c.args.decls.now c.loop-decl.decl-index c.loop-decl.cells.items c.loop-decl-test.false c.loop-decl.invariant.1
