use Rattle.std.proofs.Common.{◌≡◌, ◌∙◌, sym, w64, to_z, of_z, arith}
use Rattle.std.specs.List.{list_any}
use Rattle.std.proofs.lemmas.Int.{to_z-of_z}
use Rattle.std.proofs.lemmas.Bool.{not-true}
use Rattle.sci_blocks.specs.Wiring.{is_at}
use Rattle.sci_blocks.proofs.Feeding.{once_ok}
use Rattle.sci_blocks.proofs.link.once_fed.Goals as goal

pub returns-then-branch-clause-ok : goal.returns-then-branch-clause-ok
returns-then-branch-clause-ok c = λ ends h.
    let block : to_z w64 (of_z w64 c.args.to.now.block) ≡ c.args.to.now.block = grind (arith, to_z-of_z) in
    let port : to_z w64 (of_z w64 c.args.to.now.port) ≡ c.args.to.now.port = grind (arith, to_z-of_z) in
    let fresh = rw (block, port) at (c.in_ok-insert-in-Regular.ensures.fresh ends h) in
    let none = not-true (list_any (is_at c.args.to.now.block c.args.to.now.port) ends) (sym fresh ∙ c.if-branch.true) in
    rw c.in-Regular.is (once_ok c.args.here.now ends c.args.to.now none)
