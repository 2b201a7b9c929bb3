use Rattle.std.proofs.Common.{◌≡◌, ◌∙◌, ap, not, w64, to_z, of_z, arith}
use Rattle.std.proofs.lemmas.Int.{to_z-of_z}
use Rattle.sci_blocks.proofs.Feeding.{fed_more}
use Rattle.sci_blocks.proofs.fed.FedInputs.insert.Goals as goal

pub returns-clause-fresh : goal.returns-clause-fresh
returns-clause-fresh c = λ ends h.
    let block : to_z w64 (of_z w64 c.args.block) ≡ c.args.block = grind (arith, to_z-of_z) in
    let port : to_z w64 (of_z w64 c.args.port) ≡ c.args.port = grind (arith, to_z-of_z) in
    (rw (block, port) at c.in_ok-fresh.ensures.added) ∙ ap not (h c.args.block c.args.port)

pub returns-clause-more : goal.returns-clause-more
returns-clause-more c = λ ends to at_block at_port h b p.
    let block : to_z w64 (of_z w64 c.args.block) ≡ c.args.block = grind (arith, to_z-of_z) in
    let port : to_z w64 (of_z w64 c.args.port) ≡ c.args.port = grind (arith, to_z-of_z) in
    (rw (block, port) at (c.in_ok-fresh.ensures.updates.0 (b, p))) ∙ fed_more c.args.block c.args.port to ends b p _ at_block at_port (h b p)
