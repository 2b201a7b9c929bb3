use Rattle.std.proofs.Common.{◌∙◌, length, get_or, ap, arith}
use Rattle.std.proofs.lemmas.List.Elements.{Contains-get_or}
use Rattle.sci_store.specs.Store.{Standing}
use Rattle.sci_store.proofs.store.Store.clear.Goals as goal

pub clear-requires : goal.clear-requires
clear-requires c = λ k d h.
    let block = c.requires.blocks.blocks (get_or c.args.blocks.now k d) (Contains-get_or c.args.blocks.now k d h) in
    let long = ap length c.deref_mut.ensures.value ∙ ap (λ (s : Standing). length s.marks) c.self.view_is in
    (block.least, omega (arith, block.most, long, c.requires.store.marks))
