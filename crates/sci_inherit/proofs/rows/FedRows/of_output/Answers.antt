use Rattle.std.proofs.Common.{◌<◌, length, ◌∙◌, sym, ap, arith, Vec}
use Rattle.std.specs.declared.alloc.Global.{Global}
use Rattle.std.proofs.lemmas.List.{length-map}
use Rattle.sci_loop.specs.Lists.{plain}
use Rattle.sci_inherit.specs.declared.Fed.{Fed}
use Rattle.sci_inherit.proofs.Filling.{rows_at, row_is_at}
use Rattle.sci_inherit.proofs.rows.FedRows.of_output.Goals as goal

pub returns : goal.returns
returns c =
    let q = c.args.feed in
    let vs = c.args.self.now.fed.items in
    let v = c.index.result.now in
    let long = length-map vs (λ (u : Vec (Vec Fed Global) Global). plain u.items) in
    let inside : q.block < length vs = omega (arith, c.requires.block, long) in
    let same = ap length (rows_at vs q.block v inside c.index.ensures) ∙ length-map v.items (λ (u : Vec Fed Global). u.items) in
    c.as_slice.ensures.value ∙ sym (row_is_at vs q.block q.port v c.index-2.result.now inside c.index.ensures (omega (arith, c.requires.port, same)) c.index-2.ensures)
