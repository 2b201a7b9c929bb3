use Rattle.std.proofs.Common.{◌≡◌, ◌+◌, ℕ, List, sym, ◌∙◌, subst, ap, arith}
use Rattle.sci_links.specs.Table.{Table, IsTable, chain, changed}
use Rattle.sci_links.proofs.TestLemmas.{put_before-absent}
use Rattle.sci_links.proofs.Arrays.{is_table, past_absent}
use Rattle.sci_links.proofs.Links.push_back.Goals as goal

pub returns-clause-changed : goal.returns-clause-changed
returns-clause-changed c =
    let t : _ = is_table _ _ _ _ _ c.put.inside.work c.put.invariant in
    let s : IsTable c.args.self.now = subst IsTable c.put.view_is t in
    let n : c.args.self.now.nodes ≡ c.put.inside.nodes = ap (λ (t : Table). t.nodes) (sym c.put.view_is) in
    c.put-2.ensures.changed ∙ ap (λ (l : List ℕ). changed c.args.self.now c.args.list l)
    (put_before-absent (c.put.inside.nodes + c.args.list) c.args.node (chain c.args.self.now c.args.list)
    (past_absent c.args.self.now s c.args.list (c.put.inside.nodes + c.args.list) (omega arith)))
