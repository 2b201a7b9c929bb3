use Rattle.std.proofs.Common.{ℕ, List, sym, subst}
use Rattle.std.specs.Prelude.{All}
use Rattle.sci_loop.specs.Lists.{plain}
use Rattle.sci_net.specs.Parts.{IsBlock}
use Rattle.sci_dep.specs.Building.{AreNeeds}
use Rattle.sci_dep.proofs.Tabled.{members_blocks, table_is}
use Rattle.sci_dep.proofs.table.made.Goals as goal

pub needs-requires-clause-blocks : goal.needs-requires-clause-blocks
needs-requires-clause-blocks c =
    let n = c.args.net.now in
    subst (All (IsBlock n)) (sym c.deref.ensures.value)
    (members_blocks n c.args.walk.now.found c.in_ok-members.members.items c.requires.blocks c.in_ok-members.ensures.exactly)

pub returns : goal.returns
returns c =
    let n = c.args.net.now in
    let found = c.args.walk.now.found in
    λ s possible. table_is n s c.args.waits.now found (record { members = c.in_ok-members.members; needs = c.in_ok-needs.needs }) c.requires.waits possible
    c.in_ok-members.ensures.rising c.in_ok-members.ensures.exactly
    (subst (λ (l : List ℕ). AreNeeds c.args.waits.now found l (plain c.in_ok-needs.needs.items)) c.deref.ensures.value c.in_ok-needs.ensures)
