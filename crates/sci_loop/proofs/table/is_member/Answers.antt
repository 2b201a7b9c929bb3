use Rattle.std.proofs.Common.{◌≡◌, true, Contains, subst, sym}
use Rattle.sci_loop.proofs.Places.{found_or_not}
use Rattle.sci_loop.proofs.table.is_member.Goals as goal

pub returns : goal.returns
returns c =
    subst (λ b. (b ≡ true → Contains c.args.members.now c.args.number) × (Contains c.args.members.now c.args.number → b ≡ true)) (sym c.is_ok.ensures.value)
    (found_or_not c.args.members.now c.args.number c.binary_search.result c.requires c.binary_search.ensures.position)
