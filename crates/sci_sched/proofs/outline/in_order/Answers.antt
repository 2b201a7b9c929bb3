use Rattle.std.proofs.Common.{ℕ, ◌<◌, ◌↔◌, length, List, map, get_or, ◌≡◌, Contains, All, ap, subst, subst₂, sym, ◌∙◌, arith}
use Rattle.sci_loop.specs.Depth.{IsDepth}
use Rattle.sci_loop.specs.Table.{Needs}
use Rattle.sci_sched.proofs.Outlining.{ranked_members, members_below, depths_are}
use Rattle.sci_sched.proofs.outline.in_order.Goals as goal

pub depths_of-requires : goal.depths_of-requires
depths_of-requires c =
    let t = c.args.table.now in let bs = c.in_ok-blocks.blocks.items in
    let exactly = subst (λ (xs : List ℕ). (b : ℕ) → Contains bs b ↔ Contains xs b) c.deref.ensures.value c.in_ok-blocks.ensures.exactly in
    let long : length c.set_depths.new.depths ≡ length c.args.depths.now = omega arith in
    let below = members_below (length c.args.depths.now) t.members.items bs (λ b h. (exactly b).0 h) c.requires.below in
    subst₂ (λ (size : ℕ) (xs : List ℕ). All (λ b. b < size) xs) (sym long) (sym c.deref-2.ensures.value) below

pub returns-clause-exactly : goal.returns-clause-exactly
returns-clause-exactly c = subst (λ (xs : List ℕ). (b : ℕ) → Contains c.in_ok-blocks.blocks.items b ↔ Contains xs b) c.deref.ensures.value c.in_ok-blocks.ensures.exactly

pub returns-clause-ordered : goal.returns-clause-ordered
returns-clause-ordered c =
    let t = c.args.table.now in let bs = c.in_ok-blocks.blocks.items in
    let exactly = subst (λ (xs : List ℕ). (b : ℕ) → Contains bs b ↔ Contains xs b) c.deref.ensures.value c.in_ok-blocks.ensures.exactly in
    ranked_members t c.set_depths.new.depths bs c.set_depths.ensures (λ b h. (exactly b).0 h) c.in_ok-blocks.ensures.ordered

pub returns-clause-depths : goal.returns-clause-depths
returns-clause-depths c =
    let t = c.args.table.now in let bs = c.in_ok-blocks.blocks.items in
    let exactly = subst (λ (xs : List ℕ). (b : ℕ) → Contains bs b ↔ Contains xs b) c.deref.ensures.value c.in_ok-blocks.ensures.exactly in
    depths_are (IsDepth (Needs t)) c.set_depths.new.depths bs c.in_ok-depths.depths.items (λ b h. c.set_depths.ensures b ((exactly b).0 h))
    (c.in_ok-depths.ensures ∙ ap (λ (xs : List ℕ). map (λ b. get_or c.set_depths.new.depths b 0) xs) c.deref-2.ensures.value)
