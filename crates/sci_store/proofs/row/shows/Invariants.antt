use Rattle.std.proofs.Common.{◌≡◌, ◌↔◌, ℕ, true, List, [], All, Contains, map, drop}
use Rattle.sci_store.specs.declared.row.Member.{Member}
use Rattle.sci_store.specs.Rows.{shows_from}
use Rattle.sci_store.proofs.row.shows.Given as goal

-- with the blocks that are still to come they are all
abbrev pub invariant-loop-member : goal.invariant-loop-member
invariant-loop-member l = (guarded : List ℕ) → All (λ (m : Member). (m.guarded ≡ true) ↔ Contains guarded m.block) l.members
    → shows_from l.frame guarded l.shows.items (map (λ (m : Member). m.block) (drop l.member-index l.members))
    ≡ shows_from l.frame guarded [] (map (λ (m : Member). m.block) l.members)
