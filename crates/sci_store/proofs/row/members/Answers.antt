use Rattle.std.proofs.Common.{List, map, ap, subst, ◌∙◌, arith}
use Rattle.std.specs.List.Sorted.{IsPermutation}
use Rattle.std.proofs.lemmas.List.{take_all}
use Rattle.sci_store.specs.declared.row.Member.{Member}
use Rattle.sci_store.proofs.Membering.{member_of, by_number_all, guarded_all}
use Rattle.sci_store.proofs.row.members.Goals as goal
use Rattle.sci_store.proofs.row.members.Goals.{After-sort_unstable}

moved : (c : After-sort_unstable) → IsPermutation (map member_of c.args.entries.now) c.sort_unstable.new.self.items
moved c = subst (λ (ms : List Member). IsPermutation ms c.sort_unstable.new.self.items)
    (c.loop-entry.invariant ∙ ap (map member_of) (take_all c.loop-entry.entry-index c.args.entries.now (omega arith))) c.sort_unstable.ensures.permutation

pub returns-clause-blocks : goal.returns-clause-blocks
returns-clause-blocks c = by_number_all c.args.entries.now c.sort_unstable.new.self.items c.requires (moved (goal.at.returns-clause-blocks c).After-sort_unstable) c.sort_unstable.ensures.sorted

pub returns-clause-guarded : goal.returns-clause-guarded
returns-clause-guarded c = guarded_all c.args.entries.now c.sort_unstable.new.self.items c.requires (moved (goal.at.returns-clause-guarded c).After-sort_unstable) c.sort_unstable.ensures.sorted
