use Rattle.std.proofs.Common.{◌≡◌, ◌<◌, ℕ, length, Option, Some, sym, ◌∙◌, ap, subst, arith}
use Rattle.sci_links.specs.Table.{chain, chain_of, behind}
use Rattle.sci_agenda.specs.Chained.{from}
use Rattle.sci_agenda.proofs.Chains.{step_smaller}
use Rattle.sci_agenda.proofs.Least.{IsBest, best_more}
use Rattle.sci_agenda.proofs.wheel.least_in.Goals as goal
use Rattle.sci_agenda.proofs.wheel.least_in.Goals.{After-next-at}

pub nearer-best-requires-clause-node : goal.nearer-best-requires-clause-node
nearer-best-requires-clause-node c =
    let h = c.loop-at.invariant.stands c.in-Some.node c.in-Some.is in
    let b = (c.requires.table.holds c.args.list c.in-Some.node h).1 in omega arith

next_is : (c : After-next-at) → c.next-at.result ≡ behind c.in-Some.node (chain c.args.links.now c.args.list)
next_is c =
    let h = c.loop-at.invariant.stands c.in-Some.node c.in-Some.is in
    c.next-at.ensures ∙ ap (λ (o : Option ℕ). behind c.in-Some.node (chain_of c.args.links.now o)) (c.requires.table.holds c.args.list c.in-Some.node h).0

pub loop-at-smaller : goal.loop-at-smaller
loop-at-smaller c =
    let xs = chain c.args.links.now c.args.list in
    let h = c.loop-at.invariant.stands c.in-Some.node c.in-Some.is in
    subst (λ (o : Option ℕ). length (from c.next-at.result xs) < length (from o xs)) (sym c.in-Some.is)
    (subst (λ (o : Option ℕ). length (from o xs) < length (from (Some c.in-Some.node) xs)) (sym (next_is c))
    (step_smaller c.in-Some.node xs (c.requires.table.distinct c.args.list) h))

pub loop-at-preserved : goal.loop-at-preserved
loop-at-preserved c =
    let xs = chain c.args.links.now c.args.list in
    let ds = c.args.dates.now in
    let here = subst (λ (o : Option ℕ). IsBest ds xs o c.loop-at.best) c.in-Some.is c.loop-at.invariant in
    subst (λ (o : Option ℕ). IsBest ds xs o c.nearer-best.result) (sym (next_is c))
    (best_more ds xs c.in-Some.node c.loop-at.best c.nearer-best.result (c.requires.table.distinct c.args.list) here c.nearer-best.ensures.node c.nearer-best.ensures.best c.nearer-best.ensures.chosen)
