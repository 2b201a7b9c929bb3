use Rattle.std.proofs.Common.{◌≡◌, ◌+◌, sym, subst, arith}
use Rattle.std.proofs.lemmas.List.{get_or_read}
use Rattle.sci_agenda.specs.Firing.{after_take, IsPort}
use Rattle.sci_agenda.specs.Chained.{Chain}
use Rattle.sci_agenda.proofs.ChainSteps.{seen, first_bound, first_view, take_view}
use Rattle.sci_agenda.proofs.chain.ChainAgendaAgenda.take.Goals as goal

pub index-date-requires : goal.index-date-requires
index-date-requires c =
    let b = first_bound c.self.inside.links _ c.self.inside.now c.self.inside.ports c.self.invariant c.in_ok-node.node (sym c.in_ok-node.ensures.first) in
    omega (arith, c.self.inside.dates.ok.0, c.self.invariant.dated)

pub overflow_add-result : goal.overflow_add-result
overflow_add-result c =
    let b = first_bound c.self.inside.links _ c.self.inside.now c.self.inside.ports c.self.invariant c.in_ok-node.node (sym c.in_ok-node.ensures.first) in
    omega arith

pub returns-clause-taken : goal.returns-clause-taken
returns-clause-taken c =
    let b = first_bound c.self.inside.links _ c.self.inside.now c.self.inside.ports c.self.invariant c.in_ok-node.node (sym c.in_ok-node.ensures.first) in
    let d = c.self.invariant.dated in
    rw (← c.self.view_is) (first_view c.self.inside.links _ c.self.inside.now c.self.inside.ports c.self.invariant c.in_ok-node.node c.index-date.result.now (sym c.in_ok-node.ensures.first)
    (get_or_read _ c.in_ok-node.node c.index-date.result.now (omega arith) c.index-date.ensures 0)).0

pub returns-clause-left : goal.returns-clause-left
returns-clause-left c =
    let b = first_bound c.self.inside.links _ c.self.inside.now c.self.inside.ports c.self.invariant c.in_ok-node.node (sym c.in_ok-node.ensures.first) in
    let d = c.self.invariant.dated in
    subst (λ (m : Chain). seen c.pop_front.new.self c.self.inside.dates.items c.index-date.result.now c.self.inside.ports ≡ after_take m.meaning) c.self.view_is (take_view c.self.inside.links _ c.self.inside.now c.self.inside.ports c.self.invariant c.in_ok-node.node c.index-date.result.now c.pop_front.new.self (sym c.in_ok-node.ensures.first)
    (get_or_read _ c.in_ok-node.node c.index-date.result.now (omega arith) c.index-date.ensures 0) c.in_ok-node.ensures.rest)

pub returns-clause-port : goal.returns-clause-port
returns-clause-port c =
    let b = first_bound c.self.inside.links _ c.self.inside.now c.self.inside.ports c.self.invariant c.in_ok-node.node (sym c.in_ok-node.ensures.first) in
    subst (λ (m : Chain). IsPort m.meaning (c.in_ok-node.node + 1)) c.self.view_is (record { least = omega arith; most = omega arith })
