use Rattle.std.proofs.Common.{◌≡◌, ◌≤◌, ◌+◌, ℕ, true, List, sym, ◌∙◌, ap, subst, arith, refl}
use Rattle.std.proofs.lemmas.List.{get_or_read}
use Rattle.sci_links.specs.Table.{chain, has}
use Rattle.sci_agenda.specs.Firing.{Meaning, first, after_take, IsPort}
use Rattle.sci_agenda.specs.Chained.{date_at}
use Rattle.sci_agenda.specs.Wheel.{Wheel, IsLeast, Turned, in_order}
use Rattle.sci_agenda.proofs.Takes.{nothing_waits, least_node, least_from, least_all, take_some, take_wheel, take_events, take_bound, taken_view}
use Rattle.sci_agenda.proofs.wheel.WheelAgendaAgenda.take.Goals as goal
use Rattle.sci_agenda.proofs.wheel.WheelAgendaAgenda.take.Goals.{In_ok-node, After-index-date}

is_least : (c : In_ok-node) → IsLeast c.self.inside.links c.self.inside.dates.items c.in_ok-node.node
is_least c = subst (λ (l : List ℕ). IsLeast c.self.inside.links l c.in_ok-node.node) c.deref.ensures.value c.in_ok-node.ensures.some

pub index-date-requires : goal.index-date-requires
index-date-requires c =
    let l = subst (λ (l : List ℕ). IsLeast c.self.inside.links l c.in_ok-node.node) c.deref.ensures.value c.in_ok-node.ensures.some in
    let b = least_node _ _ _ _ _ c.in_ok-node.node _ c.self.invariant l refl in
    omega (arith, c.self.inside.dates.ok.0, c.self.invariant.dated)

pub turn-requires-clause-from : goal.turn-requires-clause-from
turn-requires-clause-from c =
    let l = subst (λ (l : List ℕ). IsLeast c.self.inside.links l c.in_ok-node.node) c.deref.ensures.value c.in_ok-node.ensures.some in
    let b = least_node _ _ _ _ _ c.in_ok-node.node _ c.self.invariant l refl in
    let d = c.self.invariant.dated in
    least_from _ _ _ _ _ c.in_ok-node.node c.index-date.result.now c.self.invariant l (get_or_read c.self.inside.dates.items c.in_ok-node.node c.index-date.result.now (omega arith) c.index-date.ensures 0)

pub turn-requires-clause-least : goal.turn-requires-clause-least
turn-requires-clause-least c =
    let l = subst (λ (l : List ℕ). IsLeast c.self.inside.links l c.in_ok-node.node) c.deref.ensures.value c.in_ok-node.ensures.some in
    let b = least_node _ _ _ _ _ c.in_ok-node.node _ c.self.invariant l refl in
    let d = c.self.invariant.dated in
    let v = get_or_read c.self.inside.dates.items c.in_ok-node.node c.index-date.result.now (omega arith) c.index-date.ensures 0 in
    subst (λ (e : List ℕ). (i x : ℕ) → has x (chain c.self.inside.links i) ≡ true → c.index-date.result.now ≤ date_at e x) (sym c.deref-2.ensures.value)
    (least_all _ _ _ _ _ c.in_ok-node.node c.index-date.result.now c.self.invariant l v)

pub returns-in_err-node-clause-taken : goal.returns-in_err-node-clause-taken
returns-in_err-node-clause-taken c =
    let e = nothing_waits c.self.inside.links c.self.inside.dates.items c.self.invariant.table (c.in_err-node.ensures.none refl) in
    rw (← c.self.view_is) (c.from_residual.ensures ∙ sym (ap first e))

pub returns-in_err-node-clause-left : goal.returns-in_err-node-clause-left
returns-in_err-node-clause-left c =
    let e = nothing_waits c.self.inside.links c.self.inside.dates.items c.self.invariant.table (c.in_err-node.ensures.none refl) in
    subst (λ (w : Wheel). w.meaning ≡ after_take w.meaning) c.self.view_is
    (ap (λ (l : List (ℕ × ℕ)). let m : Meaning = record { events = l; now = c.self.inside.now; ports = c.self.inside.ports } in m) e
    ∙ sym (ap (λ (l : List (ℕ × ℕ)). after_take (record { events = l; now = c.self.inside.now; ports = c.self.inside.ports })) e))

date_is : (c : After-index-date) → c.index-date.result.now ≡ date_at c.self.inside.dates.items c.in_ok-node.node
date_is c =
    let l = subst (λ (l : List ℕ). IsLeast c.self.inside.links l c.in_ok-node.node) c.deref.ensures.value c.in_ok-node.ensures.some in
    let b = least_node _ _ _ _ _ c.in_ok-node.node _ c.self.invariant l refl in
    let d = c.self.invariant.dated in
    get_or_read c.self.inside.dates.items c.in_ok-node.node c.index-date.result.now (omega arith) c.index-date.ensures 0

pub invariant_of-self : goal.invariant_of-self
invariant_of-self c =
    let l = subst (λ (l : List ℕ). IsLeast c.self.inside.links l c.in_ok-node.node) c.deref.ensures.value c.in_ok-node.ensures.some in
    let v = date_is (goal.at.invariant_of-self c).After-index-date in
    let m = subst (λ (e : List ℕ). Turned c.self.inside.links c.turn.new.links e c.index-date.result.now) c.deref-2.ensures.value c.turn.ensures in
    absurd (take_some c.self.inside.links c.self.inside.dates.items c.self.inside.now c.self.inside.ports c.self.inside.puts c.in_ok-node.node c.index-date.result.now c.self.invariant l v c.turn.new.links c.pop_front.new.self m c.pop_front.ensures.rest c.pop_front.ensures.table (sym c.in_err-first.ensures.first))

pub returns-in_err-first-clause-taken : goal.returns-in_err-first-clause-taken
returns-in_err-first-clause-taken c =
    let l = subst (λ (l : List ℕ). IsLeast c.self.inside.links l c.in_ok-node.node) c.deref.ensures.value c.in_ok-node.ensures.some in
    let v = date_is (goal.at.returns-in_err-first-clause-taken c).After-index-date in
    let m = subst (λ (e : List ℕ). Turned c.self.inside.links c.turn.new.links e c.index-date.result.now) c.deref-2.ensures.value c.turn.ensures in
    absurd (take_some c.self.inside.links c.self.inside.dates.items c.self.inside.now c.self.inside.ports c.self.inside.puts c.in_ok-node.node c.index-date.result.now c.self.invariant l v c.turn.new.links c.pop_front.new.self m c.pop_front.ensures.rest c.pop_front.ensures.table (sym c.in_err-first.ensures.first))

pub returns-in_err-first-clause-left : goal.returns-in_err-first-clause-left
returns-in_err-first-clause-left c =
    let l = subst (λ (l : List ℕ). IsLeast c.self.inside.links l c.in_ok-node.node) c.deref.ensures.value c.in_ok-node.ensures.some in
    let v = date_is (goal.at.returns-in_err-first-clause-left c).After-index-date in
    let m = subst (λ (e : List ℕ). Turned c.self.inside.links c.turn.new.links e c.index-date.result.now) c.deref-2.ensures.value c.turn.ensures in
    absurd (take_some c.self.inside.links c.self.inside.dates.items c.self.inside.now c.self.inside.ports c.self.inside.puts c.in_ok-node.node c.index-date.result.now c.self.invariant l v c.turn.new.links c.pop_front.new.self m c.pop_front.ensures.rest c.pop_front.ensures.table (sym c.in_err-first.ensures.first))

pub overflow_add-result : goal.overflow_add-result
overflow_add-result c =
    let l = subst (λ (l : List ℕ). IsLeast c.self.inside.links l c.in_ok-node.node) c.deref.ensures.value c.in_ok-node.ensures.some in
    let v = date_is (goal.at.overflow_add-result c).After-index-date in
    let m = subst (λ (e : List ℕ). Turned c.self.inside.links c.turn.new.links e c.index-date.result.now) c.deref-2.ensures.value c.turn.ensures in
    let b = take_bound c.self.inside.links c.self.inside.dates.items c.self.inside.now c.self.inside.ports c.self.inside.puts c.in_ok-node.node c.index-date.result.now c.self.invariant l v c.turn.new.links c.pop_front.new.self m c.pop_front.ensures.rest c.pop_front.ensures.table c.in_ok-first.first (sym c.in_ok-first.ensures.first) in omega arith

pub invariant_of-self-2 : goal.invariant_of-self-2
invariant_of-self-2 c =
    let l = subst (λ (l : List ℕ). IsLeast c.self.inside.links l c.in_ok-node.node) c.deref.ensures.value c.in_ok-node.ensures.some in
    let v = date_is (goal.at.invariant_of-self-2 c).After-index-date in
    let m = subst (λ (e : List ℕ). Turned c.self.inside.links c.turn.new.links e c.index-date.result.now) c.deref-2.ensures.value c.turn.ensures in
    take_wheel c.self.inside.links c.self.inside.dates.items c.self.inside.now c.self.inside.ports c.self.inside.puts c.in_ok-node.node c.index-date.result.now c.self.invariant l v c.turn.new.links c.pop_front.new.self m c.pop_front.ensures.rest c.pop_front.ensures.table c.in_ok-first.first (sym c.in_ok-first.ensures.first)

pub returns-clause-taken : goal.returns-clause-taken
returns-clause-taken c =
    let l = subst (λ (l : List ℕ). IsLeast c.self.inside.links l c.in_ok-node.node) c.deref.ensures.value c.in_ok-node.ensures.some in
    let v = date_is (goal.at.returns-clause-taken c).After-index-date in
    let m = subst (λ (e : List ℕ). Turned c.self.inside.links c.turn.new.links e c.index-date.result.now) c.deref-2.ensures.value c.turn.ensures in
    let e = take_events c.self.inside.links c.self.inside.dates.items c.self.inside.now c.self.inside.ports c.self.inside.puts c.in_ok-node.node c.index-date.result.now c.self.invariant l v c.turn.new.links c.pop_front.new.self m c.pop_front.ensures.rest c.pop_front.ensures.table c.in_ok-first.first (sym c.in_ok-first.ensures.first) in
    rw (← c.self.view_is) (taken_view _ _ c.index-date.result.now c.in_ok-first.first c.self.inside.now c.self.inside.ports e).0

pub returns-clause-left : goal.returns-clause-left
returns-clause-left c =
    let l = subst (λ (l : List ℕ). IsLeast c.self.inside.links l c.in_ok-node.node) c.deref.ensures.value c.in_ok-node.ensures.some in
    let v = date_is (goal.at.returns-clause-left c).After-index-date in
    let m = subst (λ (e : List ℕ). Turned c.self.inside.links c.turn.new.links e c.index-date.result.now) c.deref-2.ensures.value c.turn.ensures in
    let e = take_events c.self.inside.links c.self.inside.dates.items c.self.inside.now c.self.inside.ports c.self.inside.puts c.in_ok-node.node c.index-date.result.now c.self.invariant l v c.turn.new.links c.pop_front.new.self m c.pop_front.ensures.rest c.pop_front.ensures.table c.in_ok-first.first (sym c.in_ok-first.ensures.first) in
    subst (λ (w : Wheel). (let n : Meaning = record { events = in_order c.self.inside.dates.items c.pop_front.new.self.lists; now = c.index-date.result.now; ports = c.self.inside.ports } in n) ≡ after_take w.meaning) c.self.view_is
    (taken_view _ _ c.index-date.result.now c.in_ok-first.first c.self.inside.now c.self.inside.ports e).1

pub returns-clause-port : goal.returns-clause-port
returns-clause-port c =
    let l = subst (λ (l : List ℕ). IsLeast c.self.inside.links l c.in_ok-node.node) c.deref.ensures.value c.in_ok-node.ensures.some in
    let v = date_is (goal.at.returns-clause-port c).After-index-date in
    let m = subst (λ (e : List ℕ). Turned c.self.inside.links c.turn.new.links e c.index-date.result.now) c.deref-2.ensures.value c.turn.ensures in
    let b = take_bound c.self.inside.links c.self.inside.dates.items c.self.inside.now c.self.inside.ports c.self.inside.puts c.in_ok-node.node c.index-date.result.now c.self.invariant l v c.turn.new.links c.pop_front.new.self m c.pop_front.ensures.rest c.pop_front.ensures.table c.in_ok-first.first (sym c.in_ok-first.ensures.first) in
    subst (λ (w : Wheel). IsPort w.meaning (c.in_ok-first.first + 1)) c.self.view_is (record { least = omega arith; most = omega arith })
