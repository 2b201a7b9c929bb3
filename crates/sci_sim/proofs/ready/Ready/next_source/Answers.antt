use Rattle.std.proofs.Common.{◌≡◌, sym, ap, subst, ◌∙◌, Some, true, arith}
use Rattle.sci_agenda.specs.Firing.{first, after_take}
use Rattle.sci_sim.specs.At.{Running}
use Rattle.sci_sim.specs.Reacting.{HasSetOut}
use Rattle.sci_sim.proofs.Fired.{start_fires, event_fires, first_waits, event_is}
use Rattle.sci_sim.proofs.ready.Ready.next_source.Goals as goal

pub returns-then-not-self-clause-fires : goal.returns-then-not-self-clause-fires
returns-then-not-self-clause-fires c until limit banks st from date source at fires =
    let r = c.args.self.now in
    let f = start_fires until limit r banks (sym (ap (λ (x : Running). x.started) c.self.view_is) ∙ c.if-not-self.true) at fires in
    let h : HasSetOut until r (record r { started = true }) banks date source from 0 = record { source_is = f.source_is; now = f.now; fired = f.fired; shown = f.shown; in_time = f.in_time } in
    subst (λ (v : Running). HasSetOut until r (record v { started = true }) banks date source from 0) (sym c.self.view_is) h

pub overflow_add-self : goal.overflow_add-self
overflow_add-self c =
    let r = c.args.self.now in
    let b = c.requires.before in
    let began : r.started ≡ true = sym (ap (λ (x : Running). x.started) c.self.view_is) ∙ c.if-not-self.false in
    let is : Some (c.in-Some.date, c.in-Some.source) ≡ first r.wheel.meaning.events = c.in-Some.ensures.taken ∙ ap (λ (x : Running). first x.wheel.meaning.events) c.self.view_is in
    let m = event_is b.0 b.1 r b.2 b.3 b.4 b.5 b.6 began b.7 b.8 c.in-Some.date c.in-Some.source is in
    let offset = ap (λ (x : Running). x.offset) c.self.view_is in
    grind (arith, m.date_is, m.soon, b.9, offset)

pub overflow_add-self-in-Some : goal.overflow_add-self-in-Some
overflow_add-self-in-Some c =
    let r = c.args.self.now in
    let b = c.requires.before in
    let began : r.started ≡ true = sym (ap (λ (x : Running). x.started) c.self.view_is) ∙ c.if-not-self.false in
    let is : Some (c.in-Some.date, c.in-Some.source) ≡ first r.wheel.meaning.events = c.in-Some.ensures.taken ∙ ap (λ (x : Running). first x.wheel.meaning.events) c.self.view_is in
    let m = event_is b.0 b.1 r b.2 b.3 b.4 b.5 b.6 began b.7 b.8 c.in-Some.date c.in-Some.source is in
    let fired = ap (λ (x : Running). x.fired) c.self.view_is in
    grind (arith, m.few, b.10, fired)

pub unreachable-requires : goal.unreachable-requires
unreachable-requires c =
    let r = c.args.self.now in
    let b = c.requires.before in
    let began : r.started ≡ true = sym (ap (λ (x : Running). x.started) c.self.view_is) ∙ c.if-not-self.false in
    first_waits b.0 b.1 r b.2 b.3 b.4 b.5 b.6 began b.7 b.8 (sym (c.in-None.ensures.taken ∙ ap (λ (x : Running). first x.wheel.meaning.events) c.self.view_is))

pub returns-clause-fires : goal.returns-clause-fires
returns-clause-fires c until limit banks st from date source at fires =
    let r = c.args.self.now in
    let began : r.started ≡ true = sym (ap (λ (x : Running). x.started) c.self.view_is) ∙ c.if-not-self.false in
    let is : Some (c.in-Some.date, c.in-Some.source) ≡ first r.wheel.meaning.events = c.in-Some.ensures.taken ∙ ap (λ (x : Running). first x.wheel.meaning.events) c.self.view_is in
    let left = c.in-Some.ensures.left ∙ ap (λ (x : Running). after_take x.wheel.meaning) c.self.view_is in
    let puts = c.in-Some.ensures.counted ∙ ap (λ (x : Running). x.wheel.puts) c.self.view_is in
    event_fires until limit r banks st from date source began at fires c.in-Some.date c.in-Some.source _ c.take.new.self c.self.view_is is left puts
