use Rattle.std.proofs.Common.{◌≡◌, ◌<◌, ◌≤◌, ◌+◌, ◌-◌, List, false, ap, sym, ◌∙◌, arith}
use Rattle.sci_run.specs.Activity.{halts}
use Rattle.sci_run.specs.Run.{State, in_time, comes_next}
use Rattle.sci_pending.specs.Pending.{next}
use Rattle.sci_agenda.specs.Firing.{first_date}
use Rattle.sci_bank.specs.Bank.{Meaning}
use Rattle.sci_sim.specs.At.{Running, IsAt}
use Rattle.sci_sim.specs.Steps.{end_due}
use Rattle.sci_sim.proofs.Programs.{end_by_date, end_empty, end_late, end_fires, date_near}
use Rattle.sci_sim.proofs.ready.Ready.due_end.Goals.{After-next_date}
use Rattle.sci_sim.proofs.ready.Ready.due_end.Goals as goal

-- no HALT_f was active, and an event may fire
by_date : (c : After-next_date) (banks : List Meaning) (st : State) → IsAt c.args.self.now banks st
    → comes_next c.args.self.now.fixed.net c.args.until (c.args.limit - st.fired) st ≡ in_time c.args.until (next st.pending.events)
by_date c banks st at =
    let halted : false ≡ halts c.args.self.now.fixed.net st.active = sym c.if-self.false ∙ (ap (λ (r : Running). r.halted) c.self.view_is ∙ at.halted) in
    let fired = ap (λ (r : Running). r.fired) c.self.view_is in
    end_by_date c.args.self.now.fixed.net c.args.until (c.args.limit - st.fired) st halted (omega (arith, c.if-self-limit.false, fired, at.fired))

-- the date of the first event that waits
dated : (c : After-next_date) → first_date c.args.self.now.wheel.meaning.events ≡ c.next_date.result
dated c = ap (λ (r : Running). first_date r.wheel.meaning.events) (sym c.self.view_is) ∙ sym c.next_date.ensures

pub returns-in-None : goal.returns-in-None
returns-in-None c = λ banks st at.
    let here = (goal.at.returns-in-None c).After-next_date in
    let r = c.args.self.now in
    sym (ap end_due (by_date here banks st at ∙ end_empty r.fixed.net r.offset st.now r.wheel.meaning r.wheel.puts st.pending at.shown.pending c.args.until
    (dated here ∙ c.in-None.is)))

pub returns-then-until-saturating_add : goal.returns-then-until-saturating_add
returns-then-until-saturating_add c = λ banks st at.
    let here = (goal.at.returns-then-until-saturating_add c).After-next_date in
    let r = c.args.self.now in
    let offset = ap (λ (r : Running). r.offset) c.self.view_is in
    let late : c.args.until < c.in-Some.date + r.offset = omega (arith, c.if-until-saturating_add.true, c.saturating_add.ensures, offset) in
    sym (ap end_due (by_date here banks st at
    ∙ end_late r.fixed.net r.offset st.now r.wheel.meaning r.wheel.puts st.pending at.shown.pending c.args.until c.in-Some.date
    (dated here ∙ c.in-Some.is) late))

pub returns-else-until-saturating_add : goal.returns-else-until-saturating_add
returns-else-until-saturating_add c = λ banks st at.
    let here = (goal.at.returns-else-until-saturating_add c).After-next_date in
    let r = c.args.self.now in
    let offset = ap (λ (r : Running). r.offset) c.self.view_is in
    let near = date_near r.fixed.net r.offset st.now r.wheel.meaning r.wheel.puts st.pending at.shown.pending c.in-Some.date (dated here ∙ c.in-Some.is) in
    let soon : c.in-Some.date + r.offset ≤ c.args.until =
    omega (arith, c.if-until-saturating_add.false, c.saturating_add.ensures, offset, near, at.now, c.requires) in
    sym (ap end_due (by_date here banks st at)
    ∙ end_fires r.fixed.net r.offset st.now r.wheel.meaning r.wheel.puts st.pending at.shown.pending c.args.until c.in-Some.date
    (dated here ∙ c.in-Some.is) soon)
