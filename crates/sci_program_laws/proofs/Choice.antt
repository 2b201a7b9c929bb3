-- Which event fires: the scan finds the next pending event and its date, and that event is taken.
use Rattle.std.proofs.Common.{◌≡◌, ℕ, ◌-◌, ◌<◌, ◌≤◌, ◌^◌, Bool, true, false, ◌||◌, nat_lt, if◌then◌else◌, Option, Some, None, refl, sym, ap, ◌∙◌, subst, arith, ℤ, pos, ltb-true, ltb-false}
use Rattle.c_ast.specs.declared.Name.{Name}
use Rattle.c_ast.specs.Syntax.{num, var, scalar, set, Block, done}
use Rattle.c_mean.specs.Meaning.{World, Around, Ran, run_block, same_name}
use Rattle.c_mean.specs.Places.{get, value_of, Has}
use Rattle.c_mean.specs.Texts.{place, assigns_only}
use Rattle.c_mean.specs.Runs.{Leads, LeftAlone}
use Rattle.c_mean.proofs.Memory.{put_there}
use Rattle.c_mean.proofs.Steps.{done_leads, let_runs, leads_as}
use Rattle.c_mean.proofs.Values.{element_is}
use Rattle.c_mean.proofs.Frames.{puts_alone}
use Rattle.sci_pending.specs.Pending.{Event, Pending, next, is_pending}
use Rattle.sci_net.specs.Parts.{Parts}
use Rattle.sci_run.specs.Order.{IsAhead, PendingInOrder}
use Rattle.sci_due.specs.Due.{dates, best as chosen_name, scan as scan_name, fresh, firsts, now as now_name, is_choosing}
use Rattle.sci_due.specs.Texts.{choose_text as choose_of, take_text}
use Rattle.sci_due.specs.Laws.{ShowsPending, AreOfPorts, next_date as due_date, HasTaken}
use Rattle.sci_due.proofs.Lists.{next_none, next_first}
use Rattle.sci_due.proofs.Shown.{pending_has, pending_alone}
use Rattle.sci_due.proofs.Pending.{choose_next, take_next}
use Rattle.sci_program.specs.Names.{next_date}
use Rattle.sci_program.specs.Program.{one, port_count, choose_text, chosen_place}
use Rattle.sci_program.specs.Stepping.{date_of}
use Rattle.sci_program_laws.proofs.Between.{alone_wider}

-- what is pending belongs to the net's ports
pub are_of_ports : (n : Parts) (now : ℕ) (p : Pending) → PendingInOrder n now p → AreOfPorts (port_count n) p.events
are_of_ports n now p ahead = λ e c.
    let is : IsAhead n now e = subst (IsAhead n now) c.2 (ahead.ahead c.0 e c.1) in
    (is.not_start, omega (arith, is.source))

-- what the function that chooses assigns
abbrev pub is_choosing_next : Name → Bool
is_choosing_next x = same_name next_date x || (same_name chosen_name x || (same_name scan_name x || (same_name firsts x || same_name fresh x)))

-- the next event is chosen where there are several sources of events, and its date is there
pub record HasNext (n : Parts) (p : Pending) (w w' : World) : Type 0 where
  pub chosen : 2 ≤ port_count n → (e : Event) → next p.events ≡ Some e → get w' chosen_name 0 ≡ Some (pos (e.source - 1))
  pub coming : get w' next_date 0 ≡ Some (date_of (next p.events))
  pub pending : 1 ≤ port_count n → ShowsPending (port_count n) p w'
  pub rest : LeftAlone (assigns_only is_choosing_next) w w'

same_date : (x : Option Event) → due_date x ≡ date_of x
same_date None = refl
same_date (Some e) = refl

-- of three tests that fail, in another order
other_order : (a b c : Bool) → a || (b || c) ≡ false → b || (a || c) ≡ false
other_order true b c h = cc
other_order false true c h = cc
other_order false false c h = h

-- the date of the only source
only_date : (p : Pending) (w : World) → AreOfPorts 1 p.events → ShowsPending 1 p w → get w dates 0 ≡ Some (date_of (next p.events))
only_date p w ports s = by_next (next p.events) refl
  where
    not_pending : next p.events ≡ None → (t : Bool) → is_pending 1 p.events ≡ t → t ≡ false
    not_pending is true h = let e = pending_has 1 p.events h in absurd (next_none p.events is e.0 e.1.0)
    not_pending is false h = refl

    by_next : (x : Option Event) → next p.events ≡ x → get w dates 0 ≡ Some (date_of (next p.events))
    by_next None is =
        s.free 1 (omega arith) (omega arith) (not_pending is (is_pending 1 p.events) refl) ∙ ap (λ (o : Option Event). Some (date_of o)) (sym is)
    by_next (Some e) is =
        let here = next_first p.events e is in
        let port = ports e here in
        let at : 0 ≡ e.source - 1 = omega (arith, port.0, port.1) in
        ap (get w dates) at ∙ (s.there e here).0 ∙ ap (λ (o : Option Event). Some (date_of o)) (sym is)

pub choice_leads : (env : Around) (n : Parts) (now : ℕ) (p : Pending) (k : ℕ) (w : World) → 1 ≤ port_count n → port_count n < 2 ^ 63
    → PendingInOrder n now p → ShowsPending (port_count n) p w → Has w chosen_name 0 → Has w scan_name 0 → Has w next_date 0
    → Leads (run_block env k (choose_text n) w) (HasNext n p w)
choice_leads env n now p k w some small ahead s hc hs hd = by_count (nat_lt 1 (port_count n)) refl
  where
    by_count : (t : Bool) → nat_lt 1 (port_count n) ≡ t
        → Leads (run_block env k (if t then choose_of (port_count n) else one (set (scalar next_date) (place dates 0))) w) (HasNext n p w)
    by_count true q =
        leads_as (run_block env k (choose_of (port_count n)) w)
        (λ w' h. record {
          chosen = λ l. h.chosen;
          coming = h.date ∙ ap (λ (z : ℤ). Some z) (same_date (next p.events));
          pending = λ l. h.pending;
          rest = alone_wider is_choosing is_choosing_next w w'
              (λ y r. other_order (same_name next_date y) (same_name chosen_name y) (same_name scan_name y || (same_name firsts y || same_name fresh y)) r) h.rest;
        })
        (choose_next env (port_count n) p k w some small ahead.numbered (are_of_ports n now p ahead) s hc hd hs)
    by_count false q =
        let few = ltb-false 1 (port_count n) q in
        let single : port_count n ≡ 1 = omega (arith, some, few) in
        let date = only_date p w (subst (λ (m : ℕ). AreOfPorts m p.events) single (are_of_ports n now p ahead))
        (subst (λ (m : ℕ). ShowsPending m p w) single s) in
        let_runs (λ r. Leads r (HasNext n p w)) env k next_date (place dates 0) done w (date_of (next p.events))
        (element_is dates (num (pos 0)) w 0 (date_of (next p.events)) refl date) hd (λ k1 w1 put.
        done_leads env k1 w1 (record {
          chosen = λ l. absurd (omega (arith, l, few));
          coming = put_there w w1 next_date 0 (date_of (next p.events)) put;
          pending = λ l. pending_alone (same_name next_date) (port_count n) p w w1
              (puts_alone (assigns_only (same_name next_date)) w w1 next_date 0 (date_of (next p.events)) refl put) refl refl refl refl refl s;
          rest = puts_alone (assigns_only is_choosing_next) w w1 next_date 0 (date_of (next p.events)) refl put;
        }))

pub take_goes : (Q : Ran → Type 0) (env : Around) (n : Parts) (now : ℕ) (p : Pending) (e : Event) (rest : Block) (k : ℕ) (w : World)
    → port_count n < 2 ^ 63 → PendingInOrder n now p → next p.events ≡ Some e
    → ShowsPending (port_count n) p w → (2 ≤ port_count n → get w chosen_name 0 ≡ Some (pos (e.source - 1))) → Has w now_name 0
    → ((k : ℕ) (w' : World) → HasTaken (port_count n) p e w w' → Q (run_block env k rest w'))
    → Q (run_block env k (take_text (port_count n) (chosen_place (port_count n)) rest) w)
take_goes Q env n now p e rest k w small ahead first s chosen there go =
    take_next Q env (port_count n) p e (chosen_place (port_count n)) rest k w small ahead.numbered (are_of_ports n now p ahead) first s
    (λ w' same. by_count w' same (nat_lt 1 (port_count n)) refl) there go
  where
    source : (1 ≤ e.source) × (e.source ≤ port_count n)
    source = are_of_ports n now p ahead e (next_first p.events e first)

    by_count : (w' : World) → get w' chosen_name 0 ≡ get w chosen_name 0 → (t : Bool) → nat_lt 1 (port_count n) ≡ t
        → value_of (if t then var chosen_name else num (pos 0)) w' ≡ Some (pos (e.source - 1))
    by_count w' same true q = same ∙ chosen (ltb-true 1 (port_count n) q)
    by_count w' same false q =
        let few = ltb-false 1 (port_count n) q in
        let at : 0 ≡ e.source - 1 = omega (arith, source.0, source.1, few) in
        ap (λ (j : ℕ). Some (pos j)) at
