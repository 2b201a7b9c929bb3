-- The texts on the pending events that memory shows.
use Rattle.std.proofs.Common.{◌≡◌, ℕ, suc, ◌+◌, ◌-◌, ◌<◌, ◌≤◌, ◌^◌, ◌⊎◌, inl, inr, ℤ, ◌<ℤ◌, ◌≤ℤ◌, Some, None, Bool, true, false, ◌||◌, not, nat_eq, refl, sym, ap, ◌∙◌, subst, arith, pos, negsuc, Contains}
use Rattle.std.specs.Prelude.{int_le}
use Rattle.std.proofs.lemmas.Int.{ints}
use Rattle.c_ast.specs.Syntax as exps
use Rattle.c_ast.specs.Syntax.{Exp, num, var, element, neg, bin, Block, done}
use Rattle.c_ast.specs.declared.Name.{Name}
use Rattle.c_mean.specs.Meaning.{World, Around, Ran, run_block, same_name}
use Rattle.c_mean.specs.Places.{get, value_of, Has}
use Rattle.c_mean.specs.Runs.{Leads}
use Rattle.c_mean.proofs.Steps.{leads_as}
use Rattle.c_mean.specs.Laws.{Within}
use Rattle.sci_pending.specs.Pending.{Event, Pending, next, replaced, without_source}
use Rattle.sci_pending.specs.Order.{IsNumbered}
use Rattle.sci_due.specs.Due.{Table, IsFirstOf, freed, with_event, HasEvent, IsTable, due_table, dates, orders, best, coming, scan, fresh, now, last, delay, is_programming}
use Rattle.sci_due.specs.declared.due_table.DueTable.{DueTable}
use Rattle.sci_due.specs.Texts.{choose_text, take_text, entry_text, program_text, delayed_text}
use Rattle.sci_due.specs.Laws.{ShowsPending, AreOfPorts, next_date, after_taking, HasChosen, HasTaken, HasProgrammed}
use Rattle.sci_due.proofs.Lists.{next_first, next_none, was_there, has_cases}
use Rattle.sci_due.proofs.Shown.{by_table, from_table, pending_alone}
use Rattle.sci_due.proofs.Chosen.{Below, found_next, found_none}
use Rattle.sci_due.proofs.Tables.{replaced_is, taken_is, replaced_single}
use Rattle.sci_due.proofs.Scanning.{wider, choose_leads}
use Rattle.sci_due.proofs.Programming.{take_goes, entry_goes, program_goes, delay_none}

-- what is chosen is the next event
module _ (t : Table) (n b : ℕ) (p : Pending) (is : IsTable t n p.events) (falls : IsNumbered p) (found : IsFirstOf t (Below n) b) where
  none_below : (z : ℤ) → int_le (pos 0) z ≡ false → z <ℤ pos 0
  none_below z h = grind (arith, ints)

  some_above : (z : ℤ) → int_le (pos 0) z ≡ true → pos 0 ≤ℤ z
  some_above z h = grind (arith, ints)

  port_is : (e : Event) → next p.events ≡ Some e → b ≡ e.source - 1
  port_is e first = by_date (int_le (pos 0) (t.date b)) refl
    where
      same : (a c : Event) → Some a ≡ Some c → a ≡ c
      same a c h = cc

      none_some : None ≡ Some e → ⊥
      none_some h = cc

      by_date : (has : Bool) → int_le (pos 0) (t.date b) ≡ has → b ≡ e.source - 1
      by_date false h = absurd (none_some (sym (found_none t n p.events b is found (none_below (t.date b) h)) ∙ first))
      by_date true h =
          let f = found_next t n p.events b is found p.programmed falls (some_above (t.date b) h) in
          let source : f.0.source ≡ e.source = ap (λ (x : Event). x.source) (same f.0 e (sym f.1.0 ∙ first)) in
          omega (arith, f.1.1, source)

  date_is : t.date b ≡ next_date (next p.events)
  date_is = by_date (int_le (pos 0) (t.date b)) refl
    where
      free_there : next p.events ≡ None → (t.date b ≡ negsuc 0) ⊎ HasEvent p.events b → t.date b ≡ negsuc 0
      free_there none (inl d) = d
      free_there none (inr c) = absurd (next_none p.events none c.0 c.1.0)

      by_date : (has : Bool) → int_le (pos 0) (t.date b) ≡ has → t.date b ≡ next_date (next p.events)
      by_date false h =
          let none = found_none t n p.events b is found (none_below (t.date b) h) in
          free_there none (is.free b found.among) ∙ sym (ap next_date none)
      by_date true h =
          let f = found_next t n p.events b is found p.programmed falls (some_above (t.date b) h) in
          let s = is.there f.0 (next_first p.events f.0 f.1.0) in
          let port : b ≡ s.port = omega (arith, f.1.1, s.is) in
          ap t.date port ∙ (s.date ∙ sym (ap next_date f.1.0))

pub choose_next : (env : Around) (n : ℕ) (p : Pending) (k : ℕ) (w : World) → 1 ≤ n → n < 2 ^ 63 → IsNumbered p → AreOfPorts n p.events → ShowsPending n p w
    → Has w best 0 → Has w coming 0 → Has w scan 0 → Leads (run_block env k (choose_text n) w) (HasChosen n p w)
choose_next env n p k w some small falls ports s hb hc hs =
    let by = by_table n p w s ports in
    leads_as (run_block env k (choose_text n) w)
    (λ w' found. record {
      chosen = λ e first. found.best_is ∙ ap (λ (j : ℕ). Some (pos j)) (port_is by.table n found.port p by.is falls found.first e first);
      date = found.date ∙ ap (λ (z : ℤ). Some z) (date_is by.table n found.port p by.is falls found.first);
      pending = from_table n p w' (record {
        table = by.table;
        shows = found.table;
        is = by.is;
        programmed = λ m. found.rest.same last 0 refl ∙ s.programmed m;
        single = s.single;
      });
      rest = found.rest;
    })
    (choose_leads env by.table n k w some small by.shows hb hc hs)

pub take_next : (Q : Ran → Type 0) (env : Around) (n : ℕ) (p : Pending) (e : Event) (at : Exp) (rest : Block) (k : ℕ) (w : World) → n < 2 ^ 63 → IsNumbered p
    → AreOfPorts n p.events → next p.events ≡ Some e → ShowsPending n p w
    → ((w' : World) → get w' best 0 ≡ get w best 0 → value_of at w' ≡ Some (pos (e.source - 1))) → Has w now 0
    → ((k : ℕ) (w' : World) → HasTaken n p e w w' → Q (run_block env k rest w')) → Q (run_block env k (take_text n at rest) w)
take_next Q env n p e at rest k w small falls ports first s chosen there go =
    let by = by_table n p w s ports in
    let here : Contains p.events e = next_first p.events e first in
    let stands = by.is.there e here in
    let own : (w' : World) → get w' best 0 ≡ get w best 0 → value_of at w' ≡ Some (pos stands.port)
    = λ w' same. chosen w' same ∙ ap (λ (i : ℕ). Some (pos i)) (omega (arith, stands.is)) in
    take_goes Q env by.table n stands.port at rest k w stands.within small by.shows own there (λ k' w' date shows alone.
    go k' w' (record {
      date = date ∙ ap Some stands.date;
      pending = from_table n (after_taking p e) w' (record {
        table = freed by.table stands.port;
        shows = shows;
        is = taken_is by.table n p.programmed stands.port p.events e falls by.is here stands.is;
        programmed = λ m. alone.same last 0 refl ∙ s.programmed m;
        single = λ few f g c d. s.single few f g (was_there (λ (f : Event). not (nat_eq f.order e.order)) p.events f c).0
            (was_there (λ (f : Event). not (nat_eq f.order e.order)) p.events g d).0;
      });
      rest = alone;
    }))

pub program_next : (Q : Ran → Type 0) (env : Around) (n i date d : ℕ) (p : Pending) (e : Exp) (rest : Block) (k : ℕ) (w : World) → i < n
    → suc p.programmed < 2 ^ 63 → Within (pos (date + d)) → AreOfPorts n p.events
    → ShowsPending n p w → get w now 0 ≡ Some (pos date) → value_of e w ≡ Some (pos d) → Has w delay 0
    → ((k : ℕ) (w' : World) → HasProgrammed n (replaced p (date + d) (suc i)) w w' → Q (run_block env k rest w'))
    → Q (run_block env k (program_text (due_table n) i e rest) w)
program_next Q env n i date d p e rest k w l small fits ports s now_is is there go =
    let by = by_table n p w s ports in
    program_goes Q env by.table n i date p.programmed d e rest l small fits k w is by.shows there now_is s.programmed (λ k' w' shows next alone.
    go k' w' (record {
      pending = from_table n (replaced p (date + d) (suc i)) w' (record {
        table = with_event by.table i (date + d) p.programmed;
        shows = shows;
        is = replaced_is by.table n i (date + d) p l by.is;
        programmed = λ m. next m ∙ ap (λ (k : ℕ). Some (pos k)) (omega arith);
        single = replaced_single n i (date + d) p l ports;
      });
      rest = alone;
    }))

-- where the delay is a number
pub due_next : (Q : Ran → Type 0) (env : Around) (n i date d : ℕ) (p : Pending) (k : ℕ) (w : World) → i < n → suc p.programmed < 2 ^ 63
    → Within (pos (date + d)) → AreOfPorts n p.events → ShowsPending n p w → get w now 0 ≡ Some (pos date)
    → ((k : ℕ) (w' : World) → HasProgrammed n (replaced p (date + d) (suc i)) w w' → Q (run_block env k done w'))
    → Q (run_block env k (entry_text (due_table n) i (num (pos d))) w)
due_next Q env n i date d p k w l small fits ports s now_is go =
    let by = by_table n p w s ports in
    entry_goes Q env by.table n i date p.programmed d (num (pos d)) l small fits k w refl by.shows now_is s.programmed (λ k' w' shows next alone.
    go k' w' (record {
      pending = from_table n (replaced p (date + d) (suc i)) w' (record {
        table = with_event by.table i (date + d) p.programmed;
        shows = shows;
        is = replaced_is by.table n i (date + d) p l by.is;
        programmed = λ m. next m ∙ ap (λ (k : ℕ). Some (pos k)) (omega arith);
        single = replaced_single n i (date + d) p l ports;
      });
      rest = alone;
    }))

-- what holds of both texts that program a port
pub delayed_form : (P : Block → Type 0) (table : DueTable) (i : ℕ) (e : Exp) → ((d : ℕ) → e ≡ num (pos d) → P (entry_text table i (num (pos d))))
    → P (program_text table i e done) → P (delayed_text table i e)
delayed_form P table i (num (pos d)) h k = h d refl
delayed_form P table i (num (negsuc d)) h k = k
delayed_form P table i (var x) h k = k
delayed_form P table i (element x e) h k = k
delayed_form P table i (neg e) h k = k
delayed_form P table i (exps.not e) h k = k
delayed_form P table i (bin o a b) h k = k

pub program_none : (Q : Ran → Type 0) (env : Around) (n i z : ℕ) (p : Pending) (e : Exp) (rest : Block) (k : ℕ) (w : World) → ShowsPending n p w
    → value_of e w ≡ Some (negsuc z) → Has w delay 0
    → ((k : ℕ) (w' : World) → HasProgrammed n p w w' → Q (run_block env k rest w'))
    → Q (run_block env k (program_text (due_table n) i e rest) w)
program_none Q env n i z p e rest k w s is there go =
    delay_none Q env (due_table n) i z e rest k w is there (λ k' w' alone.
    go k' w' (record {
      pending = pending_alone (same_name delay) n p w w' alone refl refl refl refl refl s;
      rest = wider (same_name delay) is_programming w w' delay_less alone;
    }))
  where
    delay_less : (y : Name) → is_programming y ≡ false → same_name delay y ≡ false
    delay_less y q = by_test (same_name delay y) q
      where
        by_test : (t : Bool) → t || (same_name last y || (same_name dates y || (same_name orders y || same_name fresh y))) ≡ false → t ≡ false
        by_test true h = cc
        by_test false h = refl

-- ---- the events stay those of ports

pub taken_ports : (n : ℕ) (p : Pending) (e : Event) → AreOfPorts n p.events → AreOfPorts n (after_taking p e).events
taken_ports n p e ports = λ f c. ports f (was_there (λ (f : Event). not (nat_eq f.order e.order)) p.events f c).0

pub programmed_ports : (n : ℕ) (p : Pending) (date i : ℕ) → i < n → AreOfPorts n p.events → AreOfPorts n (replaced p date (suc i)).events
programmed_ports n p date i l ports =
    λ f c. elim (has_cases (record { date = date; order = p.programmed; source = suc i }) f (without_source (suc i) p.events) c) [
      | inl same ↦ subst (λ (f : Event). (1 ≤ f.source) × (f.source ≤ n)) same (omega arith, omega (arith, l))
      | inr d ↦ ports f (was_there (λ (f : Event). not (nat_eq f.source (suc i))) p.events f d).0
    ]
