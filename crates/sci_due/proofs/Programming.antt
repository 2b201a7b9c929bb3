-- Taking the chosen event, and programming a port.
use Rattle.std.proofs.Common.{◌≡◌, ℕ, suc, ◌+◌, ◌<◌, ◌≤◌, ◌^◌, ◌⊎◌, inl, inr, Option, Some, Bool, true, false, refl, sym, ap, ◌∙◌, subst, arith, ℤ, pos, negsuc, ◌+ℤ◌, nat_eq, nat_lt, if◌then◌else◌, ltb-true, ltb-false, ne_eqb}
use Rattle.std.specs.Prelude.{◌/◌, int_le}
use Rattle.std.proofs.lemmas.Int.{ints}
use Rattle.std.proofs.lemmas.Bool.{cases_eq, cond-false}
use Rattle.c_ast.specs.declared.Op.TheVariants.{Add, Div, Ge}
use Rattle.c_ast.specs.Syntax.{Exp, num, var, element, neg, bin, cell, set, Block, done, next}
use Rattle.c_mean.specs.Meaning.{World, same_name, truth, Around, Ran, then_run, run_block}
use Rattle.c_ast.specs.declared.Name.{Name}
use Rattle.c_mean.specs.Places.{get, value_of, Has, Puts}
use Rattle.c_mean.specs.Texts.{assigns_only, joined}
use Rattle.c_mean.specs.Runs.{Leads, LeftAlone}
use Rattle.c_mean.specs.Laws.{Within}
use Rattle.c_mean.proofs.Memory.{name_eq, name_same, put_there, put_other, put_apart, has_puts}
use Rattle.c_mean.proofs.Steps.{let_runs, cell_runs, element_runs, if_runs, skip_runs, done_runs, done_leads, joined_leads, joined_done}
use Rattle.c_mean.proofs.Values.{element_is, add_is, div_is, ge_is}
use Rattle.c_mean.proofs.Frames.{alone_all, alone_then, puts_alone}
use Rattle.sci_due.specs.Due.{Table, with_event, freed, InGroup, KnowsGroup, ShowsGroup, are_grouped, due_table, group_count, dates, orders, best, fresh, firsts, now, last, delay, ShowsTable, is_taking, is_programming}
use Rattle.sci_due.specs.Texts.{stale_at, stale_text, take_text, order_text, entry_text, program_text}
use Rattle.sci_due.proofs.Chosen.{first_alike}
use Rattle.sci_due.proofs.Keeping.{entry_is}
use Rattle.sci_due.specs.declared.due_table.DueTable.{DueTable}
use Rattle.sci_due.proofs.Scanning.{wider, table_stays}

-- ---- the table after a write

some_if : (b : Bool) (x y : ℤ) (o : Option ℤ) → o ≡ Some y → (if b then Some x else o) ≡ Some (if b then x else y)
some_if true x y o h = refl
some_if false x y o h = h

-- where port i alone has another event, the other groups are as they were
module _ (t t' : Table) (n i : ℕ) (w w' : World)
    (same : (j : ℕ) → (i ≡ j → ⊥) → (t'.date j ≡ t.date j) × (t'.order j ≡ t.order j))
    (stale : get w' fresh (i / 16) ≡ Some (pos 0))
    (flags : (g : ℕ) → (i / 16 ≡ g → ⊥) → get w' fresh g ≡ get w fresh g)
    (ports : (g : ℕ) → get w' firsts g ≡ get w firsts g) where
  other_port : (g j : ℕ) → (i / 16 ≡ g → ⊥) → InGroup n g j → i ≡ j → ⊥
  other_port g j apart h e = apart (omega (arith, h.least, h.most, e))

  moved_group : (g : ℕ) → ShowsGroup t n g w → ShowsGroup t' n g w'
  moved_group g s = (record { holds = s.0.holds; is = ports g ∙ s.0.is }, by_place (cases_eq (i / 16) g) s.1)
    where
      by_place : (i / 16 ≡ g) ⊎ (i / 16 ≡ g → ⊥) → (get w fresh g ≡ Some (pos 0)) ⊎ KnowsGroup t n g w
          → (get w' fresh g ≡ Some (pos 0)) ⊎ KnowsGroup t' n g w'
      by_place (inl e) k = inl (subst (λ (j : ℕ). get w' fresh j ≡ Some (pos 0)) e stale)
      by_place (inr q) (inl e) = inl (flags g q ∙ e)
      by_place (inr q) (inr k) = inr (record {
        flag = flags g q ∙ k.flag;
        port = k.port;
        is = ports g ∙ k.is;
        first = first_alike t t' (InGroup n g) k.port (λ j h. (same j (other_port g j q h)).0) (λ j h. (same j (other_port g j q h)).1) k.first;
      })

-- ---- a group that isn't known any more

-- what is known where its flag was cleared
record HasStaled (n i : ℕ) (w w' : World) : Type 0 where
  pub stale : 17 ≤ n → get w' fresh (i / 16) ≡ Some (pos 0)
  pub flags : (g : ℕ) → (i / 16 ≡ g → ⊥) → get w' fresh g ≡ get w fresh g
  pub same : (x : Name) (j : ℕ) → same_name fresh x ≡ false → get w' x j ≡ get w x j
  pub rest : LeftAlone (assigns_only (same_name fresh)) w w'

stale_leads : (env : Around) (n i : ℕ) (at : Exp) (k : ℕ) (w : World) → i < n → value_of at w ≡ Some (pos (i / 16))
    → (17 ≤ n → (g : ℕ) → g < group_count n → (o : ℤ) × (get w fresh g ≡ Some o)) → Leads (run_block env k (stale_at n at) w) (HasStaled n i w)
stale_leads env n i at k w l told there = by_count (are_grouped n) refl
  where
    by_count : (many : Bool) → are_grouped n ≡ many
        → Leads (run_block env k (if many then next (set (cell fresh at) (num (pos 0))) done else done) w) (HasStaled n i w)
    by_count true q =
        let m : 17 ≤ n = ltb-true 16 n q in
        let o = there m (i / 16) (omega (arith, l)) in
        element_runs (λ r. Leads r (HasStaled n i w)) env k fresh at (num (pos 0)) done w (i / 16) (pos 0) told refl
        (record { holds = o.0; is = o.1 }) (λ k1 w1 p.
        done_leads env k1 w1 (record {
          stale = λ _. put_there w w1 fresh (i / 16) (pos 0) p;
          flags = λ g e. put_apart w w1 fresh (i / 16) (pos 0) fresh g p e;
          same = λ x j h. put_other w w1 fresh (i / 16) (pos 0) x j p h;
          rest = puts_alone (assigns_only (same_name fresh)) w w1 fresh (i / 16) (pos 0) (name_same fresh) p;
        }))
    by_count false q =
        let few : n ≤ 16 = ltb-false 16 n q in
        done_leads env k w (record {
          stale = λ m. absurd (omega (arith, m, few));
          flags = λ g e. refl;
          same = λ x j h. refl;
          rest = alone_all (assigns_only (same_name fresh)) w;
        })

-- a flag is there
flag_there : (t : Table) (n g : ℕ) (w : World) → ShowsGroup t n g w → (o : ℤ) × (get w fresh g ≡ Some o)
flag_there t n g w s = by_known s.1
  where
    by_known : (get w fresh g ≡ Some (pos 0)) ⊎ KnowsGroup t n g w → (o : ℤ) × (get w fresh g ≡ Some o)
    by_known (inl e) = (pos 0, e)
    by_known (inr k) = (pos 1, k.flag)

-- ---- taking

staling_less : (names : Name → Bool) (y : Name) → (same_name fresh y ≡ true → names y ≡ true) → names y ≡ false → same_name fresh y ≡ false
staling_less names y more h = by_test (same_name fresh y) refl
  where
    both_ways : names y ≡ true → names y ≡ false → ⊥
    both_ways p q = cc

    by_test : (t : Bool) → same_name fresh y ≡ t → t ≡ false
    by_test true e = absurd (both_ways (more e) h)
    by_test false e = refl

-- a name that is one of these
named_so : (names : Name → Bool) (x y : Name) → names x ≡ true → same_name x y ≡ true → names y ≡ true
named_so names x y h e = subst (λ (z : Name). names z ≡ true) (name_eq x y e) h

stale_alone : (names : Name → Bool) (w w' : World) → names fresh ≡ true → LeftAlone (assigns_only (same_name fresh)) w w' → LeftAlone (assigns_only names) w w'
stale_alone names w w' h alone = wider (same_name fresh) names w w' (λ y q. staling_less names y (named_so names fresh y h) q) alone

-- The chosen event's date is the date of the reaction, and its port is free.
pub take_goes : (Q : Ran → Type 0) (env : Around) (t : Table) (n b : ℕ) (at : Exp) (rest : Block) (k : ℕ) (w : World) → b < n → n < 2 ^ 63 → ShowsTable t n w
    → ((w' : World) → get w' best 0 ≡ get w best 0 → value_of at w' ≡ Some (pos b)) → Has w now 0
    → ((k : ℕ) (w' : World) → get w' now 0 ≡ Some (t.date b) → ShowsTable (freed t b) n w' → LeftAlone (assigns_only is_taking) w w' → Q
    (run_block env k rest w')) → Q (run_block env k (take_text n at rest) w)
take_goes Q env t n b at rest k w l small s is there go =
    let_runs Q env k now (element dates at) _ w (t.date b) (element_is dates at w b (t.date b) (is w refl) (s.date b l)) there (λ k1 w1 p1.
    element_runs Q env k1 dates at (neg (num (pos 1))) (joined (stale_at n (bin Div at (num (pos 16)))) rest) w1 b (negsuc 0)
    (is w1 (put_other w w1 now 0 (t.date b) best 0 p1 refl)) refl
    (has_puts w w1 now 0 (t.date b) dates b p1 (record { holds = t.date b; is = s.date b l })) (λ k2 w2 p2.
    let alone = alone_then (assigns_only is_taking) w w1 w2 (puts_alone (assigns_only is_taking) w w1 now 0 (t.date b) refl p1)
    (puts_alone (assigns_only is_taking) w1 w2 dates b (negsuc 0) refl p2) in
    joined_leads Q env k2 (stale_at n (bin Div at (num (pos 16)))) rest w2
    (stale_leads env n b (bin Div at (num (pos 16))) k2 w2 l (divided w2 (put_other w1 w2 dates b (negsuc 0) best 0 p2 refl ∙ put_other w w1 now 0 (t.date b) best 0 p1 refl))
    (λ m g q. let o = flag_there t n g w (s.group m g q) in
    (o.0, put_other w1 w2 dates b (negsuc 0) fresh g p2 refl ∙ (put_other w w1 now 0 (t.date b) fresh g p1 refl ∙ o.1)))) (λ k3 w3 h.
    go k3 w3
    (h.same now 0 refl ∙ (put_other w1 w2 dates b (negsuc 0) now 0 p2 refl ∙ put_there w w1 now 0 (t.date b) p1))
    (freed_shows w1 w2 w3 p1 p2 h)
    (alone_then (assigns_only is_taking) w w2 w3 alone (stale_alone is_taking w2 w3 refl h.rest)))))
  where
    divided : (v : World) → get v best 0 ≡ get w best 0 → value_of (bin Div at (num (pos 16))) v ≡ Some (pos (b / 16))
    divided v same =
        div_is at (num (pos 16)) v (pos b) (pos 16) (is v same) refl refl (record { above = omega (arith, ints); below = omega (arith, ints, l, small) })

    freed_shows : (w1 w2 w3 : World) → Puts w now 0 (t.date b) w1 → Puts w1 dates b (negsuc 0) w2 → HasStaled n b w2 w3 → ShowsTable (freed t b) n w3
    freed_shows w1 w2 w3 p1 p2 h = record {
      date = λ j q. h.same dates j refl ∙ (p2.places dates j ∙ some_if (nat_eq b j) (negsuc 0) (t.date j) (get w1 dates j)
          (put_other w w1 now 0 (t.date b) dates j p1 refl ∙ s.date j q));
      order = λ m j q. h.same orders j refl ∙ (put_other w1 w2 dates b (negsuc 0) orders j p2 refl ∙ (put_other w w1 now 0 (t.date b) orders j p1 refl ∙ s.order m j q));
      group = λ m g q. moved_group t (freed t b) n b w w3
          (λ j e. (cond-false (nat_eq b j) (negsuc 0) (t.date j) (ne_eqb b j e), refl)) (h.stale m)
          (λ i e. h.flags i e ∙ (put_other w1 w2 dates b (negsuc 0) fresh i p2 refl ∙ put_other w w1 now 0 (t.date b) fresh i p1 refl))
          (λ i. h.same firsts i refl ∙ (put_other w1 w2 dates b (negsuc 0) firsts i p2 refl ∙ put_other w w1 now 0 (t.date b) firsts i p1 refl)) g (s.group m g q);
    }

-- ---- programming

-- with a delay below 0 nothing is done
pub delay_none : (Q : Ran → Type 0) (env : Around) (table : DueTable) (i z : ℕ) (e : Exp) (rest : Block) (k : ℕ) (w : World) → value_of e w ≡ Some (negsuc z)
    → Has w delay 0 → ((k : ℕ) (w' : World) → LeftAlone (assigns_only (same_name delay)) w w' → Q (run_block env k rest w'))
    → Q (run_block env k (program_text table i e rest) w)
delay_none Q env table i z e rest k w is there go =
    let_runs Q env k delay e _ w (negsuc z) is there (λ k1 w1 p1.
    skip_runs Q env k1 (bin Ge (var delay) (num (pos 0))) (entry_text table i (var delay)) rest w1
    (ge_is (var delay) (num (pos 0)) w1 (negsuc z) (pos 0) (put_there w w1 delay 0 (negsuc z) p1) refl) (λ m.
    go m w1 (puts_alone (assigns_only (same_name delay)) w w1 delay 0 (negsuc z) (name_same delay) p1)))

-- what an order's text does, or that there is none
record HasOrdered (n i order : ℕ) (w w' : World) : Type 0 where
  pub put : 2 ≤ n → (j : ℕ) → get w' orders j ≡ (if nat_eq i j then Some (pos order) else get w orders j)
  pub last_is : 2 ≤ n → get w' last 0 ≡ Some (pos (suc order))
  pub dates_stay : (j : ℕ) → get w' dates j ≡ get w dates j
  pub flags_stay : (g : ℕ) → get w' fresh g ≡ get w fresh g
  pub firsts_stay : (g : ℕ) → get w' firsts g ≡ get w firsts g
  pub rest : LeftAlone (assigns_only is_programming) w w'

order_leads : (env : Around) (n i order k : ℕ) (w : World) → suc order < 2 ^ 63 → (2 ≤ n → Has w orders i) → (2 ≤ n → get w last 0 ≡ Some (pos order))
    → Leads (run_block env k (if nat_lt 1 n then order_text i else done) w) (HasOrdered n i order w)
order_leads env n i order k w small there last_is = by_count (nat_lt 1 n) refl
  where
    one_more : (v : World) → get v last 0 ≡ Some (pos order) → value_of (bin Add (var last) (num (pos 1))) v ≡ Some (pos (suc order))
    one_more v a =
        let same : pos order +ℤ pos 1 ≡ pos (suc order) = omega (arith, ints) in
        add_is (var last) (num (pos 1)) v (pos order) (pos 1) a refl (record { above = omega (arith, ints); below = omega (arith, ints, small) })
        ∙ ap (λ (z : ℤ). Some z) same

    by_count : (several : Bool) → nat_lt 1 n ≡ several → Leads (run_block env k (if several then order_text i else done) w) (HasOrdered n i order w)
    by_count true q =
        let m : 2 ≤ n = ltb-true 1 n q in
        cell_runs (λ r. Leads r (HasOrdered n i order w)) env k orders i (var last) _ w (pos order) (last_is m) (there m) (λ k1 w1 p1.
        let last_there : get w1 last 0 ≡ Some (pos order) = put_other w w1 orders i (pos order) last 0 p1 refl ∙ last_is m in
        let_runs (λ r. Leads r (HasOrdered n i order w)) env k1 last (bin Add (var last) (num (pos 1))) done w1 (pos (suc order)) (one_more w1 last_there)
        (record { holds = pos order; is = last_there }) (λ k2 w2 p2.
        done_leads env k2 w2 (record {
          put = λ _ j. put_other w1 w2 last 0 (pos (suc order)) orders j p2 refl ∙ p1.places orders j;
          last_is = λ _. put_there w1 w2 last 0 (pos (suc order)) p2;
          dates_stay = λ j. put_other w1 w2 last 0 (pos (suc order)) dates j p2 refl ∙ put_other w w1 orders i (pos order) dates j p1 refl;
          flags_stay = λ g. put_other w1 w2 last 0 (pos (suc order)) fresh g p2 refl ∙ put_other w w1 orders i (pos order) fresh g p1 refl;
          firsts_stay = λ g. put_other w1 w2 last 0 (pos (suc order)) firsts g p2 refl ∙ put_other w w1 orders i (pos order) firsts g p1 refl;
          rest = alone_then (assigns_only is_programming) w w1 w2 (puts_alone (assigns_only is_programming) w w1 orders i (pos order) refl p1)
              (puts_alone (assigns_only is_programming) w1 w2 last 0 (pos (suc order)) refl p2);
        })))
    by_count false q =
        let few : n ≤ 1 = ltb-false 1 n q in
        done_leads env k w (record {
          put = λ m j. absurd (omega (arith, m, few));
          last_is = λ m. absurd (omega (arith, m, few));
          dates_stay = λ j. refl;
          flags_stay = λ g. refl;
          firsts_stay = λ g. refl;
          rest = alone_all (assigns_only is_programming) w;
        })

module _ (Q : Ran → Type 0) (env : Around) (t : Table) (n i date order d : ℕ) (e : Exp) (l : i < n) (small : suc order < 2 ^ 63) (fits : Within (pos (date + d))) where
  abbrev event : Table
  event = with_event t i (date + d) order

  -- Port i's entry is that of an event after the delay that the expression gives.
  pub entry_goes : (k : ℕ) (w : World) → value_of e w ≡ Some (pos d) → ShowsTable t n w → get w now 0 ≡ Some (pos date)
      → (2 ≤ n → get w last 0 ≡ Some (pos order))
      → ((k : ℕ) (w' : World) → ShowsTable event n w' → (2 ≤ n → get w' last 0 ≡ Some (pos (suc order)))
      → LeftAlone (assigns_only is_programming) w w' → Q (run_block env k done w'))
      → Q (run_block env k (entry_text (due_table n) i e) w)
  entry_goes k w is at now_is last_is go =
      subst (λ (b : Block). Q (run_block env k b w)) (sym (entry_is n i e))
      (cell_runs Q env k dates i (bin Add (var now) e) _ w (pos (date + d)) (add_is (var now) e w (pos date) (pos d) now_is is fits)
      (record { holds = t.date i; is = at.date i l }) (λ k2 w2 p2.
      joined_leads Q env k2 (if nat_lt 1 n then order_text i else done) (if are_grouped n then stale_text i else done) w2
      (order_leads env n i order k2 w2 small (λ m. has_puts w w2 dates i (pos (date + d)) orders i p2 (record { holds = t.order i; is = at.order m i l }))
      (λ m. put_other w w2 dates i (pos (date + d)) last 0 p2 refl ∙ last_is m)) (λ k3 w3 h.
      subst (λ (b : Block). Q (run_block env k3 b w3)) (joined_done (stale_at n (num (pos (i / 16)))))
      (joined_leads Q env k3 (stale_at n (num (pos (i / 16)))) done w3
      (stale_leads env n i (num (pos (i / 16))) k3 w3 l refl (λ m g q. let o = flag_there t n g w (at.group m g q) in
      (o.0, h.flags_stay g ∙ (put_other w w2 dates i (pos (date + d)) fresh g p2 refl ∙ o.1)))) (λ k4 w4 f.
      go k4 w4 (event_shows w2 w3 w4 p2 h f) (λ m. f.same last 0 refl ∙ h.last_is m)
      (alone_then (assigns_only is_programming) w w3 w4
      (alone_then (assigns_only is_programming) w w2 w3 (puts_alone (assigns_only is_programming) w w2 dates i (pos (date + d)) refl p2) h.rest)
      (stale_alone is_programming w3 w4 refl f.rest)))))))
    where
      event_shows : (w2 w3 w4 : World) → Puts w dates i (pos (date + d)) w2 → HasOrdered n i order w2 w3 → HasStaled n i w3 w4 → ShowsTable event n w4
      event_shows w2 w3 w4 p h f = record {
        date = λ j q. f.same dates j refl ∙ (h.dates_stay j ∙ (p.places dates j ∙ some_if (nat_eq i j) (pos (date + d)) (t.date j) (get w dates j) (at.date j q)));
        order = λ m j q. f.same orders j refl ∙ (h.put m j ∙ some_if (nat_eq i j) (pos order) (t.order j) (get w2 orders j)
            (put_other w w2 dates i (pos (date + d)) orders j p refl ∙ at.order m j q));
        group = λ m g q. moved_group t event n i w w4
            (λ j e. (cond-false (nat_eq i j) (pos (date + d)) (t.date j) (ne_eqb i j e), cond-false (nat_eq i j) (pos order) (t.order j) (ne_eqb i j e)))
            (f.stale m)
            (λ j e. f.flags j e ∙ (h.flags_stay j ∙ put_other w w2 dates i (pos (date + d)) fresh j p refl))
            (λ j. f.same firsts j refl ∙ (h.firsts_stay j ∙ put_other w w2 dates i (pos (date + d)) firsts j p refl)) g (at.group m g q);
      }

module _ (Q : Ran → Type 0) (env : Around) (t : Table) (n i date order d : ℕ) (e : Exp) (rest : Block) (l : i < n) (small : suc order < 2 ^ 63)
    (fits : Within (pos (date + d))) where
  -- Port i is programmed at this date with the delay that the expression gives.
  pub program_goes : (k : ℕ) (w : World) → value_of e w ≡ Some (pos d) → ShowsTable t n w → Has w delay 0 → get w now 0 ≡ Some (pos date)
      → (2 ≤ n → get w last 0 ≡ Some (pos order))
      → ((k : ℕ) (w' : World) → ShowsTable (with_event t i (date + d) order) n w' → (2 ≤ n → get w' last 0 ≡ Some (pos (suc order))) → LeftAlone
      (assigns_only is_programming) w w'
      → Q (run_block env k rest w'))
      → Q (run_block env k (program_text (due_table n) i e rest) w)
  program_goes k w is s there now_is last_is go =
      let_runs Q env k delay e _ w (pos d) is there (λ k1 w1 p1.
      let alone = puts_alone (assigns_only is_programming) w w1 delay 0 (pos d) refl p1 in
      if_runs Q env k1 (bin Ge (var delay) (num (pos 0))) (entry_text (due_table n) i (var delay)) done rest w1
      (ge_is (var delay) (num (pos 0)) w1 (pos d) (pos 0) (put_there w w1 delay 0 (pos d) p1) refl ∙ ap (λ (u : Bool). Some (truth u)) (not_negative d))
      (λ k2 m.
      entry_goes (λ r. Q (then_run r (run_block env m rest))) env t n i date order d (var delay) l small fits k2 w1 (put_there w w1 delay 0 (pos d) p1)
      (table_stays (same_name delay) t n w w1 (puts_alone (assigns_only (same_name delay)) w w1 delay 0 (pos d) (name_same delay) p1) refl refl refl refl s)
      (put_other w w1 delay 0 (pos d) now 0 p1 refl ∙ now_is)
      (λ m'. put_other w w1 delay 0 (pos d) last 0 p1 refl ∙ last_is m') (λ k3 w2 shows more after.
      done_runs Q env k3 w2 (run_block env m rest) (go m w2 shows more (alone_then (assigns_only is_programming) w w1 w2 alone after)))))
    where
      not_negative : (d : ℕ) → int_le (pos 0) (pos d) ≡ true
      not_negative d = grind (arith, ints)
