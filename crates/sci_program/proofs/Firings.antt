-- Before the run: the events that sources have then stand in the table.
use Rattle.std.proofs.Common.{◌≡◌, ℕ, zero, suc, ◌⊎◌, true≢false, eqb-true, ne_eqb, ◌+◌, ◌-◌, ◌<◌, ◌≤◌, ◌^◌, ◌≤ℤ◌, ℤ, pos, negsuc, List, [], ◌∷◌, ◌++◌, length, take, Bool, true, false, not, ◌&&◌, ◌||◌, Some, if◌then◌else◌, inl, inr, refl, sym, ap, ◌∙◌, subst, arith, nat_eq, nat_lt, ltb-true, ltb-false, Contains}
use Rattle.std.specs.Prelude.{int_le}
use Rattle.std.proofs.lemmas.Bool.{cases_lt}
use Rattle.std.proofs.lemmas.Int.{ints}
use Rattle.std.proofs.lemmas.List.{take_more, take_all, length-take-le}
use Rattle.sci_base.specs.Fit.{int_eq}
use Rattle.c_ast.specs.declared.Name.{Name}
use Rattle.c_mean.specs.Meaning.{World, same_name, Around, run_block}
use Rattle.c_mean.specs.Places.{get, Has, Puts}
use Rattle.c_mean.specs.Texts.{assigns_only, upto}
use Rattle.c_mean.specs.Runs.{Leads, LeftAlone}
use Rattle.c_mean.specs.Laws.{Within}
use Rattle.c_mean.proofs.Memory.{put_there, put_other, put_apart, puts_same, has_puts}
use Rattle.c_mean.proofs.Steps.{cell_runs, done_leads, joined_leads, leads_as}
use Rattle.c_mean.proofs.Values.{number_is}
use Rattle.c_mean.proofs.Frames.{alone_all, alone_then, puts_alone}
use Rattle.sci_pending.specs.Pending.{Event, Pending, is_pending, without_source, replaced}
use Rattle.sci_net.specs.declared.Source.{Source}
use Rattle.sci_net.specs.declared.Source.TheVariants.{Start, Port}
use Rattle.sci_net.specs.Parts.{Parts}
use Rattle.sci_net.specs.Sources.{sources_from, source_of}
use Rattle.sci_run.specs.Programs.{with_delay, with_delays, firing_of, first_pending}
use Rattle.sci_due.specs.Due.{dates, orders}
use Rattle.sci_due.specs.Laws.{AreOfPorts}
use Rattle.sci_due.proofs.Lists.{has_none, has_first, has_more, kept_there, was_there, has_cases}
use Rattle.sci_due.proofs.Shown.{has_pending}
use Rattle.sci_due.proofs.Tables.{replaced_single}
use Rattle.sci_program.specs.Program.{port_count, each_port, begun_text, firing_begun, source_begun, firing_at, is_programmed, programmed_before}
use Rattle.sci_program.proofs.Table.{one_more, delays_more}
use Rattle.sci_net.specs.declared.Feed.{Feed}

-- the names of the table
abbrev pub is_table : Name → Bool
is_table x = same_name dates x || same_name orders x

-- a place that is 0 becomes a number
pub begun_leads : (env : Around) (a : Name) (i : ℕ) (z : ℤ) (k : ℕ) (w : World) → get w a i ≡ Some (pos 0) → Within z
    → Leads (run_block env k (begun_text a i z) w) (Puts w a i z)
begun_leads env a i z k w is fits = by_zero (int_eq z (pos 0)) refl
  where
    zero_is : int_eq z (pos 0) ≡ true → z ≡ pos 0
    zero_is h = both (int_le z (pos 0)) (int_le (pos 0) z) refl refl h
      where
        both : (x y : Bool) → int_le z (pos 0) ≡ x → int_le (pos 0) z ≡ y → x && y ≡ true → z ≡ pos 0
        both true true p q h = grind (arith, ints)
        both true false p q h = cc
        both false y p q h = cc

    by_zero : (t : Bool) → int_eq z (pos 0) ≡ t → Leads (run_block env k (begun_text a i z) w) (Puts w a i z)
    by_zero true h = rw h (done_leads env k w (puts_same w a i z (is ∙ ap Some (sym (zero_is h)))))
    by_zero false h =
        rw h (cell_runs (λ r. Leads r (Puts w a i z)) env k a i _ _ w z (number_is z w fits) (record { holds = pos 0; is = is })
        (λ j w' p. done_leads env j w' p))

-- What memory shows when m ports have their events: those of the others are 0 still. Orders are there where there are several sources of events.
pub record HasBegun (n : Parts) (m : ℕ) (p : Pending) (w0 w : World) : Type 0 where
  pub there : (e : Event) → Contains p.events e
      → (get w dates (e.source - 1) ≡ Some (pos e.date)) × (2 ≤ port_count n → get w orders (e.source - 1) ≡ Some (pos e.order))
  pub free : (k : ℕ) → 1 ≤ k → k ≤ m → is_pending k p.events ≡ false → get w dates (k - 1) ≡ Some (negsuc 0)
  pub orders_there : 2 ≤ port_count n → (k : ℕ) → 1 ≤ k → k ≤ port_count n → Has w orders (k - 1)
  pub untouched : (j : ℕ) → m ≤ j → j < port_count n → (get w dates j ≡ Some (pos 0)) × (2 ≤ port_count n → get w orders j ≡ Some (pos 0))
  pub ports : AreOfPorts m p.events
  pub single : port_count n ≤ 1 → (e f : Event) → Contains p.events e → Contains p.events f → e ≡ f
  pub programmed : p.programmed ≡ programmed_before n (suc m)
  pub rest : LeftAlone (assigns_only is_table) w0 w

has_not : (k : ℕ) (es : List Event) → ((e : Event) → Contains es e → e.source ≡ k → ⊥) → is_pending k es ≡ false
has_not k [] h = refl
has_not k (x ∷ es) h = by_first (nat_eq x.source k) refl (has_not k es (λ e c. h e (has_more x e es c)))
  where
    by_first : (t : Bool) → nat_eq x.source k ≡ t → is_pending k es ≡ false → t || is_pending k es ≡ false
    by_first true q r = absurd (h x (has_first x es) (eqb-true x.source k q))
    by_first false q r = r

-- Where there is one source of events, the first order is 0.
pub first_order : (n : Parts) (k : ℕ) → k < port_count n → (2 ≤ port_count n) ⊎ (programmed_before n (suc k) ≡ 0)
first_order n zero l = inr refl
first_order n (suc k) l = inl (omega (arith, l))

-- a port's order is there, where there are several sources of events
record HasOrder (n : Parts) (m o : ℕ) (w w' : World) : Type 0 where
  pub put : 2 ≤ port_count n → Puts w orders m (pos o) w'
  pub same : (j : ℕ) → get w' dates j ≡ get w dates j
  pub rest : LeftAlone (assigns_only is_table) w w'

order_leads : (env : Around) (n : Parts) (a m o k : ℕ) (w : World) → a ≡ m → (port_count n ≤ 1 → o ≡ 0)
    → (2 ≤ port_count n → get w orders m ≡ Some (pos 0)) → Within (pos o) → Leads (run_block env k (begun_text orders a (pos o)) w) (HasOrder n m o w)
order_leads env n a m o k w place first zero_there fits = by_count (nat_lt 1 (port_count n)) refl
  where
    by_count : (t : Bool) → nat_lt 1 (port_count n) ≡ t → Leads (run_block env k (begun_text orders a (pos o)) w) (HasOrder n m o w)
    by_count true q =
        leads_as (run_block env k (begun_text orders a (pos o)) w)
        (λ w' p. let at : Puts w orders m (pos o) w' = subst (λ (j : ℕ). Puts w orders j (pos o) w') place p in record {
          put = λ _. at;
          same = λ j. put_other w w' orders m (pos o) dates j at refl;
          rest = puts_alone (assigns_only is_table) w w' orders m (pos o) refl at;
        })
        (begun_leads env orders a (pos o) k w
        (subst (λ (j : ℕ). get w orders j ≡ Some (pos 0)) (sym place) (zero_there (ltb-true 1 (port_count n) q))) fits)
    by_count false q =
        let few : port_count n ≤ 1 = ltb-false 1 (port_count n) q in
        subst (λ (i : ℕ). Leads (run_block env k (begun_text orders a (pos i)) w) (HasOrder n m i w)) (sym (first few))
        (done_leads env k w (record { put = λ s. absurd (omega (arith, s, few)); same = λ j. refl; rest = alone_all (assigns_only is_table) w }))

module _ (env : Around) (n : Parts) (w0 : World) where
  -- no event
  none_begun : (m : ℕ) (p : Pending) (d k : ℕ) (w : World) → m < port_count n → HasBegun n m p w0 w
      → programmed_before n (suc (suc m)) ≡ programmed_before n (suc m)
      → Leads (run_block env k (firing_begun (suc m) (programmed_before n (suc m)) (negsuc d)) w) (HasBegun n (suc m) p w0)
  none_begun m p d k w l h same =
      let place : suc m - 1 ≡ m = omega arith in
      cell_runs (λ r. Leads r (HasBegun n (suc m) p w0)) env k dates (suc m - 1) _ _ w (negsuc 0) refl
      (subst (λ (j : ℕ). Has w dates j) (sym place) (record { holds = pos 0; is = (h.untouched m (omega arith) l).0 })) (λ j w' put.
      let at : Puts w dates m (negsuc 0) w' = subst (λ (j : ℕ). Puts w dates j (negsuc 0) w') place put in
      done_leads env j w' (record {
        there = λ e c. let s = h.ports e c in (
          put_apart w w' dates m (negsuc 0) dates (e.source - 1) at (λ q. omega (arith, q, s.0, s.1)) ∙ (h.there e c).0,
          λ q. put_other w w' dates m
              (negsuc 0) orders (e.source - 1) at refl ∙ (h.there e c).1 q,
        );
        free = λ i a b f. by_port i a f at (cases_lt i (suc m)) b;
        orders_there = λ q i a b. has_puts w w' dates m (negsuc 0) orders (i - 1) at (h.orders_there q i a b);
        untouched = λ i a b. let u = h.untouched i (omega (arith, a)) b in
            (put_apart w w' dates m (negsuc 0) dates i at (λ q. omega (arith, q, a)) ∙ u.0, λ q. put_other w w' dates m (negsuc 0) orders i at refl ∙ u.1 q);
        ports = λ e c. let s = h.ports e c in (s.0, omega (arith, s.1));
        single = h.single;
        programmed = h.programmed ∙ sym same;
        rest = alone_then (assigns_only is_table) w0 w w' h.rest (puts_alone (assigns_only is_table) w w' dates m (negsuc 0) refl at);
      }))
    where
      by_port : (i : ℕ) {w' : World} → 1 ≤ i → is_pending i p.events ≡ false → Puts w dates m (negsuc 0) w' → (i < suc m) ⊎ (suc m ≤ i) → i ≤ suc m
          → get w' dates (i - 1) ≡ Some (negsuc 0)
      by_port i {w'} a f at (inl q) b = put_apart w w' dates m (negsuc 0) dates (i - 1) at (λ e. omega (arith, e, a, q)) ∙ h.free i a (omega (arith, q)) f
      by_port i {w'} a f at (inr q) b =
          let here : i - 1 ≡ m = omega (arith, q, b) in subst (λ (j : ℕ). get w' dates j ≡ Some (negsuc 0)) (sym here) (put_there w w' dates m (negsuc 0) at)

  -- an event
  one_begun : (m : ℕ) (p : Pending) (d k : ℕ) (w : World) → m < port_count n → HasBegun n m p w0 w
      → programmed_before n (suc (suc m)) ≡ suc (programmed_before n (suc m)) → Within (pos d) → Within (pos p.programmed)
      → Leads (run_block env k (firing_begun (suc m) (programmed_before n (suc m)) (pos d)) w) (HasBegun n (suc m) (replaced p (0 + d) (suc m)) w0)
  one_begun m p d k w l h more fits fits_order =
      let place : suc m - 1 ≡ m = omega arith in
      let o : ℕ = programmed_before n (suc m) in
      let zero_date : get w dates (suc m - 1) ≡ Some (pos 0) = subst (λ (j : ℕ). get w dates j ≡ Some (pos 0)) (sym place)
      (h.untouched m (omega arith) l).0 in
      joined_leads (λ r. Leads r (HasBegun n (suc m) (replaced p (0 + d) (suc m)) w0)) env k (begun_text dates (suc m - 1) (pos d))
      (begun_text orders (suc m - 1) (pos o)) w
      (begun_leads env dates (suc m - 1) (pos d) k w zero_date fits) (λ j w1 put1.
      let at1 : Puts w dates m (pos d) w1 = subst (λ (j : ℕ). Puts w dates j (pos d) w1) place put1 in
      leads_as (run_block env j (begun_text orders (suc m - 1) (pos o)) w1)
      (λ w2 order. both w1 w2 at1 (subst (λ (i : ℕ). HasOrder n m i w1 w2) (sym h.programmed) order))
      (order_leads env n (suc m - 1) m o j w1 place first
      (λ q. put_other w w1 dates m (pos d) orders m at1 refl ∙ (h.untouched m (omega arith) l).1 q)
      (subst (λ (i : ℕ). Within (pos i)) h.programmed fits_order)))
    where
      first : port_count n ≤ 1 → programmed_before n (suc m) ≡ 0
      first few = elim (first_order n m l) [ inl s ↦ absurd (omega (arith, s, few)) | inr e ↦ e ]

      new : Event
      new = record { date = 0 + d; order = p.programmed; source = suc m }

      both : (w1 w2 : World) → Puts w dates m (pos d) w1 → HasOrder n m p.programmed w1 w2 → HasBegun n (suc m) (replaced p (0 + d) (suc m)) w0 w2
      both w1 w2 a b = record {
        there = λ e c. by_event e (has_cases (record { date = 0 + d; order = p.programmed; source = suc m }) e (without_source (suc m) p.events) c);
        free = λ i lo hi f. by_port i lo (cases_lt i (suc m)) hi f;
        orders_there = λ s i lo hi. has_puts w1 w2 orders m (pos p.programmed) orders (i - 1) (b.put s)
            (has_puts w w1 dates m (pos d) orders (i - 1) a (h.orders_there s i lo hi));
        untouched = λ i lo hi. let u = h.untouched i (omega (arith, lo)) hi in (
          b.same i ∙ (put_apart w w1 dates m (pos d) dates i a (λ q. omega (arith, q, lo)) ∙ u.0),
          λ s. put_apart w1 w2 orders m (pos p.programmed) orders i (b.put s) (λ q. omega (arith, q, lo))
              ∙ (put_other w w1 dates m (pos d) orders i a refl ∙ u.1 s),
        );
        ports = λ e c. by_range e (has_cases (record { date = 0 + d; order = p.programmed; source = suc m }) e (without_source (suc m) p.events) c);
        single = λ few. replaced_single (port_count n) m (0 + d) p l (λ e c. let s = h.ports e c in (s.0, omega (arith, s.1, l))) few;
        programmed = let s : p.programmed + 1 ≡ suc p.programmed = omega arith in s ∙ (ap suc h.programmed ∙ sym more);
        rest =
            alone_then (assigns_only is_table) w0 w1 w2
            (alone_then (assigns_only is_table) w0 w w1 h.rest (puts_alone (assigns_only is_table) w w1 dates m (pos d) refl a))
            b.rest;
      }
        where
          old : (e : Event) → Contains (without_source (suc m) p.events) e → Contains p.events e
          old e c = (was_there (λ (e : Event). not (nat_eq e.source (suc m))) p.events e c).0

          by_event : (e : Event) → ((let x : Event = record { date = 0 + d; order = p.programmed; source = suc m } in x) ≡ e) ⊎ Contains
              (without_source (suc m) p.events) e
              → (get w2 dates (e.source - 1) ≡ Some (pos e.date)) × (2 ≤ port_count n → get w2 orders (e.source - 1) ≡ Some (pos e.order))
          by_event e (inl same) =
              subst (λ (e : Event). (get w2 dates (e.source - 1) ≡ Some (pos e.date))
              × (2 ≤ port_count n → get w2 orders (e.source - 1) ≡ Some (pos e.order))) same
              (subst (λ (j : ℕ). (get w2 dates j ≡ Some (pos (0 + d))) × (2 ≤ port_count n → get w2 orders j ≡ Some (pos p.programmed)))
              (let place : m ≡ suc m - 1 = omega arith in place) (
                b.same m ∙ (put_there w w1 dates m (pos d) a ∙ ap (λ (x : ℕ). Some (pos x)) (let z : d ≡ 0 + d = omega arith in z)),
                λ s. put_there w1 w2 orders m (pos p.programmed) (b.put s),
              ))
          by_event e (inr c) =
              let s = h.ports e (old e c) in
              let t = h.there e (old e c) in (
                b.same (e.source - 1) ∙ (put_apart w w1 dates m (pos d) dates (e.source - 1) a (λ q. omega (arith, q, s.0, s.1)) ∙ t.0),
                λ u. put_apart w1 w2 orders m (pos p.programmed) orders (e.source - 1) (b.put u) (λ q. omega (arith, q, s.0, s.1)) ∙
                    (put_other w w1 dates m (pos d) orders (e.source - 1) a refl ∙ t.1 u),
              )

          by_range : (e : Event) → ((let x : Event = record { date = 0 + d; order = p.programmed; source = suc m } in x) ≡ e) ⊎ Contains
              (without_source (suc m) p.events) e → (1 ≤ e.source) × (e.source ≤ suc m)
          by_range e (inl same) = subst (λ (e : Event). (1 ≤ e.source) × (e.source ≤ suc m)) same (omega arith, omega arith)
          by_range e (inr c) = let s = h.ports e (old e c) in (s.0, omega (arith, s.1))

          by_port : (i : ℕ) → 1 ≤ i → (i < suc m) ⊎ (suc m ≤ i) → i ≤ suc m → is_pending i (replaced p (0 + d) (suc m)).events ≡ false
              → get w2 dates (i - 1) ≡ Some (negsuc 0)
          by_port i lo (inl q) hi f =
              b.same (i - 1)
              ∙ (put_apart w w1 dates m (pos d) dates (i - 1) a (λ e. omega (arith, e, lo, q))
              ∙ h.free i lo (omega (arith, q)) (has_not i p.events (λ e c own. true≢false (sym (has_pending i (replaced p (0 + d) (suc m)).events e
              (has_more (record { date = 0 + d; order = p.programmed; source = suc m }) e (without_source (suc m) p.events)
              (kept_there (λ (e : Event). not (nat_eq e.source (suc m))) p.events e
              (ap not (ne_eqb e.source (suc m) (λ r. omega (arith, own, r, q)))) c)) own) ∙ f))))
          by_port i lo (inr q) hi f =
              let same : suc m ≡ i = omega (arith, q, hi) in
              absurd (true≢false (sym (has_pending i (replaced p (0 + d) (suc m)).events (record { date = 0 + d; order = p.programmed; source = suc m })
              (has_first (record { date = 0 + d; order = p.programmed; source = suc m }) (without_source (suc m) p.events)) same) ∙ f))

-- ---- all ports

counted : (n : Parts) (m : ℕ) (z : ℤ) → firing_at n (source_of n (suc m)) ≡ z
    → programmed_before n (suc (suc m)) ≡ programmed_before n (suc m) + (if is_programmed z then 1 else 0)
counted n m z e = ap (λ (z : ℤ). programmed_before n (suc m) + (if is_programmed z then 1 else 0)) e

pub few_before : (n : Parts) (k : ℕ) → programmed_before n k ≤ k
few_before n zero = omega arith
few_before n (suc k) =
    by_count (few_before n k) (if is_programmed (firing_at n (source_of n k)) then 1 else 0) (at_most (is_programmed (firing_at n (source_of n k))))
  where
    at_most : (t : Bool) → (if t then 1 else 0) ≤ 1
    at_most true = omega arith
    at_most false = omega arith

    by_count : programmed_before n k ≤ k → (c : ℕ) → c ≤ 1 → programmed_before n k + c ≤ suc k
    by_count few c h = omega (arith, h, few)

module _ (env : Around) (n : Parts) (w0 : World) (small : port_count n < 2 ^ 62) (soon : (q : Feed) → firing_of n q ≤ℤ pos 2147483647)
    (zero_all : (j : ℕ) → j < port_count n → (get w0 dates j ≡ Some (pos 0)) × (2 ≤ port_count n → get w0 orders j ≡ Some (pos 0))) where
  abbrev begun_ports : List Source
  begun_ports = sources_from 1 n.specs

  abbrev nothing : Pending
  nothing = record { events = []; programmed = 0 }

  firing_leads : (m : ℕ) → m < port_count n → (s : Source) → source_of n (suc m) ≡ s → (p : Pending) (w : World) → HasBegun n m p w0 w → (k : ℕ)
      → Leads (run_block env k (firing_begun (suc m) (programmed_before n (suc m)) (firing_at n s)) w)
      (HasBegun n (suc m) (one_more 0 (firing_of n) (suc m) s p) w0)
  firing_leads m l Start e p w h k =
      none_begun env n w0 m p 0 k w l h (let c = counted n m (negsuc 0) (ap (firing_at n) e) in omega (arith, c))
  firing_leads m l (Port q) e p w h k = by_firing (firing_of n q) refl
    where
      within : (z : ℤ) (d : ℕ) → z ≡ pos d → z ≤ℤ pos 2147483647 → Within (pos d)
      within z d e b = record { above = omega (arith, ints); below = omega (arith, ints, e, b) }

      by_firing : (z : ℤ) → firing_of n q ≡ z
          → Leads (run_block env k (firing_begun (suc m) (programmed_before n (suc m)) (firing_of n q)) w)
          (HasBegun n (suc m) (with_delay 0 (suc m) (firing_of n q) p) w0)
      by_firing (pos d) f =
          subst (λ (z : ℤ). Leads (run_block env k (firing_begun (suc m) (programmed_before n (suc m)) z) w)
          (HasBegun n (suc m) (with_delay 0 (suc m) z p) w0)) (sym f)
          (one_begun env n w0 m p d k w l h (let c = counted n m (pos d) (ap (firing_at n) e ∙ f) in omega (arith, c)) (within (firing_of n q) d f (soon q))
          (let a = few_before n (suc m) in let b = h.programmed in record { above = omega (arith, ints); below = omega (arith, ints, a, b, l, small) }))
      by_firing (negsuc d) f =
          subst (λ (z : ℤ). Leads (run_block env k (firing_begun (suc m) (programmed_before n (suc m)) z) w)
          (HasBegun n (suc m) (with_delay 0 (suc m) z p) w0)) (sym f)
          (none_begun env n w0 m p d k w l h (let c = counted n m (negsuc d) (ap (firing_at n) e ∙ f) in omega (arith, c)))

  first_firings : (m : ℕ) → m ≤ port_count n → (k : ℕ)
      → Leads (run_block env k (upto (λ j. source_begun n (suc j)) m) w0) (HasBegun n m (with_delays 0 (firing_of n) 1 (take m begun_ports) nothing) w0)
  first_firings zero l k = done_leads env k w0 (record {
    there = λ e c. absurd (has_none e c);
    free = λ i a b f. absurd (omega (arith, a, b));
    orders_there = λ q i a b. record { holds = pos 0; is = (zero_all (i - 1) (omega (arith, a, b))).1 q };
    untouched = λ j a b. zero_all j b;
    ports = λ e c. absurd (has_none e c);
    single = λ few e f c d. absurd (has_none e c);
    programmed = refl;
    rest = alone_all (assigns_only is_table) w0;
  })
  first_firings (suc m) l k =
      joined_leads (λ r. Leads r (HasBegun n (suc m) (with_delays 0 (firing_of n) 1 (take (suc m) begun_ports) nothing) w0)) env k
      (upto (λ j. source_begun n (suc j)) m) (source_begun n (suc m)) w0
      (first_firings m (omega (arith, l)) k)
      (λ j w h. subst (λ (r : Pending). Leads (run_block env j (source_begun n (suc m)) w) (HasBegun n (suc m) r w0)) (sym more)
      (firing_leads m (omega (arith, l)) (source_of n (suc m)) refl (with_delays 0 (firing_of n) 1 (take m begun_ports) nothing) w h j))
    where
      within : m < length begun_ports
      within = omega (arith, l)

      place : 1 + length (take m begun_ports) ≡ suc m
      place = omega (arith, within, length-take-le m begun_ports (omega (arith, within)))

      taken : take (suc m) begun_ports ≡ take m begun_ports ++ source_of n (suc m) ∷ []
      taken = let same : suc m ≡ m + 1 = omega arith in ap (λ (j : ℕ). take j begun_ports) same ∙ take_more begun_ports m Start within

      more : with_delays 0 (firing_of n) 1 (take (suc m) begun_ports) nothing ≡ one_more 0 (firing_of n) (suc m) (source_of n (suc m))
          (with_delays 0 (firing_of n) 1 (take m begun_ports) nothing)
      more =
          ap (λ (ss : List Source). with_delays 0 (firing_of n) 1 ss nothing) taken
          ∙ (delays_more 0 (firing_of n) 1 (take m begun_ports) (source_of n (suc m)) nothing ∙ ap
          (λ (j : ℕ). one_more 0 (firing_of n) j (source_of n (suc m)) (with_delays 0 (firing_of n) 1 (take m begun_ports) nothing)) place)

  -- The table shows the events before the run, where all was 0.
  pub firings_lead : (k : ℕ) → Leads (run_block env k (each_port (source_begun n) n) w0) (HasBegun n (port_count n) (first_pending n) w0)
  firings_lead k =
      let all : take (port_count n) begun_ports ≡ begun_ports = take_all (port_count n) begun_ports (omega arith) in
      leads_as (run_block env k (each_port (source_begun n) n) w0)
      (λ w h. subst (λ (ss : List Source). HasBegun n (port_count n) (with_delays 0 (firing_of n) 1 ss nothing) w0 w) all h)
      (first_firings (port_count n) (omega arith) k)
