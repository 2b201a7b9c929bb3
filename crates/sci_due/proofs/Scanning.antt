-- The scan of the table.
use Rattle.std.proofs.Common.{◌≡◌, ℕ, zero, suc, ◌+◌, ◌-◌, ◌*◌, ◌<◌, ◌≤◌, ◌^◌, ◌⊎◌, inl, inr, Option, Some, Bool, true, false, ◌&&◌, ◌||◌, refl, sym, ap, ◌∙◌, subst, arith, ℤ, pos, ◌+ℤ◌, nat_lt, ltb-true, if◌then◌else◌}
use Rattle.std.specs.Prelude.{int_lt, int_le, not}
use Rattle.std.proofs.lemmas.Int.{ints}
use Rattle.std.proofs.lemmas.Bool.{cases_lt, cases_eq}
use Rattle.c_ast.specs.declared.Name.{Name}
use Rattle.c_ast.specs.declared.Bound.TheVariants as bounds
use Rattle.c_ast.specs.declared.Op.TheVariants.{Lt, Le, Ge, Ne, And}
use Rattle.c_ast.specs.Syntax.{Exp, num, var, element, bin, scalar, cell, set, loop, done, next}
use Rattle.c_mean.specs.Meaning.{World, same_name, truth, Around, then_run, run_block}
use Rattle.c_mean.specs.Places.{get, value_of, Has, Puts}
use Rattle.c_mean.specs.Texts.{assigns_only, upto}
use Rattle.c_mean.specs.Runs.{Leads, LeftAlone}
use Rattle.c_mean.proofs.Memory.{put_there, put_other, put_apart, has_puts}
use Rattle.c_mean.proofs.Steps.{let_runs, cell_runs, if_runs, skip_runs, done_runs, done_leads, joined_leads, leads_as}
use Rattle.c_mean.proofs.Values.{element_is, add_is, lt_is, le_is, ge_is, eq_is, ne_is, and_is, or_is}
use Rattle.c_mean.proofs.Frames.{alone_all, alone_then, puts_alone}
use Rattle.c_mean.proofs.Loops.{for_leads}
use Rattle.sci_base.specs.Fit.{int_eq}
use Rattle.sci_due.specs.Due.{Table, better, IsFirstOf, InGroup, KnowsGroup, ShowsGroup, group_count, are_grouped, dates, orders, best, coming, scan, fresh, firsts, ShowsTable, is_choosing}
use Rattle.sci_due.specs.Texts.{not_later_exp, sooner_exp, better_exp, choose_turn, counted_from, turns_text, span_text, others_in, unknown_exp, worked_text, group_text, first_of, groups_text, choose_text}
use Rattle.sci_due.proofs.Chosen.{Either, Below, first_of_both, first_of_one, first_among, first_alike}

-- ---- the test of a turn

-- what it asks, one after the other: d and e are the dates of a port and of the chosen one, and f says whether its order is lower
abbrev asked : (d e : ℤ) → Bool → Bool
asked d e f = (int_lt e (pos 0) || int_le d e) && (int_le (pos 0) d && (not (int_eq d e) || f))

no_later : (d e : ℤ) → int_lt e (pos 0) ≡ true → int_le (pos 0) d ≡ true → int_le d e ≡ true → ⊥
no_later d e p q r = grind (arith, ints)

no_earlier : (d e : ℤ) → int_le d e ≡ false → int_lt d e ≡ true → ⊥
no_earlier d e p q = grind (arith, ints)

not_both : (d e : ℤ) → int_le e d ≡ true → int_lt d e ≡ true → ⊥
not_both d e p q = grind (arith, ints)

one_of_both : (d e : ℤ) → int_le e d ≡ false → int_lt d e ≡ false → ⊥
one_of_both d e p q = grind (arith, ints)

asks_better : (d e : ℤ) (f : Bool) → asked d e f ≡ int_le (pos 0) d && (int_lt e (pos 0) || (int_lt d e || (int_eq d e && f)))
asks_better d e f = by_chosen (int_lt e (pos 0)) refl (int_le d e) refl (int_le (pos 0) d) refl
  where
    by_rest : (v : Bool) → int_le e d ≡ v → (t : Bool) → int_lt d e ≡ t → (z : Bool) → z && (not v || f) ≡ z && (t || (v && f))
    by_rest true p true q z = absurd (not_both d e p q)
    by_rest true p false q z = refl
    by_rest false p true q z = refl
    by_rest false p false q z = absurd (one_of_both d e p q)

    by_least : (t : Bool) → int_lt d e ≡ t → int_le d e ≡ false → (z : Bool) → false ≡ z && (t || false)
    by_least true q p z = absurd (no_earlier d e p q)
    by_least false q p true = refl
    by_least false q p false = refl

    by_chosen : (x : Bool) → int_lt e (pos 0) ≡ x → (y : Bool) → int_le d e ≡ y → (z : Bool) → int_le (pos 0) d ≡ z
        → (x || y) && (z && (not (y && int_le e d) || f)) ≡ z && (x || (int_lt d e || ((y && int_le e d) && f)))
    by_chosen true p true q true r = absurd (no_later d e p r q)
    by_chosen true p true q false r = refl
    by_chosen true p false q true r = refl
    by_chosen true p false q false r = refl
    by_chosen false p true q z r = by_rest (int_le e d) refl (int_lt d e) refl z
    by_chosen false p false q z r = by_least (int_lt d e) refl q z

-- where the place of port u is told, and the chosen port's date is known
module _ (t : Table) (w : World) (n u b : ℕ) (at : Exp) (s : ShowsTable t n w) (several : 2 ≤ n) (h : u < n) (l : b < n)
    (p : value_of at w ≡ Some (pos u)) (q : get w best 0 ≡ Some (pos b)) (d : get w coming 0 ≡ Some (t.date b)) where
  date_is : value_of (element dates at) w ≡ Some (t.date u)
  date_is = element_is dates at w u (t.date u) p (s.date u h)

  not_later_is : value_of (not_later_exp at) w ≡ Some (truth (int_lt (t.date b) (pos 0) || int_le (t.date u) (t.date b)))
  not_later_is =
      or_is (bin Lt (var coming) (num (pos 0))) (bin Le (element dates at) (var coming)) w (int_lt (t.date b) (pos 0)) (int_le (t.date u) (t.date b))
      (lt_is (var coming) (num (pos 0)) w (t.date b) (pos 0) d refl) (λ _. le_is (element dates at) (var coming) w (t.date u) (t.date b) date_is d)

  sooner_is : value_of (sooner_exp at) w ≡ Some (truth (not (int_eq (t.date u) (t.date b)) || int_lt (t.order u) (t.order b)))
  sooner_is =
      let ou = element_is orders at w u (t.order u) p (s.order several u h) in
      let ob = element_is orders (var best) w b (t.order b) q (s.order several b l) in
      or_is (bin Ne (element dates at) (var coming)) (bin Lt (element orders at) (element orders (var best))) w (not (int_eq (t.date u) (t.date b)))
      (int_lt (t.order u) (t.order b))
      (ne_is (element dates at) (var coming) w (t.date u) (t.date b) date_is d)
      (λ _. lt_is (element orders at) (element orders (var best)) w (t.order u) (t.order b) ou ob)

  better_is : value_of (better_exp at) w ≡ Some (truth (better t u b))
  better_is =
      and_is (not_later_exp at) (bin And (bin Ge (element dates at) (num (pos 0))) (sooner_exp at)) w
      (int_lt (t.date b) (pos 0) || int_le (t.date u) (t.date b))
      (int_le (pos 0) (t.date u) && (not (int_eq (t.date u) (t.date b)) || int_lt (t.order u) (t.order b)))
      not_later_is
      (λ _. and_is (bin Ge (element dates at) (num (pos 0))) (sooner_exp at) w (int_le (pos 0) (t.date u))
      (not (int_eq (t.date u) (t.date b)) || int_lt (t.order u) (t.order b))
      (ge_is (element dates at) (num (pos 0)) w (t.date u) (pos 0) date_is refl) (λ _. sooner_is))
      ∙ ap (λ (r : Bool). Some (truth r)) (asks_better (t.date u) (t.date b) (int_lt (t.order u) (t.order b)))

-- what a turn assigns, and what turns with their counter do
abbrev is_turning : Name → Bool
is_turning x = same_name best x || same_name coming x

abbrev is_looking : Name → Bool
is_looking x = same_name best x || (same_name coming x || same_name scan x)

-- what is known when these ports were looked at
record Scanned (t : Table) (n : ℕ) (ports : ℕ → Type 0) (w : World) : Type 0 where
  pub port : ℕ
  pub within : port < n
  pub best_is : get w best 0 ≡ Some (pos port)
  pub date : get w coming 0 ≡ Some (t.date port)
  pub first : IsFirstOf t ports port
  pub table : ShowsTable t n w

-- ---- what is left alone

pub group_stays : (t : Table) (n g : ℕ) (w w' : World) → get w' fresh g ≡ get w fresh g → get w' firsts g ≡ get w firsts g → ShowsGroup t n g w → ShowsGroup t n g w'
group_stays t n g w w' f p s = (record { holds = s.0.holds; is = p ∙ s.0.is }, by_known s.1)
  where
    by_known : (get w fresh g ≡ Some (pos 0)) ⊎ KnowsGroup t n g w → (get w' fresh g ≡ Some (pos 0)) ⊎ KnowsGroup t n g w'
    by_known (inl e) = inl (f ∙ e)
    by_known (inr k) = inr (record { flag = f ∙ k.flag; port = k.port; is = p ∙ k.is; first = k.first })

-- in a table with the same dates and orders there
pub group_alike : (t t' : Table) (n g : ℕ) (w : World) → ((i : ℕ) → InGroup n g i → t'.date i ≡ t.date i) → ((i : ℕ) → InGroup n g i → t'.order i ≡ t.order i)
    → ShowsGroup t n g w → ShowsGroup t' n g w
group_alike t t' n g w date order s = (s.0, by_known s.1)
  where
    by_known : (get w fresh g ≡ Some (pos 0)) ⊎ KnowsGroup t n g w → (get w fresh g ≡ Some (pos 0)) ⊎ KnowsGroup t' n g w
    by_known (inl e) = inl e
    by_known (inr k) = inr (record { flag = k.flag; port = k.port; is = k.is; first = first_alike t t' (InGroup n g) k.port date order k.first })

pub table_stays : (names : Name → Bool) (t : Table) (n : ℕ) (w w' : World) → LeftAlone (assigns_only names) w w' → names dates ≡ false → names orders ≡ false
    → names fresh ≡ false → names firsts ≡ false → ShowsTable t n w → ShowsTable t n w'
table_stays names t n w w' alone d o f p s = record {
  date = λ j h. alone.same dates j d ∙ s.date j h;
  order = λ m j h. alone.same orders j o ∙ s.order m j h;
  group = λ m g h. group_stays t n g w w' (alone.same fresh g f) (alone.same firsts g p) (s.group m g h);
}

pub wider : (some more : Name → Bool) (w w' : World) → ((y : Name) → more y ≡ false → some y ≡ false) → LeftAlone (assigns_only some) w w'
    → LeftAlone (assigns_only more) w w'
wider some more w w' less h = record { same = λ y j q. h.same y j (less y q); there = h.there; left = h.left }

turning_less : (y : Name) → is_looking y ≡ false → is_turning y ≡ false
turning_less y q = by_tests (same_name best y) (same_name coming y) q
  where
    by_tests : (a b : Bool) → a || (b || same_name scan y) ≡ false → a || b ≡ false
    by_tests true b h = cc
    by_tests false true h = cc
    by_tests false false h = refl

module _ (env : Around) (t : Table) (n : ℕ) where
  -- ---- one turn

  abbrev Turned : (ℕ → Type 0) → World → World → Type 0
  Turned S w w' = Scanned t n S w' × LeftAlone (assigns_only is_turning) w w'

  -- The first of other ports is looked at, whose place is told as long as the turn's own variables alone change.
  turn_leads : (S U : ℕ → Type 0) (u : ℕ) (at : Exp) (k : ℕ) (w : World) → 2 ≤ n → u < n
      → ((w' : World) → LeftAlone (assigns_only is_turning) w w' → value_of at w' ≡ Some (pos u)) → IsFirstOf t U u → Scanned t n S w
      → Leads (run_block env k (choose_turn at) w) (Turned (Either S U) w)
  turn_leads S U u at k w several h told f s = by_test (better t u s.port) refl
    where
      test : value_of (better_exp at) w ≡ Some (truth (better t u s.port))
      test = better_is t w n u s.port at s.table several h s.within (told w (alone_all (assigns_only is_turning) w)) s.best_is s.date

      taken : (w1 w2 : World) → better t u s.port ≡ true → Puts w best 0 (pos u) w1 → Puts w1 coming 0 (t.date u) w2 → Turned (Either S U) w w2
      taken w1 w2 q p1 p2 =
          let alone = alone_then (assigns_only is_turning) w w1 w2 (puts_alone (assigns_only is_turning) w w1 best 0 (pos u) refl p1)
          (puts_alone (assigns_only is_turning) w1 w2 coming 0 (t.date u) refl p2) in (
            record {
              port = u;
              within = h;
              best_is = put_other w1 w2 coming 0 (t.date u) best 0 p2 refl ∙ put_there w w1 best 0 (pos u) p1;
              date = put_there w1 w2 coming 0 (t.date u) p2;
              first = first_of_both t S U s.port u s.first f true q;
              table = table_stays is_turning t n w w2 alone refl refl refl refl s.table;
            },
            alone,
          )

      by_test : (r : Bool) → better t u s.port ≡ r → Leads (run_block env k (choose_turn at) w) (Turned (Either S U) w)
      by_test true q =
          if_runs (λ r. Leads r (Turned (Either S U) w)) env k (better_exp at)
          (next (set (scalar best) at) (next (set (scalar coming) (element dates at)) done)) done done w
          (test ∙ ap (λ (r : Bool). Some (truth r)) q) (λ l m.
          let_runs (λ r. Leads (then_run r (run_block env m done)) (Turned (Either S U) w)) env l best at (next (set (scalar coming) (element dates at)) done) w
          (pos u) (told w (alone_all (assigns_only is_turning) w)) (record { holds = pos s.port; is = s.best_is }) (λ k1 w1 p1.
          let stays = puts_alone (assigns_only is_turning) w w1 best 0 (pos u) refl p1 in
          let_runs (λ r. Leads (then_run r (run_block env m done)) (Turned (Either S U) w)) env k1 coming (element dates at) done w1 (t.date u)
          (element_is dates at w1 u (t.date u) (told w1 stays) (put_other w w1 best 0 (pos u) dates u p1 refl ∙ s.table.date u h))
          (has_puts w w1 best 0 (pos u) coming 0 p1 (record { holds = t.date s.port; is = s.date })) (λ k2 w2 p2.
          done_runs (λ r. Leads r (Turned (Either S U) w)) env k2 w2 (run_block env m done) (done_leads env m w2 (taken w1 w2 q p1 p2)))))
      by_test false q =
          skip_runs (λ r. Leads r (Turned (Either S U) w)) env k (better_exp at)
          (next (set (scalar best) at) (next (set (scalar coming) (element dates at)) done)) done w
          (test ∙ ap (λ (r : Bool). Some (truth r)) q) (λ m.
          done_leads env m w (
            record {
              port = s.port;
              within = s.within;
              best_is = s.best_is;
              date = s.date;
              first = first_of_both t S U s.port u s.first f false q;
              table = s.table;
            },
            alone_all (assigns_only is_turning) w,
          ))

  -- ---- some turns

  -- the ports of a set and of m more
  abbrev Union : (ℕ → Type 0) → (ℕ → ℕ → Type 0) → ℕ → ℕ → Type 0
  Union S U zero = S
  Union S U (suc m) = Either (Union S U m) (U m)

  abbrev Looked : (ℕ → Type 0) → World → World → Type 0
  Looked S w w' = Scanned t n S w' × LeftAlone (assigns_only is_looking) w w'

  -- Of each turn the first of its ports is told by a number, and by the counter.
  module _ (S : ℕ → Type 0) (U : ℕ → ℕ → Type 0) (u : ℕ → ℕ) (place : Exp → Exp) (base m : ℕ) (w : World)
      (several : 1 ≤ m → 2 ≤ n) (within : (j : ℕ) → j < m → u j < n) (firsts_are : (j : ℕ) → j < m → IsFirstOf t (U j) (u j))
      (told : (j : ℕ) → j < m → (e : Exp) (w' : World) → LeftAlone (assigns_only is_looking) w w' → value_of e w' ≡ Some (pos (base + j))
      → value_of (place e) w' ≡ Some (pos (u j))) where
    each_leads : (i : ℕ) → i ≤ m → (k : ℕ) → Scanned t n S w
        → Leads (run_block env k (upto (λ j. choose_turn (place (num (pos (base + j))))) i) w) (Looked (Union S U i) w)
    each_leads zero l k s = done_leads env k w (s, alone_all (assigns_only is_looking) w)
    each_leads (suc i) l k s =
        joined_leads (λ r. Leads r (Looked (Union S U (suc i)) w)) env k (upto (λ j. choose_turn (place (num (pos (base + j))))) i)
        (choose_turn (place (num (pos (base + i))))) w
        (each_leads i (omega (arith, l)) k s) (λ k1 w1 h.
        leads_as (run_block env k1 (choose_turn (place (num (pos (base + i))))) w1)
        (λ w2 r. (r.0, alone_then (assigns_only is_looking) w w1 w2 h.1 (wider is_turning is_looking w1 w2 turning_less r.1)))
        (turn_leads (Union S U i) (U i) (u i) (place (num (pos (base + i)))) k1 w1 (several (omega (arith, l))) (within i l)
        (λ w2 alone. told i l (num (pos (base + i))) w2
        (alone_then (assigns_only is_looking) w w1 w2 h.1 (wider is_turning is_looking w1 w2 turning_less alone)) refl)
        (firsts_are i l) h.0))

    -- the same in a loop
    counted : (i : ℕ) → i < m → base + m < 2 ^ 63 → (v : World) → get v scan 0 ≡ Some (pos i) → value_of (counted_from base) v ≡ Some (pos (base + i))
    counted i l small v is =
        let same : pos i +ℤ pos base ≡ pos (base + i) = omega (arith, ints) in
        add_is (var scan) (num (pos base)) v (pos i) (pos base) is refl (record { above = omega (arith, ints); below = omega (arith, ints, l, small) })
        ∙ ap (λ (z : ℤ). Some z) same

    scan_put : (V : ℕ → Type 0) (v v' : World) (z : ℤ) → Puts v scan 0 z v' → Looked V w v → Looked V w v'
    scan_put V v v' z p h =
        let alone = puts_alone (assigns_only is_looking) v v' scan 0 z refl p in (
          record {
            port = h.0.port;
            within = h.0.within;
            best_is = put_other v v' scan 0 z best 0 p refl ∙ h.0.best_is;
            date = put_other v v' scan 0 z coming 0 p refl ∙ h.0.date;
            first = h.0.first;
            table = table_stays is_looking t n v v' alone refl refl refl refl h.0.table;
          },
          alone_then (assigns_only is_looking) w v v' h.1 alone,
        )

    loop_leads : base + m < 2 ^ 63 → (k : ℕ) → Has w scan 0 → Scanned t n S w
        → Leads (run_block env k (next (loop scan (bounds.Num (pos m)) (choose_turn (place (counted_from base)))) done) w) (Looked (Union S U m) w)
    loop_leads small k there s =
        for_leads env scan (bounds.Num (pos m)) m (choose_turn (place (counted_from base))) (λ i v. Looked (Union S U i) w v) (omega (arith, small)) one_turn
        (λ r. Leads r (Looked (Union S U m) w)) done k w refl there
        (λ v p. scan_put S w v (pos 0) p (s, alone_all (assigns_only is_looking) w)) (λ k' v is h. done_leads env k' v h)
      where
        one_turn : (i : ℕ) → i < m → (k : ℕ) (v : World) → get v scan 0 ≡ Some (pos i) → Looked (Union S U i) w v
            → Leads (run_block env k (choose_turn (place (counted_from base))) v)
            (λ v'. (get v' scan 0 ≡ Some (pos i)) × ((x : World) → Puts v' scan 0 (pos (suc i)) x → Looked (Union S U (suc i)) w x))
        one_turn i l k v is h =
            leads_as (run_block env k (choose_turn (place (counted_from base))) v)
            (λ v' r. (
              r.1.same scan 0 refl ∙ is,
              λ x p. scan_put (Union S U (suc i)) v' x (pos (suc i)) p
                  (r.0, alone_then (assigns_only is_looking) w v v' h.1 (wider is_turning is_looking v v' turning_less r.1)),
            ))
            (turn_leads (Union S U i) (U i) (u i) (place (counted_from base)) k v (several (omega (arith, l))) (within i l)
            (λ v' alone. told i l (counted_from base) v'
            (alone_then (assigns_only is_looking) w v v' h.1 (wider is_turning is_looking v v' turning_less alone))
            (counted i l small v' (alone.same scan 0 refl ∙ is)))
            (firsts_are i l) h.0)

    turns_lead : base + m < 2 ^ 63 → (k : ℕ) → Has w scan 0 → Scanned t n S w
        → Leads (run_block env k (turns_text place base m) w) (Looked (Union S U m) w)
    turns_lead small k there s = by_count (nat_lt 7 m)
      where
        by_count : (many : Bool)
            → Leads (run_block env k (if many then next (loop scan (bounds.Num (pos m)) (choose_turn (place (counted_from base)))) done else
            upto (λ j. choose_turn (place (num (pos (base + j))))) m) w) (Looked (Union S U m) w)
        by_count true = loop_leads small k there s
        by_count false = each_leads m (omega arith) k s

  -- ---- ports that follow one another

  abbrev Span : ℕ → ℕ → ℕ → Type 0
  Span k m i = (k ≤ i) × (i < suc k + m)

  in_span : (k m i : ℕ) → Union (λ i. k ≡ i) (λ j i. suc k + j ≡ i) m i → Span k m i
  in_span k zero i e = (omega (arith, e), omega (arith, e))
  in_span k (suc m) i (inl h) = let r = in_span k m i h in (r.0, omega (arith, r.1))
  in_span k (suc m) i (inr e) = (omega (arith, e), omega (arith, e))

  all_span : (k m i : ℕ) → Span k m i → Union (λ i. k ≡ i) (λ j i. suc k + j ≡ i) m i
  all_span k zero i h = omega (arith, h.0, h.1)
  all_span k (suc m) i h = elim (cases_lt i (suc k + m)) [
    | inl l ↦ inl (all_span k m i (h.0, l))
    | inr l ↦ inr (omega (arith, h.1, l))
  ]

  -- Port k and the m behind it.
  span_leads : (k m number : ℕ) (w : World) → k + m < n → n < 2 ^ 63 → ShowsTable t n w → Has w best 0 → Has w coming 0 → Has w scan 0
      → Leads (run_block env number (span_text k m) w) (Looked (Span k m) w)
  span_leads k m number w l small s hb hc hs =
      let_runs (λ r. Leads r (Looked (Span k m) w)) env number best (num (pos k)) _ w (pos k) refl hb (λ k1 w1 p1.
      let_runs (λ r. Leads r (Looked (Span k m) w)) env k1 coming (element dates (num (pos k))) (turns_text (λ e. e) (suc k) m) w1 (t.date k)
      (element_is dates (num (pos k)) w1 k (t.date k) refl (put_other w w1 best 0 (pos k) dates k p1 refl ∙ s.date k (omega (arith, l))))
      (has_puts w w1 best 0 (pos k) coming 0 p1 hc) (λ k2 w2 p2.
      let alone = begun w1 w2 p1 p2 in
      leads_as (run_block env k2 (turns_text (λ e. e) (suc k) m) w2)
      (λ w3 h. (
        record {
          port = h.0.port;
          within = h.0.within;
          best_is = h.0.best_is;
          date = h.0.date;
          first = first_among t (Union (λ i. k ≡ i) (λ j i. suc k + j ≡ i) m) (Span k m) h.0.port (in_span k m) (all_span k m) h.0.first;
          table = h.0.table;
        },
        alone_then (assigns_only is_looking) w w2 w3 alone h.1,
      ))
      (turns_lead (λ i. k ≡ i) (λ j i. suc k + j ≡ i) (λ j. suc k + j) (λ e. e) (suc k) m w2 (λ some. omega (arith, some, l)) (λ j q. omega (arith, q, l))
      (λ j q. first_of_one t (suc k + j)) (λ j q e w' a is. is) (omega (arith, l, small)) k2 (alone.there scan 0 hs) (record {
        port = k;
        within = omega (arith, l);
        best_is = put_other w1 w2 coming 0 (t.date k) best 0 p2 refl ∙ put_there w w1 best 0 (pos k) p1;
        date = put_there w1 w2 coming 0 (t.date k) p2;
        first = first_of_one t k;
        table = table_stays is_looking t n w w2 alone refl refl refl refl s;
      }))))
    where
      begun : (w1 w2 : World) → Puts w best 0 (pos k) w1 → Puts w1 coming 0 (t.date k) w2 → LeftAlone (assigns_only is_looking) w w2
      begun w1 w2 p1 p2 =
          alone_then (assigns_only is_looking) w w1 w2 (puts_alone (assigns_only is_looking) w w1 best 0 (pos k) refl p1)
          (puts_alone (assigns_only is_looking) w1 w2 coming 0 (t.date k) refl p2)

looking_less : (y : Name) → is_choosing y ≡ false → is_looking y ≡ false
looking_less y q = by_tests (same_name best y) (same_name coming y) (same_name scan y) q
  where
    by_tests : (a b c : Bool) → a || (b || (c || (same_name firsts y || same_name fresh y))) ≡ false → a || (b || c) ≡ false
    by_tests true b c h = cc
    by_tests false true c h = cc
    by_tests false false true h = cc
    by_tests false false false h = refl

-- ---- groups

module _ (env : Around) (t : Table) (n : ℕ) (many : 17 ≤ n) (small : n < 2 ^ 63) where
  -- what is known behind a group's text
  record HasGroup (g : ℕ) (w w' : World) : Type 0 where
    pub table : ShowsTable t n w'
    pub known : KnowsGroup t n g w'
    pub others : (h : ℕ) → (g ≡ h → ⊥) → KnowsGroup t n h w → KnowsGroup t n h w'
    pub rest : LeftAlone (assigns_only is_choosing) w w'

  -- the group's ports are those from its first on
  in_group : (g i : ℕ) → 16 * g < n → Span env t n (16 * g) (others_in n g) i → InGroup n g i
  in_group g i l h = record { least = h.0; most = omega (arith, h.1); within = omega (arith, l, h.1) }

  of_group : (g i : ℕ) → InGroup n g i → Span env t n (16 * g) (others_in n g) i
  of_group g i h = (h.least, omega (arith, h.least, h.most, h.within))

  below : (g : ℕ) → g < group_count n → 16 * g < n
  below g l = omega (arith, l, many)

  group_leads : (g k : ℕ) (w : World) → g < group_count n → ShowsTable t n w → Has w best 0 → Has w coming 0 → Has w scan 0
      → Leads (run_block env k (group_text n g) w) (HasGroup g w)
  group_leads g k w l s hb hc hs = by_flag (s.group many g l).1
    where
      flag_is : (z : ℤ) → get w fresh g ≡ Some z → value_of (unknown_exp g) w ≡ Some (truth (int_eq z (pos 0)))
      flag_is z e = eq_is (element fresh (num (pos g))) (num (pos 0)) w z (pos 0) (element_is fresh (num (pos g)) w g z refl e) refl

      by_flag : (get w fresh g ≡ Some (pos 0)) ⊎ KnowsGroup t n g w → Leads (run_block env k (group_text n g) w) (HasGroup g w)
      by_flag (inr known) =
          skip_runs (λ r. Leads r (HasGroup g w)) env k (unknown_exp g) (worked_text n g) done w (flag_is (pos 1) known.flag) (λ m.
          done_leads env m w (record { table = s; known = known; others = λ h q known. known; rest = alone_all (assigns_only is_choosing) w }))
      by_flag (inl unknown) =
          if_runs (λ r. Leads r (HasGroup g w)) env k (unknown_exp g) (worked_text n g) done done w (flag_is (pos 0) unknown) (λ k1 m.
          joined_leads (λ r. Leads (then_run r (run_block env m done)) (HasGroup g w)) env k1 (span_text (16 * g) (others_in n g))
          (next (set (cell firsts (num (pos g))) (var best)) (next (set (cell fresh (num (pos g))) (num (pos 1))) done)) w
          (span_leads env t n (16 * g) (others_in n g) k1 w (let q = below g l in omega (arith, q)) small s hb hc hs) (λ k2 w2 h.
          let flag : Has w2 fresh g = record { holds = pos 0; is = h.1.same fresh g refl ∙ unknown } in
          cell_runs (λ r. Leads (then_run r (run_block env m done)) (HasGroup g w)) env k2 firsts g (var best) _ w2 (pos h.0.port) h.0.best_is
          (h.1.there firsts g (s.group many g l).0) (λ k3 w3 p3.
          cell_runs (λ r. Leads (then_run r (run_block env m done)) (HasGroup g w)) env k3 fresh g (num (pos 1)) done w3 (pos 1) refl
          (has_puts w2 w3 firsts g (pos h.0.port) fresh g p3 flag) (λ k4 w4 p4.
          done_runs (λ r. Leads r (HasGroup g w)) env k4 w4 (run_block env m done) (done_leads env m w4 (made w2 w3 w4 h p3 p4))))))
        where
          made : (w2 w3 w4 : World) (h : Looked env t n (Span env t n (16 * g) (others_in n g)) w w2) → Puts w2 firsts g (pos h.0.port) w3 → Puts w3 fresh g (pos 1) w4
              → HasGroup g w w4
          made w2 w3 w4 h p3 p4 = record {
            table = record {
              date = λ j q. alone.same dates j refl ∙ h.0.table.date j q;
              order = λ m j q. alone.same orders j refl ∙ h.0.table.order m j q;
              group = λ m i q. by_group i (h.0.table.group m i q) (cases_eq g i);
            };
            known = own;
            others = λ i q known. apart i q (again i known);
            rest = alone_then (assigns_only is_choosing) w w2 w4 (wider is_looking is_choosing w w2 looking_less h.1) alone;
          }
            where
              alone : LeftAlone (assigns_only is_choosing) w2 w4
              alone =
                  alone_then (assigns_only is_choosing) w2 w3 w4 (puts_alone (assigns_only is_choosing) w2 w3 firsts g (pos h.0.port) refl p3)
                  (puts_alone (assigns_only is_choosing) w3 w4 fresh g (pos 1) refl p4)

              own : KnowsGroup t n g w4
              own = record {
                flag = put_there w3 w4 fresh g (pos 1) p4;
                port = h.0.port;
                is = put_other w3 w4 fresh g (pos 1) firsts g p4 refl ∙ put_there w2 w3 firsts g (pos h.0.port) p3;
                first = first_among t (Span env t n (16 * g) (others_in n g)) (InGroup n g) h.0.port (λ i. in_group g i (below g l)) (of_group g) h.0.first;
              }

              flag_same : (i : ℕ) → (g ≡ i → ⊥) → get w4 fresh i ≡ get w2 fresh i
              flag_same i q = put_apart w3 w4 fresh g (pos 1) fresh i p4 q ∙ put_other w2 w3 firsts g (pos h.0.port) fresh i p3 refl

              port_same : (i : ℕ) → (g ≡ i → ⊥) → get w4 firsts i ≡ get w2 firsts i
              port_same i q = put_other w3 w4 fresh g (pos 1) firsts i p4 refl ∙ put_apart w2 w3 firsts g (pos h.0.port) firsts i p3 q

              apart : (i : ℕ) → (g ≡ i → ⊥) → KnowsGroup t n i w2 → KnowsGroup t n i w4
              apart i q known = record { flag = flag_same i q ∙ known.flag; port = known.port; is = port_same i q ∙ known.is; first = known.first }

              again : (i : ℕ) → KnowsGroup t n i w → KnowsGroup t n i w2
              again i known =
                  record { flag = h.1.same fresh i refl ∙ known.flag; port = known.port; is = h.1.same firsts i refl ∙ known.is; first = known.first }

              by_group : (i : ℕ) → ShowsGroup t n i w2 → (g ≡ i) ⊎ (g ≡ i → ⊥) → ShowsGroup t n i w4
              by_group i s (inl e) =
                  subst (λ (j : ℕ). ShowsGroup t n j w4) e
                  (record { holds = pos h.0.port; is = put_other w3 w4 fresh g (pos 1) firsts g p4 refl ∙ put_there w2 w3 firsts g (pos h.0.port) p3 }, inr own)
              by_group i s (inr q) = group_stays t n i w2 w4 (flag_same i q) (port_same i q) s

  -- the first groups are known
  record HasGroups (count : ℕ) (w w' : World) : Type 0 where
    pub table : ShowsTable t n w'
    pub known : (g : ℕ) → g < count → KnowsGroup t n g w'
    pub rest : LeftAlone (assigns_only is_choosing) w w'

  all_leads : (count k : ℕ) (w : World) → count ≤ group_count n → ShowsTable t n w → Has w best 0 → Has w coming 0 → Has w scan 0
      → Leads (run_block env k (upto (group_text n) count) w) (HasGroups count w)
  all_leads zero k w l s hb hc hs =
      done_leads env k w (record { table = s; known = λ g q. absurd (omega (arith, q)); rest = alone_all (assigns_only is_choosing) w })
  all_leads (suc count) k w l s hb hc hs =
      joined_leads (λ r. Leads r (HasGroups (suc count) w)) env k (upto (group_text n) count) (group_text n count) w
      (all_leads count k w (omega (arith, l)) s hb hc hs) (λ k1 w1 h.
      leads_as (run_block env k1 (group_text n count) w1)
      (λ w2 r. record {
        table = r.table;
        known = λ g q. one_more w1 w2 h r g q (cases_eq count g);
        rest = alone_then (assigns_only is_choosing) w w1 w2 h.rest r.rest;
      })
      (group_leads count k1 w1 l h.table (h.rest.there best 0 hb) (h.rest.there coming 0 hc) (h.rest.there scan 0 hs)))
    where
      one_more : (w1 w2 : World) → HasGroups count w w1 → HasGroup count w1 w2 → (g : ℕ) → g < suc count → (count ≡ g) ⊎ (count ≡ g → ⊥) → KnowsGroup t n g w2
      one_more w1 w2 h r g q (inl e) = subst (λ (j : ℕ). KnowsGroup t n j w2) e r.known
      one_more w1 w2 h r g q (inr e) = r.others g e (h.known g (omega (arith, q, e)))

  -- ---- the first of all

  abbrev number_in : Option ℤ → ℕ
  number_in (Some (pos p)) = p
  number_in _ = 0

  in_groups : (m i : ℕ) → Union env t n (InGroup n 0) (λ j. InGroup n (1 + j)) m i → i < n
  in_groups zero i h = h.within
  in_groups (suc m) i (inl h) = in_groups m i h
  in_groups (suc m) i (inr h) = h.within

  all_groups : (m i : ℕ) → i < n → i < 16 * m + 16 → Union env t n (InGroup n 0) (λ j. InGroup n (1 + j)) m i
  all_groups zero i l q = record { least = omega arith; most = omega (arith, q); within = l }
  all_groups (suc m) i l q = elim (cases_lt i (16 * m + 16)) [
    | inl r ↦ inl (all_groups m i l r)
    | inr r ↦ inr (record { least = omega (arith, r); most = omega (arith, q); within = l })
  ]

  abbrev Found : World → World → Type 0
  Found w w' = Scanned t n (Below n) w' × LeftAlone (assigns_only is_choosing) w w'

  groups_lead : (k : ℕ) (w : World) → ShowsTable t n w → Has w best 0 → Has w coming 0 → Has w scan 0
      → Leads (run_block env k (groups_text n) w) (Found w)
  groups_lead k w s hb hc hs =
      joined_leads (λ r. Leads r (Found w)) env k (upto (group_text n) (group_count n))
      (next (set (scalar best) (first_of (num (pos 0)))) (next (set (scalar coming) (element dates (var best))) (turns_text first_of 1 (group_count n - 1)))) w
      (all_leads (group_count n) k w (omega arith) s hb hc hs) (λ k1 w1 h.
      let start = h.known 0 (omega arith) in
      let_runs (λ r. Leads r (Found w)) env k1 best (first_of (num (pos 0))) _ w1 (pos start.port) (element_is firsts (num (pos 0)) w1 0 (pos start.port) refl start.is)
      (h.rest.there best 0 hb) (λ k2 w2 p2.
      let best_is = put_there w1 w2 best 0 (pos start.port) p2 in
      let_runs (λ r. Leads r (Found w)) env k2 coming (element dates (var best)) (turns_text first_of 1 (group_count n - 1)) w2 (t.date start.port)
      (element_is dates (var best) w2 start.port (t.date start.port) best_is
      (put_other w1 w2 best 0 (pos start.port) dates start.port p2 refl ∙ h.table.date start.port start.first.among.within))
      (has_puts w1 w2 best 0 (pos start.port) coming 0 p2 (h.rest.there coming 0 hc)) (λ k3 w3 p3.
      let looked = alone_then (assigns_only is_looking) w1 w2 w3 (puts_alone (assigns_only is_looking) w1 w2 best 0 (pos start.port) refl p2)
      (puts_alone (assigns_only is_looking) w2 w3 coming 0 (t.date start.port) refl p3) in
      leads_as (run_block env k3 (turns_text first_of 1 (group_count n - 1)) w3)
      (λ w4 r. (
        record {
          port = r.0.port;
          within = r.0.within;
          best_is = r.0.best_is;
          date = r.0.date;
          first = first_among t (Union env t n (InGroup n 0) (λ j. InGroup n (1 + j)) (group_count n - 1)) (Below n) r.0.port
              (in_groups (group_count n - 1)) (λ i l. all_groups (group_count n - 1) i l (omega (arith, l))) r.0.first;
          table = r.0.table;
        },
        alone_then (assigns_only is_choosing) w w1 w4 h.rest
            (wider is_looking is_choosing w1 w4 looking_less (alone_then (assigns_only is_looking) w1 w3 w4 looked r.1)),
      ))
      (turns_lead env t n (InGroup n 0) (λ j. InGroup n (1 + j)) (λ j. number_in (get w3 firsts (1 + j))) first_of 1 (group_count n - 1) w3
      (λ some. omega (arith, many))
      (λ j q. (again w1 w3 h looked j q).0.among.within)
      (λ j q. (again w1 w3 h looked j q).0)
      (λ j q e w' a is. element_is firsts e w' (1 + j) (pos (number_in (get w3 firsts (1 + j)))) is (a.same firsts (1 + j) refl ∙ (again w1 w3 h looked j q).1))
      (omega (arith, small)) k3 (looked.there scan 0 (h.rest.there scan 0 hs)) (record {
        port = start.port;
        within = start.first.among.within;
        best_is = put_other w2 w3 coming 0 (t.date start.port) best 0 p3 refl ∙ best_is;
        date = put_there w2 w3 coming 0 (t.date start.port) p3;
        first = start.first;
        table = table_stays is_looking t n w1 w3 looked refl refl refl refl h.table;
      })))))
    where
      -- the first of a group, as memory holds it
      again : (w1 w3 : World) → HasGroups (group_count n) w w1 → LeftAlone (assigns_only is_looking) w1 w3 → (j : ℕ) → j < group_count n - 1
          → IsFirstOf t (InGroup n (1 + j)) (number_in (get w3 firsts (1 + j)))
          × (get w3 firsts (1 + j) ≡ Some (pos (number_in (get w3 firsts (1 + j)))))
      again w1 w3 h looked j q =
          let known = h.known (1 + j) (omega (arith, q)) in
          let there : get w3 firsts (1 + j) ≡ Some (pos known.port) = looked.same firsts (1 + j) refl ∙ known.is in
          let same : number_in (get w3 firsts (1 + j)) ≡ known.port = ap number_in there in (
            subst (λ (p : ℕ). IsFirstOf t (InGroup n (1 + j)) p) (sym same) known.first,
            there ∙ ap (λ (p : ℕ). Some (pos p)) (sym same),
          )

-- ---- all ports

-- the chosen port and its date are known
pub record HasFound (t : Table) (n : ℕ) (w0 w : World) : Type 0 where
  pub port : ℕ
  pub best_is : get w best 0 ≡ Some (pos port)
  pub date : get w coming 0 ≡ Some (t.date port)
  pub first : IsFirstOf t (Below n) port
  pub table : ShowsTable t n w
  pub rest : LeftAlone (assigns_only is_choosing) w0 w

-- The text leaves the number of the chosen port and its date.
pub choose_leads : (env : Around) (t : Table) (n k : ℕ) (w : World) → 1 ≤ n → n < 2 ^ 63 → ShowsTable t n w → Has w best 0 → Has w coming 0 → Has w scan 0
    → Leads (run_block env k (choose_text n) w) (HasFound t n w)
choose_leads env t n k w some small s hb hc hs = by_count (are_grouped n) refl
  where
    span_all : (i : ℕ) → Span env t n 0 (n - 1) i → i < n
    span_all i h = omega (arith, some, h.1)

    all_span : (i : ℕ) → i < n → Span env t n 0 (n - 1) i
    all_span i l = (omega arith, omega (arith, l))

    by_count : (many : Bool) → are_grouped n ≡ many → Leads (run_block env k (if many then groups_text n else span_text 0 (n - 1)) w) (HasFound t n w)
    by_count true q =
        leads_as (run_block env k (groups_text n) w)
        (λ w' h. record {
          port = h.0.port;
          best_is = h.0.best_is;
          date = h.0.date;
          first = h.0.first;
          table = h.0.table;
          rest = h.1;
        })
        (groups_lead env t n (ltb-true 16 n q) small k w s hb hc hs)
    by_count false q =
        leads_as (run_block env k (span_text 0 (n - 1)) w)
        (λ w' h. record {
          port = h.0.port;
          best_is = h.0.best_is;
          date = h.0.date;
          first = first_among t (Span env t n 0 (n - 1)) (Below n) h.0.port span_all all_span h.0.first;
          table = h.0.table;
          rest = wider is_looking is_choosing w w' looking_less h.1;
        })
        (span_leads env t n 0 (n - 1) k w (omega (arith, some)) small s hb hc hs)
