-- What is pending, listed from an agenda and programmed anew.
use Rattle.std.proofs.Common.{◌≡◌, ◌≢◌, ◌==◌, ◌||◌, ℕ, zero, suc, ◌+◌, ◌-◌, ◌<◌, ◌≤◌, Bool, true, false, ℤ, pos, List, [], ◌∷◌, ◌++◌, All, map, length, get_or, drop, Some, if◌then◌else◌, refl, sym, ◌∙◌, ap, subst, append_assoc, arith}
use Rattle.std.specs.Prelude.{not}
use Rattle.std.specs.List.{AllByRecursion}
use Rattle.std.proofs.lemmas.Bool.Decides.{nat_tests}
use Rattle.std.proofs.lemmas.List.{drop_more}
use Rattle.sci_net.specs.Parts.{Parts}
use Rattle.sci_net.specs.Sources.{sources_of}
use Rattle.sci_pending.specs.Pending.{Event, Pending, is_pending, programmed, without_source, replaced}
use Rattle.sci_pending.specs.Order.{in_order}
use Rattle.sci_agenda.specs.Firing.{Meaning, first, taken_from, after_take}
use Rattle.sci_run.specs.Anew.{programmed_in_order, numbered_anew, Rises}
use Rattle.sci_run.specs.Programs.{with_delay}
use Rattle.sci_save.specs.Valid.{IsNear, AreOnce, ArePending}
use Rattle.sci_sim.specs.Programming.{less, Keeps}
use Rattle.sci_sim.specs.Saving.{more}
use Rattle.sci_sim.proofs.Programs.{AreFrom, from_sorted}

-- ---- listed from an agenda

more_less : (offset : ℕ) (es : List (ℕ × ℕ)) → AreFrom offset es → map (more offset) (map (less offset) es) ≡ es
more_less offset [] h = refl
more_less offset (e ∷ es) h =
    let same : e.0 - offset + offset ≡ e.0 = let l = h.0 in omega arith in
    ap (λ (d : ℕ). (d, e.1) ∷ map (more offset) (map (less offset) es)) same ∙ ap (λ (l : List (ℕ × ℕ)). e ∷ l) (more_less offset es h.1)

-- what an agenda has, with its dates moved back, is what is pending
pub listed_is : (n : Parts) (offset now : ℕ) (m : Meaning) (puts : ℕ) (p : Pending) → Keeps n offset now m puts p → map (more offset) m.events ≡ in_order p.events
listed_is n offset now m puts p keeps =
    ap (map (more offset)) keeps.events
    ∙ more_less offset (in_order p.events) (from_sorted offset p.events (λ k e l. let a = (keeps.pending.ahead k e l).not_past in let past = keeps.past in omega (arith, a, past)))

-- one event more is taken out
taken_by : (offset : ℕ) (m : Meaning) (e : ℕ × ℕ) (es : List (ℕ × ℕ)) (out : List (ℕ × ℕ)) → m.events ≡ es → Some e ≡ first es
    → ((out ++ (e.0 + offset, e.1) ∷ []) ++ map (more offset) (taken_from m es).events ≡ out ++ map (more offset) es) × (length (taken_from m es).events < length es)
taken_by offset m e [] out is h = absurd cc
taken_by offset m e (x ∷ xs) out is h =
    let same : x ≡ e = cc in
    let less : length xs < length (x ∷ xs) = omega arith in
    (append_assoc out ((e.0 + offset, e.1) ∷ []) (map (more offset) xs) ∙ ap (λ (y : ℕ × ℕ). out ++ more offset y ∷ map (more offset) xs) (sym same), less)

pub taken_out : (offset : ℕ) (m new : Meaning) (e : ℕ × ℕ) (out more_out all : List (ℕ × ℕ)) → Some e ≡ first m.events → new ≡ after_take m → more_out ≡ out ++ (e.0 + offset, e.1) ∷ []
    → out ++ map (more offset) m.events ≡ all → more_out ++ map (more offset) new.events ≡ all
taken_out offset m new e out more_out all h left pushed before =
    ap (λ (l : List (ℕ × ℕ)). l ++ map (more offset) new.events) pushed
    ∙ (ap (λ (w : Meaning). (out ++ (e.0 + offset, e.1) ∷ []) ++ map (more offset) w.events) left
    ∙ ((taken_by offset m e m.events out refl h).0 ∙ before))

small_by : (offset : ℕ) (m : Meaning) (es : List (ℕ × ℕ)) → m.events ≡ es → All (λ (e : ℕ × ℕ). e.0 + offset < 18446744073709551616) es
    → All (λ (e : ℕ × ℕ). e.0 + offset < 18446744073709551616) (taken_from m es).events
small_by offset m [] is h = subst (All (λ (e : ℕ × ℕ). e.0 + offset < 18446744073709551616)) (sym is) h
small_by offset m (x ∷ xs) is h = λ k d l. h (suc k) d (omega (arith, l))

pub small_left : (offset : ℕ) (m new : Meaning) → new ≡ after_take m → All (λ (e : ℕ × ℕ). e.0 + offset < 18446744073709551616) m.events
    → All (λ (e : ℕ × ℕ). e.0 + offset < 18446744073709551616) new.events
small_left offset m new left h = subst (λ (w : Meaning). All (λ (e : ℕ × ℕ). e.0 + offset < 18446744073709551616) w.events) (sym left) (small_by offset m m.events refl h)

-- ---- programmed anew

-- of none of these sources an event is pending
abbrev pub AreFree : Pending → List (ℕ × ℕ) → Type 0
AreFree p ds = AllByRecursion (λ (d : ℕ × ℕ). is_pending d.1 p.events ≡ false) ds

-- these are left to program, so that all are then as they are numbered anew
pub record IsProgrammedTo (n : Parts) (now : ℕ) (all rest : List (ℕ × ℕ)) (m : Meaning) (puts : ℕ) : Type 0 where
  pub p : Pending
  pub keeps : Keeps n now (0 + now) m puts p
  pub left : programmed_in_order rest p ≡ numbered_anew all
  pub free : AreFree p rest
  pub date : ℕ
  pub from : now ≤ date
  pub rises : Rises date rest
  pub near : AllByRecursion (IsNear n now) rest
  pub once : AreOnce rest

free_of_none : (k : ℕ) (ds : List (ℕ × ℕ)) → AreFree (record { events = []; programmed = k }) ds
free_of_none k [] = tt
free_of_none k (d ∷ ds) = (refl, free_of_none k ds)

pub programmed_none : (n : Parts) (now : ℕ) (ds : List (ℕ × ℕ)) (m : Meaning) (puts : ℕ) → m ≡ record { events = []; now = 0; ports = length (sources_of n) - 1 } → puts ≡ 0
    → ArePending n now ds → IsProgrammedTo n now ds (drop 0 ds) m puts
programmed_none n now ds m puts e z a = record {
  p = record { events = []; programmed = 0 };
  keeps = subst (λ (w : Meaning). Keeps n now (0 + now) w puts (record { events = []; programmed = 0 })) (sym e)
      (record {
        ports = omega arith;
        past = omega arith;
        date = omega arith;
        pending = record { numbered = tt; once = tt; ahead = λ k d l. absurd (omega (arith, l)) };
        events = refl;
        counted = omega arith;
      });
  left = refl;
  free = free_of_none 0 ds;
  date = now;
  from = omega arith;
  rises = a.rises;
  near = a.near;
  once = a.once;
}

neither : (a b : Bool) → (a || b) ≡ false → (a ≡ false) × (b ≡ false)
neither true b h = absurd cc
neither false b h = (refl, h)

-- a source of which nothing is pending
without_none : (s : ℕ) (es : List Event) → is_pending s es ≡ false → without_source s es ≡ es
without_none s [] h = refl
without_none s (e ∷ es) h =
    let b = neither (e.source == s) (is_pending s es) h in
    ap (λ (t : Bool). if not t then e ∷ without_source s es else without_source s es) b.0 ∙ ap (λ (l : List Event). e ∷ l) (without_none s es b.1)

replaced_none : (p : Pending) (date s : ℕ) → is_pending s p.events ≡ false → replaced p date s ≡ programmed p date s
replaced_none p date s h = ap (λ (es : List Event). programmed (record p { events = es }) date s) (without_none s p.events h)

eqb_no : (a b : ℕ) → b ≢ a → (a == b) ≡ false
eqb_no a b h = grind (arith, nat_tests)

free_more : (p : Pending) (date s : ℕ) (ds : List (ℕ × ℕ)) → AllByRecursion (λ (e : ℕ × ℕ). e.1 ≢ s) ds → AreFree p ds → AreFree (programmed p date s) ds
free_more p date s [] o f = tt
free_more p date s (d ∷ ds) o f = (ap (λ (t : Bool). t || is_pending d.1 p.events) (eqb_no s d.1 o.0) ∙ f.0, free_more p date s ds o.1 f.1)

module _ (n : Parts) (now : ℕ) (all : List (ℕ × ℕ)) (i : ℕ) (d : ℕ × ℕ) (within : i < length all) (m : Meaning) (puts : ℕ) (h : IsProgrammedTo n now all (drop i all) m puts) where
  record Next : Type 0 where
    left : programmed_in_order (drop (i + 1) all) (programmed h.p (get_or all i d).0 (get_or all i d).1) ≡ numbered_anew all
    free_here : is_pending (get_or all i d).1 h.p.events ≡ false
    free : AreFree h.p (drop (i + 1) all)
    from : now ≤ (get_or all i d).0
    rises : Rises (get_or all i d).0 (drop (i + 1) all)
    near_here : IsNear n now (get_or all i d)
    near : AllByRecursion (IsNear n now) (drop (i + 1) all)
    once_here : AllByRecursion (λ (e : ℕ × ℕ). e.1 ≢ (get_or all i d).1) (drop (i + 1) all)
    once : AreOnce (drop (i + 1) all)

  next : Next
  next =
      let e = drop_more all i d within in
      let left = subst (λ l. programmed_in_order l h.p ≡ numbered_anew all) e h.left in
      let free = subst (λ l. AreFree h.p l) e h.free in
      let rises = subst (λ l. Rises h.date l) e h.rises in
      let near = subst (λ l. AllByRecursion (IsNear n now) l) e h.near in
      let once = subst (λ l. AreOnce l) e h.once in
      let from = h.from in
      let later = rises.0 in
      record {
        left = left;
        free_here = free.0;
        free = free.1;
        from = omega (arith, from, later);
        rises = rises.1;
        near_here = near.0;
        near = near.1;
        once_here = once.0;
        once = once.1;
      }

  -- how long until it is due
  pub past_now : now ≤ (get_or all i d).0
  past_now = next.from

  pub near_now : (get_or all i d).0 - now < 2147483648
  near_now = let l = next.near_here.near in let f = next.from in omega (arith, l, f)

  pub some_source : 1 ≤ (get_or all i d).1
  some_source = next.near_here.not_start

  pub source_within : (get_or all i d).1 ≤ m.ports
  source_within = let s = next.near_here.source in let p = h.keeps.ports in omega (arith, s, p)

  pub programmed_more : (delay : ℤ) (new : Meaning) (count : ℕ) → delay ≡ pos ((get_or all i d).0 - now) → Keeps n now (0 + now) new count (with_delay (0 + now) (get_or all i d).1 delay h.p)
      → IsProgrammedTo n now all (drop (i + 1) all) new count
  programmed_more delay new count delayed keeps =
      let x = get_or all i d in
      let same : 0 + now + (x.0 - now) ≡ x.0 = let f = next.from in omega (arith, f) in
      let is : replaced h.p (0 + now + (x.0 - now)) x.1 ≡ programmed h.p x.0 x.1 = ap (λ t. replaced h.p t x.1) same ∙ replaced_none h.p x.0 x.1 next.free_here in
      record {
        p = programmed h.p x.0 x.1;
        keeps = subst (λ p. Keeps n now (0 + now) new count p) (ap (λ (t : ℤ). with_delay (0 + now) x.1 t h.p) delayed ∙ is) keeps;
        left = next.left;
        free = free_more h.p x.0 x.1 (drop (i + 1) all) next.once_here next.free;
        date = x.0;
        from = next.from;
        rises = next.rises;
        near = next.near;
        once = next.once;
      }

past_all : {A : Type 0} (i : ℕ) (xs : List A) → length xs ≤ i → drop i xs ≡ []
past_all zero [] h = refl
past_all zero (x ∷ xs) h = absurd (omega (arith, h))
past_all (suc i) [] h = refl
past_all (suc i) (x ∷ xs) h = past_all i xs (omega (arith, h))

pub programmed_all : (n : Parts) (now : ℕ) (all : List (ℕ × ℕ)) (i : ℕ) (m : Meaning) (puts : ℕ) → length all ≤ i → IsProgrammedTo n now all (drop i all) m puts
    → Keeps n now now m puts (numbered_anew all)
programmed_all n now all i m puts past h =
    let e = subst (λ l. programmed_in_order l h.p ≡ numbered_anew all) (past_all i all past) h.left in
    let same : 0 + now ≡ now = omega arith in
    subst (λ t. Keeps n now t m puts (numbered_anew all)) same (subst (λ p. Keeps n now (0 + now) m puts p) e h.keeps)
