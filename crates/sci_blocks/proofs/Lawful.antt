-- Diagrams that are read have short lists; the names of pass-through objects; the first number that breaks the rule on ports.
use Rattle.std.proofs.Common.{◌≡◌, ℕ, zero, suc, ◌+◌, ◌-◌, ◌<◌, ◌≤◌, ◌^◌, List, [], ◌∷◌, length, codes, min, Bool, true, false, cond, ◌||◌, Option, Some, None, Ok, Err, refl, sym, ap, ◌∙◌, subst, inl, inr, arith}
use Rattle.std.specs.Prelude.{nat_eq, nat_lt, nat_le, filter, is_some}
use Rattle.std.specs.Str.{bytes_eq, is_utf8}
use Rattle.std.proofs.lemmas.Bool.{eqb-true, eqb-false, ltb-true, ltb-false, le-leb, lt-leb, ne_eqb, eq-eqb, cases_lt}
use Rattle.serde_json.specs.Data.{Data}
use Rattle.serde_json.specs.Read.{read}
use Rattle.sci_base.specs.Plain.{Violation}
use Rattle.sci_diagram.specs.Count.{objects_in, objects_within, blocks_in, links_in, counted}
use Rattle.sci_diagram.specs.Objects.{Object, block, superblock, link, text, deleted, Objects, no_objects, object, listed}
use Rattle.sci_diagram.specs.Reading.{value_of, judge, judge_value}
use Rattle.sci_diagram.specs.Tree.{tree}
use Rattle.sci_diagram.proofs.Bytes.{read_weighs}
use Rattle.sci_diagram.proofs.Few.{few_objects}
use Rattle.sci_forms.specs.Forms.{first_not, unless, or_else, given}
use Rattle.sci_blocks.specs.declared.class.PortClass.TheVariants.{Input, Output, ActivationInput, ActivationOutput}
use Rattle.sci_blocks.specs.declared.class.LinkType.TheVariants.{Regular, Activation}
use Rattle.sci_blocks.specs.declared.pass_through.PassThrough.{PassThrough}
use Rattle.sci_blocks.specs.declared.pass_through.PassThrough.TheVariants.{Split, ActivationSplit, Union, PortBlock, Giver, Taker}
use Rattle.sci_blocks.specs.Laws.{ReadLaw, NamesLaw, NumbersLaw, IsFirstBroken, wanted}
use Rattle.sci_blocks.specs.Ports.{times, least, least_of, is_once}
use Rattle.sci_blocks.specs.Sizes.{AreInsidesShort, IsInsideShort, AreListsShort}
use Rattle.sci_blocks.proofs.Keeping.{before, all_pass, none_above, none_least}

-- ---- short lists

mutual
  listed-short : (os : Objects) → length (listed os) ≤ objects_in os
  listed-short no_objects = omega arith
  listed-short (object o os) = omega (arith, one_within o, listed-short os)

  one_within : (o : Object) → 1 ≤ objects_within o
  one_within (block gui f) = omega arith
  one_within (superblock gui f os) = omega (arith, listed-short os)
  one_within (link from to kind) = omega arith
  one_within text = omega arith
  one_within deleted = omega arith

mutual
  insides_short : (os : Objects) → objects_in os < 2 ^ 32 → AreInsidesShort os
  insides_short no_objects h = tt
  insides_short (object o os) h = (inside_short o (omega arith), insides_short os (omega arith))

  inside_short : (o : Object) → objects_within o < 2 ^ 32 → IsInsideShort o
  inside_short (block gui f) h = tt
  inside_short (superblock gui f os) h = (omega (arith, h, listed-short os), insides_short os (omega arith))
  inside_short (link from to kind) h = tt
  inside_short text h = tt
  inside_short deleted h = tt

lists_short : (os : Objects) → objects_in os < 2 ^ 32 → AreListsShort os
lists_short os h = (omega (arith, h, listed-short os), insides_short os h)

within_limits : (a b : Bool) (d r : Objects) (e f : Violation) → cond a (cond b (Ok d) (Err e)) (Err f) ≡ Ok r → d ≡ r
within_limits true true d r e f h = cc
within_limits true false d r e f h = cc
within_limits false b d r e f h = cc

counted_same : (d r : Objects) → counted d ≡ Ok r → d ≡ r
unfolding counted
counted_same d r h = within_limits (nat_le (blocks_in d) 2048) (nat_le (links_in d) 16384) d r _ _ h

text_read : (b : Bool) (o : Option Data) (d : Data) → cond b o None ≡ Some d → o ≡ Some d
text_read true o d h = h
text_read false o d h = cc

pub read_law : ReadLaw
unfolding judge
read_law bytes d small h = from (value_of bytes) refl h
  where
    from : (o : Option Data) → value_of bytes ≡ o → judge_value o ≡ Ok d → AreListsShort d
    from None e q = cc
    from (Some v) e q =
        let a = before (tree v) counted d q in
        let few = few_objects 16 [] v a.0 a.1 in
        let light = read_weighs bytes v (text_read (is_utf8 bytes) (read bytes) v e) in
        subst AreListsShort (counted_same a.0 d a.2) (lists_short a.0 (omega (arith, few, light, small)))

-- ---- names

picked : (b : Bool) (p : PassThrough) (o : Option PassThrough) → is_some (cond b (Some p) o) ≡ (b || is_some o)
picked true p o = refl
picked false p o = refl

joints_first : (a b c d q : Bool) → (a || (b || ((c || d) || q))) ≡ ((((a || b) || c) || d) || q)
joints_first true b c d q = refl
joints_first false true c d q = refl
joints_first false false true d q = refl
joints_first false false false d q = refl

in_order : (a b c d q : Bool) → (a || (b || (c || (d || q)))) ≡ ((((a || b) || c) || d) || q)
in_order true b c d q = refl
in_order false true c d q = refl
in_order false false true d q = refl
in_order false false false true q = refl
in_order false false false false q = refl

or_last : (q : Bool) → (q || false) ≡ q
or_last true = refl
or_last false = refl

ports_before : (j p t : Bool) → (j || (p || t)) ≡ ((p || j) || t)
ports_before true true t = refl
ports_before true false t = refl
ports_before false true t = refl
ports_before false false t = refl

tags : Bool → Bool → Bool → Bool → Option PassThrough
tags g f h m = cond g (Some (Giver Regular)) (cond f (Some (Taker Regular)) (cond h (Some (Giver Activation)) (cond m (Some (Taker Activation)) None)))

a_tag : (g f h m : Bool) → is_some (tags g f h m) ≡ (((g || f) || h) || m)
unfolding tags
a_tag g f h m =
    let found : is_some (cond g (Some (Giver Regular)) (cond f (Some (Taker Regular)) (cond h (Some (Giver Activation)) (cond m (Some (Taker Activation)) None)))) ≡ (g || (f || (h || (m || false)))) = simp picked in
    found ∙ in_order g f h m false ∙ or_last _

chosen : (a b c d i o k l : Bool) (t : Option PassThrough) (q : Bool) → is_some t ≡ q
    → is_some (cond a (Some Split) (cond b (Some ActivationSplit) (cond (c || d) (Some Union) (cond i (Some (PortBlock Input)) (cond o (Some (PortBlock Output)) (cond k (Some (PortBlock ActivationInput)) (cond l (Some (PortBlock ActivationOutput)) t)))))))
    ≡ (((((i || o) || k) || l) || (((a || b) || c) || d)) || q)
chosen a b c d i o k l t q is =
    let found : is_some (cond a (Some Split) (cond b (Some ActivationSplit) (cond (c || d) (Some Union) (cond i (Some (PortBlock Input)) (cond o (Some (PortBlock Output)) (cond k (Some (PortBlock ActivationInput)) (cond l (Some (PortBlock ActivationOutput)) t)))))))
    ≡ (a || (b || ((c || d) || (i || (o || (k || (l || is_some t))))))) = simp picked in
    let ports : (i || (o || (k || (l || is_some t)))) ≡ ((((i || o) || k) || l) || q) = in_order i o k l (is_some t) ∙ ap (λ (x : Bool). (((i || o) || k) || l) || x) is in
    found ∙ joints_first a b c d _ ∙ ap (λ (x : Bool). (((a || b) || c) || d) || x) ports ∙ ports_before (((a || b) || c) || d) (((i || o) || k) || l) q

pub names_law : NamesLaw
unfolding tags
names_law gui =
    chosen (bytes_eq gui (codes "SPLIT_f")) (bytes_eq gui (codes "CLKSPLIT_f")) (bytes_eq gui (codes "CLKSOM_f")) (bytes_eq gui (codes "CLKSOMV_f")) (bytes_eq gui (codes "IN_f")) (bytes_eq gui (codes "OUT_f")) (bytes_eq gui (codes "CLKINV_f")) (bytes_eq gui (codes "CLKOUTV_f"))
    (tags (bytes_eq gui (codes "GOTO")) (bytes_eq gui (codes "FROM")) (bytes_eq gui (codes "CLKGOTO")) (bytes_eq gui (codes "CLKFROM"))) _
    (a_tag (bytes_eq gui (codes "GOTO")) (bytes_eq gui (codes "FROM")) (bytes_eq gui (codes "CLKGOTO")) (bytes_eq gui (codes "CLKFROM")))

-- ---- the first number that breaks the rule

first_found : (f : ℕ → Bool) (n k : ℕ) → first_not f n ≡ Some k → (k < n) × (f k ≡ false) × ((j : ℕ) → j < k → f j ≡ true)
first_found f zero k h = cc
first_found f (suc n) k h = by_first (first_not f n) refl h (first_found f n k) (f n) refl
  where
    by_first : (o : Option ℕ) → first_not f n ≡ o → or_else o (unless (f n) n) ≡ Some k → (first_not f n ≡ Some k → (k < n) × (f k ≡ false) × ((j : ℕ) → j < k → f j ≡ true))
        → (b : Bool) → f n ≡ b → (k < suc n) × (f k ≡ false) × ((j : ℕ) → j < k → f j ≡ true)
    by_first (Some j) e q ih b g = let r = ih (e ∙ q) in (omega (arith, r.0), r.1, r.2)
    by_first None e q ih true g = let none : unless (f n) n ≡ None = rw g refl in cc
    by_first None e q ih false g =
        let last : unless (f n) n ≡ Some n = rw g refl in
        let same : n ≡ k = cc in
        rw (← same) (omega arith, g, λ j l. all_pass f n j e l)

wanted_below : (count n : ℕ) → n ≤ count → wanted count n ≡ 1
wanted_below count n h = rw (le-leb n count h) refl

wanted_above : (count n : ℕ) → count < n → wanted count n ≡ 0
wanted_above count n h = rw (lt-leb n count h) refl

times_apart : (n m : ℕ) (ms : List ℕ) → (m ≡ n → ⊥) → times n (m ∷ ms) ≡ times n ms
times_apart n m ms h = rw (ne_eqb m n h) (omega arith)

times_same : (n : ℕ) (ms : List ℕ) → 1 ≤ times n (n ∷ ms)
times_same n ms = rw (eq-eqb n n refl) (omega arith)

times_more : (n m : ℕ) (ms : List ℕ) → times n ms ≤ times n (m ∷ ms)
times_more n m ms = more (nat_eq m n)
  where
    more : (b : Bool) → times n ms ≤ cond b 1 0 + times n ms
    more true = omega arith
    more false = omega arith

-- n is the least of the numbers above the count
record IsLeastAbove (count : ℕ) (ns : List ℕ) (n : ℕ) : Type 0 where
  pub above : count < n
  pub occurs : 1 ≤ times n ns
  pub least : (m : ℕ) → count < m → m < n → times m ns ≡ 0

least_above : (count : ℕ) (ns : List ℕ) (n : ℕ) → least (filter (λ m. nat_lt count m) ns) ≡ Some n → IsLeastAbove count ns n
least_above count [] n h = cc
least_above count (x ∷ xs) n h = kept (nat_lt count x) refl h (least_above count xs)
  where
    joined : (o : Option ℕ) → least (filter (λ m. nat_lt count m) xs) ≡ o → count < x → Some (least_of x o) ≡ Some n → ((y : ℕ) → least (filter (λ m. nat_lt count m) xs) ≡ Some y → IsLeastAbove count xs y) → IsLeastAbove count (x ∷ xs) n
    joined None e above q ih =
        let same : x ≡ n = cc in
        rw (← same) (record {
          above = above;
          occurs = times_same x xs;
          least = λ m l below. times_apart m x xs (λ g. omega (arith, g, below)) ∙ none_above count m xs (none_least _ e) l;
        })
    joined (Some y) e above q ih =
        let so = ih y e in
        let is : min x y ≡ n = cc in
        elim (cases_lt y x) [
          | inl lower ↦
              let same : y ≡ n = omega (arith, is, lower) in
              rw (← same) (record {
                above = so.above;
                occurs = omega (arith, so.occurs, times_more y x xs);
                least = λ m l below. times_apart m x xs (λ g. omega (arith, g, below, lower)) ∙ so.least m l below;
              })
          | inr higher ↦
              let same : x ≡ n = omega (arith, is, higher) in
              rw (← same) (record {
                above = above;
                occurs = times_same x xs;
                least = λ m l below. times_apart m x xs (λ g. omega (arith, g, below)) ∙ so.least m l (omega (arith, below, higher));
              })
        ]

    kept : (b : Bool) → nat_lt count x ≡ b → least (cond b (x ∷ filter (λ m. nat_lt count m) xs) (filter (λ m. nat_lt count m) xs)) ≡ Some n → ((y : ℕ) → least (filter (λ m. nat_lt count m) xs) ≡ Some y → IsLeastAbove count xs y) → IsLeastAbove count (x ∷ xs) n
    kept true e q ih = joined (least (filter (λ m. nat_lt count m) xs)) refl (ltb-true count x e) q ih
    kept false e q ih =
        let so = ih n q in
        let low = ltb-false count x e in
        record {
          above = so.above;
          occurs = omega (arith, so.occurs, times_more n x xs);
          least = λ m l below. times_apart m x xs (λ g. omega (arith, g, l, low)) ∙ so.least m l below;
        }

pub numbers_law : NumbersLaw
numbers_law count ns n h = by_count (first_not (is_once ns) count) refl h
  where
    by_count : (o : Option ℕ) → first_not (is_once ns) count ≡ o → or_else (given o (λ k. k + 1)) (least (filter (λ m. nat_lt count m) ns)) ≡ Some n → IsFirstBroken count ns n
    by_count (Some k) e q =
        let so = first_found (is_once ns) count k e in
        let same : k + 1 ≡ n = cc in
        rw (← same) (record {
          from_one = omega arith;
          broken = λ g. eqb-false (times (k + 1) ns) 1 so.1 (g ∙ wanted_below count (k + 1) (omega (arith, so.0)));
          first = λ m low below.
              let at : (m - 1) + 1 ≡ m = omega arith in
              let once = eqb-true (times ((m - 1) + 1) ns) 1 (so.2 (m - 1) (omega arith)) in
              (rw at at once) ∙ sym (wanted_below count m (omega (arith, so.0, below)));
        })
    by_count None e q =
        let so = least_above count ns n q in
        record {
          from_one = omega (arith, so.above);
          broken = λ g. omega (arith, g, so.occurs, wanted_above count n so.above);
          first = λ m low below. elim (cases_lt count m) [
            | inl over ↦ so.least m over below ∙ sym (wanted_above count m over)
            | inr under ↦
                let at : (m - 1) + 1 ≡ m = omega arith in
                let once = eqb-true (times ((m - 1) + 1) ns) 1 (all_pass (is_once ns) count (m - 1) e (omega (arith, under, low))) in
                (rw at at once) ∙ sym (wanted_below count m under)
          ];
        }
