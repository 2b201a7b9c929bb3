-- Ports that the same sources reach.
use Rattle.std.proofs.Common.{◌≡◌, ◌≢◌, ◌<◌, ◌≤◌, ◌+◌, ℕ, zero, suc, List, [], ◌∷◌, ◌++◌, length, get_or, inl, inr, refl, sym, ap, ◌∙◌, subst, arith, add-one, get_or-set_same, get_or-set_other}
use Rattle.std.proofs.Math.ListN.{set, replicate, length-set}
use Rattle.std.specs.Prelude.{Contains, All}
use Rattle.std.proofs.lemmas.Bool.Decides.{eqb_tells}
use Rattle.std.proofs.lemmas.List.{get_or-map, get_or_default, get_or-replicate, length-replicate, length_push, get_or_push, get_or_append_left}
use Rattle.sci_flat.specs.declared.reach.origins.Before.{Before}
use Rattle.sci_flat.specs.declared.reach.origins.Before.TheVariants.{Nothing, One, Several}
use Rattle.sci_flat.specs.Chain.{Step, Chain, stay, onward, AllWithin}
use Rattle.sci_flat.specs.Lists.{list_at}
use Rattle.sci_flat.specs.Successors.{from_at, to_at}
use Rattle.sci_flat.specs.Origins.{stepped, before, above, AreBefores, AreAbove, AreRooted, AreSettled, AreAlike, AreOrigins, Climb, here, up, shared}
use Rattle.sci_flat.proofs.ReachFilling.{Steps, from_within, step_at, place_of}

-- ---- one step after another

before_same : (es : Steps) (q n : ℕ) → to_at es n ≡ q → before es q (suc n) ≡ stepped (before es q n) (from_at es n)
before_same es q n e = elim (eqb_tells (to_at es n) q) [ inl t ↦ rw t.0 refl | inr t ↦ absurd (t.1 e) ]

before_other : (es : Steps) (q n : ℕ) → to_at es n ≢ q → before es q (suc n) ≡ before es q n
before_other es q n e = elim (eqb_tells (to_at es n) q) [ inl t ↦ absurd (e t.1) | inr t ↦ rw t.0 refl ]

pub befores_none : (es : Steps) (ports : ℕ) (bs : List Before) → bs ≡ replicate ports Nothing → AreBefores es ports 0 bs
befores_none es ports bs e = rw e (record { long = length-replicate ports _; each = λ q h. get_or-replicate ports q Nothing Nothing h })

pub befores_more : (es : Steps) (ports n to : ℕ) (bs new : List Before) (b : Before) → to < ports → to ≡ to_at es n → b ≡ get_or bs to b → new ≡ set bs to (stepped b (from_at es n)) → AreBefores es ports n bs → AreBefores es ports (n + 1) new
befores_more es ports n to bs new b inside is at e t = rw (e, add-one) (record {
  long = length-set bs to (stepped b (from_at es n)) ∙ t.long;
  each = λ q h. elim (eqb_tells q to) [
    | inl s ↦ let P : ℕ → Type 0 = λ x. get_or (set bs to (stepped b (from_at es n))) x Nothing ≡ before es x (suc n) in subst P (sym s.1) same
    | inr s ↦ get_or-set_other bs to q (stepped b (from_at es n)) Nothing s.1 ∙ (t.each q h ∙ sym (before_other es q n (λ g. s.1 (sym g ∙ sym is))))
  ];
})
  where
    value : b ≡ before es to n
    value = at ∙ (get_or_default bs to b Nothing (omega (arith, inside, t.long)) ∙ t.each to inside)

    same : get_or (set bs to (stepped b (from_at es n))) to Nothing ≡ before es to (suc n)
    same = get_or-set_same bs to (stepped b (from_at es n)) Nothing (omega (arith, inside, t.long)) ∙ (ap (λ (x : Before). stepped x (from_at es n)) value ∙ sym (before_same es to n (sym is)))

-- what they tell
abbrev pub Tells : Steps → ℕ → ℕ → Before → Type 0
Tells es q n Nothing = (k : ℕ) → k < n → to_at es k ≡ q → ⊥
Tells es q n (One p) = ((k : ℕ) × (k < n) × (from_at es k ≡ p) × (to_at es k ≡ q)) × ((k : ℕ) → k < n → to_at es k ≡ q → from_at es k ≡ p)
Tells es q n Several = Unit {0}

tells_same : (es : Steps) (q n : ℕ) (b : Before) → to_at es n ≡ q → Tells es q n b → Tells es q (suc n) (stepped b (from_at es n))
tells_same es q n Nothing e h = (
  (n, omega arith, refl, e),
  λ k l g. elim (eqb_tells k n) [ inl t ↦ ap (from_at es) t.1 | inr t ↦ absurd (h k (omega (arith, l, t.1)) g) ],
)
tells_same es q n (One p) e h = tt
tells_same es q n Several e h = tt

tells_other : (es : Steps) (q n : ℕ) (b : Before) → to_at es n ≢ q → Tells es q n b → Tells es q (suc n) b
tells_other es q n Nothing e h = λ k l g. elim (eqb_tells k n) [ inl t ↦ absurd (e (ap (to_at es) (sym t.1) ∙ g)) | inr t ↦ h k (omega (arith, l, t.1)) g ]
tells_other es q n (One p) e h = (
  (h.0.0, omega (arith, h.0.1), h.0.2, h.0.3),
  λ k l g. elim (eqb_tells k n) [ inl t ↦ absurd (e (ap (to_at es) (sym t.1) ∙ g)) | inr t ↦ h.1 k (omega (arith, l, t.1)) g ],
)
tells_other es q n Several e h = tt

tells : (es : Steps) (q n : ℕ) → Tells es q n (before es q n)
tells es q zero = λ k l g. absurd (omega arith)
tells es q (suc n) = elim (eqb_tells (to_at es n) q) [
  | inl t ↦ rw (before_same es q n t.1) (tells_same es q n (before es q n) t.1 (tells es q n))
  | inr t ↦ rw (before_other es q n t.1) (tells_other es q n (before es q n) t.1 (tells es q n))
]

-- ---- the only port before one is reached by the same sources

module _ (es : Steps) (sources : List ℕ) where
  same_port : (q r : ℕ) → r ≡ q → AreAlike es sources q r
  same_port q r e = rw e (λ s h. (λ c. c, λ c. c))

  one_before : (q p s : ℕ) → (Contains sources q → ⊥) → Tells es q (length es) (One p) → Contains sources s → Chain es s q → Chain es s p
  one_before q p s none h has stay = absurd (none has)
  one_before q p s none h has (onward {q = r} c l) =
      let i = place_of es r q (0, 0) l in
      let is : r ≡ p = sym i.2 ∙ h.1 i.0 i.1 i.3 in
      subst (λ (x : ℕ). Chain es s x) is c

  one_after : (q p s : ℕ) → Tells es q (length es) (One p) → Chain es s p → Chain es s q
  one_after q p s h c =
      let l = step_at es h.0.0 (0, 0) h.0.1 in
      let P : ℕ → Type 0 = λ x. Step es x q in
      let Q : ℕ → Type 0 = λ x. Step es (from_at es h.0.0) x in
      onward c (subst P h.0.2 (subst Q h.0.3 l))

  alike_above : (q : ℕ) (b : Before) → (Contains sources q → ⊥) → Tells es q (length es) b → AreAlike es sources q (above b q)
  alike_above q Nothing none h = same_port q q refl
  alike_above q (One p) none h = λ s has. (one_before q p s none h has, one_after q p s h)
  alike_above q Several none h = same_port q q refl

  above_within : (ports q : ℕ) (b : Before) → AllWithin ports es → q < ports → Tells es q (length es) b → above b q < ports
  above_within ports q Nothing w l h = l
  above_within ports q (One p) w l h = subst (λ (x : ℕ). x < ports) h.0.2 (from_within ports es h.0.0 (0, 0) h.0.1 w)
  above_within ports q Several w l h = l

  no_source : (q : ℕ) → ((k : ℕ) → k < length sources → get_or sources k 0 ≡ q → ⊥) → Contains sources q → ⊥
  no_source q none (k, l, e) = none k l (get_or_default sources k 0 q l ∙ e)

  pub rooted_origins : (ports : ℕ) (bs : List Before) (old new : List ℕ) → AllWithin ports es → AreBefores es ports (length es) bs → AreAbove bs (length bs) old → AreRooted sources (length sources) old new → AreOrigins es sources ports new
  rooted_origins ports bs old new w b a r = record {
    long = omega (arith, r.long, a.long, b.long);
    within = λ q l. elim (r.each q (low q l)) [
      | inl e ↦ subst (λ (x : ℕ). x < ports) (sym e) l
      | inr t ↦ subst (λ (x : ℕ). x < ports) (sym (t.0 ∙ is q l)) (above_within ports q (before es q (length es)) w l (tells es q (length es)))
    ];
    alike = λ q l. elim (r.each q (low q l)) [
      | inl e ↦ same_port q (get_or new q 0) e
      | inr t ↦ subst (AreAlike es sources q) (sym (t.0 ∙ is q l)) (alike_above q (before es q (length es)) (no_source q t.1) (tells es q (length es)))
    ];
  }
    where
      low : (q : ℕ) → q < ports → q < length old
      low q l = omega (arith, l, a.long, b.long)

      is : (q : ℕ) → q < ports → get_or old q 0 ≡ above (before es q (length es)) q
      is q l = a.each q (omega (arith, l, b.long)) ∙ ap (λ (x : Before). above x q) (b.each q l)

  -- ---- climbing

  pub climb_alike : (ports : ℕ) (os : List ℕ) (q r : ℕ) → AreOrigins es sources ports os → q < ports → Climb os q r → (r < ports) × AreAlike es sources q r
  climb_alike ports os q r o l here = (l, same_port q q refl)
  climb_alike ports os q r o l (up {r = m} c) =
      let low = climb_alike ports os q m o l c in
      let more = o.alike m low.0 in
      (o.within m low.0, λ s has. (λ x. (more s has).0 ((low.1 s has).0 x), λ x. (low.1 s has).1 ((more s has).1 x)))

  alike_both : (q p r : ℕ) → AreAlike es sources q p → AreAlike es sources q r → AreAlike es sources p r
  alike_both q p r a b = λ s has. (λ x. (b s has).0 ((a s has).1 x), λ x. (a s has).0 ((b s has).1 x))

  pub settled_origins : (ports : ℕ) (old new : List ℕ) (q r : ℕ) → AreOrigins es sources ports old → q < ports → Climb old q r → AreSettled q r old new → AreOrigins es sources ports new
  settled_origins ports old new q r o l c s =
      let to = climb_alike ports old q r o l c in
      record {
        long = s.long ∙ o.long;
        within = λ p h. elim (s.each p (omega (arith, h, o.long))) [
          | inl e ↦ subst (λ (x : ℕ). x < ports) (sym e) (o.within p h)
          | inr t ↦ subst (λ (x : ℕ). x < ports) (sym t.0) to.0
        ];
        alike = λ p h. elim (s.each p (omega (arith, h, o.long))) [
          | inl e ↦ subst (AreAlike es sources p) (sym e) (o.alike p h)
          | inr t ↦ subst (AreAlike es sources p) (sym t.0) (alike_both q p r (climb_alike ports old q p o l t.1).1 to.1)
        ];
      }

  pub origins_below : (ports : ℕ) (os : List ℕ) → AreOrigins es sources ports os → All (λ p. p < length os) os
  origins_below ports os o k d l =
      let low = o.within k (omega (arith, l, o.long)) in
      let P : ℕ → Type 0 = λ x. x < length os in
      subst P (get_or_default os k 0 d l) (omega (arith, low, o.long))

-- ---- the way to an origin

pub climb_inside : (os : List ℕ) (q r : ℕ) → All (λ p. p < length os) os → q < length os → Climb os q r → r < length os
climb_inside os q r w l here = l
climb_inside os q r w l (up {r = m} c) = w m 0 (climb_inside os q m w l c)

pub settled_none : (q r : ℕ) (os : List ℕ) → AreSettled q r os os
settled_none q r os = record { long = refl; each = λ p l. inl refl }

pub settled_more : (q r at : ℕ) (old now new : List ℕ) → at < length old → Climb old q at → new ≡ set now at r → AreSettled q r old now → AreSettled q r old new
settled_more q r at old now new l c e s = rw e (record {
  long = length-set now at r ∙ s.long;
  each = λ p h. elim (eqb_tells p at) [
    | inl t ↦ inr (ap (λ (x : ℕ). get_or (set now at r) x 0) t.1 ∙ get_or-set_same now at r 0 (omega (arith, l, s.long)), subst (Climb old q) (sym t.1) c)
    | inr t ↦ elim (s.each p h) [
      | inl g ↦ inl (get_or-set_other now at p r 0 t.1 ∙ g)
      | inr g ↦ inr (get_or-set_other now at p r 0 t.1 ∙ g.0, g.1)
    ]
  ];
})

-- what is read on the way is on the way, or is its end
pub settled_next : (q r at : ℕ) (old now : List ℕ) → at < length old → Climb old q at → Climb old q r → AreSettled q r old now → Climb old q (get_or now at 0)
settled_next q r at old now l c to s = elim (s.each at l) [ inl e ↦ subst (Climb old q) (sym e) (up c) | inr t ↦ subst (Climb old q) (sym t.0) to ]

-- ---- sources

pub above_more : (bs : List Before) (n x : ℕ) (b : Before) (os new : List ℕ) → n < length bs → b ≡ get_or bs n b → x ≡ above b n → new ≡ os ++ x ∷ [] → AreAbove bs n os → AreAbove bs (n + 1) new
above_more bs n x b os new inside at is e t = rw e (record {
  long = length_push os x ∙ omega (arith, t.long);
  each = λ q l. elim (eqb_tells q n) [
    | inl s ↦ ap (λ (y : ℕ). get_or (os ++ x ∷ []) y 0) s.1 ∙ (get_or_push os x 0 n t.long ∙ (is ∙ (ap (λ (y : Before). above y n) (at ∙ get_or_default bs n b Nothing inside) ∙ ap (λ (y : ℕ). above (get_or bs y Nothing) y) (sym s.1))))
    | inr s ↦ get_or_append_left os (x ∷ []) 0 q (omega (arith, t.long, l, s.1)) ∙ t.each q (omega (arith, l, s.1))
  ];
})

pub rooted_none : (sources old : List ℕ) → AreRooted sources 0 old old
rooted_none sources old = record { long = refl; each = λ q l. inr (refl, λ k h e. absurd (omega (arith, h))) }

pub rooted_more : (sources old now new : List ℕ) (n s : ℕ) → s ≡ get_or sources n 0 → s < length now → new ≡ set now s s → AreRooted sources n old now → AreRooted sources (n + 1) old new
rooted_more sources old now new n s is inside e t = rw e (record {
  long = length-set now s s ∙ t.long;
  each = λ q l. elim (eqb_tells q s) [
    | inl f ↦ inl (ap (λ (x : ℕ). get_or (set now s s) x 0) f.1 ∙ (get_or-set_same now s s 0 inside ∙ sym f.1))
    | inr f ↦ elim (t.each q l) [
      | inl g ↦ inl (get_or-set_other now s q s 0 f.1 ∙ g)
      | inr g ↦ inr (
        get_or-set_other now s q s 0 f.1 ∙ g.0,
        λ k h d. elim (eqb_tells k n) [ inl c ↦ f.1 (sym d ∙ (ap (λ (x : ℕ). get_or sources x 0) c.1 ∙ sym is)) | inr c ↦ g.1 k (omega (arith, h, c.1)) d ],
      )
    ]
  ];
})

-- ---- shared lists

pub list_shared : (lists : List (List ℕ)) (os : List ℕ) (q : ℕ) → q < length os → list_at (shared lists os) q ≡ list_at lists (get_or os q 0)
list_shared lists os q h = get_or-map (list_at lists) os q 0 [] h

pub list_past : (lists : List (List ℕ)) (os : List ℕ) (q : ℕ) → length os ≤ q → list_at (shared lists os) q ≡ []
list_past lists [] q h = refl
list_past lists (o ∷ os) zero h = absurd (omega (arith, h))
list_past lists (o ∷ os) (suc q) h = list_past lists os q (omega (arith, h))
