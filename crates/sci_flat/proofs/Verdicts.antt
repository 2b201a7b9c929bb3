-- What the definitions say of each other.
use Rattle.std.proofs.Common.{◌≡◌, ◌<◌, ◌≤◌, ℕ, zero, suc, List, [], length, map, get_or, inl, inr, sym, ap, ◌∙◌, subst, arith, Ok, Err}
use Rattle.std.proofs.lemmas.Bool.{cases_lt}
use Rattle.std.proofs.lemmas.List.{length-map, get_or-map}
use Rattle.sci_base.specs.Plain.{Violation}
use Rattle.sci_diagram.specs.Objects.{Objects}
use Rattle.sci_forms.specs.declared.spec.Spec.{Spec}
use Rattle.sci_net.specs.Parts.{Parts, no_spec, spec_of, IsBlock, column_of}
use Rattle.sci_forms.specs.Form.{is_sensor}
use Rattle.sci_blocks.specs.Blocks.{Placed, placed}
use Rattle.sci_flat.specs.Flat.{block_at, IsFlatNet}
use Rattle.sci_flat.specs.Refused.{HasInput, IsFed, IsTaken, IsNoSource, IsColumnTwice, no_source, column_twice, BreaksBlocks, Breaks}

refused : {A : Type 0} (v : Violation) (a : A) → Err v ≡ Ok a → ⊥
refused v a e = cc

-- ---- no tree has a flat net and breaks a rule

spec_found : (n : Parts) (ps : List Placed) → n.specs ≡ map (λ p. p.spec) ps → (b : ℕ) → 1 ≤ b → b ≤ length ps → spec_of n b ≡ (block_at ps b).spec
spec_found n ps e zero h l = absurd (omega arith)
spec_found n ps e (suc b) h l = ap (λ (x : List Spec). get_or x b no_spec) e ∙ get_or-map (λ (p : Placed). p.spec) ps b (placed [] no_spec) no_spec (omega arith)

module _ (t : Objects) (n : Parts) (net : IsFlatNet t n) where
  block : (b : ℕ) → 1 ≤ b → b ≤ length net.placed → IsBlock n b
  block b h l = let long = ap length net.specs ∙ length-map net.placed _ in record { least = h; most = omega (arith, l, long) }

  fed_all : (b k : ℕ) → 1 ≤ b → b ≤ length net.placed → HasInput (block_at net.placed b) k → IsFed t net.placed b k
  fed_all b k h l i =
      let spec = spec_found n net.placed net.specs b h l in
      let long = ap (λ (s : Spec). length s.ins) spec in
      (_, net.wires b k (record { block = block b h l; least = i.0; most = omega (arith, i.1, long) }))

  column_own : (b : ℕ) → 1 ≤ b → b ≤ length net.placed → IsTaken net.placed b → ⊥
  column_own b h l (c, hc, lc, s) =
      let sb = spec_found n net.placed net.specs b h l in
      let sc = spec_found n net.placed net.specs c hc (omega arith) in
      let same : c ≡ b = net.flat.wired.own_columns c b (record { block = block c hc (omega arith); sensor = ap (λ (x : Spec). is_sensor x.kind) sc ∙ s.first })
      (record { block = block b h l; sensor = ap (λ (x : Spec). is_sensor x.kind) sb ∙ s.second }) (ap column_of sc ∙ (s.column ∙ sym (ap column_of sb))) in
      absurd (omega arith)

  not_broken : (v : Violation) → BreaksBlocks t net.placed v → ⊥
  not_broken v (inl (b, k, r, e)) = let f = fed_all b k r.least r.most r.input in r.unfed f.0 f.1
  not_broken v (inr (b, r, e)) = column_own b r.least r.most r.taken

pub verdict : (t : Objects) (n : Parts) (v : Violation) → IsFlatNet t n → Breaks t v → ⊥
verdict t n v net (inl e) = refused v net.placed (sym e ∙ net.blocks)
verdict t n v net (inr (ps, e, b)) =
    let is : ps ≡ net.placed = let f : Ok ps ≡ Ok net.placed = sym e ∙ net.blocks in cc in
    let P : List Placed → Type 0 = λ x. BreaksBlocks t x v in
    not_broken t n net v (subst P is b)

-- ---- at most one violation

module _ (t : Objects) (ps : List Placed) where
  same_source : (b k c j : ℕ) → IsNoSource t ps b k → IsNoSource t ps c j → no_source ps b k ≡ no_source ps c j
  same_source b k c j x y = elim (cases_lt b c) [
    | inl l ↦ absurd (let f = (y.sound b x.least l).fed k x.input in x.unfed f.0 f.1)
    | inr g ↦ elim (cases_lt c b) [
      | inl l ↦ absurd (let f = (x.sound c y.least l).fed j y.input in y.unfed f.0 f.1)
      | inr h ↦ let e : b ≡ c = omega arith in same_port e (λ (l : k < j). let f = y.before k x.input.0 l in f) (λ (l : j < k). let f = x.before j y.input.0 l in f)
    ]
  ]
    where
      same_port : b ≡ c → (k < j → IsFed t ps c k) → (j < k → IsFed t ps b j) → no_source ps b k ≡ no_source ps c j
      same_port e f g = elim (cases_lt k j) [
        | inl l ↦ absurd (let P : ℕ → Type 0 = λ z. IsFed t ps z k in let r = (let q : IsFed t ps b k = subst P (sym e) (f l) in q) in x.unfed r.0 r.1)
        | inr u ↦ elim (cases_lt j k) [
          | inl l ↦ absurd (let P : ℕ → Type 0 = λ z. IsFed t ps z j in let r = (let q : IsFed t ps c j = subst P e (g l) in q) in y.unfed r.0 r.1)
          | inr v ↦ let d : k ≡ j = omega arith in ap (λ (z : ℕ). no_source ps z k) e ∙ ap (λ (z : ℕ). no_source ps c z) d
        ]
      ]

  source_or_column : (b k c : ℕ) → IsNoSource t ps b k → IsColumnTwice t ps c → ⊥
  source_or_column b k c x y = elim (cases_lt b c) [
    | inl l ↦ let f = (y.sound b x.least l).fed k x.input in x.unfed f.0 f.1
    | inr g ↦ elim (cases_lt c b) [
      | inl l ↦ (x.sound c y.least l).own y.taken
      | inr h ↦ let e : c ≡ b = omega arith in at_one b e x
    ]
  ]
    where
      at_one : (d : ℕ) → c ≡ d → IsNoSource t ps d k → ⊥
      at_one d e z = let P : ℕ → Type 0 = λ q. IsColumnTwice t ps q in let w = subst P e y in let f = w.fed k z.input in z.unfed f.0 f.1

  same_column : (b c : ℕ) → IsColumnTwice t ps b → IsColumnTwice t ps c → column_twice ps b ≡ column_twice ps c
  same_column b c x y = elim (cases_lt b c) [
    | inl l ↦ absurd ((y.sound b x.least l).own x.taken)
    | inr g ↦ elim (cases_lt c b) [
      | inl l ↦ absurd ((x.sound c y.least l).own y.taken)
      | inr h ↦ let e : b ≡ c = omega arith in ap (column_twice ps) e
    ]
  ]

  same_break : (v w : Violation) → BreaksBlocks t ps v → BreaksBlocks t ps w → v ≡ w
  same_break v w (inl (b, k, x, e)) (inl (c, j, y, f)) = e ∙ (same_source b k c j x y ∙ sym f)
  same_break v w (inl (b, k, x, e)) (inr (c, y, f)) = absurd (source_or_column b k c x y)
  same_break v w (inr (b, x, e)) (inl (c, j, y, f)) = absurd (source_or_column c j b y x)
  same_break v w (inr (b, x, e)) (inr (c, y, f)) = e ∙ (same_column b c x y ∙ sym f)

pub violation : (t : Objects) (v w : Violation) → Breaks t v → Breaks t w → v ≡ w
violation t v w (inl e) (inl f) = let g : Err v ≡ Err w = sym e ∙ f in cc
violation t v w (inl e) (inr (qs, f, b)) = absurd (refused v qs (sym e ∙ f))
violation t v w (inr (ps, e, a)) (inl f) = absurd (refused w ps (sym f ∙ e))
violation t v w (inr (ps, e, a)) (inr (qs, f, b)) =
    let is : qs ≡ ps = let g : Ok qs ≡ Ok ps = sym f ∙ e in cc in
    let P : List Placed → Type 0 = λ x. BreaksBlocks t x w in
    same_break t ps v w a (subst P is b)
