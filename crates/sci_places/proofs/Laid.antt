-- The places of the first blocks.
use Rattle.std.proofs.Common.{◌≡◌, ◌⊎◌, ℕ, zero, suc, ◌+◌, ◌*◌, ◌<◌, ◌≤◌, ◌^◌, max, cond, List, [], ◌∷◌, ◌++◌, length, map, get_or, take, ap, sym, ◌∙◌, arith, refl, inl, inr, true, lit≤}
use Rattle.std.proofs.Math.Nat.{le-max_left, le-max_right, max-eq_left, max-eq_right}
use Rattle.std.proofs.lemmas.Bool.{cases_lt}
use Rattle.std.proofs.lemmas.Cmp.{ranked}
use Rattle.std.proofs.lemmas.List.{length-map, length_push, get_or_append_left, get_or_push, map_push, map_more}
use Rattle.std.specs.Ordering.{is_lt, nat_cmp, ord_max}
use Rattle.std.specs.declared.cmp.Ordering.{Ordering}
use Rattle.std.specs.declared.cmp.Ordering.TheVariants.{Less, Equal, Greater}
use Rattle.sci_forms.specs.declared.Kind.{Kind}
use Rattle.sci_forms.specs.declared.Kind.TheVariants.{Const}
use Rattle.sci_forms.specs.declared.ports.Port.{Port}
use Rattle.sci_forms.specs.declared.spec.Spec.{Spec}
use Rattle.sci_forms.specs.Forms.{counts_of}
use Rattle.sci_forms.specs.Ports.{port_at, elements, total}
use Rattle.sci_forms.specs.Typed.{typed}
use Rattle.sci_kinds.proofs.TypedLemmas.{tests}
use Rattle.sci_net.specs.declared.Wire.{Wire}
use Rattle.sci_net.specs.Parts.{Parts, IsBlock, IsInput, numbered, spec_of, wire_of, output_of, no_wire}
use Rattle.sci_net.specs.Net.{IsNet}
use Rattle.sci_span.specs.declared.span.Span.{Span}
use Rattle.sci_places.specs.Layout.{IsLayout, laid_down}
use Rattle.sci_span.specs.declared.place.Place.{Place}
use Rattle.sci_span.specs.Values.{no_place, spans_length}
use Rattle.sci_places.proofs.Inputs.{inputs_law, output_within}

-- one more span
pub spans_more : (f : Wire → Span) (ws : List Wire) (k : ℕ) (spans : List Span) (s : Span) → k < length ws → spans ≡ map f (take k ws)
    → s ≡ f (get_or ws k no_wire)
    → spans ++ (s ∷ []) ≡ map f (take (k + 1) ws)
spans_more f ws k spans s h e g =
    ap (λ ss. ss ++ (s ∷ [])) e ∙ (ap (λ t. map f (take k ws) ++ (t ∷ [])) g ∙ sym (map_more f ws k no_wire h))

-- ---- the inputs of a block have few elements

ins_most : (c : Kind) (n : ℕ) → (counts_of c n).ins_most ≤ 64
ins_most Const n = lit≤ tt
ins_most _ n = lit≤ tt

few_ins : (s : Spec) → typed s ≡ true → length s.ins ≤ 64
few_ins s h = let t = tests s.kind s h in let most = t.ins_most in let few = ins_most s.kind (length s.ins) in omega (arith, most, few)

total_small : (ps : List Port) → ((k : ℕ) → k < length ps → elements (port_at ps k) ≤ 65536) → total ps ≤ length ps * 65536
total_small [] h = omega arith
total_small (p ∷ ps) h =
    let first : elements p ≤ 65536 = h 0 (omega arith) in
    let rest = total_small ps (λ k l. h (suc k) (omega (arith, l))) in
    omega (arith, first, rest)

pub ins_small : (n : Parts) (b : ℕ) → IsNet n → IsBlock n b → total (spec_of n b).ins ≤ 4194304
ins_small n b net block =
    let few = few_ins (spec_of n b) (net.typed_specs b block) in
    let all = total_small (spec_of n b).ins one in
    omega (arith, few, all)
  where
    one : (k : ℕ) → k < length (spec_of n b).ins → elements (port_at (spec_of n b).ins k) ≤ 65536
    one k l =
        let i : IsInput n b (suc k) = record { block = block; least = omega arith; most = omega (arith, l) } in
        let w = wire_of n b (suc k) in
        let fits = output_within n w (net.wired.wires_lead b (suc k) i) in
        let same : elements (output_of n w.block w.port) ≡ elements (port_at (spec_of n b).ins k) = ap elements (net.joined b (suc k) i) in
        omega (arith, fits, same, net.small)

pub spans_small : (n : Parts) (b : ℕ) (p : Place) → IsNet n → IsBlock n b → p ≡ laid_down n b → spans_length p.ins < 2 ^ 63
spans_small n b p net block e =
    let ins = ap (λ (q : Place). spans_length q.ins) e in
    let long = inputs_law.long n b net block in
    let small = ins_small n b net block in
    omega (arith, ins, long, small)

-- ---- the greater of two

max_by : (a b : ℕ) (o : Ordering) → o ≡ nat_cmp b a → cond (is_lt o) a b ≡ max a b
max_by a b Less e = let l = ranked b a Less e in omega (arith, l)
max_by a b Equal e = let l = ranked b a Equal e in omega (arith, l)
max_by a b Greater e = let l = ranked b a Greater e in omega (arith, l)

pub max_is : (a b : ℕ) → ord_max nat_cmp a b ≡ max a b
max_is a b = max_by a b (nat_cmp b a) refl

-- ---- the places of the first k blocks, and the greatest number of elements that one of these takes

pub record LaidTo (n : Parts) (k : ℕ) (ps : List Place) (longest : ℕ) : Type 0 where
  pub one_each : length ps ≡ k
  pub places : (b : ℕ) → 1 ≤ b → b ≤ k → numbered no_place ps b ≡ laid_down n b
  pub long_enough : (b : ℕ) → 1 ≤ b → b ≤ k → total (spec_of n b).ins ≤ longest
  pub some : 1 ≤ longest
  pub no_longer : (longest ≡ 1) ⊎ ((b : ℕ) × (1 ≤ b) × (b ≤ k) × (total (spec_of n b).ins ≡ longest))

pub laid_none : (n : Parts) (ps : List Place) → ps ≡ [] → LaidTo n 0 ps 1
laid_none n ps e = record {
  one_each = ap length e;
  places = λ b h l. absurd (omega (arith, h, l));
  long_enough = λ b h l. absurd (omega (arith, h, l));
  some = omega arith;
  no_longer = inl refl;
}

pub numbered_old : {A : Type 0} (d : A) (xs ys : List A) (b : ℕ) → b ≤ length xs → numbered d (xs ++ ys) b ≡ numbered d xs b
numbered_old d xs ys zero h = refl
numbered_old d xs ys (suc k) h = get_or_append_left xs ys d k (omega (arith, h))

pub numbered_new : {A : Type 0} (d : A) (xs : List A) (y : A) (b : ℕ) → b ≡ length xs + 1 → numbered d (xs ++ (y ∷ [])) b ≡ y
numbered_new d xs y zero h = absurd (omega (arith, h))
numbered_new d xs y (suc k) h = get_or_push xs y d k (omega (arith, h))

module _ (n : Parts) (k : ℕ) (ps : List Place) (longest : ℕ) (p : Place) (h : LaidTo n k ps longest) (e : p ≡ laid_down n (k + 1)) where
  place_more : (b : ℕ) → 1 ≤ b → b ≤ k + 1 → numbered no_place (ps ++ (p ∷ [])) b ≡ laid_down n b
  place_more b least most = elim (cases_lt b (k + 1)) [
    | inl l ↦ numbered_old no_place ps (p ∷ []) b (omega (arith, l, h.one_each)) ∙ h.places b least (omega (arith, l))
    | inr l ↦
        let last : b ≡ k + 1 = omega (arith, l, most) in
        numbered_new no_place ps p b (omega (arith, last, h.one_each)) ∙ (e ∙ ap (laid_down n) (sym last))
  ]

  length_more : (t : ℕ) → t ≡ total (spec_of n (k + 1)).ins → (b : ℕ) → 1 ≤ b → b ≤ k + 1 → total (spec_of n b).ins ≤ max longest t
  length_more t g b least most = elim (cases_lt b (k + 1)) [
    | inl l ↦ let old = h.long_enough b least (omega (arith, l)) in let most = le-max_left longest t in omega (arith, old, most)
    | inr l ↦
        let last : b ≡ k + 1 = omega (arith, l, most) in
        let same = ap (λ c. total (spec_of n c).ins) last in
        let most = le-max_right longest t in
        omega (arith, same, g, most)
  ]

  no_longer_more : (t : ℕ) → t ≡ total (spec_of n (k + 1)).ins
      → (max longest t ≡ 1) ⊎ ((b : ℕ) × (1 ≤ b) × (b ≤ k + 1) × (total (spec_of n b).ins ≡ max longest t))
  no_longer_more t g = elim (cases_lt longest t) [
    | inl l ↦ let is = max-eq_right {n = longest} {m = t} (omega (arith, l)) in inr (k + 1, omega arith, omega arith, sym g ∙ sym is)
    | inr l ↦
        let is = max-eq_left {n = longest} {m = t} l in
        elim h.no_longer [
          | inl one ↦ inl (is ∙ one)
          | inr r ↦ inr (r.0, r.1, omega (arith, r.2), r.3 ∙ sym is)
        ]
  ]

  pub laid_next : (ps' : List Place) (t : ℕ) → ps' ≡ ps ++ (p ∷ []) → t ≡ total (spec_of n (k + 1)).ins → LaidTo n (k + 1) ps' (max longest t)
  laid_next ps' t f g = record {
    one_each = ap length f ∙ (length_push ps p ∙ ap (λ m. m + 1) h.one_each);
    places = λ b least most. ap (λ xs. numbered no_place xs b) f ∙ place_more b least most;
    long_enough = length_more t g;
    some = let more = le-max_left longest t in omega (arith, more, h.some);
    no_longer = no_longer_more t g;
  }

pub laid_all : (n : Parts) (k : ℕ) (ps : List Place) (longest : ℕ) → k ≡ length n.specs → LaidTo n k ps longest
    → IsLayout n (record { blocks = ps; longest = longest })
laid_all n k ps longest e h = record {
  one_each = h.one_each ∙ e;
  places = λ b block. h.places b block.least (omega (arith, block.most, e));
  long_enough = λ b block. h.long_enough b block.least (omega (arith, block.most, e));
  some = h.some;
  no_longer = elim h.no_longer [
    | inl one ↦ inl one
    | inr r ↦ inr (r.0, record { least = r.1; most = omega (arith, r.2, e) }, r.3)
  ];
}
