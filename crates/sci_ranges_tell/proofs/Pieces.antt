-- Texts that are written piece by piece.
use Rattle.std.proofs.Common.{◌≡◌, ◌<◌, ◌≤◌, ◌+◌, ◌-◌, ℕ, zero, suc, ℤ, pos, List, [], ◌∷◌, ◌++◌, drop, get_or, length, codes, Result, Ok, Err, Bool, true, false, if◌then◌else◌, ◌||◌, inl, inr, refl, subst, ◌∙◌, ap, sym, add-one, append_assoc, lit≤, arith}
use Rattle.std.proofs.lemmas.Bool.{cases_lt}
use Rattle.std.proofs.lemmas.List.{drop_all}
use Rattle.std.proofs.Math.Seq.{drop-cons}
use Rattle.std.specs.Fmt.{signed_decimal}
use Rattle.sci_base.specs.declared.observation.StopWord.TheVariants.{Overflow, Zero}
use Rattle.sci_forms.specs.declared.Kind.{Kind}
use Rattle.sci_forms.specs.declared.Kind.TheVariants.{Const}
use Rattle.sci_forms.specs.declared.ports.Port.{Port}
use Rattle.sci_forms.specs.declared.spec.Spec.{Spec}
use Rattle.sci_forms.specs.Forms.{counts_of}
use Rattle.sci_forms.specs.Ports.{no_port, port_at, elements, total}
use Rattle.sci_forms.specs.Typed.{typed}
use Rattle.sci_io.specs.Taken.{SinkState, Writes, UnderWay}
use Rattle.sci_io.proofs.Advance.{cut_off, next_front, finished}
use Rattle.sci_kinds.proofs.TypedLemmas.{tests}
use Rattle.sci_net.specs.Net.{IsNet, all_elements}
use Rattle.sci_net.specs.Parts.{Parts, IsBlock, no_spec, spec_of}
use Rattle.sci_trace.specs.Lines.{numbers}
use Rattle.sci_ranges_base.specs.declared.interval.Interval.{Interval}
use Rattle.sci_ranges_base.specs.Intervals.{hull}
use Rattle.sci_ranges_rules.specs.Rules.{state_range}
use Rattle.sci_ranges.specs.Table.{Table}
use Rattle.sci_ranges_text.specs.Text.{interval_line, element_text, elements_text, outputs_text, of_each, state_hull, state_text, may_stop}

-- ---- numbers

pub numbers-drop : (ns : List ℤ) (i : ℕ) (d : ℤ) → i < length ns → numbers (drop i ns) ≡ (codes " " ++ signed_decimal (get_or ns i d)) ++ numbers (drop (i + 1) ns)
numbers-drop ns i d h =
    ap numbers (drop-cons ns i d h)
    ∙ (ap (λ (k : ℕ). codes " " ++ (signed_decimal (get_or ns i d) ++ numbers (drop k ns))) (sym (add-one i))
    ∙ sym (append_assoc (codes " ") (signed_decimal (get_or ns i d)) (numbers (drop (i + 1) ns))))

pub numbers-end : (ns : List ℤ) (i : ℕ) → length ns ≤ i → numbers (drop i ns) ≡ codes "\n"
numbers-end ns i h = ap numbers (drop_all i ns h)

-- the last piece of a text under way
pub last_piece : {U F : Type 0} {old mid new : SinkState} {text : List ℕ} (b : List ℕ) (s : Result U F) → UnderWay old mid text (b ++ []) → Writes mid new b s → Writes old new text s
last_piece b (Ok y) w h = finished y (next_front b [] (Ok y) y refl w h)
last_piece b (Err f) w h = cut_off b [] (Err f) (Err f) f f refl refl w h

-- what is held is told where it is another
pub other-same : (b : Bool) (x : List ℕ) → b ≡ true → [] ≡ (if b then [] else x)
other-same true x h = refl
other-same false x h = cc

pub other-told : (b : Bool) (x : List ℕ) → b ≡ false → x ≡ (if b then [] else x)
other-told true x h = cc
other-told false x h = refl

-- ---- blocks, elements and outputs

pub next_each : (f : ℕ → List ℕ) (i count : ℕ) → i < count → of_each f (i + 1) (count - i) ≡ f (i + 1) ++ of_each f (i + 1 + 1) (count - (i + 1))
next_each f i count h =
    let e : count - i ≡ suc (count - (i + 1)) = omega (arith, h) in
    ap (of_each f (i + 1)) e

pub next_element : (n : Parts) (t : Table) (b p at i count : ℕ) → i < count
    → elements_text n t b p (i + 1) (at + i) (count - i) ≡ element_text n t b p (i + 1) (at + i) ++ elements_text n t b p (i + 1 + 1) (at + (i + 1)) (count - (i + 1))
next_element n t b p at i count h =
    let e : count - i ≡ suc (count - (i + 1)) = omega (arith, h) in
    let f : at + i + 1 ≡ at + (i + 1) = omega arith in
    ap (elements_text n t b p (i + 1) (at + i)) e
    ∙ ap (λ (k : ℕ). element_text n t b p (i + 1) (at + i) ++ elements_text n t b p (i + 1 + 1) k (count - (i + 1))) f

pub next_output : (n : Parts) (t : Table) (b at : ℕ) (ps : List Port) (k : ℕ) → k < length ps
    → outputs_text n t b (k + 1) at (drop k ps)
    ≡ elements_text n t b (k + 1) 1 at (elements (port_at ps k)) ++ outputs_text n t b (k + 1 + 1) (at + elements (port_at ps k)) (drop (k + 1) ps)
next_output n t b at ps k h =
    ap (outputs_text n t b (k + 1) at) (drop-cons ps k no_port h)
    ∙ ap (λ (m : ℕ). elements_text n t b (k + 1) 1 at (elements (port_at ps k)) ++ outputs_text n t b (k + 1 + 1) (at + elements (port_at ps k)) (drop m ps)) (sym (add-one k))

-- an output's elements, and those of the outputs behind it
pub total-drop : (ps : List Port) (k : ℕ) → k < length ps → total (drop k ps) ≡ elements (port_at ps k) + total (drop (k + 1) ps)
total-drop ps k h = ap total (drop-cons ps k no_port h) ∙ ap (λ (m : ℕ). elements (port_at ps k) + total (drop m ps)) (sym (add-one k))

pub part_small : (ps : List Port) (k : ℕ) → k < length ps → elements (port_at ps k) ≤ total ps
part_small [] k h = absurd (omega (arith, h))
part_small (p ∷ ps) zero h = omega arith
part_small (p ∷ ps) (suc k) h = let l = part_small ps k (omega (arith, h)) in omega (arith, l)

-- a state that has a value has a line
pub state-some : (t : Table) (b count : ℕ) → 1 ≤ count → interval_line (codes "state") (pos b ∷ []) (state_hull (t.states b) (count - 1)) ≡ state_text t b count
state-some t b zero h = absurd (omega (arith, h))
state-some t b (suc k) h = let e : suc k - 1 ≡ k = omega arith in ap (λ (m : ℕ). interval_line (codes "state") (pos b ∷ []) (state_hull (t.states b) m)) e

-- the hull with one more value
pub hull-next : (xs : List Interval) (k : ℕ) (all next both : Interval) → all ≡ state_hull xs k → next ≡ state_range xs (k + 1) → both ≡ hull all next → both ≡ state_hull xs (k + 1)
hull-next xs k all next both so_far one is =
    is
    ∙ (ap (λ (i : Interval). hull i next) so_far
    ∙ (ap (hull (state_hull xs k)) one
    ∙ (ap (λ (m : ℕ). hull (state_hull xs k) (state_range xs m)) (add-one k) ∙ sym (ap (state_hull xs) (add-one k)))))

-- ---- stops

or_left : (a b : Bool) → a ≡ true → (a || b) ≡ true
or_left true b h = refl
or_left false b h = cc

or_right : (a b : Bool) → b ≡ true → (a || b) ≡ true
or_right true b h = refl
or_right false b h = h

or_none : (a b : Bool) → a ≡ false → b ≡ false → (a || b) ≡ false
or_none true b h k = cc
or_none false b h k = k

-- a block that may stop
pub may-some : (t : Table) (count k : ℕ) → k < count → (t.stops (k + 1) Overflow || t.stops (k + 1) Zero) ≡ true → may_stop t count ≡ true
may-some t zero k l h = absurd (omega (arith, l))
may-some t (suc c) k l h =
    let earlier : k < c → may_stop t c ≡ true = λ m. may-some t c k m h in
    elim (cases_lt k c) [
      | inl m ↦ or_left (may_stop t c) (t.stops (c + 1) Overflow || t.stops (c + 1) Zero) (earlier m)
      | inr m ↦
          let same : k ≡ c = omega (arith, m, l) in
          or_right (may_stop t c) (t.stops (c + 1) Overflow || t.stops (c + 1) Zero) (subst (λ (j : ℕ). (t.stops (j + 1) Overflow || t.stops (j + 1) Zero) ≡ true) same h)
    ]

-- one more that may not
pub may-next : (t : Table) (k : ℕ) (here : Bool) → may_stop t k ≡ false → here ≡ (t.stops (k + 1) Overflow || t.stops (k + 1) Zero) → here ≡ false → may_stop t (k + 1) ≡ false
may-next t k here none is not =
    ap (may_stop t) (add-one k) ∙ or_none (may_stop t k) (t.stops (k + 1) Overflow || t.stops (k + 1) Zero) none (sym is ∙ not)

-- ---- a block has few outputs, with few elements

outs_most : (c : Kind) (n : ℕ) → (counts_of c n).outs_most ≤ 64
outs_most Const n = lit≤ tt
outs_most _ n = lit≤ tt

few_of : (s : Spec) → typed s ≡ true → length s.outs ≤ 64
few_of s h = let t = tests s.kind s h in let most = t.outs_most in let few = outs_most s.kind (length s.ins) in omega (arith, most, few)

pub few_outs : (n : Parts) (b : ℕ) → IsNet n → IsBlock n b → length (spec_of n b).outs ≤ 64
few_outs n b net block = few_of (spec_of n b) (net.typed_specs b block)

part_of_all : (ss : List Spec) (k : ℕ) → k < length ss → total (get_or ss k no_spec).outs ≤ all_elements ss
part_of_all [] k h = absurd (omega (arith, h))
part_of_all (s ∷ ss) zero h = omega arith
part_of_all (s ∷ ss) (suc k) h = let l = part_of_all ss k (omega (arith, h)) in omega (arith, l)

pub outs_small : (n : Parts) (b : ℕ) → IsNet n → IsBlock n b → total (spec_of n b).outs ≤ 65536
outs_small n zero net block = absurd (omega (arith, block.least))
outs_small n (suc k) net block = let l = part_of_all n.specs k (omega (arith, block.most)) in omega (arith, l, net.small)
