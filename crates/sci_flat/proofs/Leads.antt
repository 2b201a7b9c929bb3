-- Where the steps of a diagram lead: to a port of its superblock, to a port within it, or along a link.
use Rattle.std.proofs.Common.{◌≡◌, ℕ, zero, suc, ◌+◌, ◌≤◌, ℤ, pos, negsuc, List, [], ◌∷◌, ◌++◌, length, true, ◌⊎◌, inl, inr, Option, Some, None, refl, sym, ap, ◌∙◌, subst, arith, append_assoc}
use Rattle.std.specs.Prelude.{codes}
use Rattle.std.specs.Str.{bytes_eq}
use Rattle.std.specs.List.{zip}
use Rattle.sci_base.specs.Plain.{Fields}
use Rattle.sci_diagram.specs.declared.diagram.End.{End}
use Rattle.sci_diagram.specs.Objects.{Object, block, superblock, link, text, deleted, Objects, no_objects, object}
use Rattle.sci_blocks.specs.declared.class.PortClass.{PortClass}
use Rattle.sci_blocks.specs.declared.class.PortClass.TheVariants.{Input, Output, ActivationInput, ActivationOutput}
use Rattle.sci_blocks.specs.declared.class.LinkType.{LinkType}
use Rattle.sci_blocks.specs.declared.class.LinkType.TheVariants.{Regular, Activation}
use Rattle.sci_blocks.specs.declared.pass_through.PassThrough.{PassThrough}
use Rattle.sci_blocks.specs.declared.pass_through.PassThrough.TheVariants.{Split, ActivationSplit, Union, PortBlock, Giver, Taker}
use Rattle.sci_blocks.specs.Ports.{named_number, object_number, numbers, times}
use Rattle.sci_blocks.specs.Rows.{pass_through, number_broken}
use Rattle.sci_blocks.specs.Wiring.{link_type, regular_end, fed_by}
use Rattle.sci_blocks.specs.Kept.{IsBlockKept, AreObjectsKept, IsObjectKept, regular_ends, ends_at}
use Rattle.sci_flat.specs.Chain.{Step}
use Rattle.sci_flat.specs.Ports.{Port, port, place_port, link_steps, split_steps, union_steps, numbered_steps, through_steps, steps_of, object_steps}
use Rattle.sci_flat.specs.Laws.{IsRegular}
use Rattle.sci_flat.proofs.Valid.{block_name}
use Rattle.sci_flat.proofs.Lists.{step_append, step_map, not_longer, same_first, same_rest, times-append, ends_at-append, one_up, times_own, ends_own}

-- ---- where a step leads

-- to an output of the superblock at a place, whose number is one of these
pub record Up (at ns : List ℕ) (q : Port) : Type 0 where
  pub place : q.place ≡ at
  pub class : q.class ≡ Output
  pub n : ℕ
  pub number : q.number ≡ pos n
  pub counted : 1 ≤ times n ns

-- to an input of an object at which one of these ends is
pub record Along (at : List ℕ) (es : List End) (q : Port) : Type 0 where
  pub j : ℕ
  pub place : q.place ≡ at ++ j ∷ []
  pub class : q.class ≡ Input
  pub counted : 1 ≤ ends_at (pos j) q.number es

-- to a port within an object whose position is such, or to an output of it
pub record Down (at : List ℕ) (P : ℕ → Type 0) (q : Port) : Type 0 where
  pub j : ℕ
  pub rest : List ℕ
  pub place : q.place ≡ at ++ j ∷ rest
  pub there : P j
  pub deep : rest ≡ [] → q.class ≡ Output

abbrev pub Where : List ℕ → List ℕ → List End → (ℕ → Type 0) → Port → Type 0
Where at ns es P q = Up at ns q ⊎ (Along at es q ⊎ Down at P q)

abbrev pub First : List ℕ → ℕ → List ℕ → List End → Port → Type 0
First at k ns es q = Where at ns es (λ j. j ≡ k) q

abbrev pub Later : List ℕ → ℕ → List ℕ → List End → Port → Type 0
Later at k ns es q = Where at ns es (λ j. k ≤ j) q

widen_first : (at : List ℕ) (k : ℕ) (ns ms : List ℕ) (es fs : List End) (q : Port) → First at k ns es q → Later at k (ns ++ ms) (es ++ fs) q
widen_first at k ns ms es fs q (inl u) = inl (record { place = u.place; class = u.class; n = u.n; number = u.number; counted = omega (arith, times-append u.n ns ms, u.counted) })
widen_first at k ns ms es fs q (inr (inl a)) = inr (inl (record { j = a.j; place = a.place; class = a.class; counted = omega (arith, ends_at-append (pos a.j) q.number es fs, a.counted) }))
widen_first at k ns ms es fs q (inr (inr d)) = inr (inr (record { j = d.j; rest = d.rest; place = d.place; there = omega (arith, d.there); deep = d.deep }))

widen_later : (at : List ℕ) (k : ℕ) (ns ms : List ℕ) (es fs : List End) (q : Port) → Later at (k + 1) ms fs q → Later at k (ns ++ ms) (es ++ fs) q
widen_later at k ns ms es fs q (inl u) = inl (record { place = u.place; class = u.class; n = u.n; number = u.number; counted = omega (arith, times-append u.n ns ms, u.counted) })
widen_later at k ns ms es fs q (inr (inl a)) = inr (inl (record { j = a.j; place = a.place; class = a.class; counted = omega (arith, ends_at-append (pos a.j) q.number es fs, a.counted) }))
widen_later at k ns ms es fs q (inr (inr d)) = inr (inr (record { j = d.j; rest = d.rest; place = d.place; there = omega (arith, d.there); deep = d.deep }))

-- what leads somewhere in the diagram inside a superblock leads to the superblock or within it
inward : (at : List ℕ) (k : ℕ) (ns : List ℕ) (es : List End) (q : Port) → Later (at ++ k ∷ []) 1 ns es q → First at k [] [] q
inward at k ns es q (inl u) = inr (inr (record { j = k; rest = []; place = u.place; there = refl; deep = λ _. u.class }))
inward at k ns es q (inr (inl a)) = inr (inr (record { j = k; rest = a.j ∷ []; place = a.place ∙ append_assoc at (k ∷ []) (a.j ∷ []); there = refl; deep = λ e. cc }))
inward at k ns es q (inr (inr d)) = inr (inr (record { j = k; rest = d.j ∷ d.rest; place = d.place ∙ append_assoc at (k ∷ []) (d.j ∷ d.rest); there = refl; deep = λ e. cc }))

-- a step of the first object and one of the others don't lead to the same port
pub apart : (at : List ℕ) (k : ℕ) (ns ms : List ℕ) (es fs : List End) (q : Port) → ((n : ℕ) → times n (ns ++ ms) ≤ 1) → ((b p : ℤ) → ends_at b p (es ++ fs) ≤ 1)
    → First at k ns es q → Later at (k + 1) ms fs q → ⊥
apart at k ns ms es fs q once fed (inl u) (inl v) =
    let f : pos u.n ≡ pos v.n = sym u.number ∙ v.number in
    let same : u.n ≡ v.n = cc in
    let low : 1 ≤ times u.n ms = subst (λ (n : ℕ). 1 ≤ times n ms) (sym same) v.counted in
    omega (arith, once u.n, times-append u.n ns ms, u.counted, low)
apart at k ns ms es fs q once fed (inl u) (inr (inl a)) = let f : Output ≡ Input = sym u.class ∙ a.class in cc
apart at k ns ms es fs q once fed (inl u) (inr (inr d)) = not_longer at d.j d.rest (sym u.place ∙ d.place)
apart at k ns ms es fs q once fed (inr (inl a)) (inl v) = let f : Output ≡ Input = sym v.class ∙ a.class in cc
apart at k ns ms es fs q once fed (inr (inl a)) (inr (inl b)) =
    let same = same_first at b.j a.j [] [] (sym b.place ∙ a.place) in
    let low : 1 ≤ ends_at (pos a.j) q.number fs = subst (λ (j : ℕ). 1 ≤ ends_at (pos j) q.number fs) same b.counted in
    omega (arith, fed (pos a.j) q.number, ends_at-append (pos a.j) q.number es fs, a.counted, low)
apart at k ns ms es fs q once fed (inr (inl a)) (inr (inr d)) = let f : Output ≡ Input = sym (d.deep (same_rest at d.j a.j d.rest [] (sym d.place ∙ a.place))) ∙ a.class in cc
apart at k ns ms es fs q once fed (inr (inr d)) (inl v) = not_longer at d.j d.rest (sym v.place ∙ d.place)
apart at k ns ms es fs q once fed (inr (inr d)) (inr (inl b)) = let f : Output ≡ Input = sym (d.deep (same_rest at d.j b.j d.rest [] (sym d.place ∙ b.place))) ∙ b.class in cc
apart at k ns ms es fs q once fed (inr (inr d)) (inr (inr f)) = omega (arith, same_first at d.j f.j d.rest f.rest (sym d.place ∙ f.place), d.there, f.there)

-- ---- through a split or a union

pub irregular : (c : PortClass) (q : Port) → q.class ≡ c → IsRegular q.class → IsRegular c
irregular c q e r = subst IsRegular e r

-- a step from one port
pub record Out (here : List ℕ) (from to : PortClass) (p q : Port) : Type 0 where
  pub source : port here from (pos 1) ≡ p
  pub place : q.place ≡ here
  pub class : q.class ≡ to

pub splits : (here : List ℕ) (from to : PortClass) (outs : ℕ) (p q : Port) → Step (split_steps here from to outs) p q → Out here from to p q
splits here from to outs p q s = step_map (λ k. (port here from (pos 1), port here to (pos k))) (λ p q. Out here from to p q) (λ k. record { source = refl; place = refl; class = refl }) 1 outs p q s

pub unites : (here : List ℕ) (ins : ℕ) (p q : Port) → Step (union_steps here ins) p q → q.class ≡ ActivationOutput
unites here ins p q s = step_map (λ k. (port here ActivationInput (pos k), port here ActivationOutput (pos 1))) (λ p q. q.class ≡ ActivationOutput) (λ k. refl) 1 ins p q s

-- ---- port blocks

out_named : (gui : List ℕ) → pass_through gui ≡ Some (PortBlock Output) → bytes_eq gui (codes "OUT_f") ≡ true
out_named gui h = block_name gui Output h

named_own : (gui : List ℕ) (n : ℕ) → bytes_eq gui (codes "OUT_f") ≡ true → 1 ≤ times (suc n) (named_number Output gui (pos (suc n) ∷ []))
named_own gui n e = rw (e, one_up n) (times_own (suc n))

down_here : (at : List ℕ) (k : ℕ) (ns : List ℕ) (es : List End) (q : Port) → q.place ≡ at ++ k ∷ [] → q.class ≡ Output → First at k ns es q
down_here at k ns es q e f = inr (inr (record { j = k; rest = []; place = e; there = refl; deep = λ _. f }))

numbered_leads : (at : List ℕ) (k : ℕ) (c : PortClass) (gui : List ℕ) → pass_through gui ≡ Some (PortBlock c) → (ps : List ℤ) → number_broken ps ≡ None → (p q : Port) → IsRegular q.class
    → Step (numbered_steps at (at ++ k ∷ []) c ps) p q → First at k (named_number Output gui ps) [] q
numbered_leads at k c gui e [] b p q r s = absurd s
numbered_leads at k c gui e (n ∷ m ∷ ns) b p q r s = absurd s
numbered_leads at k Input gui e (n ∷ []) b p q r (inl s) = down_here at k _ [] q (ap (λ (x : Port). x.place) (sym s.1)) (ap (λ (x : Port). x.class) (sym s.1))
numbered_leads at k Input gui e (n ∷ []) b p q r (inr s) = absurd s
numbered_leads at k Output gui e (pos zero ∷ []) b p q r (inl s) = cc
numbered_leads at k Output gui e (negsuc n ∷ []) b p q r (inl s) = cc
numbered_leads at k Output gui e (pos (suc n) ∷ []) b p q r (inl s) = inl (record {
  place = ap (λ (x : Port). x.place) (sym s.1);
  class = ap (λ (x : Port). x.class) (sym s.1);
  n = suc n;
  number = ap (λ (x : Port). x.number) (sym s.1);
  counted = named_own gui n (out_named gui e);
})
numbered_leads at k Output gui e (n ∷ []) b p q r (inr s) = absurd s
numbered_leads at k ActivationInput gui e (n ∷ []) b p q r (inl s) = absurd (irregular ActivationOutput q (ap (λ (x : Port). x.class) (sym s.1)) r)
numbered_leads at k ActivationInput gui e (n ∷ []) b p q r (inr s) = absurd s
numbered_leads at k ActivationOutput gui e (n ∷ []) b p q r (inl s) = absurd (irregular ActivationOutput q (ap (λ (x : Port). x.class) (sym s.1)) r)
numbered_leads at k ActivationOutput gui e (n ∷ []) b p q r (inr s) = absurd s

through_leads : (at : List ℕ) (k : ℕ) (gui : List ℕ) (f : Fields) (o : Option PassThrough) → pass_through gui ≡ o → IsBlockKept gui f o → (p q : Port) → IsRegular q.class
    → Step (through_steps at (at ++ k ∷ []) f o) p q → First at k (named_number Output gui f.ipar) [] q
through_leads at k gui f None e kept p q r s = absurd s
through_leads at k gui f (Some Split) e kept p q r s = let o = splits (at ++ k ∷ []) Input Output (length f.outs) p q s in down_here at k _ [] q o.place o.class
through_leads at k gui f (Some ActivationSplit) e kept p q r s = absurd (irregular ActivationOutput q (splits (at ++ k ∷ []) ActivationInput ActivationOutput f.evtout p q s).class r)
through_leads at k gui f (Some Union) e kept p q r s = absurd (irregular ActivationOutput q (unites (at ++ k ∷ []) f.evtin p q s) r)
through_leads at k gui f (Some (PortBlock c)) e kept p q r s = numbered_leads at k c gui e f.ipar kept.1 p q r s
through_leads at k gui f (Some (Giver l)) e kept p q r s = absurd s
through_leads at k gui f (Some (Taker l)) e kept p q r s = absurd s

-- ---- links

-- a step from a port of one object to a port of another
pub record Joint (at : List ℕ) (c d : PortClass) (x y a b : ℤ) (p q : Port) : Type 0 where
  pub i : ℕ
  pub j : ℕ
  pub from : a ≡ pos i
  pub to : b ≡ pos j
  pub source : port (at ++ i ∷ []) c x ≡ p
  pub target : port (at ++ j ∷ []) d y ≡ q

pub joins : (at : List ℕ) (c d : PortClass) (x y a b : ℤ) (p q : Port) → Step (zip (place_port at c x a) (place_port at d y b)) p q → Joint at c d x y a b p q
joins at c d x y (negsuc i) b p q s = absurd s
joins at c d x y (pos i) (negsuc j) p q s = absurd s
joins at c d x y (pos i) (pos j) p q (inl s) = record { i = i; j = j; from = refl; to = refl; source = s.0; target = s.1 }
joins at c d x y (pos i) (pos j) p q (inr s) = absurd s

link_leads : (at : List ℕ) (k : ℕ) (from to : End) (o : Option LinkType) (p q : Port) → IsRegular q.class → Step (link_steps at from to o) p q → First at k [] (regular_end to o) q
link_leads at k from to None p q r s = absurd s
link_leads at k from to (Some Regular) p q r s =
    let t = joins at Output Input from.port to.port from.block to.block p q s in
    let number : to.port ≡ q.number = ap (λ (x : Port). x.number) t.target in
    inr (inl (record {
      j = t.j;
      place = ap (λ (x : Port). x.place) (sym t.target);
      class = ap (λ (x : Port). x.class) (sym t.target);
      counted = subst (λ (z : ℤ). 1 ≤ ends_at (pos t.j) z (to ∷ [])) number (subst (λ (z : ℤ). 1 ≤ ends_at z to.port (to ∷ [])) t.to (ends_own to));
    }))
link_leads at k from to (Some Activation) p q r s =
    let t = joins at ActivationOutput ActivationInput from.port to.port from.block to.block p q s in
    absurd (irregular ActivationInput q (ap (λ (x : Port). x.class) (sym t.target)) r)

-- ---- diagrams

mutual
  unfolding steps_of object_steps

  -- among the objects of the diagram at a place, the first of them at position k
  pub leads : (at : List ℕ) (k : ℕ) (os : Objects) → AreObjectsKept os → (p q : Port) → IsRegular q.class → Step (steps_of at k os) p q → Later at k (numbers Output os) (regular_ends os) q
  leads at k no_objects kept p q r s = absurd s
  leads at k (object o os) kept p q r s = elim (step_append (object_steps at (at ++ k ∷ []) o) (steps_of at (k + 1) os) p q s) [
    | inl a ↦ widen_first at k (object_number Output o) (numbers Output os) (fed_by o) (regular_ends os) q (object_leads at k o kept.0 p q r a)
    | inr b ↦ widen_later at k (object_number Output o) (numbers Output os) (fed_by o) (regular_ends os) q (leads at (k + 1) os kept.1 p q r b)
  ]

  pub object_leads : (at : List ℕ) (k : ℕ) (o : Object) → IsObjectKept o → (p q : Port) → IsRegular q.class → Step (object_steps at (at ++ k ∷ []) o) p q → First at k (object_number Output o) (fed_by o) q
  object_leads at k (block gui f) kept p q r s = through_leads at k gui f (pass_through gui) refl kept p q r s
  object_leads at k (superblock gui f os) kept p q r s = inward at k (numbers Output os) (regular_ends os) q (leads (at ++ k ∷ []) 1 os kept.1 p q r s)
  object_leads at k (link from to kind) kept p q r s = link_leads at k from to (link_type kind) p q r s
  object_leads at k text kept p q r s = absurd s
  object_leads at k deleted kept p q r s = absurd s
