-- The steps of a bulk diagram: one along each link. A chain from an output to an input is one of them.
use Rattle.std.proofs.Common.{◌≡◌, ◌≤◌, ◌<◌, ◌+◌, ◌++◌, inl, inr, ℕ, zero, suc, List, [], ◌∷◌, map, Bool, true, false, Some, ℤ, pos, refl, sym, ◌∙◌, ap, subst, arith, append-nil}
use Rattle.std.specs.Prelude.{slice_get, slice_index_or}
use Rattle.sci_base.specs.Outcome.{Outcome}
use Rattle.sci_diagram.specs.Objects.{Object, objects_of}
use Rattle.sci_blocks.specs.declared.class.PortClass.{PortClass}
use Rattle.sci_blocks.specs.declared.class.PortClass.TheVariants.{Input, Output, ActivationInput, ActivationOutput}
use Rattle.sci_goto.specs.Phase.{Tags}
use Rattle.sci_flat.specs.Chain.{Step, Chain, stay, onward}
use Rattle.sci_flat.specs.Ports.{Port, port, PortStep, steps_of, object_steps, tree_steps}
use Rattle.sci_flat.specs.Tagged.{tag_steps, all_steps}
use Rattle.sci_bulk.specs.declared.data_block.DataBlock.{DataBlock}
use Rattle.sci_bulk.specs.declared.data_block.DataBlock.TheVariants.{One, Delay, Sum, Triple}
use Rattle.sci_bulk.specs.Bulk.{clocks, clock, data_object, activates, feeds, links_into, links_from, drawing}
use Rattle.sci_bulk.proofs.Shapes.{Each, each_append, each_block, block_objects, link_objects}
use Rattle.sci_bulk.proofs.Drawn.{IsDrawn, AreDrawn, eight}
use Rattle.sci_bulk.proofs.Placing.{tags_kept}

-- ---- the steps

abbrev pub activation_step : (c o : ℕ) → PortStep
activation_step c o = (port (c ∷ []) ActivationOutput (pos 1), port (o ∷ []) ActivationInput (pos 1))

abbrev pub regular_step : (a o p : ℕ) → PortStep
regular_step a o p = (port ((8 + a) ∷ []) Output (pos 1), port (o ∷ []) Input (pos p))

abbrev pub clock_step : ℕ → PortStep
clock_step j = activation_step j j

abbrev pub steps_into : ℕ → DataBlock → List PortStep
steps_into o One = []
steps_into o (Delay c a) = activation_step c o ∷ regular_step a o 1 ∷ []
steps_into o (Sum a b) = regular_step a o 1 ∷ regular_step b o 2 ∷ []
steps_into o (Triple a) = regular_step a o 1 ∷ []

abbrev pub steps_from : ℕ → List DataBlock → List PortStep
steps_from o [] = []
steps_from o (d ∷ ds) = steps_into o d ++ steps_from (suc o) ds

abbrev pub steps_in : List DataBlock → List PortStep
steps_in ds = map clock_step clocks ++ steps_from 9 ds

-- ---- no others

abbrev HasNoStep : Object → Type 0
HasNoStep o = (here : List ℕ) → object_steps [] here o ≡ []

clock_steps : (j : ℕ) → HasNoStep (clock j)
unfolding object_steps
clock_steps j here = refl

data_steps : (d : DataBlock) → HasNoStep (data_object d)
unfolding object_steps
data_steps One here = refl
data_steps (Delay c a) here = refl
data_steps (Sum a b) here = refl
data_steps (Triple a) here = refl

abbrev HasStep : Object → PortStep → Type 0
HasStep o s = (here : List ℕ) → object_steps [] here o ≡ s ∷ []

activation_along : (c o : ℕ) → HasStep (activates c o) (activation_step c o)
unfolding object_steps
activation_along c o here = refl

regular_along : (a o p : ℕ) → HasStep (feeds a o p) (regular_step a o p)
unfolding object_steps
regular_along a o p here = refl

abbrev HaveSteps : List Object → List PortStep → Type 0
HaveSteps [] [] = Unit {0}
HaveSteps [] (s ∷ ss) = ⊥
HaveSteps (o ∷ os) [] = ⊥
HaveSteps (o ∷ os) (s ∷ ss) = HasStep o s × HaveSteps os ss

into_along : (o : ℕ) (d : DataBlock) (os : List Object) (ss : List PortStep) → HaveSteps os ss → HaveSteps (links_into o d ++ os) (steps_into o d ++ ss)
into_along o One os ss h = h
into_along o (Delay c a) os ss h = (activation_along c o, (regular_along a o 1, h))
into_along o (Sum a b) os ss h = (regular_along a o 1, (regular_along b o 2, h))
into_along o (Triple a) os ss h = (regular_along a o 1, h)

from_along : (o : ℕ) (ds : List DataBlock) → HaveSteps (links_from o ds) (steps_from o ds)
from_along o [] = tt
from_along o (d ∷ ds) = into_along o d (links_from (suc o) ds) (steps_from (suc o) ds) (from_along (suc o) ds)

all_along : (ds : List DataBlock) → HaveSteps (link_objects ds) (steps_in ds)
all_along ds =
    let h = activation_along in
    (h 1 1, (h 2 2, (h 3 3, (h 4 4, (h 5 5, (h 6 6, (h 7 7, (h 8 8, from_along 9 ds))))))))

links_steps : (k : ℕ) (os : List Object) (ss : List PortStep) → HaveSteps os ss → steps_of [] k (objects_of os) ≡ ss
unfolding steps_of
links_steps k [] [] h = refl
links_steps k [] (s ∷ ss) h = absurd h
links_steps k (o ∷ os) [] h = absurd h
links_steps k (o ∷ os) (s ∷ ss) h =
    ap (λ (l : List PortStep). l ++ steps_of [] (k + 1) (objects_of os)) (h.0 (k ∷ [])) ∙ ap (λ (l : List PortStep). s ∷ l) (links_steps (k + 1) os ss h.1)

steps_behind : (k : ℕ) (os rest : List Object) (ss : List PortStep) → Each HasNoStep os → ((j : ℕ) → steps_of [] j (objects_of rest) ≡ ss) → steps_of [] k (objects_of (os ++ rest)) ≡ ss
unfolding steps_of
steps_behind k [] rest ss h more = more k
steps_behind k (o ∷ os) rest ss h more =
    ap (λ (l : List PortStep). l ++ steps_of [] (k + 1) (objects_of (os ++ rest))) (h.0 (k ∷ [])) ∙ steps_behind (k + 1) os rest ss h.1 more

drawn_steps : (ds : List DataBlock) → tree_steps (objects_of (drawing ds)) ≡ steps_in ds
drawn_steps ds =
    steps_behind 1 (block_objects ds) (link_objects ds) (steps_in ds) (each_block HasNoStep clock_steps data_steps ds) (λ j. links_steps j (link_objects ds) (steps_in ds) (all_along ds))

pub steps_are : (ds : List DataBlock) → all_steps (objects_of (drawing ds)) ≡ steps_in ds
steps_are ds =
    ap (λ (o : Outcome Tags). tree_steps (objects_of (drawing ds)) ++ tag_steps o) (tags_kept ds)
    ∙ (append-nil (tree_steps (objects_of (drawing ds))) ∙ drawn_steps ds)

-- ---- chains

abbrev leaves : PortClass → Bool
leaves Input = false
leaves Output = true
leaves ActivationInput = false
leaves ActivationOutput = true

pub each_step : {A : Type 0} (P : A → A → Type 0) (es : List (A × A)) → Each (λ (e : A × A). P e.0 e.1) es → (p q : A) → Step es p q → P p q
each_step P [] h p q s = absurd s
each_step P (e ∷ es) h p q (inl s) = subst (λ y. P p y) s.1 (subst (λ x. P x e.1) s.0 h.0)
each_step P (e ∷ es) h p q (inr s) = each_step P es h.1 p q s

-- from an output to an input
abbrev IsAcross : Port → Port → Type 0
IsAcross p q = (leaves p.class ≡ true) × (leaves q.class ≡ false)

into_across : (o : ℕ) (d : DataBlock) → Each (λ (e : PortStep). IsAcross e.0 e.1) (steps_into o d)
into_across o One = tt
into_across o (Delay c a) = ((refl, refl), ((refl, refl), tt))
into_across o (Sum a b) = ((refl, refl), ((refl, refl), tt))
into_across o (Triple a) = ((refl, refl), tt)

from_across : (o : ℕ) (ds : List DataBlock) → Each (λ (e : PortStep). IsAcross e.0 e.1) (steps_from o ds)
from_across o [] = tt
from_across o (d ∷ ds) = each_append (λ (e : PortStep). IsAcross e.0 e.1) (steps_into o d) (steps_from (suc o) ds) (into_across o d) (from_across (suc o) ds)

all_across : (ds : List DataBlock) → Each (λ (e : PortStep). IsAcross e.0 e.1) (steps_in ds)
all_across ds =
    ((refl, refl), ((refl, refl), ((refl, refl), ((refl, refl), ((refl, refl), ((refl, refl), ((refl, refl), ((refl, refl), from_across 9 ds))))))))

module _ (es : List PortStep) (across : (p q : Port) → Step es p q → IsAcross p q) where
  stays : {p q : Port} → Chain es p q → leaves q.class ≡ true → p ≡ q
  stays stay h = refl
  stays (onward {q = r} {r = q} before s) h = let low = (across r q s).1 in cc

  one_step : {p q : Port} → Chain es p q → leaves p.class ≡ true → leaves q.class ≡ false → Step es p q
  one_step stay h k = cc
  one_step (onward {q = r} {r = q} before s) h k = subst (λ (x : Port). Step es x q) (sym (stays before (across r q s).0)) s

pub single : (ds : List DataBlock) (p q : Port) → leaves p.class ≡ true → leaves q.class ≡ false → Chain (all_steps (objects_of (drawing ds))) p q → Step (steps_in ds) p q
single ds p q h k c =
    let here : Chain (steps_in ds) p q = subst (λ (es : List PortStep). Chain es p q) (steps_are ds) c in
    one_step (steps_in ds) (each_step IsAcross (steps_in ds) (all_across ds)) here h k

pub chained : (ds : List DataBlock) (p q : Port) → Step (steps_in ds) p q → Chain (all_steps (objects_of (drawing ds))) p q
chained ds p q s = subst (λ (es : List PortStep). Chain es p q) (sym (steps_are ds)) (onward stay s)

-- ---- which steps there are

step_left : {A : Type 0} (xs ys : List (A × A)) (p q : A) → Step xs p q → Step (xs ++ ys) p q
step_left [] ys p q s = absurd s
step_left (x ∷ xs) ys p q (inl e) = inl e
step_left (x ∷ xs) ys p q (inr s) = inr (step_left xs ys p q s)

step_right : {A : Type 0} (xs ys : List (A × A)) (p q : A) → Step ys p q → Step (xs ++ ys) p q
step_right [] ys p q s = s
step_right (x ∷ xs) ys p q s = inr (step_right xs ys p q s)

step_from : (o m b : ℕ) (ds : List DataBlock) (d : DataBlock) → b ≡ o + m → slice_get ds m ≡ Some d → (p q : Port) → Step (steps_into b d) p q → Step (steps_from o ds) p q
step_from o m b [] d at is p q s = cc
step_from o zero b (x ∷ ds) d at is p q s =
    let same : d ≡ x = cc in
    let here : b ≡ o = omega (arith, at) in
    step_left (steps_into o x) (steps_from (suc o) ds) p q (subst (λ (y : DataBlock). Step (steps_into o y) p q) same (subst (λ (k : ℕ). Step (steps_into k d) p q) here s))
step_from o (suc m) b (x ∷ ds) d at is p q s =
    step_right (steps_into o x) (steps_from (suc o) ds) p q (step_from (suc o) m b ds d (omega (arith, at)) is p q s)

-- into data block d, at object b
pub data_step : (ds : List DataBlock) (m b : ℕ) (d : DataBlock) → b ≡ 9 + m → slice_get ds m ≡ Some d → (p q : Port) → Step (steps_into b d) p q → Step (steps_in ds) p q
data_step ds m b d at is p q s = step_right (map clock_step clocks) (steps_from 9 ds) p q (step_from 9 m b ds d at is p q s)

-- from each clock to itself
pub own_step : (ds : List DataBlock) (j : ℕ) → 1 ≤ j → j ≤ 8 → Step (steps_in ds) (port (j ∷ []) ActivationOutput (pos 1)) (port (j ∷ []) ActivationInput (pos 1))
own_step ds j least most =
    step_left (map clock_step clocks) (steps_from 9 ds) (port (j ∷ []) ActivationOutput (pos 1)) (port (j ∷ []) ActivationInput (pos 1))
    (eight (λ (i : ℕ). Step (map clock_step clocks) (port (i ∷ []) ActivationOutput (pos 1)) (port (i ∷ []) ActivationInput (pos 1)))
    (inl (refl, refl)) (inr (inl (refl, refl))) (inr (inr (inl (refl, refl)))) (inr (inr (inr (inl (refl, refl))))) (inr (inr (inr (inr (inl (refl, refl))))))
    (inr (inr (inr (inr (inr (inl (refl, refl))))))) (inr (inr (inr (inr (inr (inr (inl (refl, refl)))))))) (inr (inr (inr (inr (inr (inr (inr (inl (refl, refl)))))))))
    j least most)

-- ---- a value comes from an earlier object

abbrev IsEarlier : Port → Port → Type 0
IsEarlier p q = (x y : ℕ) (k l : ℤ) → p ≡ port (x ∷ []) Output k → q ≡ port (y ∷ []) Input l → x < y

activation_earlier : (c o : ℕ) → IsEarlier (port (c ∷ []) ActivationOutput (pos 1)) (port (o ∷ []) ActivationInput (pos 1))
activation_earlier c o x y k l e f = let same : ActivationOutput ≡ Output = ap (λ (p : Port). p.class) e in cc

regular_earlier : (a o p : ℕ) → 8 + a < o → IsEarlier (port ((8 + a) ∷ []) Output (pos 1)) (port (o ∷ []) Input (pos p))
regular_earlier a o p less x y k l e f =
    let from : 8 + a ≡ x = ap (λ (p : Port). slice_index_or p.place 0 0) e in
    let to : o ≡ y = ap (λ (p : Port). slice_index_or p.place 0 0) f in
    omega (arith, less, from, to)

into_earlier : (i o : ℕ) (d : DataBlock) → o ≡ 8 + i → IsDrawn i d → Each (λ (e : PortStep). IsEarlier e.0 e.1) (steps_into o d)
into_earlier i o One at h = tt
into_earlier i o (Delay c a) at h = (activation_earlier c o, (regular_earlier a o 1 (let l = h.3 in omega (arith, l, at)), tt))
into_earlier i o (Sum a b) at h = (regular_earlier a o 1 (let l = h.1 in omega (arith, l, at)), (regular_earlier b o 2 (let l = h.3 in omega (arith, l, at)), tt))
into_earlier i o (Triple a) at h = (regular_earlier a o 1 (let l = h.1 in omega (arith, l, at)), tt)

from_earlier : (i o : ℕ) (ds : List DataBlock) → o ≡ 8 + i → AreDrawn i ds → Each (λ (e : PortStep). IsEarlier e.0 e.1) (steps_from o ds)
from_earlier i o [] at h = tt
from_earlier i o (d ∷ ds) at h =
    each_append (λ (e : PortStep). IsEarlier e.0 e.1) (steps_into o d) (steps_from (suc o) ds) (into_earlier i o d at h.0) (from_earlier (suc i) (suc o) ds (omega (arith, at)) h.1)

all_earlier : (ds : List DataBlock) → AreDrawn 1 ds → Each (λ (e : PortStep). IsEarlier e.0 e.1) (steps_in ds)
all_earlier ds h =
    let c = activation_earlier in
    (c 1 1, (c 2 2, (c 3 3, (c 4 4, (c 5 5, (c 6 6, (c 7 7, (c 8 8, from_earlier 1 9 ds refl h))))))))

pub earlier_step : (ds : List DataBlock) → AreDrawn 1 ds → (x y : ℕ) (k l : ℤ) → Step (steps_in ds) (port (x ∷ []) Output k) (port (y ∷ []) Input l) → x < y
earlier_step ds h x y k l s = each_step IsEarlier (steps_in ds) (all_earlier ds h) (port (x ∷ []) Output k) (port (y ∷ []) Input l) s x y k l refl refl
