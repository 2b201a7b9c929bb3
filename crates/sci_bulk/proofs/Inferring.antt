-- The flat net of a bulk diagram is typed as it is declared, and keeps the rules on types and sizes.
use Rattle.std.proofs.Common.{◌≡◌, ◌≤◌, ◌+◌, ◌*◌, ◌++◌, inl, inr, ℕ, zero, suc, List, [], ◌∷◌, length, map, Bool, true, false, Option, Some, None, Result, Ok, ℤ, pos, ◌<ℤ◌, refl, sym, ◌∙◌, ap, subst, arith, length-append}
use Rattle.std.specs.Prelude.{slice_get, nat_le, if◌then◌else◌}
use Rattle.std.proofs.lemmas.Int.{ints}
use Rattle.std.proofs.lemmas.Bool.Decides.{nat_tests}
use Rattle.sci_base.specs.Lists.{at}
use Rattle.sci_base.specs.Plain.{Violation}
use Rattle.sci_forms.specs.declared.ports.Port.{Port}
use Rattle.sci_forms.specs.declared.spec.Spec.{Spec}
use Rattle.sci_forms.specs.Forms.{or_else}
use Rattle.sci_net.specs.Parts.{Parts}
use Rattle.sci_net.specs.Net.{all_elements}
use Rattle.sci_infer.specs.declared.parts.PortPart.{PortPart}
use Rattle.sci_infer.specs.declared.parts.Side.{Side}
use Rattle.sci_infer.specs.declared.parts.Side.TheVariants.{Input, Output}
use Rattle.sci_infer.specs.declared.parts.What.{What}
use Rattle.sci_infer.specs.declared.parts.What.TheVariants.{DataType, Rows, Columns}
use Rattle.sci_infer.specs.declared.values.Resolution.{Resolution}
use Rattle.sci_infer.specs.declared.values.Resolution.TheVariants.{Conflict, Open, Values}
use Rattle.sci_infer.specs.Values.{declared_at}
use Rattle.sci_infer.specs.Typing.{IsAllowed, IsAt, Fits, declared_of, Decides}
use Rattle.sci_infer.specs.PortParts.{side_parts, block_parts, parts_from, parts_in, AreTied}
use Rattle.sci_infer.specs.Typed.{typed_port, typed_ports, typed_spec, typed_specs, typed_parts}
use Rattle.sci_infer.specs.Broken.{Blamed, spec_broken, blamed, specs_broken, outs_large, specs_large, sum_large, net_broken}
use Rattle.sci_infer.specs.Answer.{judged, answered, IsAnswer}
use Rattle.sci_bulk.specs.declared.data_block.DataBlock.{DataBlock}
use Rattle.sci_bulk.specs.declared.data_block.DataBlock.TheVariants.{One, Delay, Sum, Triple}
use Rattle.sci_bulk.proofs.Shapes.{Each, each_append, each_spec, int32, data_spec, specs_of}
use Rattle.sci_bulk.proofs.Drawn.{get_some, each_get}

-- ---- lists

get_left : {A : Type 0} (xs ys : List A) (i : ℕ) (x : A) → slice_get xs i ≡ Some x → slice_get (xs ++ ys) i ≡ Some x
get_left [] ys i x h = cc
get_left (y ∷ xs) ys zero x h = h
get_left (y ∷ xs) ys (suc i) x h = get_left xs ys i x h

get_right : {A : Type 0} (xs ys : List A) (i j : ℕ) (x : A) → i ≡ length xs + j → slice_get ys j ≡ Some x → slice_get (xs ++ ys) i ≡ Some x
get_right [] ys i j x e h = let same : i ≡ j = omega (arith, e) in ap (slice_get ys) same ∙ h
get_right (y ∷ xs) ys zero j x e h = absurd (omega (arith, e))
get_right (y ∷ xs) ys (suc i) j x e h = get_right xs ys i j x (omega (arith, e)) h

-- ---- what is declared

-- of every port
abbrev usual : What → ℤ
usual DataType = pos 3
usual Rows = pos 1
usual Columns = pos 1

abbrev IsUsual : PortPart → Type 0
IsUsual p = p.declared ≡ usual p.what

abbrev IsInt32 : Port → Type 0
IsInt32 p = p ≡ int32

abbrev AreInt32 : Spec → Type 0
AreInt32 s = Each IsInt32 s.ins × Each IsInt32 s.outs

side_usual : (b : ℕ) (s : Side) (k : ℕ) (ps : List Port) → Each IsInt32 ps → Each IsUsual (side_parts b s k ps)
side_usual b s k [] h = tt
side_usual b s k (p ∷ ps) h =
    let is = h.0 in
    (ap (λ (q : Port). q.ty) is, (ap (λ (q : Port). q.rows) is, (ap (λ (q : Port). q.cols) is, side_usual b s (k + 1) ps h.1)))

from_usual : (b : ℕ) (ss : List Spec) → Each AreInt32 ss → Each IsUsual (parts_from b ss)
from_usual b [] h = tt
from_usual b (s ∷ ss) h =
    each_append IsUsual (block_parts b s) (parts_from (b + 1) ss)
    (each_append IsUsual (side_parts b Input 1 s.ins) (side_parts b Output 1 s.outs) (side_usual b Input 1 s.ins h.0.0) (side_usual b Output 1 s.outs h.0.1)) (from_usual (b + 1) ss h.1)

data_int32 : (d : DataBlock) → AreInt32 (data_spec d)
data_int32 One = (tt, (refl, tt))
data_int32 (Delay c a) = ((refl, tt), (refl, tt))
data_int32 (Sum a b) = ((refl, (refl, tt)), (refl, tt))
data_int32 (Triple a) = ((refl, tt), (refl, tt))

all_int32 : (ds : List DataBlock) → Each AreInt32 (specs_of ds)
all_int32 ds = each_spec AreInt32 (λ j. (tt, tt)) data_int32 ds

usual_allowed : (w : What) → IsAllowed w (usual w)
usual_allowed DataType = (omega (arith, ints), omega (arith, ints))
usual_allowed Rows = omega (arith, ints)
usual_allowed Columns = omega (arith, ints)

usual_positive : (w : What) → pos 0 <ℤ usual w
usual_positive DataType = omega (arith, ints)
usual_positive Rows = omega (arith, ints)
usual_positive Columns = omega (arith, ints)

declared_get : (ps : List PortPart) (i : ℕ) (p : PortPart) → slice_get ps i ≡ Some p → declared_at (declared_of ps) i ≡ p.declared
declared_get [] i p h = cc
declared_get (q ∷ ps) zero p h = let same : q ≡ p = cc in ap (λ (r : PortPart). r.declared) same
declared_get (q ∷ ps) (suc i) p h = declared_get ps i p h

-- ---- the typing is what is declared

-- from place i on these numbers are what these parts declare
abbrev Declare : List ℤ → ℕ → List PortPart → Type 0
Declare vs i ps = (j : ℕ) (p : PortPart) → slice_get ps j ≡ Some p → at vs (i + j) ≡ p.declared

side_long : (b : ℕ) (s : Side) (k : ℕ) (ps : List Port) → length (side_parts b s k ps) ≡ 3 * length ps
side_long b s k [] = refl
side_long b s k (p ∷ ps) = let e = side_long b s (k + 1) ps in omega (arith, e)

port_declared : (vs : List ℤ) (i : ℕ) (p : Port) → at vs i ≡ p.ty → at vs (i + 1) ≡ p.rows → at vs (i + 2) ≡ p.cols → typed_port vs i ≡ p
port_declared vs i p h k l =
    let make : ℤ → ℤ → ℤ → Port = λ a b c. record { rows = a; cols = b; ty = c } in
    ap (λ (a : ℤ). make a (at vs (i + 2)) (at vs i)) k ∙ (ap (λ (a : ℤ). make p.rows a (at vs i)) l ∙ ap (λ (a : ℤ). make p.rows p.cols a) h)

ports_declared : (vs : List ℤ) (i b : ℕ) (s : Side) (k : ℕ) (ps : List Port) → Declare vs i (side_parts b s k ps) → typed_ports vs i ps ≡ ps
ports_declared vs i b s k [] h = refl
ports_declared vs i b s k (p ∷ ps) h =
    let first : at vs i ≡ p.ty = ap (at vs) (let e : i ≡ i + 0 = omega arith in e) ∙ h 0 (record { block = b; side = s; port = k; what = DataType; declared = p.ty }) refl in
    let rows : at vs (i + 1) ≡ p.rows = h 1 (record { block = b; side = s; port = k; what = Rows; declared = p.rows }) refl in
    let cols : at vs (i + 2) ≡ p.cols = h 2 (record { block = b; side = s; port = k; what = Columns; declared = p.cols }) refl in
    let rest : typed_ports vs (i + 3) ps ≡ ps =
    ports_declared vs (i + 3) b s (k + 1) ps (λ j q is. ap (at vs) (let e : i + 3 + j ≡ i + suc (suc (suc j)) = omega arith in e) ∙ h (suc (suc (suc j))) q is) in
    ap (λ (x : Port). x ∷ typed_ports vs (i + 3) ps) (port_declared vs i p first rows cols) ∙ ap (λ (l : List Port). p ∷ l) rest

specs_declared : (vs : List ℤ) (i b : ℕ) (ss : List Spec) → Declare vs i (parts_from b ss) → typed_specs vs i ss ≡ ss
specs_declared vs i b [] h = refl
specs_declared vs i b (s ∷ ss) h =
    let ins : List PortPart = side_parts b Input 1 s.ins in
    let in_long : length (side_parts b Input 1 s.ins) ≡ 3 * length s.ins = side_long b Input 1 s.ins in
    let out_long : length (side_parts b Output 1 s.outs) ≡ 3 * length s.outs = side_long b Output 1 s.outs in
    let block_long = length-append (side_parts b Input 1 s.ins) (side_parts b Output 1 s.outs) in
    let in_same : typed_ports vs i s.ins ≡ s.ins =
    ports_declared vs i b Input 1 s.ins
    (λ j p is. h j p (get_left (block_parts b s) (parts_from (b + 1) ss) j p (get_left (side_parts b Input 1 s.ins) (side_parts b Output 1 s.outs) j p is))) in
    let out_same : typed_ports vs (i + 3 * length s.ins) s.outs ≡ s.outs =
    ports_declared vs (i + 3 * length s.ins) b Output 1 s.outs
    (λ j p is. ap (at vs) (let e : i + 3 * length s.ins + j ≡ i + (3 * length s.ins + j) = omega arith in e)
    ∙ h (3 * length s.ins + j) p
    (get_left (block_parts b s) (parts_from (b + 1) ss) (3 * length s.ins + j) p
    (get_right (side_parts b Input 1 s.ins) (side_parts b Output 1 s.outs) (3 * length s.ins + j) j p (omega (arith, in_long)) is))) in
    let rest : typed_specs vs (i + (3 * length s.ins + 3 * length s.outs)) ss ≡ ss =
    specs_declared vs (i + (3 * length s.ins + 3 * length s.outs)) (b + 1) ss
    (λ j p is. ap (at vs) (let e : i + (3 * length s.ins + 3 * length s.outs) + j ≡ i + (3 * length s.ins + 3 * length s.outs + j) = omega arith in e)
    ∙ h (3 * length s.ins + 3 * length s.outs + j) p
    (get_right (block_parts b s) (parts_from (b + 1) ss) (3 * length s.ins + 3 * length s.outs + j) j p (omega (arith, block_long, in_long, out_long)) is)) in
    let here : typed_spec vs i s ≡ s =
    ap (λ (ps : List Port). record s { ins = ps; outs = typed_ports vs (i + 3 * length s.ins) s.outs }) in_same ∙ ap (λ (ps : List Port). record s { outs = ps }) out_same in
    ap (λ (x : Spec). x ∷ typed_specs vs (i + (3 * length s.ins + 3 * length s.outs)) ss) here ∙ ap (λ (l : List Spec). s ∷ l) rest

-- ---- no rule on types and sizes is broken

data_sound : (d : DataBlock) → spec_broken (data_spec d) ≡ None
data_sound One = refl
data_sound (Delay c a) = refl
data_sound (Sum a b) = refl
data_sound (Triple a) = refl

data_small : (d : DataBlock) → outs_large 1 (data_spec d).outs ≡ None
data_small One = refl
data_small (Delay c a) = refl
data_small (Sum a b) = refl
data_small (Triple a) = refl

none_else : {A : Type 0} (a b : Option A) → a ≡ None → b ≡ None → or_else a b ≡ None
none_else a b h k = rw (h, k) refl

all_sound : (b : ℕ) (ss : List Spec) → Each (λ (s : Spec). spec_broken s ≡ None) ss → specs_broken b ss ≡ None
all_sound b [] h = refl
all_sound b (s ∷ ss) h = none_else (blamed b (spec_broken s)) (specs_broken (b + 1) ss) (ap (blamed b) h.0) (all_sound (b + 1) ss h.1)

all_small : (b : ℕ) (ss : List Spec) → Each (λ (s : Spec). outs_large 1 s.outs ≡ None) ss → specs_large b ss ≡ None
all_small b [] h = refl
all_small b (s ∷ ss) h = none_else (blamed b (outs_large 1 s.outs)) (specs_large (b + 1) ss) (ap (blamed b) h.0) (all_small (b + 1) ss h.1)

data_elements : (ds : List DataBlock) → all_elements (map data_spec ds) ≡ length ds
data_elements [] = refl
data_elements (One ∷ ds) = let e = data_elements ds in omega (arith, e)
data_elements (Delay c a ∷ ds) = let e = data_elements ds in omega (arith, e)
data_elements (Sum a b ∷ ds) = let e = data_elements ds in omega (arith, e)
data_elements (Triple a ∷ ds) = let e = data_elements ds in omega (arith, e)

elements_are : (ds : List DataBlock) → all_elements (specs_of ds) ≡ length ds
elements_are ds = omega (arith, data_elements ds)

few : (ss : List Spec) → all_elements ss ≤ 65536 → sum_large ss ≡ None
few ss h = test (nat_le (all_elements ss) 65536) _ (let e : nat_le (all_elements ss) 65536 ≡ true = grind (arith, nat_tests) in e)
  where
    test : (b : Bool) (x : Blamed) → b ≡ true → (if b then None else Some x) ≡ None
    test true x h = refl
    test false x h = cc

pub rules_kept : (ds : List DataBlock) → length ds ≤ 2000 → net_broken (specs_of ds) ≡ None
rules_kept ds most =
    let a = all_sound 1 (specs_of ds) (each_spec (λ (s : Spec). spec_broken s ≡ None) (λ j. refl) data_sound ds) in
    let b = all_small 1 (specs_of ds) (each_spec (λ (s : Spec). outs_large 1 s.outs ≡ None) (λ j. refl) data_small ds) in
    let c = few (specs_of ds) (omega (arith, elements_are ds, most)) in
    none_else (specs_broken 1 (specs_of ds)) (or_else (specs_large 1 (specs_of ds)) (sum_large (specs_of ds))) a (none_else (specs_large 1 (specs_of ds)) (sum_large (specs_of ds)) b c)

-- ---- the answer

module _ (n : Parts) (ds : List DataBlock) (most : length ds ≤ 2000) (is : n.specs ≡ specs_of ds) where
  all_usual : Each IsUsual (parts_in n)
  all_usual = subst (λ (ss : List Spec). Each IsUsual (parts_from 1 ss)) (sym is) (from_usual 1 (specs_of ds) (all_int32 ds))

  abbrev typing : ℕ → ℤ
  typing i = declared_at (declared_of (parts_in n)) i

  usual_at : (i : ℕ) (p : PortPart) → IsAt (parts_in n) i p → p.declared ≡ usual p.what
  usual_at i p h = each_get IsUsual (parts_in n) i p all_usual h

  typing_at : (i : ℕ) (p : PortPart) → IsAt (parts_in n) i p → typing i ≡ usual p.what
  typing_at i p h = declared_get (parts_in n) i p h ∙ usual_at i p h

  not_negative : (w : What) (z : ℤ) → z ≡ usual w → z <ℤ pos 0 → ⊥
  not_negative w z is low =
      let positive = usual_positive w in
      absurd (omega (arith, ints, positive, is, low))

  agrees : (i j : ℕ) → AreTied n i j → typing i ≡ typing j
  agrees i j (inl h) = typing_at i h.input h.at_input ∙ (ap usual h.same_part ∙ sym (typing_at j h.output h.at_output))
  agrees i j (inr h) = absurd (not_negative h.left.what h.left.declared (usual_at i h.left h.at_left) h.negative)

  fits : Fits (parts_in n) (AreTied n) typing
  fits = record {
    allowed = λ i p h. subst (λ (z : ℤ). IsAllowed p.what z) (sym (typing_at i p h)) (usual_allowed p.what);
    kept = λ i p h positive. declared_get (parts_in n) i p h;
    agree = agrees;
  }

  -- each fitting typing is what is declared
  one_typing : (t : ℕ → ℤ) → Fits (parts_in n) (AreTied n) t → (i : ℕ) (p : PortPart) → IsAt (parts_in n) i p → t i ≡ p.declared
  one_typing t f i p h = f.kept i p h (subst (λ (z : ℤ). pos 0 <ℤ z) (sym (usual_at i p h)) (usual_positive p.what))

  same_parts : (vs : List ℤ) → Fits (parts_in n) (AreTied n) (declared_at vs) → typed_parts vs n ≡ n
  same_parts vs f =
      let same : typed_specs vs 0 n.specs ≡ n.specs =
      specs_declared vs 0 1 n.specs (λ j p h. ap (at vs) (let e : 0 + j ≡ j = omega arith in e) ∙ one_typing (declared_at vs) f j p h) in
      ap (λ (ss : List Spec). record n { specs = ss }) same

  kept : net_broken n.specs ≡ None
  kept = ap net_broken is ∙ rules_kept ds most

  -- the answer is the net itself
  answer_is : (v : Resolution) (o : Result Parts Violation) → Decides (parts_in n) (AreTied n) v → answered n v ≡ o → o ≡ Ok n
  answer_is (Conflict i span) o d e = absurd (d.0 typing fits)
  answer_is (Open i) o d e =
      let found = get_some (parts_in n) i d.0 in
      absurd (d.1.differ (one_typing d.1.one d.1.one_fits i found.0 found.1 ∙ sym (one_typing d.1.other d.1.other_fits i found.0 found.1)))
  answer_is (Values vs) o d e =
      let same = same_parts vs.items d.1.fits in
      sym e ∙ (ap (λ (m : Parts). judged m (net_broken m.specs)) same ∙ ap (judged n) kept)

  pub own_answer : (o : Result Parts Violation) → IsAnswer n o → o ≡ Ok n
  own_answer o a = answer_is a.verdict o a.decided a.given
