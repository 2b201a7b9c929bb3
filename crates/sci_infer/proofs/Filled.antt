-- Specs filled with the numbers of a typing.
use Rattle.std.proofs.Common.{◌≡◌, ℕ, ℤ, zero, suc, ◌+◌, ◌*◌, ◌<◌, ◌≤◌, List, [], ◌∷◌, ◌++◌, length, get_or, drop, take, sym, ap, ◌∙◌, arith, length-append, append_assoc}
use Rattle.std.proofs.Math.ListN.{set}
use Rattle.std.proofs.lemmas.List.{drop_more, drop_all, append-nil, take_more_set, drop-set-lt, take_all, get_or_default}
use Rattle.std.proofs.lemmas.Grind.{drop_more_same}
use Rattle.sci_forms.specs.declared.spec.Spec.{Spec}
use Rattle.sci_infer.specs.PortParts.{block_parts, parts_from}
use Rattle.sci_infer.specs.Layout.{start_of}
use Rattle.sci_forms.specs.declared.ports.Port.{Port}
use Rattle.sci_forms.specs.Ports.{no_port}
use Rattle.sci_infer.specs.Typed.{typed_port, typed_ports, typed_spec, typed_specs}
use Rattle.sci_infer.proofs.Places.{block_length}

-- a block's parts stand within the list
pub start_within : (b : ℕ) (xs : List Spec) (i : ℕ) (x : Spec) → i < length xs → x ≡ get_or xs i x → start_of xs i + (3 * length x.ins + 3 * length x.outs) ≤ length (parts_from b xs)
start_within b [] i x h e = absurd (omega (arith, h))
start_within b (y ∷ ys) zero x h e =
    let ins : length x.ins ≡ length y.ins = ap (λ (z : Spec). length z.ins) e in
    let outs : length x.outs ≡ length y.outs = ap (λ (z : Spec). length z.outs) e in
    let joined = length-append (block_parts b y) (parts_from (b + 1) ys) in
    let own = block_length b y in
    omega (arith, ins, outs, joined, own)
start_within b (y ∷ ys) (suc i) x h e =
    let r = start_within (b + 1) ys i x (omega (arith, h)) e in
    let joined = length-append (block_parts b y) (parts_from (b + 1) ys) in
    let own = block_length b y in
    omega (arith, r, joined, own)

pub filled_more : (vs : List ℤ) (done whole new : List Spec) (xs : List Spec) (i j : ℕ) (x y : Spec) → i < length xs → x ≡ get_or xs i x
    → done ++ typed_specs vs j (drop i xs) ≡ whole → y ≡ typed_spec vs j x → new ≡ done ++ y ∷ []
    → new ++ typed_specs vs (j + (3 * length x.ins + 3 * length x.outs)) (drop (i + 1) xs) ≡ whole
filled_more vs done whole new xs i j x y h e before filled is =
    let rest : List Spec = typed_specs vs (j + (3 * length x.ins + 3 * length x.outs)) (drop (i + 1) xs) in
    let more : typed_specs vs j (drop i xs) ≡ typed_spec vs j x ∷ rest = ap (typed_specs vs j) (drop_more xs i x h ∙ ap (λ (t : Spec). t ∷ drop (i + 1) xs) (sym e)) in
    ap (λ (ss : List Spec). ss ++ rest) is
    ∙ (append_assoc done (y ∷ []) rest ∙ (ap (λ (s : Spec). done ++ (s ∷ rest)) filled ∙ (sym (ap (λ (ss : List Spec). done ++ ss) more) ∙ before)))

pub filled_all : (vs : List ℤ) (done : List Spec) (xs : List Spec) (i j : ℕ) → length xs ≤ i → done ++ typed_specs vs j (drop i xs) ≡ done
filled_all vs done xs i j h = ap (λ (ss : List Spec). done ++ typed_specs vs j ss) (drop_all i xs h) ∙ append-nil done

pub ports_more : (vs : List ℤ) (done whole new : List Port) (ps : List Port) (i start : ℕ) → i < length ps → done ++ typed_ports vs (start + 3 * i) (drop i ps) ≡ whole
    → new ≡ done ++ typed_port vs (start + 3 * i) ∷ [] → new ++ typed_ports vs (start + 3 * (i + 1)) (drop (i + 1) ps) ≡ whole
ports_more vs done whole new ps i start h before is =
    let rest : List Port = typed_ports vs (start + 3 * (i + 1)) (drop (i + 1) ps) in
    let next : (start + 3 * i) + 3 ≡ start + 3 * (i + 1) = omega arith in
    let more : typed_ports vs (start + 3 * i) (drop i ps) ≡ typed_port vs (start + 3 * i) ∷ rest =
    ap (typed_ports vs (start + 3 * i)) (drop_more ps i no_port h) ∙ ap (λ (j : ℕ). typed_port vs (start + 3 * i) ∷ typed_ports vs j (drop (i + 1) ps)) next in
    ap (λ (qs : List Port). qs ++ rest) is
    ∙ (append_assoc done (typed_port vs (start + 3 * i) ∷ []) rest ∙ (sym (ap (λ (qs : List Port). done ++ qs) more) ∙ before))

-- the spec at a place is changed: those before it are filled, and those behind it are as they were
pub mutated : (vs : List ℤ) (now new orig whole : List Spec) (i j : ℕ) (x y : Spec) → i < length orig → length now ≡ length orig → x ≡ get_or orig i x → y ≡ typed_spec vs j x → new ≡ set now i y
    → take i now ++ typed_specs vs j (drop i orig) ≡ whole → take (i + 1) new ++ typed_specs vs (j + (3 * length x.ins + 3 * length x.outs)) (drop (i + 1) orig) ≡ whole
mutated vs now new orig whole i j x y h long e filled is before =
    filled_more vs (take i now) whole (take (i + 1) new) orig i j x y h e before filled
    (ap (λ (ss : List Spec). take (i + 1) ss) is ∙ take_more_set now i y (omega (arith, h, long)))

pub behind : (now new orig : List Spec) (i : ℕ) (y : Spec) → drop i now ≡ drop i orig → new ≡ set now i y → drop (i + 1) new ≡ drop (i + 1) orig
behind now new orig i y same is =
    ap (λ (ss : List Spec). drop (i + 1) ss) is ∙ (drop-set-lt (i + 1) now i y (omega arith) ∙ drop_more_same now orig i same)

pub at_front : (now orig : List Spec) (i : ℕ) (x d : Spec) → i < length orig → length now ≡ length orig → drop i now ≡ drop i orig → x ≡ get_or now i d → x ≡ get_or orig i d
at_front now orig i x d h long same e =
    let a = drop_more now i d (omega (arith, h, long)) in
    let b = drop_more orig i d h in
    cc

pub all_filled : (vs : List ℤ) (now orig : List Spec) (i j : ℕ) → length orig ≤ i → length now ≡ length orig → take i now ++ typed_specs vs j (drop i orig) ≡ typed_specs vs 0 orig → now ≡ typed_specs vs 0 orig
all_filled vs now orig i j h long e = sym (take_all i now (omega (arith, h, long))) ∙ (sym (filled_all vs (take i now) orig i j h) ∙ e)

pub same_spec : (orig : List Spec) (i : ℕ) (x y : Spec) → i < length orig → x ≡ get_or orig i x → y ≡ get_or orig i y → x ≡ y
same_spec orig i x y h e f = e ∙ (get_or_default orig i x y h ∙ sym f)
