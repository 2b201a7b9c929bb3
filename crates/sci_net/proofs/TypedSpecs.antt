-- What typed specs have.
use Rattle.std.proofs.Common.{◌≡◌, ℕ, zero, suc, ◌+◌, ◌-◌, ◌<◌, ◌≤◌, ◌^◌, ℤ, pos, negsuc, Bool, true, false, ◌&&◌, cond, List, [], ◌∷◌, length, get_or, All, refl, sym, ap, subst, arith, length-append, lit≤}
use Rattle.std.specs.Prelude.{nat_eq, nat_le, int_le, is_none, unsigned_abs}
use Rattle.std.proofs.lemmas.List.{get_or_default}
use Rattle.std.proofs.lemmas.Bool.Decides.{nat_tests}
use Rattle.sci_base.specs.Lists.{at}
use Rattle.sci_forms.specs.declared.Kind.{Kind}
use Rattle.sci_forms.specs.declared.Kind.TheVariants.{Sensor, IfThEl, ESelect}
use Rattle.sci_forms.specs.declared.spec.Spec.{Spec}
use Rattle.sci_forms.specs.Forms.{unless, between, all_to, param_ok, counts_of}
use Rattle.sci_forms.specs.Form.{is_sync, is_sensor}
use Rattle.sci_forms.specs.Typed.{typed, formed_of, counted}
use Rattle.sci_net.specs.Parts.{Parts, spec_of, no_spec, column_of, numbered}
use Rattle.sci_net.specs.Net.{IsNet}
use Rattle.sci_net.specs.Sources.{ports_to, block_sources, sources_from}
use Rattle.sci_net.proofs.Numbered.{numbered_read}

left : (a b : Bool) → (a && b) ≡ true → a ≡ true
left true b h = refl
left false b h = h

right : (a b : Bool) → (a && b) ≡ true → b ≡ true
right true b h = h
right false b h = cc

pub typed_formed : (s : Spec) → typed s ≡ true → formed_of s.kind s ≡ true
typed_formed s h = left _ _ (left _ _ (left _ _ h))

-- ---- a sensor's column

one_holds : (b : Bool) (k : ℕ) → is_none (unless b k) ≡ true → b ≡ true
one_holds true k h = refl
one_holds false k h = cc

one_of : (f : ℕ → Bool) (n : ℕ) → nat_eq n 1 ≡ true → all_to f n ≡ true → f 0 ≡ true
one_of f n e h =
    let one : n ≡ 1 = grind (arith, nat_tests) in
    one_holds (f 0) 0 (subst (λ (m : ℕ). all_to f m ≡ true) one h)

below : (v : ℤ) → between (pos 1) (pos 255) v ≡ true → unsigned_abs v ≤ 255
below (pos n) h = let t : nat_le n 255 ≡ true = right _ _ h in grind (arith, nat_tests)
below (negsuc n) h = let t = left (int_le (pos 1) (negsuc n)) (int_le (negsuc n) (pos 255)) h in cc

sensor_column : (s : Spec) → formed_of Sensor s ≡ true → column_of s ≤ 255
sensor_column s h =
    let params = left _ _ (left _ _ (left _ _ (left _ _ h))) in
    below (at s.params 0) (one_of (param_ok Sensor (length s.ins) s.params) (length s.params) (right _ _ (left _ _ params)) (right _ _ params))

pub sensor_kind : (c : Kind) → is_sensor c ≡ true → c ≡ Sensor
sensor_kind Sensor h = refl
sensor_kind _ h = cc

pub column_fits : (s : Spec) → s.kind ≡ Sensor → typed s ≡ true → column_of s < 2 ^ 32
column_fits s e h =
    let f = sensor_column s (subst (λ (c : Kind). formed_of c s ≡ true) e (typed_formed s h)) in omega (arith, f)

-- ---- sources

most_one : (c : Kind) (n : ℕ) → is_sync c ≡ false → (counts_of c n).evtout_most ≤ 1
most_one IfThEl n h = cc
most_one ESelect n h = cc
most_one _ n h = lit≤ tt

one_event : (c : Kind) (s : Spec) → formed_of c s ≡ true → is_sync c ≡ false → s.evtout ≤ 1
one_event c s h y =
    let counts : counted s (counts_of c (length s.ins)) ≡ true = left _ _ (left _ _ (left _ _ (left _ _ (left _ _ (left _ _ h))))) in
    let most : nat_le s.evtout (counts_of c (length s.ins)).evtout_most ≡ true = right _ _ (right _ _ counts) in
    let one = most_one c (length s.ins) y in grind (arith, nat_tests)

ports_length : (b p : ℕ) → length (ports_to b p) ≡ p
ports_length b zero = refl
ports_length b (suc p) = let before = ports_length b p in simp length-append (omega (arith, before))

branch_few : (y : Bool) (b p : ℕ) → (y ≡ false → p ≤ 1) → length (cond y [] (ports_to b p)) ≤ 1
branch_few true b p h = lit≤ tt
branch_few false b p h = let few = h refl in let l = ports_length b p in omega (arith, few, l)

block_few : (b : ℕ) (s : Spec) → typed s ≡ true → length (block_sources b s) ≤ 1
block_few b s h = branch_few (is_sync s.kind) b s.evtout (one_event s.kind s (typed_formed s h))

pub sources_few : (b : ℕ) (ss : List Spec) → All (λ (s : Spec). typed s ≡ true) ss → length (sources_from b ss) ≤ length ss
sources_few b [] h = lit≤ tt
sources_few b (s ∷ ss) h =
    let here = block_few b s (h 0 s (omega arith)) in
    let rest = sources_few (b + 1) ss (λ k d l. h (suc k) d (omega arith)) in
    let joined = length-append (block_sources b s) (sources_from (b + 1) ss) in
    omega (arith, here, rest, joined)

-- ---- of all blocks

pub all_typed : (n : Parts) → IsNet n → All (λ (s : Spec). typed s ≡ true) n.specs
all_typed n net k d l =
    subst (λ (s : Spec). typed s ≡ true) (get_or_default n.specs k no_spec d l) (net.typed_specs (suc k) (record { least = omega arith; most = omega arith }))

pub spec_typed : (specs : List Spec) (n : Parts) → specs ≡ n.specs → IsNet n → (b : ℕ) (v : Spec) → 1 ≤ b → b ≤ length n.specs → v ≡ get_or specs (b - 1) v → typed v ≡ true
spec_typed specs n same net b v least most e =
    let at_b : v ≡ spec_of n b = subst (λ (ss : List Spec). v ≡ numbered no_spec ss b) same (numbered_read no_spec specs b v least (let l : length specs ≡ length n.specs = ap length same in omega arith) e) in
    subst (λ (s : Spec). typed s ≡ true) (sym at_b) (net.typed_specs b (record { least = least; most = most }))
