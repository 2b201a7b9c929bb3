-- How large a program's arrays and numbers are.
use Rattle.std.proofs.Common.{◌≡◌, ℕ, zero, suc, ◌+◌, ◌-◌, ◌*◌, ◌^◌, ◌<◌, ◌≤◌, List, [], ◌∷◌, length, map, max, slice_index_or, Bool, true, false, ◌&&◌, ◌||◌, nat_le, if◌then◌else◌, refl, sym, ap, ◌∙◌, subst, arith, ℤ, pos, negsuc, true≢false, Contains, inl, inr, ◌≤ℤ◌}
use Rattle.std.specs.List.{list_any}
use Rattle.std.proofs.lemmas.Bool.{cases_eq}
use Rattle.std.proofs.lemmas.Bool.Decides.{nat_tests}
use Rattle.std.proofs.lemmas.Int.{ints}
use Rattle.std.proofs.lemmas.List.{length-map, get_or-map}
use Rattle.std.proofs.lemmas.List.Elements.{Contains-get_or}
use Rattle.sci_base.specs.declared.Ty.{Ty}
use Rattle.sci_base.specs.declared.Ty.TheVariants.{I32, I16, I8, U32, U16, U8}
use Rattle.sci_base.specs.Fit.{InRange}
use Rattle.sci_forms.specs.declared.Kind.{Kind}
use Rattle.sci_forms.specs.declared.Kind.TheVariants.{Const, Dollar, GatedDelay, Register, ModuloCount, EvtDly, EvtVarDly, IfThEl, ESelect}
use Rattle.sci_forms.specs.declared.spec.Spec.{Spec}
use Rattle.sci_forms.specs.Ports.{total, elements, port_at}
use Rattle.sci_forms.specs.Forms.{counts_of}
use Rattle.sci_forms.specs.Form.{is_sync, has_delay}
use Rattle.sci_forms.specs.Typed.{typed}
use Rattle.sci_forms.specs.Words.{out_type, size, state_len_of}
use Rattle.sci_kinds.specs.Asks.{Asks}
use Rattle.sci_kinds.proofs.Elements.{total_one}
use Rattle.sci_kinds.proofs.LawProofs.{asks}
use Rattle.sci_kinds.proofs.TypedLemmas.{Tests, tests}
use Rattle.sci_net.specs.declared.Feed.{Feed}
use Rattle.sci_net.specs.declared.Source.TheVariants.{Start, Port}
use Rattle.sci_net.specs.Parts.{Parts, IsBlock, IsInput, numbered, spec_of, wire_of, output_of, no_spec, no_wire}
use Rattle.sci_net.specs.Net.{IsNet, all_elements}
use Rattle.sci_net.specs.Sources.{sources_of, source_of}
use Rattle.sci_net.proofs.TypedSpecs.{all_typed, sources_few}
use Rattle.sci_places.specs.Layout.{output_span}
use Rattle.sci_span.specs.Values.{no_span}
use Rattle.sci_span.specs.declared.span.Span.{Span}
use Rattle.sci_places.proofs.Inputs.{output_within}
use Rattle.sci_places.proofs.Outputs.{block_within}
use Rattle.sci_reaction.specs.Links.{IsSource}
use Rattle.sci_reaction.specs.Schedule.{Entry}
use Rattle.sci_reaction.proofs.Sources.{sources_are}
use Rattle.sci_cgen_blocks.specs.Terms.{is_looped}
use Rattle.sci_cgen_blocks.specs.Recipes.{next_alike, next_scratch, scratch_of}
use Rattle.sci_cgen_blocks.specs.Texts.{input_place}
use Rattle.sci_cgen_blocks.specs.Meant.{AreInBounds}
use Rattle.sci_cgen_blocks.proofs.Bounds.{scratch_few as few_scratch}
use Rattle.sci_program.specs.Program.{port_count, places_of, states_before, is_scheduled, is_any_looped, counts_behind, has_loop, scratch_count}

-- ---- tests of some of a list

pub first_any : (a b : Bool) → a ≡ true → a || b ≡ true
first_any true b h = refl
first_any false b h = cc

pub other_any : (a b : Bool) → b ≡ true → a || b ≡ true
other_any true b h = refl
other_any false b h = h

any_at : {A : Type 0} (test : A → Bool) (d : A) (xs : List A) (k : ℕ) → k < length xs → test (slice_index_or xs k d) ≡ true → list_any test xs ≡ true
any_at test d [] k l h = absurd (omega (arith, l))
any_at test d (x ∷ xs) zero l h = first_any (test x) (list_any test xs) h
any_at test d (x ∷ xs) (suc k) l h = other_any (test x) (list_any test xs) (any_at test d xs k (omega (arith, l)) h)

pub some_block : (n : Parts) (test : Spec → Bool) (b : ℕ) → IsBlock n b → test (spec_of n b) ≡ true → list_any test n.specs ≡ true
some_block n test zero is h = absurd (omega (arith, is.least))
some_block n test (suc k) is h = any_at test no_spec n.specs k (omega (arith, is.most)) h

-- ---- activation outputs

evtout_most : (c : Kind) (k : ℕ) → (counts_of c k).evtout_most ≤ 64
evtout_most Const k = omega arith
evtout_most _ k = omega arith

pub few_outputs : (s : Spec) → typed s ≡ true → s.evtout ≤ 64
few_outputs s h = omega (arith, evtout_most s.kind (length s.ins), (tests s.kind s h).evtout_most)

has_output : (c : Kind) (k : ℕ) → 1 ≤ (counts_of c k).evtout_most → is_sync c ≡ false → has_delay c ≡ true
has_output IfThEl k l h = absurd (true≢false h)
has_output ESelect k l h = absurd (true≢false h)
has_output EvtDly k l h = refl
has_output EvtVarDly k l h = refl
has_output _ k l h = absurd (omega (arith, l))

pub port_is : (n : Parts) (q : Feed) (j : ℕ) → j < port_count n → source_of n (suc j) ≡ Port q → IsSource n (Port q)
port_is n q j l e =
    (sources_are n (Port q)).0 (subst (Contains (sources_of n)) e (Contains-get_or (sources_of n) (suc j) Start (omega (arith, l))))

pub port_has_delay : (n : Parts) → IsNet n → (q : Feed) → IsSource n (Port q) → has_delay (spec_of n q.block).kind ≡ true
port_has_delay n net q h =
    let t = net.typed_specs q.block h.0.block in
    let s = spec_of n q.block in
    has_output s.kind (length s.ins) (omega (arith, (tests s.kind s t).evtout_most, h.0.least, h.0.most)) h.1

pub few_ports : (n : Parts) → IsNet n → port_count n ≤ 2048
few_ports n net = let few = sources_few 1 n.specs (all_typed n net) in omega (arith, few, net.wired.few)

-- ---- states

states_of : (c : Kind) (s : Spec) → s.kind ≡ c → Asks c s → Tests c s → state_len_of c s ≤ total s.outs + 256
states_of Dollar s is a t = omega (arith, total_one s.outs (out_type s) (size s) a.0.outs_alike a.0.one)
states_of GatedDelay s is a t = omega (arith, total_one s.outs (out_type s) (size s) a.0.outs_alike a.0.one)
states_of Register s is a t = few (length s.state) t.state_len
  where
    few : (k : ℕ) → (nat_le 1 k && nat_le k 256) ≡ true → k ≤ total s.outs + 256
    few k h = let l : k ≤ 256 = grind (arith, nat_tests) in omega (arith, l)
states_of ModuloCount s is a t = omega arith
states_of _ s is a t = omega arith

few_states : (s : Spec) → typed s ≡ true → state_len_of s.kind s ≤ total s.outs + 256
few_states s h = states_of s.kind s refl (asks s h) (tests s.kind s h)

states_sum : (ss : List Spec) → ((k : ℕ) → k < length ss → typed (slice_index_or ss k no_spec) ≡ true)
    → states_before ss (length ss) ≤ all_elements ss + 256 * length ss
states_sum [] h = omega arith
states_sum (s ∷ ss) h =
    let first = few_states s (h 0 (omega arith)) in
    let rest = states_sum ss (λ k l. h (suc k) (omega (arith, l))) in
    omega (arith, first, rest)

state_part : (ss : List Spec) (k : ℕ) → k < length ss
    → states_before ss k + state_len_of (slice_index_or ss k no_spec).kind (slice_index_or ss k no_spec) ≤ states_before ss (length ss)
state_part [] k l = absurd (omega (arith, l))
state_part (s ∷ ss) zero l = omega arith
state_part (s ∷ ss) (suc k) l = omega (arith, state_part ss k (omega (arith, l)))

module _ (n : Parts) (net : IsNet n) where
  pub few_all_states : states_before n.specs (length n.specs) ≤ 589824
  few_all_states =
      let most = states_sum n.specs (λ k l. net.typed_specs (suc k) (record { least = omega arith; most = omega (arith, l) })) in
      omega (arith, most, net.small, net.wired.few)

  pub state_within : (b : ℕ) → IsBlock n b → (places_of n b).state + state_len_of (spec_of n b).kind (spec_of n b) ≤ states_before n.specs (length n.specs)
  state_within zero is = absurd (omega (arith, is.least))
  state_within (suc k) is =
      subst (λ (j : ℕ). states_before n.specs j + state_len_of (spec_of n (suc k)).kind (spec_of n (suc k)) ≤ states_before n.specs (length n.specs))
      (let e : k ≡ suc k - 1 = omega arith in e)
      (state_part n.specs k (omega (arith, is.most)))

  pub state_small : (b : ℕ) → IsBlock n b → state_len_of (spec_of n b).kind (spec_of n b) < 2 ^ 32
  state_small b is = omega (arith, state_within b is, few_all_states)

  -- ---- places

  starts_at : (b k : ℕ) → IsBlock n b → k < length (spec_of n b).ins → slice_index_or (places_of n b).ins k 0 ≡ (output_span n (wire_of n b (suc k))).start
  starts_at b k block l =
      let ws = numbered [] n.wires b in
      let each = net.wired.one_wire_each b block in
      let all = length-map ws (output_span n) in
      get_or-map (λ (p : Span). p.start) (map (output_span n) ws) k no_span 0 (omega (arith, l, each, all))
      ∙ ap (λ (p : Span). p.start) (get_or-map (output_span n) ws k no_wire no_span (omega (arith, l, each)))

  pub input_within : (b k e : ℕ) → IsBlock n b → k < length (spec_of n b).ins → e < elements (port_at (spec_of n b).ins k)
      → input_place (places_of n b) k e < all_elements n.specs
  input_within b k e block l r =
      let w = wire_of n b (suc k) in
      let within : IsInput n b (suc k) = record { block = block; least = omega arith; most = omega (arith, l) } in
      let same : elements (output_of n w.block w.port) ≡ elements (port_at (spec_of n b).ins k) = ap elements (net.joined b (suc k) within) in
      let last = output_within n w (net.wired.wires_lead b (suc k) within) in
      omega (arith, starts_at b k block l, same, last, r)

  pub in_bounds : (b : ℕ) → IsBlock n b → AreInBounds (spec_of n b) (places_of n b)
  in_bounds b is = record {
    ins = λ k e h. omega (arith, input_within b k e is h.0 h.1, net.small);
    outs = omega (arith, block_within n b is, net.small);
    count = omega (arith, block_within n b is, net.small);
    steps = omega (arith, state_within b is, few_all_states);
    state = omega (arith, state_within b is, few_all_states);
    mask = omega (arith, is.most, net.wired.few);
    number = omega (arith, is.most, net.wired.few);
  }

-- ---- scratch

max_most : (a b m : ℕ) → a ≤ m → b ≤ m → max a b ≤ m
max_most a b m p q = omega (arith, p, q)

max_left : (a b m : ℕ) → m ≤ a → m ≤ max a b
max_left a b m p = omega (arith, p)

pub scratch_few : (n : Parts) (rows : List (List Entry)) (k : ℕ) → scratch_count n rows k ≤ 5
scratch_few n rows zero = by_loop (has_loop n)
  where
    by_loop : (t : Bool) → (if t then 1 else 0) ≤ 5
    by_loop true = omega arith
    by_loop false = omega arith
scratch_few n rows (suc k) = max_most _ _ 5 (scratch_few n rows k) (by_test (is_scheduled rows (suc k)))
  where
    by_test : (t : Bool) → (if t then scratch_of (spec_of n (suc k)).kind (spec_of n (suc k)) else 0) ≤ 5
    by_test true = few_scratch (spec_of n (suc k)).kind (spec_of n (suc k))
    by_test false = omega arith

-- what a next state takes is there, where a loop takes one
pub next_enough : (n : Parts) (scratch b : ℕ) → IsBlock n b → (has_loop n ≡ true → 1 ≤ scratch) → next_scratch (spec_of n b).kind (spec_of n b) ≤ scratch
next_enough n scratch b is loops = by_test (is_looped (next_alike (spec_of n b).kind (spec_of n b))) refl
  where
    by_test : (t : Bool) → is_looped (next_alike (spec_of n b).kind (spec_of n b)) ≡ t → (if t then 1 else 0) ≤ scratch
    by_test true e = loops (some_block n counts_behind b is (other_any (is_any_looped (spec_of n b).outs) _ e))
    by_test false e = omega arith

-- what a loop over values takes is there
pub loop_enough : (n : Parts) (rows : List (List Entry)) (k : ℕ) → has_loop n ≡ true → 1 ≤ scratch_count n rows k
loop_enough n rows zero h = subst (λ (t : Bool). 1 ≤ (if t then 1 else 0)) (sym h) (omega arith)
loop_enough n rows (suc k) h = max_left _ _ 1 (loop_enough n rows k h)

-- so is what a scheduled block takes
pub scratch_enough : (n : Parts) (rows : List (List Entry)) (b m : ℕ) → 1 ≤ b → b ≤ m → is_scheduled rows b ≡ true
    → scratch_of (spec_of n b).kind (spec_of n b) ≤ scratch_count n rows m
scratch_enough n rows b zero lo hi h = absurd (omega (arith, lo, hi))
scratch_enough n rows b (suc k) lo hi h = elim (cases_eq b (suc k)) [
  | inl e ↦ subst (λ (c : ℕ). scratch_of (spec_of n c).kind (spec_of n c) ≤ scratch_count n rows (suc k)) (sym e)
      (at_last (is_scheduled rows (suc k)) (subst (λ (c : ℕ). is_scheduled rows c ≡ true) e h))
  | inr q ↦ max_left _ _ _ (scratch_enough n rows b k lo (omega (arith, hi, q)) h)
]
  where
    at_last : (t : Bool) → t ≡ true
        → scratch_of (spec_of n (suc k)).kind (spec_of n (suc k))
        ≤ max (scratch_count n rows k) (if t then scratch_of (spec_of n (suc k)).kind (spec_of n (suc k)) else 0)
    at_last true e = omega arith
    at_last false e = absurd (true≢false (sym e))

-- ---- numbers as they are spelled

pub is_spelled : (t : Ty) (z : ℤ) → InRange t z → (negsuc 4294967295 ≤ℤ z) × (z ≤ℤ pos 4294967295)
is_spelled I32 z r = (omega (arith, ints, r.above), omega (arith, ints, r.below))
is_spelled I16 z r = (omega (arith, ints, r.above), omega (arith, ints, r.below))
is_spelled I8 z r = (omega (arith, ints, r.above), omega (arith, ints, r.below))
is_spelled U32 z r = (omega (arith, ints, r.above), omega (arith, ints, r.below))
is_spelled U16 z r = (omega (arith, ints, r.above), omega (arith, ints, r.below))
is_spelled U8 z r = (omega (arith, ints, r.above), omega (arith, ints, r.below))
