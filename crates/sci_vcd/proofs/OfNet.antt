-- The signals of a net are those of a dump.
use Rattle.std.proofs.Common.{◌≡◌, ℕ, zero, suc, ◌+◌, ◌-◌, ◌<◌, ◌≤◌, List, [], ◌∷◌, ◌++◌, take, drop, length, get_or, true, ◌⊎◌, inl, inr, refl, sym, ap, ◌∙◌, subst, arith, append_assoc, append-nil, length-append, lit≤}
use Rattle.std.specs.Prelude.{◌&&◌, nat_le}
use Rattle.std.proofs.lemmas.Bool.{and_parts, and_from, eq-eqb, lt-ltb, le-leb, leb-true, or_left, or_right, cases_lt}
use Rattle.std.proofs.lemmas.List.{length_push, get_or_push, get_or_default, drop_more}
use Rattle.std.proofs.lemmas.List.{get_or_append_left}
use Rattle.sci_base.specs.declared.Ty.{Ty}
use Rattle.sci_forms.specs.declared.Kind.{Kind}
use Rattle.sci_forms.specs.declared.Kind.TheVariants.{Const}
use Rattle.sci_forms.specs.declared.ports.Port.{Port}
use Rattle.sci_forms.specs.declared.spec.Spec.{Spec}
use Rattle.sci_forms.specs.Forms.{counts_of}
use Rattle.sci_forms.specs.Ports.{elements, total, type_of, no_port, port_at}
use Rattle.sci_forms.specs.Typed.{typed, formed_of, known_of, known_out}
use Rattle.sci_forms.proofs.TestLemmas.{all_to_at}
use Rattle.sci_net.specs.Parts.{Parts, spec_of, no_spec}
use Rattle.sci_net.specs.Net.{IsNet, all_elements}
use Rattle.sci_net.proofs.Numbered.{numbered_next}
use Rattle.sci_vcd.specs.declared.signal.Signal.{Signal}
use Rattle.sci_vcd.specs.Waveforms.{Each, Joins, rises, precedes, no_signal}
use Rattle.sci_vcd.specs.Reading.{signal_by}
use Rattle.sci_vcd.specs.Signals.{element_signals, output_signals, block_signals, signals_of, before_block, AreSmall}
use Rattle.sci_vcd.specs.Laws.{NetSignals}
use Rattle.sci_vcd.proofs.Eachs.{each_push, each-append}

-- ---- a typed spec

parts_typed : (s : Spec) → typed s ≡ true → (formed_of s.kind s ≡ true) × (known_of s ≡ true)
parts_typed s h = and_parts _ _ (and_parts _ _ (and_parts _ _ h).0).0

outs_most : (c : Kind) (n : ℕ) → (counts_of c n).outs_most ≤ 64
outs_most Const n = lit≤ tt
outs_most _ n = lit≤ tt

-- at most 64 outputs
pub few_outs : (s : Spec) → typed s ≡ true → length s.outs ≤ 64
few_outs s h =
    let formed = (parts_typed s h).0 in
    let counted = (and_parts _ _ (and_parts _ _ (and_parts _ _ (and_parts _ _ (and_parts _ _ (and_parts _ _ formed).0).0).0).0).0).0 in
    let outs = (and_parts _ _ (and_parts _ _ (and_parts _ _ counted).0).0).1 in
    let most : length s.outs ≤ (counts_of s.kind (length s.ins)).outs_most = leb-true _ _ (and_parts _ _ outs).1 in
    omega (arith, most, outs_most s.kind (length s.ins))

-- of at most 256 elements each
pub small_outs : (s : Spec) → typed s ≡ true → AreSmall s.outs
small_outs s h k d few =
    let known = (and_parts _ _ (parts_typed s h).1).1 in
    subst (λ (p : Port). elements p ≤ 256) (get_or_default s.outs k no_port d few)
    (leb-true (elements (port_at s.outs k)) 256 (and_parts _ _ (all_to_at (known_out s) (length s.outs) known k few)).1)

pub typed_at : (n : Parts) (b : ℕ) → IsNet n → b < length n.specs → typed (spec_of n (b + 1)) ≡ true
typed_at n b net h = net.typed_specs (b + 1) (record { least = omega arith; most = omega (arith, h) })

-- ---- how many there are

pub element_signals_length : (t : Ty) (b p c : ℕ) → length (element_signals t b p c) ≡ c
element_signals_length t b p zero = refl
element_signals_length t b p (suc c) = length_push (element_signals t b p c) (signal_by t b p (suc c)) ∙ (let e = element_signals_length t b p c in omega (arith, e))

pub output_signals_length : (b p : ℕ) (os : List Port) → length (output_signals b p os) ≡ total os
output_signals_length b p [] = refl
output_signals_length b p (o ∷ os) =
    let e = element_signals_length (type_of o) b p (elements o) in
    let f = output_signals_length b (p + 1) os in
    let l = length-append (element_signals (type_of o) b p (elements o)) (output_signals b (p + 1) os) in
    omega (arith, e, f, l)

pub block_signals_length : (b : ℕ) (ss : List Spec) → length (block_signals b ss) ≡ all_elements ss
block_signals_length b [] = refl
block_signals_length b (s ∷ ss) =
    let e = output_signals_length b 1 s.outs in
    let f = block_signals_length (b + 1) ss in
    let l = length-append (output_signals b 1 s.outs) (block_signals (b + 1) ss) in
    omega (arith, e, f, l)

pub all_elements_next : (ss : List Spec) (k : ℕ) → k < length ss → all_elements (take (k + 1) ss) ≡ all_elements (take k ss) + total (get_or ss k no_spec).outs
all_elements_next [] k h = absurd (omega (arith, h))
all_elements_next (s ∷ ss) zero h = omega arith
all_elements_next (s ∷ ss) (suc k) h = let e = all_elements_next ss k (omega (arith, h)) in let i : suc k + 1 ≡ suc (k + 1) = omega arith in rw i (omega (arith, e))

pub all_elements_most : (ss : List Spec) (k : ℕ) → all_elements (take k ss) ≤ all_elements ss
all_elements_most [] zero = omega arith
all_elements_most [] (suc k) = omega arith
all_elements_most (s ∷ ss) zero = omega arith
all_elements_most (s ∷ ss) (suc k) = let e = all_elements_most ss k in omega (arith, e)

-- ---- they rise

abbrev last_signal : List Signal → Signal
last_signal before = get_or before (length before - 1) no_signal

-- the last of these, where there is one, stands before output p of block b
abbrev Below : List Signal → ℕ → ℕ → Type 0
Below before b p = (length before ≡ 0) ⊎ (((last_signal before).block < b) ⊎ (((last_signal before).block ≡ b) × ((last_signal before).port < p)))

rises_there : (before : List Signal) (t : Ty) (b p e : ℕ) → Below before b p → rises before (signal_by t b p e) ≡ true
rises_there before t b p e (inl none) = or_left _ _ (eq-eqb (length before) 0 none)
rises_there before t b p e (inr (inl lower)) = or_right _ _ (or_left _ _ (lt-ltb _ _ lower))
rises_there before t b p e (inr (inr (same, lower))) = or_right _ _ (or_right _ _ (and_from _ _ (eq-eqb _ _ same) (or_left _ _ (lt-ltb _ _ lower))))

last_push : (before : List Signal) (g : Signal) → last_signal (before ++ g ∷ []) ≡ g
last_push before g = let l = length_push before g in get_or_push before g no_signal (length (before ++ g ∷ []) - 1) (omega (arith, l))

rises_next : (before : List Signal) (t : Ty) (b p e : ℕ) → rises (before ++ signal_by t b p e ∷ []) (signal_by t b p (suc e)) ≡ true
rises_next before t b p e =
    let l = last_push before (signal_by t b p e) in
    or_right _ _ (subst (λ (g : Signal). precedes g (signal_by t b p (suc e)) ≡ true) (sym l)
    (or_right _ _ (and_from _ _ (eq-eqb b b refl) (or_right _ _ (and_from _ _ (eq-eqb p p refl) (lt-ltb e (suc e) (omega arith)))))))

counts_there : (greatest n : ℕ) → 1 ≤ n → n ≤ greatest → (nat_le 1 n && nat_le n greatest) ≡ true
counts_there greatest n h g = and_from _ _ (le-leb 1 n h) (le-leb n greatest g)

-- the elements of an output behind these signals
elements_join : (before : List Signal) (t : Ty) (b p c : ℕ) → 1 ≤ b → b ≤ 2048 → 1 ≤ p → p ≤ 64 → c ≤ 256 → length before + c ≤ 65536 → Below before b p → Each Joins before (element_signals t b p c)
elements_join before t b p zero b1 b2 p1 p2 c2 few below = tt
elements_join before t b p (suc c) b1 b2 p1 p2 c2 few below =
    each_push Joins before (element_signals t b p c) (signal_by t b p (suc c)) (elements_join before t b p c b1 b2 p1 p2 (omega (arith, c2)) (omega (arith, few)) below) (record {
      few = let l = length-append before (element_signals t b p c) in let e = element_signals_length t b p c in omega (arith, l, e, few);
      within = and_from _ _ (counts_there 2048 b b1 b2) (and_from _ _ (counts_there 64 p p1 p2) (counts_there 256 (suc c) (omega arith) c2));
      behind = behind c;
    })
  where
    behind : (c : ℕ) → rises (before ++ element_signals t b p c) (signal_by t b p (suc c)) ≡ true
    behind zero = subst (λ (l : List Signal). rises l (signal_by t b p 1) ≡ true) (sym (append-nil before)) (rises_there before t b p 1 below)
    behind (suc e) =
        subst (λ (l : List Signal). rises l (signal_by t b p (suc (suc e))) ≡ true) (append_assoc before (element_signals t b p e) (signal_by t b p (suc e) ∷ []))
        (rises_next (before ++ element_signals t b p e) t b p (suc e))

below_more : (before : List Signal) (b p q : ℕ) → p ≤ q → Below before b p → Below before b q
below_more before b p q h (inl none) = inl none
below_more before b p q h (inr (inl lower)) = inr (inl lower)
below_more before b p q h (inr (inr (same, lower))) = inr (inr (same, omega (arith, lower, h)))

below_block : (before : List Signal) (b p : ℕ) → Below before b p → Below before (b + 1) 1
below_block before b p (inl none) = inl none
below_block before b p (inr (inl lower)) = inr (inl (omega (arith, lower)))
below_block before b p (inr (inr (same, lower))) = inr (inl (omega (arith, same)))

elements_below : (before : List Signal) (t : Ty) (b p c : ℕ) → Below before b p → Below (before ++ element_signals t b p c) b (p + 1)
elements_below before t b p zero below = subst (λ (l : List Signal). Below l b (p + 1)) (sym (append-nil before)) (below_more before b p (p + 1) (omega arith) below)
elements_below before t b p (suc c) below =
    let l : last_signal (before ++ element_signals t b p (suc c)) ≡ signal_by t b p (suc c) =
    ap last_signal (sym (append_assoc before (element_signals t b p c) (signal_by t b p (suc c) ∷ []))) ∙ last_push (before ++ element_signals t b p c) (signal_by t b p (suc c)) in
    inr (inr (ap (λ (g : Signal). g.block) l, subst (λ (g : Signal). g.port < p + 1) (sym l) (omega arith)))

outputs_below : (before : List Signal) (b p : ℕ) (os : List Port) → Below before b p → Below (before ++ output_signals b p os) b (p + length os)
outputs_below before b p [] below = subst (λ (l : List Signal). Below l b (p + 0)) (sym (append-nil before)) (below_more before b p (p + 0) (omega arith) below)
outputs_below before b p (o ∷ os) below =
    let es = element_signals (type_of o) b p (elements o) in
    let e : (p + 1) + length os ≡ p + length (o ∷ os) = omega arith in
    subst (λ (l : List Signal). Below l b (p + length (o ∷ os))) (append_assoc before es (output_signals b (p + 1) os))
    (subst (λ (q : ℕ). Below ((before ++ es) ++ output_signals b (p + 1) os) b q) e (outputs_below (before ++ es) b (p + 1) os (elements_below before (type_of o) b p (elements o) below)))

outputs_join : (before : List Signal) (b p : ℕ) (os : List Port) → 1 ≤ b → b ≤ 2048 → 1 ≤ p → p + length os ≤ 65 → ((k : ℕ) → k < length os → elements (get_or os k no_port) ≤ 256)
    → length before + total os ≤ 65536 → Below before b p → Each Joins before (output_signals b p os)
outputs_join before b p [] b1 b2 p1 p2 small few below = tt
outputs_join before b p (o ∷ os) b1 b2 p1 p2 small few below =
    let es = element_signals (type_of o) b p (elements o) in
    let l = length-append before es in
    let c = element_signals_length (type_of o) b p (elements o) in
    each-append Joins before es (output_signals b (p + 1) os)
    (elements_join before (type_of o) b p (elements o) b1 b2 p1 (omega (arith, p2)) (small 0 (omega arith)) (omega (arith, few)) below)
    (outputs_join (before ++ es) b (p + 1) os b1 b2 (omega arith) (omega (arith, p2)) (λ k h. small (suc k) (omega (arith, h))) (omega (arith, few, l, c)) (elements_below before (type_of o) b p (elements o) below))

blocks_join : (before : List Signal) (b : ℕ) (ss : List Spec) → 1 ≤ b → b + length ss ≤ 2049 → ((k : ℕ) → k < length ss → typed (get_or ss k no_spec) ≡ true) → length before + all_elements ss ≤ 65536
    → Below before b 1 → Each Joins before (block_signals b ss)
blocks_join before b [] b1 b2 are few below = tt
blocks_join before b (s ∷ ss) b1 b2 are few below =
    let os = output_signals b 1 s.outs in
    let l = length-append before os in
    let c = output_signals_length b 1 s.outs in
    let h : typed s ≡ true = are 0 (omega arith) in
    let outs = few_outs s h in
    each-append Joins before os (block_signals (b + 1) ss)
    (outputs_join before b 1 s.outs b1 (omega (arith, b2)) (omega arith) (omega (arith, outs)) (λ k k2. small_outs s h k no_port k2) (omega (arith, few)) below)
    (blocks_join (before ++ os) (b + 1) ss (omega arith) (omega (arith, b2)) (λ k k2. are (suc k) (omega (arith, k2))) (omega (arith, few, l, c))
    (below_block (before ++ os) b (1 + length s.outs) (outputs_below before b 1 s.outs below)))

pub net_signals : NetSignals
net_signals n net =
    let few = net.wired.few in
    let small = net.small in (
      blocks_join [] 1 n.specs (omega arith) (omega (arith, few)) (λ k h. subst (λ (s : Spec). typed s ≡ true) (numbered_next no_spec n.specs k) (typed_at n k net h)) (omega (arith, small)) (inl refl),
      block_signals_length 1 n.specs,
    )

-- ---- the loop

pub signals_step : (n : Parts) (block : ℕ) (old new : List Signal) (s : Spec) → block < length n.specs → s ≡ spec_of n (block + 1) → new ≡ old ++ output_signals (block + 1) 1 s.outs
    → old ++ block_signals (block + 1) (drop block n.specs) ≡ signals_of n → new ++ block_signals (block + 1 + 1) (drop (block + 1) n.specs) ≡ signals_of n
signals_step n block old new s h is e all =
    let here : s ≡ get_or n.specs block no_spec = is ∙ numbered_next no_spec n.specs block in
    ap (λ (l : List Signal). l ++ block_signals (block + 1 + 1) (drop (block + 1) n.specs)) e
    ∙ append_assoc old (output_signals (block + 1) 1 s.outs) (block_signals (block + 1 + 1) (drop (block + 1) n.specs))
    ∙ ap (λ (x : Spec). old ++ (output_signals (block + 1) 1 x.outs ++ block_signals (block + 1 + 1) (drop (block + 1) n.specs))) here
    ∙ sym (ap (λ (ss : List Spec). old ++ block_signals (block + 1) ss) (drop_more n.specs block no_spec h))
    ∙ all

pub count_step : (n : Parts) (block : ℕ) (old new : List Signal) (s : Spec) → block < length n.specs → s ≡ spec_of n (block + 1) → new ≡ old ++ output_signals (block + 1) 1 s.outs
    → length old ≡ all_elements (take block n.specs) → length new ≡ all_elements (take (block + 1) n.specs)
count_step n block old new s h is e count =
    let here : s ≡ get_or n.specs block no_spec = is ∙ numbered_next no_spec n.specs block in
    let l = ap (λ (l : List Signal). length l) e ∙ length-append old (output_signals (block + 1) 1 s.outs) in
    let o = output_signals_length (block + 1) 1 s.outs ∙ ap (λ (x : Spec). total x.outs) here in
    let next = all_elements_next n.specs block h in
    omega (arith, l, o, count, next)

pub starts_step : (n : Parts) (block v : ℕ) (starts : List ℕ) → length starts ≡ block + 1 → v ≡ all_elements (take (block + 1) n.specs)
    → ((b : ℕ) → 1 ≤ b → b ≤ block + 1 → get_or starts (b - 1) 0 ≡ before_block n b)
    → (b : ℕ) → 1 ≤ b → b ≤ block + 1 + 1 → get_or (starts ++ v ∷ []) (b - 1) 0 ≡ before_block n b
starts_step n block v starts long is each b h g =
    elim (cases_lt b (block + 1 + 1)) [
      | inl l ↦ get_or_append_left starts (v ∷ []) 0 (b - 1) (omega (arith, long, h, l)) ∙ each b h (omega (arith, l))
      | inr r ↦ let e : b - 1 ≡ block + 1 = omega (arith, g, r) in get_or_push starts v 0 (b - 1) (omega (arith, long, e)) ∙ is ∙ ap (λ (k : ℕ). all_elements (take k n.specs)) (sym e)
    ]

pub counted_most : (n : Parts) (k : ℕ) → IsNet n → all_elements (take k n.specs) ≤ 65536
counted_most n k net = let m = all_elements_most n.specs k in let s = net.small in omega (arith, m, s)
