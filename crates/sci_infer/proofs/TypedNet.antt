-- A flat net with its one typing is a well-formed net.
use Rattle.std.proofs.Common.{◌≡◌, ℕ, zero, suc, ◌+◌, ◌-◌, ◌*◌, ◌<◌, ◌≤◌, ◌^◌, ℤ, pos, negsuc, ◌≤ℤ◌, inl, Bool, true, false, cond, ◌&&◌, Option, Some, None, List, [], ◌∷◌, length, get_or, All, refl, sym, ap, ◌∙◌, subst, arith}
use Rattle.std.specs.Prelude.{nat_le, is_none, unsigned_abs}
use Rattle.std.proofs.Math.Nat.{mul-le-mul}
use Rattle.std.proofs.lemmas.Option.{slice_get_within}
use Rattle.std.proofs.lemmas.Bool.Decides.{nat_tests}
use Rattle.std.proofs.lemmas.Int.{ints}
use Rattle.sci_base.specs.Lists.{at}
use Rattle.sci_base.proofs.FitLemmas.{int_le_yes}
use Rattle.sci_forms.proofs.TestLemmas.{nat_le_told}
use Rattle.sci_forms.specs.declared.Kind.{Kind}
use Rattle.sci_forms.specs.declared.ports.Port.{Port}
use Rattle.sci_forms.specs.declared.spec.Spec.{Spec}
use Rattle.sci_forms.specs.Form.{is_sensor}
use Rattle.sci_forms.specs.Forms.{or_else, unless, first_not, all_to}
use Rattle.sci_forms.specs.Ports.{elements, port_at, no_port}
use Rattle.sci_forms.specs.Typed.{typed, formed_of, is_known, known_in, known_out, types_broken_of, sizes_broken_of}
use Rattle.sci_net.specs.declared.Wire.{Wire}
use Rattle.sci_net.specs.Parts.{Parts, IsBlock, IsInput, IsOutput, IsActivationInput, IsActivationOutput, IsSensor, IsWired, spec_of, wire_of, input_of, output_of, column_of, no_spec}
use Rattle.sci_net.specs.Flat.{IsFlat}
use Rattle.sci_net.specs.Net.{IsNet, all_elements}
use Rattle.sci_infer.specs.declared.parts.Side.{Side}
use Rattle.sci_infer.specs.declared.parts.Side.TheVariants.{Input, Output}
use Rattle.sci_infer.specs.declared.parts.What.{What}
use Rattle.sci_infer.specs.declared.parts.What.TheVariants.{DataType, Rows, Columns}
use Rattle.sci_infer.specs.Typing.{IsTheTyping}
use Rattle.sci_infer.specs.PortParts.{parts_in, AreTied}
use Rattle.sci_infer.specs.Layout.{start_of, side_start, count, offset}
use Rattle.sci_infer.specs.Typed.{typed_port, typed_ports, typed_spec, typed_specs, typed_parts}
use Rattle.sci_infer.specs.Broken.{Blamed, blamed, spec_broken, specs_broken, specs_large, sum_large, net_broken, outs_large}
use Rattle.sci_infer.proofs.Few.{few_outs}
use Rattle.sci_infer.proofs.Declared.{typing_below}
use Rattle.sci_infer.proofs.Places.{named}
use Rattle.sci_infer.proofs.Sums.{both_none, blamed_none, specs_small, outs_small}

both : (a b : Bool) → a ≡ true → b ≡ true → (a && b) ≡ true
both a b h k = rw (h, k) refl

at_most : (a b : ℕ) → a ≤ b → nat_le a b ≡ true
at_most a b h = grind (arith, nat_tests)

magnitude : (v : ℤ) → pos 1 ≤ℤ v → v ≤ℤ pos 2147483647 → unsigned_abs v ≤ 2147483647
magnitude (pos k) low high = omega (arith, ints)
magnitude (negsuc k) low high = absurd (omega (arith, ints))

elements_below : (p : Port) → pos 1 ≤ℤ p.rows → p.rows ≤ℤ pos 2147483647 → pos 1 ≤ℤ p.cols → p.cols ≤ℤ pos 2147483647 → elements p < 2 ^ 63
elements_below p a b c d =
    let product : unsigned_abs p.rows * unsigned_abs p.cols ≤ 2147483647 * 2147483647 = mul-le-mul (magnitude p.rows a b) (magnitude p.cols c d) in
    omega (arith, product)

-- ---- ports and specs with the numbers of a typing

pub typed_ports_length : (vs : List ℤ) (i : ℕ) (ps : List Port) → length (typed_ports vs i ps) ≡ length ps
typed_ports_length vs i [] = refl
typed_ports_length vs i (p ∷ ps) = ap suc (typed_ports_length vs (i + 3) ps)

typed_ports_at : (vs : List ℤ) (i : ℕ) (ps : List Port) (k : ℕ) (d : Port) → k < length ps → get_or (typed_ports vs i ps) k d ≡ typed_port vs (i + 3 * k)
typed_ports_at vs i [] k d l = absurd (omega (arith, l))
typed_ports_at vs i (p ∷ ps) zero d l = ap (typed_port vs) (let e : i ≡ i + 3 * 0 = omega arith in e)
typed_ports_at vs i (p ∷ ps) (suc k) d l = typed_ports_at vs (i + 3) ps k d (omega (arith, l)) ∙ ap (typed_port vs) (let e : (i + 3) + 3 * k ≡ i + 3 * suc k = omega arith in e)

pub typed_specs_length : (vs : List ℤ) (i : ℕ) (ss : List Spec) → length (typed_specs vs i ss) ≡ length ss
typed_specs_length vs i [] = refl
typed_specs_length vs i (s ∷ ss) = ap suc (typed_specs_length vs (i + (3 * length s.ins + 3 * length s.outs)) ss)

typed_specs_at : (vs : List ℤ) (i : ℕ) (ss : List Spec) (k : ℕ) (d e : Spec) → k < length ss → get_or (typed_specs vs i ss) k d ≡ typed_spec vs (i + start_of ss k) (get_or ss k e)
typed_specs_at vs i [] k d e l = absurd (omega (arith, l))
typed_specs_at vs i (s ∷ ss) zero d e l = ap (λ (j : ℕ). typed_spec vs j s) (let f : i ≡ i + 0 = omega arith in f)
typed_specs_at vs i (s ∷ ss) (suc k) d e l =
    typed_specs_at vs (i + (3 * length s.ins + 3 * length s.outs)) ss k d e (omega (arith, l))
    ∙ ap (λ (j : ℕ). typed_spec vs j (get_or ss k e)) (let f : (i + (3 * length s.ins + 3 * length s.outs)) + start_of ss k ≡ i + ((3 * length s.ins + 3 * length s.outs) + start_of ss k) = omega arith in f)

-- the form of a kind looks at the numbers of ports, and not at their types and sizes
formed_same : (c : Kind) (s : Spec) (ins outs : List Port) → length ins ≡ length s.ins → length outs ≡ length s.outs → formed_of c s ≡ true → formed_of c (record s { ins = ins; outs = outs }) ≡ true
formed_same c s ins outs p q h = rw (p, q) h

all_holds : (f : ℕ → Bool) (n : ℕ) → ((k : ℕ) → k < n → f k ≡ true) → all_to f n ≡ true
all_holds f zero h = refl
all_holds f (suc n) h = all_step f n (first_not f n) (all_holds f n (λ k l. h k (omega (arith, l)))) (h n (omega arith))
  where
    all_step : (f : ℕ → Bool) (n : ℕ) (o : Option ℕ) → is_none o ≡ true → f n ≡ true → is_none (or_else o (unless (f n) n)) ≡ true
    all_step f n (Some k) h e = cc
    all_step f n None h e = rw e refl

specs_sound : (b : ℕ) (ss : List Spec) → specs_broken b ss ≡ None → (i : ℕ) (d : Spec) → i < length ss → spec_broken (get_or ss i d) ≡ None
specs_sound b [] h i d l = absurd (omega (arith, l))
specs_sound b (s ∷ ss) h zero d l = blamed_none b (spec_broken s) (both_none (blamed b (spec_broken s)) (specs_broken (b + 1) ss) h).0
specs_sound b (s ∷ ss) h (suc i) d l = specs_sound (b + 1) ss (both_none (blamed b (spec_broken s)) (specs_broken (b + 1) ss) h).1 i d (omega (arith, l))

sum_small : (ss : List Spec) → sum_large ss ≡ None → all_elements ss ≤ 65536
sum_small ss h = nat_le_told (all_elements ss) 65536 (test (nat_le (all_elements ss) 65536) _ h)
  where
    test : (b : Bool) (x : Blamed) → cond b None (Some x) ≡ None → b ≡ true
    test true x h = refl
    test false x h = cc

port_same : (vs : List ℤ) (i j : ℕ) → ((o : What) → at vs (i + offset o) ≡ at vs (j + offset o)) → typed_port vs i ≡ typed_port vs j
port_same vs i j h =
    let make : ℤ → ℤ → ℤ → Port = λ a b c. record { rows = a; cols = b; ty = c } in
    let ty : at vs i ≡ at vs j = subst (λ (a : ℕ). at vs a ≡ at vs j) (let e : i + 0 ≡ i = omega arith in e) (subst (λ (a : ℕ). at vs (i + 0) ≡ at vs a) (let e : j + 0 ≡ j = omega arith in e) (h DataType)) in
    ap (λ a. make a (at vs (i + 2)) (at vs i)) (h Rows) ∙ (ap (λ a. make (at vs (j + 1)) a (at vs i)) (h Columns) ∙ ap (make (at vs (j + 1)) (at vs (j + 2))) ty)

module _ (n : Parts) (flat : IsFlat n) (vs : List ℤ) (typing : IsTheTyping (parts_in n) (AreTied n) (at vs)) where
  m : Parts
  m = typed_parts vs n

  long : length (typed_parts vs n).specs ≡ length n.specs
  long = typed_specs_length vs 0 n.specs

  spec_typed : (b : ℕ) → IsBlock n b → spec_of (typed_parts vs n) b ≡ typed_spec vs (start_of n.specs (b - 1)) (spec_of n b)
  spec_typed zero h = absurd (let l = h.least in omega (arith, l))
  spec_typed (suc k) h =
      typed_specs_at vs 0 n.specs k no_spec no_spec (let l = h.most in omega (arith, l))
      ∙ ap (λ (j : ℕ). typed_spec vs j (get_or n.specs k no_spec)) (let e : k ≡ suc k - 1 = omega arith in let f : 0 + start_of n.specs k ≡ start_of n.specs k = omega arith in f ∙ ap (start_of n.specs) e)

  block_back : (b : ℕ) → IsBlock (typed_parts vs n) b → IsBlock n b
  block_back b h = let most = h.most in let l = long in record { least = h.least; most = omega (arith, most, l) }

  block_forth : (b : ℕ) → IsBlock n b → IsBlock (typed_parts vs n) b
  block_forth b h = let most = h.most in let l = long in record { least = h.least; most = omega (arith, most, l) }

  ins_same : (b : ℕ) → IsBlock n b → length (spec_of (typed_parts vs n) b).ins ≡ length (spec_of n b).ins
  ins_same b h = ap (λ (s : Spec). length s.ins) (spec_typed b h) ∙ typed_ports_length vs (start_of n.specs (b - 1)) (spec_of n b).ins

  outs_same : (b : ℕ) → IsBlock n b → length (spec_of (typed_parts vs n) b).outs ≡ length (spec_of n b).outs
  outs_same b h = ap (λ (s : Spec). length s.outs) (spec_typed b h) ∙ typed_ports_length vs (start_of n.specs (b - 1) + 3 * length (spec_of n b).ins) (spec_of n b).outs

  input_back : (b k : ℕ) → IsInput (typed_parts vs n) b k → IsInput n b k
  input_back b k h =
      let block = block_back b h.block in let most = h.most in let l = ins_same b block in
      record { block = block; least = h.least; most = omega (arith, most, l) }

  output_forth : (b k : ℕ) → IsOutput n b k → IsOutput (typed_parts vs n) b k
  output_forth b k h =
      let most = h.most in let l = outs_same b h.block in
      record { block = block_forth b h.block; least = h.least; most = omega (arith, most, l) }

  events_in_back : (b p : ℕ) → IsActivationInput (typed_parts vs n) b p → IsActivationInput n b p
  events_in_back b p h =
      let block = block_back b h.block in let most = h.most in
      let same : (spec_of (typed_parts vs n) b).evtin ≡ (spec_of n b).evtin = ap (λ (s : Spec). s.evtin) (spec_typed b block) in
      record { block = block; least = h.least; most = omega (arith, most, same) }

  events_out_forth : (b p : ℕ) → IsActivationOutput n b p → IsActivationOutput (typed_parts vs n) b p
  events_out_forth b p h =
      let most = h.most in
      let same : (spec_of (typed_parts vs n) b).evtout ≡ (spec_of n b).evtout = ap (λ (s : Spec). s.evtout) (spec_typed b h.block) in
      record { block = block_forth b h.block; least = h.least; most = omega (arith, most, same) }

  sensor_back : (b : ℕ) → IsSensor (typed_parts vs n) b → IsSensor n b
  sensor_back b h =
      let block = block_back b h.block in
      record { block = block; sensor = subst (λ (s : Spec). is_sensor s.kind ≡ true) (spec_typed b block) h.sensor }

  wired : IsWired (typed_parts vs n)
  wired =
      let w = flat.wired in
      record {
        few = (let l = long in let f = w.few in omega (arith, l, f));
        one_path_each = w.one_path_each ∙ sym long;
        one_row_each = w.one_row_each ∙ sym long;
        one_wire_each = λ b h. w.one_wire_each b (block_back b h) ∙ sym (ins_same b (block_back b h));
        one_feed_row_each = w.one_feed_row_each ∙ sym long;
        one_feed_list_each = λ b h. w.one_feed_list_each b (block_back b h) ∙ sym (ap (λ (s : Spec). s.evtin) (spec_typed b (block_back b h)));
        wires_lead = λ b k h. output_forth (wire_of n b k).block (wire_of n b k).port (w.wires_lead b k (input_back b k h));
        feeds_rise = λ b p h. w.feeds_rise b p (events_in_back b p h);
        feeds_lead = λ b p q h c. events_out_forth q.block q.port (w.feeds_lead b p q (events_in_back b p h) c);
        own_columns = λ b c h k e.
            let bh = sensor_back b h in let bk = sensor_back c k in
            let here : column_of (spec_of (typed_parts vs n) b) ≡ column_of (spec_of n b) = ap column_of (spec_typed b bh.block) in
            let there : column_of (spec_of (typed_parts vs n) c) ≡ column_of (spec_of n c) = ap column_of (spec_typed c bk.block) in
            w.own_columns b c bh bk (sym here ∙ (e ∙ there));
      }

  -- where a port's numbers stand
  input_place : (b k : ℕ) → IsInput n b k → input_of (typed_parts vs n) b k ≡ typed_port vs (start_of n.specs (b - 1) + 3 * (k - 1))
  input_place b zero h = absurd (let l = h.least in omega (arith, l))
  input_place b (suc k) h =
      ap (λ (s : Spec). get_or s.ins k no_port) (spec_typed b h.block)
      ∙ (typed_ports_at vs (start_of n.specs (b - 1)) (spec_of n b).ins k no_port (let l = h.most in omega (arith, l))
      ∙ ap (λ (j : ℕ). typed_port vs (start_of n.specs (b - 1) + 3 * j)) (let e : k ≡ suc k - 1 = omega arith in e))

  output_place : (b k : ℕ) → IsOutput n b k → output_of (typed_parts vs n) b k ≡ typed_port vs ((start_of n.specs (b - 1) + 3 * length (spec_of n b).ins) + 3 * (k - 1))
  output_place b zero h = absurd (let l = h.least in omega (arith, l))
  output_place b (suc k) h =
      ap (λ (s : Spec). get_or s.outs k no_port) (spec_typed b h.block)
      ∙ (typed_ports_at vs (start_of n.specs (b - 1) + 3 * length (spec_of n b).ins) (spec_of n b).outs k no_port (let l = h.most in omega (arith, l))
      ∙ ap (λ (j : ℕ). typed_port vs ((start_of n.specs (b - 1) + 3 * length (spec_of n b).ins) + 3 * j)) (let e : k ≡ suc k - 1 = omega arith in e))

  ends_agree : (b k : ℕ) → IsInput n b k → (o : What) →
      at vs (((start_of n.specs ((wire_of n b k).block - 1) + 3 * length (spec_of n (wire_of n b k).block).ins) + 3 * ((wire_of n b k).port - 1)) + offset o)
      ≡ at vs ((start_of n.specs (b - 1) + 3 * (k - 1)) + offset o)
  ends_agree b k h o =
      let w : Wire = wire_of n b k in
      let out = flat.wired.wires_lead b k h in
      let i : ℕ = (start_of n.specs (b - 1) + 3 * (k - 1)) + offset o in
      let j : ℕ = ((start_of n.specs (w.block - 1) + 3 * length (spec_of n w.block).ins) + 3 * (w.port - 1)) + offset o in
      let p = named n b Input k o i h.block h.least h.most (omega arith) in
      let q = named n w.block Output w.port o j out.block out.least out.most (omega arith) in
      sym (typing.fits.agree i j (inl (record {
        input = record { block = b; side = Input; port = k; what = o; declared = p.0 };
        output = record { block = w.block; side = Output; port = w.port; what = o; declared = q.0 };
        at_input = p.1;
        at_output = q.1;
        is_input = refl;
        is_output = refl;
        wired = refl;
        same_part = refl;
      })))

  joined : (b k : ℕ) → IsInput (typed_parts vs n) b k → output_of (typed_parts vs n) (wire_of n b k).block (wire_of n b k).port ≡ input_of (typed_parts vs n) b k
  joined b k h =
      let i = input_back b k h in
      output_place (wire_of n b k).block (wire_of n b k).port (flat.wired.wires_lead b k i)
      ∙ (port_same vs _ _ (ends_agree b k i) ∙ sym (input_place b k i))

  -- a port's numbers are a type and sizes
  known_at : (b : ℕ) (s : Side) (k i : ℕ) → IsBlock n b → 1 ≤ k → k ≤ count (spec_of n b) s → i ≡ start_of n.specs (b - 1) + (side_start (spec_of n b) s + 3 * (k - 1)) → is_known (typed_port vs i) ≡ true
  known_at b s k i block least most e =
      let ty = named n b s k DataType i block least most (omega (arith, e)) in
      let rows = named n b s k Rows (i + 1) block least most (omega (arith, e)) in
      let cols = named n b s k Columns (i + 2) block least most (omega (arith, e)) in
      let t = typing.fits.allowed i _ ty.1 in
      let r = typing.fits.allowed (i + 1) _ rows.1 in
      let c = typing.fits.allowed (i + 2) _ cols.1 in
      both _ _ (both _ _ (int_le_yes (pos 1) (at vs (i + 1)) r) (int_le_yes (pos 1) (at vs (i + 2)) c)) (both _ _ (int_le_yes (pos 3) (at vs i) t.0) (int_le_yes (at vs i) (pos 8) t.1))

  known_ins : (b : ℕ) → IsBlock n b → (k : ℕ) → k < length (spec_of n b).ins → is_known (port_at (typed_ports vs (start_of n.specs (b - 1)) (spec_of n b).ins) k) ≡ true
  known_ins b h k l =
      subst (λ (p : Port). is_known p ≡ true) (sym (typed_ports_at vs (start_of n.specs (b - 1)) (spec_of n b).ins k no_port l))
      (known_at b Input (suc k) (start_of n.specs (b - 1) + 3 * k) h (omega arith) (omega (arith, l)) (omega arith))

  known_outs : (b : ℕ) → IsBlock n b → (k : ℕ) → k < length (spec_of n b).outs → is_known (port_at (typed_ports vs (start_of n.specs (b - 1) + 3 * length (spec_of n b).ins) (spec_of n b).outs) k) ≡ true
  known_outs b h k l =
      subst (λ (p : Port). is_known p ≡ true) (sym (typed_ports_at vs (start_of n.specs (b - 1) + 3 * length (spec_of n b).ins) (spec_of n b).outs k no_port l))
      (known_at b Output (suc k) ((start_of n.specs (b - 1) + 3 * length (spec_of n b).ins) + 3 * k) h (omega arith) (omega (arith, l)) (omega arith))

  -- what the tests of the rules want
  pub specs_few : length (typed_parts vs n).specs ≤ 2048
  specs_few = (let l = long in let f = flat.wired.few in omega (arith, l, f))

  spec_read : (k : ℕ) (d : Spec) → k < length (typed_parts vs n).specs → get_or (typed_parts vs n).specs k d ≡ typed_spec vs (start_of n.specs k) (spec_of n (suc k))
  spec_read k d l =
      typed_specs_at vs 0 n.specs k d no_spec (let e = long in omega (arith, l, e))
      ∙ ap (λ (j : ℕ). typed_spec vs j (get_or n.specs k no_spec)) (let f : 0 + start_of n.specs k ≡ start_of n.specs k = omega arith in f)

  block_at : (k : ℕ) → k < length (typed_parts vs n).specs → IsBlock n (suc k)
  block_at k l = let e = long in record { least = omega arith; most = omega (arith, l, e) }

  pub outs_few : All (λ (s : Spec). length s.outs ≤ 64) (typed_parts vs n).specs
  outs_few k d l =
      let h = block_at k l in
      let few = few_outs (spec_of n (suc k)) (flat.formed (suc k) h) in
      let same : length (get_or (typed_parts vs n).specs k d).outs ≡ length (spec_of n (suc k)).outs =
      ap (λ (s : Spec). length s.outs) (spec_read k d l) ∙ typed_ports_length vs (start_of n.specs k + 3 * length (spec_of n (suc k)).ins) (spec_of n (suc k)).outs in
      omega (arith, few, same)

  pub outs_below : All (λ (s : Spec). All (λ (p : Port). elements p < 2 ^ 63) s.outs) (typed_parts vs n).specs
  outs_below k d l j e lj =
      let h = block_at k l in
      let start : ℕ = start_of n.specs k + 3 * length (spec_of n (suc k)).ins in
      let outs : (get_or (typed_parts vs n).specs k d).outs ≡ typed_ports vs start (spec_of n (suc k)).outs = ap (λ (s : Spec). s.outs) (spec_read k d l) in
      let inside : j < length (spec_of n (suc k)).outs = (let f : length (get_or (typed_parts vs n).specs k d).outs ≡ length (typed_ports vs start (spec_of n (suc k)).outs) = ap length outs in
      let g = typed_ports_length vs start (spec_of n (suc k)).outs in omega (arith, lj, f, g)) in
      let port : get_or (get_or (typed_parts vs n).specs k d).outs j e ≡ typed_port vs (start + 3 * j) =
      ap (λ (ps : List Port). get_or ps j e) outs ∙ typed_ports_at vs start (spec_of n (suc k)).outs j e inside in
      let here : start_of n.specs k ≡ start_of n.specs (suc k - 1) = ap (start_of n.specs) (let f : k ≡ suc k - 1 = omega arith in f) in
      let rows = named n (suc k) Output (suc j) Rows ((start + 3 * j) + 1) h (omega arith) (omega (arith, inside)) (omega (arith, here)) in
      let cols = named n (suc k) Output (suc j) Columns ((start + 3 * j) + 2) h (omega arith) (omega (arith, inside)) (omega (arith, here)) in
      subst (λ (p : Port). elements p < 2 ^ 63) (sym port)
      (elements_below (typed_port vs (start + 3 * j))
      (typing.fits.allowed ((start + 3 * j) + 1) _ rows.1)
      (typing_below n flat (AreTied n) (at vs) typing ((start + 3 * j) + 1) (slice_get_within (parts_in n) ((start + 3 * j) + 1) _ rows.1))
      (typing.fits.allowed ((start + 3 * j) + 2) _ cols.1)
      (typing_below n flat (AreTied n) (at vs) typing ((start + 3 * j) + 2) (slice_get_within (parts_in n) ((start + 3 * j) + 2) _ cols.1)))

  module _ (none : net_broken (typed_parts vs n).specs ≡ None) where
    specs_none : specs_broken 1 (typed_parts vs n).specs ≡ None
    specs_none = (both_none (specs_broken 1 (typed_parts vs n).specs) (or_else (specs_large 1 (typed_parts vs n).specs) (sum_large (typed_parts vs n).specs)) none).0

    large_none : (specs_large 1 (typed_parts vs n).specs ≡ None) × (sum_large (typed_parts vs n).specs ≡ None)
    large_none =
        both_none (specs_large 1 (typed_parts vs n).specs) (sum_large (typed_parts vs n).specs)
        (both_none (specs_broken 1 (typed_parts vs n).specs) (or_else (specs_large 1 (typed_parts vs n).specs) (sum_large (typed_parts vs n).specs)) none).1

    sound_at : (b : ℕ) → IsBlock n b → spec_broken (spec_of (typed_parts vs n) b) ≡ None
    sound_at zero h = absurd (let l = h.least in omega (arith, l))
    sound_at (suc k) h = specs_sound 1 (typed_parts vs n).specs specs_none k no_spec (let l = h.most in let e = long in omega (arith, l, e))

    small_at : (b : ℕ) → IsBlock n b → outs_large 1 (spec_of (typed_parts vs n) b).outs ≡ None
    small_at zero h = absurd (let l = h.least in omega (arith, l))
    small_at (suc k) h = specs_small 1 (typed_parts vs n).specs large_none.0 k no_spec (let l = h.most in let e = long in omega (arith, l, e))

    formed_at : (b : ℕ) → IsBlock n b → formed_of (spec_of (typed_parts vs n) b).kind (spec_of (typed_parts vs n) b) ≡ true
    formed_at b h =
        subst (λ (s : Spec). formed_of s.kind s ≡ true) (sym (spec_typed b h))
        (formed_same (spec_of n b).kind (spec_of n b) _ _
        (typed_ports_length vs (start_of n.specs (b - 1)) (spec_of n b).ins)
        (typed_ports_length vs (start_of n.specs (b - 1) + 3 * length (spec_of n b).ins) (spec_of n b).outs)
        (flat.formed b h))

    known_in_at : (b : ℕ) → IsBlock n b → (k : ℕ) → k < length (spec_of (typed_parts vs n) b).ins → known_in (spec_of (typed_parts vs n) b) k ≡ true
    known_in_at b h k l =
        subst (λ (s : Spec). known_in s k ≡ true) (sym (spec_typed b h)) (known_ins b h k (let e = ins_same b h in omega (arith, l, e)))

    known_out_at : (b : ℕ) → IsBlock n b → (k : ℕ) → k < length (spec_of (typed_parts vs n) b).outs → known_out (spec_of (typed_parts vs n) b) k ≡ true
    known_out_at b h k l =
        both _ _
        (subst (λ (s : Spec). is_known (port_at s.outs k) ≡ true) (sym (spec_typed b h)) (known_outs b h k (let e = outs_same b h in omega (arith, l, e))))
        (at_most (elements (port_at (spec_of (typed_parts vs n) b).outs k)) 256 (outs_small 1 (spec_of (typed_parts vs n) b).outs (small_at b h) k no_port l))

    typed_at : (b : ℕ) → IsBlock n b → typed (spec_of (typed_parts vs n) b) ≡ true
    typed_at b h =
        let s : Spec = spec_of (typed_parts vs n) b in
        let sound = both_none (types_broken_of s.kind s) (sizes_broken_of s.kind s) (sound_at b h) in
        both _ _ (both _ _ (both _ _ (formed_at b h)
        (both _ _ (all_holds (known_in s) (length s.ins) (known_in_at b h)) (all_holds (known_out s) (length s.outs) (known_out_at b h))))
        (ap is_none sound.0)) (ap is_none sound.1)

    pub well_formed : IsNet (typed_parts vs n)
    well_formed =
        record {
          wired = wired;
          typed_specs = λ b h. typed_at b (block_back b h);
          joined = joined;
          small = sum_small (typed_parts vs n).specs large_none.1;
        }
