-- The net of a bulk diagram: values depend on those of earlier blocks alone, and each clock goes on.
use Rattle.std.proofs.Common.{◌≡◌, ◌≤◌, ◌<◌, ◌+◌, ℕ, zero, suc, List, [], ◌∷◌, length, map, Bool, true, false, ◌&&◌, ◌||◌, Some, ℤ, pos, negsuc, ◌*ℤ◌, refl, sym, ◌∙◌, ap, subst, arith}
use Rattle.std.specs.Prelude.{slice_index_or, Contains, if◌then◌else◌}
use Rattle.sci_base.specs.declared.Ty.{Ty}
use Rattle.sci_base.specs.declared.Mode.TheVariants.{Wrap}
use Rattle.sci_base.specs.Fit.{fit, wrap, in_range}
use Rattle.sci_diagram.specs.Objects.{objects_of}
use Rattle.sci_forms.specs.declared.spec.Spec.{Spec}
use Rattle.sci_forms.specs.Form.{is_sync}
use Rattle.sci_forms.specs.Words.{out_type, size, param}
use Rattle.sci_kinds.specs.declared.Cell.{Cell}
use Rattle.sci_kinds.specs.declared.Cell.TheVariants.{Value}
use Rattle.sci_kinds.specs.Table.{Values, fitted, then_cell, cell, out, delay, sum_to, input}
use Rattle.sci_base.specs.Lists.{at}
use Rattle.sci_net.specs.declared.Source.{Source}
use Rattle.sci_net.specs.declared.Source.TheVariants.{Start, Port}
use Rattle.sci_net.specs.declared.Feed.{Feed}
use Rattle.sci_net.specs.Parts.{Parts, numbered, no_spec, spec_of, wire_of, IsActivationInput}
use Rattle.sci_forms.specs.Form.{is_sensor}
use Rattle.sci_net.specs.Sources.{sources_from, sources_of}
use Rattle.sci_reaction.specs.Links.{Feeds}
use Rattle.sci_run.specs.Activity.{Activity, halts_from}
use Rattle.sci_forms.specs.Form.{is_halt}
use Rattle.sci_run.specs.Programs.{firing_of}
use Rattle.sci_blocks.specs.Blocks.{Placed}
use Rattle.sci_flat.specs.Flat.{blocks, IsWire, IsFeed, IsFlatNet}
use Rattle.sci_bulk.specs.declared.data_block.DataBlock.{DataBlock}
use Rattle.sci_bulk.specs.declared.data_block.DataBlock.TheVariants.{One, Delay, Sum, Triple}
use Rattle.sci_bulk.specs.Bulk.{clocks, drawing}
use Rattle.sci_bulk.specs.Laws.{IsForward, IsRestless}
use Rattle.sci_bulk.proofs.Shapes.{Each, each_spec, clock_spec, data_spec, specs_of}
use Rattle.sci_bulk.proofs.Drawn.{AreDrawn, each_number, specs_length, clock_number}
use Rattle.sci_bulk.proofs.Placing.{placed_from, placed_specs}
use Rattle.sci_bulk.proofs.Feeding.{same_value, never_sensor, blocks_kept, wire_earlier, own_feed}

-- ---- what each block does

-- every value has a fitting number, since what doesn't fit wraps
wraps : (b : Bool) (v w : ℤ) → (r : ℤ) × (fitted (if b then Some v else Some w) ≡ Value r)
wraps true v w = (v, refl)
wraps false v w = (w, refl)

fit_wraps : (t : Ty) (v : ℤ) → (r : ℤ) × (fitted (fit t Wrap v) ≡ Value r)
fit_wraps t v = wraps (in_range t v) v (wrap t v)

one_value : (c : Cell) (r : ℤ) → c ≡ Value r → (vs : List ℤ) × (then_cell (Values []) c ≡ Values vs)
one_value c r h = (r ∷ [], ap (then_cell (Values [])) h)

abbrev HasValues : Spec → Type 0
HasValues s = (x : List ℤ) (mask : ℕ) (u : List ℤ) → (vs : List ℤ) × (out s x mask u ≡ Values vs)

clock_values : (j : ℕ) → HasValues (clock_spec j)
clock_values j x mask u = ([], refl)

data_values : (d : DataBlock) → HasValues (data_spec d)
data_values One x mask u = one_value (cell (data_spec One) x mask u 0) (pos 1) refl
data_values (Delay c a) x mask u = one_value (cell (data_spec (Delay c a)) x mask u 0) (slice_index_or x 0 (pos 0)) refl
data_values (Sum a b) x mask u =
    let s : Spec = data_spec (Sum a b) in
    let found = fit_wraps (out_type s) (sum_to (λ k. param s (k + 1) *ℤ input (size s) u k 0) (length s.ins)) in
    one_value (cell s x mask u 0) found.0 found.1
data_values (Triple a) x mask u =
    let s : Spec = data_spec (Triple a) in
    let found = fit_wraps (out_type s) (param s 1 *ℤ at u 0) in
    one_value (cell s x mask u 0) found.0 found.1

data_sync : (d : DataBlock) → is_sync (data_spec d).kind ≡ false
data_sync One = refl
data_sync (Delay c a) = refl
data_sync (Sum a b) = refl
data_sync (Triple a) = refl

data_halt : (d : DataBlock) → is_halt (data_spec d).kind ≡ false
data_halt One = refl
data_halt (Delay c a) = refl
data_halt (Sum a b) = refl
data_halt (Triple a) = refl

right_false : (a b : Bool) → b ≡ false → (a && b) ≡ false
right_false true b h = h
right_false false b h = refl

both_false : (a b : Bool) → a ≡ false → b ≡ false → (a || b) ≡ false
both_false a b h k = rw (h, k) refl

none_halts : (b : ℕ) (ss : List Spec) (active : Activity) → Each (λ (s : Spec). is_halt s.kind ≡ false) ss → halts_from b ss active ≡ false
none_halts b [] active h = refl
none_halts b (s ∷ ss) active h =
    both_false (active b && is_halt s.kind) (halts_from (b + 1) ss active) (right_false (active b) (is_halt s.kind) h.0) (none_halts (b + 1) ss active h.1)

-- ---- sources

data_sources : (b : ℕ) (ds : List DataBlock) → sources_from b (map data_spec ds) ≡ []
data_sources b [] = refl
data_sources b (One ∷ ds) = data_sources (b + 1) ds
data_sources b (Delay c a ∷ ds) = data_sources (b + 1) ds
data_sources b (Sum a c ∷ ds) = data_sources (b + 1) ds
data_sources b (Triple a ∷ ds) = data_sources (b + 1) ds

abbrev clock_port : ℕ → Source
clock_port j = Port (record { block = j; port = 1 })

sources_are : (ds : List DataBlock) → sources_from 1 (specs_of ds) ≡ map clock_port clocks
sources_are ds =
    ap (λ (l : List Source). clock_port 1 ∷ clock_port 2 ∷ clock_port 3 ∷ clock_port 4 ∷ clock_port 5 ∷ clock_port 6 ∷ clock_port 7 ∷ clock_port 8 ∷ l) (data_sources 9 ds)

-- the source is start, or a clock's one port
abbrev IsClockPort : Source → Type 0
IsClockPort Start = Unit {0}
IsClockPort (Port q) = (1 ≤ q.block) × (q.block ≤ 8) × (q.port ≡ 1)

port_clock : (j : ℕ) → 1 ≤ j → j ≤ 8 → IsClockPort (clock_port j)
port_clock j least most = (least, most, refl)

all_clocks : Each IsClockPort (Start ∷ map clock_port clocks)
all_clocks =
    (tt, (port_clock 1 (omega arith) (omega arith), (port_clock 2 (omega arith) (omega arith), (port_clock 3 (omega arith) (omega arith), (port_clock 4 (omega arith) (omega arith), (port_clock 5 (omega arith) (omega arith), (port_clock 6 (omega arith) (omega arith), (port_clock 7 (omega arith) (omega arith), (port_clock 8 (omega arith) (omega arith), tt)))))))))

each_within : {A : Type 0} (P : A → Type 0) (xs : List A) (d : A) → Each P xs → (k : ℕ) → k < length xs → P (slice_index_or xs k d)
each_within P [] d h k l = absurd (omega (arith, l))
each_within P (x ∷ xs) d h zero l = h.0
each_within P (x ∷ xs) d h (suc k) l = each_within P xs d h.1 k (omega (arith, l))

each_contains : {A : Type 0} (P : A → Type 0) (xs : List A) (x : A) → Each P xs → Contains xs x → P x
each_contains P xs x h has = subst P has.2 (each_within P xs x h has.0 has.1)

-- ---- the net

module _ (ds : List DataBlock) (drawn : AreDrawn 1 ds) (n : Parts) (flat : IsFlatNet (objects_of (drawing ds)) n) where
  placed_is : flat.placed ≡ placed_from 1 (specs_of ds)
  placed_is = same_value (blocks (objects_of (drawing ds))) flat.placed (placed_from 1 (specs_of ds)) flat.blocks (blocks_kept ds drawn)

  pub specs_are : n.specs ≡ specs_of ds
  specs_are = flat.specs ∙ (ap (λ (ps : List Placed). map (λ (p : Placed). p.spec) ps) placed_is ∙ placed_specs 1 (specs_of ds))

  spec_is : (b : ℕ) → spec_of n b ≡ numbered no_spec (specs_of ds) b
  spec_is b = ap (λ (ss : List Spec). numbered no_spec ss b) specs_are

  pub block_count : length n.specs ≡ 8 + length ds
  block_count = ap length specs_are ∙ specs_length ds

  each_block : (P : Spec → Type 0) → P no_spec → ((j : ℕ) → P (clock_spec j)) → ((d : DataBlock) → P (data_spec d)) → (b : ℕ) → P (spec_of n b)
  each_block P none c d b = subst P (sym (spec_is b)) (each_number P (specs_of ds) no_spec none (each_spec P c d ds) b)

  -- ---- values depend on those of earlier blocks alone

  pub forward : IsForward n
  forward = record {
    earlier = λ a b h.
        let inside = h.within.block in
        let most = inside.most in
        let wire = subst (λ (ps : List Placed). IsWire (objects_of (drawing ds)) ps b h.input (wire_of n b h.input)) placed_is (flat.wires b h.input h.within) in
        let less = wire_earlier ds drawn b h.input (wire_of n b h.input) inside.least (omega (arith, most, block_count)) wire in
        let from = h.from in
        omega (arith, less, from);
    no_branch = λ b h. let never = each_block (λ (s : Spec). is_sync s.kind ≡ false) refl (λ j. refl) data_sync b in cc;
  }

  -- ---- the clocks go on

  pub all_sources : sources_of n ≡ Start ∷ map clock_port clocks
  all_sources = ap (λ (ss : List Spec). Start ∷ sources_from 1 ss) specs_are ∙ ap (λ (l : List Source). Start ∷ l) (sources_are ds)

  pub source_count : length (sources_of n) ≡ 9
  source_count = ap length all_sources

  source_is : (q : Feed) → Contains (sources_of n) (Port q) → (1 ≤ q.block) × (q.block ≤ 8) × (q.port ≡ 1)
  source_is q has = each_contains IsClockPort (Start ∷ map clock_port clocks) (Port q) all_clocks (subst (λ (ss : List Source). Contains ss (Port q)) all_sources has)

  clock_is : (j : ℕ) → 1 ≤ j → j ≤ 8 → spec_of n j ≡ clock_spec j
  clock_is j least most = spec_is j ∙ clock_number ds j least most

  first_firing : (q : Feed) → Contains (sources_of n) (Port q) → firing_of n q ≡ pos q.block
  first_firing q has =
      let is = source_is q has in
      ap (λ (s : Spec). numbered (negsuc 0) s.firing q.port) (clock_is q.block is.0 is.1) ∙ ap (λ (p : ℕ). numbered (negsuc 0) (pos q.block ∷ []) p) is.2

  delay_again : (q : Feed) → Contains (sources_of n) (Port q) → (u : List ℤ) → delay (spec_of n q.block) q.port u ≡ pos q.block
  delay_again q has u = let is = source_is q has in ap (λ (s : Spec). delay s q.port u) (clock_is q.block is.0 is.1)

  feeds_itself : (q : Feed) → Contains (sources_of n) (Port q) → Feeds n q q.block
  feeds_itself q has =
      let is = source_is q has in
      let most = is.1 in
      let evtin : (spec_of n q.block).evtin ≡ 1 = ap (λ (s : Spec). s.evtin) (clock_is q.block is.0 is.1) in
      let within : IsActivationInput n q.block 1 = record { block = record { least = is.0; most = omega (arith, most, block_count) }; least = omega arith; most = omega (arith, evtin) } in
      let own = subst (λ (ps : List Placed). IsFeed (objects_of (drawing ds)) ps q.block 1 (record { block = q.block; port = 1 })) (sym placed_is) (own_feed ds drawn q.block is.0 is.1) in
      let make : ℕ → Feed = λ p. record { block = q.block; port = p } in
      let fed = subst (λ (p : ℕ). IsFeed (objects_of (drawing ds)) flat.placed q.block 1 (make p)) (sym is.2) own in
      record { input = 1; within = within; fed = ((flat.feeds q.block 1 within).exactly q).1 fed }

  pub restless : IsRestless n 8
  restless = record {
    valued = λ b inside. each_block HasValues (λ x mask u. ([], refl)) clock_values data_values b;
    no_sensor = λ b. ap (λ (s : Spec). is_sensor s.kind) (spec_is b) ∙ never_sensor ds b;
    no_halt = λ active.
        ap (λ (ss : List Spec). halts_from 1 ss active) specs_are
        ∙ none_halts 1 (specs_of ds) active (each_spec (λ (s : Spec). is_halt s.kind ≡ false) (λ j. refl) data_halt ds);
    first = λ q has. (q.block, first_firing q has, (source_is q has).1);
    itself = feeds_itself;
    again = λ q has u. (q.block, delay_again q has u, (source_is q has).1);
    one = record { block = 1; port = 1 };
    is_source = subst (λ (ss : List Source). Contains ss (clock_port 1)) (sym all_sources) (1, omega arith, refl);
  }
