-- A call of a block's function gives what the block answers.
use Rattle.std.proofs.Common.{◌≡◌, ◌≢◌, ℕ, zero, suc, ◌+◌, ◌-◌, ◌<◌, ◌≤◌, inl, inr, ◌⊎◌, List, [], ◌∷◌, length, drop, Contains, Option, Some, None, Bool, false, if◌then◌else◌, refl, sym, ap, ◌∙◌, subst, arith, ℤ, slice_get, slice_set, true≢false}
use Rattle.std.specs.Prelude.{slice_index_or, unsigned_abs}
use Rattle.std.proofs.lemmas.Bool.{cases_eq, cases_lt}
use Rattle.std.proofs.lemmas.List.{get_or-set_same, get_or-set_other}
use Rattle.sci_base.specs.Lists.{at}
use Rattle.sci_forms.specs.declared.Kind.{Kind}
use Rattle.sci_forms.specs.declared.Kind.TheVariants.{Sensor}
use Rattle.sci_forms.specs.declared.spec.Spec.{Spec}
use Rattle.sci_forms.specs.Ports.{port_at, elements, total, before}
use Rattle.sci_kinds.specs.Asks.{IsMask}
use Rattle.sci_kinds.specs.Table.{Answer, Values, NoFit, NoQuotient, cell_of, gathered, out}
use Rattle.sci_net.specs.declared.Source.{Source}
use Rattle.sci_net.specs.Parts.{Parts, IsBlock, IsInput, IsOutput, IsSensor, numbered, spec_of, wire_of, output_of, column_of}
use Rattle.sci_forms.specs.Form.{is_sensor}
use Rattle.sci_net.specs.Net.{IsNet}
use Rattle.sci_reaction.specs.Links.{SuppliesThrough}
use Rattle.sci_reaction.specs.Active.{Possible}
use Rattle.sci_reaction.specs.Depends.{Depends, IsLoopFree}
use Rattle.sci_reaction.specs.Memory.{Memory, Columns, IsMemory, next_value}
use Rattle.sci_reaction.specs.Equations.{Signals, AreInRange, input_in, all_inputs, values_or_word, sensed, answer}
use Rattle.sci_reaction.specs.Schedule.{Entry, blocks_of, IsRow}
use Rattle.sci_reaction.specs.Pass.{put}
use Rattle.sci_reaction.proofs.Lists.{put_same, put_other}
use Rattle.sci_reaction.proofs.Spreading.{Spread-block}
use Rattle.sci_reaction.proofs.OneResult.{need_precedes, irreflexive}
use Rattle.sci_reaction.proofs.Fills.{inputs_in_range}
use Rattle.sci_places.specs.Flat.{start_of}
use Rattle.sci_places.proofs.Lists.{up_to}
use Rattle.sci_places.proofs.Outputs.{blocks_apart}
use Rattle.c_mean.specs.Meaning.{World, Ran, Around, run_block}
use Rattle.c_mean.specs.Places.{get, Has, KeepsPlaces, is_scratch}
use Rattle.c_mean.proofs.Memory.{keeps_places}
use Rattle.c_mean.proofs.Steps.{leads_as}
use Rattle.sci_cgen_blocks.specs.Recipes.{scratch_of}
use Rattle.sci_cgen_blocks.specs.Texts.{values, scratch_name, input_place, body_text}
use Rattle.sci_cgen_blocks.specs.Meant.{Holds, HasScratch, IsFed, IsApart, Answers, TakesFirst}
use Rattle.sci_cgen_blocks.specs.Laws.{ValuesLaw, SensorLaw}
use Rattle.sci_cgen_blocks.proofs.Sensing.{is_kind, sensor_takes, sensor_column, sensor_out}
use Rattle.sci_program.specs.Program.{places_of}
use Rattle.sci_program.specs.Shows.{ShowsColumns}
use Rattle.sci_program.specs.Passes.{ShowsNet, HasCalled, Gives, RunsBody, AreCalled}
use Rattle.sci_program.proofs.Given.{input_start, input_shown}
use Rattle.sci_program.proofs.Sizes.{in_bounds}

-- ---- kinds

not_sensor : (k : Kind) → k ≢ Sensor → is_sensor k ≡ false
not_sensor Sensor h = absurd (h refl)
not_sensor _ h = refl

-- a sensor gives the value that goes in
sensor_gives : (s : Spec) (x : List ℤ) (m : ℕ) (v : ℤ) → s.kind ≡ Sensor → total s.outs ≡ 1 → out s x m (v ∷ []) ≡ Values (v ∷ [])
sensor_gives s x m v kind one =
    subst (λ (k : Kind). gathered (cell_of k s x m (v ∷ [])) (total s.outs) ≡ Values (v ∷ [])) (sym kind)
    (subst (λ (t : ℕ). gathered (cell_of Sensor s x m (v ∷ [])) t ≡ Values (v ∷ [])) (sym one) refl)

-- ---- columns

-- what is left of a column, and its next value
column_cases : (xs : List ℤ) (q : ℕ) → ((v : ℤ) × (slice_get xs q ≡ Some v) × (drop q xs ≡ v ∷ drop (suc q) xs)) ⊎ ((slice_get xs q ≡ None) × (drop q xs ≡ []))
column_cases [] zero = inr (refl, refl)
column_cases [] (suc q) = inr (refl, refl)
column_cases (x ∷ xs) zero = inl (x, refl, refl)
column_cases (x ∷ xs) (suc q) = column_cases xs q

column_there : (xs : List (List ℤ)) (c : ℕ) (v : ℤ) (vs : List ℤ) → slice_index_or xs c [] ≡ v ∷ vs → c < length xs
column_there [] c v vs h = cc
column_there (x ∷ xs) zero v vs h = omega arith
column_there (x ∷ xs) (suc c) v vs h = let r = column_there xs c v vs h in omega (arith, r)

-- another column stays
other_column : (xs : List (List ℤ)) (c d : ℕ) (vs : List ℤ) → (d ≡ suc c → ⊥) → numbered [] (slice_set xs c vs) d ≡ numbered [] xs d
other_column xs c zero vs h = refl
other_column xs c (suc j) vs h = get_or-set_other xs c j vs [] (λ e. h (let same : suc j ≡ suc c = omega (arith, e) in same))

-- ---- one block

module _ (n : Parts) (net : IsNet n) (scratch : ℕ) (i : Columns) (m : Memory) (memory : IsMemory n m) (s : Source) (free : IsLoopFree n s) (b : ℕ)
    (may : Possible n s b) (enough : scratch_of (spec_of n b).kind (spec_of n b) ≤ scratch) (y : Signals) (in_range : AreInRange n y) (cursor : ℕ → ℕ)
    (mask : ℕ) (masked : IsMask (spec_of n b) mask) (w : World) (h : ShowsNet n scratch i m cursor y b mask w) where
  block : IsBlock n b
  block = Spread-block n s _ may

  long : (c : ℕ) → IsBlock n c → length (y c) ≡ total (spec_of n c).outs
  long c inside = (in_range c inside).enough

  abbrev given_here : List ℤ
  given_here = all_inputs (spec_of n b) (input_in n y b)

  -- a run of the text of its values
  abbrev body_run : Around → ℕ → Ran
  body_run env k = run_block env k (body_text (spec_of n b) (places_of n b)) w

  -- an input with feedthrough comes from another block
  apart : IsApart (spec_of n b) (places_of n b)
  apart k e l r through = elim (cases_lt c b) [
    | inl q ↦ let far = blocks_apart n c b leads.block block q in inl (omega (arith, far, place, inside))
    | inr q ↦
        let less : b < c = omega (arith, q, differ) in
        let far = blocks_apart n b c block leads.block less in
        inr (omega (arith, far, place))
  ]
    where
      within : IsInput n b (suc k)
      within = record { block = block; least = omega arith; most = omega (arith, l) }

      c : ℕ
      c = (wire_of n b (suc k)).block

      leads : IsOutput n (wire_of n b (suc k)).block (wire_of n b (suc k)).port
      leads = net.wired.wires_lead b (suc k) within

      differ : (wire_of n b (suc k)).block ≡ b → ⊥
      differ q =
          let supply : SuppliesThrough n b b = record { input = suc k; within = within; from = q; through = through } in
          let need : Depends n s b b = record { possible = may; on_possible = may; waits = inl supply } in
          irreflexive n s free b (need_precedes n s free b b need)

      place : input_place (places_of n b) k e
          ≡ start_of n (wire_of n b (suc k)).block + before (spec_of n (wire_of n b (suc k)).block).outs ((wire_of n b (suc k)).port - 1) + e
      place = ap (λ (j : ℕ). j + e) (input_start n net y long w h.values b k block l)

      inside : before (spec_of n (wire_of n b (suc k)).block).outs ((wire_of n b (suc k)).port - 1) + e < total (spec_of n (wire_of n b (suc k)).block).outs
      inside = by_port (wire_of n b (suc k)).port refl
        where
          by_port : (p : ℕ) → (wire_of n b (suc k)).port ≡ p
              → before (spec_of n (wire_of n b (suc k)).block).outs (p - 1) + e < total (spec_of n (wire_of n b (suc k)).block).outs
          by_port zero q = absurd (let some = leads.least in omega (arith, some, q))
          by_port (suc j) q =
              let outs = (spec_of n (wire_of n b (suc k)).block).outs in
              let same : suc j - 1 ≡ j = omega arith in
              let size : elements (port_at outs j) ≡ elements (port_at (spec_of n b).ins k) =
              ap (λ (i : ℕ). elements (output_of n (wire_of n b (suc k)).block i)) (sym q) ∙ ap elements (net.joined b (suc k) within) in
              let most = leads.most in
              let fits = up_to outs j (omega (arith, most, q)) in
              subst (λ (i : ℕ). before outs i + e < total outs) (sym same) (omega (arith, fits, size, r))

  holds : Holds (spec_of n b) (places_of n b) (IsFed (spec_of n b)) (m.state b) mask given_here w
  holds = record {
    ins = λ k e a r f. input_shown n net y long w h.values b k e block a r;
    state = λ j a. h.states.each b j block a;
    mask = h.mask_is;
    outs = λ e a. record { holds = at (y b) e; is = h.values.each b e block a };
  }

  room : HasScratch (spec_of n b) w
  room k a r = h.room.scratch_names k a (omega (arith, r, enough))

  -- ---- a block that isn't a sensor

  module _ (other : (spec_of n b).kind ≢ Sensor) where
    columns_stay : (w' : World) → w'.left ≡ w.left → ShowsColumns n i (put cursor b (cursor b + 1)) w'
    columns_stay w' same = record {
      each = λ c sensor. ap (λ l. numbered [] l (column_of (spec_of n c))) same
          ∙ (h.columns.each c sensor
          ∙ ap (λ (j : ℕ). drop j (numbered [] i (column_of (spec_of n c))))
          (sym (put_other cursor b (cursor b + 1) c
          (λ q. true≢false (sym sensor.sensor ∙ (ap (λ (d : ℕ). is_sensor (spec_of n d).kind) q ∙ not_sensor (spec_of n b).kind other))))));
    }

    given_by : (a : Answer) (r : Ran) → Answers (spec_of n b) (places_of n b) w a r → Gives n i b cursor w (values_or_word a) r
    given_by (Values vs) r l =
        leads_as r (λ w' k. record { keeps = keeps_places k.0; values = k.1; columns = columns_stay w' k.0.left }) l
    given_by NoFit r l = l
    given_by NoQuotient r l = l

    body_gives : ValuesLaw → (env : Around) (k : ℕ)
        → Gives n i b cursor w (answer n m i b mask (input_in n y b)) (body_run env k)
    unfolding answer
    body_gives law env k =
        subst (λ (t : Bool). Gives n i b cursor w (if t then sensed (spec_of n b) (m.state b) mask (next_value i (spec_of n b) (m.cursor b))
        else values_or_word (out (spec_of n b) (m.state b) mask given_here)) (body_run env k)) (sym (not_sensor (spec_of n b).kind other))
        (given_by (out (spec_of n b) (m.state b) mask given_here) (body_run env k)
        (law env (spec_of n b) (places_of n b) (m.state b) mask given_here k w (net.typed_specs b block) other (memory.states b block) masked
        (inputs_in_range n net y b block in_range) holds room (in_bounds n net b block) apart))

  -- ---- a sensor

  module _ (kind : (spec_of n b).kind ≡ Sensor) where
    sensor : IsSensor n b
    sensor = record { block = block; sensor = ap is_sensor kind }

    one : total (spec_of n b).outs ≡ 1
    one = sensor_out (spec_of n b) (net.typed_specs b block) kind

    abbrev column : ℕ
    column = (sensor_column (spec_of n b) (net.typed_specs b block) kind).0

    column_is : column_of (spec_of n b) ≡ suc column
    column_is = ap unsigned_abs (sensor_column (spec_of n b) (net.typed_specs b block) kind).1.0

    abbrev all : List ℤ
    all = numbered [] i (column_of (spec_of n b))

    left_is : slice_index_or w.left column [] ≡ drop (m.cursor b) all
    left_is =
        ap (numbered [] w.left) (sym column_is) ∙ (h.columns.each b sensor ∙ ap (λ (j : ℕ). drop j all) h.cursor_is)

    -- where there is a value
    module _ (v : ℤ) (split : drop (m.cursor b) all ≡ v ∷ drop (suc (m.cursor b)) all) (w' : World)
        (k : KeepsPlaces is_scratch values (start_of n b) 1 w w' × (get w' values (start_of n b) ≡ Some v)
        × (w'.left ≡ slice_set w.left column (drop (suc (m.cursor b)) all))) where
      column_taken : (c : ℕ) → IsSensor n c → numbered [] w'.left (column_of (spec_of n c))
          ≡ drop (put cursor b (cursor b + 1) c) (numbered [] i (column_of (spec_of n c)))
      column_taken c sensing = elim (cases_eq c b) [
        | inl q ↦
            subst (λ (d : ℕ). numbered [] w'.left (column_of (spec_of n d)) ≡ drop (put cursor b (cursor b + 1) d) (numbered [] i (column_of (spec_of n d))))
            (sym q) here
        | inr d ↦ ap (λ l. numbered [] l (column_of (spec_of n c))) k.2
            ∙ (other_column w.left column (column_of (spec_of n c)) (drop (suc (m.cursor b)) all)
            (λ e. d (net.wired.own_columns c b sensing sensor (e ∙ sym column_is)))
            ∙ (h.columns.each c sensing ∙ ap (λ (j : ℕ). drop j (numbered [] i (column_of (spec_of n c)))) (sym (put_other cursor b (cursor b + 1) c d))))
      ]
        where
          next_cursor : suc (m.cursor b) ≡ put cursor b (cursor b + 1) b
          next_cursor =
              (let same = h.cursor_is in let q : suc (m.cursor b) ≡ cursor b + 1 = omega (arith, same) in q) ∙ sym (put_same cursor b (cursor b + 1) b refl)

          here : numbered [] w'.left (column_of (spec_of n b)) ≡ drop (put cursor b (cursor b + 1) b) all
          here =
              ap (numbered [] w'.left) column_is
              ∙ (ap (λ (l : List (List ℤ)). slice_index_or l column []) k.2
              ∙ (get_or-set_same w.left column (drop (suc (m.cursor b)) all) []
              (column_there w.left column v (drop (suc (m.cursor b)) all) (left_is ∙ split))
              ∙ ap (λ (j : ℕ). drop j all) next_cursor))

      sensed_one : HasCalled n i b (v ∷ []) cursor w w'
      sensed_one = record {
        keeps = subst (λ (t : ℕ). KeepsPlaces is_scratch values (start_of n b) t w w') (sym one) k.0;
        values = λ e l.
            let first : e ≡ 0 = omega (arith, l, one) in
            let place : start_of n b + e ≡ start_of n b = omega (arith, first) in
            ap (get w' values) place ∙ (k.1 ∙ ap (λ (j : ℕ). Some (at (v ∷ []) j)) (sym first));
        columns = record { each = column_taken };
      }

    sensor_room : Has w values (start_of n b)
    sensor_room =
        let place : start_of n b + 0 ≡ start_of n b = omega arith in
        record { holds = at (y b) 0; is = ap (get w values) (sym place) ∙ h.values.each b 0 block (omega (arith, one)) }

    sensor_scratch : Has w (scratch_name 1) 0
    sensor_scratch =
        let some = sensor_takes (spec_of n b).kind (spec_of n b) kind in
        h.room.scratch_names 1 (omega arith) (omega (arith, some, enough))

    senses_gives : SensorLaw → (env : Around) (k : ℕ)
        → Gives n i b cursor w (answer n m i b mask (input_in n y b)) (body_run env k)
    unfolding answer
    senses_gives law env k =
        subst (λ (t : Bool). Gives n i b cursor w (if t then sensed (spec_of n b) (m.state b) mask (next_value i (spec_of n b) (m.cursor b))
        else values_or_word (out (spec_of n b) (m.state b) mask given_here)) (body_run env k)) (sym sensor.sensor)
        (by_column (column_cases all (m.cursor b)))
      where
        takes : TakesFirst (places_of n b) column (drop (m.cursor b) all) w (body_run env k)
        takes =
            subst (λ (xs : List ℤ). TakesFirst (places_of n b) column xs w (body_run env k)) left_is
            (law env (spec_of n b) (places_of n b) column k w kind (sensor_column (spec_of n b) (net.typed_specs b block) kind).1.0 sensor_room sensor_scratch)

        by_column : ((v : ℤ) × (slice_get all (m.cursor b) ≡ Some v) × (drop (m.cursor b) all ≡ v ∷ drop (suc (m.cursor b)) all))
            ⊎ ((slice_get all (m.cursor b) ≡ None) × (drop (m.cursor b) all ≡ []))
            → Gives n i b cursor w (sensed (spec_of n b) (m.state b) mask (slice_get all (m.cursor b))) (body_run env k)
        by_column (inl (v, q, split)) =
            subst (λ (o : Option ℤ). Gives n i b cursor w (sensed (spec_of n b) (m.state b) mask o) (body_run env k))
            (sym q)
            (subst (λ (a : Answer). Gives n i b cursor w (values_or_word a) (body_run env k))
            (sym (sensor_gives (spec_of n b) (m.state b) mask v kind one))
            (leads_as (body_run env k) (sensed_one v split)
            (subst (λ (xs : List ℤ). TakesFirst (places_of n b) column xs w (body_run env k)) split takes)))
        by_column (inr (q, split)) =
            subst (λ (o : Option ℤ). Gives n i b cursor w (sensed (spec_of n b) (m.state b) mask o) (body_run env k))
            (sym q)
            (subst (λ (xs : List ℤ). TakesFirst (places_of n b) column xs w (body_run env k)) split takes)

-- ---- the blocks of a row

-- Where calls run the texts of the blocks' values, they give what the blocks answer.
pub calls_are : ValuesLaw → SensorLaw → (env : Around) (n : Parts) → IsNet n → (scratch : ℕ) (i : Columns) (m : Memory) → IsMemory n m → (s : Source)
    → IsLoopFree n s → (row : List Entry) → IsRow n s row
    → ((b : ℕ) → Contains (blocks_of row) b → scratch_of (spec_of n b).kind (spec_of n b) ≤ scratch)
    → ((b : ℕ) → Contains (blocks_of row) b → RunsBody env n b) → AreCalled env n scratch i m row
calls_are law sensing env n net scratch i m memory s free row is enough runs b c = record {
  run = run_block (runs b c).inner (runs b c).number (body_text (spec_of n b) (places_of n b));
  is = (runs b c).is;
  gives = λ y cursor mask w h in_range masked. elim (is_kind (spec_of n b).kind) [
    | inl kind ↦ senses_gives n net scratch i m memory s free b ((is.exactly b).0 c) (enough b c) y in_range cursor mask masked w h kind sensing
        (runs b c).inner (runs b c).number
    | inr other ↦ body_gives n net scratch i m memory s free b ((is.exactly b).0 c) (enough b c) y in_range cursor mask masked w h other law
        (runs b c).inner (runs b c).number
  ];
}
