-- What the function of a block does, from any memory that has the program's variables and what goes into the block.
use Rattle.std.proofs.Common.{◌≡◌, ℕ, zero, suc, ◌+◌, ◌-◌, ◌<◌, ◌≤◌, inl, inr, List, [], ◌∷◌, ◌++◌, length, Bool, true, refl, sym, ap, ◌∙◌, subst, arith, ℤ, pos}
use Rattle.std.specs.Prelude.{unsigned_abs}
use Rattle.std.proofs.lemmas.Bool.{cases_eq, cases_lt}
use Rattle.sci_forms.specs.declared.Kind.TheVariants.{Sensor}
use Rattle.sci_forms.specs.Ports.{port_at, elements, total, before}
use Rattle.sci_kinds.specs.Table.{out}
use Rattle.sci_net.specs.Parts.{Parts, IsBlock, IsInput, IsOutput, spec_of, wire_of, output_of, column_of}
use Rattle.sci_net.specs.Net.{IsNet}
use Rattle.sci_reaction.specs.Schedule.{Entry, IsSchedule}
use Rattle.sci_run.specs.Laws.{AreLoopFree}
use Rattle.sci_places.specs.Flat.{start_of}
use Rattle.sci_places.proofs.Lists.{up_to}
use Rattle.sci_places.proofs.Outputs.{block_within, blocks_apart}
use Rattle.c_ast.specs.declared.Name.{Name}
use Rattle.c_ast.specs.Syntax.{Block, Function}
use Rattle.c_ast.specs.Events.{block_events}
use Rattle.c_mean.specs.Meaning.{World, Around, run_block, first_world}
use Rattle.c_mean.specs.Places.{Has}
use Rattle.sci_cgen_blocks.specs.Recipes.{scratch_of}
use Rattle.sci_cgen_blocks.specs.Texts.{values, states, masks, scratch_name, input_place, body_text}
use Rattle.sci_cgen_blocks.specs.Meant.{Holds, IsFed, IsApart, Answers, Senses}
use Rattle.sci_cgen_blocks.proofs.KindLaws.{cell_law, cell_reads_law}
use Rattle.sci_cgen_blocks.proofs.Bodies.{body_answers}
use Rattle.sci_cgen_blocks.proofs.Sensing.{sensor_takes, sensor_column, sensor_out, body_senses}
use Rattle.c_trim.specs.Trim.{is_kept}
use Rattle.c_trim.proofs.Named.{KeepsEvents, KeepsBodies, bodies_first, bodies_second, functions_kept, kept_again}
use Rattle.c_trim.proofs.Runs.{first_reads}
use Rattle.sci_program.specs.Program.{has_own, text_where, places_of, is_scheduled, scratch_count, functions_upto, other_functions, called_functions, event_function, full_program, program}
use Rattle.sci_program.proofs.Blank.{IsBlank, blank_first}
use Rattle.sci_program.proofs.Bodies.{enough_scratch}
use Rattle.sci_program.proofs.Parted.{own, blocks, sources}
use Rattle.sci_program.proofs.Sizes.{in_bounds}
use Rattle.sci_cgen_laws.specs.Places.{HasVariables, IsGiven, DoesBlock, NamesArrays}
use Rattle.sci_cgen_laws.proofs.Places.{starts_at, fed_by_other}
use Rattle.sci_cgen_laws.proofs.Using.{values_kept, states_kept, masks_kept, scratch_kept}

-- the variables that a program keeps
abbrev kept : Parts → List (List Entry) → Name → Bool
kept n rows = is_kept (full_program n rows)

-- those of one of the first functions are
upto_body : (keep : Name → Bool) (f : ℕ → Function) (m k : ℕ) → k < m → KeepsBodies keep (functions_upto f m) → KeepsEvents keep (block_events (f k).body)
upto_body keep f zero k l h = absurd (omega (arith, l))
upto_body keep f (suc m) k l h = elim (cases_eq k m) [
  | inl e ↦ subst (λ (j : ℕ). KeepsEvents keep (block_events (f j).body)) (sym e) (bodies_second keep (functions_upto f m) (f m ∷ []) h).0
  | inr q ↦ upto_body keep f m k (omega (arith, l, q)) (bodies_first keep (functions_upto f m) (f m ∷ []) h)
]

-- so are those of the text of a block's values, which is its function's
text_kept : (n : Parts) (rows : List (List Entry)) (b : ℕ) → IsBlock n b → is_scheduled rows b ≡ true
    → KeepsEvents (kept n rows) (block_events (body_text (spec_of n b) (places_of n b)))
text_kept n rows zero is has = absurd (omega (arith, is.least))
text_kept n rows (suc j) is has =
    let keep = kept n rows in
    let others = other_functions (has_own n rows) n in
    let called = bodies_first keep (called_functions n rows) (event_function (has_own n rows) n ∷ []) (functions_kept (full_program n rows)) in
    let front = bodies_first keep (blocks n rows ++ others) (sources n rows) called in
    let body = upto_body keep (own n rows) (length n.specs) j (omega (arith, is.most)) (bodies_first keep (blocks n rows) others front) in
    subst (λ (t : Bool). KeepsEvents keep (block_events (text_where t (body_text (spec_of n (suc j)) (places_of n (suc j)))))) has body

module _ (n : Parts) (rows : List (List Entry)) (net : IsNet n) (b : ℕ) (block : IsBlock n b) (has : is_scheduled rows b ≡ true) where
  -- ---- what is there

  blank : IsBlank n (scratch_count n rows (length n.specs)) [] (first_world (full_program n rows) [])
  blank = blank_first n rows []

  text : KeepsEvents (kept n rows) (block_events (body_text (spec_of n b) (places_of n b)))
  text = text_kept n rows b block has

  -- its texts name what the full program's name
  again : (x : Name) → kept n rows x ≡ true → is_kept (program n rows) x ≡ true
  again x h = kept_again (full_program n rows) x ∙ h

  pub names_arrays : NamesArrays n (program n rows) b
  names_arrays = record {
    values = λ some. again values (values_kept (kept n rows) (spec_of n b) (places_of n b) some text);
    states = λ some. again states (states_kept (kept n rows) (spec_of n b) (places_of n b) (net.typed_specs b block) some text);
    masks = λ looks. again masks (masks_kept (kept n rows) (spec_of n b) (places_of n b) (net.typed_specs b block) looks text);
  }

  module _ (w : World) (variables : HasVariables (program n rows) w) where
    scratch_there : (k : ℕ) → 1 ≤ k → k ≤ scratch_of (spec_of n b).kind (spec_of n b) → Has w (scratch_name k) 0
    scratch_there k lo hi =
        let enough = enough_scratch n rows b block has in
        let named = scratch_kept (kept n rows) (spec_of n b) (places_of n b) (net.typed_specs b block) text k lo hi in
        let zero_there = blank.scratch_names k lo (omega (arith, hi, enough)) in
        let first : Has (first_world (program n rows) []) (scratch_name k) 0
        = record { holds = pos 0; is = first_reads (full_program n rows) [] (scratch_name k) 0 named ∙ zero_there } in
        variables.there (scratch_name k) 0 first

    value_there : (e : ℕ) → e < total (spec_of n b).outs → Has w values (start_of n b + e)
    value_there e l =
        let fits = block_within n b block in
        let named = values_kept (kept n rows) (spec_of n b) (places_of n b) (omega (arith, l)) text in
        let zero_there = blank.values (start_of n b + e) (omega (arith, fits, l)) in
        let first : Has (first_world (program n rows) []) values (start_of n b + e)
        = record { holds = pos 0; is = first_reads (full_program n rows) [] values (start_of n b + e) named ∙ zero_there } in
        variables.there values (start_of n b + e) first

  holds : (x : List ℤ) (m : ℕ) (u : List ℤ) (w : World) → IsGiven n (program n rows) b x m u w
      → Holds (spec_of n b) (places_of n b) (IsFed (spec_of n b)) x m u w
  holds x m u w g = record {
    ins = λ k e a r f. g.ins k e a r f;
    state = λ i a. g.state i a;
    mask = g.mask;
    outs = λ e a. value_there w g.variables e a;
  }

  -- ---- an input with feedthrough comes from another block

  apart : AreLoopFree n → IsSchedule n rows → IsApart (spec_of n b) (places_of n b)
  apart free schedule k e l r through = elim (cases_lt c b) [
    | inl q ↦ let far = blocks_apart n c b leads.block block q in inl (omega (arith, far, place, inside))
    | inr q ↦
        let less : b < c = omega (arith, q, differ) in
        let far = blocks_apart n b c block leads.block less in
        inr (omega (arith, far, place))
  ]
    where
      within : IsInput n b (suc k)
      within = record { block = block; least = omega arith; most = omega (arith, l) }

      c : ℕ
      c = (wire_of n b (suc k)).block

      leads : IsOutput n (wire_of n b (suc k)).block (wire_of n b (suc k)).port
      leads = net.wired.wires_lead b (suc k) within

      differ : (wire_of n b (suc k)).block ≡ b → ⊥
      differ q = fed_by_other n net rows free schedule b k block has l through q

      place : input_place (places_of n b) k e
          ≡ start_of n (wire_of n b (suc k)).block + before (spec_of n (wire_of n b (suc k)).block).outs ((wire_of n b (suc k)).port - 1) + e
      place = ap (λ (j : ℕ). j + e) (starts_at n net b k block l)

      inside : before (spec_of n (wire_of n b (suc k)).block).outs ((wire_of n b (suc k)).port - 1) + e < total (spec_of n (wire_of n b (suc k)).block).outs
      inside = by_port (wire_of n b (suc k)).port refl
        where
          by_port : (p : ℕ) → (wire_of n b (suc k)).port ≡ p
              → before (spec_of n (wire_of n b (suc k)).block).outs (p - 1) + e < total (spec_of n (wire_of n b (suc k)).block).outs
          by_port zero q = absurd (let some = leads.least in omega (arith, some, q))
          by_port (suc j) q =
              let outs = (spec_of n (wire_of n b (suc k)).block).outs in
              let same : suc j - 1 ≡ j = omega arith in
              let size : elements (port_at outs j) ≡ elements (port_at (spec_of n b).ins k) =
              ap (λ (i : ℕ). elements (output_of n (wire_of n b (suc k)).block i)) (sym q) ∙ ap elements (net.joined b (suc k) within) in
              let most = leads.most in
              let fits = up_to outs j (omega (arith, most, q)) in
              subst (λ (i : ℕ). before outs i + e < total outs) (sym same) (omega (arith, fits, size, r))

  -- ---- a SENSOR

  sensing : (env : Around) (number c : ℕ) (w : World) → (spec_of n b).kind ≡ Sensor → column_of (spec_of n b) ≡ suc c → HasVariables (program n rows) w
      → Senses (places_of n b) c w (run_block env number (body_text (spec_of n b) (places_of n b)) w)
  sensing env number c w kind column variables =
      let own = sensor_column (spec_of n b) (net.typed_specs b block) kind in
      let there : column_of (spec_of n b) ≡ suc own.0 = ap unsigned_abs own.1.0 in
      let same : own.0 ≡ c = omega (arith, there, column) in
      let one = sensor_out (spec_of n b) (net.typed_specs b block) kind in
      let some = sensor_takes (spec_of n b).kind (spec_of n b) kind in
      let first : start_of n b + 0 ≡ start_of n b = omega arith in
      subst (λ (d : ℕ). Senses (places_of n b) d w (run_block env number (body_text (spec_of n b) (places_of n b)) w)) same
      (body_senses env (spec_of n b) (places_of n b) own.0 number w kind own.1.0
      (subst (λ (j : ℕ). Has w values j) first (value_there w variables 0 (omega (arith, one))))
      (scratch_there w variables 1 (omega arith) some))

  -- ---- the body

  pub does_block : AreLoopFree n → IsSchedule n rows → (body : Block) → body ≡ body_text (spec_of n b) (places_of n b) → DoesBlock n (program n rows) b body
  does_block free schedule body is = record {
    computes = λ env number x m u w other g.
        subst (λ (t : Block). Answers (spec_of n b) (places_of n b) w (out (spec_of n b) x m u) (run_block env number t w)) (sym is)
        (body_answers cell_law cell_reads_law env (spec_of n b) (places_of n b) x m u number w (net.typed_specs b block) other g.state_in_range
        g.mask_in_range g.ins_in_range (holds x m u w g) (scratch_there w g.variables) (in_bounds n net b block) (apart free schedule));
    senses = λ env number c w kind column variables.
        subst (λ (t : Block). Senses (places_of n b) c w (run_block env number t w)) (sym is) (sensing env number c w kind column variables);
  }
