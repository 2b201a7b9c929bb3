-- The text of a SENSOR.
use Rattle.std.proofs.Common.{◌≡◌, ℕ, zero, suc, ◌<◌, ◌≤◌, ◌⊎◌, inl, inr, ◌≤ℤ◌, Option, Some, None, Bool, true, false, if◌then◌else◌, refl, sym, ap, ◌∙◌, subst, arith, ℤ, pos, negsuc, List, [], ◌∷◌, length, slice_get, slice_set, true≢false}
use Rattle.std.specs.Prelude.{◌≢◌, unwrap_or}
use Rattle.std.proofs.lemmas.Int.{ints}
use Rattle.std.proofs.lemmas.Option.{unwrap_or-slice_get}
use Rattle.sci_base.specs.declared.observation.StopWord.TheVariants.{Input}
use Rattle.sci_forms.specs.declared.Kind.{Kind}
use Rattle.sci_forms.specs.declared.Kind.TheVariants.{Sensor}
use Rattle.sci_forms.specs.declared.spec.Spec.{Spec}
use Rattle.sci_forms.specs.Typed.{typed}
use Rattle.sci_forms.specs.Words.{param, out_type, size}
use Rattle.sci_forms.specs.Ports.{total}
use Rattle.sci_forms.proofs.TestLemmas.{nat_same, between_told}
use Rattle.sci_kinds.specs.Asks.{Asks}
use Rattle.sci_kinds.proofs.Elements.{total_one}
use Rattle.sci_kinds.proofs.TypedLemmas.{Tests, tests}
use Rattle.sci_kinds.proofs.LawProofs.{asks}
use Rattle.c_ast.specs.Syntax.{num, var, cell, scalar, input, ask, choice, Block, done, next}
use Rattle.c_mean.specs.Meaning.{World, Ran, then_run, truth, has_left, Around, run_block}
use Rattle.c_mean.specs.Places.{get, Has, Puts, Takes, KeepsPlaces, is_scratch}
use Rattle.c_mean.specs.Runs.{Stops}
use Rattle.c_mean.proofs.Memory.{put_there, has_puts, keeps_spare, keeps_cell, keeps_places, places_then}
use Rattle.c_mean.proofs.Steps.{more_runs, input_runs, if_runs, else_runs, done_runs, done_leads, then_stops, stop_stops}
use Rattle.sci_cgen_blocks.specs.Terms.{is_looped}
use Rattle.sci_cgen_blocks.specs.Recipes.{scratch_of}
use Rattle.sci_cgen_blocks.specs.Texts.{Places, values, scratch_name, stop_text, sensor_text, values_text, body_text}
use Rattle.sci_cgen_blocks.specs.Meant.{TakesFirst, Senses, takes_input}

-- what is taken is written to one place, and all else stays
takes_keeps : (w w' : World) (o c : ℕ) (v : ℤ) (vs : List ℤ) → Takes w values o c v vs w'
    → KeepsPlaces is_scratch values o 1 w w' × (get w' values o ≡ Some v)
takes_keeps w w' o c v vs t =
    let before : World = record { slots = w'.slots; left = w.left } in
    let put : Puts w values o v before = record { places = t.places; left = refl } in
    let k = keeps_cell is_scratch values o 1 w before o v (omega arith) (omega arith) put in
    (record { same = k.same; there = λ y j h. let g = k.there y j h in record { holds = g.holds; is = g.is } }, put_there w before values o v put)

module _ (env : Around) (p : Places) (c : ℕ) (w : World) (room : Has w values p.outs) (scratch : Has w (scratch_name 1) 0) where
  abbrev taking : Block
  taking = next (ask (cell values (num (pos p.outs))) (input (num (pos (suc c))))) done

  -- behind the question
  abbrev rest : Block
  rest = next (choice (var (scratch_name 1)) taking (stop_text 2 p.number)) done

  keeps_one : (w' : World) (v : ℤ) → Puts w (scratch_name 1) 0 v w' → KeepsPlaces is_scratch values p.outs 1 w w'
  keeps_one w' v q = keeps_places (keeps_spare is_scratch values p.outs 1 w w' (scratch_name 1) 0 v refl q)

  ends : (k : ℕ) (w' : World) → Puts w (scratch_name 1) 0 (pos 0) w' → Stops (run_block env k rest w') Input p.number
  ends k w' q =
      else_runs (λ r. Stops r Input p.number) env k (var (scratch_name 1)) taking (stop_text 2 p.number) done w'
      (put_there w w' (scratch_name 1) 0 (pos 0) q) (λ a m. then_stops (run_block env a (stop_text 2 p.number) w') (run_block env m done) Input p.number
      (stop_stops env a (num (pos 2)) (num (pos p.number)) (num (pos 0)) done w' (pos 2) Input p.number refl refl refl refl))

  takes : (k : ℕ) (w' : World) (v : ℤ) (vs : List ℤ) → slice_get w.left c ≡ Some (v ∷ vs) → Puts w (scratch_name 1) 0 (pos 1) w'
      → TakesFirst p c (v ∷ vs) w (run_block env k rest w')
  takes k w' v vs e q =
      if_runs (TakesFirst p c (v ∷ vs) w) env k (var (scratch_name 1)) taking (stop_text 2 p.number) done w'
      (put_there w w' (scratch_name 1) 0 (pos 1) q) (λ a m.
      input_runs (λ r. TakesFirst p c (v ∷ vs) w (then_run r (run_block env m done))) env a (cell values (num (pos p.outs))) (num (pos (suc c))) done w' values
      p.outs c v vs (refl, refl) refl (ap (λ (l : List (List ℤ)). slice_get l c) q.left ∙ e) (has_puts w w' (scratch_name 1) 0 (pos 1) values p.outs q room)
      (λ k' w'' t. done_runs (TakesFirst p c (v ∷ vs) w) env k' w'' (run_block env m done)
      (let kept = takes_keeps w' w'' p.outs c v vs t in
      done_leads env m w'' (places_then (keeps_one w' (pos 1) q) kept.0, kept.1, t.left ∙ ap (λ (l : List (List ℤ)). slice_set l c vs) q.left))))

  -- The text takes the next value of the column, or stops.
  pub sensor_runs : (k : ℕ) → Senses p c w (run_block env k (sensor_text p (pos (suc c))) w)
  sensor_runs k =
      subst (λ (vs : List ℤ). TakesFirst p c vs w (run_block env k (sensor_text p (pos (suc c))) w)) (unwrap_or-slice_get w.left c [])
      (by_column (slice_get w.left c) refl)
    where
      asks : (Q : Ran → Type 0) (o : Option (List ℤ)) → slice_get w.left c ≡ o
          → ((k : ℕ) (w' : World) → Puts w (scratch_name 1) 0 (truth (has_left o)) w' → Q (run_block env k rest w'))
          → Q (run_block env k (sensor_text p (pos (suc c))) w)
      asks Q o e go =
          more_runs Q env k (scalar (scratch_name 1)) (num (pos (suc c))) rest w (scratch_name 1) 0 (pos (suc c)) (refl, refl) refl scratch
          (λ k' w' q. go k' w' (subst (λ (o : Option (List ℤ)). Puts w (scratch_name 1) 0 (truth (has_left o)) w') e q))

      by_column : (o : Option (List ℤ)) → slice_get w.left c ≡ o → TakesFirst p c (unwrap_or o []) w (run_block env k (sensor_text p (pos (suc c))) w)
      by_column None e = asks (λ r. Stops r Input p.number) None e ends
      by_column (Some []) e = asks (λ r. Stops r Input p.number) (Some []) e ends
      by_column (Some (v ∷ vs)) e = asks (TakesFirst p c (v ∷ vs) w) (Some (v ∷ vs)) e (λ k' w' q. takes k' w' v vs e q)

-- It takes one scratch number at least.
pub sensor_takes : (c : Kind) (s : Spec) → c ≡ Sensor → 1 ≤ scratch_of c s
sensor_takes c s e = subst (λ (k : Kind). 1 ≤ scratch_of k s) (sym e) (by_test (is_looped (total s.outs)))
  where
    by_test : (b : Bool) → 1 ≤ (if b then 2 else 1)
    by_test true = omega arith
    by_test false = omega arith

pub sensor_values : (c : Kind) (s : Spec) (p : Places) → c ≡ Sensor → values_text c s p ≡ sensor_text p (param s 0)
sensor_values c s p e = rw e refl

-- So does a SENSOR's, whose parameter counts columns from 1.
pub body_senses : (env : Around) (s : Spec) (p : Places) (c k : ℕ) (w : World) → s.kind ≡ Sensor → param s 0 ≡ pos (suc c) → Has w values p.outs
    → Has w (scratch_name 1) 0 → Senses p c w (run_block env k (body_text s p) w)
body_senses env s p c k w kind column room scratch =
    subst (λ (b : Block). Senses p c w (run_block env k b w)) (sym (sensor_values s.kind s p kind ∙ ap (sensor_text p) column))
    (sensor_runs env p c w room scratch k)

-- ---- what a typed one asks

pub is_kind : (c : Kind) → (c ≡ Sensor) ⊎ (c ≢ Sensor)
is_kind Sensor = inl refl
is_kind _ = inr (λ e. true≢false (sym (ap takes_input e)))

-- its column, counted from 0
pub sensor_column : (s : Spec) → typed s ≡ true → s.kind ≡ Sensor → (c : ℕ) × ((param s 0 ≡ pos (suc c)) × (c < 255))
sensor_column s is_typed kind =
    let t = subst (λ (c : Kind). Tests c s) kind (tests s.kind s is_typed) in
    let length_is : length s.params ≡ 1 = nat_same (length s.params) 1 t.params_len in
    let range = between_told (pos 1) (pos 255) (param s 0) (t.params 0 (omega (arith, length_is))) in
    by_number (param s 0) range.0 range.1
  where
    by_number : (z : ℤ) → pos 1 ≤ℤ z → z ≤ℤ pos 255 → (c : ℕ) × ((z ≡ pos (suc c)) × (c < 255))
    by_number (pos zero) l r = absurd (omega (arith, ints, l))
    by_number (pos (suc c)) l r = (c, (refl, omega (arith, ints, r)))
    by_number (negsuc n) l r = absurd (omega (arith, ints, l))

-- its one element
pub sensor_out : (s : Spec) → typed s ≡ true → s.kind ≡ Sensor → total s.outs ≡ 1
sensor_out s is_typed kind =
    let a = subst (λ (c : Kind). Asks c s) kind (asks s is_typed) in total_one s.outs (out_type s) (size s) a.0.outs_alike a.0.one ∙ a.1
