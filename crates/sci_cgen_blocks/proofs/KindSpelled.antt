-- All numbers in the terms of a typed block are spelled, and its places are small.
use Rattle.std.proofs.Common.{arith, ◌≡◌, ◌≢◌, ◌<◌, ◌≤◌, ◌^◌, ℕ, inl, inr, pos, Bool, true, false, if◌then◌else◌, length, refl, sym, ap, ◌∙◌, subst}
use Rattle.std.proofs.lemmas.Int.{ints}
use Rattle.std.proofs.lemmas.Bool.{cases_lt}
use Rattle.sci_forms.specs.declared.Kind.{Kind}
use Rattle.sci_forms.specs.declared.Kind.TheVariants.{Sensor, Switch2, Select, Logic, EvtDly, EvtVarDly, IfThEl, ESelect}
use Rattle.sci_forms.specs.declared.spec.Spec.{Spec}
use Rattle.sci_forms.specs.Ports.{port_at, elements, total}
use Rattle.sci_forms.specs.Typed.{typed}
use Rattle.sci_forms.specs.Words.{param, state_len_of}
use Rattle.sci_kinds.specs.Asks.{Asks}
use Rattle.sci_kinds.proofs.LawProofs.{asks}
use Rattle.sci_cgen_blocks.specs.Terms.{IsSpelled, Way, input, each, all, WayFits}
use Rattle.sci_cgen_blocks.specs.Recipes.{plain, recipe_of, worked_of, part_of, is_alike, scratch_of, switches, way_of, next_term, next_alike, next_along, delay_term, branch_term, fed, from_value}
use Rattle.sci_cgen_blocks.specs.Texts.{Places, values_text, way_text}
use Rattle.sci_cgen_blocks.specs.Plain.{AreSpelled, IsRecipeSpelled, AreFew}
use Rattle.sci_cgen_blocks.proofs.Bodies.{values_are}
use Rattle.sci_cgen_blocks.proofs.Bounds.{works_on}
use Rattle.sci_cgen_blocks.proofs.KindLaws.{cell_reads_law}
use Rattle.sci_cgen_blocks.proofs.NextStates.{next_reads_law, next_along_reads_law}
use Rattle.sci_cgen_blocks.proofs.KindParts.{fits_spelled, recipe_spelled}

pub way_of_alike : (k : Kind) (s : Spec) → k ≢ Switch2 → k ≢ Select → k ≢ Logic → is_alike k s ≡ true → way_of k s ≡ all (worked_of k s) (recipe_of k s)
way_of_alike Switch2 s h i j e = absurd (h refl)
way_of_alike Select s h i j e = absurd (i refl)
way_of_alike Logic s h i j e = absurd (j refl)
way_of_alike k s h i j e = ap (λ (b : Bool). if b then all (worked_of k s) (recipe_of k s) else each (λ e. plain (part_of k s e))) e

pub way_of_parts : (k : Kind) (s : Spec) → k ≢ Switch2 → k ≢ Select → k ≢ Logic → is_alike k s ≡ false → way_of k s ≡ each (λ e. plain (part_of k s e))
way_of_parts Switch2 s h i j e = absurd (h refl)
way_of_parts Select s h i j e = absurd (i refl)
way_of_parts Logic s h i j e = absurd (j refl)
way_of_parts k s h i j e = ap (λ (b : Bool). if b then all (worked_of k s) (recipe_of k s) else each (λ e. plain (part_of k s e))) e

-- of one recipe for all elements, where there is one
pub recipe_spelled_all : (s : Spec) → typed s ≡ true → s.kind ≢ Sensor → way_of s.kind s ≡ all (worked_of s.kind s) (recipe_of s.kind s) → 0 < total s.outs
    → IsRecipeSpelled (recipe_of s.kind s)
recipe_spelled_all s h n single some =
    let fits : WayFits (fed s) (total s.outs) (all (worked_of s.kind s) (recipe_of s.kind s)) 8 =
    subst (λ (y : Way). WayFits (fed s) (total s.outs) y 8) single (cell_reads_law s h n) in
    recipe_spelled (works_on (fed s) (worked_of s.kind s) 0) (recipe_of s.kind s) (fits.2 0 some)

-- of a term for each
pub part_spelled : (s : Spec) → typed s ≡ true → s.kind ≢ Sensor → way_of s.kind s ≡ each (λ e. plain (part_of s.kind s e)) → (e : ℕ) → e < total s.outs
    → AreSpelled (part_of s.kind s e)
part_spelled s h n separate e l =
    let fits : WayFits (fed s) (total s.outs) (each (λ e. plain (part_of s.kind s e))) 8 =
    subst (λ (y : Way). WayFits (fed s) (total s.outs) y 8) separate (cell_reads_law s h n) in
    fits_spelled (works_on (fed s) (scratch_of s.kind s) e) 32 (part_of s.kind s e) (fits e l).1

-- the test of a switch
pub switch_spelled : (s : Spec) → typed s ≡ true → s.kind ≡ Switch2 → AreSpelled (switches (param s 0) (param s 1) (input 1 0))
switch_spelled s h is =
    let fits : WayFits (fed s) (total s.outs) (way_of Switch2 s) 8 =
    subst (λ (k : Kind). WayFits (fed s) (total s.outs) (way_of k s) 8) is (cell_reads_law s h own) in
    fits_spelled (fed s) 32 (switches (param s 0) (param s 1) (input 1 0)) fits.0
  where
    own : s.kind ≢ Sensor
    own e = let other : Switch2 ≡ Sensor = sym is ∙ e in cc

pub next_spelled : (s : Spec) → typed s ≡ true → (i : ℕ) → i < state_len_of s.kind s → AreSpelled (next_term s.kind s i)
next_spelled s h i l = fits_spelled (from_value s i) 32 (next_term s.kind s i) (next_reads_law s h i l)

pub along_spelled : (s : Spec) → typed s ≡ true → 0 < next_alike s.kind s → AreSpelled (next_along s.kind s)
along_spelled s h some = fits_spelled (works_on (from_value s 0) 0 0) 32 (next_along s.kind s) ((next_along_reads_law s h).1 0 some)

natural_spelled : (n : ℕ) → n ≤ 4294967296 → IsSpelled (pos n)
natural_spelled n h = (omega (arith, ints), omega (arith, ints, h))

delay_by_kind : (k : Kind) (s : Spec) → Asks k s → AreSpelled (delay_term k s)
delay_by_kind EvtDly s a = (omega (arith, ints, a.2), omega (arith, ints, a.3))
delay_by_kind EvtVarDly s a = (
  (
    (tt, natural_spelled 0 (omega arith)),
    (((tt, natural_spelled 2147483647 (omega arith)), tt), ((tt, natural_spelled 2147483647 (omega arith)), natural_spelled 2147483647 (omega arith))),
  ),
  (tt, natural_spelled 0 (omega arith)),
)
delay_by_kind _ s a = (omega (arith, ints), omega (arith, ints))

pub delay_spelled : (s : Spec) → typed s ≡ true → AreSpelled (delay_term s.kind s)
delay_spelled s h = delay_by_kind s.kind s (asks s h)

branch_by_kind : (k : Kind) (s : Spec) → Asks k s → AreSpelled (branch_term k s)
branch_by_kind IfThEl s a = (natural_spelled 2 (omega arith), (tt, natural_spelled 0 (omega arith)))
branch_by_kind ESelect s a =
    let few : s.evtout ≤ 4294967296 = omega (arith, a.3) in (
      ((tt, natural_spelled 1 (omega arith)), (((tt, natural_spelled s.evtout few), tt), ((tt, natural_spelled s.evtout few), natural_spelled s.evtout few))),
      (tt, natural_spelled 1 (omega arith)),
    )
branch_by_kind _ s a = natural_spelled 1 (omega arith)

pub branch_spelled : (s : Spec) → typed s ≡ true → AreSpelled (branch_term s.kind s)
branch_spelled s h = branch_by_kind s.kind s (asks s h)

-- ---- texts of all elements

pub values_of_alike : (k : Kind) (s : Spec) (p : Places) → k ≢ Sensor → way_of k s ≡ all (worked_of k s) (recipe_of k s)
    → values_text k s p ≡ way_text p (total s.outs) (all (worked_of k s) (recipe_of k s))
values_of_alike k s p n single = values_are k s p n ∙ ap (way_text p (total s.outs)) single

pub values_of_parts : (k : Kind) (s : Spec) (p : Places) → k ≢ Sensor → way_of k s ≡ each (λ e. plain (part_of k s e))
    → values_text k s p ≡ way_text p (total s.outs) (each (λ e. plain (part_of k s e)))
values_of_parts k s p n separate = values_are k s p n ∙ ap (way_text p (total s.outs)) separate

-- an input's elements have places, so they are few
pub few_elements : (s : Spec) (p : Places) → AreFew s p → (k : ℕ) → k < length s.ins → elements (port_at s.ins k) ≤ 2 ^ 20
few_elements s p f k l = elim (cases_lt (2 ^ 20) (elements (port_at s.ins k))) [ inl h ↦ absurd (omega (arith, f.ins k (2 ^ 20) l h)) | inr h ↦ h ]
