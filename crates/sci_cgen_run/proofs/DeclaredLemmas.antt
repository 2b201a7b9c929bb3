-- Counts over the blocks of a net.
use Rattle.std.proofs.Common.{arith, ◌≡◌, ℕ, zero, suc, ◌+◌, ◌-◌, ◌<◌, ◌≤◌, List, [], ◌∷◌, length, drop, max, Bool, false, ◌||◌, slice_index_or, if◌then◌else◌, refl, sym, ap, ap₂, ◌∙◌}
use Rattle.std.specs.List.{list_any}
use Rattle.std.proofs.lemmas.List.{drop_more}
use Rattle.sci_forms.specs.declared.ports.Port.{Port}
use Rattle.sci_forms.specs.declared.spec.Spec.{Spec}
use Rattle.sci_forms.specs.Ports.{total, port_at, no_port}
use Rattle.sci_forms.specs.Words.{state_len_of}
use Rattle.sci_net.specs.Parts.{Parts, IsBlock, numbered, spec_of, no_spec}
use Rattle.sci_net.specs.Net.{IsNet, all_elements}
use Rattle.sci_net.proofs.Numbered.{numbered_next}
use Rattle.sci_cgen_blocks.proofs.Written.{all_dropped}
use Rattle.sci_reaction.specs.Schedule.{Entry}
use Rattle.sci_cgen_blocks.specs.Recipes.{scratch_of}
use Rattle.sci_program.specs.Program.{states_before, scratch_count, is_scheduled}
use Rattle.sci_cgen_base.specs.Layouts.{AreMarked}
use Rattle.sci_program.proofs.Sizes.{few_all_states, state_within}

-- ---- a test of all specs

-- and of all ports
port_more : (f : Port → Bool) (ps : List Port) (i : ℕ) → i < length ps → list_any f (drop i ps) ≡ (f (port_at ps i) || list_any f (drop (i + 1) ps))
port_more f ps i l = ap (list_any f) (drop_more ps i no_port l)

pub port_passed : (f : Port → Bool) (ps : List Port) (i : ℕ) (all : Bool) → i < length ps → list_any f (drop i ps) ≡ all → f (port_at ps i) ≡ false
    → list_any f (drop (i + 1) ps) ≡ all
port_passed f ps i all l so_far here = sym (ap (λ b. b || list_any f (drop (i + 1) ps)) here) ∙ sym (port_more f ps i l) ∙ so_far

-- ---- sums

-- the blocks from number i on
pub elements_more : (ss : List Spec) (i : ℕ) → i < length ss
    → all_elements (drop i ss) ≡ total (numbered no_spec ss (i + 1)).outs + all_elements (drop (i + 1) ss)
elements_more ss i l =
    ap all_elements (drop_more ss i no_spec l) ∙ ap (λ (s : Spec). total s.outs + all_elements (drop (i + 1) ss)) (sym (numbered_next no_spec ss i))

pub elements_end : (ss : List Spec) (i : ℕ) → length ss ≤ i → all_elements (drop i ss) ≡ 0
elements_end ss i l = ap all_elements (all_dropped ss i l)

no_states : (ss : List Spec) → states_before ss 0 ≡ 0
no_states [] = refl
no_states (s ∷ ss) = refl

-- the states of the first blocks
states_after : (ss : List Spec) (k : ℕ) → k < length ss
    → states_before ss (suc k) ≡ states_before ss k + state_len_of (slice_index_or ss k no_spec).kind (slice_index_or ss k no_spec)
states_after [] k l = absurd (omega (arith, l))
states_after (s ∷ ss) zero l = let none = no_states ss in omega (arith, none)
states_after (s ∷ ss) (suc k) l = let rest = states_after ss k (omega (arith, l)) in omega (arith, rest)

pub states_more : (ss : List Spec) (i : ℕ) → i < length ss
    → states_before ss (i + 1) ≡ states_before ss i + state_len_of (numbered no_spec ss (i + 1)).kind (numbered no_spec ss (i + 1))
states_more ss i l = let e : i + 1 ≡ suc i = omega arith in rw e (states_after ss i l)

pub states_few : (n : Parts) → IsNet n → (i : ℕ) → i < length n.specs
    → states_before n.specs i + state_len_of (spec_of n (i + 1)).kind (spec_of n (i + 1)) ≤ 589824
states_few n net i l =
    let block : IsBlock n (i + 1) = record { least = omega arith; most = omega (arith, l) } in
    let e : i + 1 - 1 ≡ i = omega arith in
    let within = state_within n net (i + 1) block in
    let few = few_all_states n net in
    let start : states_before n.specs (i + 1 - 1) ≡ states_before n.specs i = ap (states_before n.specs) e in
    omega (arith, start, within, few)

-- ---- scratch

-- one block more, where it is marked
pub scratch_more : (n : Parts) (rows : List (List Entry)) (marks : List Bool) (k count here most : ℕ) → AreMarked n rows marks → k < length n.specs
    → count ≡ scratch_count n rows k → here ≡ (if numbered false marks (k + 1) then scratch_of (spec_of n (k + 1)).kind (spec_of n (k + 1)) else 0)
    → most ≡ max count here → most ≡ scratch_count n rows (k + 1)
scratch_more n rows marks k count here most are l so_far is greatest =
    let next : k + 1 ≡ suc k = omega arith in
    let block : IsBlock n (k + 1) = record { least = omega arith; most = omega (arith, l) } in
    let taken = λ (b : ℕ). if is_scheduled rows b then scratch_of (spec_of n b).kind (spec_of n b) else 0 in
    let marked : here ≡ taken (k + 1)
    = is ∙ ap (λ t. if t then scratch_of (spec_of n (k + 1)).kind (spec_of n (k + 1)) else 0) (are.each (k + 1) block) in
    greatest ∙ ap₂ max so_far (marked ∙ ap taken next) ∙ ap (scratch_count n rows) (sym next)
