-- Blocks of a generated program work on places of their own: the lemmas, and the texts of their functions.
use Rattle.std.proofs.Common.{◌≡◌, ◌≢◌, ℕ, zero, suc, ◌+◌, ◌-◌, ◌<◌, ◌≤◌, inl, inr, List, [], ◌∷◌, ◌++◌, length, map, slice_index_or, Contains, Bool, true, false, ◌||◌, not, nat_eq, nat_lt, if◌then◌else◌, refl, sym, ap, ◌∙◌, subst, arith, true≢false, eq-eqb, ne_eqb}
use Rattle.std.specs.List.{list_any}
use Rattle.std.proofs.lemmas.Bool.{cases_eq, cases_lt, eqb-true}
use Rattle.std.proofs.lemmas.List.{get_or-map, length-map}
use Rattle.sci_base.specs.Lists.{truth_at}
use Rattle.sci_forms.specs.declared.spec.Spec.{Spec}
use Rattle.sci_forms.specs.Ports.{total}
use Rattle.sci_forms.specs.Words.{state_len_of}
use Rattle.sci_net.specs.Parts.{Parts, IsBlock, IsInput, numbered, no_wire, no_spec, spec_of, wire_of}
use Rattle.sci_net.specs.Net.{IsNet}
use Rattle.sci_net.specs.Sources.{sources_of, source_of}
use Rattle.sci_reaction.specs.Links.{SuppliesThrough}
use Rattle.sci_reaction.specs.Active.{Possible}
use Rattle.sci_reaction.specs.Depends.{Depends}
use Rattle.sci_reaction.specs.Schedule.{Entry, IsSchedule, blocks_of}
use Rattle.sci_reaction.proofs.OneResult.{need_precedes, irreflexive}
use Rattle.sci_run.specs.Laws.{AreLoopFree}
use Rattle.sci_span.specs.declared.span.Span.{Span}
use Rattle.sci_places.specs.Layout.{output_span}
use Rattle.sci_span.specs.Values.{no_span}
use Rattle.sci_places.proofs.Outputs.{blocks_apart}
use Rattle.c_ast.specs.declared.Name.{Name}
use Rattle.c_ast.specs.Syntax.{Function}
use Rattle.c_mean.specs.Meaning.{same_name}
use Rattle.sci_cgen_blocks.specs.Texts.{body_text}
use Rattle.sci_program.specs.Names.{block_name}
use Rattle.sci_program.specs.Program.{has_own, text_where, port_count, places_of, states_before, is_scheduled, block_function, source_function, functions_upto, functions_where, other_functions, called_functions, event_function, functions}
use Rattle.sci_program.specs.Laws.{named_so}
use Rattle.sci_program.proofs.Parted.{own, blocks, sources, settle_function, clear_function, choose_function}
use Rattle.sci_program.proofs.Sizes.{in_bounds}
use Rattle.sci_cgen_laws.specs.Places.{AreApart}
use Rattle.sci_cgen_laws.specs.Laws.{ProgramHasTexts}

-- ---- the function of a block's name

module _ (n : Parts) (rows : List (List Entry)) (b : ℕ) where
  abbrev name : Name
  name = block_name b

  named_both : (xs ys : List Function) → named_so name (xs ++ ys) ≡ named_so name xs ++ named_so name ys
  named_both [] ys = refl
  named_both (x ∷ xs) ys = by_name (same_name x.name name) (named_both xs ys)
    where
      by_name : (t : Bool) → named_so name (xs ++ ys) ≡ named_so name xs ++ named_so name ys
          → (if t then x ∷ named_so name (xs ++ ys) else named_so name (xs ++ ys))
          ≡ (if t then x ∷ named_so name xs else named_so name xs) ++ named_so name ys
      by_name true h = ap (λ (l : List Function). x ∷ l) h
      by_name false h = h

  other_named : (alone : Bool) → named_so name (other_functions alone n) ≡ []
  other_named alone = by_tests alone (nat_lt 0 (port_count n))
    where
      by_tests : (o t : Bool) → named_so name (functions_where (not o) (settle_function n ∷ functions_where t (clear_function n ∷ []))
          ++ functions_where t (choose_function n ∷ [])) ≡ []
      by_tests true true = refl
      by_tests true false = refl
      by_tests false true = refl
      by_tests false false = refl

  sources_named : (k : ℕ) → named_so name (functions_upto (source_function n rows) k) ≡ []
  sources_named zero = refl
  sources_named (suc k) = named_both (functions_upto (source_function n rows) k) (source_function n rows k ∷ []) ∙ rw (sources_named k) refl

  one_named : (j : ℕ) (t : Bool) → nat_eq (suc j) b ≡ t → named_so name (own n rows j ∷ []) ≡ (if t then own n rows j ∷ [] else [])
  one_named j t e = ap (λ (q : Bool). if q then own n rows j ∷ [] else []) e

  before_named : (k : ℕ) → k < b → named_so name (functions_upto (own n rows) k) ≡ []
  before_named zero l = refl
  before_named (suc k) l =
      named_both (functions_upto (own n rows) k) (own n rows k ∷ [])
      ∙ rw (before_named k (omega (arith, l)), one_named k false (ne_eqb (suc k) b (λ e. omega (arith, e, l)))) refl

  blocks_named : 1 ≤ b → (k : ℕ) → b ≤ k → named_so name (functions_upto (own n rows) k) ≡ block_function n rows b ∷ []
  blocks_named lo zero l = absurd (omega (arith, lo, l))
  blocks_named lo (suc k) l = named_both (functions_upto (own n rows) k) (own n rows k ∷ []) ∙ elim (cases_eq (suc k) b) [
    | inl e ↦ rw (before_named k (omega (arith, e)), one_named k true (eq-eqb (suc k) b e)) (ap (λ (c : ℕ). block_function n rows c ∷ []) e)
    | inr q ↦ rw (blocks_named lo k (omega (arith, q, l)), one_named k false (ne_eqb (suc k) b q)) refl
  ]

  all_named : IsBlock n b → named_so name (functions n rows) ≡ block_function n rows b ∷ []
  all_named is =
      let alone = has_own n rows in
      named_both (called_functions n rows) (event_function alone n ∷ [])
      ∙ (ap (λ (l : List Function). l ++ []) (named_both (blocks n rows ++ other_functions alone n) (sources n rows))
      ∙ (ap (λ (l : List Function). (l ++ named_so name (sources n rows)) ++ []) (named_both (blocks n rows) (other_functions alone n))
      ∙ rw (blocks_named is.least (length n.specs) is.most, other_named (has_own n rows), sources_named (length (sources_of n))) refl))

  only_one : (g f : Function) → Contains (g ∷ []) f → g ≡ f
  only_one g f (zero, l, e) = e
  only_one g f (suc i, l, e) = absurd (omega (arith, l))

  pub body_is : (f : Function) → IsBlock n b → is_scheduled rows b ≡ true → Contains (named_so name (functions n rows)) f
      → f.body ≡ body_text (spec_of n b) (places_of n b)
  body_is f is has c =
      let same : block_function n rows b ≡ f = only_one (block_function n rows b) f (subst (λ (l : List Function). Contains l f) (all_named is) c) in
      ap (λ (g : Function). g.body) (sym same) ∙ ap (λ (t : Bool). text_where t (body_text (spec_of n b) (places_of n b))) has

-- ---- blocks that the schedule has

-- one that passes is at some place
passing : {A : Type 0} (p : A → Bool) (xs : List A) (d : A) → list_any p xs ≡ true → (k : ℕ) × (k < length xs) × (p (slice_index_or xs k d) ≡ true)
passing p [] d h = absurd (true≢false (sym h))
passing p (x ∷ xs) d h = by_first (p x) refl h (λ g. passing p xs d g)
  where
    by_first : (t : Bool) → p x ≡ t → t || list_any p xs ≡ true
        → (list_any p xs ≡ true → (k : ℕ) × (k < length xs) × (p (slice_index_or xs k d) ≡ true))
        → (k : ℕ) × (k < length (x ∷ xs)) × (p (slice_index_or (x ∷ xs) k d) ≡ true)
    by_first true e g rest = (0, omega arith, e)
    by_first false e g rest = let more = rest g in (suc more.0, let l = more.1 in omega (arith, l), more.2)

-- a source may activate it
may_be_active : (n : Parts) (rows : List (List Entry)) → IsSchedule n rows → (b : ℕ) → is_scheduled rows b ≡ true
    → (k : ℕ) × (k < length (sources_of n)) × Possible n (source_of n k) b
may_be_active n rows schedule b has =
    let row = passing (λ row. list_any (nat_eq b) (blocks_of row)) rows [] has in
    let l = row.1 in
    let entry = passing (nat_eq b) (blocks_of (slice_index_or rows row.0 [])) b row.2 in
    let there : Contains (blocks_of (slice_index_or rows row.0 [])) b = (entry.0, entry.1, sym (eqb-true b _ entry.2)) in
    (row.0, omega (arith, l, schedule.enough), ((schedule.each row.0 l).exactly b).0 there)

-- ---- places

states_apart : (ss : List Spec) (i k : ℕ) → i < k → k ≤ length ss
    → states_before ss i + state_len_of (slice_index_or ss i no_spec).kind (slice_index_or ss i no_spec) ≤ states_before ss k
states_apart [] i k l h = absurd (omega (arith, l, h))
states_apart (s ∷ ss) i zero l h = absurd (omega (arith, l))
states_apart (s ∷ ss) zero (suc k) l h = omega arith
states_apart (s ∷ ss) (suc i) (suc k) l h = let rest = states_apart ss i k (omega (arith, l)) (omega (arith, h)) in omega (arith, rest)

module _ (n : Parts) where
  -- the states of a block end before those of the next begin
  states_end : (b c : ℕ) → IsBlock n b → IsBlock n c → b < c
      → (places_of n b).state + state_len_of (spec_of n b).kind (spec_of n b) ≤ (places_of n c).state
  states_end zero c is has l = absurd (omega (arith, is.least))
  states_end (suc i) zero is has l = absurd (omega (arith, l))
  states_end (suc i) (suc k) is has l =
      let first : i ≡ suc i - 1 = omega arith in
      let next : k ≡ suc k - 1 = omega arith in
      let most = has.most in
      let len = state_len_of (spec_of n (suc i)).kind (spec_of n (suc i)) in
      subst (λ (j : ℕ). states_before n.specs j + len ≤ (places_of n (suc k)).state) first
      (subst (λ (j : ℕ). states_before n.specs i + len ≤ states_before n.specs j) next (states_apart n.specs i k (omega (arith, l)) (omega (arith, most))))

  pub outs_of : (b c : ℕ) → IsBlock n b → IsBlock n c → b ≢ c
      → AreApart (places_of n b).outs (total (spec_of n b).outs) (places_of n c).outs (total (spec_of n c).outs)
  outs_of b c is has differ = elim (cases_lt b c) [
    | inl l ↦ inl (blocks_apart n b c is has l)
    | inr l ↦ inr (blocks_apart n c b has is (omega (arith, l, differ)))
  ]

  pub states_of : (b c : ℕ) → IsBlock n b → IsBlock n c → b ≢ c
      → AreApart (places_of n b).state (state_len_of (spec_of n b).kind (spec_of n b)) (places_of n c).state (state_len_of (spec_of n c).kind (spec_of n c))
  states_of b c is has differ = elim (cases_lt b c) [
    | inl l ↦ inl (states_end b c is has l)
    | inr l ↦ inr (states_end c b has is (omega (arith, l, differ)))
  ]

  pub masks_of : (b c : ℕ) → IsBlock n b → IsBlock n c → b ≢ c → (places_of n b).mask ≢ (places_of n c).mask
  masks_of b c is has differ e = differ (let least = is.least in let other = has.least in omega (arith, e, least, other))

-- ---- inputs

module _ (n : Parts) (net : IsNet n) where
  pub starts_at : (b k : ℕ) → IsBlock n b → k < length (spec_of n b).ins → slice_index_or (places_of n b).ins k 0 ≡ (output_span n (wire_of n b (suc k))).start
  starts_at b k block l =
      let ws = numbered [] n.wires b in
      let each = net.wired.one_wire_each b block in
      let all = length-map ws (output_span n) in
      get_or-map (λ (p : Span). p.start) (map (output_span n) ws) k no_span 0 (omega (arith, l, each, all))
      ∙ ap (λ (p : Span). p.start) (get_or-map (output_span n) ws k no_wire no_span (omega (arith, l, each)))

  pub fed_by_other : (rows : List (List Entry)) → AreLoopFree n → IsSchedule n rows → (b k : ℕ) → IsBlock n b → is_scheduled rows b ≡ true
      → k < length (spec_of n b).ins → truth_at (spec_of n b).feed k ≡ true → (wire_of n b (suc k)).block ≢ b
  fed_by_other rows free schedule b k block has l through same =
      let may = may_be_active n rows schedule b has in
      let s = source_of n may.0 in
      let within : IsInput n b (suc k) = record { block = block; least = omega arith; most = omega (arith, l) } in
      let supply : SuppliesThrough n b b = record { input = suc k; within = within; from = same; through = through } in
      let need : Depends n s b b = record { possible = may.2; on_possible = may.2; waits = inl supply } in
      let loop_free = free may.0 may.1 in
      irreflexive n s loop_free b (need_precedes n s loop_free b b need)

pub program_has_texts : ProgramHasTexts
program_has_texts n rows net = record { bodies = λ b f is has c. body_is n rows b f is has c; within = λ b is. in_bounds n net b is }
