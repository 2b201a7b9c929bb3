-- The text of a block's next state, its delay and its branch, where their terms are right.
use Rattle.std.proofs.Common.{◌≡◌, ℕ, zero, suc, ◌+◌, ◌-◌, ◌<◌, ◌≤◌, Some, Bool, true, false, if◌then◌else◌, refl, sym, ◌∙◌, subst, arith, ℤ, pos, List, true≢false, inl, inr}
use Rattle.std.proofs.lemmas.Bool.{cases_lt}
use Rattle.sci_base.specs.Lists.{at}
use Rattle.sci_forms.specs.declared.spec.Spec.{Spec}
use Rattle.sci_forms.specs.Ports.{Fills}
use Rattle.sci_forms.specs.Words.{state_len_of}
use Rattle.sci_forms.specs.Form.{is_sync, has_delay}
use Rattle.sci_forms.specs.Typed.{typed}
use Rattle.sci_kinds.specs.Asks.{IsState}
use Rattle.sci_kinds.specs.Table.{next_of, delay, branch}
use Rattle.c_ast.specs.declared.Name.{Name}
use Rattle.c_ast.specs.declared.Bound.TheVariants as bounds
use Rattle.c_ast.specs.Syntax.{Exp, num, cell, set, done, next}
use Rattle.c_mean.specs.Meaning.{World, Around, run_block}
use Rattle.c_mean.specs.Places.{get, value_of, Puts, Keeps, is_scratch}
use Rattle.c_mean.specs.Texts.{upto}
use Rattle.c_mean.specs.Runs.{Leads}
use Rattle.c_mean.proofs.Memory.{put_there, put_other, put_apart, keeps_all, keeps_then, keeps_spare, keeps_cell}
use Rattle.c_mean.proofs.Steps.{joined_leads, element_runs, done_leads, leads_as}
use Rattle.c_mean.proofs.Loops.{for_leads}
use Rattle.sci_cgen_blocks.specs.Recipes.{next_term, next_alike, next_along, next_scratch, delay_term, branch_term, given, from_value, inputs}
use Rattle.sci_cgen_blocks.specs.Terms.{is_looped}
use Rattle.sci_cgen_blocks.specs.Laws.{IsCount, NextLaw, NextReadsLaw, NextAlongLaw, NextAlongReadsLaw, DelayTermLaw, BranchTermLaw}
use Rattle.sci_cgen_blocks.specs.Texts.{fixed, counted_by, Places, written, values, states, scratch_name, input_place, element_place, expression, next_value_text, next_loop, next_text, delay_expression, branch_expression}
use Rattle.sci_cgen_blocks.specs.Meant.{Holds, HasNextScratch, IsAny, NextIs, AreInBounds}
use Rattle.sci_cgen_blocks.proofs.Shown.{ShowsGiven, place_is, expression_is}
use Rattle.sci_cgen_blocks.proofs.Bodies.{scratch_in}

-- ---- the next state

-- the first n values of the state are the next ones, and the others are as they were
record IsPart (s : Spec) (p : Places) (x : List ℤ) (m : ℕ) (u : List ℤ) (w : World) (n : ℕ) (w' : World) : Type 0 where
  pub keeps : Keeps is_scratch states p.state (state_len_of s.kind s) w w'
  pub new : (i : ℕ) → i < n → get w' states (p.state + i) ≡ Some (next_of s.kind s x m u i)
  pub old : (i : ℕ) → n ≤ i → i < state_len_of s.kind s → get w' states (p.state + i) ≡ Some (at x i)

module _ (env : Around) (s : Spec) (p : Places) (x : List ℤ) (m : ℕ) (u : List ℤ) (w : World) (holds : Holds s p IsAny x m u w) where
  shows_from : (n : ℕ) (w' : World) → IsPart s p x m u w n w' → ShowsGiven (written p (fixed 0)) (from_value s n) (given s x m u) (scratch_in w') w'
  shows_from n w' h = record {
    input = λ k e f. h.keeps.same values (input_place p k e) (record { kept = refl; apart = λ q. absurd (true≢false (sym q)) }) ∙ holds.ins k e f.0 f.1 tt;
    state = λ j f. h.old j f.0 f.1;
    mask = λ f. absurd (true≢false (sym f));
    scratch = λ k l r. absurd (omega (arith, l, r));
    which = refl;
    same = refl;
  }

  abbrev value_at : ℕ → ℤ
  value_at n = next_of s.kind s x m u n

  abbrev counter : Name
  counter = scratch_name 1

  -- the value at a place becomes the next one, and a counter stays
  put_value : (n : ℕ) → n < state_len_of s.kind s → (a e : Exp) (k : ℕ) (w' : World) → IsPart s p x m u w n w' → value_of a w' ≡ Some (pos (p.state + n))
      → value_of e w' ≡ Some (value_at n)
      → Leads (run_block env k (next (set (cell states a) e) done) w') (λ w''. IsPart s p x m u w (suc n) w'' × (get w'' counter 0 ≡ get w' counter 0))
  put_value n l a e k w' h there is =
      element_runs (λ q. Leads q (λ w''. IsPart s p x m u w (suc n) w'' × (get w'' counter 0 ≡ get w' counter 0))) env k states a e done w' (p.state + n)
      (value_at n) there is (record { holds = at x n; is = h.old n (omega arith) l })
      (λ k' w'' q. done_leads env k' w'' (
        record {
          keeps = keeps_then h.keeps
              (keeps_cell is_scratch states p.state (state_len_of s.kind s) w' w'' (p.state + n) (value_at n) (omega arith) (omega (arith, l)) q);
          new = λ i r. elim (cases_lt i n) [
            | inl b ↦ put_apart w' w'' states (p.state + n) (value_at n) states (p.state + i) q (λ e. omega (arith, e, b)) ∙ h.new i b
            | inr b ↦ let e : i ≡ n = omega (arith, r, b) in rw e (put_there w' w'' states (p.state + n) (value_at n) q)
          ];
          old = λ i r b. put_apart w' w'' states (p.state + n) (value_at n) states (p.state + i) q (λ e. omega (arith, e, r))
              ∙ h.old i (omega (arith, r)) b;
        },
        put_other w' w'' states (p.state + n) (value_at n) counter 0 q refl,
      ))

  -- where the counter goes up
  part_up : (n : ℕ) (v : ℤ) (w' w'' : World) → Puts w' counter 0 v w'' → IsPart s p x m u w n w' → IsPart s p x m u w n w''
  part_up n v w' w'' q h = record {
    keeps = keeps_then h.keeps (keeps_spare is_scratch states p.state (state_len_of s.kind s) w' w'' counter 0 v refl q);
    new = λ i r. put_other w' w'' counter 0 v states (p.state + i) q refl ∙ h.new i r;
    old = λ i r b. put_other w' w'' counter 0 v states (p.state + i) q refl ∙ h.old i r b;
  }

  -- before the text
  nothing_yet : IsPart s p x m u w 0 w
  nothing_yet = record {
    keeps = keeps_all is_scratch states p.state (state_len_of s.kind s) w;
    new = λ i r. absurd (omega (arith, r));
    old = λ i r b. holds.state i b;
  }

  module _ (gives : NextLaw) (reads : NextReadsLaw) (is_typed : typed s ≡ true) (st : IsState s x) (count : IsCount s x) (fills : Fills s.ins u) where
    -- n values from one on, each by its own term
    values_lead : (number : ℕ → ℕ) (first : ℕ) → ((i : ℕ) → number i ≡ first + i) → (n : ℕ) → first + n ≤ state_len_of s.kind s → (k : ℕ) (w' : World)
        → IsPart s p x m u w first w' → Leads (run_block env k (upto (λ i. next_value_text s p (number i)) n) w') (IsPart s p x m u w (first + n))
    values_lead number first is zero l k w' h = done_leads env k w' (subst (λ (j : ℕ). IsPart s p x m u w j w') (omega arith) h)
    values_lead number first is (suc n) l k w' h =
        joined_leads (λ q. Leads q (IsPart s p x m u w (first + suc n))) env k (upto (λ i. next_value_text s p (number i)) n) (next_value_text s p (number n)) w'
        (values_lead number first is n (omega (arith, l)) k w' h) (λ k' v g.
        let here = is n in
        let less : number n < state_len_of s.kind s = omega (arith, l, here) in
        let part = subst (λ (j : ℕ). IsPart s p x m u w j v) (sym here) g in
        leads_as (run_block env k' (next_value_text s p (number n)) v)
        (λ v' f. let more : suc (number n) ≡ first + suc n = omega (arith, here) in subst (λ (j : ℕ). IsPart s p x m u w j v') more f.0)
        (put_value (number n) less (num (pos (p.state + number n))) (expression (written p (fixed 0)) (next_term s.kind s (number n))) k' v part refl
        (expression_is (written p (fixed 0)) (from_value s (number n)) (given s x m u) (scratch_in v) v (shows_from (number n) v part) 32
        (next_term s.kind s (number n)) (reads s is_typed (number n) less)
        ∙ gives s x m u is_typed st count fills (number n) less (scratch_in v))))

    module _ (along : NextAlongLaw) (along_reads : NextAlongReadsLaw) (places : AreInBounds s p) where
      few : (n : ℕ) → n < next_alike s.kind s → n < state_len_of s.kind s
      few n l = let most = (along_reads s is_typed).0 in omega (arith, l, most)

      shows_along : (n : ℕ) → n < state_len_of s.kind s → (w' : World) → IsPart s p x m u w n w' → get w' counter 0 ≡ Some (pos n)
          → ShowsGiven (written p (counted_by 1)) (record (from_value s n) { element = n }) (record (given s x m u) { element = n }) (scratch_in w') w'
      shows_along n l w' h here =
          let shows = shows_from n w' h in record {
            input = shows.input;
            state = shows.state;
            mask = shows.mask;
            scratch = λ k l r. absurd (omega (arith, l, r));
            which = record {
              behind = omega arith;
              is = here;
              input = λ k f. places.ins k n f;
              state = λ f. omega (arith, l, places.state);
              next = λ f. let less = f.1 in omega (arith, less, places.state);
            };
            same = refl;
          }

      -- a turn of the loop
      turn_leads : (n : ℕ) → n < next_alike s.kind s → (k : ℕ) (w' : World) → get w' counter 0 ≡ Some (pos n) → IsPart s p x m u w n w'
          → Leads (run_block env k (next (set (cell states (element_place (counted_by 1) p.state)) (expression (written p (counted_by 1)) (next_along s.kind s))) done) w')
          (λ w''. (get w'' counter 0 ≡ Some (pos n)) × ((w3 : World) → Puts w'' counter 0 (pos (suc n)) w3 → IsPart s p x m u w (suc n) w3))
      turn_leads n l k w' here h =
          let less = few n l in
          let shows = shows_along n less w' h here in
          leads_as (run_block env k
          (next (set (cell states (element_place (counted_by 1) p.state)) (expression (written p (counted_by 1)) (next_along s.kind s))) done) w')
          (λ w'' g. (g.1 ∙ here, λ w3 q. part_up (suc n) (pos (suc n)) w'' w3 q g.0))
          (put_value n less (element_place (counted_by 1) p.state) (expression (written p (counted_by 1)) (next_along s.kind s)) k w' h
          (place_is (counted_by 1) (written p (counted_by 1)) (record (from_value s n) { element = n }) n p.state w' shows.which
          (λ c f. omega (arith, less, places.state)))
          (expression_is (written p (counted_by 1)) (record (from_value s n) { element = n }) (record (given s x m u) { element = n }) (scratch_in w') w' shows 32
          (next_along s.kind s) ((along_reads s is_typed).1 n l)
          ∙ along s x m u is_typed fills n l (scratch_in w')))

      -- The text of the next state leaves it at the places of the state.
      pub next_is : HasNextScratch s w → (k : ℕ) → NextIs s p w (next_of s.kind s x m u) (run_block env k (next_text s p) w)
      next_is room k =
          leads_as (run_block env k (next_text s p) w) (λ w' h. (h.keeps, h.new)) (by_size (is_looped (next_alike s.kind s)) refl)
        where
          by_size : (t : Bool) → is_looped (next_alike s.kind s) ≡ t → Leads (run_block env k (
              if t then next (next_loop s p (next_alike s.kind s)) (upto (λ i. next_value_text s p (next_alike s.kind s + i)) (state_len_of s.kind s - next_alike s.kind s))
              else upto (next_value_text s p) (state_len_of s.kind s)) w) (IsPart s p x m u w (state_len_of s.kind s))
          by_size true e =
              let most = (along_reads s is_typed).0 in
              let all : next_alike s.kind s + (state_len_of s.kind s - next_alike s.kind s) ≡ state_len_of s.kind s = omega (arith, most) in
              let some : 1 ≤ next_scratch s.kind s = subst (λ (t : Bool). 1 ≤ (if t then 1 else 0)) (sym e) (omega arith) in
              for_leads env counter (bounds.Num (pos (next_alike s.kind s))) (next_alike s.kind s)
              (next (set (cell states (element_place (counted_by 1) p.state)) (expression (written p (counted_by 1)) (next_along s.kind s))) done)
              (IsPart s p x m u w) (omega (arith, most, places.steps)) (λ n l k' v here h. turn_leads n l k' v here h) (λ r. Leads r (IsPart s p x m u w (state_len_of s.kind s)))
              (upto (λ i. next_value_text s p (next_alike s.kind s + i)) (state_len_of s.kind s - next_alike s.kind s)) k w refl (room 1 (omega arith) some)
              (λ v q. part_up 0 (pos 0) w v q nothing_yet)
              (λ k' v here h. subst (λ (j : ℕ). Leads (run_block env k' (upto (λ i. next_value_text s p (next_alike s.kind s + i)) (state_len_of s.kind s - next_alike s.kind s)) v)
              (IsPart s p x m u w j)) all
              (values_lead (λ i. next_alike s.kind s + i) (next_alike s.kind s) (λ i. refl) (state_len_of s.kind s - next_alike s.kind s) (omega (arith, most)) k' v h))
          by_size false e =
              let all : 0 + state_len_of s.kind s ≡ state_len_of s.kind s = omega arith in
              subst (λ (j : ℕ). Leads (run_block env k (upto (next_value_text s p) (state_len_of s.kind s)) w) (IsPart s p x m u w j)) all
              (values_lead (λ i. i) 0 (λ i. omega arith) (state_len_of s.kind s) (omega arith) k w nothing_yet)

-- ---- delays and branches

module _ (s : Spec) (p : Places) (x : List ℤ) (m : ℕ) (u : List ℤ) (w : World) (holds : Holds s p IsAny x m u w) where
  shows_inputs : ShowsGiven (written p (fixed 0)) (inputs s) (given s x m u) (scratch_in w) w
  shows_inputs = record {
    input = λ k e f. holds.ins k e f.0 f.1 tt;
    state = λ j f. absurd f;
    mask = λ f. absurd (true≢false (sym f));
    scratch = λ k l r. absurd (omega (arith, l, r));
    which = refl;
    same = refl;
  }

  pub delay_is : DelayTermLaw → typed s ≡ true → has_delay s.kind ≡ true → Fills s.ins u → (q : ℕ) → value_of (delay_expression s p) w ≡ Some (delay s q u)
  delay_is law is_typed has fills q =
      let l = law s x m q u is_typed has fills (scratch_in w) in
      expression_is (written p (fixed 0)) (inputs s) (given s x m u) (scratch_in w) w shows_inputs 32 (delay_term s.kind s) l.1 ∙ l.0

  pub branch_is : BranchTermLaw → typed s ≡ true → is_sync s.kind ≡ true → Fills s.ins u → value_of (branch_expression s p) w ≡ Some (pos (branch s u))
  branch_is law is_typed sync fills =
      let l = law s x m u is_typed sync fills (scratch_in w) in
      expression_is (written p (fixed 0)) (inputs s) (given s x m u) (scratch_in w) w shows_inputs 32 (branch_term s.kind s) l.1 ∙ l.0
