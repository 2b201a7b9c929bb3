-- Behind a pass the active blocks take their next states.
use Rattle.std.proofs.Common.{◌≡◌, ℕ, zero, suc, ◌+◌, ◌-◌, ◌<◌, ◌≤◌, ◌⊎◌, List, [], ◌∷◌, length, Some, Bool, true, false, refl, sym, ap, ◌∙◌, subst, arith, ℤ, pos, inl, inr, slice_index_or, true≢false}
use Rattle.std.specs.Prelude.{◌||◌}
use Rattle.std.proofs.lemmas.Bool.{cases_lt}
use Rattle.sci_base.specs.Lists.{at}
use Rattle.sci_forms.specs.declared.spec.Spec.{Spec}
use Rattle.sci_forms.specs.Form.{has_state}
use Rattle.sci_forms.specs.Words.{state_len_of}
use Rattle.sci_kinds.specs.Table.{next_of}
use Rattle.sci_kinds.specs.Asks.{IsState}
use Rattle.sci_net.specs.Parts.{Parts, IsBlock, spec_of, no_spec}
use Rattle.sci_net.specs.Net.{IsNet}
use Rattle.sci_pass.proofs.Meanings.{no_state}
use Rattle.sci_reaction.specs.Equations.{Signals, AreInRange, input_in, all_inputs}
use Rattle.sci_reaction.proofs.Fills.{inputs_in_range}
use Rattle.sci_run.specs.Activity.{Activity}
use Rattle.c_ast.specs.declared.Name.{Name}
use Rattle.c_ast.specs.Syntax.{num, Block, done}
use Rattle.c_mean.specs.Meaning.{World, same_name, truth, Around, run_block}
use Rattle.c_mean.specs.Places.{get, Keeps, is_scratch}
use Rattle.c_mean.specs.Texts.{assigns_only, upto}
use Rattle.c_mean.specs.Runs.{Leads, LeftAlone}
use Rattle.c_mean.proofs.Steps.{done_leads, joined_leads, then_leads, leads_as, if_runs, skip_runs}
use Rattle.c_mean.proofs.Frames.{alone_all, alone_then}
use Rattle.c_mean.proofs.Values.{element_is}
use Rattle.sci_cgen_blocks.specs.Texts.{states, next_text}
use Rattle.sci_cgen_blocks.specs.Laws.{IsCount}
use Rattle.sci_cgen_blocks.proofs.NextStates.{next_law, next_reads_law, next_along_law, next_along_reads_law}
use Rattle.sci_cgen_blocks.proofs.NextTexts.{next_is}
use Rattle.sci_program.specs.declared.part.Part.{Part}
use Rattle.sci_program.specs.declared.part.Part.TheVariants.{Absent, Sure, Marked, Taken}
use Rattle.sci_program.specs.Names.{actives}
use Rattle.sci_program.specs.Program.{each_block, text_where, is_active, has_taken, where_part, places_of, states_before, state_text, has_loop}
use Rattle.sci_program.specs.Shows.{ShowsValues, ShowsStates, Acts, ShowsActive, HasRoom}
use Rattle.sci_program.proofs.Given.{holds_unread, state_unread}
use Rattle.sci_program.proofs.Sizes.{in_bounds, next_enough}
use Rattle.sci_program.proofs.Staying.{neither, taken_test, values_stay, active_stays, room_stays}

-- ---- texts one behind another

-- I j holds before text j
pub upto_leads : (env : Around) (f : ℕ → Block) (m : ℕ) (I : ℕ → World → Type 0)
    → ((j : ℕ) → j < m → (k : ℕ) (w : World) → I j w → Leads (run_block env k (f j) w) (I (suc j)))
    → (k : ℕ) (w : World) → I 0 w → Leads (run_block env k (upto f m) w) (I m)
upto_leads env f zero I go k w h = done_leads env k w h
upto_leads env f (suc m) I go k w h =
    joined_leads (λ r. Leads r (I (suc m))) env k (upto f m) (f m) w (upto_leads env f m I (λ j l. go j (omega (arith, l))) k w h)
    (λ k' w' h'. go m (omega arith) k' w' h')

-- what is done where a block is active
pub where_active : {P : World → Type 0} (env : Around) (p : Part) (b : ℕ) (a : Block) (t : Bool) (k : ℕ) (w : World) → Acts p t w b
    → (t ≡ true → (k : ℕ) → Leads (run_block env k a w) P) → (t ≡ false → P w) → Leads (run_block env k (where_part p b a) w) P
where_active {P} env Absent b a t k w is on off = done_leads env k w (off is)
where_active {P} env Sure b a t k w is on off = on is k
where_active {P} env Marked b a true k w is on off =
    if_runs (λ r. Leads r P) env k (is_active b) a done done w (element_is actives (num (pos (b - 1))) w (b - 1) (truth true) refl is) (λ l m.
    then_leads (run_block env l a w) (run_block env m done) (on refl l) (λ w' h. done_leads env m w' h))
where_active {P} env Marked b a false k w is on off =
    skip_runs (λ r. Leads r P) env k (is_active b) a done w (element_is actives (num (pos (b - 1))) w (b - 1) (truth false) refl is) (λ m.
    done_leads env m w (off refl))
where_active {P} env (Taken q) b a true k w is on off =
    if_runs (λ r. Leads r P) env k (has_taken q) a done done w (taken_test q true w is) (λ l m.
    then_leads (run_block env l a w) (run_block env m done) (on refl l) (λ w' h. done_leads env m w' h))
where_active {P} env (Taken q) b a false k w is on off =
    skip_runs (λ r. Leads r P) env k (has_taken q) a done w (taken_test q false w is) (λ m. done_leads env m w (off refl))

-- ---- where the states lie

abbrev pub state_size : Parts → ℕ → ℕ
state_size n b = state_len_of (spec_of n b).kind (spec_of n b)

abbrev pub state_start : Parts → ℕ → ℕ
state_start n b = (places_of n b).state

states_apart : (ss : List Spec) (i k : ℕ) → i < k → k < length ss
    → states_before ss i + (let s = slice_index_or ss i no_spec in state_len_of s.kind s) ≤ states_before ss k
states_apart [] i k l h = absurd (omega (arith, h))
states_apart (s ∷ ss) i zero l h = absurd (omega (arith, l))
states_apart (s ∷ ss) zero (suc k) l h = omega arith
states_apart (s ∷ ss) (suc i) (suc k) l h = let rest = states_apart ss i k (omega (arith, l)) (omega (arith, h)) in omega (arith, rest)

-- a block's state ends before that of a later block begins
states_follow : (n : Parts) (b c : ℕ) → IsBlock n b → IsBlock n c → b < c → state_start n b + state_size n b ≤ state_start n c
states_follow n zero c hb hc l = absurd (omega (arith, hb.least))
states_follow n (suc i) zero hb hc l = absurd (omega (arith, hc.least))
states_follow n (suc i) (suc j) hb hc l =
    let e : suc i - 1 ≡ i = omega arith in
    let f : suc j - 1 ≡ j = omega arith in
    let apart = states_apart n.specs i j (omega (arith, l)) (omega (arith, hc.most)) in
    rw (e, f) apart

outside_of : (n : Parts) (b c i : ℕ) → IsBlock n b → IsBlock n c → (b ≡ c → ⊥) → i < state_size n b
    → (state_start n b + i < state_start n c) ⊎ (state_start n c + state_size n c ≤ state_start n b + i)
outside_of n b c i hb hc ne l = elim (cases_lt b c) [
  | inl less ↦ let f = states_follow n b c hb hc less in inl (omega (arith, f, l))
  | inr more ↦ let f = states_follow n c b hc hb (omega (arith, more, ne)) in inr (omega (arith, f))
]

-- ---- one block

-- the names that are assigned, scratch among them
abbrev pub is_stating : Name → Bool
is_stating x = is_scratch x || same_name states x

keeps_alone : (o m : ℕ) (w w' : World) → Keeps is_scratch states o m w w' → LeftAlone (assigns_only is_stating) w w'
keeps_alone o m w w' k = record {
  same = λ x j h.
      let parts = neither (is_scratch x) (same_name states x) h in
      k.same x j (record { kept = parts.0; apart = λ e. absurd (true≢false (sym e ∙ parts.1)) });
  there = k.there;
  left = λ h. k.left;
}

-- block b has this state, and no other state has changed
record HasState (n : Parts) (b : ℕ) (x : List ℤ) (w w' : World) : Type 0 where
  pub alone : LeftAlone (assigns_only is_stating) w w'
  pub here : (i : ℕ) → i < state_size n b → get w' states (state_start n b + i) ≡ Some (at x i)
  pub others : (j : ℕ) → ((j < state_start n b) ⊎ (state_start n b + state_size n b ≤ j)) → get w' states j ≡ get w states j

-- Of each block the next state is known: an active block's from its state and its inputs, and that of another is its state.
pub record AreNext (n : Parts) (y : Signals) (active : Activity) (x next : Signals) : Type 0 where
  pub taken : (b i : ℕ) → IsBlock n b → active b ≡ true → has_state (spec_of n b).kind ≡ true → i < state_size n b
      → at (next b) i ≡ next_of (spec_of n b).kind (spec_of n b) (x b) 0 (all_inputs (spec_of n b) (input_in n y b)) i
  pub kept : (b : ℕ) → IsBlock n b → active b ≡ false → next b ≡ x b

module _ (env : Around) (n : Parts) (net : IsNet n) (scratch : ℕ) (loops : has_loop n ≡ true → 1 ≤ scratch) (x next y : Signals) (part : ℕ → Part) (active : Activity)
    (in_range : AreInRange n y) (states_are : (b : ℕ) → IsBlock n b → IsState (spec_of n b) (x b)) (counts : (b : ℕ) → IsBlock n b → IsCount (spec_of n b) (x b)) (nexts : AreNext n y active x next) where
  one_state : (b k : ℕ) (w : World) → IsBlock n b → ShowsValues n y w → ShowsActive n part active w → HasRoom n scratch w
      → ((i : ℕ) → i < state_size n b → get w states (state_start n b + i) ≡ Some (at (x b) i))
      → Leads (run_block env k (state_text n part b) w) (HasState n b (next b) w)
  one_state b k w block values marked room held = by_kind (has_state (spec_of n b).kind) refl
    where
      unchanged : ((i : ℕ) → i < state_size n b → get w states (state_start n b + i) ≡ Some (at (next b) i)) → HasState n b (next b) w w
      unchanged h = record { alone = alone_all (assigns_only is_stating) w; here = h; others = λ j q. refl }

      works : has_state (spec_of n b).kind ≡ true → active b ≡ true → (k : ℕ)
          → Leads (run_block env k (next_text (spec_of n b) (places_of n b)) w) (HasState n b (next b) w)
      works has on k =
          leads_as (run_block env k (next_text (spec_of n b) (places_of n b)) w)
          (λ w' h. record {
            alone = keeps_alone (state_start n b) (state_size n b) w w' h.0;
            here = λ i l. h.1 i l ∙ ap Some (sym (nexts.taken b i block on has l));
            others = λ j q. h.0.same states j (record { kept = refl; apart = λ e. q });
          })
          (next_is env (spec_of n b) (places_of n b) (x b) 0 (all_inputs (spec_of n b) (input_in n y b)) w
          (holds_unread n net y (λ c h. (in_range c h).enough) w values b (x b) block (state_unread (spec_of n b).kind has) held)
          next_law next_reads_law (net.typed_specs b block) (states_are b block) (counts b block) (inputs_in_range n net y b block in_range)
          next_along_law next_along_reads_law (in_bounds n net b block)
          (λ j lo hi. room.scratch_names j lo (let few = next_enough n scratch b block loops in omega (arith, hi, few))) k)

      by_kind : (t : Bool) → has_state (spec_of n b).kind ≡ t
          → Leads (run_block env k (text_where t (where_part (part b) b (next_text (spec_of n b) (places_of n b)))) w) (HasState n b (next b) w)
      by_kind true has =
          where_active env (part b) b (next_text (spec_of n b) (places_of n b)) (active b) k w (marked.each b block) (works has)
          (λ off. unchanged (λ i l. held i l ∙ ap (λ (v : List ℤ). Some (at v i)) (sym (nexts.kept b block off))))
      by_kind false none =
          let z = no_state (spec_of n b) none in done_leads env k w (unchanged (λ i l. absurd (omega (arith, l, z))))

  -- ---- all blocks

  -- the first m blocks have their next states
  record HasStates (w0 : World) (m : ℕ) (w : World) : Type 0 where
    pub alone : LeftAlone (assigns_only is_stating) w0 w
    pub behind : (b i : ℕ) → IsBlock n b → b ≤ m → i < state_size n b → get w states (state_start n b + i) ≡ Some (at (next b) i)
    pub ahead : (b i : ℕ) → IsBlock n b → m < b → i < state_size n b → get w states (state_start n b + i) ≡ Some (at (x b) i)

  module _ (w0 : World) (values : ShowsValues n y w0) (marked : ShowsActive n part active w0) (room : HasRoom n scratch w0) where
    one_more : (j : ℕ) → j < length n.specs → (k : ℕ) (w : World) → HasStates w0 j w → Leads (run_block env k (state_text n part (suc j)) w) (HasStates w0 (suc j))
    one_more j l k w h =
        let block : IsBlock n (suc j) = record { least = omega arith; most = omega (arith, l) } in
        leads_as (run_block env k (state_text n part (suc j)) w)
        (λ w' g. record {
          alone = alone_then (assigns_only is_stating) w0 w w' h.alone g.alone;
          behind = λ b i c m r. elim (cases_lt b (suc j)) [
            | inl less ↦ g.others (state_start n b + i) (outside_of n b (suc j) i c block (λ e. omega (arith, e, less)) r)
                ∙ h.behind b i c (omega (arith, less)) r
            | inr more ↦ let e : b ≡ suc j = omega (arith, m, more) in last w' b i e r g.here
          ];
          ahead = λ b i c m r. g.others (state_start n b + i) (outside_of n b (suc j) i c block (λ e. omega (arith, e, m)) r)
              ∙ h.ahead b i c (omega (arith, m)) r;
        })
        (one_state (suc j) k w block (values_stay is_stating w0 w h.alone n y refl values) (active_stays is_stating w0 w h.alone n part active refl refl marked)
        (room_stays is_stating w0 w h.alone n scratch room) (λ i r. h.ahead (suc j) i block (omega arith) r))
      where
        last : (w' : World) (b i : ℕ) → b ≡ suc j → i < state_size n b
            → ((i : ℕ) → i < state_size n (suc j) → get w' states (state_start n (suc j) + i) ≡ Some (at (next (suc j)) i))
            → get w' states (state_start n b + i) ≡ Some (at (next b) i)
        last w' b i e r f =
            subst (λ (c : ℕ). (i < state_size n c) → get w' states (state_start n c + i) ≡ Some (at (next c) i)) (sym e) (f i) r

    -- The states are the next ones, and nothing else has changed but scratch.
    pub states_lead : ShowsStates n x w0 → (k : ℕ)
        → Leads (run_block env k (each_block (state_text n part) n) w0) (λ w. LeftAlone (assigns_only is_stating) w0 w × ShowsStates n next w)
    states_lead shows k =
        leads_as (run_block env k (each_block (state_text n part) n) w0)
        (λ w h. (h.alone, record { each = λ b i block l. h.behind b i block block.most l }))
        (upto_leads env (λ j. state_text n part (suc j)) (length n.specs) (HasStates w0) one_more k w0
        (record {
          alone = alone_all (assigns_only is_stating) w0;
          behind = λ b i c m r. absurd (omega (arith, m, c.least));
          ahead = λ b i c m r. shows.each b i c r;
        }))
