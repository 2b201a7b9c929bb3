-- Behind a pass the halt flag is set where a HALT_f is active.
use Rattle.std.proofs.Common.{◌≡◌, ℕ, zero, suc, ◌+◌, ◌<◌, List, [], ◌∷◌, length, Some, Bool, true, false, ◌&&◌, refl, sym, ap, ◌∙◌, subst, arith, pos, slice_index_or, true≢false}
use Rattle.std.specs.Prelude.{◌||◌}
use Rattle.std.proofs.lemmas.List.Elements.{Contains-get_or}
use Rattle.sci_forms.specs.declared.spec.Spec.{Spec}
use Rattle.sci_net.specs.Parts.{Parts, IsBlock, spec_of, no_spec}
use Rattle.sci_reaction.proofs.Lists.{any_from}
use Rattle.sci_run.specs.Activity.{Activity, halts_from, halts}
use Rattle.sci_forms.specs.Form.{is_halt}
use Rattle.c_ast.specs.declared.Name.{Name}
use Rattle.c_ast.specs.Syntax.{scalar, set, done}
use Rattle.c_mean.specs.Meaning.{World, same_name, truth, Around, run_block}
use Rattle.c_mean.specs.Places.{get}
use Rattle.c_mean.specs.Texts.{assigns_only}
use Rattle.c_mean.specs.Runs.{Leads, LeftAlone}
use Rattle.c_mean.proofs.Memory.{put_there}
use Rattle.c_mean.proofs.Steps.{done_leads, let_runs, leads_as}
use Rattle.c_mean.proofs.Frames.{alone_all, alone_then, puts_alone}
use Rattle.sci_program.specs.declared.part.Part.{Part}
use Rattle.sci_program.specs.Names.{halt_name}
use Rattle.sci_program.specs.Program.{natural, one, each_block, text_where, where_part, has_halt, halt_text}
use Rattle.sci_program.specs.Shows.{ShowsActive}
use Rattle.sci_program.proofs.Staying.{active_stays}
use Rattle.sci_program.proofs.States.{upto_leads, where_active}

-- ---- of the first blocks one halts

abbrev any_upto : (ℕ → Bool) → ℕ → Bool
any_upto f zero = false
any_upto f (suc k) = any_upto f k || f k

or_assoc : (a b c : Bool) → (a || b) || c ≡ a || (b || c)
or_assoc true b c = refl
or_assoc false b c = refl

or_none : (a : Bool) → a || false ≡ a
or_none true = refl
or_none false = refl

any_front : (f : ℕ → Bool) (k : ℕ) → any_upto f (suc k) ≡ f 0 || any_upto (λ j. f (suc j)) k
any_front f zero = sym (or_none (f 0))
any_front f (suc k) = ap (λ (t : Bool). t || f (suc k)) (any_front f k) ∙ or_assoc (f 0) (any_upto (λ j. f (suc j)) k) (f (suc k))

any_same : (f g : ℕ → Bool) (k : ℕ) → ((j : ℕ) → j < k → f j ≡ g j) → any_upto f k ≡ any_upto g k
any_same f g zero h = refl
any_same f g (suc k) h =
    ap (λ (t : Bool). t || f k) (any_same f g k (λ j l. h j (omega (arith, l)))) ∙ ap (λ (t : Bool). any_upto g k || t) (h k (omega arith))

abbrev one_halts : Activity → List Spec → ℕ → ℕ → Bool
one_halts active ss b j = active (b + j) && is_halt (slice_index_or ss j no_spec).kind

halts_upto : (active : Activity) (ss : List Spec) (b : ℕ) → any_upto (one_halts active ss b) (length ss) ≡ halts_from b ss active
halts_upto active [] b = refl
halts_upto active (s ∷ ss) b =
    let z : b + 0 ≡ b = omega arith in
    any_front (one_halts active (s ∷ ss) b) (length ss)
    ∙ (ap (λ (c : ℕ). (active c && is_halt s.kind) || any_upto (λ j. one_halts active (s ∷ ss) b (suc j)) (length ss)) z
    ∙ ap (λ (t : Bool). (active b && is_halt s.kind) || t)
    (any_same (λ j. one_halts active (s ∷ ss) b (suc j)) (one_halts active ss (b + 1)) (length ss)
    (λ j l. ap (λ (c : ℕ). active c && is_halt (slice_index_or ss j no_spec).kind) (let e : b + suc j ≡ b + 1 + j = omega arith in e))
    ∙ halts_upto active ss (b + 1)))

-- ---- the flag

abbrev pub is_halting : Name → Bool
is_halting x = same_name halt_name x

-- a net with a HALT_f has the flag
halt_there : (n : Parts) (b : ℕ) → IsBlock n b → is_halt (spec_of n b).kind ≡ true → has_halt n ≡ true
halt_there n zero block is = absurd (omega (arith, block.least))
halt_there n (suc k) block is =
    any_from (λ (s : Spec). is_halt s.kind) n.specs (spec_of n (suc k)) (Contains-get_or n.specs k no_spec (omega (arith, block.most))) is

-- so far
record HasHalted (n : Parts) (t : Bool) (w0 w : World) : Type 0 where
  pub alone : LeftAlone (assigns_only is_halting) w0 w
  pub flag : has_halt n ≡ true → get w halt_name 0 ≡ Some (truth t)

module _ (env : Around) (n : Parts) (part : ℕ → Part) (active : Activity) (w0 : World) (marked : ShowsActive n part active w0) where
  abbrev halts_at : ℕ → Bool
  halts_at j = one_halts active n.specs 1 j

  flagged : (t : Bool) (w : World) → has_halt n ≡ true → HasHalted n t w0 w → (k : ℕ)
      → Leads (run_block env k (one (set (scalar halt_name) (natural 1))) w) (HasHalted n true w0)
  flagged t w some h k =
      let_runs (λ r. Leads r (HasHalted n true w0)) env k halt_name (natural 1) done w (pos 1) refl (record { holds = truth t; is = h.flag some }) (λ k' w' put.
      done_leads env k' w' (record {
        alone = alone_then (assigns_only is_halting) w0 w w' h.alone (puts_alone (assigns_only is_halting) w w' halt_name 0 (pos 1) refl put);
        flag = λ s. put_there w w' halt_name 0 (pos 1) put;
      }))

  one_flag : (b : ℕ) → IsBlock n b → (t : Bool) (k : ℕ) (w : World) → HasHalted n t w0 w
      → Leads (run_block env k (halt_text n part b) w) (HasHalted n (t || (active b && is_halt (spec_of n b).kind)) w0)
  one_flag b block t k w h = by_kind (is_halt (spec_of n b).kind) refl
    where
      by_truth : (a c : Bool) → (t || (a && c) ≡ t) → HasHalted n (t || (a && c)) w0 w
      by_truth a c e = subst (λ (u : Bool). HasHalted n u w0 w) (sym e) h

      idle : (c a : Bool) → a ≡ false → t || (a && c) ≡ t
      idle c true e = absurd (true≢false e)
      idle c false e = or_none t

      none : (a : Bool) → t || (a && false) ≡ t
      none true = or_none t
      none false = or_none t

      set_flag : (a : Bool) → a ≡ true → t || (a && true) ≡ true
      set_flag true e = all t
        where
          all : (t : Bool) → t || true ≡ true
          all true = refl
          all false = refl
      set_flag false e = absurd (true≢false (sym e))

      by_kind : (c : Bool) → is_halt (spec_of n b).kind ≡ c
          → Leads (run_block env k (text_where c (where_part (part b) b (one (set (scalar halt_name) (natural 1))))) w)
          (HasHalted n (t || (active b && c)) w0)
      by_kind true is =
          where_active env (part b) b (one (set (scalar halt_name) (natural 1))) (active b) k w
          ((active_stays is_halting w0 w h.alone n part active refl refl marked).each b block)
          (λ on k'. leads_as (run_block env k' (one (set (scalar halt_name) (natural 1))) w)
          (λ w' g. subst (λ (u : Bool). HasHalted n u w0 w') (sym (set_flag (active b) on)) g) (flagged t w (halt_there n b block is) h k'))
          (λ off. by_truth (active b) true (idle true (active b) off))
      by_kind false is = done_leads env k w (by_truth (active b) false (none (active b)))

  -- The flag, which wasn't set, says whether one is active.
  pub halts_lead : (has_halt n ≡ true → get w0 halt_name 0 ≡ Some (pos 0)) → (k : ℕ)
      → Leads (run_block env k (each_block (halt_text n part) n) w0)
      (λ w. LeftAlone (assigns_only is_halting) w0 w × (has_halt n ≡ true → get w halt_name 0 ≡ Some (truth (halts n active))))
  halts_lead clear k =
      leads_as (run_block env k (each_block (halt_text n part) n) w0)
      (λ w h. (h.alone, λ s. h.flag s ∙ ap (λ (t : Bool). Some (truth t)) (halts_upto active n.specs 1)))
      (upto_leads env (λ j. halt_text n part (suc j)) (length n.specs) (λ j w. HasHalted n (any_upto halts_at j) w0 w)
      (λ j l k' w h.
      subst (λ (b : ℕ). Leads (run_block env k' (halt_text n part (suc j)) w)
      (HasHalted n (any_upto halts_at j || (active b && is_halt (spec_of n (suc j)).kind)) w0))
      (omega arith)
      (one_flag (suc j) (record { least = omega arith; most = omega (arith, l) }) (any_upto halts_at j) k' w h)) k w0
      (record { alone = alone_all (assigns_only is_halting) w0; flag = clear }))
