-- Before a reaction: no block is active, and none has taken a branch.
use Rattle.std.proofs.Common.{◌≡◌, ℕ, suc, ◌<◌, ◌^◌, length, Bool, true, false, ◌||◌, Some, inl, inr, refl, sym, ◌∙◌, subst, arith, pos}
use Rattle.std.proofs.lemmas.Bool.{cases_lt}
use Rattle.c_ast.specs.declared.Name.{Name}
use Rattle.c_ast.specs.declared.Bound.TheVariants as bounds
use Rattle.c_ast.specs.Syntax.{var, cell, set, done, next}
use Rattle.c_mean.specs.Meaning.{World, Around, run_block, same_name}
use Rattle.c_mean.specs.Places.{get, Has, Puts}
use Rattle.c_mean.specs.Texts.{assigns_only}
use Rattle.c_mean.specs.Runs.{Leads, LeftAlone}
use Rattle.c_mean.proofs.Memory.{put_there, put_other, put_apart, has_puts}
use Rattle.c_mean.proofs.Steps.{element_runs, done_leads}
use Rattle.c_mean.proofs.Loops.{for_leads}
use Rattle.c_mean.proofs.Frames.{alone_then, puts_alone}
use Rattle.sci_net.specs.Parts.{Parts}
use Rattle.sci_due.specs.Due.{scan as scan_name}
use Rattle.sci_program.specs.Names.{actives, branches}
use Rattle.sci_program.specs.Program.{has_sync, clear_text, natural, text_where, one}

-- what is assigned
abbrev pub is_clearing : Name → Bool
is_clearing x = same_name scan_name x || (same_name actives x || same_name branches x)

-- the first m blocks are cleared
pub record HasCleared (n : Parts) (m : ℕ) (w w' : World) : Type 0 where
  pub active : (b : ℕ) → b < m → get w' actives b ≡ Some (pos 0)
  pub branch : has_sync n ≡ true → (b : ℕ) → b < m → get w' branches b ≡ Some (pos 0)
  pub rest : LeftAlone (assigns_only is_clearing) w w'

module _ (env : Around) (n : Parts) (w0 : World) (small : length n.specs < 2 ^ 63) (there : (b : ℕ) → b < length n.specs → Has w0 actives b)
    (branches_there : has_sync n ≡ true → (b : ℕ) → b < length n.specs → Has w0 branches b) where
  -- one place more
  more_zeros : (m : ℕ) (w w' : World) → ((b : ℕ) → b < m → get w actives b ≡ Some (pos 0)) → Puts w actives m (pos 0) w'
      → (b : ℕ) → b < suc m → get w' actives b ≡ Some (pos 0)
  more_zeros m w w' h p b l = elim (cases_lt b m) [
    | inl q ↦ put_apart w w' actives m (pos 0) actives b p (λ e. omega (arith, e, q)) ∙ h b q
    | inr q ↦ let same : m ≡ b = omega (arith, q, l) in subst (λ (j : ℕ). get w' actives j ≡ Some (pos 0)) same (put_there w w' actives m (pos 0) p)
  ]

  more_branches : (m : ℕ) (w w' : World) → ((b : ℕ) → b < m → get w branches b ≡ Some (pos 0)) → Puts w branches m (pos 0) w'
      → (b : ℕ) → b < suc m → get w' branches b ≡ Some (pos 0)
  more_branches m w w' h p b l = elim (cases_lt b m) [
    | inl q ↦ put_apart w w' branches m (pos 0) branches b p (λ e. omega (arith, e, q)) ∙ h b q
    | inr q ↦ let same : m ≡ b = omega (arith, q, l) in subst (λ (j : ℕ). get w' branches j ≡ Some (pos 0)) same (put_there w w' branches m (pos 0) p)
  ]

  -- the counter
  up_one : (m i k : ℕ) (w w' : World) → Puts w scan_name i (pos k) w' → HasCleared n m w0 w → HasCleared n m w0 w'
  up_one m i k w w' p h = record {
    active = λ b l. put_other w w' scan_name i (pos k) actives b p refl ∙ h.active b l;
    branch = λ s b l. put_other w w' scan_name i (pos k) branches b p refl ∙ h.branch s b l;
    rest = alone_then (assigns_only is_clearing) w0 w w' h.rest (puts_alone (assigns_only is_clearing) w w' scan_name i (pos k) refl p);
  }

  abbrev Cleared : ℕ → World → World → Type 0
  Cleared i w w' = (get w' scan_name 0 ≡ Some (pos i)) × ((w'' : World) → Puts w' scan_name 0 (pos (suc i)) w'' → HasCleared n (suc i) w0 w'')

  body_leads : (i : ℕ) → i < length n.specs → (k : ℕ) (w : World) → get w scan_name 0 ≡ Some (pos i) → HasCleared n i w0 w
      → Leads (run_block env k (next (set (cell actives (var scan_name)) (natural 0))
      (text_where (has_sync n) (one (set (cell branches (var scan_name)) (natural 0))))) w)
      (Cleared i w)
  body_leads i l k w is h =
      element_runs (λ r. Leads r (Cleared i w)) env k actives (var scan_name) (natural 0) _ w i (pos 0) is refl (h.rest.there actives i (there i l))
      (λ k1 w1 p1.
      by_sync k1 w1 p1 (put_other w w1 actives i (pos 0) scan_name 0 p1 refl ∙ is) (has_sync n) refl)
    where
      by_sync : (k1 : ℕ) (w1 : World) → Puts w actives i (pos 0) w1 → get w1 scan_name 0 ≡ Some (pos i) → (t : Bool) → has_sync n ≡ t
          → Leads (run_block env k1 (text_where (has_sync n) (one (set (cell branches (var scan_name)) (natural 0)))) w1) (Cleared i w)
      by_sync k1 w1 p1 is1 true e =
          subst (λ (t : Bool). Leads (run_block env k1 (text_where t (one (set (cell branches (var scan_name)) (natural 0)))) w1) (Cleared i w)) (sym e)
          (element_runs (λ r. Leads r (Cleared i w)) env k1 branches (var scan_name) (natural 0) done w1 i (pos 0) is1 refl
          (has_puts w w1 actives i (pos 0) branches i p1 (h.rest.there branches i (branches_there e i l))) (λ k2 w2 p2.
          done_leads env k2 w2 (
            put_other w1 w2 branches i (pos 0) scan_name 0 p2 refl ∙ is1,
            λ w3 p3.
                up_one (suc i) 0 (suc i) w2 w3 p3 (record {
                  active = λ b q. put_other w1 w2 branches i (pos 0) actives b p2 refl ∙ more_zeros i w w1 h.active p1 b q;
                  branch = λ s b q. more_branches i w1 w2 (λ c r. put_other w w1 actives i (pos 0) branches c p1 refl ∙ h.branch s c r) p2 b q;
                  rest = alone_then (assigns_only is_clearing) w0 w1 w2
                      (alone_then (assigns_only is_clearing) w0 w w1 h.rest (puts_alone (assigns_only is_clearing) w w1 actives i (pos 0) refl p1))
                      (puts_alone (assigns_only is_clearing) w1 w2 branches i (pos 0) refl p2);
                }),
          )))
      by_sync k1 w1 p1 is1 false e =
          subst (λ (t : Bool). Leads (run_block env k1 (text_where t (one (set (cell branches (var scan_name)) (natural 0)))) w1) (Cleared i w)) (sym e)
          (done_leads env k1 w1 (
            is1,
            λ w3 p3. up_one (suc i) 0 (suc i) w1 w3 p3 (record {
              active = λ b q. more_zeros i w w1 h.active p1 b q;
              branch = λ s b q. absurd (sync_not s);
              rest = alone_then (assigns_only is_clearing) w0 w w1 h.rest (puts_alone (assigns_only is_clearing) w w1 actives i (pos 0) refl p1);
            }),
          ))
        where
          sync_not : has_sync n ≡ true → ⊥
          sync_not s = cc

  pub clear_leads : (k : ℕ) → Has w0 scan_name 0 → Leads (run_block env k (clear_text n) w0) (HasCleared n (length n.specs) w0)
  clear_leads k scan_there =
      for_leads env scan_name (bounds.Num (pos (length n.specs))) (length n.specs) _ (λ i w. HasCleared n i w0 w) small body_leads
      (λ r. Leads r (HasCleared n (length n.specs) w0)) done k w0 refl scan_there
      (λ w p. record {
        active = λ b q. absurd (omega (arith, q));
        branch = λ s b q. absurd (omega (arith, q));
        rest = puts_alone (assigns_only is_clearing) w0 w scan_name 0 (pos 0) refl p;
      })
      (λ j w is h. done_leads env j w h)
