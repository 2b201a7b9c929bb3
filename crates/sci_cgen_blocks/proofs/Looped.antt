-- A loop over the elements of a block's outputs.
use Rattle.std.proofs.Common.{◌≡◌, ℕ, zero, suc, ◌+◌, ◌^◌, ◌<◌, ◌≤◌, inl, inr, List, [], ◌∷◌, length, Some, refl, sym, ap, ◌∙◌, subst, arith, ℤ, pos, length-append}
use Rattle.std.proofs.lemmas.Bool.{cases_lt}
use Rattle.std.proofs.lemmas.List.{append-nil, get_or_append_left, get_or_push}
use Rattle.sci_base.specs.declared.observation.Obs.{Obs}
use Rattle.sci_base.specs.declared.observation.StopWord.TheVariants as stops
use Rattle.sci_base.specs.Lists.{at}
use Rattle.sci_kinds.specs.declared.Cell.{Cell}
use Rattle.sci_kinds.specs.declared.Cell.TheVariants.{Value, Overflow, Zero}
use Rattle.sci_kinds.specs.Table.{Answer, Values, NoFit, NoQuotient, then_cell, gathered}
use Rattle.c_ast.specs.declared.Name.{Name}
use Rattle.c_ast.specs.declared.Bound.TheVariants as bounds
use Rattle.c_ast.specs.Syntax.{loop, Block, done, next}
use Rattle.c_mean.specs.Meaning.{World, Ran, How, going, undefined, over, halted, quietly, on_how, then_run, later, turns, count_up, one_turn, Around, run_block}
use Rattle.c_mean.specs.Places.{get, Has, Puts, Keeps, is_scratch}
use Rattle.c_mean.specs.Runs.{Leads, Stops}
use Rattle.c_mean.proofs.Memory.{put_there, put_other, keeps_all, keeps_then, keeps_spare, keeps_wider}
use Rattle.c_mean.proofs.Steps.{then_assoc, then_same, then_going, then_stops}
use Rattle.c_mean.proofs.Loops.{loop_runs, count_is}
use Rattle.sci_cgen_blocks.specs.Texts.{counted_by, Places, values, scratch_name}
use Rattle.sci_cgen_blocks.proofs.Elements.{DoesTurn, DoesAll, done_does}

-- ---- turns

-- nothing behind a run
then_nothing : (r : Ran) → then_run r (λ w. quietly (going w)) ≡ r
then_nothing r = by_how r.seen r.how
  where
    by_how : (seen : List Obs) (h : How) → on_how seen h (λ w. quietly (going w)) ≡ record { seen = seen; how = h }
    by_how seen (going w) = ap (λ (s : List Obs). let q : Ran = record { seen = s; how = going w } in q) (append-nil seen)
    by_how seen (undefined n) = refl
    by_how seen over = refl
    by_how seen halted = refl

-- one turn more is behind the others
turns_more : (k : ℕ) (turn : World → Ran) (w : World) → turns (suc k) turn w ≡ then_run (turns k turn w) turn
turns_more zero turn w = then_nothing (turn w)
turns_more (suc k) turn w = then_same (turn w) (turns (suc k) turn) (λ v. then_run (turns k turn v) turn) (turns_more k turn) ∙ sym (then_assoc (turn w) (turns k turn) turn)

-- ---- the loop

-- The first m of n values are there, nothing else has changed but scratch, and the counter is at the next; or the run has ended by the stop.
abbrev DoesTurns : Name → Places → ℕ → ℕ → World → Answer → Ran → Type 0
DoesTurns x p n m w (Values vs) r = Leads r (λ w'.
    Keeps is_scratch values p.outs n w w' × (length vs ≡ m) × ((e : ℕ) → e < m → get w' values (p.outs + e) ≡ Some (at vs e)) × (get w' x 0 ≡ Some (pos m)))
DoesTurns x p n m w NoFit r = Stops r stops.Overflow p.number
DoesTurns x p n m w NoQuotient r = Stops r stops.Zero p.number

module _ (env : Around) (p : Places) (n c : ℕ) (body : Block) (cells : ℕ → Cell) (I : World → Type 0) (small : n < 2 ^ 63)
    (stable : (w w' : World) → I w → Keeps is_scratch values p.outs n w w' → I w')
    (does : (e : ℕ) → e < n → (k : ℕ) (w : World) → I w → get w (scratch_name c) 0 ≡ Some (pos e)
    → DoesTurn (counted_by c) p e w (cells e) (run_block env k body w)) where
  abbrev counter : Name
  counter = scratch_name c

  abbrev turn : ℕ → World → Ran
  turn k w = one_turn env k counter body w

  -- what the body does of a cell where the counter is at it
  abbrev DoesNext : ℕ → ℕ → Cell → Type 0
  DoesNext m k q = (w : World) → I w → get w counter 0 ≡ Some (pos m) → DoesTurn (counted_by c) p m w q (run_block env (later k 1) body w)

  one_more : (m k : ℕ) (w : World) (r : Ran) (vs : List ℤ) (q : Cell) → m < n → I w → DoesTurns counter p n m w (Values vs) r → DoesNext m k q
      → DoesTurns counter p n (suc m) w (then_cell (Values vs) q) (then_run r (turn k))
  one_more m k w r vs (Value v) h i so_far go =
      let goes = go so_far.to (stable w so_far.to i so_far.holds.0) so_far.holds.3 in
      let up = count_is k counter goes.to m goes.holds.2 (omega (arith, h, small)) in
      let whole : Keeps is_scratch values p.outs n so_far.to goes.to =
      keeps_wider is_scratch values p.outs n (p.outs + m) 1 so_far.to goes.to (omega arith) (omega (arith, h)) goes.holds.0 in
      let counted : Keeps is_scratch values p.outs n goes.to up.0 = keeps_spare is_scratch values p.outs n goes.to up.0 counter 0 (pos (suc m)) refl up.1.1 in
      record {
        to = up.0;
        is = then_going r so_far.to (turn k) so_far.is ∙ (then_going (run_block env (later k 1) body so_far.to) goes.to (count_up k counter) goes.is ∙ up.1.0);
        holds = (
          keeps_then so_far.holds.0 (keeps_then whole counted),
          simp length-append (omega (arith, so_far.holds.1)),
          λ e l. put_other goes.to up.0 counter 0 (pos (suc m)) values (p.outs + e) up.1.1 refl ∙ elim (cases_lt e m) [
            | inl s ↦ goes.holds.0.same values (p.outs + e) (record { kept = refl; apart = λ x. inl (omega (arith, s)) })
                ∙ (so_far.holds.2 e s ∙ ap Some (sym (get_or_append_left vs (v ∷ []) (pos 0) e (omega (arith, s, so_far.holds.1)))))
            | inr s ↦ let d : e ≡ m = omega (arith, l, s) in rw d (goes.holds.1 ∙ ap Some (sym (get_or_push vs v (pos 0) m so_far.holds.1)))
          ],
          put_there goes.to up.0 counter 0 (pos (suc m)) up.1.1,
        );
      }
  one_more m k w r vs Overflow h i so_far go =
      then_going r so_far.to (turn k) so_far.is
      ∙ then_stops (run_block env (later k 1) body so_far.to) (count_up k counter) stops.Overflow p.number
      (go so_far.to (stable w so_far.to i so_far.holds.0) so_far.holds.3)
  one_more m k w r vs Zero h i so_far go =
      then_going r so_far.to (turn k) so_far.is
      ∙ then_stops (run_block env (later k 1) body so_far.to) (count_up k counter) stops.Zero p.number
      (go so_far.to (stable w so_far.to i so_far.holds.0) so_far.holds.3)

  one_step : (m k : ℕ) (w : World) (r : Ran) (a : Answer) (q : Cell) → m < n → I w → DoesTurns counter p n m w a r → DoesNext m k q
      → DoesTurns counter p n (suc m) w (then_cell a q) (then_run r (turn k))
  one_step m k w r (Values vs) q h i so_far go = one_more m k w r vs q h i so_far go
  one_step m k w r NoFit q h i so_far go = then_stops r (turn k) stops.Overflow p.number so_far
  one_step m k w r NoQuotient q h i so_far go = then_stops r (turn k) stops.Zero p.number so_far

  partly : (m : ℕ) → m ≤ n → (k : ℕ) (w : World) → I w → get w counter 0 ≡ Some (pos 0) → DoesTurns counter p n m w (gathered cells m) (turns m (turn k) w)
  partly zero h k w i is =
      record { to = w; is = refl; holds = (keeps_all is_scratch values p.outs n w, refl, λ e q. absurd (omega (arith, q)), is) }
  partly (suc m) h k w i is =
      subst (DoesTurns counter p n (suc m) w (gathered cells (suc m))) (sym (turns_more m (turn k) w))
      (one_step m k w (turns m (turn k) w) (gathered cells m) (cells m) (omega (arith, h)) i (partly m (omega (arith, h)) k w i is)
      (λ v j here. does m (omega (arith, h)) (later k 1) v j here))

  -- from the memory before the counter was set
  from_first : (w first : World) (a : Answer) (r : Ran) → Puts w counter 0 (pos 0) first → DoesTurns counter p n n first a r → DoesAll p n w a r
  from_first w first (Values vs) r q l = record {
    to = l.to;
    is = l.is;
    holds = (keeps_then (keeps_spare is_scratch values p.outs n w first counter 0 (pos 0) refl q) l.holds.0, l.holds.2);
  }
  from_first w first NoFit r q l = l
  from_first w first NoQuotient r q l = l

  -- Where the body does the cell that the counter is at, the loop does the answer.
  pub loop_does : (k : ℕ) (w : World) → Has w counter 0 → I w
      → DoesAll p n w (gathered cells n) (run_block env k (next (loop counter (bounds.Num (pos n)) body) done) w)
  loop_does k w there i =
      loop_runs (DoesAll p n w (gathered cells n)) env k counter (bounds.Num (pos n)) body done w (pos n) refl there (λ l m first q.
      done_does p n w (gathered cells n) (turns n (turn l) first) env m
      (from_first w first (gathered cells n) (turns n (turn l) first) q
      (partly n (omega arith) l first (stable w first i (keeps_spare is_scratch values p.outs n w first counter 0 (pos 0) refl q))
      (put_there w first counter 0 (pos 0) q))))
