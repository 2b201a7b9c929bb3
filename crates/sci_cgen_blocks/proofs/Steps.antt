-- How the statements of steps run: as the steps go without any memory.
use Rattle.std.proofs.Common.{◌≡◌, ℕ, zero, suc, ◌+◌, ◌<◌, ◌≤◌, Option, Some, None, Bool, true, false, refl, sym, ap, ◌∙◌, subst, arith, ℤ, pos, ◌+ℤ◌, nat_eq, if◌then◌else◌, List, [], ◌∷◌}
use Rattle.std.proofs.lemmas.Int.{ints}
use Rattle.std.proofs.lemmas.List.{append-nil}
use Rattle.sci_base.specs.declared.observation.Obs.{Obs}
use Rattle.sci_base.specs.declared.observation.StopWord.{StopWord}
use Rattle.sci_base.specs.declared.observation.StopWord.TheVariants.{Overflow, Zero}
use Rattle.c_ast.specs.declared.Bound.TheVariants as bounds
use Rattle.c_ast.specs.Syntax.{Exp, num, scalar, set, choice, Block, done, next}
use Rattle.c_mean.specs.Meaning.{World, Ran, How, going, undefined, over, halted, quietly, on_how, then_run, is_zero, stop_word, later, statement_count, block_count, Around, run_block, ◌>>=◌}
use Rattle.c_mean.specs.Places.{get, value_of, Puts}
use Rattle.c_mean.specs.Runs.{Leads, Stops}
use Rattle.c_mean.proofs.Frames.{bind_some}
use Rattle.c_mean.proofs.Steps.{then_same, run_done, choice_is, let_runs, done_runs, done_leads, leads_as, then_stops, stop_stops}
use Rattle.c_mean.proofs.Loops.{for_leads}
use Rattle.sci_cgen_blocks.specs.Terms.{Given, Scratch, with_scratch, value, Work, assign, assign_if, work_under, do_work, do_works, count_on, do_turns, Step, change, stop_if, repeat, Outcome, worked, stopped, unclear, worked_by, stopped_under, do_step, then_steps, do_steps, Readable, IsScratch, WorkFits, changes, WorksFit, Spares, StepFits, StepsFit}
use Rattle.sci_cgen_blocks.specs.Texts.{Places, scratch_name, expression, work_statement, works_text, stop_text, step_text, steps_text}
use Rattle.sci_cgen_blocks.proofs.Shown.{expression_is, scratch_there, IsWorked, worked_put}

-- ---- words

-- by a test's value
pub choice_runs : (Q : Ran → Type 0) (env : Around) (n : ℕ) (e : Exp) (a b rest : Block) (w : World) (v : ℤ) → value_of e w ≡ Some v
    → ((k l m : ℕ) → Q (then_run (if is_zero v then run_block env l b w else run_block env k a w) (run_block env m rest)))
    → Q (run_block env n (next (choice e a b) rest) w)
choice_runs Q env n e a b rest w v is go =
    subst Q (sym (choice_is env n e a b rest w v is)) (go (later n 1) (later (later n 1) (block_count a)) (later n (statement_count (choice e a b))))

-- where nothing follows a run
then_nothing : (env : Around) (n : ℕ) (r : Ran) → then_run r (run_block env n done) ≡ r
then_nothing env n r = then_same r (run_block env n done) (λ w. quietly (going w)) (λ w. run_done env n w) ∙ by_how r.seen r.how
  where
    by_how : (seen : List Obs) (h : How) → on_how seen h (λ w. quietly (going w)) ≡ record { seen = seen; how = h }
    by_how seen (going w) = ap (λ (l : List Obs). record { seen = l; how = going w }) (append-nil seen)
    by_how seen (undefined n) = refl
    by_how seen over = refl
    by_how seen halted = refl

some_scratch : (s s' : Scratch) → Some s ≡ Some s' → s ≡ s'
some_scratch s s' e = cc

some_number : (x y : ℤ) → Some x ≡ Some y → x ≡ y
some_number x y e = cc

-- the word of a step's stop
abbrev pub stop_named : ℕ → StopWord
stop_named zero = Overflow
stop_named (suc n) = Zero

stop_is : (word : ℕ) → word ≤ 1 → stop_word (pos word) ≡ Some (stop_named word)
stop_is zero h = refl
stop_is (suc zero) h = refl
stop_is (suc (suc n)) h = absurd (omega (arith, h))

-- ---- changes that spare a counter

work_spares : (g : Given) (n : ℕ) (x : Work) → nat_eq (changes x) n ≡ false → (s s' : Scratch) → do_work g x s ≡ Some s' → s' n ≡ s n
work_spares g n (assign k t) d s s' e =
    let v = bind_some (value g s t) (λ v. Some (with_scratch k v s)) s' e in
    ap (λ (f : Scratch). f n) (sym (some_scratch (with_scratch k v.0 s) s' v.1.1)) ∙ rw d refl
work_spares g n (assign_if c k t) d s s' e =
    let z = bind_some (value g s c) (work_under g s k t) s' e in by_test (is_zero z.0) z.1.1
  where
    by_test : (b : Bool) → (if b then Some s else (value g s t >>= λ v. Some (with_scratch k v s))) ≡ Some s' → s' n ≡ s n
    by_test true e = ap (λ (f : Scratch). f n) (sym (some_scratch s s' e))
    by_test false e =
        let v = bind_some (value g s t) (λ v. Some (with_scratch k v s)) s' e in
        ap (λ (f : Scratch). f n) (sym (some_scratch (with_scratch k v.0 s) s' v.1.1)) ∙ rw d refl

works_spare : (g : Given) (n : ℕ) (ws : List Work) → Spares n ws → (s s' : Scratch) → do_works g ws s ≡ Some s' → s' n ≡ s n
works_spare g n [] d s s' e = ap (λ (f : Scratch). f n) (sym (some_scratch s s' e))
works_spare g n (x ∷ ws) d s s' e =
    let b = bind_some (do_work g x s) (do_works g ws) s' e in works_spare g n ws d.1 b.0 s' b.1.1 ∙ work_spares g n x d.0 s b.0 b.1.0

-- ---- statements

-- Between two turns: these are left, and they come to the scratch numbers s'.
record IsBetween (p : Places) (r : Readable) (g : Given) (o n : ℕ) (w0 : World) (c : ℕ) (ws : List Work) (turns : ℕ) (s' : Scratch) (i : ℕ)
    (w : World) : Type 0 where
  pub left : ℕ
  pub count : i + left ≡ turns
  pub now : Scratch
  pub comes : do_turns g c ws left now ≡ Some s'
  pub is : IsWorked p r g o n w0 now w

module _ (env : Around) (p : Places) (r : Readable) (g : Given) (o n : ℕ) (w0 : World) where
  abbrev AsWorked : Scratch → World → Type 0
  AsWorked s w = IsWorked p r g o n w0 s w

  -- what is to be shown of the text behind steps
  abbrev pub After : (Ran → Type 0) → Block → Outcome → Type 0
  After Q rest (worked s) = (k : ℕ) (w : World) → IsWorked p r g o n w0 s w → Q (run_block env k rest w)
  After Q rest (stopped word) = (ran : Ran) → Stops ran (stop_named word) p.number → Q ran
  After Q rest unclear = ⊥

  put_worked : (s s' : Scratch) (w w' : World) (m : ℕ) (v : ℤ) → m ≤ r.scratch → AsWorked s w → Some (with_scratch m v s) ≡ Some s'
      → Puts w (scratch_name m) 0 v w' → AsWorked s' w'
  put_worked s s' w w' m v few h e q =
      subst (λ (x : Scratch). AsWorked x w') (some_scratch (with_scratch m v s) s' e) (worked_put p r g o n w0 s w w' m v few h q)

  -- one change
  pub work_runs : (Q : Ran → Type 0) (x : Work) (rest : Block) (k : ℕ) (w : World) (s s' : Scratch) → WorkFits r x → AsWorked s w → do_work g x s ≡ Some s'
      → ((k : ℕ) (w' : World) → AsWorked s' w' → Q (run_block env k rest w')) → Q (run_block env k (next (work_statement p x) rest) w)
  work_runs Q (assign m t) rest k w s s' f h e go =
      let v = bind_some (value g s t) (λ v. Some (with_scratch m v s)) s' e in
      let_runs Q env k (scratch_name m) (expression p t) rest w v.0 (expression_is p r g s w h.shows 32 t f.1 ∙ v.1.0) (scratch_there p r g s w m h.shows f.0)
      (λ k' w' q. go k' w' (put_worked s s' w w' m v.0 f.0.1 h v.1.1 q))
  work_runs Q (assign_if c m t) rest k w s s' f h e go =
      let z = bind_some (value g s c) (work_under g s m t) s' e in
      choice_runs Q env k (expression p c) (next (set (scalar (scratch_name m)) (expression p t)) done) done rest w z.0
      (expression_is p r g s w h.shows 32 c f.1 ∙ z.1.0) (λ a b l. by_test a b l (is_zero z.0) z.1.1)
    where
      by_test : (a b l : ℕ) (test : Bool) → (if test then Some s else (value g s t >>= λ v. Some (with_scratch m v s))) ≡ Some s'
          → Q (then_run (if test then run_block env b done w else run_block env a (next (set (scalar (scratch_name m)) (expression p t)) done) w)
          (run_block env l rest))
      by_test a b l true e = done_runs Q env b w (run_block env l rest) (go l w (subst (λ (x : Scratch). AsWorked x w) (some_scratch s s' e) h))
      by_test a b l false e =
          let v = bind_some (value g s t) (λ v. Some (with_scratch m v s)) s' e in
          let_runs (λ q. Q (then_run q (run_block env l rest))) env a (scratch_name m) (expression p t) done w v.0
          (expression_is p r g s w h.shows 32 t f.2 ∙ v.1.0) (scratch_there p r g s w m h.shows f.0)
          (λ k' w' q. done_runs Q env k' w' (run_block env l rest) (go l w' (put_worked s s' w w' m v.0 f.0.1 h v.1.1 q)))

  works_lead : (ws : List Work) (k : ℕ) (w : World) (s s' : Scratch) → WorksFit r ws → AsWorked s w → do_works g ws s ≡ Some s'
      → Leads (run_block env k (works_text p ws) w) (AsWorked s')
  works_lead [] k w s s' f h e = done_leads env k w (subst (λ (x : Scratch). AsWorked x w) (some_scratch s s' e) h)
  works_lead (x ∷ ws) k w s s' f h e =
      let b = bind_some (do_work g x s) (do_works g ws) s' e in
      work_runs (λ q. Leads q (AsWorked s')) x (works_text p ws) k w s b.0 f.0 h b.1.0 (λ k' w' h'. works_lead ws k' w' b.0 s' f.1 h' b.1.1)

  -- changes made again and again
  turn_leads : (c : ℕ) (ws : List Work) (turns : ℕ) (s' : Scratch) → IsScratch r c → WorksFit r ws → Spares c ws → (i : ℕ) → i < turns → (k : ℕ) (w : World)
      → get w (scratch_name c) 0 ≡ Some (pos i) → IsBetween p r g o n w0 c ws turns s' i w
      → Leads (run_block env k (works_text p ws) w) (λ w'. (get w' (scratch_name c) 0 ≡ Some (pos i))
      × ((w'' : World) → Puts w' (scratch_name c) 0 (pos (suc i)) w'' → IsBetween p r g o n w0 c ws turns s' (suc i) w''))
  turn_leads c ws turns s' there f spares i h k w at b = by_left b.left b.count b.comes
    where
      by_left : (left : ℕ) → i + left ≡ turns → do_turns g c ws left b.now ≡ Some s'
          → Leads (run_block env k (works_text p ws) w) (λ w'. (get w' (scratch_name c) 0 ≡ Some (pos i))
          × ((w'' : World) → Puts w' (scratch_name c) 0 (pos (suc i)) w'' → IsBetween p r g o n w0 c ws turns s' (suc i) w''))
      by_left zero e comes = absurd (omega (arith, e, h))
      by_left (suc j) e comes =
          let turn = bind_some (do_works g ws b.now >>= count_on c) (do_turns g c ws j) s' comes in
          let body = bind_some (do_works g ws b.now) (count_on c) turn.0 turn.1.0 in
          let was : b.now c ≡ pos i = some_number (b.now c) (pos i) (sym (b.is.shows.scratch c there.0 there.1) ∙ at) in
          let same : body.0 c ≡ pos i = works_spare g c ws spares b.now body.0 body.1.0 ∙ was in
          let up : (body.0 c +ℤ pos 1) ≡ pos (suc i) = ap (λ (z : ℤ). z +ℤ pos 1) same ∙ one_more i in
          let next_is : Some (with_scratch c (pos (suc i)) body.0) ≡ Some turn.0 = ap (λ (z : ℤ). Some (with_scratch c z body.0)) (sym up) ∙ body.1.1 in
          leads_as (run_block env k (works_text p ws) w) (λ w' h'. (
            h'.shows.scratch c there.0 there.1 ∙ ap (λ (z : ℤ). Some z) same,
            λ w'' q. record {
              left = j;
              count = omega (arith, e);
              now = turn.0;
              comes = turn.1.1;
              is = put_worked body.0 turn.0 w' w'' c (pos (suc i)) there.1 h' next_is q;
            },
          )) (works_lead ws k w b.now body.0 f b.is body.1.0)
        where
          one_more : (i : ℕ) → (pos i +ℤ pos 1) ≡ pos (suc i)
          one_more i = omega (arith, ints)

  repeat_runs : (Q : Ran → Type 0) (c turns : ℕ) (ws : List Work) (rest : Block) (k : ℕ) (w : World) (s s' : Scratch)
      → StepFits r (repeat c turns ws) → AsWorked s w → do_turns g c ws turns (with_scratch c (pos 0) s) ≡ Some s'
      → ((k : ℕ) (w' : World) → AsWorked s' w' → Q (run_block env k rest w'))
      → Q (run_block env k (step_text p (repeat c turns ws) rest) w)
  repeat_runs Q c turns ws rest k w s s' f h e go =
      for_leads env (scratch_name c) (bounds.Num (pos turns)) turns (works_text p ws) (IsBetween p r g o n w0 c ws turns s') (omega (arith, f.1))
      (turn_leads c ws turns s' f.0 f.2 f.3) Q rest k w refl (scratch_there p r g s w c h.shows f.0)
      (λ w' q. record {
        left = turns;
        count = omega arith;
        now = with_scratch c (pos 0) s;
        comes = e;
        is = worked_put p r g o n w0 s w w' c (pos 0) f.0.1 h q;
      }) (λ k' w' at b. go k' w' (by_left w' b.left b.count b.now b.comes b.is))
    where
      by_left : (w' : World) (left : ℕ) → turns + left ≡ turns → (now : Scratch) → do_turns g c ws left now ≡ Some s' → AsWorked now w' → AsWorked s' w'
      by_left w' zero e now comes is = subst (λ (x : Scratch). AsWorked x w') (some_scratch now s' comes) is
      by_left w' (suc j) e now comes is = absurd (omega (arith, e))

  -- one step, and what follows it
  pub step_runs : (Q : Ran → Type 0) (x : Step) (rest : Block) (k : ℕ) (w : World) (s : Scratch) → StepFits r x → AsWorked s w → After Q rest (do_step g x s)
      → Q (run_block env k (step_text p x rest) w)
  step_runs Q (change x) rest k w s f h go = by_result (do_work g x s) refl go
    where
      by_result : (q : Option Scratch) → do_work g x s ≡ q → After Q rest (worked_by q) → Q (run_block env k (next (work_statement p x) rest) w)
      by_result (Some s') e go = work_runs Q x rest k w s s' f h e go
      by_result None e go = absurd go
  step_runs Q (stop_if c word) rest k w s f h go = by_value (value g s c) refl go
    where
      by_test : (a b l : ℕ) (test : Bool) → After Q rest (if test then worked s else stopped word)
          → Q (then_run (if test then run_block env b rest w else run_block env a (stop_text word p.number) w) (run_block env l done))
      by_test a b l true go = subst Q (sym (then_nothing env l (run_block env b rest w))) (go b w h)
      by_test a b l false go =
          go (then_run (run_block env a (stop_text word p.number) w) (run_block env l done))
          (then_stops (run_block env a (stop_text word p.number) w) (run_block env l done) (stop_named word) p.number
          (stop_stops env a (num (pos word)) (num (pos p.number)) (num (pos 0)) done w (pos word) (stop_named word) p.number refl (stop_is word f.1) refl refl))

      by_value : (q : Option ℤ) → value g s c ≡ q → After Q rest (stopped_under word s q)
          → Q (run_block env k (step_text p (stop_if c word) rest) w)
      by_value None e go = absurd go
      by_value (Some z) e go =
          choice_runs Q env k (expression p c) (stop_text word p.number) rest done w z (expression_is p r g s w h.shows 32 c f.0 ∙ e)
          (λ a b l. by_test a b l (is_zero z) go)
  step_runs Q (repeat c turns ws) rest k w s f h go = by_result (do_turns g c ws turns (with_scratch c (pos 0) s)) refl go
    where
      by_result : (q : Option Scratch) → do_turns g c ws turns (with_scratch c (pos 0) s) ≡ q → After Q rest (worked_by q)
          → Q (run_block env k (step_text p (repeat c turns ws) rest) w)
      by_result (Some s') e go = repeat_runs Q c turns ws rest k w s s' f h e go
      by_result None e go = absurd go

  -- Where steps are worked, the run goes on behind them; where they stop, it ends by that stop of the block.
  pub steps_run : (Q : Ran → Type 0) (xs : List Step) (rest : Block) (k : ℕ) (w : World) (s : Scratch) → StepsFit r xs → AsWorked s w
      → After Q rest (do_steps g xs s) → Q (run_block env k (steps_text p xs rest) w)
  steps_run Q [] rest k w s f h go = go k w h
  steps_run Q (x ∷ xs) rest k w s f h go =
      step_runs Q x (steps_text p xs rest) k w s f.0 h
      (by_outcome (λ s' go k' w' h'. steps_run Q xs rest k' w' s' f.1 h' go) (do_step g x s) go)
    where
      by_outcome : ((s' : Scratch) → After Q rest (do_steps g xs s') → (k' : ℕ) (w' : World) → AsWorked s' w' → Q (run_block env k' (steps_text p xs rest) w'))
          → (q : Outcome) → After Q rest (then_steps q (do_steps g xs)) → After Q (steps_text p xs rest) q
      by_outcome again (worked s') go = again s' go
      by_outcome again (stopped word) go = go
      by_outcome again unclear go = go
