-- Loops.
use Rattle.std.proofs.Common.{◌≡◌, ℕ, zero, suc, ◌+◌, ◌<◌, ◌^◌, List, Option, Some, refl, sym, ap, ◌∙◌, subst, arith, ℤ, pos, ◌+ℤ◌}
use Rattle.std.proofs.lemmas.Int.{ints}
use Rattle.std.proofs.lemmas.List.{append-nil}
use Rattle.sci_base.specs.declared.observation.Obs.{Obs}
use Rattle.c_ast.specs.declared.Name.{Name}
use Rattle.c_ast.specs.declared.Bound.{Bound}
use Rattle.c_ast.specs.Syntax.{loop, Block, next}
use Rattle.c_mean.specs.Meaning.{World, with_slots, store, counted, in_word, bound_value, turn_count, Around, Ran, How, going, undefined, over, halted, quietly, behind, on_how, then_run, stored, run_block, later, statement_count, turns, count_up, one_turn, ◌>>=◌}
use Rattle.c_mean.specs.Places.{get, Has, Puts}
use Rattle.c_mean.specs.Runs.{Leads, Next, ends, leads, next_run, run_on, IsOver, Does}
use Rattle.c_mean.proofs.Memory.{store_at, put_there}
use Rattle.c_mean.proofs.Steps.{then_assoc, then_seen, then_leads, on_leads}
use Rattle.c_mean.proofs.Values.{in_word_is}

-- A loop whose counter is there, by its turns.
pub loop_runs : (Q : Ran → Type 0) (env : Around) (n : ℕ) (x : Name) (b : Bound) (body rest : Block) (w : World) (v : ℤ) → bound_value b w.slots ≡ Some v
    → Has w x 0
    → ((k m : ℕ) (w' : World) → Puts w x 0 (pos 0) w' → Q (then_run (turns (turn_count v) (one_turn env k x body) w') (run_block env m rest)))
    → Q (run_block env n (next (loop x b body) rest) w)
unfolding run_block
loop_runs Q env n x b body rest w v is there go =
    let r = store_at w x 0 (pos 0) there in
    let to = with_slots w r.0 in
    let runs : run_block env n (next (loop x b body) rest) w ≡ then_run (turns (turn_count v) (one_turn env n x body) to)
    (run_block env (later n (statement_count (loop x b body))) rest) = rw (is, r.1.0) refl in
    subst Q (sym runs) (go n (later n (statement_count (loop x b body))) to r.1.1)

-- the counter's next value
pub count_is : (n : ℕ) (x : Name) (w : World) (i : ℕ) → get w x 0 ≡ Some (pos i) → suc i < 2 ^ 63
    → (w' : World) × ((count_up n x w ≡ quietly (going w')) × Puts w x 0 (pos (suc i)) w')
count_is n x w i is small =
    let r = store_at w x 0 (pos (suc i)) (record { holds = pos i; is = is }) in
    let same : pos i +ℤ pos 1 ≡ pos (suc i) = omega (arith, ints) in
    let up : in_word (pos i +ℤ pos 1) ≡ Some (pos (suc i)) = ap in_word same ∙ in_word_is (pos (suc i))
    (record { above = omega (arith, ints); below = omega (arith, ints, small) }) in
    let next : counted x w.slots ≡ Some r.0 =
    ap (λ (o : Option ℤ). o >>= λ v. in_word (v +ℤ pos 1) >>= λ u. store w.slots x 0 u) is
    ∙ (ap (λ (o : Option ℤ). o >>= λ u. store w.slots x 0 u) up ∙ r.1.0) in
    (with_slots w r.0, (ap (stored n w) next, r.1.1))

-- ---- loops without observations

pub turns_lead : (turn : World → Ran) (I : ℕ → World → Type 0) (n : ℕ) → ((i : ℕ) → i < n → (w : World) → I i w → Leads (turn w) (I (suc i))) → (k i : ℕ)
    → i + k ≡ n → (w : World) → I i w → Leads (turns k turn w) (I n)
turns_lead turn I n go zero i e w h = record { to = w; is = refl; holds = subst (λ (j : ℕ). I j w) (omega (arith, e)) h }
turns_lead turn I n go (suc k) i e w h =
    then_leads (turn w) (turns k turn) (go i (omega (arith, e)) w h) (λ w' h'. turns_lead turn I n go k (suc i) (omega (arith, e)) w' h')

-- I i holds before turn i. The body keeps the counter, and where the counter then goes up, I holds of the next turn.
pub for_leads : (env : Around) (x : Name) (b : Bound) (n : ℕ) (body : Block) (I : ℕ → World → Type 0) → n < 2 ^ 63
    → ((i : ℕ) → i < n → (k : ℕ) (w : World) → get w x 0 ≡ Some (pos i) → I i w → Leads (run_block env k body w)
    (λ w'. (get w' x 0 ≡ Some (pos i)) × ((w'' : World) → Puts w' x 0 (pos (suc i)) w'' → I (suc i) w'')))
    → (Q : Ran → Type 0) (rest : Block) (k : ℕ) (w : World) → bound_value b w.slots ≡ Some (pos n) → Has w x 0
    → ((w' : World) → Puts w x 0 (pos 0) w' → I 0 w')
    → ((k : ℕ) (w' : World) → get w' x 0 ≡ Some (pos n) → I n w' → Q (run_block env k rest w')) → Q (run_block env k (next (loop x b body) rest) w)
for_leads env x b n body I small does Q rest k w bound there start go =
    loop_runs Q env k x b body rest w (pos n) bound there (λ l m first p.
    on_leads Q (turns n (one_turn env l x body) first) (run_block env m rest)
    (turns_lead (one_turn env l x body) (λ i w. (get w x 0 ≡ Some (pos i)) × I i w) n (λ i h v both. turn_leads l i h v both.0 both.1) n 0
    (omega arith) first (put_there w first x 0 (pos 0) p, start first p))
    (λ w' h. go m w' h.0 h.1))
  where
    turn_leads : (l i : ℕ) → i < n → (v : World) → get v x 0 ≡ Some (pos i) → I i v
        → Leads (one_turn env l x body v) (λ u. (get u x 0 ≡ Some (pos (suc i))) × I (suc i) u)
    turn_leads l i h v is inv = then_leads (run_block env (later l 1) body v) (count_up l x) (does i h (later l 1) v is inv) (λ u after.
        let c = count_is l x u i after.0 (omega (arith, h, small)) in
        record { to = c.0; is = c.1.0; holds = (put_there u c.0 x 0 (pos (suc i)) c.1.1, after.1 c.0 c.1.1) })

-- ---- loops that are observed

pub over_stays : (r : Ran) (seen : List Obs) (h : How) (f : World → Ran) → r ≡ record { seen = seen; how = h } → IsOver h
    → then_run r f ≡ record { seen = seen; how = h }
over_stays r seen h f e o = ap (λ (q : Ran). then_run q f) e ∙ by_how h o
  where
    by_how : (h : How) → IsOver h → on_how seen h f ≡ record { seen = seen; how = h }
    by_how over o = refl
    by_how halted o = refl
    by_how (going w) o = absurd o
    by_how (undefined n) o = absurd o

-- Turns do a run of as many at most; `shows i m w` says that world w shows moment m before turn i.
module _ {M : Type 0} (turn after : World → Ran) (step : M → Next M) (close : M → Ran) (shows : ℕ → M → World → Type 0) (n : ℕ)
    (does : (i : ℕ) → i < n → (m : M) (w : World) → shows i m w → Does (shows (suc i)) (step m) (turn w))
    (closes : (m : M) (w : World) → shows n m w → after w ≡ close m) where
  pub turns_simulate : (k i : ℕ) → i + k ≡ n → (m : M) (w : World) → shows i m w → then_run (turns k turn w) after ≡ run_on step close k m
  turns_simulate zero i e m w s = closes m w (subst (λ (j : ℕ). shows j m w) (omega (arith, e)) s)
  turns_simulate (suc k) i e m w s =
      then_assoc (turn w) (turns k turn) after
      ∙ by_next (λ m' w' s'. turns_simulate k (suc i) (omega (arith, e)) m' w' s') (step m) (does i (omega (arith, e)) m w s)
    where
      by_next : ((m' : M) (w' : World) → shows (suc i) m' w' → then_run (turns k turn w') after ≡ run_on step close k m') → (x : Next M)
          → Does (shows (suc i)) x (turn w)
          → then_run (turn w) (λ v. then_run (turns k turn v) after) ≡ next_run x (run_on step close k)
      by_next again (ends seen h) d = over_stays (turn w) seen h _ d.0 d.1
      by_next again (leads seen m') d = ap (λ (q : Ran). then_run q (λ v. then_run (turns k turn v) after)) d.1.0 ∙ ap (behind seen) (again m' d.0 d.1.1)

-- A loop and what stands behind it do such a run.
module _ {M : Type 0} (env : Around) (x : Name) (b : Bound) (n : ℕ) (body rest : Block) (step : M → Next M) (close : M → Ran)
    (shows : ℕ → M → World → Type 0) (small : n < 2 ^ 63)
    (does : (i : ℕ) → i < n → (k : ℕ) (m : M) (w : World) → get w x 0 ≡ Some (pos i) → shows i m w
    → Does (λ m' w'. (get w' x 0 ≡ Some (pos i)) × ((w'' : World) → Puts w' x 0 (pos (suc i)) w'' → shows (suc i) m' w'')) (step m) (run_block env k body w))
    (closes : (k : ℕ) (m : M) (w : World) → get w x 0 ≡ Some (pos n) → shows n m w → run_block env k rest w ≡ close m) where
  abbrev Shows : ℕ → M → World → Type 0
  Shows i m w = (get w x 0 ≡ Some (pos i)) × shows i m w

  turn_does : (l i : ℕ) → i < n → (m : M) (w : World) → Shows i m w → Does (Shows (suc i)) (step m) (one_turn env l x body w)
  turn_does l i h m w s = by_next (step m) (does i h (later l 1) m w s.0 s.1)
    where
      by_next : (q : Next M) → Does (λ m' w'. (get w' x 0 ≡ Some (pos i)) × ((w'' : World) → Puts w' x 0 (pos (suc i)) w'' → shows (suc i) m' w'')) q
          (run_block env (later l 1) body w) → Does (Shows (suc i)) q (one_turn env l x body w)
      by_next (ends seen e) d = (over_stays (run_block env (later l 1) body w) seen e (count_up l x) d.0 d.1, d.1)
      by_next (leads seen m') d =
          let c = count_is l x d.0 i d.1.1.0 (omega (arith, h, small)) in
          let runs : one_turn env l x body w ≡ behind seen (quietly (going c.0)) = then_seen (run_block env (later l 1) body w) seen d.0
          (count_up l x) d.1.0 ∙ ap (behind seen) c.1.0 in (
            c.0,
            (
              runs ∙ ap (λ (s : List Obs). record { seen = s; how = going c.0 }) (append-nil seen),
              (put_there d.0 c.0 x 0 (pos (suc i)) c.1.1, d.1.1.1 c.0 c.1.1),
            ),
          )

  pub for_simulates : (k : ℕ) (m : M) (w : World) → bound_value b w.slots ≡ Some (pos n) → Has w x 0 → ((w' : World) → Puts w x 0 (pos 0) w' → shows 0 m w')
      → run_block env k (next (loop x b body) rest) w ≡ run_on step close n m
  for_simulates k m w bound there start =
      loop_runs (λ r. r ≡ run_on step close n m) env k x b body rest w (pos n) bound there (λ l j first p.
      turns_simulate (one_turn env l x body) (run_block env j rest) step close Shows n (turn_does l) (λ m' w' s. closes j m' w' s.0 s.1) n 0
      (omega arith) m first (put_there w first x 0 (pos 0) p, start first p))
