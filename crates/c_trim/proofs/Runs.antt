-- A run where some variables are left out.
use Rattle.std.proofs.Common.{◌≡◌, ℕ, zero, suc, List, [], ◌∷◌, ◌++◌, map, filter, Option, Some, None, Bool, true, false, refl, sym, ap, ◌∙◌, subst, ℤ, pos, negsuc, slice_get, slice_set, if◌then◌else◌}
use Rattle.sci_base.specs.declared.observation.Obs.{Obs}
use Rattle.sci_base.specs.declared.observation.Obs.TheVariants as observed
use Rattle.c_ast.specs.declared.Name.{Name}
use Rattle.c_ast.specs.declared.Bound.{Bound}
use Rattle.c_ast.specs.declared.Bound.TheVariants as bounds
use Rattle.c_ast.specs.declared.events.TextEvent.TheVariants as events
use Rattle.c_ast.specs.Syntax.{Exp, Place, Asked, more, input, until, limit, Statement, set, ask, choice, loop, call, tell, Block, done, next, Declared, Function, Whole}
use Rattle.c_ast.specs.Events.{exp_events, place_events, asked_events, bound_events, statement_events, block_events}
use Rattle.c_mean.specs.Meaning.{Slot, World, with_slots, same_name, lookup, store, evaluate, assign, set_to, counted, column, column_place, has_left, take_left, told, How, going, undefined, over, halted, Ran, quietly, seeing, behind, on_how, then_run, needs, stored, later, how_after, Around, asked, received, bound_value, turn_count, count_up, turns, calling, run_statement, run_block, is_zero, truth, block_count, statement_count, Numbered, numbered, around, calls_of, behind_functions, first_slot, first_world, meaning, ◌>>=◌}
use Rattle.c_mean.specs.Places.{get}
use Rattle.c_mean.specs.Texts.{joined}
use Rattle.c_mean.specs.Programs.{surroundings}
use Rattle.c_trim.specs.Trim.{is_kept, trimmed}
use Rattle.c_trim.specs.Laws.{kept_world, kept_how, kept_ran, ReadsStay, MeaningStays, TurnsStay}
use Rattle.c_trim.proofs.Named.{KeepsEvents, keeps_first, keeps_second, joined_first, KeepsBodies, functions_kept, main_kept}
use Rattle.c_trim.proofs.Slots.{kept, kept_some, lookup_kept, store_kept, evaluate_kept, assign_kept, assigned_kept, counted_kept, told_kept}

-- ---- how runs go on

module _ (keep : Name → Bool) where
  pub then_kept : (r : Ran) (f g : World → Ran) → ((w : World) → f (kept_world keep w) ≡ kept_ran keep (g w))
      → then_run (kept_ran keep r) f ≡ kept_ran keep (then_run r g)
  then_kept r f g go = by_how r.seen r.how
    where
      by_how : (seen : List Obs) (h : How) → on_how seen (kept_how keep h) f ≡ kept_ran keep (on_how seen h g)
      by_how seen (going w) = ap (behind seen) (go w)
      by_how seen (undefined n) = refl
      by_how seen over = refl
      by_how seen halted = refl

  needs_kept : {A : Type 0} (n : ℕ) (o : Option A) (f g : A → Ran) → ((a : A) → f a ≡ kept_ran keep (g a)) → needs n o f ≡ kept_ran keep (needs n o g)
  needs_kept n None f g go = refl
  needs_kept n (Some a) f g go = go a

  stored_kept : (n : ℕ) (w : World) (o : Option (List Slot)) → stored n (kept_world keep w) (kept_some keep o) ≡ kept_ran keep (stored n w o)
  stored_kept n w None = refl
  stored_kept n w (Some m) = refl

  -- what goes by slots
  stored_as : (n : ℕ) (w : World) (p o : Option (List Slot)) → p ≡ kept_some keep o → stored n (kept_world keep w) p ≡ kept_ran keep (stored n w o)
  stored_as n w p o e = ap (stored n (kept_world keep w)) e ∙ stored_kept n w o

  pub turns_kept : (turn other : World → Ran) → ((w : World) → turn (kept_world keep w) ≡ kept_ran keep (other w)) → (k : ℕ) (w : World)
      → turns k turn (kept_world keep w) ≡ kept_ran keep (turns k other w)
  turns_kept turn other go zero w = refl
  turns_kept turn other go (suc k) w =
      ap (λ (r : Ran). then_run r (turns k turn)) (go w) ∙ then_kept (other w) (turns k turn) (turns k other) (λ v. turns_kept turn other go k v)

  -- ---- statements

  set_kept : (n : ℕ) (p : Place) (e : Exp) (w : World) → KeepsEvents keep (place_events p) → KeepsEvents keep (exp_events e)
      → stored n (kept_world keep w) (set_to p e (kept keep w.slots)) ≡ kept_ran keep (stored n w (set_to p e w.slots))
  set_kept n p e w h k =
      stored_as n w (set_to p e (kept keep w.slots)) (set_to p e w.slots)
      (ap (λ (o : Option ℤ). o >>= λ v. assign p v (kept keep w.slots)) (evaluate_kept keep w.slots e k)
      ∙ assigned_kept keep w.slots p (evaluate e w.slots) (λ v. v) h)

  received_kept : (p : Place) (e : Exp) (w : World) → KeepsEvents keep (place_events p) → KeepsEvents keep (exp_events e)
      → received p e (kept_world keep w) ≡ (received p e w >>= λ v. Some (kept_world keep v))
  received_kept p e w h k =
      ap (λ (o : Option ℤ). o >>= column_place >>= λ i. take_left (slice_get w.left i) >>= λ c. assign p c.0 (kept keep w.slots) >>= λ m.
      Some (let v : World = record { slots = m; left = slice_set w.left i c.1 } in v)) (evaluate_kept keep w.slots e k)
      ∙ by_value (evaluate e w.slots)
    where
      by_slots : (i : ℕ) (c : ℤ × List ℤ) (o : Option (List Slot))
          → (kept_some keep o >>= λ m. Some (let v : World = record { slots = m; left = slice_set w.left i c.1 } in v))
          ≡ ((o >>= λ m. Some (let v : World = record { slots = m; left = slice_set w.left i c.1 } in v)) >>= λ v. Some (kept_world keep v))
      by_slots i c None = refl
      by_slots i c (Some m) = refl

      by_column : (i : ℕ) (c : Option (ℤ × List ℤ))
          → (c >>= λ c. assign p c.0 (kept keep w.slots) >>= λ m. Some (let v : World = record { slots = m; left = slice_set w.left i c.1 } in v))
          ≡ ((c >>= λ c. assign p c.0 w.slots >>= λ m. Some (let v : World = record { slots = m; left = slice_set w.left i c.1 } in v))
          >>= λ v. Some (kept_world keep v))
      by_column i None = refl
      by_column i (Some c) =
          ap (λ (o : Option (List Slot)). o >>= λ m. Some (let v : World = record { slots = m; left = slice_set w.left i c.1 } in v))
          (assign_kept keep w.slots p c.0 h) ∙ by_slots i c (assign p c.0 w.slots)

      by_place : (i : Option ℕ)
          → (i >>= λ i. take_left (slice_get w.left i) >>= λ c. assign p c.0 (kept keep w.slots) >>= λ m.
          Some (let v : World = record { slots = m; left = slice_set w.left i c.1 } in v))
          ≡ ((i >>= λ i. take_left (slice_get w.left i) >>= λ c. assign p c.0 w.slots >>= λ m.
          Some (let v : World = record { slots = m; left = slice_set w.left i c.1 } in v)) >>= λ v. Some (kept_world keep v))
      by_place None = refl
      by_place (Some i) = by_column i (take_left (slice_get w.left i))

      by_value : (o : Option ℤ)
          → (o >>= column_place >>= λ i. take_left (slice_get w.left i) >>= λ c. assign p c.0 (kept keep w.slots) >>= λ m.
          Some (let v : World = record { slots = m; left = slice_set w.left i c.1 } in v))
          ≡ ((o >>= column_place >>= λ i. take_left (slice_get w.left i) >>= λ c. assign p c.0 w.slots >>= λ m.
          Some (let v : World = record { slots = m; left = slice_set w.left i c.1 } in v)) >>= λ v. Some (kept_world keep v))
      by_value o = by_place (o >>= column_place)

  gone_on : (n : ℕ) (o : Option World) → needs n (o >>= λ v. Some (kept_world keep v)) (λ v. quietly (going v)) ≡ kept_ran keep (needs n o (λ v. quietly (going v)))
  gone_on n None = refl
  gone_on n (Some v) = refl

  asked_kept : (last most : ℤ) (n : ℕ) (p : Place) (q : Asked) (w : World) → KeepsEvents keep (place_events p) → KeepsEvents keep (asked_events q)
      → asked last most n p q (kept_world keep w) ≡ kept_ran keep (asked last most n p q w)
  asked_kept last most n p (more e) w h k =
      stored_as n w _ _
      (ap (λ (o : Option ℤ). o >>= λ c. assign p (truth (has_left (column w.left c))) (kept keep w.slots)) (evaluate_kept keep w.slots e k)
      ∙ assigned_kept keep w.slots p (evaluate e w.slots) (λ c. truth (has_left (column w.left c))) h)
  asked_kept last most n p (input e) w h k =
      ap (λ (o : Option World). needs n o (λ v. quietly (going v))) (received_kept p e w h k) ∙ gone_on n (received p e w)
  asked_kept last most n p until w h k = stored_as n w _ _ (assign_kept keep w.slots p last h)
  asked_kept last most n p limit w h k = stored_as n w _ _ (assign_kept keep w.slots p most h)

  observed_kept : (o : Obs) (w : World) → how_after o (kept_world keep w) ≡ kept_how keep (how_after o w)
  observed_kept observed.Start w = refl
  observed_kept (observed.Event a b c) w = refl
  observed_kept (observed.Val a b c d) w = refl
  observed_kept (observed.End x) w = refl
  observed_kept (observed.Stop x b c) w = refl

  bound_kept : (b : Bound) (m : List Slot) → KeepsEvents keep (bound_events b) → bound_value b (kept keep m) ≡ bound_value b m
  bound_kept (bounds.Num z) m h = refl
  bound_kept (bounds.Var x) m h = lookup_kept keep m x 0 h.0

  count_kept : (n : ℕ) (x : Name) (w : World) → keep x ≡ true → count_up n x (kept_world keep w) ≡ kept_ran keep (count_up n x w)
  count_kept n x w h = stored_as n w _ _ (counted_kept keep w.slots x h)

  -- what is called does the same
  abbrev pub CallsStay : Around → Type 0
  CallsStay env = (f : Name) (run : World → Ran) → env.calls f ≡ Some run → (w : World) → run (kept_world keep w) ≡ kept_ran keep (run w)

  called_kept : (n : ℕ) (o : Option (World → Ran)) (w : World) → ((run : World → Ran) → o ≡ Some run → run (kept_world keep w) ≡ kept_ran keep (run w))
      → needs n o (λ run. run (kept_world keep w)) ≡ kept_ran keep (needs n o (λ run. run w))
  called_kept n None w h = refl
  called_kept n (Some run) w h = h run refl

  module _ (env : Around) (calls : CallsStay env) where
    mutual
      unfolding run_block

      pub statement_kept : (s : Statement) → KeepsEvents keep (statement_events s) → (n : ℕ) (w : World)
          → run_statement env n s (kept_world keep w) ≡ kept_ran keep (run_statement env n s w)
      statement_kept (set p e) h n w = set_kept n p e w (keeps_first keep (place_events p) (exp_events e) h) (keeps_second keep (place_events p) (exp_events e) h)
      statement_kept (ask p q) h n w =
          asked_kept env.until env.limit n p q w (keeps_first keep (place_events p) (asked_events q) h) (keeps_second keep (place_events p) (asked_events q) h)
      statement_kept (choice e a b) h n w =
          let rest = (keeps_second keep (exp_events e) (events.If ∷ (block_events a ++ (block_events b ++ events.Close ∷ []))) h).1 in
          let first = keeps_first keep (block_events a) (block_events b ++ events.Close ∷ []) rest in
          let second = keeps_first keep (block_events b) (events.Close ∷ []) (keeps_second keep (block_events a) (block_events b ++ events.Close ∷ []) rest) in
          ap (λ (o : Option ℤ). needs n o (λ v. if is_zero v then run_block env (later (later n 1) (block_count a)) b (kept_world keep w) else
          run_block env (later n 1) a (kept_world keep w)))
          (evaluate_kept keep w.slots e (keeps_first keep (exp_events e) (events.If ∷ (block_events a ++ (block_events b ++ events.Close ∷ []))) h))
          ∙ needs_kept n (evaluate e w.slots) _ _ (λ v. by_test (is_zero v) (block_kept a first (later n 1) w)
          (block_kept b second (later (later n 1) (block_count a)) w))
        where
          by_test : (t : Bool) → run_block env (later n 1) a (kept_world keep w) ≡ kept_ran keep (run_block env (later n 1) a w)
              → run_block env (later (later n 1) (block_count a)) b (kept_world keep w) ≡ kept_ran keep (run_block env (later (later n 1) (block_count a)) b w)
              → (if t then run_block env (later (later n 1) (block_count a)) b (kept_world keep w) else run_block env (later n 1) a (kept_world keep w))
              ≡ kept_ran keep (if t then run_block env (later (later n 1) (block_count a)) b w else run_block env (later n 1) a w)
          by_test true p q = q
          by_test false p q = p
      statement_kept (loop x b s) h n w =
          let bound = keeps_first keep (bound_events b) (block_events s ++ events.Close ∷ []) h.1 in
          let body = keeps_first keep (block_events s) (events.Close ∷ []) (keeps_second keep (bound_events b) (block_events s ++ events.Close ∷ []) h.1) in
          ap (λ (o : Option ℤ). needs n o (λ v. needs n (store (kept keep w.slots) x 0 (pos 0)) (λ m.
          turns (turn_count v) (λ w. then_run (run_block env (later n 1) s w) (count_up n x)) (with_slots w m)))) (bound_kept b w.slots bound)
          ∙ needs_kept n (bound_value b w.slots) _ _ (λ v.
          ap (λ (o : Option (List Slot)). needs n o (λ m. turns (turn_count v) (λ w. then_run (run_block env (later n 1) s w) (count_up n x)) (with_slots w m)))
          (store_kept keep w.slots x 0 (pos 0) h.0) ∙ by_slots (turn_count v) (store w.slots x 0 (pos 0)) (λ u.
          ap (λ (r : Ran). then_run r (count_up n x)) (block_kept s body (later n 1) u)
          ∙ then_kept (run_block env (later n 1) s u) (count_up n x) (count_up n x) (λ u'. count_kept n x u' h.0)))
        where
          by_slots : (k : ℕ) (o : Option (List Slot))
              → ((u : World) → then_run (run_block env (later n 1) s (kept_world keep u)) (count_up n x)
              ≡ kept_ran keep (then_run (run_block env (later n 1) s u) (count_up n x)))
              → needs n (kept_some keep o) (λ m. turns k (λ w. then_run (run_block env (later n 1) s w) (count_up n x)) (with_slots w m))
              ≡ kept_ran keep (needs n o (λ m. turns k (λ w. then_run (run_block env (later n 1) s w) (count_up n x)) (with_slots w m)))
          by_slots k None go = refl
          by_slots k (Some m) go =
              turns_kept (λ w. then_run (run_block env (later n 1) s w) (count_up n x)) (λ w. then_run (run_block env (later n 1) s w) (count_up n x)) go k
              (with_slots w m)
      statement_kept (call f) h n w = called_kept n (env.calls f) w (λ run is. calls f run is w)
      statement_kept (tell t) h n w =
          ap (λ (o : Option Obs). needs n o (λ o. seeing o (how_after o (kept_world keep w)))) (told_kept keep w.slots t h)
          ∙ needs_kept n (told t w.slots) _ _ (λ o. ap (seeing o) (observed_kept o w))

      pub block_kept : (b : Block) → KeepsEvents keep (block_events b) → (n : ℕ) (w : World)
          → run_block env n b (kept_world keep w) ≡ kept_ran keep (run_block env n b w)
      block_kept done h n w = refl
      block_kept (next s b) h n w =
          ap (λ (r : Ran). then_run r (run_block env (later n (statement_count s)) b)) (statement_kept s (keeps_first keep (statement_events s) (block_events b) h) n w)
          ∙ then_kept (run_statement env n s w) (run_block env (later n (statement_count s)) b) (run_block env (later n (statement_count s)) b)
          (λ v. block_kept b (keeps_second keep (statement_events s) (block_events b) h) (later n (statement_count s)) v)

  -- ---- functions

  abbrev KeepsNumbered : List Numbered → Type 0
  KeepsNumbered [] = Unit {0}
  KeepsNumbered (g ∷ gs) = KeepsEvents keep (block_events g.body) × KeepsNumbered gs

  numbered_kept : (n : ℕ) (fs : List Function) (before : List Numbered) → KeepsBodies keep fs → KeepsNumbered before → KeepsNumbered (numbered n fs before)
  numbered_kept n [] before h k = k
  numbered_kept n (f ∷ fs) before h k =
      numbered_kept (later n (block_count f.body)) fs (record { name = f.name; first = n; body = f.body } ∷ before) h.1 (h.0, k)

  some_run : (a b : World → Ran) → Some a ≡ Some b → a ≡ b
  some_run a b e = cc

  calls_kept : (gs : List Numbered) (last most : ℤ) → KeepsNumbered gs → CallsStay (around (calls_of gs last most) last most)
  calls_kept [] last most h f run is w = cc
  calls_kept (g ∷ gs) last most h f run is w = by_name (calls_kept gs last most h.1) (same_name g.name f) refl is
    where
      own : World → Ran
      own = run_block (around (calls_of gs last most) last most) g.first g.body

      by_name : CallsStay (around (calls_of gs last most) last most) → (t : Bool) → same_name g.name f ≡ t
          → (if t then Some own else calls_of gs last most f) ≡ Some run → run (kept_world keep w) ≡ kept_ran keep (run w)
      by_name go true q e =
          subst (λ (r : World → Ran). r (kept_world keep w) ≡ kept_ran keep (r w)) (some_run own run e)
          (block_kept (around (calls_of gs last most) last most) go g.body h.0 g.first w)
      by_name go false q e = go f run e w

  pub surroundings_kept : (fs : List Function) (last most : ℤ) → KeepsBodies keep fs → CallsStay (surroundings fs last most)
  surroundings_kept fs last most h = calls_kept (numbered 1 fs []) last most (numbered_kept 1 fs [] h tt)

  -- ---- at the beginning

  first_kept : (ds : List Declared) → map first_slot (filter (λ (d : Declared). keep d.name) ds) ≡ kept keep (map first_slot ds)
  first_kept [] = refl
  first_kept (d ∷ ds) = by_test (first_kept ds) (keep d.name)
    where
      by_test : map first_slot (filter (λ (d : Declared). keep d.name) ds) ≡ kept keep (map first_slot ds) → (t : Bool)
          → map first_slot (if t then d ∷ filter (λ (d : Declared). keep d.name) ds else filter (λ (d : Declared). keep d.name) ds)
          ≡ (if t then first_slot d ∷ kept keep (map first_slot ds) else kept keep (map first_slot ds))
      by_test go true = ap (λ (m : List Slot). first_slot d ∷ m) go
      by_test go false = go

-- ---- programs

pub reads_stay : ReadsStay
reads_stay keep w x i h = lookup_kept keep w.slots x i h

module _ (p : Whole) (columns : List (List ℤ)) where
  abbrev keep : Name → Bool
  keep = is_kept p

  first_is : first_world (trimmed p) columns ≡ kept_world keep (first_world p columns)
  first_is = ap (λ (m : List Slot). let w : World = record { slots = m; left = columns } in w) (first_kept keep p.decls)

  -- a variable that is kept is there at the beginning as it was
  pub first_reads : (x : Name) (j : ℕ) → is_kept p x ≡ true → get (first_world (trimmed p) columns) x j ≡ get (first_world p columns) x j
  first_reads x j h = ap (λ (w : World). get w x j) first_is ∙ reads_stay keep (first_world p columns) x j h

  calls_stay : (last most : ℤ) → CallsStay keep (surroundings p.funcs last most)
  calls_stay last most = surroundings_kept keep p.funcs last most (functions_kept p)

  meaning_kept : (last most : ℤ) → meaning (trimmed p) columns last most ≡ kept_ran keep (meaning p columns last most)
  unfolding meaning
  meaning_kept last most =
      ap (run_block (surroundings p.funcs last most) (behind_functions 1 p.funcs) p.main) first_is
      ∙ block_kept keep (surroundings p.funcs last most) (calls_stay last most) p.main (main_kept p) (behind_functions 1 p.funcs) (first_world p columns)

  module _ (last most : ℤ) (begin rest : Block) (f : Name) (k : ℕ) (parted : p.main ≡ joined begin rest) where
    abbrev env : Around
    env = surroundings p.funcs last most

    abbrev number : ℕ
    number = behind_functions 1 p.funcs

    begin_kept : KeepsEvents keep (block_events begin)
    begin_kept = joined_first keep begin rest (subst (λ (b : Block). KeepsEvents keep (block_events b)) parted (main_kept p))

    turns_stay_here : then_run (run_block env number begin (first_world (trimmed p) columns)) (turns k (calling env number f))
        ≡ kept_ran keep (then_run (run_block env number begin (first_world p columns)) (turns k (calling env number f)))
    turns_stay_here =
        ap (λ (w : World). then_run (run_block env number begin w) (turns k (calling env number f))) first_is
        ∙ (ap (λ (r : Ran). then_run r (turns k (calling env number f))) (block_kept keep env (calls_stay last most) begin begin_kept number (first_world p columns))
        ∙ then_kept keep (run_block env number begin (first_world p columns)) (turns k (calling env number f)) (turns k (calling env number f))
        (λ w. turns_kept keep (calling env number f) (calling env number f)
        (λ v. called_kept keep number (env.calls f) v (λ run is. calls_stay last most f run is v)) k w))

pub meaning_stays : MeaningStays
meaning_stays p columns last most = meaning_kept p columns last most

pub turns_stay : TurnsStay
turns_stay p begin rest f columns last most k parted = turns_stay_here p columns last most begin rest f k parted
