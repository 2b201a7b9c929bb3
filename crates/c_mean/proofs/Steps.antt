-- How a run over a list of statements goes, one statement at a time. Q is what is to be shown of the run.
use Rattle.std.proofs.Common.{◌≡◌, ℕ, suc, List, [], ◌∷◌, ◌++◌, Option, Some, Bool, true, false, refl, sym, ap, ◌∙◌, subst, ℤ, pos, if◌then◌else◌, slice_get, slice_set, append_assoc}
use Rattle.sci_base.specs.declared.observation.Obs.{Obs}
use Rattle.sci_base.specs.declared.observation.Obs.TheVariants.{Start, Event, Val, End, Stop}
use Rattle.sci_base.specs.declared.observation.EndWord.{EndWord}
use Rattle.sci_base.specs.declared.observation.StopWord.{StopWord}
use Rattle.c_ast.specs.declared.Name.{Name}
use Rattle.c_ast.specs.Syntax.{Exp, num, Place, scalar, cell, more, input, until, limit, Told, start, event, value, finish, stop, set, ask, choice, call, tell, Block, done, next}
use Rattle.c_mean.specs.Meaning.{Slot, World, with_slots, store, assign, index, is_zero, truth, column, has_left, Ran, How, going, undefined, over, halted, quietly, seeing, behind, on_how, then_run, how_after, told, end_word, stop_word, later, statement_count, block_count, Around, received, run_statement, run_block, ◌>>=◌}
use Rattle.c_mean.specs.Places.{get, value_of, IsAt, Has, Puts, Takes}
use Rattle.c_mean.specs.Texts.{joined}
use Rattle.c_mean.specs.Runs.{Leads, Stops, Ends}
use Rattle.c_mean.proofs.Memory.{store_at, puts_same}

-- ---- one run behind another

pub then_assoc : (r : Ran) (f g : World → Ran) → then_run (then_run r f) g ≡ then_run r (λ w. then_run (f w) g)
then_assoc r f g = by_how r.seen r.how
  where
    twice : (seen s : List Obs) (h : How) → on_how (seen ++ s) h g ≡ behind seen (on_how s h g)
    twice seen s (going w) = ap (λ (l : List Obs). record { seen = l; how = (g w).how }) (append_assoc seen s (g w).seen)
    twice seen s (undefined n) = refl
    twice seen s over = refl
    twice seen s halted = refl

    by_how : (seen : List Obs) (h : How) → then_run (on_how seen h f) g ≡ on_how seen h (λ w. then_run (f w) g)
    by_how seen (going w) = twice seen (f w).seen (f w).how
    by_how seen (undefined n) = refl
    by_how seen over = refl
    by_how seen halted = refl

pub then_same : (r : Ran) (f g : World → Ran) → ((w : World) → f w ≡ g w) → then_run r f ≡ then_run r g
then_same r f g h = by_how r.seen r.how
  where
    by_how : (seen : List Obs) (k : How) → on_how seen k f ≡ on_how seen k g
    by_how seen (going w) = ap (behind seen) (h w)
    by_how seen (undefined n) = refl
    by_how seen over = refl
    by_how seen halted = refl

pub then_going : (r : Ran) (w : World) (f : World → Ran) → r ≡ quietly (going w) → then_run r f ≡ f w
then_going r w f e = ap (λ (q : Ran). then_run q f) e

pub then_seen : (r : Ran) (seen : List Obs) (w : World) (f : World → Ran) → r ≡ record { seen = seen; how = going w } → then_run r f ≡ behind seen (f w)
then_seen r seen w f e = ap (λ (q : Ran). then_run q f) e

pub then_stops : (r : Ran) (f : World → Ran) (word : StopWord) (block : ℕ) → Stops r word block → Stops (then_run r f) word block
then_stops r f word block e = ap (λ (q : Ran). then_run q f) e

pub then_ends : (r : Ran) (f : World → Ran) (word : EndWord) → Ends r word → Ends (then_run r f) word
then_ends r f word e = ap (λ (q : Ran). then_run q f) e

pub then_leads : {P P' : World → Type 0} (r : Ran) (f : World → Ran) → Leads r P → ((w : World) → P w → Leads (f w) P') → Leads (then_run r f) P'
then_leads r f l go = let g = go l.to l.holds in record { to = g.to; is = then_going r l.to f l.is ∙ g.is; holds = g.holds }

pub leads_as : {P P' : World → Type 0} (r : Ran) → ((w : World) → P w → P' w) → Leads r P → Leads r P'
leads_as r f l = record { to = l.to; is = l.is; holds = f l.to l.holds }

-- what follows a run that leads on
pub on_leads : {P : World → Type 0} (Q : Ran → Type 0) (r : Ran) (f : World → Ran) → Leads r P → ((w : World) → P w → Q (f w)) → Q (then_run r f)
on_leads Q r f l go = subst Q (sym (then_going r l.to f l.is)) (go l.to l.holds)

behind_nothing : (r : Ran) → behind [] r ≡ r
behind_nothing r = refl

pub behind_twice : (a b : List Obs) (r : Ran) → behind a (behind b r) ≡ behind (a ++ b) r
behind_twice a b r = ap (λ (l : List Obs). record { seen = l; how = r.how }) (sym (append_assoc a b r.seen))

-- ---- joined texts

-- the number of the statement behind a list
abbrev pub number_after : Block → ℕ → ℕ
number_after done n = n
number_after (next s a) n = number_after a (later n (statement_count s))

pub run_joined : (env : Around) (a b : Block) (n : ℕ) (w : World)
    → run_block env n (joined a b) w ≡ then_run (run_block env n a w) (run_block env (number_after a n) b)
unfolding run_block
run_joined env done b n w = refl
run_joined env (next s a) b n w =
    then_same (run_statement env n s w) _ _ (run_joined env a b (later n (statement_count s)))
    ∙ sym (then_assoc (run_statement env n s w) (run_block env (later n (statement_count s)) a)
    (run_block env (number_after a (later n (statement_count s))) b))

pub joined_runs : (Q : Ran → Type 0) (env : Around) (n : ℕ) (a b : Block) (w : World) → ((k : ℕ) → Q (then_run (run_block env n a w) (run_block env k b)))
    → Q (run_block env n (joined a b) w)
joined_runs Q env n a b w go = subst Q (sym (run_joined env a b n w)) (go (number_after a n))

-- where the first text leads on
pub joined_leads : {P : World → Type 0} (Q : Ran → Type 0) (env : Around) (n : ℕ) (a b : Block) (w : World) → Leads (run_block env n a w) P
    → ((k : ℕ) (w' : World) → P w' → Q (run_block env k b w')) → Q (run_block env n (joined a b) w)
joined_leads Q env n a b w l go = joined_runs Q env n a b w (λ k. on_leads Q (run_block env n a w) (run_block env k b) l (go k))

pub joined_assoc : (a b c : Block) → joined (joined a b) c ≡ joined a (joined b c)
joined_assoc done b c = refl
joined_assoc (next s a) b c = ap (next s) (joined_assoc a b c)

pub joined_done : (a : Block) → joined a done ≡ a
joined_done done = refl
joined_done (next s a) = ap (next s) (joined_done a)

-- ---- no statement

pub run_done : (env : Around) (n : ℕ) (w : World) → run_block env n done w ≡ quietly (going w)
unfolding run_block
run_done env n w = refl

pub done_runs : (Q : Ran → Type 0) (env : Around) (n : ℕ) (w : World) (f : World → Ran) → Q (f w) → Q (then_run (run_block env n done w) f)
unfolding run_block
done_runs Q env n w f h = h

pub done_leads : {P : World → Type 0} (env : Around) (n : ℕ) (w : World) → P w → Leads (run_block env n done w) P
done_leads env n w h = record { to = w; is = run_done env n w; holds = h }

-- ---- assignments

-- what is assigned to a place is stored there
assign_is : (p : Place) (x : Name) (i : ℕ) (v : ℤ) (w : World) → IsAt p w x i → assign p v w.slots ≡ store w.slots x i v
assign_is (scalar y) x i v w h = ap (λ (z : Name). store w.slots z 0 v) h.0 ∙ ap (λ (j : ℕ). store w.slots x j v) (sym h.1)
assign_is (cell y e) x i v w h = ap (λ (o : Option ℤ). o >>= λ z. index z >>= λ j. store w.slots y j v) h.1 ∙ ap (λ (z : Name). store w.slots z i v) h.0

assigned : (p : Place) (x : Name) (i : ℕ) (v : ℤ) (w : World) → IsAt p w x i → Has w x i
    → (m : List Slot) × ((assign p v w.slots ≡ Some m) × Puts w x i v (with_slots w m))
assigned p x i v w h there = let r = store_at w x i v there in (r.0, (assign_is p x i v w h ∙ r.1.0, r.1.1))

pub set_runs : (Q : Ran → Type 0) (env : Around) (n : ℕ) (p : Place) (e : Exp) (rest : Block) (w : World) (x : Name) (i : ℕ) (v : ℤ)
    → IsAt p w x i → value_of e w ≡ Some v → Has w x i → ((k : ℕ) (w' : World) → Puts w x i v w' → Q (run_block env k rest w'))
    → Q (run_block env n (next (set p e) rest) w)
unfolding run_block
set_runs Q env n p e rest w x i v at is h go =
    let r = assigned p x i v w at h in
    let to = with_slots w r.0 in
    let runs : run_block env n (next (set p e) rest) w ≡ run_block env (later n 1) rest to = rw (is, r.1.0) refl in
    subst Q (sym runs) (go (later n 1) to r.1.1)

pub let_runs : (Q : Ran → Type 0) (env : Around) (n : ℕ) (x : Name) (e : Exp) (rest : Block) (w : World) (v : ℤ)
    → value_of e w ≡ Some v → Has w x 0 → ((k : ℕ) (w' : World) → Puts w x 0 v w' → Q (run_block env k rest w'))
    → Q (run_block env n (next (set (scalar x) e) rest) w)
let_runs Q env n x e rest w v is h go = set_runs Q env n (scalar x) e rest w x 0 v (refl, refl) is h go

pub cell_runs : (Q : Ran → Type 0) (env : Around) (n : ℕ) (x : Name) (i : ℕ) (e : Exp) (rest : Block) (w : World) (v : ℤ)
    → value_of e w ≡ Some v → Has w x i → ((k : ℕ) (w' : World) → Puts w x i v w' → Q (run_block env k rest w'))
    → Q (run_block env n (next (set (cell x (num (pos i))) e) rest) w)
cell_runs Q env n x i e rest w v is h go = set_runs Q env n (cell x (num (pos i))) e rest w x i v (refl, refl) is h go

-- an element whose index is computed
pub element_runs : (Q : Ran → Type 0) (env : Around) (n : ℕ) (x : Name) (a e : Exp) (rest : Block) (w : World) (i : ℕ) (v : ℤ)
    → value_of a w ≡ Some (pos i) → value_of e w ≡ Some v → Has w x i → ((k : ℕ) (w' : World) → Puts w x i v w' → Q (run_block env k rest w'))
    → Q (run_block env n (next (set (cell x a) e) rest) w)
element_runs Q env n x a e rest w i v at is h go = set_runs Q env n (cell x a) e rest w x i v (refl, at) is h go

-- ---- choices

pub choice_is : (env : Around) (n : ℕ) (e : Exp) (a b rest : Block) (w : World) (v : ℤ) → value_of e w ≡ Some v
    → run_block env n (next (choice e a b) rest) w ≡ then_run
    (if is_zero v then run_block env (later (later n 1) (block_count a)) b w else run_block env (later n 1) a w)
    (run_block env (later n (statement_count (choice e a b))) rest)
unfolding run_block
choice_is env n e a b rest w v is = rw is refl

-- by the truth of a test
pub test_runs : (Q : Ran → Type 0) (env : Around) (n : ℕ) (e : Exp) (a b rest : Block) (w : World) (t : Bool) → value_of e w ≡ Some (truth t)
    → ((k l m : ℕ) → Q (then_run (if t then run_block env k a w else run_block env l b w) (run_block env m rest)))
    → Q (run_block env n (next (choice e a b) rest) w)
test_runs Q env n e a b rest w true is go =
    subst Q (sym (choice_is env n e a b rest w (pos 1) is)) (go (later n 1) (later (later n 1) (block_count a)) (later n (statement_count (choice e a b))))
test_runs Q env n e a b rest w false is go =
    subst Q (sym (choice_is env n e a b rest w (pos 0) is)) (go (later n 1) (later (later n 1) (block_count a)) (later n (statement_count (choice e a b))))

pub if_runs : (Q : Ran → Type 0) (env : Around) (n : ℕ) (e : Exp) (a b rest : Block) (w : World) → value_of e w ≡ Some (pos 1)
    → ((k m : ℕ) → Q (then_run (run_block env k a w) (run_block env m rest))) → Q (run_block env n (next (choice e a b) rest) w)
if_runs Q env n e a b rest w is go = test_runs Q env n e a b rest w true is (λ k l m. go k m)

pub else_runs : (Q : Ran → Type 0) (env : Around) (n : ℕ) (e : Exp) (a b rest : Block) (w : World) → value_of e w ≡ Some (pos 0)
    → ((k m : ℕ) → Q (then_run (run_block env k b w) (run_block env m rest))) → Q (run_block env n (next (choice e a b) rest) w)
else_runs Q env n e a b rest w is go = test_runs Q env n e a b rest w false is (λ k l m. go l m)

-- the list is skipped
pub skip_runs : (Q : Ran → Type 0) (env : Around) (n : ℕ) (e : Exp) (a rest : Block) (w : World) → value_of e w ≡ Some (pos 0)
    → ((m : ℕ) → Q (run_block env m rest w)) → Q (run_block env n (next (choice e a done) rest) w)
skip_runs Q env n e a rest w is go = else_runs Q env n e a done rest w is (λ k m. done_runs Q env k w (run_block env m rest) (go m))

-- an assignment under a test: where it doesn't hold, the place has its old value
pub pick_place : (Q : Ran → Type 0) (env : Around) (n : ℕ) (test : Exp) (p : Place) (e : Exp) (rest : Block) (w : World) (x : Name) (i : ℕ) (u : Bool)
    (z v : ℤ)
    → value_of test w ≡ Some (truth u) → IsAt p w x i → get w x i ≡ Some z → (u ≡ true → value_of e w ≡ Some v)
    → ((k : ℕ) (w' : World) → Puts w x i (if u then v else z) w' → Q (run_block env k rest w'))
    → Q (run_block env n (next (choice test (next (set p e) done) done) rest) w)
pick_place Q env n test p e rest w x i true z v t at is f go =
    if_runs Q env n test (next (set p e) done) done rest w t (λ k m.
    set_runs (λ r. Q (then_run r (run_block env m rest))) env k p e done w x i v at (f refl) (record { holds = z; is = is }) (λ k' w' put.
    done_runs Q env k' w' (run_block env m rest) (go m w' put)))
pick_place Q env n test p e rest w x i false z v t at is f go = skip_runs Q env n test (next (set p e) done) rest w t (λ m. go m w (puts_same w x i z is))

pub pick : (Q : Ran → Type 0) (env : Around) (n : ℕ) (test : Exp) (x : Name) (e : Exp) (rest : Block) (w : World) (u : Bool) (z v : ℤ)
    → value_of test w ≡ Some (truth u) → get w x 0 ≡ Some z → (u ≡ true → value_of e w ≡ Some v)
    → ((k : ℕ) (w' : World) → Puts w x 0 (if u then v else z) w' → Q (run_block env k rest w'))
    → Q (run_block env n (next (choice test (next (set (scalar x) e) done) done) rest) w)
pick Q env n test x e rest w u z v t is f go = pick_place Q env n test (scalar x) e rest w x 0 u z v t (refl, refl) is f go

pub pick_cell : (Q : Ran → Type 0) (env : Around) (n : ℕ) (test : Exp) (x : Name) (i : ℕ) (e : Exp) (rest : Block) (w : World) (u : Bool) (z v : ℤ)
    → value_of test w ≡ Some (truth u) → get w x i ≡ Some z → (u ≡ true → value_of e w ≡ Some v)
    → ((k : ℕ) (w' : World) → Puts w x i (if u then v else z) w' → Q (run_block env k rest w'))
    → Q (run_block env n (next (choice test (next (set (cell x (num (pos i))) e) done) done) rest) w)
pick_cell Q env n test x i e rest w u z v t is f go = pick_place Q env n test (cell x (num (pos i))) e rest w x i u z v t (refl, refl) is f go

-- ---- questions

pub more_runs : (Q : Ran → Type 0) (env : Around) (n : ℕ) (p : Place) (e : Exp) (rest : Block) (w : World) (x : Name) (i : ℕ) (c : ℤ)
    → IsAt p w x i → value_of e w ≡ Some c → Has w x i
    → ((k : ℕ) (w' : World) → Puts w x i (truth (has_left (column w.left c))) w' → Q (run_block env k rest w'))
    → Q (run_block env n (next (ask p (more e)) rest) w)
unfolding run_block
more_runs Q env n p e rest w x i c at is h go =
    let r = assigned p x i (truth (has_left (column w.left c))) w at h in
    let to = with_slots w r.0 in
    let runs : run_block env n (next (ask p (more e)) rest) w ≡ run_block env (later n 1) rest to = rw (is, r.1.0) refl in
    subst Q (sym runs) (go (later n 1) to r.1.1)

pub until_runs : (Q : Ran → Type 0) (env : Around) (n : ℕ) (p : Place) (rest : Block) (w : World) (x : Name) (i : ℕ)
    → IsAt p w x i → Has w x i → ((k : ℕ) (w' : World) → Puts w x i env.until w' → Q (run_block env k rest w'))
    → Q (run_block env n (next (ask p until) rest) w)
unfolding run_block
until_runs Q env n p rest w x i at h go =
    let r = assigned p x i env.until w at h in
    let to = with_slots w r.0 in
    let runs : run_block env n (next (ask p until) rest) w ≡ run_block env (later n 1) rest to = rw r.1.0 refl in
    subst Q (sym runs) (go (later n 1) to r.1.1)

pub limit_runs : (Q : Ran → Type 0) (env : Around) (n : ℕ) (p : Place) (rest : Block) (w : World) (x : Name) (i : ℕ)
    → IsAt p w x i → Has w x i → ((k : ℕ) (w' : World) → Puts w x i env.limit w' → Q (run_block env k rest w'))
    → Q (run_block env n (next (ask p limit) rest) w)
unfolding run_block
limit_runs Q env n p rest w x i at h go =
    let r = assigned p x i env.limit w at h in
    let to = with_slots w r.0 in
    let runs : run_block env n (next (ask p limit) rest) w ≡ run_block env (later n 1) rest to = rw r.1.0 refl in
    subst Q (sym runs) (go (later n 1) to r.1.1)

received_is : (p : Place) (e : Exp) (w : World) (x : Name) (i c : ℕ) (v : ℤ) (vs : List ℤ) (m : List Slot)
    → value_of e w ≡ Some (pos (suc c)) → slice_get w.left c ≡ Some (v ∷ vs) → assign p v w.slots ≡ Some m
    → received p e w ≡ Some (record { slots = m; left = slice_set w.left c vs })
received_is p e w x i c v vs m is column into = rw (is, column, into) refl

-- the next value of a column that has one
pub input_runs : (Q : Ran → Type 0) (env : Around) (n : ℕ) (p : Place) (e : Exp) (rest : Block) (w : World) (x : Name) (i c : ℕ) (v : ℤ) (vs : List ℤ)
    → IsAt p w x i → value_of e w ≡ Some (pos (suc c)) → slice_get w.left c ≡ Some (v ∷ vs) → Has w x i
    → ((k : ℕ) (w' : World) → Takes w x i c v vs w' → Q (run_block env k rest w')) → Q (run_block env n (next (ask p (input e)) rest) w)
unfolding run_block
input_runs Q env n p e rest w x i c v vs at is column h go =
    let r = assigned p x i v w at h in
    let to : World = record { slots = r.0; left = slice_set w.left c vs } in
    let runs : run_block env n (next (ask p (input e)) rest) w ≡ run_block env (later n 1) rest to = rw
    (received_is p e w x i c v vs r.0 is column r.1.0) refl in
    subst Q (sym runs) (go (later n 1) to (record { places = r.1.1.places; left = refl }))

-- ---- calls

pub call_runs : (Q : Ran → Type 0) (env : Around) (n : ℕ) (f : Name) (rest : Block) (w : World) (run : World → Ran)
    → env.calls f ≡ Some run → ((k : ℕ) → Q (then_run (run w) (run_block env k rest))) → Q (run_block env n (next (call f) rest) w)
unfolding run_block
call_runs Q env n f rest w run is go =
    let runs : run_block env n (next (call f) rest) w ≡ then_run (run w) (run_block env (later n 1) rest) = rw is refl in
    subst Q (sym runs) (go (later n 1))

-- where what is called leads on
pub call_leads : {P : World → Type 0} (Q : Ran → Type 0) (env : Around) (n : ℕ) (f : Name) (rest : Block) (w : World) (run : World → Ran)
    → env.calls f ≡ Some run → Leads (run w) P → ((k : ℕ) (w' : World) → P w' → Q (run_block env k rest w')) → Q (run_block env n (next (call f) rest) w)
call_leads Q env n f rest w run is l go = call_runs Q env n f rest w run is (λ k. on_leads Q (run w) (run_block env k rest) l (go k))

-- ---- observations

tell_is : (env : Around) (n : ℕ) (t : Told) (rest : Block) (w : World) (o : Obs) → told t w.slots ≡ Some o
    → run_block env n (next (tell t) rest) w ≡ then_run (seeing o (how_after o w)) (run_block env (later n 1) rest)
unfolding run_block
tell_is env n t rest w o is = rw is refl

pub start_runs : (Q : Ran → Type 0) (env : Around) (n : ℕ) (rest : Block) (w : World) → ((k : ℕ) → Q (behind (Start ∷ []) (run_block env k rest w)))
    → Q (run_block env n (next (tell start) rest) w)
start_runs Q env n rest w go = subst Q (sym (tell_is env n start rest w Start refl)) (go (later n 1))

pub event_runs : (Q : Ran → Type 0) (env : Around) (n : ℕ) (a b c : Exp) (rest : Block) (w : World) (x y z : ℤ)
    → value_of a w ≡ Some x → value_of b w ≡ Some y → value_of c w ≡ Some z → ((k : ℕ) → Q (behind (Event x y z ∷ []) (run_block env k rest w)))
    → Q (run_block env n (next (tell (event a b c)) rest) w)
event_runs Q env n a b c rest w x y z p q r go = subst Q (sym (tell_is env n (event a b c) rest w (Event x y z) (rw (p, q, r) refl))) (go (later n 1))

pub value_runs : (Q : Ran → Type 0) (env : Around) (n : ℕ) (a b c d : Exp) (rest : Block) (w : World) (x y z v : ℤ)
    → value_of a w ≡ Some x → value_of b w ≡ Some y → value_of c w ≡ Some z → value_of d w ≡ Some v
    → ((k : ℕ) → Q (behind (Val x y z v ∷ []) (run_block env k rest w))) → Q (run_block env n (next (tell (value a b c d)) rest) w)
value_runs Q env n a b c d rest w x y z v p q r s go =
    subst Q (sym (tell_is env n (value a b c d) rest w (Val x y z v) (rw (p, q, r, s) refl))) (go (later n 1))

pub finish_ends : (env : Around) (n : ℕ) (a : Exp) (rest : Block) (w : World) (z : ℤ) (word : EndWord) → value_of a w ≡ Some z → end_word z ≡ Some word
    → Ends (run_block env n (next (tell (finish a)) rest) w) word
finish_ends env n a rest w z word p q = tell_is env n (finish a) rest w (End word) (rw (p, q) refl)

pub stop_stops : (env : Around) (n : ℕ) (a b c : Exp) (rest : Block) (w : World) (z : ℤ) (word : StopWord) (block : ℕ)
    → value_of a w ≡ Some z → stop_word z ≡ Some word → value_of b w ≡ Some (pos block) → value_of c w ≡ Some (pos 0)
    → Stops (run_block env n (next (tell (stop a b c)) rest) w) word block
stop_stops env n a b c rest w z word block p q r s = tell_is env n (stop a b c) rest w (Stop word (pos block) (pos 0)) (rw (p, q, r, s) refl)
