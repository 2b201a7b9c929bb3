-- A text leaves every name as it is that it doesn't assign.
use Rattle.std.proofs.Common.{◌≡◌, ℕ, zero, suc, List, [], ◌∷◌, ◌++◌, Option, Some, None, Bool, true, false, ◌&&◌, refl, sym, ap, ◌∙◌, subst, ℤ, pos, if◌then◌else◌, true≢false, length, get_or, nat_lt, slice_get, slice_set, ltb-true}
use Rattle.std.specs.Prelude.{◌+ℤ◌, ◌||◌, not}
use Rattle.std.proofs.lemmas.Bool.{cond-true, cond-false}
use Rattle.std.proofs.lemmas.Option.{slice_get-get_or}
use Rattle.sci_base.specs.declared.observation.Obs.{Obs}
use Rattle.sci_base.specs.declared.observation.Obs.TheVariants as observed
use Rattle.sci_base.specs.declared.observation.EndWord.{EndWord}
use Rattle.sci_base.specs.declared.observation.StopWord.{StopWord}
use Rattle.c_ast.specs.declared.Name.{Name}
use Rattle.c_ast.specs.Syntax.{Place, scalar, cell, Asked, more, input, until, limit, Told, start, event, value, finish, stop, Statement, set, ask, choice, loop, call, tell, Block, done, next}
use Rattle.c_mean.specs.Meaning.{Slot, World, with_slots, same_name, lookup, store, counted, assign, evaluate, index, in_word, Around, Ran, How, going, undefined, over, halted, quietly, seeing, on_how, then_run, needs, stored, later, statement_count, block_count, asked, told, end_word, stop_word, received, how_after, bound_value, turn_count, turns, count_up, run_statement, run_block, is_zero, ◌>>=◌, column, column_place, has_left, take_left, truth}
use Rattle.c_mean.specs.Places.{Puts}
use Rattle.c_mean.specs.Texts.{May, place_name, takes, goes_on, statement_within, block_within}
use Rattle.c_mean.specs.Runs.{Leads, LeftAlone, LeftBy, Leaves, LeaveCalls}
use Rattle.c_mean.proofs.Memory.{and_left, and_right, other_name, store_at, put_other, has_puts}

-- ---- what is there where something is

pub bind_some : {A B : Type 0} (o : Option A) (f : A → Option B) (b : B) → (o >>= f) ≡ Some b → (a : A) × ((o ≡ Some a) × (f a ≡ Some b))
bind_some None f b h = cc
bind_some (Some a) f b h = (a, (refl, h))

some_slots : (a b : List Slot) → Some a ≡ Some b → a ≡ b
some_slots a b e = cc

some_world : (a b : World) → Some a ≡ Some b → a ≡ b
some_world a b e = cc

-- where a place can be written, it is there
stored_there : (m : List Slot) (x : Name) (i : ℕ) (v : ℤ) (m' : List Slot) → store m x i v ≡ Some m' → (u : ℤ) × (lookup m x i ≡ Some u)
stored_there [] x i v m' h = cc
stored_there (s ∷ ss) x i v m' h = by_name (stored_there ss x i v) (same_name s.name x) refl
  where
    here : (t : Bool) → nat_lt i (length s.cells) ≡ t → (if t then Some (record { name = s.name; cells = slice_set s.cells i v } ∷ ss) else None) ≡ Some m'
        → (u : ℤ) × (slice_get s.cells i ≡ Some u)
    here true e q = (get_or s.cells i (pos 0), slice_get-get_or s.cells i (pos 0) (ltb-true i (length s.cells) e))
    here false e q = cc

    by_name : ((r : List Slot) → store ss x i v ≡ Some r → (u : ℤ) × (lookup ss x i ≡ Some u)) → (t : Bool) → same_name s.name x ≡ t
        → (u : ℤ) × (lookup (s ∷ ss) x i ≡ Some u)
    by_name go true e =
        let r = here (nat_lt i (length s.cells)) refl (sym (cond-true (same_name s.name x) _ (store ss x i v >>= λ rest. Some (s ∷ rest)) e) ∙ h) in
        (r.0, cond-true (same_name s.name x) (slice_get s.cells i) (lookup ss x i) e ∙ r.1)
    by_name go false e =
        let b = bind_some (store ss x i v) (λ rest. Some (s ∷ rest)) m'
        (sym (cond-false (same_name s.name x)
        (if nat_lt i (length s.cells) then Some (record { name = s.name; cells = slice_set s.cells i v } ∷ ss) else None)
        (store ss x i v >>= λ rest. Some (s ∷ rest)) e) ∙ h) in
        let r = go b.0 b.1.0 in
        (r.0, cond-false (same_name s.name x) (slice_get s.cells i) (lookup ss x i) e ∙ r.1)

pub store_is : (w : World) (x : Name) (i : ℕ) (v : ℤ) (m : List Slot) → store w.slots x i v ≡ Some m → Puts w x i v (with_slots w m)
store_is w x i v m h =
    let u = stored_there w.slots x i v m h in
    let r = store_at w x i v (record { holds = u.0; is = u.1 }) in
    subst (λ (m : List Slot). Puts w x i v (with_slots w m)) (some_slots r.0 m (sym r.1.0 ∙ h)) r.1.1

-- ---- what is left alone

pub alone_all : (may : May) (w : World) → LeftAlone may w w
alone_all may w = record { same = λ y j h. refl; there = λ y j h. h; left = λ h. refl }

pub alone_then : (may : May) (u v w : World) → LeftAlone may u v → LeftAlone may v w → LeftAlone may u w
alone_then may u v w k l =
    record { same = λ y j h. l.same y j h ∙ k.same y j h; there = λ y j h. l.there y j (k.there y j h); left = λ h. l.left h ∙ k.left h }

pub puts_alone : (may : May) (w w' : World) (x : Name) (i : ℕ) (v : ℤ) → may.assign x ≡ true → Puts w x i v w' → LeftAlone may w w'
puts_alone may w w' x i v a p = record {
  same = λ y j h. put_other w w' x i v y j p (other_name may.assign x y a h);
  there = λ y j h. has_puts w w' x i v y j p h;
  left = λ h. p.left;
}

pub then_leaves : (may : May) (w : World) (r : Ran) (f : World → Ran) → Leaves may w r → ((v : World) → LeftAlone may w v → Leaves may v (f v))
    → Leaves may w (then_run r f)
then_leaves may w r f l go = by_how r.seen r.how l
  where
    further : (v : World) (seen s : List Obs) (h : How) → LeftAlone may w v → (may.show ≡ false → seen ≡ []) → LeftBy may v s h → LeftBy may w (seen ++ s) h
    further v seen s (going u) k e l = (alone_then may w v u k l.0, λ q. ap (λ (t : List Obs). t ++ s) (e q) ∙ l.1 q)
    further v seen s (undefined n) k e l = tt
    further v seen s over k e l = tt
    further v seen s halted k e l = tt

    by_how : (seen : List Obs) (h : How) → LeftBy may w seen h → Leaves may w (on_how seen h f)
    by_how seen (going v) l = further v seen (f v).seen (f v).how l.0 l.1 (go v l.0)
    by_how seen (undefined n) l = tt
    by_how seen over l = tt
    by_how seen halted l = tt

needs_leaves : {A : Type 0} (may : May) (w : World) (n : ℕ) (o : Option A) (f : A → Ran) → ((x : A) → o ≡ Some x → Leaves may w (f x))
    → Leaves may w (needs n o f)
needs_leaves may w n None f go = tt
needs_leaves may w n (Some x) f go = go x refl

-- ---- one statement

assign_leaves : (may : May) (w : World) (p : Place) (v : ℤ) (m : List Slot) → may.assign (place_name p) ≡ true → assign p v w.slots ≡ Some m
    → LeftAlone may w (with_slots w m)
assign_leaves may w (scalar x) v m a e = puts_alone may w (with_slots w m) x 0 v a (store_is w x 0 v m e)
assign_leaves may w (cell x f) v m a e =
    let z = bind_some (evaluate f w.slots >>= index) (λ i. store w.slots x i v) m (nested (evaluate f w.slots) ∙ e) in
    puts_alone may w (with_slots w m) x z.0 v a (store_is w x z.0 v m z.1.1)
  where
    nested : (o : Option ℤ) → ((o >>= index) >>= λ i. store w.slots x i v) ≡ (o >>= λ z. index z >>= λ i. store w.slots x i v)
    nested None = refl
    nested (Some z) = refl

set_leaves : (may : May) (w : World) (p : Place) (o : Option ℤ) (f : ℤ → ℤ) (n : ℕ) → may.assign (place_name p) ≡ true
    → Leaves may w (stored n w (o >>= λ v. assign p (f v) w.slots))
set_leaves may w p o f n a = needs_leaves may w n (o >>= λ v. assign p (f v) w.slots) _ (λ m is.
    let b = bind_some o (λ v. assign p (f v) w.slots) m is in
    (assign_leaves may w p (f b.0) m a b.1.1, λ q. refl))

received_leaves : (may : May) (w w' : World) (p : Place) (o : Option ℕ) → may.assign (place_name p) ≡ true → may.take ≡ true
    → (o >>= λ i. take_left (slice_get w.left i) >>= λ c. assign p c.0 w.slots >>= λ m. Some (record { slots = m; left = slice_set w.left i c.1 }))
    ≡ Some w' → LeftAlone may w w'
received_leaves may w w' p o a t h =
    let i = bind_some o _ w' h in
    let c = bind_some (take_left (slice_get w.left i.0)) _ w' i.1.1 in
    let m = bind_some (assign p c.0.0 w.slots) _ w' c.1.1 in
    let to : World = record { slots = m.0; left = slice_set w.left i.0 c.0.1 } in
    let is : to ≡ w' = some_world to w' m.1.1 in
    let alone = assign_leaves may w p c.0.0 m.0 a m.1.0 in
    subst (LeftAlone may w) is (record {
      same = alone.same;
      there = λ y j h. let g = alone.there y j h in record { holds = g.holds; is = g.is };
      left = λ q. absurd (true≢false (sym t ∙ q));
    })

or_true : (a b : Bool) → a || not b ≡ true → b ≡ true → a ≡ true
or_true true b h e = refl
or_true false true h e = h
or_true false false h e = e

asked_leaves : (may : May) (last most : ℤ) (n : ℕ) (p : Place) (q : Asked) (w : World) → may.assign (place_name p) && (may.take || not (takes q)) ≡ true
    → Leaves may w (asked last most n p q w)
asked_leaves may last most n p (more e) w a = set_leaves may w p (evaluate e w.slots) (λ k. truth (has_left (column w.left k))) n (and_left _ _ a)
asked_leaves may last most n p (input e) w a =
    needs_leaves may w n (received p e w) _ (λ w' is. (
      received_leaves may w w' p (evaluate e w.slots >>= column_place) (and_left _ _ a)
          (or_true may.take true (and_right (may.assign (place_name p)) _ a) refl) is,
      λ q. refl,
    ))
asked_leaves may last most n p until w a = set_leaves may w p (Some last) (λ v. v) n (and_left _ _ a)
asked_leaves may last most n p limit w a = set_leaves may w p (Some most) (λ v. v) n (and_left _ _ a)

-- what is observed
shown_leaves : (may : May) (w : World) (o : Obs) → may.show ≡ true → Leaves may w (seeing o (how_after o w))
shown_leaves may w observed.Start s = (alone_all may w, λ q. absurd (true≢false (sym s ∙ q)))
shown_leaves may w (observed.Event a b c) s = (alone_all may w, λ q. absurd (true≢false (sym s ∙ q)))
shown_leaves may w (observed.Val a b c d) s = (alone_all may w, λ q. absurd (true≢false (sym s ∙ q)))
shown_leaves may w (observed.End x) s = tt
shown_leaves may w (observed.Stop x b c) s = tt

some_obs : (a b : Obs) → Some a ≡ Some b → a ≡ b
some_obs a b e = cc

ended_leaves : (may : May) (w : World) (t : Told) (o : Obs) → goes_on t ≡ false → told t w.slots ≡ Some o → Leaves may w (seeing o (how_after o w))
ended_leaves may w start o g h = absurd (true≢false g)
ended_leaves may w (event a b c) o g h = absurd (true≢false g)
ended_leaves may w (value a b c d) o g h = absurd (true≢false g)
ended_leaves may w (finish a) o g h = by_word (evaluate a w.slots >>= end_word) h
  where
    by_word : (q : Option EndWord) → (q >>= λ x. Some (observed.End x)) ≡ Some o → Leaves may w (seeing o (how_after o w))
    by_word (Some x) r = subst (λ (o : Obs). Leaves may w (seeing o (how_after o w))) (some_obs (observed.End x) o r) tt
    by_word None r = cc
ended_leaves may w (stop a b c) o g h = by_word (evaluate a w.slots >>= stop_word) (evaluate b w.slots) (evaluate c w.slots) h
  where
    by_word : (q : Option StopWord) (y z : Option ℤ) → (q >>= λ x. y >>= λ y. z >>= λ z. Some (observed.Stop x y z)) ≡ Some o
        → Leaves may w (seeing o (how_after o w))
    by_word (Some x) (Some y) (Some z) r = subst (λ (o : Obs). Leaves may w (seeing o (how_after o w))) (some_obs (observed.Stop x y z) o r) tt
    by_word (Some x) (Some y) None r = cc
    by_word (Some x) None z r = cc
    by_word None y z r = cc

told_leaves : (may : May) (n : ℕ) (t : Told) (w : World) → may.show || not (goes_on t) ≡ true
    → Leaves may w (needs n (told t w.slots) (λ o. seeing o (how_after o w)))
told_leaves may n t w a = needs_leaves may w n (told t w.slots) _ (λ o is. by_case o is (goes_on t) refl)
  where
    by_case : (o : Obs) → told t w.slots ≡ Some o → (b : Bool) → goes_on t ≡ b → Leaves may w (seeing o (how_after o w))
    by_case o is true e = shown_leaves may w o (or_true may.show (goes_on t) a e)
    by_case o is false e = ended_leaves may w t o e is

count_leaves : (may : May) (n : ℕ) (x : Name) (w : World) → may.assign x ≡ true → Leaves may w (count_up n x w)
count_leaves may n x w a = needs_leaves may w n (counted x w.slots) _ (λ m is.
    let v = bind_some (lookup w.slots x 0) _ m is in
    let u = bind_some (in_word (v.0 +ℤ pos 1)) _ m v.1.1 in
    (puts_alone may w (with_slots w m) x 0 u.0 a (store_is w x 0 u.0 m u.1.1), λ q. refl))

turns_leave : (may : May) (turn : World → Ran) → ((w : World) → Leaves may w (turn w)) → (k : ℕ) (w : World) → Leaves may w (turns k turn w)
turns_leave may turn go zero w = (alone_all may w, λ q. refl)
turns_leave may turn go (suc k) w = then_leaves may w (turn w) (turns k turn) (go w) (λ v _. turns_leave may turn go k v)

-- ---- a text

module _ (env : Around) (may : May) (calls : LeaveCalls may env) where
  mutual
    unfolding run_block

    pub statement_leaves : (s : Statement) → statement_within may s ≡ true → (n : ℕ) (w : World) → Leaves may w (run_statement env n s w)
    statement_leaves (set p e) a n w = set_leaves may w p (evaluate e w.slots) (λ v. v) n a
    statement_leaves (ask p q) a n w = asked_leaves may env.until env.limit n p q w a
    statement_leaves (choice e b c) a n w =
        needs_leaves may w n (evaluate e w.slots) _
        (λ v _. by_test (run_block env (later (later n 1) (block_count b)) c w) (run_block env (later n 1) b w) (is_zero v)
        (block_leaves c (and_right _ _ a) _ w) (block_leaves b (and_left _ _ a) _ w))
      where
        by_test : (x y : Ran) (t : Bool) → Leaves may w x → Leaves may w y → Leaves may w (if t then x else y)
        by_test x y true l r = l
        by_test x y false l r = r
    statement_leaves (loop x b s) a n w =
        needs_leaves may w n (bound_value b w.slots) _ (λ v _. needs_leaves may w n (store w.slots x 0 (pos 0)) _ (λ m is.
        then_leaves may w (quietly (going (with_slots w m))) (turns (turn_count v) (λ u. then_run (run_block env (later n 1) s u) (count_up n x)))
        (puts_alone may w (with_slots w m) x 0 (pos 0) (and_left _ _ a) (store_is w x 0 (pos 0) m is), λ q. refl)
        (λ u' _. turns_leave may _ (λ u. then_leaves may u (run_block env (later n 1) s u) (count_up n x) (block_leaves s (and_right _ _ a) _ u)
        (λ u' _. count_leaves may n x u' (and_left _ _ a))) (turn_count v) u')))
    statement_leaves (call f) a n w = needs_leaves may w n (env.calls f) _ (λ run is. calls f run a is w)
    statement_leaves (tell t) a n w = told_leaves may n t w a

    pub block_leaves : (b : Block) → block_within may b ≡ true → (n : ℕ) (w : World) → Leaves may w (run_block env n b w)
    block_leaves done a n w = (alone_all may w, λ q. refl)
    block_leaves (next s b) a n w =
        then_leaves may w (run_statement env n s w) (run_block env (later n (statement_count s)) b) (statement_leaves s (and_left _ _ a) n w)
        (λ v _. block_leaves b (and_right _ _ a) _ v)

-- ---- what a run that goes on leaves

pub alone_of : (may : May) (w : World) (r : Ran) (seen : List Obs) (w' : World) → Leaves may w r → r ≡ record { seen = seen; how = going w' }
    → LeftAlone may w w'
alone_of may w r seen w' l e = left (subst (Leaves may w) e l)
  where
    left : LeftAlone may w w' × (may.show ≡ false → seen ≡ []) → LeftAlone may w w'
    left h = h.0

-- and nothing is observed where nothing may be shown
pub quiet_of : (may : May) (w : World) (r : Ran) (seen : List Obs) (w' : World) → may.show ≡ false → Leaves may w r
    → r ≡ record { seen = seen; how = going w' } → r ≡ quietly (going w')
quiet_of may w r seen w' q l e = e ∙ ap (λ (s : List Obs). record { seen = s; how = going w' }) (right (subst (Leaves may w) e l) q)
  where
    right : LeftAlone may w w' × (may.show ≡ false → seen ≡ []) → may.show ≡ false → seen ≡ []
    right h = h.1

pub led_alone : {P : World → Type 0} (may : May) (w : World) (r : Ran) → Leaves may w r → Leads r P → Leads r (λ w'. P w' × LeftAlone may w w')
led_alone may w r l h = record { to = h.to; is = h.is; holds = (h.holds, alone_of may w r [] h.to l h.is) }
