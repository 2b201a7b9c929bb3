-- One text after another, where the sink may fail.
use Rattle.std.proofs.Common.{◌≡◌, ℕ, zero, suc, ◌+◌, ◌*◌, List, [], ◌∷◌, ◌++◌, Bool, true, false, refl, sym, ap, ◌∙◌, subst, arith, Ok, Err, append-nil, append_assoc}
use Rattle.std.specs.Prelude.{replicate}
use Rattle.std.specs.Borrow.{MutBor}
use Rattle.c_ast.specs.Spelling.{Line, IndentedLine, row_of, row_text, rows_text, at_depth}
use Rattle.sci_io.specs.Taken.{SinkState, Writes}
use Rattle.sci_io.proofs.Advance.{then_writes, stopped, begins, finished}
use Rattle.c_print.specs.Goes.{GoesBy, Goes}

by_then : (p q w : SinkState) (f g h : Bool) (s t : List ℕ) → GoesBy p f q g s → GoesBy q g w h t → GoesBy p f w h (s ++ t)
by_then p q w true true true s t a b = b ∙ a
by_then p q w true true false s t a b = absurd b
by_then p q w true false h s t a b = absurd a
by_then p q w false true true s t a b = subst (λ (x : SinkState). Writes {T = Unit {0}} {E = Unit {0}} p x (s ++ t) (Err tt)) (sym b) (stopped s t _ (Err tt) tt tt refl refl a)
by_then p q w false true false s t a b = absurd b
by_then p q w false false true s t a b = then_writes s t (Ok tt) (Err tt) tt refl a b
by_then p q w false false false s t a b = then_writes s t (Ok tt) (Ok tt) tt refl a b

pub goes_then : {X : Type 0} {state : X → SinkState} {p q w : MutBor X} {f g h : Bool} {s t : List ℕ} → Goes state p f q g s → Goes state q g w h t → Goes state p f w h (s ++ t)
goes_then {state = state} {p = p} {q = q} {w = w} {f = f} {g = g} {h = h} {s = s} {t = t} a b = record { by = by_then (state p.now) (state q.now) (state w.now) f g h s t a.by b.by; same = b.same ∙ a.same }

-- the same with the text put together otherwise
pub goes_as : {X : Type 0} {state : X → SinkState} {p w : MutBor X} {f h : Bool} {s t : List ℕ} → t ≡ s → Goes state p f w h s → Goes state p f w h t
goes_as {state = state} {p = p} {w = w} {f = f} {h = h} is g = subst (λ (l : List ℕ). Goes state p f w h l) (sym is) g

-- nothing was written
by_none : (p : SinkState) (f : Bool) → GoesBy p f p f []
by_none p true = refl
by_none p false = finished tt (begins p [])

pub goes_none : {X : Type 0} (state : X → SinkState) (p : MutBor X) (f : Bool) → Goes state p f p f []
goes_none state p f = record { by = by_none (state p.now) f; same = refl }

-- the answer of a whole text
pub written : {T E X : Type 0} {state : X → SinkState} {p w : MutBor X} {s : List ℕ} (x : T) → Goes state p false w false s → Writes {T = T} {E = E} (state p.now) (state w.now) s (Ok x)
written x g = record { ok = g.by.ok; quiet = g.by.quiet; works = g.by.works; cut = tt; dropped = tt; cause = tt; fails = tt; later = g.by.later }

pub broken : {T E X : Type 0} {state : X → SinkState} {p w : MutBor X} {s : List ℕ} (e : E) → Goes state p false w true s → Writes {T = T} {E = E} (state p.now) (state w.now) s (Err e)
broken e g = record { ok = tt; quiet = tt; works = tt; cut = g.by.cut; dropped = g.by.dropped; cause = g.by.cause; fails = g.by.fails; later = g.by.later }

two_more : (n : ℕ) → replicate {A = ℕ} (suc (suc n)) 32 ≡ replicate {A = ℕ} n 32 ++ (32 ∷ 32 ∷ [])
two_more zero = refl
two_more (suc n) = ap (λ (l : List ℕ). 32 ∷ l) (two_more n)

-- two blanks more
pub blanks_more : (k : ℕ) → replicate {A = ℕ} (2 * (k + 1)) 32 ≡ replicate {A = ℕ} (2 * k) 32 ++ (32 ∷ 32 ∷ [])
blanks_more k = let e : 2 * (k + 1) ≡ suc (suc (2 * k)) = omega arith in ap (λ (n : ℕ). replicate {A = ℕ} n 32) e ∙ two_more (2 * k)

-- Some rows were written, and these are still to be written.
pub record Towards {X : Type 0} (state : X → SinkState) (old : MutBor X) (failed : Bool) (new : MutBor X) (fails : Bool) (whole rest : List IndentedLine) : Type 0 where
  pub done : List ℕ
  pub wrote : Goes state old failed new fails done
  pub split : rows_text whole ≡ done ++ rows_text rest

pub towards_start : {X : Type 0} (state : X → SinkState) (p : MutBor X) (f : Bool) (rows : List IndentedLine) → Towards state p f p f rows rows
towards_start state p f rows = record { done = []; wrote = goes_none state p f; split = refl }

pub rows-append : (a b : List IndentedLine) → rows_text (a ++ b) ≡ rows_text a ++ rows_text b
rows-append [] b = refl
rows-append (r ∷ a) b = ap (λ (l : List ℕ). row_text r ++ l) (rows-append a b) ∙ sym (append_assoc (row_text r) (rows_text a) (rows_text b))

-- the next rows
pub towards_more : {X : Type 0} {state : X → SinkState} {p q w : MutBor X} {f g h : Bool} {whole : List IndentedLine} (now rest : List IndentedLine) → Towards state p f q g whole (now ++ rest) → Goes state q g w h (rows_text now) → Towards state p f w h whole rest
towards_more {whole = whole} now rest t n = record {
  done = t.done ++ rows_text now;
  wrote = goes_then t.wrote n;
  split = t.split ∙ ap (λ (l : List ℕ). t.done ++ l) (rows-append now rest) ∙ sym (append_assoc t.done (rows_text now) (rows_text rest));
}

pub towards_end : {X : Type 0} {state : X → SinkState} {p q : MutBor X} {f g : Bool} {whole : List IndentedLine} → Towards state p f q g whole [] → Goes state p f q g (rows_text whole)
towards_end {whole = whole} t = goes_as (t.split ∙ append-nil t.done) t.wrote

-- the rows of one line
pub one_row : {X : Type 0} {state : X → SinkState} {p q : MutBor X} {f g : Bool} (d : ℕ) (l : Line) → Goes state p f q g (row_text (row_of d l)) → Goes state p f q g (rows_text (at_depth d l))
one_row d l g = goes_as (append-nil (row_text (row_of d l))) g

pub rows_then : {X : Type 0} {state : X → SinkState} {p q w : MutBor X} {f g h : Bool} (a b : List IndentedLine) → Goes state p f q g (rows_text a) → Goes state q g w h (rows_text b) → Goes state p f w h (rows_text (a ++ b))
rows_then a b x y = goes_as (rows-append a b) (goes_then x y)
