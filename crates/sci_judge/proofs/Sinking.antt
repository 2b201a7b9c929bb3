-- What was written where a call ends with the result of another.
use Rattle.std.proofs.Common.{◌≡◌, ℕ, List, [], ◌++◌, refl, sym, true≢false, append-nil}
use Rattle.std.specs.Prelude.{Result, Ok, Err, IfOk}
use Rattle.std.specs.Result.{IsErr}
use Rattle.sci_io.specs.Taken.{SinkState, Writes}
use Rattle.sci_io.proofs.Advance.{stopped, begins, next_front, finished, same_text}

pub err_of : {T E : Type 0} (r : Result T E) → IsErr r → (e : E) × (r ≡ Err e)
err_of (Ok x) h = absurd (true≢false (sym h))
err_of (Err e) h = (e, refl)

pub if_err : {T E : Type 0} (r : Result T E) (P : T → Type 0) → IsErr r → IfOk r P
if_err (Ok x) P h = absurd (true≢false (sym h))
if_err (Err e) P h = tt

pub ok_writes : {T E U F : Type 0} {a b : SinkState} (t : List ℕ) (r : Result T E) (x : T) (y : U) → r ≡ Ok x → Writes a b t r → Writes {T = U} {E = F} a b t (Ok y)
ok_writes {a = a} t r x y is w =
    same_text (append-nil t) (finished y (next_front t [] r x is (begins a (t ++ [])) w))

pub err_writes : {T E U F : Type 0} {a b : SinkState} (t : List ℕ) (r : Result T E) (q : Result U F) (e : E) (f : F) → r ≡ Err e → q ≡ Err f → Writes a b t r → Writes a b t q
err_writes t r q e f is was w = same_text (append-nil t) (stopped t [] r q e f is was w)
