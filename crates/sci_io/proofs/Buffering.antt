-- A buffer before a sink: what the sink gave on, and what the buffer holds then.
use Rattle.std.proofs.Common.{◌≡◌, ◌≤◌, ◌<◌, ◌+◌, ℕ, List, [], ◌++◌, length, refl, sym, ◌∙◌, ap, subst, append_assoc, arith, Bool, true, false}
use Rattle.std.specs.Prelude.{Result, Ok, Err, OnOk, OnErr, nat_le, if◌then◌else◌}
use Rattle.std.proofs.lemmas.Bool.{le-leb, lt-leb}
use Rattle.std.proofs.lemmas.List.{append-nil}
use Rattle.sci_io.specs.Taken.{SinkState, behind, Advances, Writes}
use Rattle.sci_io.specs.Buffered.{given_on, held_then}
use Rattle.sci_io.proofs.Advance.{carry, due_is, cut_short, front_is, nothing_due, stopped, then_writes, same_text}

-- The sink gave on a front of the bytes and the piece, and the buffer holds the rest.
pub buffered : {T E : Type 0} (old new : SinkState) (bytes piece given held now : List ℕ) (before after : Bool) (r : Result T E) → bytes ++ piece ≡ given ++ held
    → OnOk r (after ≡ false) → OnErr r (after ≡ true) → Writes old new given r → OnOk r (now ≡ held) → OnErr r (now ≡ []) → Writes (behind old bytes before) (behind new now after) piece r
buffered old new bytes piece given held now before after (Ok x) split works fails w is none =
    let whole : (old.held ++ given) ++ held ≡ (old.held ++ bytes) ++ piece = append_assoc old.held given held ∙ (ap (λ (l : List ℕ). old.held ++ l) (sym split) ∙ sym (append_assoc old.held bytes piece)) in
    record {
      ok = due_is _ _ whole (subst (λ (l : List ℕ). Advances old.taken new.taken ((old.held ++ given) ++ held) (new.held ++ l)) (sym is) (carry held w.ok));
      quiet = w.quiet;
      works = λ _. works;
      cut = tt;
      dropped = tt;
      cause = tt;
      fails = tt;
      later = w.later;
    }
buffered old new bytes piece given held now before after (Err e) split works fails w is none =
    let whole : (old.held ++ given) ++ held ≡ (old.held ++ bytes) ++ piece = append_assoc old.held given held ∙ (ap (λ (l : List ℕ). old.held ++ l) (sym split) ∙ sym (append_assoc old.held bytes piece)) in
    record {
      ok = tt;
      quiet = tt;
      works = tt;
      cut = front_is _ _ whole (cut_short held w.cut);
      dropped = ap (λ (l : List ℕ). l ++ now) w.dropped ∙ none;
      cause = w.cause;
      fails = fails;
      later = w.later;
    }

-- the piece fits behind the bytes
pub given_none : (room : ℕ) (bytes piece : List ℕ) → length bytes + length piece ≤ room → given_on room bytes piece ≡ []
given_none room bytes piece fits = rw (le-leb (length bytes + length piece) room fits) refl

pub held_all : (room : ℕ) (bytes piece : List ℕ) → length bytes + length piece ≤ room → held_then room bytes piece ≡ bytes ++ piece
held_all room bytes piece fits = rw (le-leb (length bytes + length piece) room fits) refl

by_fit : (bytes piece : List ℕ) (fits small : Bool) → bytes ++ piece ≡ (if fits then [] else if small then bytes else bytes ++ piece) ++ (if fits then bytes ++ piece else if small then piece else [])
by_fit bytes piece true small = refl
by_fit bytes piece false true = refl
by_fit bytes piece false false = sym (append-nil (bytes ++ piece))

-- what was given and what is held make the bytes and the piece
pub given_held : (room : ℕ) (bytes piece : List ℕ) → bytes ++ piece ≡ given_on room bytes piece ++ held_then room bytes piece
given_held room bytes piece = by_fit bytes piece (nat_le (length bytes + length piece) room) (nat_le (length piece) room)

-- the piece was put into the buffer
pub kept_back : (old new : SinkState) (bytes piece now : List ℕ) (before after : Bool) {T E : Type 0} (x : T) → after ≡ false → new ≡ old → now ≡ bytes ++ piece
    → Writes {T = T} {E = E} (behind old bytes before) (behind new now after) piece (Ok x)
kept_back old new bytes piece now before after {T} {E} x works same is =
    let inner = subst (λ (s : SinkState). Writes {T = T} {E = E} old s [] (Ok x)) (sym same) (nothing_due old x) in
    buffered old new bytes piece [] (bytes ++ piece) now before after (Ok x) refl works tt inner is tt

-- the buffer was given on and the piece held
pub kept_alone : {T E U F : Type 0} (old mid new : SinkState) (bytes piece now : List ℕ) (before after : Bool) (r : Result T E) (x : T) (y : U) → after ≡ false → r ≡ Ok x → Writes old mid bytes r
    → new ≡ mid → now ≡ piece → Writes {T = U} {E = F} (behind old bytes before) (behind new now after) piece (Ok y)
kept_alone {U = U} {F = F} old mid new bytes piece now before after r x y works ok w same is =
    let inner = subst (λ (s : SinkState). Writes {T = U} {E = F} old s bytes (Ok y)) (sym same) (same_text (append-nil bytes) (then_writes bytes [] r (Ok y) x ok w (nothing_due mid y))) in
    buffered old new bytes piece bytes piece now before after (Ok y) refl works tt inner is tt

-- the bytes were cut
pub cut_bytes : {T E U F : Type 0} (old new : SinkState) (bytes piece now : List ℕ) (before after : Bool) (r : Result T E) (s : Result U F) (e : E) (f : F) → r ≡ Err e → s ≡ Err f → now ≡ []
    → OnErr r (after ≡ true) → Writes old new bytes r → Writes (behind old bytes before) (behind new now after) piece s
cut_bytes old new bytes piece now before after r s e f is was none fails w =
    let inner = same_text (append-nil bytes) (stopped bytes [] r (Err f) e f is refl w) in
    let failed = subst (λ q. OnErr q (after ≡ true)) is fails in
    subst (λ q. Writes (behind old bytes before) (behind new now after) piece q) (sym was) (buffered old new bytes piece bytes piece now before after (Err f) refl tt failed inner tt none)

-- the piece went past the buffer
pub past_buffer : {T E : Type 0} (old new : SinkState) (bytes piece now : List ℕ) (before after : Bool) (r : Result T E) → OnOk r (after ≡ false) → OnErr r (after ≡ true) → now ≡ []
    → Writes old new (bytes ++ piece) r → Writes (behind old bytes before) (behind new now after) piece r
past_buffer old new bytes piece now before after (Ok x) works fails none w =
    buffered old new bytes piece (bytes ++ piece) [] now before after (Ok x) (sym (append-nil (bytes ++ piece))) works tt w none tt
past_buffer old new bytes piece now before after (Err e) works fails none w =
    buffered old new bytes piece (bytes ++ piece) [] now before after (Err e) (sym (append-nil (bytes ++ piece))) tt fails w tt none

-- all was given on, and nothing more was put
pub emptied : {T E : Type 0} (old new : SinkState) (bytes now : List ℕ) (before after : Bool) (r : Result T E) → OnOk r (after ≡ false) → OnErr r (after ≡ true) → now ≡ [] → Writes old new bytes r
    → Writes (behind old bytes before) (behind new now after) [] r
emptied old new bytes now before after (Ok x) works fails none w =
    buffered old new bytes [] bytes [] now before after (Ok x) refl works tt w none tt
emptied old new bytes now before after (Err e) works fails none w =
    buffered old new bytes [] bytes [] now before after (Err e) refl tt fails w tt none

cut_small : {T E U F : Type 0} (old new : SinkState) (bytes piece : List ℕ) (small : Bool) (r : Result T E) (s : Result U F) (e : E) (f : F) → r ≡ Err e → s ≡ Err f → Writes old new bytes r
    → Writes old new (if small then bytes else bytes ++ piece) s
cut_small old new bytes piece true r s e f is was w = same_text (append-nil bytes) (stopped bytes [] r s e f is was w)
cut_small old new bytes piece false r s e f is was w = stopped bytes piece r s e f is was w

-- where the piece doesn't fit behind the bytes, they are due
pub cut_given : {T E U F : Type 0} (old new : SinkState) (room : ℕ) (bytes piece : List ℕ) (r : Result T E) (s : Result U F) (e : E) (f : F) → room < length bytes + length piece → r ≡ Err e → s ≡ Err f → Writes old new bytes r
    → Writes old new (given_on room bytes piece) s
cut_given old new room bytes piece r s e f over is was w =
    rw (lt-leb (length bytes + length piece) room over) (cut_small old new bytes piece (nat_le (length piece) room) r s e f is was w)

-- a piece larger than the room is due with the bytes
pub given_whole : (room : ℕ) (bytes piece : List ℕ) → room < length piece → given_on room bytes piece ≡ bytes ++ piece
given_whole room bytes piece large =
    rw (lt-leb (length bytes + length piece) room (omega (arith, large))) (rw (lt-leb (length piece) room large) refl)
