-- What a reader lost and a writer got in several steps.
use Rattle.std.proofs.Common.{◌≡◌, ◌-◌, ℕ, List, [], ◌++◌, length, take, drop, refl, sym, ◌∙◌, ap, subst, append_assoc, Option, Some, None}
use Rattle.std.specs.Prelude.{Result, Ok, Err}
use Rattle.std.proofs.lemmas.List.{take-append-drop, length-drop}
use Rattle.std.proofs.Math.Seq.{take-length}
use Rattle.sci_io.specs.Taken.{Advances}
use Rattle.sci_io.proofs.Advance.{goes_on}
use Rattle.std.specs.Io.KnownBytes.{Keeps, Appends, Consumes, ReadConsumes, WriteAppends}

pub keeps : (a : Option (List ℕ)) → Keeps a a
keeps None = tt
keeps (Some xs) = refl

pub keeps_keeps : (a b c : Option (List ℕ)) → Keeps a b → Keeps b c → Keeps a c
keeps_keeps None b c h k = tt
keeps_keeps (Some xs) None c h k = absurd h
keeps_keeps (Some xs) (Some ys) None h k = absurd k
keeps_keeps (Some xs) (Some ys) (Some zs) h k = k ∙ h

keeps_consumes : (a b c : Option (List ℕ)) (bs : List ℕ) → Keeps a b → Consumes b c bs → Consumes a c bs
keeps_consumes None b c bs h k = tt
keeps_consumes (Some xs) None c bs h k = absurd h
keeps_consumes (Some xs) (Some ys) None bs h k = absurd k
keeps_consumes (Some xs) (Some ys) (Some zs) bs h k = sym h ∙ k

keeps_appends : (a b c : Option (List ℕ)) (bs : List ℕ) → Keeps a b → Appends b c bs → Appends a c bs
keeps_appends None b c bs h k = tt
keeps_appends (Some xs) None c bs h k = absurd h
keeps_appends (Some xs) (Some ys) None bs h k = absurd k
keeps_appends (Some xs) (Some ys) (Some zs) bs h k = k ∙ ap (λ (l : List ℕ). l ++ bs) h

-- an interrupted call before
pub then_reads : {E : Type 0} (a b c : Option (List ℕ)) (r : Result ℕ E) (buffer : List ℕ) → Keeps a b → ReadConsumes b c r buffer → ReadConsumes a c r buffer
then_reads a b c (Ok n) buffer h k = (keeps_consumes a b c (take n buffer) h k.0, k.1)
then_reads a b c (Err e) buffer h k = keeps_keeps a b c h k

pub then_writes_some : {E : Type 0} (a b c : Option (List ℕ)) (r : Result ℕ E) (piece : List ℕ) → Keeps a b → WriteAppends b c r piece → WriteAppends a c r piece
then_writes_some a b c (Ok n) piece h k = keeps_appends a b c (take n piece) h k
then_writes_some a b c (Err e) piece h k = keeps_keeps a b c h k

pub consumes_none : (a : Option (List ℕ)) → Consumes a a []
consumes_none None = tt
consumes_none (Some xs) = refl

pub consumes_more : (a b c : Option (List ℕ)) (front more : List ℕ) → Consumes a b front → Consumes b c more → Consumes a c (front ++ more)
consumes_more None b c front more h k = tt
consumes_more (Some xs) None c front more h k = absurd h
consumes_more (Some xs) (Some ys) None front more h k = absurd k
consumes_more (Some xs) (Some ys) (Some zs) front more h k = h ∙ (ap (λ (l : List ℕ). front ++ l) k ∙ sym (append_assoc front more zs))

-- one more write of a piece
pub wrote_more : {old mid new : Option (List ℕ)} {piece : List ℕ} (rest last : List ℕ) (count : ℕ) → last ≡ drop count rest → Advances old mid piece rest → Appends mid new (take count rest) → Advances old new piece last
wrote_more {old} {mid} {new} {piece} rest last count is a h =
    goes_on a (record { front = take count rest; split = sym (take-append-drop count rest) ∙ ap (λ (l : List ℕ). take count rest ++ l) (sym is); taken = h })

pub rest_of : (count : ℕ) (rest : List ℕ) → take (length rest - count) (drop count rest) ≡ drop count rest
rest_of count rest = subst (λ (n : ℕ). take n (drop count rest) ≡ drop count rest) (length-drop count rest) (take-length (drop count rest))
