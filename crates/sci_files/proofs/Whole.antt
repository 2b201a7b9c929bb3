-- The whole bytes of a file, of which at most one byte past the limit is read.
use Rattle.std.proofs.Common.{◌≡◌, ◌≤◌, ◌<◌, ◌+◌, min, ℕ, List, length, take, Option, Some, None, option_map, refl, sym, ◌∙◌, ap, subst, arith, [], ◌∷◌, ◌++◌, ◌⊎◌, inl, inr}
use Rattle.std.proofs.lemmas.List.{take_all, length-take}
use Rattle.sci_io.specs.Files.{Files, FolderState, file_named, IsFrontOf}
use Rattle.sci_answers.specs.Course.{Holds}
use Rattle.sci_files.specs.Look.{MayAsk}

pub whole_named : (o : Option (List ℕ)) (n : ℕ) (read : List ℕ) → option_map (λ (bytes : List ℕ). take n bytes) o ≡ Some read → (whole : List ℕ) × (o ≡ Some whole) × (read ≡ take n whole)
whole_named None n read h = absurd (cc h)
whole_named (Some whole) n read h = let is : take n whole ≡ read = cc h in (whole, refl, sym is)

pub whole_read : (files : Files) (name : List ℕ) (limit : ℕ) (read : List ℕ) → IsFrontOf files name limit read → length read ≤ limit + 1 → (whole : List ℕ) × Holds files name whole × (read ≡ take (limit + 1) whole)
whole_read None name limit read h small = (read, tt, sym (take_all (limit + 1) read small))
whole_read (Some all) name limit read h small = whole_named (file_named all name) (limit + 1) read h

pub long_whole : (files : Files) (name : List ℕ) (limit : ℕ) (read : List ℕ) → IsFrontOf files name limit read → length read ≤ limit + 1 → limit < length read → (whole : List ℕ) × Holds files name whole × (limit < length whole)
long_whole files name limit read h small long =
    let w = whole_read files name limit read h small in
    let e : length read ≡ min (limit + 1) (length w.0) = ap length w.2 ∙ length-take (limit + 1) w.0 in
    (w.0, w.1, omega (arith, e, long))

pub short_whole : (files : Files) (name : List ℕ) (limit : ℕ) (read : List ℕ) → IsFrontOf files name limit read → length read ≤ limit → Holds files name read
short_whole files name limit read h short =
    let w = whole_read files name limit read h (omega (arith, short)) in
    let e : length read ≡ min (limit + 1) (length w.0) = ap length w.2 ∙ length-take (limit + 1) w.0 in
    let same : read ≡ w.0 = w.2 ∙ take_all (limit + 1) w.0 (omega (arith, e, short)) in
    subst (λ (l : List ℕ). Holds files name l) (sym same) w.1

-- memory lacked before the file was asked for, or behind it
pub may_ask : {T : Type 0} (old new : FolderState) (name : List ℕ) → ((new.asked ≡ old.asked) ⊎ ((new.asked ≡ old.asked ++ name ∷ []) × T)) × (new.faults ≡ old.faults) → MayAsk old new name
may_ask old new name (inl h, same) = (inl h, same)
may_ask old new name (inr h, same) = (inr h.0, same)
