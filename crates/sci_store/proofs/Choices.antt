-- A choice of two values by a test whose answer is known.
use Rattle.std.proofs.Common.{◌≡◌, Bool, true, false, refl, sym, true≢false}
use Rattle.std.specs.Prelude.{if◌then◌else◌}

pub seen_if : {A : Type 0} (t : Bool) (x y : A) → t ≡ true → (if t then x else y) ≡ x
seen_if true x y h = refl
seen_if false x y h = absurd (true≢false (sym h))

pub seen_unless : {A : Type 0} (t : Bool) (x y : A) → t ≡ false → (if t then x else y) ≡ y
seen_unless true x y h = absurd (true≢false h)
seen_unless false x y h = refl
