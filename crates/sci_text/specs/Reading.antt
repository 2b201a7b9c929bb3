-- Reading from left to right: a value and the bytes after it, or none.
use Rattle.std.specs.Prelude.{List, [], ◌∷◌, ℕ, length, Option, Some, None, nat_eq, if◌then◌else◌}

infixl 10 ◌>>=◌
abbrev pub ◌>>=◌ : {A B : Type 0} → Option A → (A → Option B) → Option B
(Some x) >>= f = f x
None >>= f = None

-- goes on with what was found, or tries something else
abbrev pub or_else : {A B : Type 0} → Option A → (A → B) → B → B
or_else (Some x) f z = f x
or_else None f z = z

-- what stands after the text
abbrev pub after : List ℕ → List ℕ → Option (List ℕ)
after [] bytes = Some bytes
after (c ∷ cs) [] = None
after (c ∷ cs) (b ∷ bs) = if nat_eq b c then after cs bs else None

-- the value, where nothing is left
abbrev pub ended : {A : Type 0} → A → List ℕ → Option A
ended x rest = if nat_eq (length rest) 0 then Some x else None
