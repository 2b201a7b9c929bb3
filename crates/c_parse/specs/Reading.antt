-- Reading from left to right: a value and the bytes after it, or none.
use Rattle.std.specs.Prelude.{ℕ, zero, suc, ◌^◌, pos, List, [], ◌∷◌, Option, Some, None, Bool, true, false, nat_eq, if◌then◌else◌, codes}
use Rattle.std.specs.Char.{is_ascii_digit}
use Rattle.sci_text.specs.Reading.{◌>>=◌, or_else, after}
use Rattle.sci_text.specs.Numbers.{number_at}
use Rattle.c_ast.specs.declared.Name.{Name}
use Rattle.c_ast.specs.declared.Op.{Op}
use Rattle.c_ast.specs.declared.Op.TheVariants.{Add, Sub, Mul, Div, Rem, Lt, Le, Gt, Ge, Eq, Ne, And, Or}
use Rattle.c_ast.specs.Syntax.{Exp, num, var, element, neg, not, bin}
use Rattle.c_ast.specs.Spelling.{op_text}
use Rattle.c_ast.specs.Bounds.{is_letter}

-- the value, where the text follows it
abbrev pub closed : {A : Type 0} → A → List ℕ → List ℕ → Option (A × List ℕ)
closed x text bytes = after text bytes >>= λ rest. Some (x, rest)

unfoldable pub name_at : List ℕ → Option (Name × List ℕ)
name_at [] = None
name_at (c ∷ bytes) =
    if is_letter c then number_at (2 ^ 32) bytes >>= (λ n. Some (record { letter = c; number = n.0 }, n.1)) else None

abbrev pub arithmetic : List Op
arithmetic = Add ∷ Sub ∷ Mul ∷ Div ∷ Rem ∷ []

abbrev pub comparisons : List Op
comparisons = Lt ∷ Le ∷ Gt ∷ Ge ∷ Eq ∷ Ne ∷ And ∷ Or ∷ []

abbrev pub family : Bool → List Op
family b = if b then arithmetic else comparisons

-- the first of these operators that stands here
abbrev pub op_at : List Op → List ℕ → Option (Op × List ℕ)
op_at [] bytes = None
op_at (op ∷ ops) bytes = or_else (after (op_text op) bytes) (λ rest. Some (op, rest)) (op_at ops bytes)

abbrev pub Reader : Type 0
Reader = List ℕ → Option (Exp × List ℕ)

-- two sides with one of these operators between, and the end
unfoldable pub sides_at : Reader → List Op → Reader
sides_at read ops bytes =
    read bytes >>= λ a. op_at ops a.1 >>= λ op. read op.1 >>= λ b. closed (bin op.0 a.0 b.0) (codes ")") b.1

-- behind a cast to int64_t and its bracket
unfoldable pub cast_at : Reader → Reader
cast_at read bytes = or_else (after (codes "!") bytes)
    (λ rest. read rest >>= λ a. closed (not a.0) (codes ")") a.1)
    (sides_at read comparisons bytes)

-- behind an opening bracket
unfoldable pub bracket_at : Reader → Reader
bracket_at read bytes = or_else (after (codes "-") bytes)
    (λ rest. read rest >>= λ a. closed (neg a.0) (codes ")") a.1)
    (or_else (after (codes "int64_t)(") bytes) (cast_at read) (sides_at read arithmetic bytes))

-- a name, or an element
unfoldable pub place_at : Reader → Reader
place_at read bytes = name_at bytes >>= λ x. or_else (after (codes "[") x.1)
    (λ rest. read rest >>= λ a. closed (element x.0 a.0) (codes "]") a.1)
    (Some (var x.0, x.1))

-- behind INT64_C and its bracket
unfoldable pub literal_at : Reader
literal_at bytes = number_at (2 ^ 63) bytes >>= λ n. closed (num (pos n.0)) (codes ")") n.1

-- one level of an expression
unfoldable pub level_at : Reader → Reader
level_at read bytes = or_else (after (codes "(") bytes) (bracket_at read) (or_else (after (codes "INT64_C(") bytes) literal_at (place_at read bytes))

-- an expression at most so deep
unfoldable pub exp_at : ℕ → Reader
exp_at zero bytes = None
exp_at (suc d) bytes = level_at (exp_at d) bytes

-- nothing follows that a name or a number would go on with
abbrev pub ends : List ℕ → Bool
ends [] = true
ends (c ∷ bytes) = if is_ascii_digit c then false else (if nat_eq c 91 then false else true)
