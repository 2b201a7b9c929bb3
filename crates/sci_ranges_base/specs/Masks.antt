-- Which activation inputs may be activated where a block acts.
use Rattle.std.specs.Prelude.{◌≡◌, ℕ, ◌^◌, ◌%◌, nat_eq, not, Bool, ◌&&◌, List, Any}
use Rattle.std.specs.List.{list_any}
use Rattle.std.specs.Int.{bit_at}
use Rattle.sci_ranges_base.specs.declared.masks.Masks.{Masks}

-- m has all activation inputs that surely are activated, and else such as may be
abbrev pub IsBetween : Masks → ℕ → Type 0
IsBetween b m = (p : ℕ) → (bit_at b.certain p ≡ 1 → bit_at m p ≡ 1) × (bit_at m p ≡ 1 → bit_at b.may p ≡ 1)

-- m is such a mask by one of these
abbrev pub AreMasks : List Masks → ℕ → Type 0
AreMasks ms m = Any (λ b. IsBetween b m) ms

-- input k may be that of the least activated port: it may be activated, and none before it surely is
abbrev pub may_choose : ℕ → Masks → Bool
may_choose k b = nat_eq (bit_at b.may k) 1 && nat_eq (b.certain % 2 ^ k) 0

abbrev pub some_choose : List Masks → ℕ → Bool
some_choose ms k = list_any (may_choose k) ms

-- both of two activation inputs may be activated; one of them may not be
abbrev pub lets_both : Masks → Bool
lets_both b = nat_eq (b.may % 4) 3

abbrev pub may_be_both : List Masks → Bool
may_be_both ms = list_any lets_both ms

abbrev pub lets_one_lack : Masks → Bool
lets_one_lack b = not (nat_eq (b.certain % 4) 3)

abbrev pub may_lack_one : List Masks → Bool
may_lack_one ms = list_any lets_one_lack ms
