-- A number's text is not empty.
use Rattle.std.proofs.Common.{◌≡◌, ℕ, ◌<◌, ◌^◌, length, refl, arith, ℤ, pos, negsuc}
use Rattle.std.specs.Fmt.{signed_decimal}
use Rattle.std.proofs.lemmas.Fmt.{decimal_nonempty}

pub signed_nonempty : (z : ℤ) → ((n : ℕ) → z ≡ pos n → n < 2 ^ 64) → 0 < length (signed_decimal z)
signed_nonempty (pos n) h = decimal_nonempty n (h n refl)
signed_nonempty (negsuc n) h = omega arith
