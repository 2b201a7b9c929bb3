-- What code finds of a leak, in plain form.
use Rattle.std.proofs.Common.{◌≡◌, ℕ, ◌<◌, true, false, length, Option, Some, None, refl, sym}
use Rattle.std.specs.Prelude.{option_map, is_some}
use Rattle.sci_net.specs.Parts.{Parts, spec_of}
use Rattle.sci_ranges_refined.specs.Sums.{is_sum}
use Rattle.sci_ranges_rows.specs.Marks.{Marks}
use Rattle.sci_ranges_pass.specs.Told.{first_of, leak_at, leak}
use Rattle.sci_ranges_sums.specs.declared.parts.Leak.{Leak}
use Rattle.sci_ranges_sums.specs.View.{leak_of}
use Rattle.sci_ranges_sums.proofs.Leaked.{first_found, some_leak}

pub none_left : (o : Option Leak) → is_some o ≡ false → option_map leak_of o ≡ None
none_left None h = refl
none_left (Some x) h = cc

-- one that is found at an input behind none is that of the sum
pub found_leak : (n : Parts) (m : Marks) (c : ℕ) (o : Option Leak) (l : ℕ) → is_some o ≡ true → is_sum (spec_of n c).kind ≡ true → l < length (spec_of n c).ins
    → first_of (leak_at n m c) l ≡ None → option_map leak_of o ≡ leak_at n m c l → option_map leak_of o ≡ leak n m c
found_leak n m c None l h sum few none e = cc
found_leak n m c (Some x) l h sum few none e =
    some_leak n m c (Some (leak_of x)) sum (first_found (leak_at n m c) (leak_of x) (length (spec_of n c).ins) l few none (sym e))
