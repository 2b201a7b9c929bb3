-- Runs of lists.
use Rattle.std.proofs.Common.{◌≡◌, ℕ, ◌+◌, ◌≤◌, List, length, take, drop, arith}
use Rattle.std.proofs.lemmas.List.{length-take-le, length-drop}

pub read_length : {A : Type 0} (xs : List A) (start n : ℕ) → start + n ≤ length xs → length (take n (drop start xs)) ≡ n
read_length xs start n h = let long = length-drop start xs in length-take-le n (drop start xs) (omega (arith, h, long))
