-- What is kept of a net before its first tick.
use Rattle.std.proofs.Common.{◌≡◌, ℕ, zero, suc, ◌+◌, ◌-◌, ◌≤◌, ℤ, pos, List, [], ◌∷◌, take, length, get_or, refl, sym, ◌∙◌, ap, arith}
use Rattle.std.specs.Prelude.{replicate, Option, None}
use Rattle.std.proofs.lemmas.Grind.{same_number_lists}
use Rattle.sci_forms.specs.declared.spec.Spec.{Spec}
use Rattle.sci_forms.specs.Ports.{total}
use Rattle.sci_net.specs.Parts.{Parts}
use Rattle.sci_net.specs.Net.{all_elements}
use Rattle.sci_vcd.specs.declared.signal.Signal.{Signal}
use Rattle.sci_vcd.specs.Signals.{signals_of, starts_from, AreStarts}
use Rattle.sci_vcd.specs.Writing.{Writing, IsOutset, unwritten}
use Rattle.sci_vcd.proofs.Kept.{all_zero}

starts_length : (k : ℕ) (ss : List Spec) → length (starts_from k ss) ≡ length ss + 1
starts_length k [] = refl
starts_length k (s ∷ ss) = let rest = starts_length (k + total s.outs) ss in omega (arith, rest)

starts_at : (k : ℕ) (ss : List Spec) (j : ℕ) → j ≤ length ss → get_or (starts_from k ss) j 0 ≡ k + all_elements (take j ss)
starts_at k [] zero h = omega arith
starts_at k [] (suc j) h = absurd (omega (arith, h))
starts_at k (s ∷ ss) zero h = omega arith
starts_at k (s ∷ ss) (suc j) h = let rest = starts_at (k + total s.outs) ss j (omega (arith, h)) in omega (arith, rest)

-- they are how many signals stand before each block
pub starts_are : (n : Parts) → AreStarts n (starts_from 0 n.specs)
starts_are n = record {
  long = starts_length 0 n.specs;
  each = λ b least most. let is = starts_at 0 n.specs (b - 1) (omega (arith, least, most)) in omega (arith, is);
}

-- and no other numbers are
pub one_starts : (n : Parts) (starts : List ℕ) → AreStarts n starts → starts ≡ starts_from 0 n.specs
one_starts n starts h =
    let made = starts_are n in
    same_number_lists starts (starts_from 0 n.specs) (h.long ∙ sym made.long) (λ k within. same_start k (omega (arith, within, h.long)))
  where
    same_start : (k : ℕ) → k ≤ length n.specs → get_or starts k 0 ≡ get_or (starts_from 0 n.specs) k 0
    same_start k most =
        let made = starts_are n in
        let place : k + 1 - 1 ≡ k = omega arith in
        let least : 1 ≤ k + 1 = omega arith in
        let here : k + 1 ≤ length n.specs + 1 = omega (arith, most) in
        let both = h.each (k + 1) least here ∙ sym (made.each (k + 1) least here) in
        rw place at both

abbrev zeros_of : Parts → List ℤ
zeros_of n = replicate (length (signals_of n)) (pos 0)

-- what is kept at first is this
pub is_unwritten : (n : Parts) (o : Writing) → o.signals ≡ signals_of n → AreStarts n o.starts → o.written ≡ zeros_of n → o.noted ≡ zeros_of n → o.closed ≡ None
    → o ≡ unwritten n
is_unwritten n o signals starts written noted closed =
    ap (λ (x : List Signal). let w : Writing = record { signals = x; starts = o.starts; written = o.written; noted = o.noted; closed = o.closed } in w) signals
    ∙ (ap (λ (x : List ℕ). let w : Writing = record { signals = signals_of n; starts = x; written = o.written; noted = o.noted; closed = o.closed } in w) (one_starts n o.starts starts)
    ∙ (ap (λ (x : List ℤ). let w : Writing = record { signals = signals_of n; starts = starts_from 0 n.specs; written = x; noted = o.noted; closed = o.closed } in w) written
    ∙ (ap (λ (x : List ℤ). let w : Writing = record { signals = signals_of n; starts = starts_from 0 n.specs; written = zeros_of n; noted = x; closed = o.closed } in w) noted
    ∙ ap (λ (x : Option ℕ). let w : Writing = record { signals = signals_of n; starts = starts_from 0 n.specs; written = zeros_of n; noted = zeros_of n; closed = x } in w) closed)))

-- and nothing is written yet in it
pub unwritten_outset : (n : Parts) → IsOutset n (unwritten n)
unwritten_outset n = record {
  signals = refl;
  starts = starts_are n;
  noted = λ k. all_zero (length (signals_of n)) k;
  closed = refl;
}
