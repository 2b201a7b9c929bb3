-- The blocks before a switch, as code finds them.
use Rattle.std.proofs.Common.{◌≡◌, ℕ, Bool, true, false, ◌&&◌, cond, nat_eq, Some, None, sym, ap, ◌∙◌}
use Rattle.sci_forms.specs.Words.{size}
use Rattle.sci_forms.proofs.TestLemmas.{nat_same}
use Rattle.sci_net.specs.declared.Wire.{Wire}
use Rattle.sci_net.specs.Parts.{Parts, IsBlock, spec_of, wire_of}
use Rattle.sci_reaction.proofs.Lists.{and_both}
use Rattle.sci_ranges_refined.specs.Sums.{is_sum}
use Rattle.sci_ranges_refined.specs.Choices.{taken_input, compares}
use Rattle.sci_ranges_rows.specs.Marks.{Marks}
use Rattle.sci_ranges_rows.specs.Tests.{is_along}
use Rattle.sci_ranges_pass.specs.Taken.{is_single, comparison, addition}
use Rattle.sci_ranges_choices.specs.View.{IsCompared, IsAdded}

pub comparison_on : (n : Parts) (m : Marks) (c : ℕ) (w : Wire) → w ≡ wire_of n c 2 → (compares (spec_of n w.block).kind && is_single n m c w) ≡ true → Some w.block ≡ comparison n m c
comparison_on n m c w e h =
    ap (λ (b : Bool). cond b (Some w.block) None) (sym h) ∙ ap (λ (v : Wire). cond (compares (spec_of n v.block).kind && is_single n m c v) (Some v.block) None) e

pub comparison_off : (n : Parts) (m : Marks) (c : ℕ) (w : Wire) → w ≡ wire_of n c 2 → (compares (spec_of n w.block).kind && is_single n m c w) ≡ false → None ≡ comparison n m c
comparison_off n m c w e h =
    ap (λ (b : Bool). cond b (Some w.block) None) (sym h) ∙ ap (λ (v : Wire). cond (compares (spec_of n v.block).kind && is_single n m c v) (Some v.block) None) e

pub compared_is : (n : Parts) (m : Marks) (c : ℕ) (w : Wire) → IsBlock n w.block → (compares (spec_of n w.block).kind && is_single n m c w) ≡ true → IsCompared n w.block
compared_is n m c w block h = record { block = block; comparing = (and_both (compares (spec_of n w.block).kind) (is_single n m c w) h).0 }

pub addition_on : (n : Parts) (m : Marks) (c : ℕ) (first : Bool) (w : Wire) → w ≡ wire_of n c (taken_input first) → (is_sum (spec_of n w.block).kind && is_single n m c w) ≡ true
    → Some w.block ≡ addition n m c first
addition_on n m c first w e h =
    ap (λ (b : Bool). cond b (Some w.block) None) (sym h) ∙ ap (λ (v : Wire). cond (is_sum (spec_of n v.block).kind && is_single n m c v) (Some v.block) None) e

pub addition_off : (n : Parts) (m : Marks) (c : ℕ) (first : Bool) (w : Wire) → w ≡ wire_of n c (taken_input first) → (is_sum (spec_of n w.block).kind && is_single n m c w) ≡ false
    → None ≡ addition n m c first
addition_off n m c first w e h =
    ap (λ (b : Bool). cond b (Some w.block) None) (sym h) ∙ ap (λ (v : Wire). cond (is_sum (spec_of n v.block).kind && is_single n m c v) (Some v.block) None) e

pub added_is : (n : Parts) (m : Marks) (c : ℕ) (w : Wire) → IsBlock n w.block → (is_sum (spec_of n w.block).kind && is_single n m c w) ≡ true → IsAdded n w.block
added_is n m c w block h =
    let p = and_both (is_sum (spec_of n w.block).kind) (is_single n m c w) h in
    let q = and_both (nat_eq w.port 1) (nat_eq (size (spec_of n w.block)) 1 && is_along m w.block c) p.1 in
    let r = and_both (nat_eq (size (spec_of n w.block)) 1) (is_along m w.block c) q.1 in
    record { block = block; sum = p.0; single = nat_same (size (spec_of n w.block)) 1 r.0 }
