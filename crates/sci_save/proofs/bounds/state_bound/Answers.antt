use Rattle.std.proofs.Common.{◌≡◌, ◌≤ℤ◌, ◌-ℤ◌, ℤ, pos, to_z, of_z, w64, subst, ap, ◌∙◌, sym, arith}
use Rattle.std.proofs.lemmas.Int.{to_z-of_z}
use Rattle.sci_forms.specs.declared.Kind.{Kind}
use Rattle.sci_forms.specs.declared.Kind.TheVariants.{ModuloCount}
use Rattle.sci_forms.specs.Words.{param}
use Rattle.sci_forms.proofs.Places.{counter_of}
use Rattle.sci_kinds.specs.Asks.{Asks}
use Rattle.sci_kinds.proofs.LawProofs.{asks}
use mir.Val.{SFits}
use Rattle.sci_save.specs.Bounds.{from_to, state_bound_of}
use Rattle.sci_save.proofs.BlockLines.{top_fits}
use Rattle.sci_save.proofs.bounds.state_bound.Goals as goal

pub returns-in-State-Counter : goal.returns-in-State-Counter
returns-in-State-Counter c =
    let s = c.args.spec.now in
    let is : s.kind ≡ ModuloCount = counter_of s.kind (sym (rw c.in-State-Counter.field-0-is at c.in-State-Counter.ensures)) in
    let a = subst (λ (k : Kind). Asks k s) is (asks s c.requires) in
    let least : pos 1 ≤ℤ param s 0 = a.2 in
    let most : param s 0 ≤ℤ pos 2147483647 = a.3 in
    let e = c.at.ensures in
    let base : to_z w64 (of_z w64 c.at.result) ≡ c.at.result = grind (arith, to_z-of_z) in
    let high : to_z w64 (of_z w64 (c.at.result -ℤ pos 1)) ≡ c.at.result -ℤ pos 1 = to_z-of_z w64 (c.at.result -ℤ pos 1) (subst (λ (z : ℤ). SFits w64 (z -ℤ pos 1)) (sym e) (top_fits (param s 0) least most)) in
    ap (λ (z : ℤ). from_to (pos 0) z) (ap (λ (z : ℤ). to_z w64 (of_z w64 (z -ℤ pos 1))) base ∙ high ∙ ap (λ (z : ℤ). z -ℤ pos 1) e) ∙ sym (ap (λ (k : Kind). state_bound_of k s) is)
