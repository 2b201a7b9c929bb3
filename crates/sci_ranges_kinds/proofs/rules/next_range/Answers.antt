use Rattle.std.proofs.Common.{◌≡◌, ◌<◌, ◌∙◌, pos, ◌-ℤ◌, ◌≤ℤ◌, Some, refl, sym, subst, ap, arith, to_z, of_z, w64}
use Rattle.std.proofs.lemmas.Int.{ints}
use Rattle.sci_forms.specs.declared.Kind.{Kind}
use Rattle.sci_forms.specs.declared.Kind.TheVariants.{ModuloCount}
use Rattle.sci_forms.specs.Words.{param, state_len_of}
use Rattle.sci_kinds.specs.Asks.{Asks}
use Rattle.sci_ranges_base.specs.Intervals.{from_to}
use Rattle.sci_ranges_base.proofs.Ends.{same_ends}
use Rattle.sci_ranges_rules.specs.Rules.{next_range_of}
use Rattle.sci_ranges_kinds.proofs.Asked.{asks_of, few_states}
use Rattle.sci_ranges_kinds.proofs.Dispatched.{other_next}
use Rattle.sci_ranges_kinds.proofs.rules.next_range.Goals as goal

pub moved-requires : goal.moved-requires
moved-requires c =
    let s = c.args.spec.now in
    let within = subst (λ k. c.args.i < state_len_of k s) c.in-Register.is c.requires.value in
    omega (arith, within, few_states s c.in-Register.is c.requires.is_typed)

pub returns-in_default : goal.returns-in_default
returns-in_default c =
    ap Some c.one.ensures
    ∙ sym (other_next c.args.spec.now.kind c.args.spec.now c.args.state.now c.args.ins.now c.args.i c.in_default.not-Dollar
    c.in_default.not-GatedDelay c.in_default.not-Register c.in_default.not-ModuloCount)

pub returns-in-ModuloCount : goal.returns-in-ModuloCount
returns-in-ModuloCount c =
    let s = c.args.spec.now in
    let a : Asks ModuloCount s = asks_of ModuloCount s c.in-ModuloCount.is c.requires.is_typed in
    let least : pos 1 ≤ℤ param s 0 = a.2 in
    let most : param s 0 ≤ℤ pos 2147483647 = a.3 in
    let is : c.at.result ≡ param s 0 = c.at.ensures in
    let last : to_z w64 (of_z w64 (to_z w64 (of_z w64 c.at.result) -ℤ pos 1)) ≡ param s 0 -ℤ pos 1 = omega (arith, ints) in
    ap Some (c.new.ensures
    ∙ same_ends (from_to (pos 0) (to_z w64 (of_z w64 (to_z w64 (of_z w64 c.at.result) -ℤ pos 1)))) (from_to (pos 0) (param s 0 -ℤ pos 1)) refl last)
    ∙ sym (ap (λ (k : Kind). next_range_of k s c.args.state.now c.args.ins.now c.args.i) c.in-ModuloCount.is)
