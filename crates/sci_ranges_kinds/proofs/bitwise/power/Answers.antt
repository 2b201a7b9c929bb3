use Rattle.std.proofs.Common.{◌∙◌, ◌^◌, ap, w64}
use Rattle.std.specs.Prelude.{unsigned_abs}
use Rattle.std.proofs.lemmas.Int.{to_z-of_z}
use Rattle.sci_ranges_kinds.proofs.Shifting.{power_is}
use Rattle.sci_ranges_kinds.proofs.bitwise.power.Goals as goal

pub returns : goal.returns
returns c =
    let count = c.unsigned_abs.ensures.value ∙ ap unsigned_abs (to_z-of_z w64 c.args.places c.ranges.places) in
    let p = power_is (unsigned_abs c.args.places) c.two_to.result c.requires (c.two_to.ensures ∙ ap (λ k. 2 ^ k) count) in
    record { value = p.value; some = p.some; few = p.few }
