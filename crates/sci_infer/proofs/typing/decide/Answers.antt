use Rattle.std.proofs.Common.{ℤ, List, length, subst, sym, ◌∙◌}
use Rattle.std.proofs.lemmas.Result.{IfOk-weaker}
use Rattle.sci_infer.specs.Classes.{Joins, IsWithin}
use Rattle.sci_infer.specs.declared.values.Resolution.{Resolution}
use Rattle.sci_infer.specs.Values.{IsVerdict}
use Rattle.sci_infer.specs.Typing.{Decides, declared_of}
use Rattle.sci_infer.proofs.Typings.{inferred, ties_within}
use Rattle.std.proofs.Common.{IfOk, get_or, ◌≡◌}
use Rattle.sci_infer.proofs.typing.decide.Goals as goal

pub judge-requires : goal.judge-requires
judge-requires c k d h =
    let e : c.as_slice.result.now ≡ declared_of c.args.parts.now = c.as_slice.ensures.value ∙ c.in_ok-declared.ensures in
    subst (λ (xs : List ℤ). IsWithin (length xs) (get_or c.args.ties.now k d)) (sym e) (ties_within c.args.parts.now c.args.ties.now c.requires.alike k d h)

pub returns : goal.returns
returns c =
    let e : c.as_slice.result.now ≡ declared_of c.args.parts.now = c.as_slice.ensures.value ∙ c.in_ok-declared.ensures in
    let joins = Joins c.args.ties.now in
    let v = subst (λ (xs : List ℤ). IfOk c.judge.result (IsVerdict joins xs)) e c.judge.ensures in
    IfOk-weaker c.judge.result (IsVerdict joins (declared_of c.args.parts.now)) (Decides c.args.parts.now joins)
    (λ (w : Resolution) h. inferred c.args.parts.now joins c.requires.declared c.requires.alike w h) v
