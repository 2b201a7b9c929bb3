use Rattle.std.proofs.Common.{ℕ, ◌≡◌, arith, subst, subst₂, sym, ap, ◌∙◌, length, List, IfOk}
use Rattle.std.proofs.lemmas.Result.{IfOk-weaker}
use Rattle.sci_infer.specs.Classes.{Joins}
use Rattle.sci_infer.specs.declared.classes.Tie.{Tie}
use Rattle.sci_infer.proofs.Trees.{Tied-one}
use Rattle.sci_infer.specs.declared.values.Resolution.{Resolution}
use Rattle.sci_infer.specs.declared.parts.PortPart.{PortPart}
use Rattle.sci_infer.specs.Typing.{IsAlike, Decides, AreDeclaredWell}
use Rattle.sci_infer.specs.PortParts.{parts_in, AreTied}
use Rattle.sci_infer.specs.Ties.{WiresTied, SharedTied}
use Rattle.sci_infer.proofs.Declared.{declared_well}
use Rattle.sci_infer.proofs.Numbers.{ties_sound, ties_complete, tied_alike, inferred_by}
use Rattle.sci_infer.proofs.typing.verdict.Goals as goal

pub tie_shared-requires : goal.tie_shared-requires
tie_shared-requires c = (c.args.flat.now, c.requires)

pub decide-requires-clause-declared : goal.decide-requires-clause-declared
decide-requires-clause-declared c =
    subst AreDeclaredWell (sym (c.as_slice.ensures.value ∙ c.requires.parts)) (declared_well c.args.flat.now c.well_formed-2.ensures)

pub decide-requires-clause-alike : goal.decide-requires-clause-alike
decide-requires-clause-alike c i j h =
    let d = c.args.flat.now in
    let none = c.new-ties.result.items in
    let wired = c.tie_wires.new.ties.items in
    let all = c.tie_shared.new.ties.items in
    let w : WiresTied d (length (parts_in d)) none wired = c.in_ok-tie_wires.ensures in
    let s : SharedTied (parts_in d) (length (parts_in d)) wired all =
    subst (λ (qs : List PortPart). SharedTied qs (length qs) wired all) c.requires.parts c.in_ok-tie_shared.ensures in
    let empty : (i j : ℕ) → Joins none i j → ⊥ = λ i j h. let e : length none ≡ 0 = ap length c.new-ties.ensures.items in omega (arith, h.1, e) in
    let ps : c.as_slice.result.now ≡ parts_in d = c.as_slice.ensures.value ∙ c.requires.parts in
    let h' : Joins all i j = subst (λ (ts : List Tie). Joins ts i j) c.as_slice-2.ensures.value h in
    subst (λ (qs : List PortPart). IsAlike qs i j) (sym ps) (tied_alike d i j (ties_sound d none wired all empty w s i j h'))

pub returns : goal.returns
returns c =
    let d = c.args.flat.now in
    let none = c.new-ties.result.items in
    let wired = c.tie_wires.new.ties.items in
    let all = c.tie_shared.new.ties.items in
    let w : WiresTied d (length (parts_in d)) none wired = c.in_ok-tie_wires.ensures in
    let s : SharedTied (parts_in d) (length (parts_in d)) wired all =
    subst (λ (qs : List PortPart). SharedTied qs (length qs) wired all) c.requires.parts c.in_ok-tie_shared.ensures in
    let empty : (i j : ℕ) → Joins none i j → ⊥ = λ i j h. let e : length none ≡ 0 = ap length c.new-ties.ensures.items in omega (arith, h.1, e) in
    let ps : c.as_slice.result.now ≡ parts_in d = c.as_slice.ensures.value ∙ c.requires.parts in
    let v : IfOk c.decide.result (Decides (parts_in d) (Joins all)) =
    subst₂ (λ (qs : List PortPart) (ts : List Tie). IfOk c.decide.result (Decides qs (Joins ts))) ps c.as_slice-2.ensures.value c.decide.ensures in
    IfOk-weaker c.decide.result (Decides (parts_in d) (Joins all)) (Decides (parts_in d) (AreTied d))
    (λ (x : Resolution) h. inferred_by (parts_in d) (Joins all) (AreTied d) (λ i j t. Tied-one (AreTied d) (ties_sound d none wired all empty w s i j t))
    (λ i j t. ties_complete d none wired all empty w s i j t) x h) v
