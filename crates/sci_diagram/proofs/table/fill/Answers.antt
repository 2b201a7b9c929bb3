use Rattle.std.proofs.Common.{◌-◌, refl, sym, ap, ◌∙◌, subst, arith}
use Rattle.serde_json.specs.Data.{put}
use Rattle.sci_json.specs.View.{view, members_view, put_all}
use Rattle.sci_diagram.specs.Names.{AreFound}
use Rattle.sci_diagram.proofs.Placing.{passed_over, taken_up, next_taken, all_taken}
use Rattle.sci_diagram.proofs.table.fill.Goals as goal

pub loop-name-init : goal.loop-name-init
loop-name-init c fields h = (fields, h, refl)

pub returns : goal.returns
returns c fields h =
    let now = c.loop-name.invariant fields h in
    let none = all_taken (members_view c.loop-name.members) (members_view c.next.new.self) c.in_default.ensures.value in
    subst (AreFound c.loop-name.found) (sym (ap (λ ms. put_all ms now.0) none) ∙ now.2) now.1

pub loop-name-preserved-in-Some-code_of : goal.loop-name-preserved-in-Some-code_of
loop-name-preserved-in-Some-code_of c fields h =
    let now = c.loop-name.invariant fields h in
    let name = c.in-Some.name.now in
    let code = c.in-Some-code_of.code in
    let first = next_taken (members_view c.loop-name.members) (name, view c.in-Some.value) (members_view c.next.new.self) c.in-Some.ensures.value in
    let more = taken_up c.loop-name.found now.0 name c.in-Some.value code (code - 1) (sym c.in-Some-code_of.ensures.code) (omega (arith, c.in-Some-code_of.ensures.within)) now.1 in
    (put name (view c.in-Some.value) now.0, more, sym (ap (λ ms. put_all ms now.0) first) ∙ now.2)

pub loop-name-preserved : goal.loop-name-preserved
loop-name-preserved c fields h =
    let now = c.loop-name.invariant fields h in
    let name = c.in-Some.name.now in
    let first = next_taken (members_view c.loop-name.members) (name, view c.in-Some.value) (members_view c.next.new.self) c.in-Some.ensures.value in
    let kept = passed_over c.loop-name.found now.0 name c.in-Some.value (sym c.in_default-code_of.ensures.code) now.1 in
    (put name (view c.in-Some.value) now.0, kept, sym (ap (λ ms. put_all ms now.0) first) ∙ now.2)
