use Rattle.std.proofs.Common.{◌≡◌, arith, List, [], ◌∷◌, length, refl, sym, ap, subst, ◌∙◌, pos, OnOk}
use Rattle.c_ast.specs.View.{statements_of}
use Rattle.c_ast.specs.declared.Bound.TheVariants as bounds
use Rattle.c_ast.specs.Syntax.{Block, choice, loop}
use Rattle.c_mean.specs.Texts.{joined}
use Rattle.sci_cgen_blocks.specs.declared.recipe_parts.Step.{Step as KeptStep}
use Rattle.sci_cgen_blocks.specs.declared.recipe_parts.Step.TheVariants as kept_steps
use Rattle.sci_cgen_blocks.specs.Texts.{Places, written, scratch_name, expression, works_text, stop_text, step_text, steps_text, assigned_text}
use Rattle.sci_cgen_blocks.specs.Plain.{term_of, works_of, word_of, step_of, steps_of, which_of, plain_places}
use Rattle.sci_cgen_blocks.proofs.Written.{pushed, text_behind}
use Rattle.sci_cgen_blocks.proofs.writing.+push_steps.Goals as goal

-- the first step is this one
begun : (p : Places) (steps behind : List KeptStep) (first x : KeptStep) (last : Block) → steps ≡ first ∷ behind → first ≡ x
    → step_text p (step_of x) (steps_text p (steps_of behind) last) ≡ steps_text p (steps_of steps) last
begun p steps behind first x last cut is =
    sym (ap (λ (xs : List KeptStep). steps_text p (steps_of xs) last) cut
    ∙ ap (λ (y : KeptStep). step_text p (step_of y) (steps_text p (steps_of behind) last)) is)

-- no step is left
ended : (p : Places) (steps : List KeptStep) (last : Block) → length steps ≡ 0 → last ≡ steps_text p (steps_of steps) last
ended p [] last h = refl
ended p (x ∷ xs) last h = absurd (omega (arith, h))

pub returns-in_default : goal.returns-in_default
returns-in_default t c =
    let p = written (plain_places c.args.at.now) (which_of c.args.which) in
    pushed c.args.out.now.items c.push.new.self.items _ _ c.in_ok-push.ensures.items c.in_ok-assigned.ensures
    ∙ ap (joined (statements_of c.args.out.now.items))
    (ended p c.args.steps.now (assigned_text p (term_of c.args.value.now)) c.in_default.ensures.cases)

pub returns-in_ok-push-in-Change : goal.returns-in_ok-push-in-Change
returns-in_ok-push-in-Change t c =
    let p = written (plain_places c.args.at.now) (which_of c.args.which) in
    let last = assigned_text p (term_of c.args.value.now) in
    let cut = begun p c.args.steps.now c.in-Some.behind.now c.in-Some.first.now (kept_steps.Change c.in-Change.change) last c.in-Some.ensures.cases.0 c.in-Change.is in
    subst (λ (b : Block). OnOk c.push_steps.result (statements_of c.push_steps.new.out.items ≡ b))
    (text_behind c.args.out.now.items c.push-in-Change.new.self.items _ _ (steps_text p (steps_of c.in-Some.behind.now) last) _
    c.in_ok-push-in-Change.ensures.items c.in_ok-work-in-Change.ensures cut) c.push_steps.ensures

pub returns-in_ok-push-in-Repeat : goal.returns-in_ok-push-in-Repeat
returns-in_ok-push-in-Repeat t c =
    let p = written (plain_places c.args.at.now) (which_of c.args.which) in
    let last = assigned_text p (term_of c.args.value.now) in
    let cut = begun p c.args.steps.now c.in-Some.behind.now c.in-Some.first.now
    (kept_steps.Repeat c.in-Repeat.counter c.in-Repeat.count c.in-Repeat.changes) last c.in-Some.ensures.cases.0 c.in-Repeat.is in
    let is = c.in_ok-turns-in-Repeat.ensures
    ∙ ap (λ xs. loop (scratch_name c.in-Repeat.counter) (bounds.Num (pos c.in-Repeat.count)) (works_text p (works_of xs))) c.deref.ensures.value in
    subst (λ (b : Block). OnOk c.push_steps-in-Repeat.result (statements_of c.push_steps-in-Repeat.new.out.items ≡ b))
    (text_behind c.args.out.now.items c.push-in-Repeat.new.self.items _ _ (steps_text p (steps_of c.in-Some.behind.now) last) _
    c.in_ok-push-in-Repeat.ensures.items is cut) c.push_steps-in-Repeat.ensures

pub returns-in_ok-push-in-StopIf : goal.returns-in_ok-push-in-StopIf
returns-in_ok-push-in-StopIf t c =
    let p = written (plain_places c.args.at.now) (which_of c.args.which) in
    let last = assigned_text p (term_of c.args.value.now) in
    let cut = begun p c.args.steps.now c.in-Some.behind.now c.in-Some.first.now (kept_steps.StopIf c.in-StopIf.test c.in-StopIf.cause) last
    c.in-Some.ensures.cases.0 c.in-StopIf.is in
    let rest : statements_of c.push_steps-in-StopIf.new.out.items ≡ steps_text p (steps_of c.in-Some.behind.now) last
    = c.in_ok-push_steps-in-StopIf.ensures
    ∙ ap (λ xs. joined (statements_of xs) (steps_text p (steps_of c.in-Some.behind.now) last)) c.new-rest.ensures.items in
    let is = c.in_ok-stop_or-in-StopIf.ensures
    ∙ ap (choice (expression p (term_of c.in-StopIf.test)) (stop_text (word_of c.in-StopIf.cause) p.number)) rest in
    pushed c.args.out.now.items c.push-in-StopIf.new.self.items _ _ c.in_ok-push-in-StopIf.ensures.items is ∙ ap (joined (statements_of c.args.out.now.items)) cut
