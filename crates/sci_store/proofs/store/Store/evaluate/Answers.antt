use Rattle.std.proofs.Common.{◌≡◌, true, ◌-◌, ◌∙◌, inl, inr, ℤ, List, ◌++◌, length, take, drop, set, Some, refl, ap, sym, subst, arith}
use Rattle.std.proofs.lemmas.List.{length-take-le}
use Rattle.sci_reaction.specs.Equations.{AreInRange}
use Rattle.sci_places.specs.Flat.{values_at}
use Rattle.sci_store.specs.declared.marks.Mark.{Mark}
use Rattle.sci_store.specs.Entering.{entered}
use Rattle.sci_store.specs.Store.{Standing}
use Rattle.sci_store.proofs.Evaluating.{entered_some, entered_none, stops_input, entered_fills, stops_overflow, stops_zero, gives_values, written_back, same_standing}
use Rattle.sci_store.proofs.store.Store.evaluate.Given.{Over}
use Rattle.sci_store.proofs.store.Store.evaluate.Goals.{After-deref, After-deref_mut, After-compute}
use Rattle.sci_store.proofs.store.Store.evaluate.Goals as goal

-- what went in
went_in : (g : Over) (c : After-deref g)
    → entered c.args.frame.now c.args.inputs.now c.args.self.now c.args.block ≡ Some (take c.in-Some.count c.deref.result.now)
went_in g c =
    let same = c.deref.ensures.value ∙ ap (λ (s : Standing). s.room) c.self.view_is in
    (entered_some _ c.enter.new.self.room c.in-Some.count c.in-Some.ensures.entered).1 ∙ ap (λ (xs : List ℤ). Some (take c.in-Some.count xs)) (sym same)

-- but for the room the store is as before
before : (g : Over) (c : After-deref_mut g) → c.deref_mut.result.now ≡ c.args.self.now.values
before g c = c.deref_mut.ensures.value ∙ ap (λ (s : Standing). s.values) (c.self.view_is ∙ c.in-Some.ensures.same)

back : (g : Over) (c : After-compute g)
    → take c.self.inside.values.len (c.compute.new.values ++ drop (length c.compute.new.values) c.self.inside.values.items) ≡ c.compute.new.values
back g c =
    written_back c.self.inside.values.items c.compute.new.values c.self.inside.values.len c.self.inside.values.ok.0
    (c.compute.auto.values ∙ ap length c.deref_mut.ensures.value)

pub returns-in_default-clause-answer : goal.returns-in_default-clause-answer
returns-in_default-clause-answer g c =
    let same = c.in_default.ensures.same in
    stops_input c.args.frame.now c.args.inputs.now _ _ c.args.self.now _ c.args.block c.args.mask
    (entered_none _ c.enter.new.self.room c.in_default.ensures.entered)
    (record {
      calls = inl refl;
      others = λ d inside other. ap (λ (s : Standing). values_at c.args.frame.now.net s.values d) same;
      cursors = ap (λ (s : Standing). s.cursors) same;
      marks = ap (λ (s : Standing). s.marks) same;
      lines = ap (λ (s : Standing). s.lines) same;
      sum = ap (λ (s : Standing). s.sum) same;
    })

pub slice_bounds-ins-end : goal.slice_bounds-ins-end
slice_bounds-ins-end g c =
    let same = c.deref.ensures.value ∙ ap (λ (s : Standing). s.room) c.self.view_is in
    let within = (entered_some _ c.enter.new.self.room c.in-Some.count c.in-Some.ensures.entered).0 in
    sym (length-take-le c.in-Some.count c.deref.result.now (omega (arith, within, ap length same)))

pub compute-requires-clause-filled : goal.compute-requires-clause-filled
compute-requires-clause-filled g c =
    entered_fills c.args.frame.now c.args.inputs.now c.well_formed-2.ensures.net c.requires.columns c.args.self.now c.requires.values c.args.block
    c.requires.block (take c.in-Some.count c.deref.result.now) (went_in g (goal.at.compute-requires-clause-filled g c).After-deref)

pub take_branch-branch-requires-clause-filled : goal.take_branch-branch-requires-clause-filled
take_branch-branch-requires-clause-filled g c =
    entered_fills c.args.frame.now c.args.inputs.now c.well_formed-2.ensures.net c.requires.columns c.args.self.now c.requires.values c.args.block
    c.requires.block (take c.in-Some.count c.deref.result.now) (went_in g (goal.at.take_branch-branch-requires-clause-filled g c).After-deref)

pub returns-in-Overflow-clause-answer : goal.returns-in-Overflow-clause-answer
returns-in-Overflow-clause-answer g c =
    let same = c.self.view_is ∙ c.in-Some.ensures.same in
    stops_overflow c.args.frame.now c.args.inputs.now _ _ c.args.self.now _ c.args.block c.args.mask (take c.in-Some.count c.deref.result.now)
    c.deref_mut.result.now c.compute.new.values _ (went_in g (goal.at.returns-in-Overflow-clause-answer g c).After-deref) c.in-Overflow.ensures.computed
    (record {
      calls = inr c.in-Overflow.ensures.called;
      others = λ d inside other. ap (λ (vs : List ℤ). values_at c.args.frame.now.net vs d) (back g (goal.at.returns-in-Overflow-clause-answer g c).After-compute)
          ∙ (c.in-Overflow.ensures.others d inside other
          ∙ ap (λ (vs : List ℤ). values_at c.args.frame.now.net vs d) (before g (goal.at.returns-in-Overflow-clause-answer g c).After-deref_mut));
      cursors = ap (λ (s : Standing). s.cursors) same;
      marks = ap (λ (s : Standing). s.marks) same;
      lines = ap (λ (s : Standing). s.lines) same;
      sum = ap (λ (s : Standing). s.sum) same;
    })

pub returns-in-Zero-clause-answer : goal.returns-in-Zero-clause-answer
returns-in-Zero-clause-answer g c =
    let same = c.self.view_is ∙ c.in-Some.ensures.same in
    stops_zero c.args.frame.now c.args.inputs.now _ _ c.args.self.now _ c.args.block c.args.mask (take c.in-Some.count c.deref.result.now)
    c.deref_mut.result.now c.compute.new.values _ (went_in g (goal.at.returns-in-Zero-clause-answer g c).After-deref) c.in-Zero.ensures.computed
    (record {
      calls = inr c.in-Zero.ensures.called;
      others = λ d inside other. ap (λ (vs : List ℤ). values_at c.args.frame.now.net vs d) (back g (goal.at.returns-in-Zero-clause-answer g c).After-compute)
          ∙ (c.in-Zero.ensures.others d inside other
          ∙ ap (λ (vs : List ℤ). values_at c.args.frame.now.net vs d) (before g (goal.at.returns-in-Zero-clause-answer g c).After-deref_mut));
      cursors = ap (λ (s : Standing). s.cursors) same;
      marks = ap (λ (s : Standing). s.marks) same;
      lines = ap (λ (s : Standing). s.lines) same;
      sum = ap (λ (s : Standing). s.sum) same;
    })

pub returns-in-Overflow-clause-values : goal.returns-in-Overflow-clause-values
returns-in-Overflow-clause-values g c =
    subst (λ (vs : List ℤ). AreInRange c.args.frame.now.net (values_at c.args.frame.now.net vs))
    (sym (back g (goal.at.returns-in-Overflow-clause-values g c).After-compute)) c.in-Overflow.ensures.values

pub returns-in-Zero-clause-values : goal.returns-in-Zero-clause-values
returns-in-Zero-clause-values g c =
    subst (λ (vs : List ℤ). AreInRange c.args.frame.now.net (values_at c.args.frame.now.net vs))
    (sym (back g (goal.at.returns-in-Zero-clause-values g c).After-compute)) c.in-Zero.ensures.values

pub returns-clause-values : goal.returns-clause-values
returns-clause-values g c =
    subst (λ (vs : List ℤ). AreInRange c.args.frame.now.net (values_at c.args.frame.now.net vs))
    (sym (back g (goal.at.returns-clause-values g c).After-compute)) c.in-Done.ensures.values

pub returns-clause-answer : goal.returns-clause-answer
returns-clause-answer g c =
    let same = c.self.view_is ∙ c.in-Some.ensures.same in
    let mark : Mark = record { active = true; branch = c.take_branch-branch.result; mask = c.args.mask } in
    gives_values c.args.frame.now c.args.inputs.now _ _ c.args.self.now _ c.args.block c.args.mask (take c.in-Some.count c.deref.result.now)
    c.deref_mut.result.now c.compute.new.values _ (went_in g (goal.at.returns-clause-answer g c).After-deref) c.take_branch-branch.result
    c.take_branch-branch.ensures c.in-Done.ensures.called (before g (goal.at.returns-clause-answer g c).After-deref_mut) refl
    (same_standing _ _ (back g (goal.at.returns-clause-answer g c).After-compute) (ap (λ (s : Standing). s.cursors) same)
    (ap (λ (s : Standing). set s.marks (c.args.block - 1) mark) same) refl (ap (λ (s : Standing). s.chosen) same) (ap (λ (s : Standing). s.lines) same)
    (ap (λ (s : Standing). s.sum) same))
    c.in-Done.ensures.computed
