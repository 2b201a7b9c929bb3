use Rattle.std.proofs.Common.{◌≡◌, ◌≤◌, ◌∙◌, ◌++◌, ℤ, List, length, take, drop, ap, sym, subst, arith}
use Rattle.sci_span.specs.declared.span.Span.{Span}
use Rattle.sci_places.specs.Layout.{place_at, input_spans}
use Rattle.sci_span.specs.Values.{AreWithin, gathered, spans_length}
use Rattle.sci_places.proofs.Inputs.{inputs_law}
use Rattle.sci_store.specs.Frame.{Fixed}
use Rattle.sci_store.specs.Store.{Standing}
use Rattle.sci_store.proofs.Evaluating.{written_back, ins_here, ins_room}
use Rattle.sci_store.proofs.store.Store.gather.Goals.{After-deref_mut, After-gather}
use Rattle.sci_store.proofs.store.Store.gather.Goals as goal

-- the spans that are read, the values, and the room
spans : (c : After-deref_mut) → (place_at c.frame.inside.places c.args.block).ins ≡ input_spans c.args.frame.now.net c.args.block
spans c = ins_here c.args.frame.now c.args.block c.frame.inside.places c.well_formed-2.ensures c.requires.block (ap (λ (f : Fixed). f.layout) c.frame.view_is)

values : (c : After-deref_mut) → c.deref.result.now ≡ c.args.self.now.values
values c = c.deref.ensures.value ∙ ap (λ (s : Standing). s.values) c.self.view_is

enough : (c : After-deref_mut) → spans_length (place_at c.frame.inside.places c.args.block).ins ≤ length c.deref_mut.result.now
enough c =
    let room = ins_room c.args.frame.now c.args.self.now c.args.block c.well_formed-2.ensures c.requires.store c.requires.block in
    let long = ap length c.deref_mut.ensures.value ∙ ap (λ (s : Standing). length s.room) c.self.view_is in
    subst (λ (ss : List Span). spans_length ss ≤ length c.deref_mut.result.now) (sym (spans c)) (omega (arith, room, long))

back : (c : After-gather) → take c.self.inside.ins.len (c.gather.new.ins ++ drop (length c.gather.new.ins) c.self.inside.ins.items) ≡ c.gather.new.ins
back c = written_back c.self.inside.ins.items c.gather.new.ins c.self.inside.ins.len c.self.inside.ins.ok.0
    (c.gather.auto.ins ∙ ap length c.deref_mut.ensures.value)

pub gather-requires-clause-within : goal.gather-requires-clause-within
gather-requires-clause-within c =
    let h = (goal.at.gather-requires-clause-within c).After-deref_mut in
    subst (λ (vs : List ℤ). AreWithin vs (place_at c.frame.inside.places c.args.block).ins) (sym (values h))
    (subst (AreWithin c.args.self.now.values) (sym (spans h))
    (inputs_law.within c.args.frame.now.net c.args.self.now.values c.args.block c.well_formed-2.ensures.net c.requires.store.values c.requires.block))

pub gather-requires-clause-room : goal.gather-requires-clause-room
gather-requires-clause-room c = enough (goal.at.gather-requires-clause-room c).After-deref_mut

pub returns-clause-within : goal.returns-clause-within
returns-clause-within c =
    let h = (goal.at.returns-clause-within c).After-gather in
    let room = enough (goal.at.returns-clause-within c).After-deref_mut in
    subst (λ (xs : List ℤ). c.gather.result ≤ length xs) (sym (back h)) (omega (arith, c.gather.ensures.count, c.gather.auto.ins, room))

pub returns-clause-gathered : goal.returns-clause-gathered
returns-clause-gathered c =
    let h = (goal.at.returns-clause-gathered c).After-deref_mut in
    ap (take c.gather.result) (back (goal.at.returns-clause-gathered c).After-gather)
    ∙ (c.gather.ensures.copied
    ∙ (ap (gathered c.deref.result.now) (spans h)
    ∙ (ap (λ (vs : List ℤ). gathered vs (input_spans c.args.frame.now.net c.args.block)) (values h)
    ∙ inputs_law.same c.args.frame.now.net c.args.self.now.values c.args.block c.well_formed-2.ensures.net c.requires.store.values c.requires.block)))
