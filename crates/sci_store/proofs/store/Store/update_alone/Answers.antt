use Rattle.std.proofs.Common.{◌≡◌, ◌≢◌, ℕ, ◌+◌, ◌++◌, ◌∷◌, [], ◌<◌, List, AllPairs, Contains, take, get_or, length, ap, sym, ◌∙◌, arith, subst}
use Rattle.std.specs.Prelude.{IsSome}
use Rattle.std.proofs.lemmas.List.{take_more, get_or-map, length-map}
use Rattle.sci_kinds.specs.Asks.{IsState}
use Rattle.sci_net.specs.Parts.{IsBlock, spec_of}
use Rattle.sci_reaction.specs.Memory.{next_value}
use Rattle.sci_reaction.specs.Equations.{AreInRange}
use Rattle.sci_reaction.proofs.Lists.{Has}
use Rattle.sci_places.specs.Flat.{values_at}
use Rattle.sci_bank.specs.declared.runs.Call.{Call}
use Rattle.sci_store.specs.Marks.{mark_at}
use Rattle.sci_store.specs.Store.{Standing}
use Rattle.sci_store.specs.Runs.{AreStepped, called_blocks}
use Rattle.sci_store.proofs.Updating.{stepped_begin, stepped_next, stepped_idle, fresh_at, state_before, cursor_before}
use Rattle.sci_store.proofs.store.Store.update_alone.Given.{Over}
use Rattle.sci_store.proofs.store.Store.update_alone.Goals as goal
use Rattle.sci_store.proofs.store.Store.update_alone.Goals.{After-is_active, then-is_active, else-is_active}

abbrev no_call : Call
no_call = record { slot = 0; block = 0; mask = 0 }

-- the number of the block of a call
number : (calls : List Call) (k : ℕ) → k < length calls → get_or (called_blocks calls) k 0 ≡ (get_or calls k no_call).block
number calls k l = get_or-map (λ (c : Call). c.block) calls k no_call 0 l

numbers_apart : (calls : List Call) → AllPairs (λ (c d : Call). c.block ≢ d.block) calls → AllPairs (λ (b c : ℕ). b ≢ c) (called_blocks calls)
numbers_apart calls h i j d l m =
    let long = length-map calls (λ (c : Call). c.block) in
    let within : j < length calls = omega (arith, m, long) in
    λ e. h i j no_call l within
    (sym (get_or-map (λ (c : Call). c.block) calls i no_call d (omega (arith, l, within))) ∙ (e ∙ get_or-map (λ (c : Call). c.block) calls j no_call d within))

module _ (g : Over) (c : After-is_active g) where
  abbrev b : ℕ
  b = (get_or c.args.calls.now c.loop-call.call-index no_call).block

  there : c.loop-call.call-index < length (called_blocks c.args.calls.now)
  there = let long = length-map c.args.calls.now (λ (d : Call). d.block) in omega (arith, long, c.loop-call-test.true)

  block : IsBlock c.args.frame.now.net (get_or c.args.calls.now c.loop-call.call-index no_call).block
  block = c.requires.calls.blocks c.loop-call.call-index no_call c.loop-call-test.true

  has : Contains (called_blocks c.args.calls.now) (get_or c.args.calls.now c.loop-call.call-index no_call).block
  has = (
    c.loop-call.call-index,
    there,
    get_or-map (λ (d : Call). d.block) c.args.calls.now c.loop-call.call-index no_call (get_or c.args.calls.now c.loop-call.call-index no_call).block c.loop-call-test.true,
  )

  fresh : Has (take c.loop-call.call-index (called_blocks c.args.calls.now)) (get_or c.args.calls.now c.loop-call.call-index no_call).block → ⊥
  fresh h = fresh_at (called_blocks c.args.calls.now) c.loop-call.call-index (numbers_apart c.args.calls.now c.requires.calls.once) there
      (subst (Has (take c.loop-call.call-index (called_blocks c.args.calls.now))) (sym (number c.args.calls.now c.loop-call.call-index c.loop-call-test.true)) h)

  marked : c.is_active.result ≡ (mark_at c.args.self.now.marks (get_or c.args.calls.now c.loop-call.call-index no_call).block).active
  marked = c.is_active.ensures ∙ ap (λ (s : Standing). (mark_at s.marks (get_or c.args.calls.now c.loop-call.call-index no_call).block).active) c.loop-call.invariant.same

pub loop-call-init : goal.loop-call-init
loop-call-init g c = stepped_begin c.args.frame.now c.args.self.now _ c.requires.seated

pub update-requires-clause-values : goal.update-requires-clause-values
update-requires-clause-values g c =
    subst (λ (s : Standing). AreInRange c.args.frame.now.net (values_at c.args.frame.now.net s.values)) (sym c.loop-call.invariant.same) c.requires.may_step.values

pub update-requires-clause-sensed : goal.update-requires-clause-sensed
update-requires-clause-sensed g c =
    let at = (goal.at.update-requires-clause-sensed g c).After-is_active in
    let same = cursor_before c.args.frame.now _ c.args.self.now c.loop-call.self _ _ c.loop-call.invariant (b g at) (block g at) (fresh g at) in
    λ sensor. subst (λ (k : ℕ). IsSome (next_value c.args.inputs.now (spec_of c.args.frame.now.net (b g at)) k)) (sym same)
    (c.requires.may_step.sensed (b g at) (has g at) (sym (marked g at) ∙ c.if-is_active.true) sensor)

pub update-requires-clause-state : goal.update-requires-clause-state
update-requires-clause-state g c =
    let at = (goal.at.update-requires-clause-state g c).After-is_active in
    subst (IsState (spec_of c.args.frame.now.net (b g at))) (sym (state_before c.args.frame.now _ c.args.self.now c.loop-call.self _ _ c.loop-call.invariant (b g at) (block g at) (fresh g at)))
    (c.requires.may_step.states (b g at) (has g at))

pub loop-call-preserved : goal.loop-call-preserved
loop-call-preserved g c =
    let at = (goal.at.loop-call-preserved g c).After-is_active in
    let f = c.args.frame.now in
    let s = c.args.self.now in
    let items = called_blocks c.args.calls.now in
    let k = c.loop-call.call-index in
    let x = b g at in
    let banks = c.args.lib.now in
    let more = sym (take_more items k 0 (there g at) ∙ ap (λ (n : ℕ). take k items ++ n ∷ []) (number c.args.calls.now k c.loop-call-test.true)) in
    elim c.if-is_active.branch [
      | then-is_active w ↦ subst (λ (l : _). AreStepped f (take (k + 1) items) s c.if-is_active.self banks l) (sym w.lib-is)
          (subst (λ (t : Standing). AreStepped f (take (k + 1) items) s t banks w.update.new.lib) (sym w.self-is)
          (subst (λ (xs : List ℕ). AreStepped f xs s w.update.new.self banks w.update.new.lib) more
          (stepped_next f (take k items) s c.loop-call.self w.update.new.self banks _ _ x (block g at) c.loop-call.invariant (sym (marked g at) ∙ w.if-is_active.true)
          (fresh g at) w.update.ensures c.requires.store.cursors)))
      | else-is_active w ↦ subst (λ (l : _). AreStepped f (take (k + 1) items) s c.if-is_active.self banks l) (sym w.lib-is)
          (subst (λ (t : Standing). AreStepped f (take (k + 1) items) s t banks c.loop-call.lib) (sym w.self-is)
          (subst (λ (xs : List ℕ). AreStepped f xs s c.loop-call.self banks c.loop-call.lib) more
          (stepped_idle f (take k items) s c.loop-call.self banks _ x c.loop-call.invariant (sym (marked g at) ∙ w.if-is_active.false))))
    ]
