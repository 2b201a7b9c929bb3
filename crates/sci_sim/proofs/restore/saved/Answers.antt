use Rattle.std.proofs.Common.{◌≡◌, ℤ, List, ap, length, subst, sym, ◌∙◌, true}
use Rattle.std.specs.Prelude.{flat_map}
use Rattle.sci_forms.specs.Typed.{typed}
use Rattle.sci_net.specs.Parts.{rows_of}
use Rattle.sci_places.specs.Flat.{values_at, IsWhole}
use Rattle.sci_save.specs.Saved.{saved_of}
use Rattle.sci_save.proofs.Writing.{one_cursor_each}
use Rattle.sci_store.specs.Seating.{begun}
use Rattle.sci_sim.proofs.Listed.{joined_whole, joined_at}
use Rattle.sci_sim.proofs.Restoring.{states_typed, one_state_each, kept_of}
use Rattle.sci_sim.proofs.restore.saved.Given.{Over}
use Rattle.sci_sim.proofs.restore.saved.Goals.{In_ok-values}
use Rattle.sci_sim.proofs.restore.saved.Goals as goal

-- the values are the rows, one behind the other
joined_is : (g : Over) (c : In_ok-values g) → c.in_ok-values.values.items ≡ flat_map (λ v. v.items) c.args.image.now.held.items
joined_is g c = c.in_ok-values.ensures ∙ ap (flat_map (λ v. v.items)) c.deref.ensures.value

pub in_states-requires-clause-one_each : goal.in_states-requires-clause-one_each
in_states-requires-clause-one_each g c = one_state_each c.args.n c.deref-3.result.now c.args.image.now.states.items c.requires.shaped.states c.deref-3.ensures.value

pub in_states-requires-clause-is_typed : goal.in_states-requires-clause-is_typed
in_states-requires-clause-is_typed g c b block =
    subst (λ (rows : _). typed (begun c.args.n (rows_of rows) b) ≡ true) (sym c.deref-3.ensures.value) (states_typed c.args.n (saved_of c.args.image.now) c.well_formed-2.ensures c.requires.shaped b block)

pub in_states-requires-clause-values : goal.in_states-requires-clause-values
in_states-requires-clause-values g c =
    subst (IsWhole c.args.n) (sym (joined_is g (goal.at.in_states-requires-clause-values g c).In_ok-values)) (joined_whole c.args.n c.args.image.now.held.items c.requires.shaped.held)

pub in_states-requires-clause-cursors : goal.in_states-requires-clause-cursors
in_states-requires-clause-cursors g c =
    ap length (c.in_ok-cursors.ensures ∙ c.deref-2.ensures.value) ∙ one_cursor_each c.args.n.specs c.args.image.now.cursors.items c.requires.shaped.cursors

pub returns-clause-saved : goal.returns-clause-saved
returns-clause-saved g c =
    let n = c.args.n in
    let values = joined_is g (goal.at.returns-clause-saved g c).In_ok-values in
    let is = c.in_states.ensures in
    kept_of n (saved_of c.args.image.now) _ (rows_of c.deref-3.result.now) c.in_ok-values.values.items c.in_ok-cursors.cursors.items c.in_states.result (ap rows_of c.deref-3.ensures.value)
    (λ b block. ap (λ (vs : List ℤ). values_at n vs b) values ∙ joined_at n c.args.image.now.held.items c.requires.shaped.held b block)
    (c.in_ok-cursors.ensures ∙ c.deref-2.ensures.value) is.net is.seated is.values is.cursors is.untold
