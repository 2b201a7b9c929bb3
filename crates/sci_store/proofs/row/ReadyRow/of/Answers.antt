use Rattle.std.proofs.Common.{◌≡◌, ◌<◌, ◌∙◌, ◌↔◌, Contains, true, List, [], length, map, All, sym, ap, subst}
use Rattle.sci_forms.specs.Form.{remembers, has_delay, is_halt}
use Rattle.sci_net.specs.Parts.{IsBlock}
use Rattle.sci_reaction.specs.declared.entry.Entry.{Entry}
use Rattle.sci_reaction.specs.Schedule.{blocks_of}
use Rattle.sci_reaction.specs.Kept.{entries_of}
use Rattle.sci_store.specs.declared.row.CallRank.{CallRank}
use Rattle.sci_store.specs.declared.row.Member.{Member}
use Rattle.sci_store.specs.Blocks.{AreBlocksByNumber}
use Rattle.sci_store.specs.Chosen.{of_kinds}
use Rattle.sci_store.specs.Frame.{seat_of}
use Rattle.sci_store.specs.Rows.{Join, AreByNumber, guarded_blocks, shows_from}
use Rattle.sci_store.specs.Ranks.{AreRanked}
use Rattle.sci_store.proofs.Making.{ranked_blocks, ranked_places, runs_by, calls_by, guarded_by, members_in, every_member, row_made}
use Rattle.sci_store.proofs.row.ReadyRow.of.Goals as goal
use Rattle.sci_store.proofs.row.ReadyRow.of.Goals.{In_ok-members, In_ok-blocks, In_ok-steps, In_ok-order}

-- the blocks by number
by_number : (c : In_ok-members) → AreByNumber (blocks_of (entries_of c.args.entries.items)) (map (λ (m : Member). m.block) c.in_ok-members.members.items)
by_number c = subst (λ (es : List Entry). AreByNumber (blocks_of (entries_of es)) (map (λ (m : Member). m.block) c.in_ok-members.members.items)) c.deref.ensures.value c.in_ok-members.ensures.blocks

in_net : (c : In_ok-members) → AreBlocksByNumber c.args.frame.now.net (map (λ (m : Member). m.block) c.in_ok-members.members.items)
in_net c = members_in c.args.frame.now c.args.entries.items c.in_ok-members.members.items c.requires.blocks (by_number c)

numbers_are : (c : In_ok-blocks) → c.in_ok-blocks.blocks.items ≡ map (λ (m : Member). m.block) c.in_ok-members.members.items
numbers_are c = c.in_ok-blocks.ensures ∙ ap (λ (ms : List Member). map (λ (m : Member). m.block) ms) c.deref-2.ensures.value

steps_are : (c : In_ok-steps) → AreRanked c.args.frame.now (λ (e : Entry). remembers (seat_of c.args.frame.now e.block).kind) (λ (e : Entry). 0) c.args.entries.items c.in_ok-steps.steps.items
steps_are c = subst (λ (es : List Entry). AreRanked c.args.frame.now (λ (e : Entry). remembers (seat_of c.args.frame.now e.block).kind) (λ (e : Entry). 0) es c.in_ok-steps.steps.items)
    c.deref-6.ensures.value c.in_ok-steps.ensures

order_is : (c : In_ok-order) → AreRanked c.args.frame.now (λ (e : Entry). true) (λ (e : Entry). e.depth) c.args.entries.items c.in_ok-order.order.items
order_is c = subst (λ (es : List Entry). AreRanked c.args.frame.now (λ (e : Entry). true) (λ (e : Entry). e.depth) es c.in_ok-order.order.items) c.deref-9.ensures.value c.in_ok-order.ensures

pub shows-requires : goal.shows-requires
shows-requires c =
    subst (All (λ (m : Member). IsBlock c.args.frame.now.net m.block)) (sym c.deref-3.ensures.value)
    (every_member c.args.frame.now c.in_ok-members.members.items (in_net (goal.at.shows-requires c).In_ok-members))

pub delays-requires : goal.delays-requires
delays-requires c =
    subst (AreBlocksByNumber c.args.frame.now.net) (sym (c.deref-4.ensures.value ∙ numbers_are (goal.at.delays-requires c).In_ok-blocks)) (in_net (goal.at.delays-requires c).In_ok-members)

pub halts-requires : goal.halts-requires
halts-requires c =
    subst (AreBlocksByNumber c.args.frame.now.net) (sym (c.deref-5.ensures.value ∙ numbers_are (goal.at.halts-requires c).In_ok-blocks)) (in_net (goal.at.halts-requires c).In_ok-members)

pub remembering-requires : goal.remembering-requires
remembering-requires c = subst (All (λ (e : Entry). IsBlock c.args.frame.now.net e.block)) (sym c.deref-6.ensures.value) c.requires.blocks

pub in_runs-requires-clause-places : goal.in_runs-requires-clause-places
in_runs-requires-clause-places c =
    subst (λ (es : List Entry). All (λ (r : CallRank). r.at < length es) c.deref-8.result.now) (sym c.deref-7.ensures.value)
    (subst (All (λ (r : CallRank). r.at < length c.args.entries.items)) (sym c.deref-8.ensures.value)
    (ranked_places c.args.frame.now _ _ c.args.entries.items c.in_ok-steps.steps.items (steps_are (goal.at.in_runs-requires-clause-places c).In_ok-steps)))

pub in_runs-requires-clause-blocks : goal.in_runs-requires-clause-blocks
in_runs-requires-clause-blocks c =
    subst (All (λ (r : CallRank). IsBlock c.args.frame.now.net r.block)) (sym c.deref-8.ensures.value)
    (ranked_blocks c.args.frame.now _ _ c.args.entries.items c.in_ok-steps.steps.items (steps_are (goal.at.in_runs-requires-clause-blocks c).In_ok-steps) c.requires.blocks)

pub by_depth-requires : goal.by_depth-requires
by_depth-requires c = subst (All (λ (e : Entry). IsBlock c.args.frame.now.net e.block)) (sym c.deref-9.ensures.value) c.requires.blocks

pub in_runs-requires-2-clause-places : goal.in_runs-requires-2-clause-places
in_runs-requires-2-clause-places c =
    subst (λ (es : List Entry). All (λ (r : CallRank). r.at < length es) c.deref-11.result.now) (sym c.deref-10.ensures.value)
    (subst (All (λ (r : CallRank). r.at < length c.args.entries.items)) (sym c.deref-11.ensures.value)
    (ranked_places c.args.frame.now _ _ c.args.entries.items c.in_ok-order.order.items (order_is (goal.at.in_runs-requires-2-clause-places c).In_ok-order)))

pub in_runs-requires-2-clause-blocks : goal.in_runs-requires-2-clause-blocks
in_runs-requires-2-clause-blocks c =
    subst (All (λ (r : CallRank). IsBlock c.args.frame.now.net r.block)) (sym c.deref-11.ensures.value)
    (ranked_blocks c.args.frame.now _ _ c.args.entries.items c.in_ok-order.order.items (order_is (goal.at.in_runs-requires-2-clause-blocks c).In_ok-order) c.requires.blocks)

pub guarded-requires-clause-places : goal.guarded-requires-clause-places
guarded-requires-clause-places c =
    subst (λ (es : List Entry). All (λ (r : CallRank). r.at < length es) c.deref-12.result.now) (sym c.deref_mut.ensures.value)
    (subst (All (λ (r : CallRank). r.at < length c.args.entries.items)) (sym c.deref-12.ensures.value)
    (ranked_places c.args.frame.now _ _ c.args.entries.items c.in_ok-order.order.items (order_is (goal.at.guarded-requires-clause-places c).In_ok-order)))

pub returns : goal.returns
returns c =
    let f = c.args.frame.now in
    let es = c.args.entries.items in
    let order = c.in_ok-order.order.items in
    let steps = c.in_ok-steps.steps.items in
    let at = goal.at.returns c in
    row_made c.args.frame.now c.args.entries.items _ c.in_ok-order.order.items c.in_ok-steps.steps.items (order_is at.In_ok-order) (steps_are at.In_ok-steps)
    (runs_by c.args.frame.now c.in_ok-values.values.runs.items c.in_ok-order.order.items c.deref-11.result.now c.deref-11.ensures.value c.in_ok-values.ensures.runs)
    (subst (λ (rs : List CallRank). Join 0 (length rs) c.in_ok-values.values.runs.items) c.deref-11.ensures.value c.in_ok-values.ensures.joined)
    (calls_by c.args.frame.now c.args.entries.items c.deref-10.result.now c.in_ok-order.order.items c.deref-11.result.now c.in_ok-values.values.calls.items c.deref-10.ensures.value
    c.deref-11.ensures.value c.in_ok-values.ensures.calls)
    (runs_by c.args.frame.now c.in_ok-states.states.runs.items c.in_ok-steps.steps.items c.deref-8.result.now c.deref-8.ensures.value c.in_ok-states.ensures.runs)
    (subst (λ (rs : List CallRank). Join 0 (length rs) c.in_ok-states.states.runs.items) c.deref-8.ensures.value c.in_ok-states.ensures.joined)
    (calls_by c.args.frame.now c.args.entries.items c.deref-7.result.now c.in_ok-steps.steps.items c.deref-8.result.now c.in_ok-states.states.calls.items c.deref-7.ensures.value
    c.deref-8.ensures.value c.in_ok-states.ensures.calls)
    (guarded_by c.args.entries.items c.deref_mut.result.now c.in_ok-order.order.items c.deref-12.result.now c.in_ok-entries.entries.items c.deref_mut.ensures.value c.deref-12.ensures.value
    c.in_ok-entries.ensures)
    (subst (AreByNumber (blocks_of (entries_of c.args.entries.items))) (sym (numbers_are at.In_ok-blocks)) (by_number at.In_ok-members))
    (c.in_ok-shows.ensures (guarded_blocks c.args.entries.items)
    (subst (All (λ (m : Member). (m.guarded ≡ true) ↔ Contains (guarded_blocks c.args.entries.items) m.block)) (sym c.deref-3.ensures.value)
    (subst (λ (xs : List Entry). All (λ (m : Member). (m.guarded ≡ true) ↔ Contains (guarded_blocks xs) m.block) c.in_ok-members.members.items) c.deref.ensures.value
    c.in_ok-members.ensures.guarded))
    ∙ (ap (λ (ms : List Member). shows_from c.args.frame.now (guarded_blocks c.args.entries.items) [] (map (λ (m : Member). m.block) ms)) c.deref-3.ensures.value
    ∙ ap (shows_from c.args.frame.now (guarded_blocks c.args.entries.items) []) (sym (numbers_are at.In_ok-blocks))))
    (c.in_ok-delays.ensures ∙ ap (of_kinds c.args.frame.now.net has_delay) c.deref-4.ensures.value)
    (c.in_ok-halts.ensures ∙ ap (of_kinds c.args.frame.now.net is_halt) c.deref-5.ensures.value)
