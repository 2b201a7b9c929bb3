use Rattle.std.proofs.Common.{◌≡◌, ℕ, ◌+◌, ◌≤◌, ◌∙◌, true, false, ◌⊎◌, inr, ap, List, refl, take, take_all, length, get_or, sym, subst, arith}
use Rattle.sci_forms.specs.Form.{has_delay}
use Rattle.sci_net.specs.Parts.{IsBlock, spec_of}
use Rattle.sci_reaction.specs.Equations.{AreInRange}
use Rattle.sci_places.specs.Flat.{values_at}
use Rattle.sci_pending.specs.Pending.{Pending}
use Rattle.sci_store.specs.Marks.{mark_at}
use Rattle.sci_store.specs.Frame.{Fixed, AreSeated}
use Rattle.sci_store.proofs.Reacting.{kept_room, range_alike}
use Rattle.sci_store.proofs.Writing.{block_at}
use Rattle.sci_kept.specs.Kept.{Kept}
use Rattle.sci_sim.specs.Programming.{Keeps, ProgramsBlock}
use Rattle.sci_sim.proofs.RowDelays.{row_programmed, row_all, row_on, row_off, same_room}
use Rattle.sci_sim.proofs.programming.program_all.Goals.{In-loop-block, then-is_active, else-is_active}
use Rattle.sci_sim.proofs.programming.program_all.Goals as goal

block : (g : _) (c : In-loop-block g) → IsBlock c.args.kept.now.fixed.net (get_or c.args.blocks.now c.loop-block.block-index 0)
block g c = block_at c.requires.blocks c.loop-block.block-index c.loop-block-test.true

-- over the tables that are kept in the loop
block_here : (g : _) (c : In-loop-block g) → IsBlock c.loop-block.kept.fixed.net (get_or c.args.blocks.now c.loop-block.block-index 0)
block_here g c = subst (λ (x : Fixed). IsBlock x.net (get_or c.args.blocks.now c.loop-block.block-index 0)) (sym c.loop-block.invariant.fixed) (block g c)

pub is_active-requires : goal.is_active-requires
is_active-requires g c = block_here g (goal.at.is_active-requires g c).In-loop-block

pub program_block-requires-clause-seated : goal.program_block-requires-clause-seated
program_block-requires-clause-seated g c = subst (λ (x : Fixed). AreSeated x c.args.lib.now) (sym c.loop-block.invariant.fixed) c.requires.seated

pub program_block-requires-clause-block : goal.program_block-requires-clause-block
program_block-requires-clause-block g c = block_here g (goal.at.program_block-requires-clause-block g c).In-loop-block

pub program_block-requires-clause-delayed : goal.program_block-requires-clause-delayed
program_block-requires-clause-delayed g c =
    ap (λ (x : Fixed). has_delay (spec_of x.net (get_or c.args.blocks.now c.loop-block.block-index 0)).kind) c.loop-block.invariant.fixed
    ∙ c.requires.delays c.loop-block.block-index 0 c.loop-block-test.true

pub program_block-requires-clause-values : goal.program_block-requires-clause-values
program_block-requires-clause-values g c =
    let s = c.args.kept.now.store in
    let t = c.loop-block.kept.store in
    subst (λ (x : Fixed). AreInRange x.net (values_at x.net t.values)) (sym c.loop-block.invariant.fixed)
    (range_alike c.args.kept.now.fixed s t (kept_room s t c.loop-block.invariant.same c.loop-block.invariant.room) c.requires.values)

pub program_block-requires-clause-keeps : goal.program_block-requires-clause-keeps
program_block-requires-clause-keeps g c =
    let k = c.requires.keeps in
    let keeps = c.loop-block.invariant.kept k.0 k.1 k.2 in
    let due = row_programmed c.args.kept.now.fixed c.args.kept.now.store (c.args.date + k.0) (take c.loop-block.block-index c.args.blocks.now) k.1 in
    (k.0, due, subst (λ (x : Fixed). Keeps x.net k.0 (c.args.date + k.0) (g.A.Agenda.meaning c.loop-block.agenda) (g.A.Agenda.puts c.loop-block.agenda) due) (sym c.loop-block.invariant.fixed) keeps)

pub loop-block-preserved : goal.loop-block-preserved
loop-block-preserved g c =
    let f = c.args.kept.now.fixed in
    let s = c.args.kept.now.store in
    let t = c.loop-block.kept.store in
    let bs = c.args.blocks.now in
    let i = c.loop-block.block-index in
    let b = get_or c.args.blocks.now i 0 in
    let delayed : has_delay (spec_of f.net b).kind ≡ true = c.requires.delays i 0 c.loop-block-test.true in
    elim c.if-is_active.branch [
      | then-is_active w ↦ record {
        kept = λ offset p keeps.
            let at = c.args.date + offset in
            let active : (mark_at t.marks b).active ≡ true = sym {b = (mark_at t.marks b).active} w.if-is_active.ensures in
            let more = row_on f s t at bs i b p c.loop-block.invariant.same c.loop-block-test.true refl delayed active in
            let programs = subst (λ (x : Fixed). ProgramsBlock (record c.loop-block.kept { fixed = x }) b c.args.date (g.A.Agenda.meaning c.loop-block.agenda) (g.A.Agenda.puts c.loop-block.agenda)
            (g.A.Agenda.meaning w.program_block.new.agenda) (g.A.Agenda.puts w.program_block.new.agenda)) c.loop-block.invariant.fixed w.program_block.ensures.programmed in
            rw w.agenda-is (subst (λ (r : Pending). Keeps f.net offset at (g.A.Agenda.meaning w.program_block.new.agenda)
            (g.A.Agenda.puts w.program_block.new.agenda) r) more
            (programs offset _ (c.loop-block.invariant.kept offset p keeps)));
        same = same_room s t w.program_block.new.kept.store c.if-is_active.kept.store (ap (λ (k : Kept). k.store) w.kept-is) w.program_block.ensures.same c.loop-block.invariant.same;
        room = ap (λ (k : Kept). length k.store.room) w.kept-is ∙ (w.program_block.ensures.room ∙ c.loop-block.invariant.room);
        fixed = ap (λ (k : Kept). k.fixed) w.kept-is ∙ (w.program_block.ensures.fixed ∙ c.loop-block.invariant.fixed);
      }
      | else-is_active w ↦ record {
        kept = λ offset p keeps.
            let at = c.args.date + offset in
            let none : (has_delay (spec_of f.net b).kind ≡ false) ⊎ ((mark_at t.marks b).active ≡ false) = inr (sym {b = (mark_at t.marks b).active} w.if-is_active.ensures) in
            rw w.agenda-is (subst (λ (r : Pending). Keeps f.net offset at (g.A.Agenda.meaning c.loop-block.agenda) (g.A.Agenda.puts c.loop-block.agenda) r)
            (row_off f s t at bs i b p c.loop-block.invariant.same c.loop-block-test.true refl none) (c.loop-block.invariant.kept offset p keeps));
        same = subst (λ (k : Kept). k.store ≡ record s { room = k.store.room }) (sym w.kept-is) c.loop-block.invariant.same;
        room = ap (λ (k : Kept). length k.store.room) w.kept-is ∙ c.loop-block.invariant.room;
        fixed = ap (λ (k : Kept). k.fixed) w.kept-is ∙ c.loop-block.invariant.fixed;
      }
    ]

pub returns-clause-programmed : goal.returns-clause-programmed
returns-clause-programmed g c = λ source y active shown among offset p keeps.
    let f = c.args.kept.now.fixed in
    let s = c.args.kept.now.store in
    let bs = c.args.blocks.now in
    let at = c.args.date + offset in
    let all : length bs ≤ c.loop-block.block-index = omega (arith, c.loop-block-test.false) in
    subst (λ (r : Pending). Keeps f.net offset at (g.A.Agenda.meaning c.loop-block.agenda) (g.A.Agenda.puts c.loop-block.agenda) r)
    (ap (λ (l : List ℕ). row_programmed f s at l p) (take_all c.loop-block.block-index bs all)
    ∙ row_all f c.well_formed-2.ensures.frame s at source y active shown bs p c.requires.blocks among)
    (c.loop-block.invariant.kept offset p keeps)
