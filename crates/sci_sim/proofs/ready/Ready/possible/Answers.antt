use Rattle.std.proofs.Common.{◌≡◌, ◌<◌, ℕ, List, ap, sym, subst, ◌∙◌}
use Rattle.std.specs.Prelude.{◌↔◌, AllPairs, Contains}
use Rattle.sci_net.specs.Sources.{source_of}
use Rattle.sci_reaction.specs.Active.{Possible}
use Rattle.sci_store.specs.Rows.{ReadyRow}
use Rattle.sci_sim.specs.Rows.{row_in}
use Rattle.sci_sim.specs.At.{Running, IsReady}
use Rattle.sci_sim.proofs.Cleared.{active_in_row}
use Rattle.sci_sim.proofs.Reacting.{row_read}
use Rattle.sci_sim.proofs.ready.Ready.possible.Goals.{After-as_slice}
use Rattle.sci_sim.proofs.ready.Ready.possible.Goals as goal

blocks_are : (c : After-as_slice) → c.as_slice.result.now ≡ (row_in c.args.self.now.rows c.args.self.now.row).blocks
blocks_are c =
    let row = row_read c.self.inside.rows.items c.self.inside.row c.index-row.result.now c.self.invariant.row c.index-row.ensures in
    c.as_slice.ensures.value ∙ ap (λ (r : ReadyRow). r.blocks) (c.row.view_is ∙ row) ∙ ap (λ (r : Running). (row_in r.rows r.row).blocks) c.self.view_is

pub returns-clause-value : goal.returns-clause-value
returns-clause-value c = blocks_are (goal.at.returns-clause-value c).After-as_slice

pub returns-clause-rising : goal.returns-clause-rising
returns-clause-rising c =
    let ready = subst IsReady c.self.view_is c.self.invariant in
    subst (AllPairs (λ b d. b < d)) (sym (blocks_are (goal.at.returns-clause-rising c).After-as_slice)) (ready.rows.each c.args.self.now.row ready.row).row.blocks_are.rising

pub returns-clause-possible : goal.returns-clause-possible
returns-clause-possible c b =
    let ready = subst IsReady c.self.view_is c.self.invariant in
    let r = c.args.self.now in
    let row = ready.rows.each r.row ready.row in
    subst (λ (bs : List ℕ). Contains bs b ↔ Possible r.fixed.net (source_of r.fixed.net r.row) b) (sym (blocks_are (goal.at.returns-clause-possible c).After-as_slice))
    (λ h. (row.entries.exactly b).0 ((row.row.blocks_are.same b).0 h), λ h. (row.row.blocks_are.same b).1 ((row.entries.exactly b).1 h))

pub returns-clause-active : goal.returns-clause-active
returns-clause-active c banks st stands b block on =
    let ready = subst IsReady c.self.view_is c.self.invariant in
    subst (λ (bs : List ℕ). Contains bs b) (sym (blocks_are (goal.at.returns-clause-active c).After-as_slice))
    (active_in_row c.args.self.now banks st ready stands b block on)
