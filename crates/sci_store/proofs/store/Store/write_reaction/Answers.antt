use Rattle.std.proofs.Common.{◌≡◌, ◌∷◌, ap, ◌∙◌}
use Rattle.sci_trace.specs.Lines.{text}
use Rattle.sci_run.specs.Observed.{blocks_seen}
use Rattle.sci_store.specs.contracts.store.Store.{the_view}
use Rattle.sci_store.specs.Tally.{lines_after}
use Rattle.sci_store.specs.Store.{Standing}
use Rattle.sci_store.proofs.Writing.{same_tally}
use Rattle.sci_store.proofs.Covering.{row_shows}
use Rattle.sci_store.proofs.ShownLines.{unseen, header_counted}
use Rattle.sci_store.proofs.Headed.{header_first, where_ok, values_counted, shows_counted, unseen_counted}
use Rattle.sci_store.proofs.store.Store.write_reaction.Given.{Over}
use Rattle.sci_store.proofs.store.Store.write_reaction.Goals as goal
use Rattle.sci_store.proofs.store.Store.write_reaction.Goals.{After-count}

-- the store that has counted the header
abbrev counted : (g : Over) → After-count g → Standing
counted g c = record (the_view c.self.inside) { lines = c.count.new.self.lines; sum = c.count.new.self.sum }

header_only : (g : Over) (c : After-count g) → counted g c ≡ record c.args.self.now { lines = lines_after c.args.self.now.lines 1 }
header_only g c =
    same_tally (the_view c.self.inside) c.count.new.self.lines c.count.new.self.sum (lines_after c.self.inside.tally.lines 1) c.self.inside.tally.sum c.count.ensures.lines c.count.ensures.sum
    ∙ ap (λ (s : Standing). record s { lines = lines_after s.lines 1 }) c.self.view_is

pub count_values-requires : goal.count_values-requires
count_values-requires g c =
    let at = (goal.at.count_values-requires g c).After-count in
    shows_counted c.args.frame.now c.args.self.now (counted g at) (lines_after c.args.self.now.lines 1) (header_only g at) c.args.row.now
    (row_shows c.args.frame.now c.args.self.now c.args.row.now c.well_formed-2.ensures c.requires.store c.requires.row c.requires.begun)

pub returns-then-take_unseen-clause-written : goal.returns-then-take_unseen-clause-written
returns-then-take_unseen-clause-written g c source y active shown among =
    unseen (g.S.Sink.state c.args.out.now) (g.S.Sink.state c.take_unseen.new.self) (text (c.args.header.now ∷ blocks_seen 1 c.args.frame.now.net.specs y active)) tt
    (c.take_unseen.ensures.taken c.if-take_unseen.true)

pub returns-then-take_unseen-clause-counted : goal.returns-then-take_unseen-clause-counted
returns-then-take_unseen-clause-counted g c =
    let at = (goal.at.returns-then-take_unseen-clause-counted g c).After-count in
    unseen_counted c.args.frame.now c.args.self.now (counted g at) c.count_values.new.self c.args.row.now c.args.header.now c.well_formed-2.ensures c.requires.store c.requires.row c.requires.begun
    c.requires.header (header_only g at) c.count_values.ensures

pub returns-clause-written : goal.returns-clause-written
returns-clause-written g c source y active shown among =
    let at = (goal.at.returns-clause-written g c).After-count in
    header_first (g.S.Sink.state c.args.out.now) (g.S.Sink.state c.take_unseen.new.self) (g.S.Sink.state c.write_values.new.out) c.begin.new.self c.args.header.now
    (blocks_seen 1 c.args.frame.now.net.specs y active) c.write_values.result (c.take_unseen.ensures.kept c.if-take_unseen.false) c.begin.ensures
    (c.write_values.ensures.written source y active
    (values_counted c.args.frame.now c.args.self.now (counted g at) (lines_after c.args.self.now.lines 1) (header_only g at) source y active shown) among)

pub returns-clause-counted : goal.returns-clause-counted
returns-clause-counted g c =
    let at = (goal.at.returns-clause-counted g c).After-count in
    where_ok c.write_values.result
    (λ h source y active shown among.
    h source y active (values_counted c.args.frame.now c.args.self.now (counted g at) (lines_after c.args.self.now.lines 1) (header_only g at) source y active shown) among
    ∙ header_counted c.args.header.now c.args.self.now (counted g at) (blocks_seen 1 c.args.frame.now.net.specs y active) c.requires.header (header_only g at))
    c.write_values.ensures.counted
