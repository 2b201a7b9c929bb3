use Rattle.std.proofs.Common.{drop}
use Rattle.sci_lines.specs.Paged.{paged}
use Rattle.sci_store.proofs.Writing.{IsLeft}
use Rattle.sci_store.proofs.ShownPieces.{pieces_seen}
use Rattle.sci_store.proofs.store.Store.write_values.Given as goal

-- the pieces so far are written
abbrev pub invariant-loop-show : goal.invariant-loop-show
invariant-loop-show g l =
    IsLeft (paged (g.S.Sink.state l.initial.out) l.initial.lines) (paged (g.S.Sink.state l.out) l.lines) l.initial.self l.self
    (pieces_seen l.frame l.initial.self l.row.shows) (pieces_seen l.frame l.initial.self (drop l.show-index l.row.shows))
