use Rattle.std.proofs.Common.{rules}
use Rattle.sci_diagram.specs.Objects.{diagram_view}
use Rattle.sci_blocks.specs.Wiring.{ends_judged, once_fed}
use Rattle.sci_blocks.proofs.Keeping.{link_typed}
use Rattle.sci_diagram.proofs.Told.{told_then}
use Rattle.sci_blocks.proofs.link.link_judged.Goals as goal

pub returns-in_err-t-clause-stop : goal.returns-in_err-t-clause-stop
returns-in_err-t-clause-stop c = λ ends h. let s = told_then (ends_judged c.args.here.now (diagram_view c.args.d.now) c.args.l.now.from c.args.l.now.to c.args.l.now.kind) (λ t. once_fed c.args.here.now ends t c.args.l.now.to) _ c.in_err-t.ensures.stop in search (rules, s)

pub returns-clause-ok : goal.returns-clause-ok
returns-clause-ok c = λ ends h. rw c.in_ok-t.ensures.ok (c.once_fed.ensures.ok ends h)

pub returns-clause-more : goal.returns-clause-more
returns-clause-more c = λ ends h. rw (link_typed _ _ _ _ _ _ c.in_ok-t.ensures.ok) (c.once_fed.ensures.more ends h)

pub returns-clause-stop : goal.returns-clause-stop
returns-clause-stop c = λ ends h. rw c.in_ok-t.ensures.ok (c.once_fed.ensures.stop ends h)
