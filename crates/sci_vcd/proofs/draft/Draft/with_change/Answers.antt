use Rattle.std.proofs.Common.{◌≡◌, ◌-◌, ◌+◌, length, arith}
use Rattle.std.proofs.lemmas.List.{get_or_read}
use Rattle.sci_vcd.specs.declared.draft.Linked.{Linked}
use Rattle.sci_vcd.proofs.Links.{linked_change}
use Rattle.sci_vcd.proofs.draft.Draft.with_change.Goals as goal

pub returns-clause-linked : goal.returns-clause-linked
returns-clause-linked c =
    let d = c.args.self in
    let e : Linked = record { change = c.args.change; earlier = c.index-earlier.result.now } in
    let before = get_or_read d.latest.items (c.args.change.signal - 1) c.index-earlier.result.now (omega (arith, c.requires.linked.sizes, c.requires.least, c.requires.most)) c.index-earlier.ensures 0 in
    let size : c.len.result ≡ length d.entries.items + 1 = omega (arith, c.len.ensures, c.in_ok-push.ensures.len, d.entries.ok.0) in
    rw (size, c.in_ok-push.ensures.items) (linked_change (length d.signals.items) d.latest.items d.entries.items e c.requires.linked c.requires.least c.requires.most before)
