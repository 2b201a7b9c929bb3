use Rattle.std.proofs.Common.{◌-◌, FitsSigned, w64, length, rules, arith}
use Rattle.std.proofs.lemmas.Int.{to_z-of_z}
use Rattle.std.proofs.lemmas.List.{get_or_read}
use Rattle.sci_vcd.specs.Waveforms.{first_of}
use Rattle.sci_vcd.proofs.Links.{walk_start, walk_next, walk_smaller, walk_found}
use Rattle.sci_vcd.proofs.draft.Draft.value_at.Goals as goal

pub loop-count-init : goal.loop-count-init
loop-count-init c =
    let d = c.args.self.now in
    let n = c.args.signal in
    let at = get_or_read d.latest.items (n - 1) c.index-count.result.now (omega (arith, c.requires.linked.sizes, c.requires.least, c.requires.most)) c.index-count.ensures 0 in
    walk_start c.args.tick (first_of d.first.items n) n (length d.signals.items) c.index-count.result.now d.latest.items d.entries.items c.requires.linked c.requires.least c.requires.most at

pub returns-then-entry-tick : goal.returns-then-entry-tick
returns-then-entry-tick c =
    let d = c.args.self.now in
    let n = c.args.signal in
    let e = c.index-entry.result.now in
    let fits : FitsSigned w64 e.change.value = search rules in
    rw (to_z-of_z w64 e.change.value fits)
    (walk_found c.args.tick (first_of d.first.items n) n c.loop-count.count d.entries.items e c.loop-count.invariant c.loop-count-test.true c.index-entry.ensures c.if-entry-tick.true)

pub loop-count-smaller : goal.loop-count-smaller
loop-count-smaller c =
    let d = c.args.self.now in
    walk_smaller (length d.signals.items) c.loop-count.count d.latest.items d.entries.items c.index-entry.result.now c.requires.linked c.loop-count-test.true c.loop-count.invariant.within c.index-entry.ensures

pub loop-count-preserved : goal.loop-count-preserved
loop-count-preserved c =
    let d = c.args.self.now in
    let n = c.args.signal in
    walk_next c.args.tick (first_of d.first.items n) n (length d.signals.items) c.loop-count.count d.latest.items d.entries.items c.index-entry.result.now c.requires.linked c.loop-count.invariant c.loop-count-test.true
    c.index-entry.ensures c.if-entry-tick.false
