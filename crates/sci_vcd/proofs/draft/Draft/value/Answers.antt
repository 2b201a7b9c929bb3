use Rattle.std.proofs.Common.{◌≡◌, ◌-◌, ◌∙◌, FitsSigned, w64, pos, length, get_or, rules, sym, arith}
use Rattle.std.proofs.lemmas.Int.{to_z-of_z}
use Rattle.std.proofs.lemmas.List.{get_or_read}
use Rattle.sci_vcd.specs.Waveforms.{first_of}
use Rattle.sci_vcd.proofs.Links.{latest_within, now_none, now_some}
use Rattle.sci_vcd.proofs.draft.Draft.value.Goals.{After-index-count}
use Rattle.sci_vcd.proofs.draft.Draft.value.Goals as goal

-- what was read of the signal's last change
at_last : (c : After-index-count) → c.index-count.result.now ≡ get_or c.args.self.now.latest.items (c.args.signal - 1) 0
at_last c =
    get_or_read c.args.self.now.latest.items (c.args.signal - 1) c.index-count.result.now (omega (arith, c.requires.linked.sizes, c.requires.least, c.requires.most)) c.index-count.ensures 0

pub index-requires-else-count-eq0 : goal.index-requires-else-count-eq0
index-requires-else-count-eq0 c =
    let d = c.args.self.now in
    let at = at_last (goal.at.index-requires-else-count-eq0 c).After-index-count in
    let within = latest_within c.args.signal (length d.signals.items) c.index-count.result.now d.latest.items d.entries.items c.requires.linked c.requires.least c.requires.most at in
    omega (arith, within, c.if-count-eq0.false, d.entries.ok.0)

pub returns-then-count-eq0 : goal.returns-then-count-eq0
returns-then-count-eq0 c =
    let d = c.args.self.now in
    let n = c.args.signal in
    let at = at_last (goal.at.returns-then-count-eq0 c).After-index-count in
    let fits : FitsSigned w64 c.index.result.now = search rules in
    let read = get_or_read d.first.items (n - 1) c.index.result.now (omega (arith, c.requires.one_each, c.requires.least, c.requires.most)) c.index.ensures (pos 0) in
    rw (to_z-of_z w64 c.index.result.now fits)
    (read ∙ now_none (first_of d.first.items n) n (length d.signals.items) d.latest.items d.entries.items c.requires.linked c.requires.least c.requires.most (sym at ∙ c.if-count-eq0.true))

pub returns-else-count-eq0 : goal.returns-else-count-eq0
returns-else-count-eq0 c =
    let d = c.args.self.now in
    let n = c.args.signal in
    let at = at_last (goal.at.returns-else-count-eq0 c).After-index-count in
    let e = c.index-else-count-eq0.result.now in
    let fits : FitsSigned w64 e.change.value = search rules in
    rw (to_z-of_z w64 e.change.value fits)
    (now_some (first_of d.first.items n) n (length d.signals.items) c.index-count.result.now d.latest.items d.entries.items e c.requires.linked c.requires.least c.requires.most at (omega (arith, c.if-count-eq0.false)) c.index-else-count-eq0.ensures)
