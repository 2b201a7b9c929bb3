use Rattle.std.proofs.Common.{◌≡◌, ℕ, ◌*◌, List, [], length, sym, ap, ◌∙◌}
use Rattle.sci_io.proofs.Advance.{same_text, nothing_due}
use Rattle.sci_vcd.specs.declared.signal.Change.{Change}
use Rattle.sci_text.specs.Lines.{joined}
use Rattle.sci_vcd.specs.Spelling.{change_lines}
use Rattle.sci_vcd.specs.Writing.{changes_within, told_behind, page_end}
use Rattle.sci_vcd.proofs.Paged.{unmarked_page}
use Rattle.sci_vcd.proofs.pages.put_any_page.Goals as goal

pub returns-then-not-marked-page-clause-written : goal.returns-then-not-marked-page-clause-written
returns-then-not-marked-page-clause-written g c =
    let vs = c.args.old.now in
    let none : changes_within c.args.tick (c.args.page * 32) (page_end c.args.page (length c.args.signals.now)) vs c.args.new.now ≡ [] =
    ap (λ (n : ℕ). changes_within c.args.tick (c.args.page * 32) (page_end c.args.page n) vs c.args.new.now) (sym c.requires.old)
    ∙ unmarked_page c.args.tick c.args.page vs c.args.new.now c.args.marked.now c.requires.marked c.requires.page c.if-not-marked-page.true in
    same_text (sym (ap (λ (cs : List Change). joined (change_lines c.args.signals.now c.args.told cs)) none)) (nothing_due (g.S.Sink.state c.args.out.now) c.args.told)

pub returns-then-not-marked-page-clause-told : goal.returns-then-not-marked-page-clause-told
returns-then-not-marked-page-clause-told g c =
    let vs = c.args.old.now in
    let none : changes_within c.args.tick (c.args.page * 32) (page_end c.args.page (length c.args.signals.now)) vs c.args.new.now ≡ [] =
    ap (λ (n : ℕ). changes_within c.args.tick (c.args.page * 32) (page_end c.args.page n) vs c.args.new.now) (sym c.requires.old)
    ∙ unmarked_page c.args.tick c.args.page vs c.args.new.now c.args.marked.now c.requires.marked c.requires.page c.if-not-marked-page.true in
    sym (ap (told_behind c.args.told) none)
