use Rattle.std.proofs.Common.{◌≡◌, ℕ, ◌*◌, List, [], ◌++◌, length, append-nil, sym, ap, ◌∙◌, rules}
use Rattle.sci_io.proofs.Advance.{same_text, nothing_due, begins, next_front, cut_off, finished}
use Rattle.sci_vcd.specs.declared.signal.Change.{Change}
use Rattle.sci_text.specs.Lines.{joined}
use Rattle.sci_vcd.specs.Spelling.{change_lines}
use Rattle.sci_vcd.specs.Writing.{changes_within, told_behind, page_end}
use Rattle.sci_vcd.proofs.PageLines.{page_none, page_piece, page_told}
use Rattle.sci_vcd.proofs.pages.put_page.Goals as goal

pub returns-then-at-eq-TEXT-clause-written : goal.returns-then-at-eq-TEXT-clause-written
returns-then-at-eq-TEXT-clause-written g c =
    let gs = c.args.signals.now in
    let b = page_end c.args.page (length gs) in
    let none = page_none gs c.args.tick (c.args.page * 32) b c.changes_before-at.result c.args.old.now c.args.new.now c.changes_before-at.new.text c.changes_before-at.array_long c.if-at-eq-TEXT.true (c.changes_before-at.ensures.text c.args.tick) in
    same_text (sym (ap (λ (cs : List Change). joined (change_lines gs c.args.told cs)) none)) (nothing_due (g.S.Sink.state c.args.out.now) c.args.told)

pub returns-then-at-eq-TEXT-clause-told : goal.returns-then-at-eq-TEXT-clause-told
returns-then-at-eq-TEXT-clause-told g c =
    let gs = c.args.signals.now in
    let b = page_end c.args.page (length gs) in
    let none = page_none gs c.args.tick (c.args.page * 32) b c.changes_before-at.result c.args.old.now c.args.new.now c.changes_before-at.new.text c.changes_before-at.array_long c.if-at-eq-TEXT.true (c.changes_before-at.ensures.text c.args.tick) in
    sym (ap (told_behind c.args.told) none)

pub returns-in_err-put-clause-written : goal.returns-in_err-put-clause-written
returns-in_err-put-clause-written g c =
    let gs = c.args.signals.now in
    let b = page_end c.args.page (length gs) in
    let page : List ℕ = joined (change_lines gs c.args.told (changes_within c.args.tick (c.args.page * 32) b c.args.old.now c.args.new.now)) in
    let piece = page_piece gs c.args.told c.args.tick (c.args.page * 32) b c.changes_before-at.result c.args.old.now c.args.new.now c.text_from.result.now c.changes_before-at.new.text c.changes_before-at.array_long c.changes_before-at.ensures.start
    (λ (e : c.changes_before-at.result ≡ 1856). c.if-at-eq-TEXT.false e) (c.changes_before-at.ensures.text c.args.tick) (c.text_from.ensures ∙ c.next_tick_before-start.ensures.text) in
    same_text (append-nil page) (cut_off page [] c.put.result c.from_residual.result _ _ c.in_err-put.was (search rules) (begins _ (page ++ [])) (same_text piece c.put.ensures.written))

pub returns-clause-written : goal.returns-clause-written
returns-clause-written g c =
    let gs = c.args.signals.now in
    let b = page_end c.args.page (length gs) in
    let page : List ℕ = joined (change_lines gs c.args.told (changes_within c.args.tick (c.args.page * 32) b c.args.old.now c.args.new.now)) in
    let piece = page_piece gs c.args.told c.args.tick (c.args.page * 32) b c.changes_before-at.result c.args.old.now c.args.new.now c.text_from.result.now c.changes_before-at.new.text c.changes_before-at.array_long c.changes_before-at.ensures.start
    (λ (e : c.changes_before-at.result ≡ 1856). c.if-at-eq-TEXT.false e) (c.changes_before-at.ensures.text c.args.tick) (c.text_from.ensures ∙ c.next_tick_before-start.ensures.text) in
    same_text (append-nil page) (finished c.args.tick (next_front page [] c.put.result _ c.in_ok-put.was (begins _ (page ++ [])) (same_text piece c.put.ensures.written)))

pub returns-clause-told : goal.returns-clause-told
returns-clause-told g c =
    let gs = c.args.signals.now in
    let b = page_end c.args.page (length gs) in
    page_told gs c.args.told c.args.tick (c.args.page * 32) b c.changes_before-at.result c.args.old.now c.args.new.now c.changes_before-at.new.text c.changes_before-at.array_long c.changes_before-at.ensures.start
    (λ (e : c.changes_before-at.result ≡ 1856). c.if-at-eq-TEXT.false e) (c.changes_before-at.ensures.text c.args.tick)
