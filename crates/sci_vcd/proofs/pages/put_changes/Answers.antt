use Rattle.std.proofs.Common.{ℕ, ◌+◌, ◌*◌, List, length, subst, sym, rules, arith}
use Rattle.std.specs.Prelude.{min}
use Rattle.sci_io.specs.Taken.{UnderWay}
use Rattle.sci_io.proofs.Advance.{begins, next_front, cut_off}
use Rattle.sci_text.specs.Lines.{joined}
use Rattle.sci_vcd.specs.Spelling.{change_lines}
use Rattle.sci_vcd.specs.Writing.{changes_at, changes_within}
use Rattle.sci_vcd.proofs.Paged.{page_starts, page_text, all_pages}
use Rattle.sci_vcd.proofs.pages.put_changes.Goals as goal

pub loop-page-init : goal.loop-page-init
loop-page-init g c =
    let gs = c.args.signals.now in
    let s = g.S.Sink.state c.args.out.now in
    let all = joined (change_lines gs c.args.told (changes_at c.args.tick 1 c.args.old.now c.args.new.now)) in
    subst (λ (l : List ℕ). UnderWay s s all l) (all_pages gs c.args.told c.args.tick (length gs) c.args.old.now c.args.new.now c.requires.old c.requires.new) (begins s all)

pub returns-in_err-last : goal.returns-in_err-last
returns-in_err-last g c =
    let gs = c.args.signals.now in
    let all = joined (change_lines gs c.args.told (changes_at c.args.tick 1 c.args.old.now c.args.new.now)) in
    let pages = c.requires.marked.pages in
    let starts = page_starts c.loop-page.page (length gs) (omega (arith, pages, c.loop-page-test.true, c.requires.old)) in
    let due = subst (λ (l : List ℕ). UnderWay (g.S.Sink.state c.args.out.now) (g.S.Sink.state c.loop-page.out) all l)
    (page_text gs c.loop-page.last c.args.tick c.loop-page.page (length gs) c.args.old.now c.args.new.now c.requires.old c.requires.new starts) c.loop-page.invariant in
    cut_off _ _ c.put_any_page.result c.from_residual.result _ _ c.in_err-last.was (search rules) due c.put_any_page.ensures.written

pub loop-page-preserved : goal.loop-page-preserved
loop-page-preserved g c =
    let gs = c.args.signals.now in
    let vs = c.args.old.now in
    let ws = c.args.new.now in
    let page = c.loop-page.page in
    let all = joined (change_lines gs c.args.told (changes_at c.args.tick 1 vs ws)) in
    let pages = c.requires.marked.pages in
    let starts = page_starts page (length gs) (omega (arith, pages, c.loop-page-test.true, c.requires.old)) in
    let due = subst (λ (l : List ℕ). UnderWay (g.S.Sink.state c.args.out.now) (g.S.Sink.state c.loop-page.out) all l)
    (page_text gs c.loop-page.last c.args.tick page (length gs) vs ws c.requires.old c.requires.new starts) c.loop-page.invariant in
    let next = next_front _ _ c.put_any_page.result _ c.in_ok-last.was due c.put_any_page.ensures.written in
    subst (λ (t : ℕ). UnderWay (g.S.Sink.state c.args.out.now) (g.S.Sink.state c.put_any_page.new.out) all (joined (change_lines gs t (changes_within c.args.tick (min (length gs) ((page + 1) * 32)) (length gs) vs ws))))
    (sym c.in_ok-last.ensures.told) next
