use Rattle.std.proofs.Common.{◌≡◌, ℕ, ◌+◌, ◌-◌, ◌*◌, ◌<◌, ◌≤◌, List, drop, length, get_or, sym, ap, ◌∙◌, rules, arith}
use Rattle.std.specs.Prelude.{pos}
use mir.Val.{SFits}
use mir.Syntax.{w64}
use Rattle.std.proofs.lemmas.Int.{to_z-of_z}
use Rattle.std.proofs.lemmas.List.{drop_all}
use Rattle.sci_text.specs.Lines.{joined}
use Rattle.sci_vcd.specs.declared.signal.Change.{Change}
use Rattle.sci_vcd.specs.Spelling.{change_lines}
use Rattle.sci_vcd.specs.Writing.{changes_within, page_end}
use Rattle.sci_vcd.proofs.Changed.{within_none}
use Rattle.sci_vcd.proofs.Putting.{lines_back}
use Rattle.sci_vcd.proofs.pages.changes_before.Goals as goal

pub loop-turn-init : goal.loop-turn-init
loop-turn-init c =
    let e = c.page_end-end.result in
    record {
      lines = λ t. drop_all 1856 c.args.text.now (omega arith)
          ∙ sym (ap (λ (cs : List Change). joined (change_lines c.args.signals.now t cs)) (within_none t (e - 0) e c.args.old.now c.args.new.now (omega arith)));
      room = omega arith;
      within = omega arith;
    }

pub change_before-at-requires-clause-place : goal.change_before-at-requires-clause-place
change_before-at-requires-clause-place c = omega (arith, c.loop-turn-test.true, c.page_end-end.ensures, c.requires.old)

pub change_before-at-requires-clause-room : goal.change_before-at-requires-clause-room
change_before-at-requires-clause-room c = omega (arith, c.loop-turn.invariant.room, c.loop-turn-test.true, c.page_end-end.ensures)

pub loop-turn-preserved : goal.loop-turn-preserved
loop-turn-preserved c =
    let gs = c.args.signals.now in
    let vs = c.args.old.now in
    let ws = c.args.new.now in
    let e = c.page_end-end.result in
    let n = c.loop-turn.turn in
    let i : ℕ = e - 1 - n in
    let more : n < e = omega (arith, c.loop-turn-test.true) in
    let here : i < e = omega (arith, more) in
    let within : e ≤ length vs = omega (arith, c.page_end-end.ensures) in
    let same : length ws ≡ length vs = c.requires.new ∙ sym c.requires.old in
    let next : e - n ≡ i + 1 = omega (arith, more) in
    let now : e - (n + 1) ≡ i = omega (arith, more) in
    let v = get_or vs i (pos 0) in
    let w = get_or ws i (pos 0) in
    let v_fits : SFits w64 v = search rules in
    let w_fits : SFits w64 w = search rules in
    record {
      lines = λ t. lines_back gs t i (e - n) (e - (n + 1)) e vs ws (pos 0) here within same next now (drop c.change_before-at.result c.change_before-at.new.text) (drop c.loop-turn.at c.loop-turn.text)
          (rw (to_z-of_z w64 v v_fits, to_z-of_z w64 w w_fits) at (c.change_before-at.ensures.text t)) (c.loop-turn.invariant.lines t);
      room = omega (arith, c.change_before-at.ensures.room, c.loop-turn.invariant.room);
      within = omega (arith, c.change_before-at.ensures.start, c.loop-turn.invariant.within);
    }

pub returns-clause-text : goal.returns-clause-text
returns-clause-text c =
    let gs = c.args.signals.now in
    let vs = c.args.old.now in
    let ws = c.args.new.now in
    let e = c.page_end-end.result in
    let start : e - c.loop-turn.turn ≡ c.args.page * 32 = omega (arith, c.page_end-end.ensures, c.requires.old, c.requires.within, c.loop-turn-test.false) in
    λ t. c.loop-turn.invariant.lines t
    ∙ (ap (λ (a : ℕ). joined (change_lines gs t (changes_within t a e vs ws))) start
    ∙ ap (λ (b : ℕ). joined (change_lines gs t (changes_within t (c.args.page * 32) b vs ws))) (c.page_end-end.ensures ∙ ap (λ (k : ℕ). page_end c.args.page k) c.requires.old))

pub returns-clause-room : goal.returns-clause-room
returns-clause-room c = omega (arith, c.loop-turn.invariant.room, c.page_end-end.ensures)
