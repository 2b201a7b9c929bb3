use Rattle.std.proofs.Common.{rules, ◌≡◌, ◌+◌, ◌≤◌, ◌++◌, List, ℕ, ℤ, pos, length, drop, get_or, refl, subst, codes, w64, to_z, of_z, arith}
use Rattle.std.specs.Prelude.{FitsSigned}
use Rattle.std.proofs.lemmas.Int.{to_z-of_z}
use Rattle.std.specs.Fmt.{signed_decimal}
use Rattle.sci_io.specs.Taken.{Writes, UnderWay}
use Rattle.sci_io.proofs.Advance.{begins, next_front, cut_off}
use Rattle.sci_lines.specs.Lines.{value_lines}
use Rattle.sci_lines.specs.Paged.{paged, IsKeptBack}
use Rattle.sci_lines.proofs.Paging.{lines_next, lines_over, WaitSoFar, wait_next, wait_fails, wait_all}
use Rattle.sci_lines.proofs.lines.Lines.put_each.Given.{Over}
use Rattle.sci_lines.proofs.lines.Lines.put_each.Goals as goal
use Rattle.sci_lines.proofs.lines.Lines.put_each.Goals.{After-put}

module _ (g : Over) (c : After-put g) where
  abbrev value : ℤ
  value = get_or c.args.values.now c.loop-at.at (pos 0)

  abbrev piece : List ℕ
  piece = c.index-heads-at.result ++ (signed_decimal (get_or c.args.values.now c.loop-at.at (pos 0)) ++ codes "\n")

  abbrev rest : List ℕ
  rest = value_lines (drop (c.loop-at.at + 1) c.args.heads.now) (drop (c.loop-at.at + 1) c.args.values.now)

  abbrev all : List ℕ
  all = value_lines c.args.heads.now c.args.values.now

  value_is : to_z w64 (of_z w64 (get_or c.args.values.now c.loop-at.at (pos 0))) ≡ get_or c.args.values.now c.loop-at.at (pos 0)
  value_is = let fits : FitsSigned w64 (get_or c.args.values.now c.loop-at.at (pos 0)) = search rules in to_z-of_z w64 (get_or c.args.values.now c.loop-at.at (pos 0)) fits

  wrote : Writes (paged (g.S.Sink.state c.loop-at.out) c.loop-at.self) (paged (g.S.Sink.state c.put.new.out) c.put.new.self) piece c.put.result
  wrote = subst (λ (z : ℤ). Writes (paged (g.S.Sink.state c.loop-at.out) c.loop-at.self) (paged (g.S.Sink.state c.put.new.out) c.put.new.self)
      (c.index-heads-at.result ++ (signed_decimal z ++ codes "\n")) c.put.result) value_is c.put.ensures.written

  kept : length c.loop-at.self ≤ 4050 → IsKeptBack (g.S.Sink.state c.loop-at.out) (g.S.Sink.state c.put.new.out) c.loop-at.self c.put.new.self piece c.put.result
  kept = subst (λ (z : ℤ). length c.loop-at.self ≤ 4050 → IsKeptBack (g.S.Sink.state c.loop-at.out) (g.S.Sink.state c.put.new.out) c.loop-at.self c.put.new.self
      (c.index-heads-at.result ++ (signed_decimal z ++ codes "\n")) c.put.result) value_is c.put.ensures.waits

  next : value_lines (drop c.loop-at.at c.args.heads.now) (drop c.loop-at.at c.args.values.now) ≡ piece ++ rest
  next = lines_next c.args.heads.now c.args.values.now c.loop-at.at c.index-heads-at.result (omega (arith, c.requires, c.loop-at-test.true)) c.loop-at-test.true c.index-heads-at.is

  due : UnderWay (paged (g.S.Sink.state c.args.out.now) c.args.self.now) (paged (g.S.Sink.state c.loop-at.out) c.loop-at.self) all (piece ++ rest)
  due = subst (UnderWay (paged (g.S.Sink.state c.args.out.now) c.args.self.now) (paged (g.S.Sink.state c.loop-at.out) c.loop-at.self) all) next c.loop-at.invariant.due

  so_far : length c.args.self.now + length all ≤ 4050 → WaitSoFar (g.S.Sink.state c.args.out.now) (g.S.Sink.state c.loop-at.out) c.args.self.now c.loop-at.self all (piece ++ rest)
  so_far room = subst (WaitSoFar (g.S.Sink.state c.args.out.now) (g.S.Sink.state c.loop-at.out) c.args.self.now c.loop-at.self all) next (c.loop-at.invariant.waits room)

pub returns-in_err-put-clause-written : goal.returns-in_err-put-clause-written
returns-in_err-put-clause-written g c =
    let at = (goal.at.returns-in_err-put-clause-written g c).After-put in
    cut_off (piece g at) (rest g at) c.put.result c.from_residual.result _ _ c.in_err-put.was (search rules) (due g at) (wrote g at)

pub returns-in_err-put-clause-waits : goal.returns-in_err-put-clause-waits
returns-in_err-put-clause-waits g c room =
    let at = (goal.at.returns-in_err-put-clause-waits g c).After-put in
    absurd (wait_fails (piece g at) (rest g at) c.put.result _ c.in_err-put.was room (so_far g at room) (kept g at))

pub returns-clause-waits : goal.returns-clause-waits
returns-clause-waits g c room =
    wait_all (value_lines (drop c.loop-at.at c.args.heads.now) (drop c.loop-at.at c.args.values.now)) tt
    (lines_over c.args.heads.now c.args.values.now c.loop-at.at (omega (arith, c.requires, c.loop-at-test.false))) (c.loop-at.invariant.waits room)

pub loop-at-init : goal.loop-at-init
loop-at-init g c = record {
  due = begins _ _;
  waits = λ room. record { sink = refl; waits = refl };
}

pub loop-at-preserved : goal.loop-at-preserved
loop-at-preserved g c =
    let at = (goal.at.loop-at-preserved g c).After-put in
    record {
      due = next_front (piece g at) (rest g at) c.put.result c.in_ok-put.field-0 c.in_ok-put.was (due g at) (wrote g at);
      waits = λ room. wait_next (piece g at) (rest g at) c.put.result room (so_far g at room) (kept g at);
    }
