use Rattle.std.proofs.Common.{◌≡◌, ℕ, List, [], length, subst, rules}
use Rattle.std.proofs.lemmas.List.{nil_from_length}
use Rattle.sci_io.specs.Taken.{UnderWay}
use Rattle.sci_io.proofs.Advance.{cut_off, next_front, finished}
use Rattle.sci_reaction.specs.declared.entry.Entry.{Entry}
use Rattle.sci_sched.specs.Plain.{row_of}
use Rattle.sci_sched.specs.Text.{entries_text}
use Rattle.sci_sched.proofs.Together.{entries_parts}
use Rattle.sci_sched.proofs.write.put_entries.Goals as goal

pub returns-in_err-put_some : goal.returns-in_err-put_some
returns-in_err-put_some g c =
    let rest = c.loop-rest.rest.now in
    let front = c.split_at.result.0.now in
    let behind = c.split_at.result.1.now in
    let all = entries_text (row_of c.args.row.now) in
    let due = subst (λ (l : List ℕ). UnderWay (g.S.Sink.state c.args.out.now) (g.S.Sink.state c.loop-rest.out) all l) (entries_parts rest front behind c.min.result c.split_at.ensures.front c.split_at.ensures.back) c.loop-rest.invariant in
    cut_off (entries_text (row_of front)) (entries_text (row_of behind)) c.put_some.result c.from_residual.result _ _ c.in_err-put_some.was (search rules) due c.put_some.ensures

pub loop-rest-preserved : goal.loop-rest-preserved
loop-rest-preserved g c =
    let rest = c.loop-rest.rest.now in
    let front = c.split_at.result.0.now in
    let behind = c.split_at.result.1.now in
    let all = entries_text (row_of c.args.row.now) in
    let due = subst (λ (l : List ℕ). UnderWay (g.S.Sink.state c.args.out.now) (g.S.Sink.state c.loop-rest.out) all l) (entries_parts rest front behind c.min.result c.split_at.ensures.front c.split_at.ensures.back) c.loop-rest.invariant in
    next_front (entries_text (row_of front)) (entries_text (row_of behind)) c.put_some.result _ c.in_ok-put_some.was due c.put_some.ensures

pub returns : goal.returns
returns g c =
    let empty : length c.loop-rest.rest.now ≡ 0 = search rules in
    let none : c.loop-rest.rest.now ≡ [] = nil_from_length c.loop-rest.rest.now empty in
    finished _
    (subst (λ (es : List Entry). UnderWay (g.S.Sink.state c.args.out.now) (g.S.Sink.state c.loop-rest.out) (entries_text (row_of c.args.row.now)) (entries_text (row_of es))) none c.loop-rest.invariant)
