use mir.Val.{SFits}
use mir.Syntax.{w64}
use Rattle.std.proofs.Common.{rules, ◌≡◌, ℕ, ℤ, List, Vec, length, Ok, subst, ap, ◌∙◌, arith}
use Rattle.std.specs.Prelude.{unsigned_abs}
use Rattle.std.specs.declared.alloc.Global.{Global}
use Rattle.std.proofs.lemmas.Result.{err_from_is_err_and}
use Rattle.sci_base.specs.Lists.{at}
use Rattle.sci_net.specs.Parts.{rows_of}
use Rattle.sci_trace.specs.Columns.{columns_view}
use Rattle.sci_save.specs.Reading.{Fails, pending_at, firsts_of}
use Rattle.sci_save.proofs.Whole.{two}
use Rattle.sci_save.proofs.Steps.{number_is, made_is, pending_fails, all_is_read}
use Rattle.sci_save.proofs.read.saved.Goals as goal

pub index-requires : goal.index-requires
index-requires c =
    let t = two 1000000 4611686018427387904 c.in_ok-stands.stands.items c.in_ok-stands.ensures.within in
    omega (arith, ap length t.are, c.in_ok-stands.stands.ok.0)

pub pending-requires : goal.pending-requires
pending-requires c =
    let t = two 1000000 4611686018427387904 c.in_ok-stands.stands.items c.in_ok-stands.ensures.within in
    let fits : SFits w64 c.index.result.now = search rules in
    let is : c.unsigned_abs-now.result ≡ unsigned_abs (at c.in_ok-stands.stands.items 1) = number_is c.in_ok-stands.stands.items 1 c.index.result.now c.unsigned_abs-now.result fits (omega (arith, ap length t.are)) c.index.ensures c.unsigned_abs-now.ensures.value in
    omega (arith, is, t.second)

pub returns-in_err-pending : goal.returns-in_err-pending
returns-in_err-pending c =
    let n = c.args.net.now in
    let i = columns_view c.args.columns.now in
    let t = two 1000000 4611686018427387904 c.in_ok-stands.stands.items c.in_ok-stands.ensures.within in
    let fits : SFits w64 c.index.result.now = search rules in
    let p = err_from_is_err_and c.from_residual-in_err-pending.result c.from_residual-in_err-pending.ensures.1 in
    let is : c.unsigned_abs-now.result ≡ unsigned_abs (at c.in_ok-stands.stands.items 1) = number_is c.in_ok-stands.stands.items 1 c.index.result.now c.unsigned_abs-now.result fits (omega (arith, ap length t.are)) c.index.ensures c.unsigned_abs-now.ensures.value in
    let e = c.in_err-pending.field-0.0 in
    let fails = subst (λ (now : ℕ). Fails e (pending_at n now c.in_ok-cursors.rest.now)) is c.in_err-pending.ensures in
    rw (p.1, p.2)
    (pending_fails n i c.args.bytes.now c.in_ok-rest.field-0-0.items c.in_ok-rest.rest.now c.in_ok-rest.ensures.gives c.in_ok-stands.stands.items c.in_ok-stands.rest.now c.in_ok-stands.ensures.gives
    (rows_of c.in_ok-states.states.items) c.in_ok-states.rest.now c.in_ok-states.ensures (rows_of c.in_ok-held.held.items) c.in_ok-held.rest.now c.in_ok-held.ensures
    (rows_of c.in_ok-cursors.cursors.items) c.in_ok-cursors.rest.now c.in_ok-cursors.ensures e fails)

pub returns : goal.returns
returns c =
    let n = c.args.net.now in
    let i = columns_view c.args.columns.now in
    let s = c.in_ok-stands.stands.items in
    let x = rows_of c.in_ok-states.states.items in
    let y = rows_of c.in_ok-held.held.items in
    let z = rows_of c.in_ok-cursors.cursors.items in
    let q = c.in_ok-pending.pending.items in
    let rest = c.in_ok-pending.rest.now in
    let t = two 1000000 4611686018427387904 c.in_ok-stands.stands.items c.in_ok-stands.ensures.within in
    let fits : SFits w64 c.index.result.now = search rules in
    let also : SFits w64 c.index-2.result.now = search rules in
    let is : c.unsigned_abs-now.result ≡ unsigned_abs (at s 1) = number_is c.in_ok-stands.stands.items 1 c.index.result.now c.unsigned_abs-now.result fits (omega (arith, ap length t.are)) c.index.ensures c.unsigned_abs-now.ensures.value in
    let fired : c.unsigned_abs.result ≡ unsigned_abs (at s 0) = number_is c.in_ok-stands.stands.items 0 c.index-2.result.now c.unsigned_abs.result also (omega (arith, ap length t.are)) c.index-2.ensures c.unsigned_abs.ensures.value in
    let cursors : c.in_ok-firsts.field-0.items ≡ firsts_of z = c.in_ok-firsts.ensures ∙ ap (λ (rows : List (Vec ℤ Global)). firsts_of (rows_of rows)) c.deref.ensures.value in
    let read = subst (λ (now : ℕ). pending_at n now c.in_ok-cursors.rest.now ≡ Ok (q, rest)) is c.in_ok-pending.ensures in
    all_is_read n i c.args.bytes.now c.in_ok-rest.field-0-0.items c.in_ok-rest.rest.now c.in_ok-rest.ensures.gives s c.in_ok-stands.rest.now c.in_ok-stands.ensures.gives
    x c.in_ok-states.rest.now c.in_ok-states.ensures y c.in_ok-held.rest.now c.in_ok-held.ensures z c.in_ok-cursors.rest.now c.in_ok-cursors.ensures q rest read
    ∙ made_is s x y z q rest c.unsigned_abs.result c.unsigned_abs-now.result c.in_ok-firsts.field-0.items fired is cursors
