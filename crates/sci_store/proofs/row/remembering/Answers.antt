use Rattle.std.proofs.Common.{◌≡◌, ◌+◌, ◌∙◌, ℕ, Vec, Bool, List, length, sym, ap, subst, arith}
use Rattle.std.specs.declared.alloc.Global.{Global}
use Rattle.sci_forms.specs.Form.{remembers}
use Rattle.sci_reaction.specs.declared.entry.Entry.{Entry}
use Rattle.sci_store.specs.declared.row.CallRank.{CallRank}
use Rattle.sci_store.specs.declared.seats.Seat.{Seat}
use Rattle.sci_store.specs.Frame.{Fixed, seat_of}
use Rattle.sci_store.proofs.Ranking.{AreGathered, one_gathered, other_gathered, are_ranked}
use Rattle.sci_store.proofs.row.remembering.Goals as goal
use Rattle.sci_store.proofs.row.remembering.Goals.{then-remembers+in_ok-push, else-remembers}

abbrev keeps : Fixed → Entry → Bool
keeps f e = remembers (seat_of f e.block).kind

pub loop-at-preserved : goal.loop-at-preserved
loop-at-preserved c =
    let f = c.args.frame.now in
    let here = ap (λ (s : Seat). remembers s.kind) (sym c.seat.ensures) ∙ sym c.remembers.ensures in
    elim c.if-remembers.branch [
      | then-remembers+in_ok-push w ↦
          subst (λ (rs : List CallRank). AreGathered c.args.frame.now (keeps c.args.frame.now) (λ (e : Entry). 0) c.args.entries.now (c.loop-at.at + 1) rs)
          (sym (ap (λ (v : Vec CallRank Global). v.items) w.ranks-is ∙ w.in_ok-push.ensures.items))
          (one_gathered {is = keeps c.args.frame.now} {depth = λ (e : Entry). 0} c.index-entries-at.result w.rank_of.result c.loop-at.invariant c.loop-at-test.true c.index-entries-at.is (here ∙ w.if-remembers.true)
          w.rank_of.ensures.rank w.rank_of.ensures.depth w.rank_of.ensures.at)
      | else-remembers w ↦
          subst (λ (rs : List CallRank). AreGathered c.args.frame.now (keeps c.args.frame.now) (λ (e : Entry). 0) c.args.entries.now (c.loop-at.at + 1) rs)
          (sym (ap (λ (v : Vec CallRank Global). v.items) w.ranks-is))
          (other_gathered {is = keeps c.args.frame.now} {depth = λ (e : Entry). 0} c.index-entries-at.result c.loop-at.invariant c.loop-at-test.true c.index-entries-at.is (here ∙ w.if-remembers.false))
    ]

pub returns : goal.returns
returns c =
    let all : c.loop-at.at ≡ length c.args.entries.now = omega arith in
    are_ranked c.args.frame.now (keeps c.args.frame.now) (λ (e : Entry). 0) c.args.entries.now c.loop-at.ranks.items c.sort_unstable.new.self.items
    (subst (λ (k : ℕ). AreGathered c.args.frame.now (keeps c.args.frame.now) (λ (e : Entry). 0) c.args.entries.now k c.loop-at.ranks.items) all c.loop-at.invariant)
    c.sort_unstable.ensures.permutation c.sort_unstable.ensures.sorted
