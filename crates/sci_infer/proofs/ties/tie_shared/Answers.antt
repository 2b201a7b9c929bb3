use Rattle.std.proofs.Common.{◌≡◌, ap, ◌∙◌, Vec, Global, subst, sym, ◌+◌}
use Rattle.sci_infer.specs.declared.classes.Tie.{Tie}
use Rattle.sci_infer.specs.Ties.{SharedTied}
use Rattle.sci_infer.proofs.Numbers.{shared_more, shared_kept}
use Rattle.sci_infer.proofs.ties.tie_shared.Goals as goal
use Rattle.sci_infer.proofs.ties.tie_shared.Goals.{in-Some+in_ok-push, in_default}

pub loop-at-preserved : goal.loop-at-preserved
loop-at-preserved c =
    elim c.match-shared_tie.branch [
      | in-Some+in_ok-push w ↦
          let e : c.match-shared_tie.ties.items ≡ w.push.new.self.items = ap (λ (v : Vec Tie Global). v.items) w.ties-is in
          shared_more c.args.layout.now.parts.items c.args.ties.now.items c.loop-at.ties.items c.match-shared_tie.ties.items c.loop-at.at w.in-Some.tie c.loop-at.invariant w.in-Some.ensures.some (e ∙ w.in_ok-push.ensures.items)
      | in_default w ↦
          let e : c.match-shared_tie.ties.items ≡ c.loop-at.ties.items = ap (λ (v : Vec Tie Global). v.items) w.ties-is in
          subst (SharedTied c.args.layout.now.parts.items (c.loop-at.at + 1) c.args.ties.now.items) (sym e)
          (shared_kept c.args.layout.now.parts.items c.args.ties.now.items c.loop-at.ties.items c.loop-at.at c.loop-at.invariant w.in_default.ensures.none)
    ]
