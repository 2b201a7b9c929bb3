use Rattle.std.proofs.Common.{◌≡◌, ◌<◌, ℕ, length, List, [], subst, sym, ◌∙◌, arith}
use Rattle.std.proofs.lemmas.List.{get_or_default}
use Rattle.sci_loop.specs.Lists.{plain, list_at}
use Rattle.sci_loop.proofs.Adding.{list_at-plain}
use Rattle.sci_net.specs.Parts.{numbered}
use Rattle.sci_sched.specs.Guards.{AreGuards}
use Rattle.sci_sched.proofs.rows.entry_for.Goals as goal

pub returns-clause-entry : goal.returns-clause-entry
returns-clause-entry c =
    let n = c.args.net.now in let b = c.args.block in
    let lists = c.args.marks.now.conditions in
    let inside : b < length lists.items = omega (arith, lists.ok.0, c.requires.marks.conditions, c.requires.most) in
    let is : list_at (plain lists.items) b ≡ c.deref.result.now = list_at-plain lists.items b c.index.result.now inside c.index.ensures ∙ sym c.deref.ensures.value in
    let masks = c.args.marks.now.masks.items in
    let gs = c.in_ok-guards.guards.items in
    record {
      always = c.has.ensures;
      mask = c.index-2.ensures ∙ get_or_default masks b c.index-2.result.now 0 (omega (arith, c.requires.marks.masks, c.requires.most));
      guards = subst (λ (cs : List ℕ). AreGuards n cs (numbered [] c.args.reach.now.branches b) b gs) (sym is) c.in_ok-guards.ensures;
    }
