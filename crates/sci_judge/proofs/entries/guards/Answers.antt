use Rattle.std.proofs.Common.{◌≡◌, ◌+◌, ◌++◌, ◌∷◌, [], List, take, get_or, Contains, ◌∙◌, ap, refl, subst, sym, arith, true≢false}
use Rattle.std.proofs.lemmas.List.{map-append, take_all}
use Rattle.std.proofs.lemmas.List.Elements.{Contains-get_or}
use Rattle.sci_net.specs.declared.Feed.{Feed}
use Rattle.sci_net.specs.Parts.{numbered}
use Rattle.sci_reaction.specs.Schedule.{Guard}
use Rattle.sci_rounds.specs.Rounds.{IsBranch}
use Rattle.sci_judge.specs.Entries.{AreBranches}
use Rattle.sci_reaction.specs.Kept.{guard_of, guards_of}
use Rattle.sci_judge.proofs.Guarded.{branches_none, branches_keep, branches_more, branch_block, branch_sync}
use Rattle.sci_judge.proofs.entries.guards.Goals.{then-has+in_ok-push, else-has, In-loop-branch}
use Rattle.sci_judge.proofs.entries.guards.Goals as goal

none : Feed
none = record { block = 0; port = 0 }

listed : (c : In-loop-branch) → Contains (numbered [] c.args.reach.now.branches c.args.block) (get_or c.branches-branch-items.result.now c.loop-branch.branch-index none)
listed c =
    subst (λ (qs : List Feed). Contains qs (get_or c.branches-branch-items.result.now c.loop-branch.branch-index none)) c.branches-branch-items.ensures
    (Contains-get_or c.branches-branch-items.result.now c.loop-branch.branch-index none c.loop-branch-test.true)

pub loop-branch-init : goal.loop-branch-init
loop-branch-init c =
    subst (AreBranches c.args.net.now c.args.found.now.found [] c.args.block) (ap guards_of (sym c.new-guards.ensures.items)) (branches_none c.args.net.now c.args.found.now.found c.args.block)

pub has-requires : goal.has-requires
unfolding none
has-requires c =
    let here = listed (goal.at.has-requires c).In-loop-branch in
    let block = branch_block c.args.net.now c.args.reach.now c.requires.reach c.args.block (get_or c.branches-branch-items.result.now c.loop-branch.branch-index none) here in
    omega (arith, block.most, c.requires.count)

pub loop-branch-preserved : goal.loop-branch-preserved
unfolding none
loop-branch-preserved c =
    let n = c.args.net.now in
    let found = c.args.found.now.found in
    let qs = c.branches-branch-items.result.now in
    let i = c.loop-branch.branch-index in
    let b = c.args.block in
    let q = get_or qs i none in
    let gs = guards_of c.loop-branch.guards.items in
    let here = listed (goal.at.loop-branch-preserved c).In-loop-branch in
    let sync = branch_sync n c.args.reach.now c.requires.reach b q here in
    elim c.if-has.branch [
      | then-has+in_ok-push w ↦
          let g : Guard = record { block = q.block; port = q.port; mask = w.fed_mask.result } in
          let is : IsBranch n b g = record { sync = sync.0; reaches = sync.1; feeds = w.fed_mask.ensures } in
          let grown : guards_of c.if-has.guards.items ≡ gs ++ g ∷ [] =
          ap (λ v. guards_of v.items) w.guards-is ∙ (ap guards_of w.in_ok-push.ensures.items ∙ map-append guard_of c.loop-branch.guards.items _) in
          subst (AreBranches n found (take (i + 1) qs) b) (sym grown)
          (branches_more n found qs b i none gs c.loop-branch-test.true c.loop-branch.invariant g refl is)
      | else-has w ↦
          subst (AreBranches n found (take (i + 1) qs) b) (ap (λ v. guards_of v.items) (sym w.guards-is))
          (branches_keep n found qs b i none gs c.loop-branch-test.true c.loop-branch.invariant (λ there. true≢false (sym (c.has.ensures.1 there) ∙ w.if-has.false)))
    ]

pub returns : goal.returns
returns c =
    subst (λ (qs : List Feed). AreBranches c.args.net.now c.args.found.now.found qs c.args.block (guards_of c.loop-branch.guards.items))
    (take_all c.loop-branch.branch-index c.branches-branch-items.result.now c.loop-branch-test.false ∙ c.branches-branch-items.ensures) c.loop-branch.invariant
