use Rattle.std.proofs.Common.{arith, ◌≡◌, sym, ap, ◌∙◌}
use Rattle.c_ast.specs.View.{statements_of}
use Rattle.c_mean.specs.Texts.{joined}
use Rattle.sci_cgen_blocks.proofs.Written.{joined_done}
use Rattle.sci_due.specs.Texts.{group_text}
use Rattle.sci_due_texts.proofs.TextLemmas.{upto_pushed, each_done}
use Rattle.sci_due_texts.proofs.choice_texts.push_groups.Goals as goal

pub loop-group-init : goal.loop-group-init
loop-group-init c = record { so_far = sym (joined_done _); within = omega arith }

pub group_text-requires-clause-within : goal.group_text-requires-clause-within
group_text-requires-clause-within c = omega (arith, c.requires.some, c.requires.groups)

pub loop-group-preserved : goal.loop-group-preserved
loop-group-preserved c = record {
  so_far = upto_pushed (group_text c.args.ports) c.loop-group.group _ _ _ c.loop-group.invariant.so_far
      (c.in_ok-push.ensures ∙ ap (joined (statements_of c.loop-group.out.items)) c.in_ok-group_text.ensures);
  within = omega arith;
}

pub returns : goal.returns
returns c =
    let all : c.loop-group.group ≡ c.args.groups = omega (arith, c.loop-group.invariant.within) in
    each_done (group_text c.args.ports) c.loop-group.group _ _ _ all c.loop-group.invariant.so_far
