use Rattle.std.proofs.Common.{◌∙◌, arith, ap, Some, None, Option, ℕ, List}
use Rattle.std.specs.Prelude.{if◌then◌else◌}
use Rattle.std.specs.Option.{option_or}
use Rattle.c_rules.specs.Naming.{by_name, is_numbered}
use Rattle.c_run.specs.declared.machine.Routine.{Routine}
use Rattle.c_mean.specs.Meaning.{same_name}
use Rattle.c_run.proofs.Calls.{index_more, nothing_there}
use Rattle.c_run.proofs.functions.indexed.Goals as goal

pub loop-k-init : goal.loop-k-init
loop-k-init c = λ f. ap (λ (l : List (Option ℕ)). by_name c.args.names.now l f) c.new-index.ensures.items ∙ nothing_there c.args.names.now f

pub enter-requires : goal.enter-requires
enter-requires c =
    ap (λ (g : Routine). is_numbered c.args.names.now g.name) c.index.ensures ∙ c.requires c.loop-k.k c.index.result.now (omega (arith, c.args.routines.ok.0))

pub loop-k-preserved : goal.loop-k-preserved
loop-k-preserved c = λ f.
    let old : Option ℕ = by_name c.args.names.now c.loop-k.index.items f in
    let next = c.in_ok-enter.ensures.entered f ∙ ap (λ (g : Routine). option_or old (if same_name g.name f then Some c.loop-k.k else None)) c.index.ensures in
    index_more f c.loop-k.k c.args.routines.items c.index.result.now old _ (omega (arith, c.args.routines.ok.0)) (c.loop-k.invariant f) next
