use Rattle.std.proofs.Common.{sym, ◌∙◌}
use Rattle.sci_cgen_sources.specs.Taking.{takes}
use Rattle.sci_cgen_sources.proofs.SettleLemmas.{port_source, start_absent}
use Rattle.sci_cgen_sources.proofs.settle_texts.push_delay.Goals as goal

pub push_port_delay-requires-clause-port : goal.push_port_delay-requires-clause-port
push_port_delay-requires-clause-port c =
    port_source c.args.net.now c.in-Port.q c.args.source c.requires.least c.requires.most (sym c.source.ensures ∙ c.in-Port.is)

pub returns-in-Start : goal.returns-in-Start
returns-in-Start c = start_absent c.args.net.now (takes c.args.taking.now) c.args.source _ _ (sym c.source.ensures ∙ c.in-Start.is)
