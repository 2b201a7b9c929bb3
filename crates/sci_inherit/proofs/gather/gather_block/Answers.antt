use Rattle.std.proofs.Common.{◌∙◌, sym, arith, true≢false, Vec}
use Rattle.std.specs.declared.alloc.Global.{Global}
use Rattle.std.proofs.lemmas.List.{length-map}
use Rattle.std.proofs.lemmas.Result.{on_ok_weaker}
use Rattle.sci_net.specs.declared.Feed.{Feed}
use Rattle.sci_loop.specs.Lists.{plain}
use Rattle.sci_inherit.specs.Gather.{IsSender}
use Rattle.sci_inherit.proofs.Gathering.{gathered_other}
use Rattle.sci_inherit.proofs.Living.{sender_wanted}
use Rattle.sci_inherit.proofs.gather.gather_block.Goals as goal

pub gather_ports-requires-clause-wanted : goal.gather_ports-requires-clause-wanted
gather_ports-requires-clause-wanted c = sender_wanted c.args.net.now c.args.rows.now.wanted.items c.args.senders c.args.block (c.is_sender.ensures.0 c.if-is_sender.true)

pub gather_ports-requires-clause-len : goal.gather_ports-requires-clause-len
gather_ports-requires-clause-len c =
    let long = length-map c.args.reaching.now.items (λ (v : Vec Feed Global). v.items) in
    omega (arith, long, c.requires.gathered.long, c.args.reaching.now.ok.0)

pub returns-then-is_sender-clause-gathered : goal.returns-then-is_sender-clause-gathered
returns-then-is_sender-clause-gathered c =
    on_ok_weaker c.gather_ports.result (λ grows. grows c.args.senders (c.is_sender.ensures.0 c.if-is_sender.true) c.requires.gathered) c.gather_ports.ensures.gathered

pub returns-else-is_sender-clause-gathered : goal.returns-else-is_sender-clause-gathered
returns-else-is_sender-clause-gathered c =
    gathered_other c.args.net.now (IsSender c.args.net.now c.args.rows.now.wanted.items c.args.senders) c.args.block (plain c.args.reaching.now.items) c.requires.least (λ t. true≢false (sym (c.is_sender.ensures.1 t) ∙ c.if-is_sender.false)) c.requires.gathered
