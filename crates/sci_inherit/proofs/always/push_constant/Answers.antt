use Rattle.std.proofs.Common.{◌∙◌, sym, true≢false}
use Rattle.sci_inherit.proofs.Sourced.{constants_more, constants_other}
use Rattle.sci_inherit.proofs.always.push_constant.Goals as goal

pub returns-in_ok-push : goal.returns-in_ok-push
returns-in_ok-push c =
    constants_more c.args.net.now c.args.block c.args.constants.now.items c.push.new.self.items c.requires.least (c.is_constant.ensures.0 c.if-is_constant.true) c.in_ok-push.ensures.items
    c.requires.constants

pub returns-else-is_constant : goal.returns-else-is_constant
returns-else-is_constant c =
    constants_other c.args.net.now c.args.block c.args.constants.now.items c.requires.least (λ h. true≢false (sym (c.is_constant.ensures.1 h) ∙ c.if-is_constant.false)) c.requires.constants
