use Rattle.sci_reaction.specs.Active.{Possible}
use Rattle.sci_reaction.proofs.Agreement.{agrees}
use Rattle.sci_reaction.proofs.Fair.{fair}
use Rattle.sci_reaction.proofs.OneResult.{ground}
use Rattle.sci_reaction.proofs.one_solution.Goals as goal

pub returns : goal.returns
returns c n m i s y z net free my mz b inside =
    let a = agrees n m i s net.wired (fair n m i net.typed_specs) (Possible n s) (λ d e h dep. dep.on_possible) y z (λ d l within. my d l) (λ d l within. mz d l)
    (ground n s free b inside) (λ may. may) in
    (a.value inside, (a.there, a.back))
