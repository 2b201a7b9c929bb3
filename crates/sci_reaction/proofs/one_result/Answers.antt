use Rattle.sci_reaction.proofs.Fair.{fair}
use Rattle.sci_reaction.proofs.OneResult.{one_result}
use Rattle.sci_reaction.proofs.Results.{some_result}
use Rattle.sci_reaction.proofs.one_result.Goals as goal

pub returns-clause-most : goal.returns-clause-most
returns-clause-most c n m i s x y net free hx hy = one_result n m i s net.wired (fair n m i net.typed_specs) free x y hx hy

pub returns-clause-some : goal.returns-clause-some
returns-clause-some c n m i s net free = some_result n m i s net free

pub returns-clause-exactly : goal.returns-clause-exactly
returns-clause-exactly c n m i s net free =
    let x = some_result n m i s net free in
    (x.0, record { is = x.1; only = λ q h. one_result n m i s net.wired (fair n m i net.typed_specs) free x.0 q x.1 h })
