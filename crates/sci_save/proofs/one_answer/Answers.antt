use Rattle.std.proofs.Common.{refl}
use Rattle.sci_save.proofs.Blaming.{one_spelled, one_blamed, one_is_due}
use Rattle.sci_save.proofs.one_answer.Goals as goal

pub returns-clause-saved : goal.returns-clause-saved
returns-clause-saved c n i bytes m o net short s t = one_spelled n i net short bytes m o s t

pub returns-clause-text : goal.returns-clause-text
returns-clause-text c n i m k v = (record { valid = v; text = refl }, λ b. b.none m (record { valid = v; text = refl }))

pub returns-clause-line : goal.returns-clause-line
returns-clause-line c n i bytes j k p q = one_blamed n i bytes j k p q

pub returns-clause-due : goal.returns-clause-due
returns-clause-due c n i bytes net short = one_is_due n i net short bytes
