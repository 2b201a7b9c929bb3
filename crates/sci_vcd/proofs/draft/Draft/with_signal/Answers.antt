use Rattle.std.proofs.lemmas.List.{length_push}
use Rattle.sci_vcd.proofs.Links.{linked_signal}
use Rattle.sci_vcd.proofs.draft.Draft.with_signal.Goals as goal

pub returns-clause-linked : goal.returns-clause-linked
returns-clause-linked c = rw (c.in_ok-push.ensures.items, c.in_ok-push-2.ensures.items, length_push) (linked_signal _ _ _ c.requires.linked c.requires.unchanged)
