use Rattle.std.proofs.Common.{◌≡◌, rules, Some, ap, sym, subst, ◌∙◌, map, [], ◌∷◌}
use Rattle.std.proofs.lemmas.List.{length-map, map-append}
use Rattle.sci_bank.specs.Bank.{Meaning}
use Rattle.sci_bank.specs.Library.{next_of}
use Rattle.sci_bank.proofs.LibraryLemmas.{in_order_after_put}
use Rattle.sci_library.proofs.Filling.{begun_push}
use Rattle.sci_library.proofs.put_fresh.Goals.{in-Ok, in-Err}
use Rattle.sci_library.proofs.put_fresh.Goals as goal

pub returns-clause-begun : goal.returns-clause-begun
returns-clause-begun g c =
    let next = subst (λ n. next_of n ≡ Some c.args.kind) (sym (length-map c.args.banks.now.items (λ b. (goal.Bank-dyn g (b.vtable, b.value)).meaning b.value))) c.requires.next in
    elim c.match-push.branch [
      | in-Ok w ↦ rw w.result-is (
          begun_push _ _ _ c.args.kind c.requires.begun next c.requires.fresh
          (ap (map (λ b. (goal.Bank-dyn g (b.vtable, b.value)).meaning b.value)) w.in-Ok.ensures.items ∙ map-append (λ b. (goal.Bank-dyn g (b.vtable, b.value)).meaning b.value) c.args.banks.now.items (c.args.bank ∷ []))
          (λ order. in_order_after_put (λ b. (goal.Bank-dyn g (b.vtable, b.value)).meaning b.value) c.args.banks.now.items _ c.args.bank w.in-Ok.ensures.items order
          (next ∙ ap (λ (m : Meaning). Some m.kind) (sym c.requires.fresh))))
      | in-Err w ↦ search rules
    ]
