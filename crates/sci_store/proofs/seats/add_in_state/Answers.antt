use Rattle.std.proofs.Common.{◌≡◌, true, ap, sym, subst, ◌∙◌}
use Rattle.std.proofs.lemmas.Result.{IfOk-weaker}
use Rattle.sci_forms.specs.declared.spec.Spec.{Spec}
use Rattle.sci_forms.specs.Typed.{typed}
use Rattle.sci_bank.specs.Bank.{after_add}
use Rattle.sci_bank.specs.Library.{bank_of, with_bank}
use Rattle.sci_bank.proofs.LibraryLemmas.{Holds-full, kind_of-bank}
use Rattle.sci_store.proofs.seats.add_in_state.Goals as goal

pub add-requires-clause-known : goal.add-requires-clause-known
add-requires-clause-known g c = Holds-full _ c.args.spec.now.kind c.requires.full

pub add-requires-clause-is_typed : goal.add-requires-clause-is_typed
add-requires-clause-is_typed g c = subst (λ (s : Spec). typed s ≡ true) (sym c.in_ok-begun.ensures) c.requires.is_typed

pub add-requires-clause-of_kind : goal.add-requires-clause-of_kind
add-requires-clause-of_kind g c =
    ap (λ (s : Spec). s.kind) c.in_ok-begun.ensures
    ∙ sym (kind_of-bank _ c.args.spec.now.kind c.well_formed-2.ensures (Holds-full _ c.args.spec.now.kind c.requires.full))

pub returns-clause-added : goal.returns-clause-added
returns-clause-added g c =
    let banks = c.args.lib.now in
    let kind = c.args.spec.now.kind in
    IfOk-weaker c.add.result _ _ (λ slot h. (h.0, h.1 ∙ ap (λ (s : Spec). with_bank banks kind (after_add (bank_of banks kind) s)) c.in_ok-begun.ensures))
    c.add.ensures.added
