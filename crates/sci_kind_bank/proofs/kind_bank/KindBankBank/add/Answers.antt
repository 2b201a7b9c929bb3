use Rattle.std.proofs.Common.{◌∙◌, sym, refl}
use Rattle.sci_forms.proofs.TestLemmas.{size_small}
use Rattle.sci_kind_bank.proofs.BankLemmas.{AreRows-push, starts_of}
use Rattle.sci_kind_bank.proofs.kind_bank.KindBankBank.add.Goals as goal

pub of-words-requires : goal.of-words-requires
of-words-requires g c = rw c.in_ok-copy.ensures (size_small c.args.spec.now c.requires.is_typed)

pub spread-requires : goal.spread-requires
spread-requires g c = λ n. starts_of c.args.spec.now c.requires.is_typed n ∙ sym c.state_len.ensures

pub invariant_of-self-2 : goal.invariant_of-self-2
invariant_of-self-2 g c =
    let p = AreRows-push c.args.spec.now.kind c.self.inside.rows.items c.args.spec.now (rw c.requires.of_kind c.self.invariant) c.requires.is_typed refl in
    rw (c.in_ok-push.ensures.items, c.of-words.ensures, c.in_ok-copy.ensures, c.in_ok-state.ensures, c.state_len.ensures, ← c.requires.of_kind) p
