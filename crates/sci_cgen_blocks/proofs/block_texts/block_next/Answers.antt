use Rattle.std.proofs.Common.{arith, ◌≡◌, ℕ, ◌+◌, ◌-◌, ◌<◌, Bool, if◌then◌else◌, sym, ap, subst, ◌∙◌, lt-ltb, IfOk}
use Rattle.sci_forms.specs.declared.spec.Spec.{Spec}
use Rattle.sci_forms.specs.Words.{state_len_of}
use Rattle.c_ast.specs.Syntax.{Block, next}
use Rattle.c_ast.specs.View.{statements_of}
use Rattle.c_mean.specs.Texts.{upto}
use Rattle.sci_cgen_blocks.specs.Recipes.{next_alike}
use Rattle.sci_cgen_blocks.specs.Texts.{Places, next_value_text, next_loop, next_text}
use Rattle.sci_cgen_blocks.specs.Plain.{plain_places}
use Rattle.sci_cgen_blocks.proofs.block_texts.block_next.Goals as goal

looped : (s : Spec) (p : Places) (n : ℕ) → n ≡ next_alike s.kind s → 2 < n
    → next (next_loop s p n) (upto (λ i. next_value_text s p (n + i)) (state_len_of s.kind s - n)) ≡ next_text s p
looped s p n same more =
    let alike = next_alike s.kind s in
    let most : 2 < next_alike s.kind s = omega (arith, same, more) in
    ap (λ (k : ℕ). next (next_loop s p k) (upto (λ i. next_value_text s p (k + i)) (state_len_of s.kind s - k))) same
    ∙ ap (λ (t : Bool). if t then next (next_loop s p alike) (upto (λ i. next_value_text s p (alike + i)) (state_len_of s.kind s - alike))
    else upto (next_value_text s p) (state_len_of s.kind s)) (sym (lt-ltb 2 alike most))

pub returns-then-alike-gt2 : goal.returns-then-alike-gt2
returns-then-alike-gt2 c =
    subst (λ (t : Block). IfOk c.looped_next.result (λ v. statements_of v.items ≡ t))
    (looped c.args.s.now (plain_places c.args.at.now) c.next_alike-alike.result c.next_alike-alike.ensures c.if-alike-gt2.true) c.looped_next.ensures
