-- Libraries that are filled kind by kind.
use Rattle.std.proofs.Common.{◌≡◌, ℕ, zero, suc, ◌+◌, ◌<◌, ◌≤◌, List, [], ◌∷◌, ◌++◌, length, refl, ap, sym, ◌∙◌, arith, subst, inl, inr, Some, None, Bool, true, false, cond}
use Rattle.std.specs.Prelude.{nat_lt}
use Rattle.std.proofs.lemmas.List.{get_or_append_left, get_or_push, length-append}
use Rattle.std.proofs.lemmas.Bool.{cases_lt}
use Rattle.std.proofs.lemmas.Bool.Decides.{nat_tests}
use Rattle.sci_forms.specs.declared.Kind.{Kind}
use Rattle.sci_forms.specs.Numbers.{kind_at}
use Rattle.sci_bank.specs.Bank.{Meaning, no_bank}
use Rattle.sci_bank.specs.Library.{next_of, AreInOrder, IsFull}
use Rattle.sci_forms.specs.Numbers.{kinds}
use Rattle.sci_library.specs.Banks.{fresh, AreFresh, IsBegun}

-- no banks
none_below : (i : ℕ) → i < length {A = Meaning} [] → ⊥
none_below i l = omega (arith, l)

pub begun_none : (banks : List Meaning) → banks ≡ [] → IsBegun banks
begun_none banks e = rw e (record { few = omega arith; in_order = λ i l. absurd (none_below i l); fresh = λ i l. absurd (none_below i l) })

-- one bank more
fresh-push : (banks : List Meaning) (b : Meaning) → AreFresh banks → (b.rows ≡ []) × (b.outs ≡ 0) → AreFresh (banks ++ b ∷ [])
fresh-push banks b f e = λ i l.
    elim (cases_lt i (length banks)) [
      | inl p ↦ subst (λ (m : Meaning). (m.rows ≡ []) × (m.outs ≡ 0)) (sym (get_or_append_left banks (b ∷ []) no_bank i p)) (f i p)
      | inr p ↦ let q : length banks ≡ i = omega (arith, l, length-append banks (b ∷ []), p) in subst (λ (m : Meaning). (m.rows ≡ []) × (m.outs ≡ 0)) (sym (get_or_push banks b no_bank i q)) e
    ]

-- the next kind is there until all are
pub next_below : (n : ℕ) (k : Kind) → next_of n ≡ Some k → n < kinds
next_below n k h = by_room (nat_lt n kinds) refl h
  where
    by_room : (b : Bool) → nat_lt n kinds ≡ b → cond b (kind_at (n + 1)) None ≡ Some k → n < kinds
    by_room true e p = grind (arith, nat_tests)
    by_room false e p = absurd (some_none p)
      where
        some_none : {l : Kind} → None ≡ Some l → ⊥
        some_none q = cc

pub begun_push : (banks new : List Meaning) (b : Meaning) (k : Kind) → IsBegun banks → next_of (length banks) ≡ Some k → b ≡ fresh k → new ≡ banks ++ b ∷ [] → (AreInOrder banks → AreInOrder new) → IsBegun new
begun_push banks new b k f n e put order =
    let below = next_below (length banks) k n in
    let more : length new ≡ length banks + 1 = ap length put ∙ length-append banks (b ∷ []) in
    record {
      few = omega (arith, below, more);
      in_order = order f.in_order;
      fresh = rw put (fresh-push banks b f.fresh (ap (λ (m : Meaning). m.rows) e, ap (λ (m : Meaning). m.outs) e));
    }

is_there : {k : Kind} → Some k ≡ None → ⊥
is_there h = cc

next_there : (n : ℕ) → next_of n ≡ None → kinds ≤ n
next_there zero h = absurd (is_there h)
next_there (suc zero) h = absurd (is_there h)
next_there (suc (suc zero)) h = absurd (is_there h)
next_there (suc (suc (suc zero))) h = absurd (is_there h)
next_there (suc (suc (suc (suc zero)))) h = absurd (is_there h)
next_there (suc (suc (suc (suc (suc zero))))) h = absurd (is_there h)
next_there (suc (suc (suc (suc (suc (suc zero)))))) h = absurd (is_there h)
next_there (suc (suc (suc (suc (suc (suc (suc zero))))))) h = absurd (is_there h)
next_there (suc (suc (suc (suc (suc (suc (suc (suc zero)))))))) h = absurd (is_there h)
next_there (suc (suc (suc (suc (suc (suc (suc (suc (suc zero))))))))) h = absurd (is_there h)
next_there (suc (suc (suc (suc (suc (suc (suc (suc (suc (suc zero)))))))))) h = absurd (is_there h)
next_there (suc (suc (suc (suc (suc (suc (suc (suc (suc (suc (suc zero))))))))))) h = absurd (is_there h)
next_there (suc (suc (suc (suc (suc (suc (suc (suc (suc (suc (suc (suc zero)))))))))))) h = absurd (is_there h)
next_there (suc (suc (suc (suc (suc (suc (suc (suc (suc (suc (suc (suc (suc zero))))))))))))) h = absurd (is_there h)
next_there (suc (suc (suc (suc (suc (suc (suc (suc (suc (suc (suc (suc (suc (suc zero)))))))))))))) h = absurd (is_there h)
next_there (suc (suc (suc (suc (suc (suc (suc (suc (suc (suc (suc (suc (suc (suc (suc zero))))))))))))))) h = absurd (is_there h)
next_there (suc (suc (suc (suc (suc (suc (suc (suc (suc (suc (suc (suc (suc (suc (suc (suc zero)))))))))))))))) h = absurd (is_there h)
next_there (suc (suc (suc (suc (suc (suc (suc (suc (suc (suc (suc (suc (suc (suc (suc (suc (suc zero))))))))))))))))) h = absurd (is_there h)
next_there (suc (suc (suc (suc (suc (suc (suc (suc (suc (suc (suc (suc (suc (suc (suc (suc (suc (suc zero)))))))))))))))))) h = absurd (is_there h)
next_there (suc (suc (suc (suc (suc (suc (suc (suc (suc (suc (suc (suc (suc (suc (suc (suc (suc (suc (suc zero))))))))))))))))))) h = absurd (is_there h)
next_there (suc (suc (suc (suc (suc (suc (suc (suc (suc (suc (suc (suc (suc (suc (suc (suc (suc (suc (suc (suc zero)))))))))))))))))))) h = absurd (is_there h)
next_there (suc (suc (suc (suc (suc (suc (suc (suc (suc (suc (suc (suc (suc (suc (suc (suc (suc (suc (suc (suc (suc zero))))))))))))))))))))) h = absurd (is_there h)
next_there (suc (suc (suc (suc (suc (suc (suc (suc (suc (suc (suc (suc (suc (suc (suc (suc (suc (suc (suc (suc (suc (suc zero)))))))))))))))))))))) h = absurd (is_there h)
next_there (suc (suc (suc (suc (suc (suc (suc (suc (suc (suc (suc (suc (suc (suc (suc (suc (suc (suc (suc (suc (suc (suc (suc zero))))))))))))))))))))))) h = absurd (is_there h)
next_there (suc (suc (suc (suc (suc (suc (suc (suc (suc (suc (suc (suc (suc (suc (suc (suc (suc (suc (suc (suc (suc (suc (suc (suc zero)))))))))))))))))))))))) h = absurd (is_there h)
next_there (suc (suc (suc (suc (suc (suc (suc (suc (suc (suc (suc (suc (suc (suc (suc (suc (suc (suc (suc (suc (suc (suc (suc (suc (suc zero))))))))))))))))))))))))) h = absurd (is_there h)
next_there (suc (suc (suc (suc (suc (suc (suc (suc (suc (suc (suc (suc (suc (suc (suc (suc (suc (suc (suc (suc (suc (suc (suc (suc (suc (suc zero)))))))))))))))))))))))))) h = absurd (is_there h)
next_there (suc (suc (suc (suc (suc (suc (suc (suc (suc (suc (suc (suc (suc (suc (suc (suc (suc (suc (suc (suc (suc (suc (suc (suc (suc (suc (suc zero))))))))))))))))))))))))))) h = absurd (is_there h)
next_there (suc (suc (suc (suc (suc (suc (suc (suc (suc (suc (suc (suc (suc (suc (suc (suc (suc (suc (suc (suc (suc (suc (suc (suc (suc (suc (suc (suc zero)))))))))))))))))))))))))))) h = absurd (is_there h)
next_there (suc (suc (suc (suc (suc (suc (suc (suc (suc (suc (suc (suc (suc (suc (suc (suc (suc (suc (suc (suc (suc (suc (suc (suc (suc (suc (suc (suc (suc zero))))))))))))))))))))))))))))) h = absurd (is_there h)
next_there (suc (suc (suc (suc (suc (suc (suc (suc (suc (suc (suc (suc (suc (suc (suc (suc (suc (suc (suc (suc (suc (suc (suc (suc (suc (suc (suc (suc (suc (suc zero)))))))))))))))))))))))))))))) h = absurd (is_there h)
next_there (suc (suc (suc (suc (suc (suc (suc (suc (suc (suc (suc (suc (suc (suc (suc (suc (suc (suc (suc (suc (suc (suc (suc (suc (suc (suc (suc (suc (suc (suc (suc zero))))))))))))))))))))))))))))))) h = absurd (is_there h)
next_there (suc (suc (suc (suc (suc (suc (suc (suc (suc (suc (suc (suc (suc (suc (suc (suc (suc (suc (suc (suc (suc (suc (suc (suc (suc (suc (suc (suc (suc (suc (suc (suc zero)))))))))))))))))))))))))))))))) h = absurd (is_there h)
next_there (suc (suc (suc (suc (suc (suc (suc (suc (suc (suc (suc (suc (suc (suc (suc (suc (suc (suc (suc (suc (suc (suc (suc (suc (suc (suc (suc (suc (suc (suc (suc (suc (suc zero))))))))))))))))))))))))))))))))) h = absurd (is_there h)
next_there (suc (suc (suc (suc (suc (suc (suc (suc (suc (suc (suc (suc (suc (suc (suc (suc (suc (suc (suc (suc (suc (suc (suc (suc (suc (suc (suc (suc (suc (suc (suc (suc (suc (suc n)))))))))))))))))))))))))))))))))) h = omega arith

-- where no kind is next, the library is full
pub begun_full : (banks : List Meaning) → IsBegun banks → next_of (length banks) ≡ None → IsFull banks
begun_full banks f n = let there = next_there (length banks) n in let few = f.few in omega (arith, there, few)
