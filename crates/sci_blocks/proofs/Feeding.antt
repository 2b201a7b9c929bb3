-- The set of fed inputs, and the list of ends that it stands for.
use Rattle.std.proofs.Common.{◌≡◌, ℕ, ℤ, Ok, List, [], ◌∷◌, ◌++◌, Bool, true, false, cond, ◌&&◌, ◌||◌, Ordering, Less, Equal, Greater, refl, sym, ◌∙◌, arith}
use Rattle.std.specs.List.{list_any}
use Rattle.std.specs.Ordering.{is_eq, int_cmp, ordering_then}
use Rattle.std.proofs.lemmas.Int.{ints}
use Rattle.std.proofs.lemmas.Bool.Decides.{Decides-int_eq, same_from_decides}
use Rattle.std.proofs.lemmas.List.Folds.{list_any-append}
use Rattle.sci_base.specs.Fit.{int_eq}
use Rattle.sci_diagram.specs.declared.diagram.End.{End}
use Rattle.sci_forms.proofs.TestLemmas.{int_same}
use Rattle.sci_blocks.specs.Wiring.{is_at, once_fed}
use Rattle.sci_blocks.specs.declared.class.LinkType.TheVariants.{Regular}

int_eq-self : (a : ℤ) → int_eq a a ≡ true
int_eq-self a = grind (arith, ints)

equal_tests : (a b : ℤ) → is_eq (int_cmp a b) ≡ int_eq a b
equal_tests a b =
    same_from_decides {P = a ≡ b} (is_eq (int_cmp a b)) (int_eq a b) (Decides-int_eq a b) (int_same a b, λ e. rw e (int_eq-self b))

int_eq-sym : (a b : ℤ) → int_eq a b ≡ int_eq b a
int_eq-sym a b =
    same_from_decides {P = a ≡ b} (int_eq a b) (int_eq b a) (int_same a b, λ e. rw e (int_eq-self b)) ((λ h. sym (int_same b a h)), λ e. rw e (int_eq-self b))

both_equal : (o q : Ordering) → is_eq (ordering_then o q) ≡ (is_eq o && is_eq q)
both_equal Less q = refl
both_equal Equal q = refl
both_equal Greater q = refl

pub pair_tests : (a b c d : ℤ) → is_eq (ordering_then (int_cmp a c) (int_cmp b d)) ≡ (int_eq a c && int_eq b d)
pair_tests a b c d = both_equal (int_cmp a c) (int_cmp b d) ∙ rw (equal_tests a c, equal_tests b d) refl

-- one more port in the set, and one more end
pub fed_more : (block port : ℤ) (to : End) (ends : List End) (b p : ℤ) (x : Bool) → to.block ≡ block → to.port ≡ port → x ≡ list_any (is_at b p) ends
    → cond (is_eq (ordering_then (int_cmp block b) (int_cmp port p))) true x ≡ list_any (is_at b p) (ends ++ to ∷ [])
fed_more block port to ends b p x at_block at_port h =
    let turned : is_eq (ordering_then (int_cmp block b) (int_cmp port p)) ≡ is_at b p to = pair_tests block port b p ∙ rw (at_block, at_port, int_eq-sym block b, int_eq-sym port p) refl in
    rw (turned, list_any-append (is_at b p) ends (to ∷ []), ← h) (joined (is_at b p to) x)
  where
    joined : (t y : Bool) → cond t true y ≡ (y || (t || false))
    joined true true = refl
    joined true false = refl
    joined false true = refl
    joined false false = refl

pub once_ok : (here : List ℕ) (fed : List End) (to : End) → list_any (is_at to.block to.port) fed ≡ false → once_fed here fed Regular to ≡ Ok tt
once_ok here fed to h = rw h refl
