-- What a call through a library leaves: one bank is changed, the others stay, and a full library stays full.
use Rattle.std.proofs.Common.{◌≡◌, ℕ, ◌+◌, ◌<◌, ◌≤◌, ℤ, List, [], ◌∷◌, ◌++◌, length, refl, ap, sym, ◌∙◌, arith, subst, inl, inr, set, take, get_or, map, Some, None, min, Bool, true, false, cond, Result, Ok, Err}
use Rattle.std.specs.Prelude.{IfOk, OnErr, nat_lt}
use Rattle.std.specs.List.{sum_by}
use Rattle.std.proofs.lemmas.List.Sums.{sum_by-append}
use Rattle.std.proofs.Math.Seq.{map-set_same}
use Rattle.std.proofs.lemmas.List.{take_more, take_all, map-set, get_or-map, length-map, get_or_append_left, get_or_push, length-append, length-set, get_or-set_other, map-append}
use Rattle.std.proofs.lemmas.Bool.{cases_lt, cases_eq}
use Rattle.std.proofs.lemmas.Grind.{get_or-set_at}
use Rattle.sci_forms.specs.declared.Kind.{Kind}
use Rattle.sci_forms.specs.declared.Kind.TheVariants.{Const}
use Rattle.sci_forms.specs.Numbers.{kind_at, kinds}
use Rattle.sci_span.specs.declared.place.Place.{Place}
use Rattle.sci_span.specs.Values.{gathered}
use Rattle.sci_bank.specs.declared.runs.Call.{Call}
use Rattle.sci_bank.specs.Bank.{Meaning, no_bank, after_update}
use Rattle.sci_bank.specs.Library.{place_of, bank_of, with_bank, Holds, AreInOrder, IsFull, next_of}
use Rattle.sci_bank.specs.Runs.{place_in, after_updates}

-- ---- the banks of a library

-- a member of a list changes, and the list of views with it
pub map-set_at : {X M : Type 0} (f : X → M) (g : M → M) (xs : List X) (i j : ℕ) (x y : X) (d : M) → i ≡ j → j < length (map f xs) → x ≡ get_or xs i x → f y ≡ g (f x) → map f (set xs i y) ≡ set (map f xs) j (g (get_or (map f xs) j d))
map-set_at f g xs i j x y d a h e k =
    map-set f xs i y
    ∙ ap (set (map f xs) i) (k ∙ ap g (ap f e ∙ sym (get_or-map f xs i x d (omega (arith, a, h, length-map xs f)))))
    ∙ ap (λ n. set (map f xs) n (g (get_or (map f xs) n d))) a

-- a member of a list is replaced by one with the same view
pub map-set_kept : {X M : Type 0} (f : X → M) (xs : List X) (i : ℕ) (x y : X) → x ≡ get_or xs i x → f y ≡ f x → map f (set xs i y) ≡ map f xs
map-set_kept f xs i x y e k = map-set_same f xs i y x (k ∙ ap f e)

-- what is read of a member is read of its view
pub view_of : {X M : Type 0} (f : X → M) (xs : List X) (i j : ℕ) (x : X) (d : M) → i ≡ j → j < length (map f xs) → x ≡ get_or xs i x → f x ≡ get_or (map f xs) j d
view_of f xs i j x d a h e =
    ap f e ∙ sym (get_or-map f xs i x d (omega (arith, a, h, length-map xs f))) ∙ ap (λ n. get_or (map f xs) n d) a

-- ---- the sum of the counts

sum_by-one : {X : Type 0} (f : X → ℕ) (x : X) → sum_by f (x ∷ []) ≡ f x
sum_by-one f x = omega arith

sum_by-cons : {X : Type 0} (f : X → ℕ) (x : X) (xs : List X) → sum_by f (x ∷ xs) ≡ f x + sum_by f xs
sum_by-cons f x xs = sum_by-append f (x ∷ []) xs ∙ ap (λ n. n + sum_by f xs) (sum_by-one f x)

-- one more count, up to the limit
pub total_more : {X : Type 0} (f : X → ℕ) (xs : List X) (i : ℕ) (x : X) (all b new most : ℕ) → i < length xs → x ≡ get_or xs i x → all ≡ min (sum_by f (take i xs)) most → b ≡ f x → new ≡ min (all + b) most → new ≡ min (sum_by f (take (i + 1) xs)) most
total_more f xs i x all b new most p e a c n =
    let s : sum_by f (take (i + 1) xs) ≡ sum_by f (take i xs) + f x =
    ap (sum_by f) (take_more xs i x p) ∙ sum_by-append f (take i xs) (get_or xs i x ∷ []) ∙ ap (λ m. sum_by f (take i xs) + m) (sum_by-one f (get_or xs i x) ∙ ap f (sym e)) in
    rw s (omega (arith, a, c, n))

sum_by-map : {X M : Type 0} (g : X → M) (f : M → ℕ) (xs : List X) → sum_by f (map g xs) ≡ sum_by (λ x. f (g x)) xs
sum_by-map g f [] = refl
sum_by-map g f (x ∷ xs) = sum_by-cons f (g x) (map g xs) ∙ ap (λ n. f (g x) + n) (sum_by-map g f xs) ∙ sym (sum_by-cons (λ x. f (g x)) x xs)

pub total_all : {X M : Type 0} (g : X → M) (f : M → ℕ) (xs : List X) (i all most : ℕ) → length xs ≤ i → all ≡ min (sum_by (λ x. f (g x)) (take i xs)) most → all ≡ min (sum_by f (map g xs)) most
total_all g f xs i all most p a = rw (sum_by-map g f xs) (rw (take_all i xs p) at a)

-- ---- order

-- a bank is replaced by one of the same kind
pub in_order-with_bank : (banks new : List Meaning) (k : Kind) (b : Meaning) → Holds banks k → b.kind ≡ (bank_of banks k).kind → new ≡ with_bank banks k b → AreInOrder banks → AreInOrder new
in_order-with_bank banks new k b h e n o = rw n (λ i l.
    let less : i < length banks = subst (λ n. i < n) (length-set banks (place_of k) b) l in
    elim (cases_eq i (place_of k)) [
      | inl q ↦ o i less ∙ ap Some (ap (λ j. (get_or banks j no_bank).kind) q ∙ sym e ∙ ap (λ (m : Meaning). m.kind) (sym (get_or-set_at banks (place_of k) i b no_bank q h)))
      | inr q ↦ o i less ∙ ap (λ (m : Meaning). Some m.kind) (sym (get_or-set_other banks (place_of k) i b no_bank q))
    ])

-- one more bank, of the next kind
pub AreInOrder-push : (banks new : List Meaning) (b : Meaning) → AreInOrder banks → kind_at (length banks + 1) ≡ Some b.kind → new ≡ banks ++ b ∷ [] → AreInOrder new
AreInOrder-push banks new b o e n = rw n (λ i l.
    let len : length (banks ++ b ∷ []) ≡ length banks + 1 = length-append banks (b ∷ []) in
    elim (cases_lt i (length banks)) [
      | inl p ↦ o i p ∙ ap (λ (m : Meaning). Some m.kind) (sym (get_or_append_left banks (b ∷ []) no_bank i p))
      | inr p ↦ let q : i ≡ length banks = omega (arith, l, len, p) in rw q (e ∙ ap (λ (m : Meaning). Some m.kind) (sym (get_or_push banks b no_bank (length banks) refl)))
    ])

-- ---- calls through a library

-- a bank is changed by a call
pub bank_changed : {X : Type 0} (f : X → Meaning) (g : Meaning → Meaning) (xs : List X) (k : Kind) (i : ℕ) (x y : X) → i ≡ place_of k → Holds (map f xs) k → x ≡ get_or xs i x → f y ≡ g (f x)
    → map f (set xs i y) ≡ with_bank (map f xs) k (g (bank_of (map f xs) k))
bank_changed f g xs k i x y e h r c = map-set_at f g xs i (place_of k) x y no_bank e h r c

-- and the banks stay in order, where the call keeps the bank's kind
pub stays_in_order : {X : Type 0} (f : X → Meaning) (g : Meaning → Meaning) (xs : List X) (k : Kind) (i : ℕ) (x y : X) → i ≡ place_of k → Holds (map f xs) k → x ≡ get_or xs i x → f y ≡ g (f x)
    → ((b : Meaning) → (g b).kind ≡ b.kind) → AreInOrder (map f xs) → AreInOrder (map f (set xs i y))
stays_in_order f g xs k i x y e h r c keeps order =
    in_order-with_bank (map f xs) (map f (set xs i y)) k (g (bank_of (map f xs) k)) h (keeps (bank_of (map f xs) k)) (bank_changed f g xs k i x y e h r c) order

-- updates keep it
pub kind_kept : (b : Meaning) (places : List Place) (values : List ℤ) (cs : List Call) → (after_updates b places values cs).kind ≡ b.kind
kind_kept b places values [] = refl
kind_kept b places values (c ∷ cs) = kind_kept (after_update b c.slot c.mask (gathered values (place_in places c.block).ins)) places values cs

-- and a full library stays full
pub stays_full : {X : Type 0} (f : X → Meaning) (xs : List X) (i : ℕ) (y : X) → IsFull (map f xs) → IsFull (map f (set xs i y))
stays_full f xs i y full = omega (arith, length-map (set xs i y) f, length-map xs f, length-set xs i y)

-- ---- full libraries

at_place : (k : Kind) → kind_at (place_of k + 1) ≡ Some k
at_place Const = refl
at_place _ = refl

-- the bank at a kind's place is of that kind
pub kind_of-bank : (banks : List Meaning) (k : Kind) → AreInOrder banks → Holds banks k → (bank_of banks k).kind ≡ k
kind_of-bank banks k o h = same (sym (o (place_of k) h) ∙ at_place k)
  where
    same : {a b : Kind} → Some a ≡ Some b → a ≡ b
    same e = cc

-- a full library holds the bank of each kind
place_within : (k : Kind) → place_of k < kinds
place_within Const = omega arith
place_within _ = omega arith

pub Holds-full : (banks : List Meaning) (k : Kind) → IsFull banks → Holds banks k
Holds-full banks k f = rw f (place_within k)

-- ---- what `add` and `put` leave

-- an instance more, or no memory
pub in_order_after_add : {X E : Type 0} (f : X → Meaning) (g : Meaning → Meaning) (xs : List X) (k : Kind) (i : ℕ) (x y : X) (n : ℕ) (r : Result ℕ E) → i ≡ place_of k → Holds (map f xs) k → x ≡ get_or xs i x
    → IfOk r (λ slot. (slot ≡ n) × (f y ≡ g (f x))) → OnErr r (f y ≡ f x) → ((b : Meaning) → (g b).kind ≡ b.kind) → AreInOrder (map f xs) → AreInOrder (map f (set xs i y))
in_order_after_add f g xs k i x y n (Ok v) e h r ok err keeps order = stays_in_order f g xs k i x y e h r ok.1 keeps order
in_order_after_add f g xs k i x y n (Err w) e h r ok err keeps order = stays_in_order f (λ b. b) xs k i x y e h r err (λ b. refl) order

next_is : (n : ℕ) (k : Kind) → next_of n ≡ Some k → kind_at (n + 1) ≡ Some k
next_is n k h = by_room (nat_lt n kinds) h
  where
    by_room : (b : Bool) → cond b (kind_at (n + 1)) None ≡ Some k → kind_at (n + 1) ≡ Some k
    by_room true p = p
    by_room false p = cc

-- one more bank
pub in_order_after_put : {X : Type 0} (f : X → Meaning) (xs ys : List X) (x : X) → ys ≡ xs ++ x ∷ [] → AreInOrder (map f xs) → next_of (length (map f xs)) ≡ Some (f x).kind → AreInOrder (map f ys)
in_order_after_put f xs ys x e o n =
    AreInOrder-push (map f xs) (map f ys) (f x) o (next_is (length (map f xs)) (f x).kind n) (ap (map f) e ∙ map-append f xs (x ∷ []))
