-- Members of filtered and mapped lists.
use Rattle.std.proofs.Common.{◌≡◌, ◌<◌, Bool, true, false, cond, ⊎_elim, List, [], ◌∷◌, length, get_or, map, Contains, AllPairs, refl, sym, ap, subst, ◌∙◌, arith, true≢false}
use Rattle.std.specs.List.{filter}
use Rattle.std.proofs.lemmas.List.{get_or-map, length-map}
use Rattle.sci_reaction.proofs.Lists.{Contains-cons, cons-Contains}

pub head_in : {X : Type 0} (x : X) (xs : List X) → Contains (x ∷ xs) x
head_in x xs = (0, omega arith, refl)

pub map_from : {X Y : Type 0} (f : X → Y) (xs : List X) (y : Y) → Contains (map f xs) y → (x : X) × Contains xs x × (f x ≡ y)
map_from f [] y h = absurd (omega (arith, h.1))
map_from f (x ∷ xs) y h =
    ⊎_elim (λ same. (x, head_in x xs, same)) (λ later. let r = map_from f xs y later in (r.0, cons-Contains x xs r.0 r.1, r.2)) (Contains-cons (f x) (map f xs) y h)

pub map_to : {X Y : Type 0} (f : X → Y) (xs : List X) (x : X) → Contains xs x → Contains (map f xs) (f x)
map_to f [] x h = absurd (omega (arith, h.1))
map_to f (y ∷ xs) x h =
    ⊎_elim (λ same. subst (λ z. Contains (f y ∷ map f xs) (f z)) same (head_in (f y) (map f xs))) (λ later. cons-Contains (f y) (map f xs) (f x) (map_to f xs x later)) (Contains-cons y xs x h)

from_step : {X : Type 0} (p : X → Bool) (y : X) (xs : List X) (x : X) (t : Bool) → p y ≡ t → (Contains (filter p xs) x → Contains xs x × (p x ≡ true)) → Contains (cond t (y ∷ filter p xs) (filter p xs)) x →
    Contains (y ∷ xs) x × (p x ≡ true)
from_step p y xs x true e rest h =
    ⊎_elim (λ same. (subst (λ z. Contains (y ∷ xs) z) same (head_in y xs), subst (λ z. p z ≡ true) same e)) (λ later. let r = rest later in (cons-Contains y xs x r.0, r.1))
    (Contains-cons y (filter p xs) x h)
from_step p y xs x false e rest h = let r = rest h in (cons-Contains y xs x r.0, r.1)

pub filter_from : {X : Type 0} (p : X → Bool) (xs : List X) (x : X) → Contains (filter p xs) x → Contains xs x × (p x ≡ true)
filter_from p [] x h = absurd (omega (arith, h.1))
filter_from p (y ∷ xs) x h = from_step p y xs x (p y) refl (filter_from p xs x) h

to_step : {X : Type 0} (p : X → Bool) (y : X) (xs : List X) (x : X) (t : Bool) → p y ≡ t → (Contains xs x → Contains (filter p xs) x) → Contains (y ∷ xs) x → p x ≡ true → Contains (cond t (y ∷ filter p xs) (filter p xs)) x
to_step p y xs x true e rest h on =
    ⊎_elim (λ same. subst (λ z. Contains (y ∷ filter p xs) z) same (head_in y (filter p xs))) (λ later. cons-Contains y (filter p xs) x (rest later)) (Contains-cons y xs x h)
to_step p y xs x false e rest h on = ⊎_elim (λ same. absurd (true≢false (sym on ∙ (ap p (sym same) ∙ e)))) rest (Contains-cons y xs x h)

pub filter_to : {X : Type 0} (p : X → Bool) (xs : List X) (x : X) → Contains xs x → p x ≡ true → Contains (filter p xs) x
filter_to p [] x h on = absurd (omega (arith, h.1))
filter_to p (y ∷ xs) x h on = to_step p y xs x (p y) refl (λ later. filter_to p xs x later on) h on

pub pairs_map : {X Y : Type 0} (R : Y → Y → Type 0) (f : X → Y) (xs : List X) → AllPairs (λ a b. R (f a) (f b)) xs → AllPairs R (map f xs)
pairs_map R f [] h i j d l w = absurd (omega (arith, w))
pairs_map R f (x ∷ xs) h i j d l w =
    let long = length-map (x ∷ xs) f in
    let wj : j < length (x ∷ xs) = omega (arith, long, w) in
    let wi : i < length (x ∷ xs) = omega (arith, l, wj) in
    subst (λ a. R a (get_or (map f (x ∷ xs)) j d)) (sym (get_or-map f (x ∷ xs) i x d wi)) (subst (λ b. R (f (get_or (x ∷ xs) i x)) b) (sym (get_or-map f (x ∷ xs) j x d wj)) (h i j x l wj))

pub pairs_of_map : {X Y : Type 0} (R : Y → Y → Type 0) (f : X → Y) (xs : List X) → AllPairs R (map f xs) → AllPairs (λ a b. R (f a) (f b)) xs
pairs_of_map R f xs h i j d l w =
    let long = length-map xs f in
    let wi : i < length xs = omega (arith, l, w) in
    subst (λ a. R a (f (get_or xs j d))) (get_or-map f xs i d (f d) wi) (subst (λ b. R (get_or (map f xs) i (f d)) b) (get_or-map f xs j d (f d) w) (h i j (f d) l (omega (arith, long, w))))
