-- The guards of an entry, one after another.
use Rattle.std.proofs.Common.{◌≡◌, ℕ, ◌+◌, ◌<◌, ◌≤◌, Bool, true, false, ◌||◌, cond, List, [], ◌∷◌, ◌++◌, length, get_or, take, All, Some, None, refl, ap, sym, ◌∙◌, subst, arith}
use Rattle.std.specs.List.{list_any}
use Rattle.std.specs.Int.Bits.{bit_or}
use Rattle.std.proofs.lemmas.List.{length-map, get_or-map, map_more, take_all}
use Rattle.std.proofs.lemmas.List.Folds.{list_any-append}
use Rattle.sci_reaction.specs.Schedule.{Guard}
use Rattle.sci_reaction.specs.declared.entry.Guard.{Guard as Kept}
use Rattle.sci_reaction.specs.declared.entry.Entry.{Entry}
use Rattle.sci_reaction.specs.Kept.{guard_of, guards_of, entry_of}
use Rattle.sci_store.specs.declared.marks.Mark.{Mark}
use Rattle.sci_store.specs.Entries.{HasMark, is_taken, with_guards, activation}

pub guard_has : (marks : List Mark) (gs : List Kept) (k : ℕ) (d : Kept) → All (HasMark marks) (guards_of gs) → k < length gs
    → HasMark marks (guard_of (get_or gs k d))
guard_has marks gs k d h l =
    let long = length-map gs guard_of in
    subst (HasMark marks) (get_or-map guard_of gs k d (guard_of d) l) (h k (guard_of d) (omega (arith, l, long)))

-- the mask with that of the guard, if it is taken
abbrev with_guard : List Mark → ℕ → Guard → ℕ
with_guard marks mask g = cond (is_taken marks g) (bit_or mask g.mask) mask

guards_push : (marks : List Mark) (mask : ℕ) (gs : List Guard) (g : Guard)
    → with_guards marks mask (gs ++ g ∷ []) ≡ with_guard marks (with_guards marks mask gs) g
guards_push marks mask [] g = refl
guards_push marks mask (x ∷ gs) g = guards_push marks (with_guard marks mask x) gs g

-- what the first k guards come to
abbrev any_to : List Mark → Bool → List Kept → ℕ → Bool
any_to marks always gs k = always || list_any (is_taken marks) (guards_of (take k gs))

abbrev mask_to : List Mark → ℕ → List Kept → ℕ → ℕ
mask_to marks mask gs k = with_guards marks mask (guards_of (take k gs))

some : (a b t : Bool) → t ≡ true → true ≡ (a || (b || (t || false)))
some true b t e = refl
some false true t e = refl
some false false t e = cc

none : (a b t : Bool) → t ≡ false → (a || b) ≡ (a || (b || (t || false)))
none true b t e = refl
none false true t e = refl
none false false t e = cc

module _ (marks : List Mark) (gs : List Kept) (k : ℕ) (d : Kept) (always : Bool) (mask : ℕ) (l : k < length gs) where
  more : guards_of (take (k + 1) gs) ≡ guards_of (take k gs) ++ guard_of (get_or gs k d) ∷ []
  more = map_more guard_of gs k d l

  any_more : any_to marks always gs (k + 1) ≡ (always || (list_any (is_taken marks) (guards_of (take k gs)) || (is_taken marks (guard_of (get_or gs k d)) || false)))
  any_more =
      ap (λ hs. always || list_any (is_taken marks) hs) more
      ∙ ap (λ b. always || b) (list_any-append (is_taken marks) (guards_of (take k gs)) (guard_of (get_or gs k d) ∷ []))

  mask_more : mask_to marks mask gs (k + 1) ≡ with_guard marks (mask_to marks mask gs k) (guard_of (get_or gs k d))
  mask_more = ap (with_guards marks mask) more ∙ guards_push marks mask (guards_of (take k gs)) (guard_of (get_or gs k d))

  -- one more is taken
  pub taken_active : is_taken marks (guard_of (get_or gs k d)) ≡ true → true ≡ any_to marks always gs (k + 1)
  taken_active e = some always (list_any (is_taken marks) (guards_of (take k gs))) (is_taken marks (guard_of (get_or gs k d))) e ∙ sym any_more

  pub taken_mask : is_taken marks (guard_of (get_or gs k d)) ≡ true → bit_or (mask_to marks mask gs k) (get_or gs k d).mask ≡ mask_to marks mask gs (k + 1)
  taken_mask e = sym (ap (λ b. cond b (bit_or (mask_to marks mask gs k) (get_or gs k d).mask) (mask_to marks mask gs k)) e) ∙ sym mask_more

  -- or it isn't
  pub other_active : is_taken marks (guard_of (get_or gs k d)) ≡ false → any_to marks always gs k ≡ any_to marks always gs (k + 1)
  other_active e = none always (list_any (is_taken marks) (guards_of (take k gs))) (is_taken marks (guard_of (get_or gs k d))) e ∙ sym any_more

  pub other_mask : is_taken marks (guard_of (get_or gs k d)) ≡ false → mask_to marks mask gs k ≡ mask_to marks mask gs (k + 1)
  other_mask e = sym (ap (λ b. cond b (bit_or (mask_to marks mask gs k) (get_or gs k d).mask) (mask_to marks mask gs k)) e) ∙ sym mask_more

-- behind all guards
pub activation_is : (marks : List Mark) (e : Entry) (k : ℕ) (active : Bool) (mask : ℕ) → length e.guards.items ≤ k
    → active ≡ any_to marks e.always e.guards.items k → mask ≡ mask_to marks e.mask e.guards.items k → cond active (Some mask) None ≡ activation marks (entry_of e)
activation_is marks e k active mask l a m =
    let all = take_all k e.guards.items l in
    ap (λ b. cond b (Some mask) None) (a ∙ ap (λ gs. e.always || list_any (is_taken marks) (guards_of gs)) all)
    ∙ ap (λ n. cond (e.always || list_any (is_taken marks) (guards_of e.guards.items)) (Some n) None) (m ∙ ap (λ gs. with_guards marks e.mask (guards_of gs)) all)
