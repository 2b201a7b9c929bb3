-- What was saved of a net's memory is in range.
use Rattle.std.proofs.Common.{◌≡◌, ℕ, zero, suc, ◌-◌, ◌<◌, ℤ, pos, ◌≤ℤ◌, ◌-ℤ◌, List, [], ◌∷◌, length, get_or, replicate, refl, ap, ◌∙◌, subst, arith, length-append, inl, inr}
use Rattle.std.proofs.lemmas.Int.{ints}
use Rattle.std.proofs.lemmas.Bool.{cases_lt}
use Rattle.std.proofs.lemmas.List.{get_or_append_left, get_or-append_right, get_or-replicate, length-replicate}
use Rattle.sci_base.specs.declared.Ty.{Ty}
use Rattle.sci_base.specs.declared.Ty.TheVariants.{I32, I16, I8, U32, U16, U8}
use Rattle.sci_base.specs.Fit.{low, high, InRange}
use Rattle.sci_base.specs.Lists.{at}
use Rattle.sci_forms.specs.declared.Kind.{Kind}
use Rattle.sci_forms.specs.declared.Kind.TheVariants.{ModuloCount}
use Rattle.sci_forms.specs.declared.ports.Port.{Port}
use Rattle.sci_forms.specs.declared.spec.Spec.{Spec}
use Rattle.sci_forms.specs.Ports.{elements, type_of, total, type_at, Fills}
use Rattle.sci_forms.specs.Words.{param, out_type, state_len_of}
use Rattle.sci_kinds.specs.Asks.{Asks, IsState}
use Rattle.sci_kinds.proofs.Elements.{nat_lt_yes, nat_lt_no}
use Rattle.sci_kinds.proofs.LawProofs.{asks}
use Rattle.sci_net.specs.Parts.{Parts, IsBlock, no_spec, numbered, spec_of}
use Rattle.sci_net.specs.Net.{IsNet}
use Rattle.sci_reaction.specs.Memory.{IsMemory}
use Rattle.sci_save.specs.declared.bounds.Bounds.{Bounds}
use Rattle.sci_save.specs.Saved.{Saved, memory_of}
use Rattle.sci_save.specs.Bounds.{of_type, IsWithin, AreWithin, AreByBlock, state_bound_of, state_bounds, port_bounds, held_bounds}
use Rattle.sci_save.specs.Valid.{IsShaped}

pub block_at : (f : Spec → List Bounds) (ss : List Spec) (rows : List (List ℤ)) (k : ℕ) → AreByBlock f ss rows → k < length ss → AreWithin (f (get_or ss k no_spec)) (get_or rows k [])
block_at f [] [] k w h = absurd (omega (arith, h))
block_at f [] (row ∷ rows) k w h = absurd w
block_at f (s ∷ ss) [] k w h = absurd w
block_at f (s ∷ ss) (row ∷ rows) zero w h = w.0
block_at f (s ∷ ss) (row ∷ rows) (suc k) w h = block_at f ss rows k w.1 (omega (arith, h))

pub within_length : (rs : List Bounds) (vs : List ℤ) → AreWithin rs vs → length vs ≡ length rs
within_length [] [] w = refl
within_length [] (v ∷ vs) w = absurd w
within_length (r ∷ rs) [] w = absurd w
within_length (r ∷ rs) (v ∷ vs) w = ap suc (within_length rs vs w.1)

within_at : (rs : List Bounds) (vs : List ℤ) (d : Bounds) (e : ℕ) → AreWithin rs vs → e < length rs → IsWithin (get_or rs e d) (at vs e)
within_at [] [] d e w h = absurd (omega (arith, h))
within_at [] (v ∷ vs) d e w h = absurd w
within_at (r ∷ rs) [] d e w h = absurd w
within_at (r ∷ rs) (v ∷ vs) d zero w h = w.0
within_at (r ∷ rs) (v ∷ vs) d (suc e) w h = within_at rs vs d e w.1 (omega (arith, h))

type_within : (t : Ty) (v : ℤ) → IsWithin (of_type t) v → InRange t v
type_within t v w = record { above = w.above; below = w.below }

low_below : (t : Ty) → low t ≤ℤ pos 0
low_below I32 = omega (arith, ints)
low_below I16 = omega (arith, ints)
low_below I8 = omega (arith, ints)
low_below U32 = omega (arith, ints)
low_below U16 = omega (arith, ints)
low_below U8 = omega (arith, ints)

counts_within : (t : Ty) (top v : ℤ) → top ≤ℤ high t → pos 0 ≤ℤ v → v ≤ℤ top → InRange t v
counts_within t top v a b c = let l = low_below t in record { above = omega (arith, ints); below = omega (arith, ints) }

state_within : (k : Kind) (s : Spec) (v : ℤ) → Asks k s → IsWithin (state_bound_of k s) v → InRange (out_type s) v
state_within ModuloCount s v a w = counts_within (out_type s) (param s 0 -ℤ pos 1) v a.4 w.above w.below
state_within _ s v a w = type_within (out_type s) v w

states_in : (s : Spec) (x : List ℤ) → Asks s.kind s → AreWithin (state_bounds s) x → IsState s x
states_in s x a w =
    let len = state_len_of s.kind s in
    let r = state_bound_of s.kind s in
    let long : length (replicate len r) ≡ len = length-replicate len r in
    record {
      enough = within_length (replicate len r) x w ∙ long;
      in_range = λ i h.
          state_within s.kind s (at x i) a
          (subst (λ (q : Bounds). IsWithin q (at x i)) (get_or-replicate len i r r h) (within_at (replicate len r) x r i w (omega (arith, h, long))));
    }

pub ports_total : (ps : List Port) → length (port_bounds ps) ≡ total ps
ports_total [] = refl
ports_total (p ∷ ps) =
    let one = length-append (replicate (elements p) (of_type (type_of p))) (port_bounds ps) in
    let long = length-replicate (elements p) (of_type (type_of p)) in
    let rest = ports_total ps in
    omega (arith, one, long, rest)

pub port_at_element : (ps : List Port) (e : ℕ) (d : Bounds) → e < total ps → get_or (port_bounds ps) e d ≡ of_type (type_at ps e)
port_at_element [] e d h = absurd (omega (arith, h))
port_at_element (p ∷ ps) e d h =
    let long : length (replicate (elements p) (of_type (type_of p))) ≡ elements p = length-replicate (elements p) (of_type (type_of p)) in
    elim (cases_lt e (elements p)) [
      | inl l ↦
          get_or_append_left (replicate (elements p) (of_type (type_of p))) (port_bounds ps) d e (omega (arith, l, long))
          ∙ get_or-replicate (elements p) e (of_type (type_of p)) d l
          ∙ rw (nat_lt_yes e (elements p) l) refl
      | inr m ↦
          get_or-append_right (replicate (elements p) (of_type (type_of p))) (port_bounds ps) (elements p) e d long m
          ∙ port_at_element ps (e - elements p) d (omega (arith, h, m))
          ∙ rw (nat_lt_no e (elements p) m) refl
    ]

held_in : (ps : List Port) (vs : List ℤ) → AreWithin (port_bounds ps) vs → Fills ps vs
held_in ps vs w =
    let all = ports_total ps in
    record {
      enough = within_length (port_bounds ps) vs w ∙ all;
      in_range = λ e h.
          let d = of_type (type_at ps e) in
          type_within (type_at ps e) (at vs e) (subst (λ (q : Bounds). IsWithin q (at vs e)) (port_at_element ps e d h) (within_at (port_bounds ps) vs d e w (omega (arith, h, all))));
    }

pub saved_in_range : (n : Parts) (m : Saved) → IsNet n → IsShaped n m → IsMemory n (memory_of m)
saved_in_range n m net s = record { states = states; held = held }
  where
    states : (b : ℕ) → IsBlock n b → IsState (spec_of n b) (numbered [] m.states b)
    states zero b = absurd (let l = b.least in omega arith)
    states (suc k) b =
        let h : k < length n.specs = let l = b.most in omega arith in
        states_in (spec_of n (suc k)) (numbered [] m.states (suc k)) (asks (spec_of n (suc k)) (net.typed_specs (suc k) b)) (block_at state_bounds n.specs m.states k s.states h)

    held : (b : ℕ) → IsBlock n b → Fills (spec_of n b).outs (numbered [] m.held b)
    held zero b = absurd (let l = b.least in omega arith)
    held (suc k) b =
        let h : k < length n.specs = let l = b.most in omega arith in
        held_in (spec_of n (suc k)).outs (numbered [] m.held (suc k)) (block_at held_bounds n.specs m.held k s.held h)
