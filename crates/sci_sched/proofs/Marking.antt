-- What is marked of a source, mask by mask.
use Rattle.std.proofs.Common.{◌≡◌, ℕ, zero, suc, ◌+◌, ◌^◌, ◌<◌, ◌≤◌, inl, inr, ⊎_elim, ◌↔◌, List, [], ◌∷◌, ◌++◌, length, get_or, set, take, slice_index_or, Contains, All, sym, ap, subst, ◌∙◌, arith}
use Rattle.std.specs.Prelude.{bit_or, ⊤}
use Rattle.std.specs.Int.{bit_at}
use Rattle.std.proofs.lemmas.Bool.{cases_eq}
use Rattle.std.proofs.lemmas.Nat.Bits.{bit_at-pow_same, bit_at-pow_other}
use Rattle.std.proofs.lemmas.List.{get_or_default, get_or-set_same, get_or-set_other, take_more}
use Rattle.std.proofs.lemmas.List.Elements.{Contains-append_left, Contains-push, Contains-push_cases}
use Rattle.sci_loop.specs.Lists.{list_at}
use Rattle.sci_net.specs.declared.Feed.{Feed}
use Rattle.sci_net.specs.declared.Source.{Source}
use Rattle.sci_net.specs.declared.Source.TheVariants.{Start, Port}
use Rattle.sci_net.specs.Parts.{Parts, IsBlock, IsActivationInput, numbered, spec_of, feeds_of}
use Rattle.sci_net.specs.Net.{IsNet}
use Rattle.sci_net.specs.Sources.{sources_of, source_of}
use Rattle.sci_reaction.specs.Links.{SourceFeeds}
use Rattle.sci_reaction.specs.Active.{Possible, IsAlways}
use Rattle.sci_reaction.specs.Depends.{Conditions}
use Rattle.sci_reaction.specs.Equations.{HasBits}
use Rattle.sci_reaction.proofs.Bits.{bit_or-at}
use Rattle.sci_reaction.proofs.Rows.{feeds_within}
use Rattle.sci_reaction.proofs.Spreading.{Spread-block, from_always, from_guard}
use Rattle.sci_inherit.specs.declared.Fed.{Fed}
use Rattle.sci_inherit.specs.Origins.{Origins, AreOrigins}
use Rattle.sci_sched.specs.Marks.{IsFitting, HaveFed}
use Rattle.sci_sched.proofs.Ports.{evtin_few}

-- ---- setting bits

fed_parts : (f : Fed) (b p : ℕ) → f.block ≡ b → f.input ≡ p → f ≡ record { block = b; input = p }
fed_parts f b p same at = ap (λ (v : ℕ). record f { block = v }) same ∙ ap (λ (v : ℕ). record { block = b; input = v }) at

fed_push : (fs : List Fed) (masks : List ℕ) (f : Fed) (k : ℕ) → f.block < length masks → f.input ≡ k + 1 → HaveFed fs masks →
    HaveFed (fs ++ f ∷ []) (set masks f.block (bit_or (get_or masks f.block 0) (2 ^ k)))
fed_push fs masks f k inside input is =
    let old = get_or masks f.block 0 in
    let made = set masks f.block (bit_or old (2 ^ k)) in
    let here : get_or made f.block 0 ≡ bit_or old (2 ^ k) = get_or-set_same masks f.block (bit_or old (2 ^ k)) 0 inside in
    record {
      exactly = λ b p. (
        λ h. ⊎_elim
            (λ same.
            let at : bit_at (bit_or old (2 ^ k)) p ≡ 1 = subst (λ m. bit_at m p ≡ 1) (ap (λ c. get_or made c 0) same ∙ here) h in
            ⊎_elim
            (λ was. Contains-append_left fs (f ∷ []) _ ((is.exactly b p).0 (subst (λ c. bit_at (get_or masks c 0) p ≡ 1) (sym same) was)))
            (λ new. ⊎_elim
            (λ level. subst (Contains (fs ++ f ∷ [])) (fed_parts f b (p + 1) (sym same) (input ∙ ap (λ m. m + 1) (sym level))) (Contains-push fs f))
            (λ other. absurd (let z = bit_at-pow_other k p other in omega (arith, z, new)))
            (cases_eq p k))
            ((bit_or-at old (2 ^ k) p).0 at))
            (λ other. Contains-append_left fs (f ∷ []) _ ((is.exactly b p).0 (subst (λ m. bit_at m p ≡ 1) (get_or-set_other masks f.block b (bit_or old (2 ^ k)) 0 other) h)))
            (cases_eq b f.block),
        λ has. ⊎_elim
            (λ was.
            let bit = (is.exactly b p).1 was in
            ⊎_elim
            (λ same. subst (λ m. bit_at m p ≡ 1) (sym (ap (λ c. get_or made c 0) same ∙ here)) ((bit_or-at old (2 ^ k) p).1 (inl (subst (λ c. bit_at (get_or masks c 0) p ≡ 1) same bit))))
            (λ other. subst (λ m. bit_at m p ≡ 1) (sym (get_or-set_other masks f.block b (bit_or old (2 ^ k)) 0 other)) bit)
            (cases_eq b f.block))
            (λ new.
            let same : f.block ≡ b = ap (λ (g : Fed). g.block) new in
            let level : f.input ≡ p + 1 = ap (λ (g : Fed). g.input) new in
            let at : k ≡ p = omega (arith, level, input) in
            subst (λ c. bit_at (get_or made c 0) p ≡ 1) same
            (subst (λ m. bit_at m p ≡ 1) (sym here) ((bit_or-at old (2 ^ k) p).1 (inr (subst (λ i. bit_at (2 ^ k) i ≡ 1) at (bit_at-pow_same k))))))
            (Contains-push_cases fs f _ has),
      );
    }

pub fed_more : (fs : List Fed) (masks : List ℕ) (i : ℕ) (d : Fed) (k : ℕ) → i < length fs → (get_or fs i d).block < length masks → (get_or fs i d).input ≡ k + 1 → HaveFed (take i fs) masks →
    HaveFed (take (i + 1) fs) (set masks (get_or fs i d).block (bit_or (get_or masks (get_or fs i d).block 0) (2 ^ k)))
fed_more fs masks i d k h inside input is =
    subst (λ xs. HaveFed xs (set masks (get_or fs i d).block (bit_or (get_or masks (get_or fs i d).block 0) (2 ^ k)))) (sym (take_more fs i d h))
    (fed_push (take i fs) masks (get_or fs i d) k inside input is)

-- ---- what a source feeds

fed_block : (n : Parts) → IsNet n → (b p : ℕ) (q : Feed) → Contains (feeds_of n b p) q → IsBlock n b
fed_block n net b p q has = let e = net.wired.one_feed_row_each in let at = numbered_there n.feeds b p has in record { least = at.0; most = let l = at.1 in omega (arith, l, e) }
  where
    inside : (ls : List (List (List Feed))) (k p : ℕ) → Contains (numbered [] (slice_index_or ls k []) p) q → k < length ls
    inside [] k zero h = absurd (omega (arith, h.1))
    inside [] k (suc p) h = absurd (omega (arith, h.1))
    inside (l ∷ ls) zero p h = omega arith
    inside (l ∷ ls) (suc k) p h = let m = inside ls k p h in omega (arith, m)

    numbered_there : (ls : List (List (List Feed))) (b p : ℕ) → Contains (numbered [] (numbered [] ls b) p) q → (1 ≤ b) × (b ≤ length ls)
    numbered_there ls zero zero h = absurd (omega (arith, h.1))
    numbered_there ls zero (suc p) h = absurd (omega (arith, h.1))
    numbered_there ls (suc b) p h = let l = inside ls b p h in (omega arith, omega (arith, l))

source_input : (n : Parts) → IsNet n → (s : Source) (b p : ℕ) → SourceFeeds n s b p → IsActivationInput n b p
source_input n net Start b p h = absurd h
source_input n net (Port q) b p h = feeds_within n net.wired b p q (fed_block n net b p q h) h

module _ (n : Parts) (net : IsNet n) (r : Origins) (origins : AreOrigins n r) (at : ℕ) (h : at < length (sources_of n)) where
  -- the inputs that a source feeds have bits
  pub feeding_fit : (count : ℕ) → count ≡ length n.specs + 1 → All (IsFitting count) (list_at r.feeding at)
  feeding_fit count long k d l =
      let f = get_or (list_at r.feeding at) k d in
      let input = source_input n net (source_of n at) f.block f.input ((origins.feeding_are at f h).0 (k, l, get_or_default (list_at r.feeding at) k f d l)) in
      let few = evtin_few (spec_of n f.block) (net.typed_specs f.block input.block) in
      let last = input.block.most in let most = input.most in
      record { block = omega (arith, last, long); least = input.least; most = omega (arith, few, most) }

  pub fed_bits : (masks : List ℕ) → HaveFed (list_at r.feeding at) masks → (b : ℕ) → HasBits (get_or masks b 0) (SourceFeeds n (source_of n at) b)
  fed_bits masks is b p = (
    λ on. (origins.feeding_are at (record { block = b; input = p + 1 }) h).0 ((is.exactly b p).0 on),
    λ fed. (is.exactly b p).1 ((origins.feeding_are at (record { block = b; input = p + 1 }) h).1 fed),
  )

  pub bits_fed : (masks : List ℕ) → ((b : ℕ) → HasBits (get_or masks b 0) (SourceFeeds n (source_of n at) b)) → HaveFed (list_at r.feeding at) masks
  bits_fed masks is =
      record {
        exactly = λ b p. (
          λ on. (origins.feeding_are at (record { block = b; input = p + 1 }) h).1 ((is b p).0 on),
          λ has. (is b p).1 ((origins.feeding_are at (record { block = b; input = p + 1 }) h).0 has),
        );
      }

  -- what it activates is within
  pub always_below : (count : ℕ) → count ≡ length n.specs + 1 → All (λ b. b < count) (list_at r.always at)
  always_below count long k d l =
      let b = get_or (list_at r.always at) k d in
      let always : IsAlways n (source_of n at) b = (origins.always_are at b h).0 (k, l, get_or_default (list_at r.always at) k b d l) in
      let inside = Spread-block n (source_of n at) (λ c p. ⊤) (from_always n (source_of n at) (λ c p. ⊤) always) in
      let most = inside.most in
      omega (arith, most, long)

-- possible blocks are within
pub possible_blocks : (n : Parts) (s : Source) (bs : List ℕ) → ((b : ℕ) → Contains bs b ↔ Possible n s b) → All (IsBlock n) bs
possible_blocks n s bs are k d l = let b = get_or bs k d in Spread-block n s _ ((are b).0 (k, l, get_or_default bs k b d l))

pub possible_below : (n : Parts) (s : Source) (bs : List ℕ) (count : ℕ) → ((b : ℕ) → Contains bs b ↔ Possible n s b) → count ≡ length n.specs + 1 → All (λ b. b < count) bs
possible_below n s bs count are long k d l = let inside = possible_blocks n s bs are k d l in let most = inside.most in omega (arith, most, long)

-- what a branch of a possible block reaches is possible
pub reached_possible : (n : Parts) (s : Source) (c b : ℕ) → Possible n s c → Conditions n c b → Possible n s b
reached_possible n s c b p k = from_guard n s (λ d q. ⊤) c k.branch p k.sync tt k.reaches
