-- What sources and blocks activate: from what they feed, and by a walk along heirs.
use Rattle.std.proofs.Common.{◌≡◌, ◌<◌, ◌≤◌, ◌-◌, ◌↔◌, ◌∙◌, ℕ, false, List, ◌∷◌, [], ◌++◌, inl, inr, ⊎_elim, sym, ap, subst, arith, length, get_or, map, Vec}
use Rattle.std.specs.Prelude.{Contains, nat_eq}
use Rattle.std.specs.List.{IsDistinct}
use Rattle.std.specs.declared.alloc.Global.{Global}
use Rattle.std.proofs.lemmas.Bool.{cases_eq, cases_lt}
use Rattle.std.proofs.lemmas.List.{map-append, get_or-map, get_or_default, length-map, length-append, get_or_append_left}
use Rattle.std.proofs.Math.Seq.{get_or-append_seam}
use Rattle.std.proofs.lemmas.List.Elements.{Contains-append_left, Contains-push, Contains-push_cases, Contains-get_or}
use Rattle.sci_loop.specs.Lists.{plain, list_at}
use Rattle.sci_loop.specs.Reached.{IsReached}
use Rattle.sci_forms.specs.Form.{is_sync}
use Rattle.sci_net.specs.declared.Feed.{Feed}
use Rattle.sci_net.specs.declared.Source.{Source}
use Rattle.sci_net.specs.declared.Source.TheVariants.{Start, Port}
use Rattle.sci_net.specs.Parts.{Parts, IsBlock, IsActivationOutput, spec_of}
use Rattle.sci_net.specs.Sources.{sources_of, source_of}
use Rattle.sci_net.specs.Net.{IsNet}
use Rattle.sci_reaction.specs.Links.{Feeds, IsConstant, SetOff}
use Rattle.sci_reaction.specs.Active.{Inherited, seeded, passed, Reaches, IsAlways, IsSync}
use Rattle.sci_reaction.specs.Depends.{Conditions}
use Rattle.sci_reaction.proofs.Sources.{sources_are}
use Rattle.sci_inherit.specs.declared.Fed.{Fed}
use Rattle.sci_inherit.specs.Followers.{AreHeirs, AreFedBy, FeedsSome}
use Rattle.sci_inherit.specs.Gather.{AreEach, AreSetOff, AreAlways, AreFeeding, AreConstants, IsFed, AreOnward}
use Rattle.sci_inherit.proofs.Linked.{input_inside}
use Rattle.sci_inherit.proofs.Gathering.{walked_is, reaches_output}

nothing : {X : Type 0} (x : X) → Contains [] x → ⊥
nothing x has = absurd (omega (arith, has.1))

-- ---- lists of lists, one after another

pub each_none : {X : Type 0} (is : ℕ → List X → Type 0) (ls : List (List X)) → ls ≡ [] → AreEach is ls
each_none is ls e k h = let long = ap length e in absurd (omega (arith, long, h))

pub each_pushed : {X : Type 0} (is : ℕ → List X → Type 0) (k : ℕ) (old new : List (Vec X Global)) (v : Vec X Global) → new ≡ old ++ v ∷ [] → length old ≡ k → is k v.items → AreEach is (plain old)
    → AreEach is (plain new)
each_pushed {X} is k old new v e count here before i h = ⊎_elim
    (λ l. subst (is i) (sym (ap (λ (ls : List (List X)). list_at ls i) pushed ∙ get_or_append_left (plain old) (v.items ∷ []) [] i l)) (before i l))
    (λ g. let s : i ≡ k = let m = ap length pushed ∙ length-append (plain old) (v.items ∷ []) in omega (arith, g, h, m, long, count) in
    let t : k ≡ length (plain old) = omega (arith, long, count) in
    subst (is i) (sym (ap (λ (ls : List (List X)). list_at ls i) pushed ∙ (ap (list_at (plain old ++ v.items ∷ [])) (s ∙ t) ∙ get_or-append_seam (plain old) v.items [] [])))
    (subst (λ (j : ℕ). is j v.items) (sym s) here))
    (cases_lt i (length (plain old)))
  where
    pushed : plain new ≡ plain old ++ v.items ∷ []
    pushed = ap plain e ∙ map-append (λ (w : Vec X Global). w.items) old (v ∷ [])

    long : length (plain old) ≡ length old
    long = length-map old (λ (w : Vec X Global). w.items)

-- ---- the source at a place

-- an activation output
pub output_at : (n : Parts) (k : ℕ) (q : Feed) → k < length (sources_of n) → Port q ≡ source_of n k → IsActivationOutput n q.block q.port × (is_sync (spec_of n q.block).kind ≡ false)
output_at n k q h e = (sources_are n (Port q)).0 (k, h, get_or_default (sources_of n) k (Port q) Start h ∙ sym e)

-- start feeds none
pub start_feeds : (n : Parts) → AreFeeding n Start []
start_feeds n f = ((λ has. nothing f has), λ none. absurd none)

-- ---- the blocks of activation inputs

abbrev fed : ℕ → ℕ → Fed
fed b i = record { block = b; input = i }

pub blocks_fed : (fs : List Fed) (bs : List ℕ) → bs ≡ map (λ f. f.block) fs → (b : ℕ) → Contains bs b ↔ IsFed fs b
blocks_fed fs bs is b = (
  (λ has. to (subst (λ (l : List ℕ). Contains l b) is has)),
  λ h. subst (λ (l : List ℕ). Contains l b) (sym is) (from h.input h.has),
)
  where
    to : Contains (map (λ f. f.block) fs) b → IsFed fs b
    to (k, h, e) =
        let within : k < length fs = let long = length-map fs (λ (f : Fed). f.block) in omega (arith, h, long) in
        let f = get_or fs k (fed b 0) in
        let s : f.block ≡ b = sym (get_or-map (λ (g : Fed). g.block) fs k (fed b 0) b within) ∙ e in
        record { input = f.input; has = subst (λ (c : ℕ). Contains fs (fed c f.input)) s (Contains-get_or fs k (fed b 0) within) }

    from : (i : ℕ) → Contains fs (fed b i) → Contains (map (λ f. f.block) fs) b
    from i (k, h, e) =
        (k, let long = length-map fs (λ (f : Fed). f.block) in omega (arith, h, long), get_or-map (λ (g : Fed). g.block) fs k (fed b i) b h ∙ ap (λ (g : Fed). g.block) e)

pub fed_feeds : (n : Parts) (q : Feed) (fs : List Fed) → IsNet n → AreFedBy n q fs → (b : ℕ) → IsFed fs b ↔ Feeds n q b
fed_feeds n q fs net are b = (
  (λ h. let has = (are (fed b h.input)).0 h.has in record { input = h.input; within = input_inside n b h.input q net has; fed = has }),
  λ f. record { input = f.input; has = (are (fed b f.input)).1 f.fed },
)

pub fed_blocks : (n : Parts) (q : Feed) (fs : List Fed) (bs : List ℕ) → IsNet n → AreFedBy n q fs → bs ≡ map (λ f. f.block) fs → (b : ℕ) → Contains bs b ↔ Feeds n q b
fed_blocks n q fs bs net are is b = (
  (λ has. (fed_feeds n q fs net are b).0 ((blocks_fed fs bs is b).0 has)),
  λ f. (blocks_fed fs bs is b).1 ((fed_feeds n q fs net are b).1 f),
)

-- ---- onward

some_to : (n : Parts) (c : ℕ) {b : ℕ} → Inherited n (FeedsSome n c) b → (p : ℕ) × Reaches n (record { block = c; port = p }) b
some_to n c (seeded b f) = (f.port, seeded b f.feeds)
some_to n c (passed a b d i u) = let r = some_to n c d in (r.0, passed a b r.1 i u)

some_from : (n : Parts) (c p : ℕ) {b : ℕ} → Reaches n (record { block = c; port = p }) b → Inherited n (FeedsSome n c) b
some_from n c p (seeded b f) = seeded b (record { port = p; feeds = f })
some_from n c p (passed a b d i u) = passed a b (some_from n c p d) i u

pub conditions_are : (n : Parts) (c : ℕ) → IsSync n c → (b : ℕ) → Inherited n (FeedsSome n c) b ↔ Conditions n c b
conditions_are n c sync b = (
  (λ h. let r = some_to n c h in record { sync = sync; branch = r.0; reaches = r.1 }),
  λ h. some_from n c h.branch h.reaches,
)

pub none_twice : IsDistinct nat_eq []
unfolding IsDistinct
none_twice = tt

pub onward_none : (n : Parts) (c : ℕ) (bs : List ℕ) → (IsSync n c → ⊥) → bs ≡ [] → AreOnward n c bs
onward_none n c bs other e = record {
  once = subst (IsDistinct nat_eq) (sym e) none_twice;
  exactly = λ b. ((λ has. absurd (nothing b (subst (λ (l : List ℕ). Contains l b) e has))), λ h. absurd (other h.sync));
}

pub onward_of_none : (n : Parts) (bs : List ℕ) → IsNet n → bs ≡ [] → AreOnward n 0 bs
onward_of_none n bs net e = record {
  once = subst (IsDistinct nat_eq) (sym e) none_twice;
  exactly = λ b. (
    (λ has. absurd (nothing b (subst (λ (l : List ℕ). Contains l b) e has))),
    λ h. let l = (reaches_output n (record { block = 0; port = h.branch }) net h.reaches).block.least in absurd (omega (arith, l)),
  );
}

-- ---- constants

pub constants_none : (n : Parts) → AreConstants n 0 []
constants_none n = record { exactly = λ b. ((λ h. absurd (nothing b h)), λ h. let l = h.1.block.least in let m = h.0 in absurd (omega (arith, l, m))) }

pub constants_more : (n : Parts) (b : ℕ) (old new : List ℕ) → 1 ≤ b → IsConstant n b → new ≡ old ++ b ∷ [] → AreConstants n (b - 1) old → AreConstants n b new
constants_more n b old new least here e before = record {
  exactly = λ x. (
    (λ h. elim (Contains-push_cases old b x (subst (λ (l : List ℕ). Contains l x) e h)) [
      | inl o ↦ let t = (before.exactly x).0 o in let l = t.0 in (omega (arith, l, least), t.1)
      | inr s ↦ (omega (arith, s), subst (IsConstant n) s here)
    ]),
    λ h. subst (λ (l : List ℕ). Contains l x) (sym e) (⊎_elim
        (λ s. subst (Contains (old ++ b ∷ [])) (sym s) (Contains-push old b))
        (λ d. Contains-append_left old (b ∷ []) x ((before.exactly x).1 (let l = h.0 in omega (arith, l, d, least), h.1)))
        (cases_eq x b)),
  );
}

pub constants_other : (n : Parts) (b : ℕ) (bs : List ℕ) → 1 ≤ b → (IsConstant n b → ⊥) → AreConstants n (b - 1) bs → AreConstants n b bs
constants_other n b bs least other before = record {
  exactly = λ x. (
    (λ h. let t = (before.exactly x).0 h in let l = t.0 in (omega (arith, l, least), t.1)),
    λ h. ⊎_elim
        (λ s. absurd (other (subst (IsConstant n) s h.1)))
        (λ d. (before.exactly x).1 (let l = h.0 in omega (arith, l, d, least), h.1))
        (cases_eq x b),
  );
}

-- ---- what a source activates

pub start_sets_off : (n : Parts) (bs : List ℕ) → AreConstants n (length n.specs) bs → AreSetOff n Start bs
start_sets_off n bs are b = ((λ h. ((are.exactly b).0 h).1), λ h. (are.exactly b).1 (let m = h.block.most in omega (arith, m), h))

pub port_sets_off : (n : Parts) (q : Feed) (fs : List Fed) (bs : List ℕ) → IsNet n → AreFeeding n (Port q) fs → bs ≡ map (λ f. f.block) fs → AreSetOff n (Port q) bs
port_sets_off n q fs bs net are is = fed_blocks n q fs bs net are is

pub set_off_block : (n : Parts) (s : Source) (b : ℕ) → SetOff n s b → IsBlock n b
set_off_block n Start b h = h.block
set_off_block n (Port q) b h = h.within.block

-- what a walk from what a source sets off has found
pub always_found : (n : Parts) (s : Source) (ls : List (List ℕ)) (starts found : List ℕ) → AreHeirs n ls → AreSetOff n s starts → ((b : ℕ) → Contains found b ↔ IsReached ls starts b)
    → (b : ℕ) → Contains found b ↔ IsAlways n s b
always_found n s ls starts found heirs off are b =
    let walked = walked_is n ls starts (SetOff n s) heirs off b in ((λ h. walked.0 ((are b).0 h)), λ h. (are b).1 (walked.1 h))

pub always_once : (n : Parts) (s : Source) (found bs : List ℕ) → ((b : ℕ) → Contains found b ↔ IsAlways n s b) → IsDistinct nat_eq found → bs ≡ found → AreAlways n s bs
always_once n s found bs are once is = subst (AreAlways n s) (sym is) (record { once = once; exactly = are })

-- what a walk from all that a synchronous block feeds has found
pub onward_found : (n : Parts) (c : ℕ) (ls : List (List ℕ)) (starts found bs : List ℕ) → IsSync n c → AreHeirs n ls → ((b : ℕ) → Contains starts b ↔ FeedsSome n c b)
    → ((b : ℕ) → Contains found b ↔ IsReached ls starts b) → IsDistinct nat_eq found → bs ≡ found → AreOnward n c bs
onward_found n c ls starts found bs sync heirs seeds are once is = subst (AreOnward n c) (sym is) (record {
  once = once;
  exactly = λ b.
      let walked = walked_is n ls starts (FeedsSome n c) heirs seeds b in
      let told = conditions_are n c sync b in
      ((λ h. told.0 (walked.0 ((are b).0 h))), λ h. (are b).1 (walked.1 (told.1 h)));
})
