-- What the table of a source tells of the source.
use Rattle.std.proofs.Common.{◌≡◌, ℕ, zero, suc, ◌+◌, ◌<◌, ◌≤◌, inr, ◌↔◌, List, [], ◌∷◌, length, get_or, map, Contains, AllPairs, All, Vec, refl, sym, ap, subst, ◌∙◌, arith}
use Rattle.std.specs.Prelude.{replicate}
use Rattle.std.specs.declared.alloc.Global.{Global}
use Rattle.std.proofs.lemmas.List.{get_or_default, get_or-map, length-map, get_or-replicate, length-replicate}
use Rattle.std.proofs.lemmas.List.Elements.{All-contains, Contains-get_or}
use Rattle.std.proofs.lemmas.List.Kept.{AllPairs-from_increasing}
use Rattle.sci_loop.specs.Depth.{ChainTo, IsDepth}
use Rattle.sci_loop.specs.Loops.{IsLoop, HasNoLoop, IsFromLeast}
use Rattle.sci_loop.specs.declared.table.DepTable.{DepTable}
use Rattle.sci_loop.specs.Table.{Needs, HasNeeds}
use Rattle.sci_loop.specs.Sorted.{IsOrder, IsSorted}
use Rattle.sci_loop.specs.declared.listing.Sorted.{Sorted}
use Rattle.sci_loop.specs.declared.listing.Sorted.TheVariants.{Loop, Order}
use Rattle.sci_net.specs.declared.Source.{Source}
use Rattle.sci_net.specs.Parts.{Parts, IsBlock, IsWired}
use Rattle.sci_net.specs.Sources.{sources_of, source_of}
use Rattle.sci_reaction.specs.Active.{Possible}
use Rattle.sci_reaction.specs.Depends.{Depends, HasDepth, IsLoopFree, Precedes}
use Rattle.sci_reaction.proofs.Alike.{loop_alike, no_loop_alike, depth_alike}
use Rattle.sci_reaction.proofs.Spreading.{Spread-block}
use Rattle.sci_dep.specs.Tables.{IsTableOf}
use Rattle.sci_base.specs.Plain.{violation_of}
use Rattle.sci_base.specs.declared.stop.Stop.{Stop}
use Rattle.sci_base.specs.declared.stop.Stop.TheVariants.{Refused, Memory}
use Rattle.sci_sched.specs.Depths.{HaveDepths, IsBefore, Outranks, AreDepthsOf}
use Rattle.sci_sched.specs.Outlines.{AreOrdered}
use Rattle.sci_sched.specs.Answer.{AreLoopFree, loop_violation, TellsLoop, IsLoopStop, IsFirstLoopStop}
use Rattle.sci_base.specs.Stops.{IsViolation}

-- blocks in the order of their depths
pub ranked_members : (t : DepTable) (depths vs : List ℕ) → HaveDepths t depths → ((b : ℕ) → Contains vs b → Contains t.members.items b) → AllPairs (IsBefore depths) vs → AllPairs (Outranks (Needs t)) vs
ranked_members t depths vs have members before i j d l h =
    let wi : i < length vs = omega (arith, l, h) in
    let a = get_or vs i d in let b = get_or vs j d in
    record {
      depth = get_or depths a 0;
      later_depth = get_or depths b 0;
      has = have a (members a (i, wi, get_or_default vs i a d wi));
      later_has = have b (members b (j, h, get_or_default vs j b d h));
      less = before i j d l h;
    }

module _ (n : Parts) (s : Source) (t : DepTable) (needs : (c b : ℕ) → Needs t c b ↔ Depends n s c b) where
  to : (c b : ℕ) → Needs t c b → Depends n s c b
  to c b h = (needs c b).0 h

  from : (c b : ℕ) → Depends n s c b → Needs t c b
  from c b h = (needs c b).1 h

  pub free_source : HasNoLoop (Needs t) → IsLoopFree n s
  free_source free = no_loop_alike (Depends n s) (Needs t) from free

  pub loop_source : (xs : List ℕ) → IsLoop (Needs t) xs → IsLoop (Depends n s) xs
  loop_source xs h = loop_alike (Needs t) (Depends n s) to xs h

  pub depth_source : (c d : ℕ) → IsDepth (Needs t) c d → HasDepth n s c d
  depth_source c d h = depth_alike (Needs t) (Depends n s) to from c d h

  pub ranked_precede : (vs : List ℕ) → AllPairs (Outranks (Needs t)) vs → AllPairs (Precedes n s) vs
  ranked_precede vs h i j d l w =
      let r = h i j d l w in
      record {
        depth = r.depth;
        later_depth = r.later_depth;
        has = depth_source (get_or vs i d) r.depth r.has;
        later_has = depth_source (get_or vs j d) r.later_depth r.later_has;
        less = r.less;
      }

loop_possible : (n : Parts) (s : Source) (xs : List ℕ) → IsLoop (Depends n s) xs → (0 < length xs) × Possible n s (get_or xs 0 0)
loop_possible n s [] h = absurd h
loop_possible n s (x ∷ []) h = (omega arith, h.1.possible)
loop_possible n s (x ∷ y ∷ ys) h = (omega arith, h.1.0.on_possible)

-- the first of a loop is a block
pub loop_block : (n : Parts) (s : Source) (xs : List ℕ) → IsLoop (Depends n s) xs → IsBlock n (get_or xs 0 0)
loop_block n s xs h = Spread-block n s _ (loop_possible n s xs h).1

-- ---- stops

pub loop_told : (n : Parts) (s : Source) (xs : List ℕ) (e : Stop) → IsLoop (Depends n s) xs → IsFromLeast xs → IsViolation (loop_violation n s xs) e → IsLoopStop n s e
loop_told n s xs (Refused r) h least told = record { found = xs; is_loop = h; from_least = least; told = told }
loop_told n s xs Memory h least told = tt

pub first_told : (n : Parts) (s : Source) (at : ℕ) (e : Stop) → at < length (sources_of n) → AreLoopFree n at → s ≡ source_of n at → IsLoopStop n s e → IsFirstLoopStop n e
first_told n s at (Refused r) within before is told = record { at = at; within = within; before = before; tells = subst (λ v. TellsLoop n v (violation_of r)) is told }
first_told n s at Memory within before is told = tt

-- ---- a table without a loop

pub below_size : (t : DepTable) (n : Parts) (s : Source) (size : ℕ) → ((b : ℕ) → Contains t.members.items b ↔ Possible n s b) → IsWired n → size ≡ length n.specs + 1 → All (λ b. b < size) t.members.items
below_size t n s size members wired is k d h =
    let b = get_or t.members.items k d in
    let inside = Spread-block n s _ ((members b).0 (k, h, get_or_default t.members.items k b d h)) in
    let most = inside.most in omega (arith, most, is)

-- what holds of members holds of those that are among them
pub members_below : (size : ℕ) (ms vs : List ℕ) → ((b : ℕ) → Contains vs b → Contains ms b) → All (λ b. b < size) ms → All (λ b. b < size) vs
members_below size ms vs members below k d h = let b = get_or vs k d in All-contains (λ x. x < size) ms b below (members b (Contains-get_or vs k d h))

-- the depths of some blocks, where each is known by number
pub depths_are : (has : ℕ → ℕ → Type 0) (depths blocks ds : List ℕ) → ((b : ℕ) → Contains blocks b → has b (get_or depths b 0)) → ds ≡ map (λ b. get_or depths b 0) blocks → AreDepthsOf has blocks ds
depths_are has depths blocks ds have is = record {
  one_each = ap length is ∙ length-map blocks (λ b. get_or depths b 0);
  each = λ k h. subst (has (get_or blocks k 0)) (sym (ap (λ xs. get_or xs k 0) is ∙ get_or-map (λ b. get_or depths b 0) blocks k 0 0 h)) (have (get_or blocks k 0) (Contains-get_or blocks k 0 h));
}

-- the blocks of a source
pub ordered_are : (n : Parts) (s : Source) (t : DepTable) (vs : List ℕ) → IsTableOf n s t → HasNoLoop (Needs t) → ((b : ℕ) → Contains vs b ↔ Contains t.members.items b) →
    AllPairs (Outranks (Needs t)) vs → AreOrdered n s vs
ordered_are n s t vs is free kept ranked =
    record {
      free = free_source n s t is.needs free;
      exactly = λ b. (λ h. (is.members b).0 ((kept b).0 h), λ h. (kept b).1 ((is.members b).1 h));
      ordered = ranked_precede n s t is.needs vs ranked;
    }

pub depths_source : (n : Parts) (s : Source) (t : DepTable) (vs ds : List ℕ) → IsTableOf n s t → AreDepthsOf (IsDepth (Needs t)) vs ds → AreDepthsOf (HasDepth n s) vs ds
depths_source n s t vs ds is are =
    record { one_each = are.one_each; each = λ k h. depth_source n s t is.needs (get_or vs k 0) (get_or ds k 0) (are.each k h) }

-- where nothing is needed there is no loop
no_loop : (needs : ℕ → ℕ → Type 0) → ((c b : ℕ) → needs c b → ⊥) → HasNoLoop needs
no_loop needs none [] h = absurd h
no_loop needs none (x ∷ []) h = none x x h.1
no_loop needs none (x ∷ y ∷ ys) h = none y x h.1.0

-- and each is alone in the longest chain that ends at it
one_deep : (needs : ℕ → ℕ → Type 0) → ((c b : ℕ) → needs c b → ⊥) → (c : ℕ) → IsDepth needs c 1
one_deep needs none c = (0, refl, tt, short)
  where
    short : (m : ℕ) → ChainTo needs m c → m ≤ 0
    short zero chain = omega arith
    short (suc m) chain = absurd (none c chain.0 chain.1)

-- the members of a table without needs stand in their order already
pub members_are : (n : Parts) (s : Source) (t : DepTable) → IsTableOf n s t → (HasNeeds t → ⊥) → AreOrdered n s t.members.items
members_are n s t is off =
    let none : (c b : ℕ) → Needs t c b → ⊥ = λ c b h. off (record { member = c; need = b; needs = h }) in
    let rise = AllPairs-from_increasing t.members.items is.well_formed.rising in
    ordered_are n s t t.members.items is (no_loop (Needs t) none) (λ b. (λ h. h, λ h. h))
    (λ i j d l h.
    record {
      depth = 1;
      later_depth = 1;
      has = one_deep (Needs t) none (get_or t.members.items i d);
      later_has = one_deep (Needs t) none (get_or t.members.items j d);
      less = inr (refl, rise i j d l h);
    })

-- and all have one depth
pub all_one_deep : (n : Parts) (s : Source) (t : DepTable) (ds : List ℕ) → IsTableOf n s t → (HasNeeds t → ⊥) → ds ≡ replicate (length t.members.items) 1 → AreDepthsOf (HasDepth n s) t.members.items ds
all_one_deep n s t ds is off ones =
    let none : (c b : ℕ) → Needs t c b → ⊥ = λ c b h. off (record { member = c; need = b; needs = h }) in
    let ms = t.members.items in
    record {
      one_each = ap length ones ∙ length-replicate (length ms) 1;
      each = λ k h.
          subst (HasDepth n s (get_or ms k 0)) (sym (ap (λ xs. get_or xs k 0) ones ∙ get_or-replicate (length ms) k 1 0 h))
          (depth_source n s t is.needs (get_or ms k 0) 1 (one_deep (Needs t) none (get_or ms k 0)));
    }

pub sorted_loop : (t : DepTable) (o : Sorted) (v : Vec ℕ Global) → o ≡ Loop v → IsSorted t o → IsLoop (Needs t) v.items × IsFromLeast v.items
sorted_loop t o v is h = subst (IsSorted t) is h

pub sorted_order : (t : DepTable) (o : Sorted) (v : Vec ℕ Global) → o ≡ Order v → IsSorted t o → HasNoLoop (Needs t) × IsOrder t v.items
sorted_order t o v is h = subst (IsSorted t) is h
