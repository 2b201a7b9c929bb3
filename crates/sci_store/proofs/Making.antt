-- A row, made of what was found of its entries.
use Rattle.std.proofs.Common.{◌≡◌, ℕ, ◌<◌, Bool, true, ⊎_elim, List, [], ◌∷◌, length, get_or, map, All, Contains, refl, sym, ap, subst, arith}
use Rattle.std.specs.List.{filter}
use Rattle.std.specs.List.Sorted.{IsPermutation}
use Rattle.std.proofs.lemmas.List.{length-map, get_or-map}
use Rattle.std.proofs.lemmas.List.Elements.{All-filter, All-head, All-tail}
use Rattle.sci_reaction.proofs.Lists.{Contains-cons}
use Rattle.sci_store.specs.Blocks.{AreBlocksByNumber}
use Rattle.sci_store.specs.declared.row.Member.{Member}
use Rattle.std.proofs.lemmas.List.Sorted.{All-permutation, length_permutation}
use Rattle.sci_net.specs.Parts.{IsBlock}
use Rattle.sci_forms.specs.Form.{remembers, has_delay, is_halt}
use Rattle.sci_reaction.specs.declared.entry.Entry.{Entry}
use Rattle.sci_reaction.specs.Schedule.{blocks_of}
use Rattle.sci_reaction.specs.Kept.{entries_of}
use Rattle.sci_bank.specs.declared.runs.Call.{Call}
use Rattle.sci_store.specs.declared.row.CallRank.{CallRank}
use Rattle.sci_store.specs.declared.row.Run.{Run}
use Rattle.sci_store.specs.Chosen.{of_kinds}
use Rattle.sci_store.specs.Frame.{Fixed, seat_of}
use Rattle.sci_store.specs.Rows.{ReadyRow, is_guarded, guarded_blocks, call_of, IsRun, Join, AreRunsOf, AreByNumber, shows_from, IsRowFor}
use Rattle.sci_store.specs.Ranks.{AreRanksOf, AreAt, AreRanked}

all_meant : (es : List Entry) → filter (λ (e : Entry). true) es ≡ es
all_meant [] = refl
all_meant (e ∷ es) = ap (λ (l : List Entry). e ∷ l) (all_meant es)

blocks_by : (f : Fixed) (depth : Entry → ℕ) (ranks : List CallRank) (sorted : List Entry) → AreRanksOf f depth sorted ranks → All (λ (e : Entry). IsBlock f.net e.block) sorted
    → All (λ (r : CallRank). IsBlock f.net r.block) ranks
blocks_by f depth ranks [] h all k d l = absurd (let none = h.one_each in omega (arith, none, l))
blocks_by f depth ranks (e ∷ sorted) h all k d l =
    let each = h.one_each in
    subst (IsBlock f.net) (sym (h.ranks_are k e d (omega (arith, l, each))).block_is) (all k e (omega (arith, l, each)))

pub ranked_blocks : (f : Fixed) (is : Entry → Bool) (depth : Entry → ℕ) (es : List Entry) (ranks : List CallRank) → AreRanked f is depth es ranks
    → All (λ (e : Entry). IsBlock f.net e.block) es → All (λ (r : CallRank). IsBlock f.net r.block) ranks
ranked_blocks f is depth es ranks ranked h = blocks_by f depth ranks ranked.sorted ranked.ranks_of
    (All-permutation (λ (e : Entry). IsBlock f.net e.block) (filter is es) ranked.sorted ranked.same (All-filter is (λ (e : Entry). IsBlock f.net e.block) es h))

pub ranked_places : (f : Fixed) (is : Entry → Bool) (depth : Entry → ℕ) (es : List Entry) (ranks : List CallRank) → AreRanked f is depth es ranks
    → All (λ (r : CallRank). r.at < length es) ranks
ranked_places f is depth [] ranks ranked k d l =
    let none = length_permutation [] ranked.sorted ranked.same in
    let each = ranked.ranks_of.one_each in
    absurd (omega (arith, none, each, l))
ranked_places f is depth (e ∷ es) ranks ranked k d l = (ranked.at_places k e d l).0

-- the runs and the calls of what is ranked
pub runs_made : (f : Fixed) (is : Entry → Bool) (depth : Entry → ℕ) (es some : List Entry) (ranks : List CallRank) (runs : List Run) (calls : List Call)
    → (ranked : AreRanked f is depth es ranks) → filter is es ≡ some
    → ((depth : Entry → ℕ) (sorted : List Entry) → AreRanksOf f depth sorted ranks → All (IsRun f depth sorted) runs) → Join 0 (length ranks) runs
    → ((depth : Entry → ℕ) (sorted : List Entry) → AreRanksOf f depth sorted ranks → AreAt es ranks sorted → calls ≡ map (call_of f) sorted) → AreRunsOf f depth some runs calls
runs_made f is depth es some ranks runs calls ranked all runs_are joined calls_are = record {
  sorted = ranked.sorted;
  same = subst (λ (l : List Entry). IsPermutation l ranked.sorted) all ranked.same;
  ordered = ranked.ordered;
  calls_are = calls_are depth ranked.sorted ranked.ranks_of ranked.at_places;
  runs_are = runs_are depth ranked.sorted ranked.ranks_of;
  joined = subst (λ (n : ℕ). Join 0 n runs) ranked.ranks_of.one_each joined;
}

-- ---- told of the same lists by other names

pub runs_by : (f : Fixed) (runs : List Run) (order other : List CallRank) → other ≡ order
    → ((depth : Entry → ℕ) (es : List Entry) → AreRanksOf f depth es other → All (IsRun f depth es) runs)
    → (depth : Entry → ℕ) (es : List Entry) → AreRanksOf f depth es order → All (IsRun f depth es) runs
runs_by f runs order other e h depth es ranks = h depth es (subst (AreRanksOf f depth es) (sym e) ranks)

pub calls_by : (f : Fixed) (es xs : List Entry) (order other : List CallRank) (calls : List Call) → xs ≡ es → other ≡ order
    → ((depth : Entry → ℕ) (sorted : List Entry) → AreRanksOf f depth sorted other → AreAt xs other sorted → calls ≡ map (call_of f) sorted)
    → (depth : Entry → ℕ) (sorted : List Entry) → AreRanksOf f depth sorted order → AreAt es order sorted → calls ≡ map (call_of f) sorted
calls_by f es xs order other calls e o h depth sorted ranks at =
    h depth sorted (subst (AreRanksOf f depth sorted) (sym o) ranks)
    (subst (λ (rs : List CallRank). AreAt xs rs sorted) (sym o) (subst (λ (l : List Entry). AreAt l order sorted) (sym e) at))

pub guarded_by : (es xs : List Entry) (order other : List CallRank) (kept : List Entry) → xs ≡ es → other ≡ order
    → ((g : Fixed) (depth : Entry → ℕ) (sorted : List Entry) → AreRanksOf g depth sorted other → AreAt xs other sorted → entries_of kept ≡ entries_of (filter is_guarded sorted))
    → (g : Fixed) (depth : Entry → ℕ) (sorted : List Entry) → AreRanksOf g depth sorted order → AreAt es order sorted → entries_of kept ≡ entries_of (filter is_guarded sorted)
guarded_by es xs order other kept e o h g depth sorted ranks at =
    h g depth sorted (subst (AreRanksOf g depth sorted) (sym o) ranks)
    (subst (λ (rs : List CallRank). AreAt xs rs sorted) (sym o) (subst (λ (l : List Entry). AreAt l order sorted) (sym e) at))

-- the blocks of a row's members
pub members_in : (f : Fixed) (es : List Entry) (ms : List Member) → All (λ (e : Entry). IsBlock f.net e.block) es
    → AreByNumber (blocks_of (entries_of es)) (map (λ (m : Member). m.block) ms) → AreBlocksByNumber f.net (map (λ (m : Member). m.block) ms)
members_in f es ms all by = record { rising = by.rising; blocks = λ b has. in_net es all b ((by.same b).0 has) }
  where
    in_net : (xs : List Entry) → All (λ (e : Entry). IsBlock f.net e.block) xs → (b : ℕ) → Contains (blocks_of (entries_of xs)) b → IsBlock f.net b
    in_net [] h b has = absurd (omega (arith, has.1))
    in_net (x ∷ xs) h b has = ⊎_elim
        (λ here. subst (IsBlock f.net) here (All-head (λ (e : Entry). IsBlock f.net e.block) x xs h))
        (λ there. in_net xs (All-tail (λ (e : Entry). IsBlock f.net e.block) x xs h) b there)
        (Contains-cons x.block (blocks_of (entries_of xs)) b has)

pub every_member : (f : Fixed) (ms : List Member) → AreBlocksByNumber f.net (map (λ (m : Member). m.block) ms) → All (λ (m : Member). IsBlock f.net m.block) ms
every_member f ms h k d l =
    let long = length-map ms (λ (m : Member). m.block) in
    h.blocks (get_or ms k d).block (k, omega (arith, l, long), get_or-map (λ (m : Member). m.block) ms k d (get_or ms k d).block l)

-- all of it
pub row_made : (f : Fixed) (es : List Entry) (r : ReadyRow) (order steps : List CallRank)
    → (ranked : AreRanked f (λ e. true) (λ e. e.depth) es order) → (stepped : AreRanked f (λ e. remembers (seat_of f e.block).kind) (λ e. 0) es steps)
    → ((depth : Entry → ℕ) (sorted : List Entry) → AreRanksOf f depth sorted order → All (IsRun f depth sorted) r.runs) → Join 0 (length order) r.runs
    → ((depth : Entry → ℕ) (sorted : List Entry) → AreRanksOf f depth sorted order → AreAt es order sorted → r.calls ≡ map (call_of f) sorted)
    → ((depth : Entry → ℕ) (sorted : List Entry) → AreRanksOf f depth sorted steps → All (IsRun f depth sorted) r.state_runs) → Join 0 (length steps) r.state_runs
    → ((depth : Entry → ℕ) (sorted : List Entry) → AreRanksOf f depth sorted steps → AreAt es steps sorted → r.state_calls ≡ map (call_of f) sorted)
    → ((g : Fixed) (depth : Entry → ℕ) (sorted : List Entry) → AreRanksOf g depth sorted order → AreAt es order sorted → entries_of r.guarded ≡ entries_of (filter is_guarded sorted))
    → AreByNumber (blocks_of (entries_of es)) r.blocks → r.shows ≡ shows_from f (guarded_blocks es) [] r.blocks → r.delays ≡ of_kinds f.net has_delay r.blocks
    → r.halts ≡ of_kinds f.net is_halt r.blocks → IsRowFor f es r
unfolding runs_made
row_made f es r order steps ranked stepped runs joined calls state_runs state_joined state_calls guarded blocks shows delays halts = record {
  values = runs_made f (λ e. true) (λ e. e.depth) es es order r.runs r.calls ranked (all_meant es) runs joined calls;
  guarded_are = guarded f (λ e. e.depth) ranked.sorted ranked.ranks_of ranked.at_places;
  states = runs_made f (λ e. remembers (seat_of f e.block).kind) (λ e. 0) es (filter (λ e. remembers (seat_of f e.block).kind) es) steps r.state_runs r.state_calls stepped refl
      state_runs state_joined state_calls;
  blocks_are = blocks;
  shows_are = shows;
  delays_are = delays;
  halts_are = halts;
}
