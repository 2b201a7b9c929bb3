-- Blocks with the numbers of their rounds.
use Rattle.std.proofs.Common.{◌≡◌, ℕ, ◌+◌, ◌<◌, ◌++◌, ◌∷◌, [], List, length, take, get_or, eqb, refl, sym, ap, subst, ◌∙◌, arith, append_assoc, Contains}
use Rattle.std.specs.Prelude.{All, map, ◌↔◌}
use Rattle.std.specs.List.{IsDistinct}
use Rattle.std.proofs.lemmas.Bool.Decides.{Decides-eqb}
use Rattle.std.proofs.lemmas.List.Elements.{All-append, All-map, Contains-get_or}
use Rattle.std.proofs.lemmas.List.{map-append, length-map, get_or-map, get_or_default, take_more}
use Rattle.std.proofs.lemmas.Map.Made.{IsDistinct-from_AllPairs}
use Rattle.sci_net.specs.declared.Source.{Source}
use Rattle.sci_net.specs.Parts.{Parts, IsBlock}
use Rattle.sci_reaction.specs.Depends.{HasDepth}
use Rattle.sci_reaction.specs.declared.entry.Entry.{Entry as Kept}
use Rattle.sci_reaction.specs.Kept.{entries_of, HaveDepths}
use Rattle.sci_reaction.specs.Schedule.{Entry, blocks_of}
use Rattle.sci_reaction.specs.Active.{Possible}
use Rattle.sci_rounds.specs.Rounds.{TellsActivation, IsBehindRounds}
use Rattle.sci_rounds.proofs.Levels.{rounds_begin}
use Rattle.sci_store.specs.Rows.{AreEntriesOf}
use Rattle.sci_judge.specs.declared.rounds.BlockRound.{BlockRound}
use Rattle.sci_judge.specs.Rounds.{ranked, AreByRounds}
use Rattle.sci_judge.proofs.Rounding.{AreInRounds, none_in_rounds, in_take}

-- the blocks of a round
abbrev pub in_round : ℕ → List ℕ → List BlockRound
in_round depth bs = map (λ (b : ℕ). let r : BlockRound = record { block = b; depth = depth } in r) bs

pub in_round-ranked : (depth : ℕ) (bs : List ℕ) → ranked (in_round depth bs) ≡ bs
in_round-ranked depth [] = refl
in_round-ranked depth (b ∷ bs) = ap (λ l. b ∷ l) (in_round-ranked depth bs)

-- a round behind others
pub ranked_grown : (done : List BlockRound) (depth : ℕ) (bs : List ℕ) → ranked (done ++ in_round depth bs) ≡ ranked done ++ bs
ranked_grown done depth bs =
    map-append (λ (r : BlockRound). r.block) done (in_round depth bs) ∙ ap (λ l. ranked done ++ l) (in_round-ranked depth bs)

pub ranked_behind : (done new : List BlockRound) (depth : ℕ) (round sorted : List ℕ) → new ≡ done ++ in_round depth round → round ≡ sorted → ranked new ≡ ranked done ++ sorted
ranked_behind done new depth round sorted is same =
    ap (λ (rs : List BlockRound). ranked rs) (is ∙ ap (λ (xs : List ℕ). done ++ in_round depth xs) same) ∙ ranked_grown done depth sorted

-- one block behind others
pub ranked_push : (done : List BlockRound) (r : BlockRound) → ranked (done ++ r ∷ []) ≡ ranked done ++ r.block ∷ []
ranked_push done r = map-append (λ (q : BlockRound). q.block) done (r ∷ [])

-- one block of a round more
pub in_round_more : (done : List BlockRound) (depth : ℕ) (bs : List ℕ) (i : ℕ) → i < length bs
    → (done ++ in_round depth (take i bs)) ++ (let r : BlockRound = record { block = get_or bs i 0; depth = depth } in r) ∷ [] ≡ done ++ in_round depth (take (i + 1) bs)
in_round_more done depth bs i l =
    let rank : ℕ → BlockRound = λ b. record { block = b; depth = depth } in
    append_assoc done (in_round depth (take i bs)) (rank (get_or bs i 0) ∷ [])
    ∙ ap (λ (rs : List BlockRound). done ++ rs) (sym (map-append rank (take i bs) (get_or bs i 0 ∷ [])) ∙ ap (λ (xs : List ℕ). in_round depth xs) (sym (take_more bs i 0 l)))

pub depths_more : (n : Parts) (s : Source) (done : List BlockRound) (depth : ℕ) (bs : List ℕ) → All (λ (r : BlockRound). HasDepth n s r.block r.depth) done
    → ((c : ℕ) → Contains bs c → HasDepth n s c depth) → All (λ (r : BlockRound). HasDepth n s r.block r.depth) (done ++ in_round depth bs)
depths_more n s done depth bs known here =
    let holds : BlockRound → Type 0 = λ (r : BlockRound). HasDepth n s r.block r.depth in
    All-append holds done (in_round depth bs) known
    (All-map holds (λ (b : ℕ). let r : BlockRound = record { block = b; depth = depth } in r) bs (λ k d l. here (get_or bs k d) (Contains-get_or bs k d l)))

-- the first rounds of a source: the blocks that have no more than this depth, in the order of the rounds, each with its depth
pub record AreRoundsTo (n : Parts) (s : Source) (depth : ℕ) (done : List BlockRound) : Type 0 where
  pub behind : IsBehindRounds n s depth (ranked done)
  pub rounds : AreInRounds n s (ranked done)
  pub depths : All (λ (r : BlockRound). HasDepth n s r.block r.depth) done

pub no_rounds : (n : Parts) (s : Source) (done : List BlockRound) → done ≡ [] → AreRoundsTo n s 0 done
no_rounds n s done none = record {
  behind = subst (λ (rs : List BlockRound). IsBehindRounds n s 0 (ranked rs)) (sym none) (rounds_begin n s);
  rounds = subst (λ (rs : List BlockRound). AreInRounds n s (ranked rs)) (sym none) (none_in_rounds n s);
  depths = subst (λ (rs : List BlockRound). All (λ (r : BlockRound). HasDepth n s r.block r.depth) rs) (sym none) (λ k d l. absurd (omega (arith, l)));
}

-- each block stands once in the order of the rounds
pub rounds_once : (n : Parts) (s : Source) (bs : List ℕ) → AreByRounds n s bs → IsDistinct eqb bs
rounds_once n s bs h =
    IsDistinct-from_AllPairs Decides-eqb bs
    (λ i j d less l same.
    (h.ready j l).fresh
    (in_take bs j i (get_or bs j 0) less l (get_or_default bs i 0 d (omega (arith, less, l)) ∙ (same ∙ get_or_default bs j d 0 l))))

-- ---- their entries

depths_kept : (es : List Kept) → map (λ (e : Entry). e.depth) (entries_of es) ≡ map (λ (e : Kept). e.depth) es
depths_kept [] = refl
depths_kept (e ∷ es) = ap (λ l. e.depth ∷ l) (depths_kept es)

module _ (n : Parts) (s : Source) (ranks : List BlockRound) (es : List Kept) (blocks : blocks_of (entries_of es) ≡ ranked ranks) where
  block_there : (k : ℕ) (d : Entry) (r : BlockRound) → k < length (entries_of es) → k < length ranks → (get_or (entries_of es) k d).block ≡ (get_or ranks k r).block
  block_there k d r l m =
      sym (get_or-map (λ (e : Entry). e.block) (entries_of es) k d 0 l)
      ∙ (ap (λ (bs : List ℕ). get_or bs k 0) blocks ∙ get_or-map (λ (q : BlockRound). q.block) ranks k r 0 m)

  same_length : length (entries_of es) ≡ length ranks
  same_length = sym (length-map (entries_of es) (λ (e : Entry). e.block)) ∙ (ap (λ (bs : List ℕ). length bs) blocks ∙ length-map ranks (λ (q : BlockRound). q.block))

  no_rank : BlockRound
  no_rank = record { block = 0; depth = 0 }

  -- each tells the depth of its block
  pub have_depths : map (λ (e : Kept). e.depth) es ≡ map (λ (r : BlockRound). r.depth) ranks → All (λ (r : BlockRound). HasDepth n s r.block r.depth) ranks → HaveDepths n s (entries_of es)
  have_depths depths known k d l =
      let m : k < length ranks = let same = same_length in omega (arith, l, same) in
      let depth : (get_or ranks k no_rank).depth ≡ (get_or (entries_of es) k d).depth =
      sym (get_or-map (λ (q : BlockRound). q.depth) ranks k no_rank 0 m)
      ∙ (ap (λ (ds : List ℕ). get_or ds k 0) (sym depths ∙ sym (depths_kept es)) ∙ get_or-map (λ (e : Entry). e.depth) (entries_of es) k d 0 l) in
      subst (λ b. HasDepth n s b (get_or (entries_of es) k d).depth) (sym (block_there k d no_rank l m))
      (subst (λ j. HasDepth n s (get_or ranks k no_rank).block j) depth (known k no_rank m))

  pub blocks_in : ((b : ℕ) → Contains (ranked ranks) b → IsBlock n b) → All (λ (e : Kept). IsBlock n e.block) es
  blocks_in are k d l =
      let long = length-map es (λ (e : Kept). e.block) in
      let kept : map (λ (e : Kept). e.block) es ≡ blocks_of (entries_of es) = blocks_kept es in
      are (get_or es k d).block
      (subst (λ (bs : List ℕ). Contains bs (get_or es k d).block) (kept ∙ blocks) (k, omega (arith, l, long), get_or-map (λ (e : Kept). e.block) es k d (get_or es k d).block l))
    where
      blocks_kept : (xs : List Kept) → map (λ (e : Kept). e.block) xs ≡ blocks_of (entries_of xs)
      blocks_kept [] = refl
      blocks_kept (x ∷ xs) = ap (λ l. x.block ∷ l) (blocks_kept xs)

-- the blocks of ranks are those of the net
pub ranks_in : (n : Parts) (ranks : List BlockRound) → ((b : ℕ) → Contains (ranked ranks) b → IsBlock n b) → All (λ (r : BlockRound). IsBlock n r.block) ranks
ranks_in n ranks are k d l =
    let long = length-map ranks (λ (r : BlockRound). r.block) in
    are (get_or ranks k d).block (k, omega (arith, l, long), get_or-map (λ (r : BlockRound). r.block) ranks k d (get_or ranks k d).block l)

-- the entries of a source, in the order of the rounds
pub entries_are : (n : Parts) (s : Source) (ranks : List BlockRound) (es : List Kept) → blocks_of (entries_of es) ≡ ranked ranks
    → map (λ (e : Kept). e.depth) es ≡ map (λ (r : BlockRound). r.depth) ranks → AreByRounds n s (ranked ranks) → All (λ (r : BlockRound). HasDepth n s r.block r.depth) ranks
    → All (TellsActivation n s) (entries_of es) → AreEntriesOf n s es
entries_are n s ranks es blocks depths rounds known tells = record {
  exactly = λ b. subst (λ (bs : List ℕ). Contains bs b ↔ Possible n s b) (sym blocks) (rounds.exactly b);
  once = subst (λ (bs : List ℕ). IsDistinct eqb bs) (sym blocks) (rounds_once n s (ranked ranks) rounds);
  depths = have_depths n s ranks es blocks depths known;
  tells = tells;
}
