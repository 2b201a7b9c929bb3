use Rattle.std.proofs.Common.{◌≡◌, ℕ, ◌∙◌, ◌+◌, ◌++◌, ◌∷◌, [], List, All, map, take, get_or, ap, sym, subst}
use Rattle.std.proofs.lemmas.List.{map-append, take_more}
use Rattle.std.proofs.lemmas.List.Elements.{All-push}
use Rattle.sci_net.specs.Sources.{source_of}
use Rattle.sci_reaction.specs.declared.entry.Entry.{Entry as Kept}
use Rattle.sci_reaction.specs.Schedule.{Entry, blocks_of}
use Rattle.sci_rounds.specs.Rounds.{TellsActivation}
use Rattle.sci_reaction.specs.Kept.{entry_of, entries_of}
use Rattle.sci_judge.specs.declared.rounds.BlockRound.{BlockRound}
use Rattle.sci_judge.specs.Rounds.{ranked}
use Rattle.sci_judge.proofs.rows.entries.Goals as goal

no_rank : BlockRound
no_rank = record { block = 0; depth = 0 }

pub loop-rank-preserved : goal.loop-rank-preserved
unfolding no_rank
loop-rank-preserved c =
    let ranks = c.args.ranks.now in
    let i = c.loop-rank.rank-index in
    let kept = c.loop-rank.entries.items in
    let old = entries_of kept in
    let made : Kept = c.in_ok-entry_for.field-0 in
    let e = entry_of made in
    let r = get_or ranks i no_rank in
    let more : take (i + 1) ranks ≡ take i ranks ++ r ∷ [] = take_more ranks i no_rank c.loop-rank-test.true in
    let grown : entries_of c.push.new.self.items ≡ old ++ e ∷ [] = ap entries_of c.in_ok-push.ensures.items ∙ map-append entry_of kept _ in
    record {
      blocks = ap blocks_of grown
          ∙ (map-append (λ (x : Entry). x.block) old (e ∷ [])
          ∙ (ap (λ bs. bs ++ e.block ∷ []) c.loop-rank.invariant.blocks
          ∙ (ap (λ b. ranked (take i ranks) ++ b ∷ []) c.in_ok-entry_for.ensures.block
          ∙ (sym (map-append (λ (q : BlockRound). q.block) (take i ranks) (r ∷ [])) ∙ ap (λ (rs : List BlockRound). ranked rs) (sym more)))));
      depths = ap (λ (es : List Kept). map (λ (x : Kept). x.depth) es) c.in_ok-push.ensures.items
          ∙ (map-append (λ (x : Kept). x.depth) kept (made ∷ [])
          ∙ (ap (λ (ds : List ℕ). ds ++ made.depth ∷ []) c.loop-rank.invariant.depths
          ∙ (ap (λ d. map (λ (q : BlockRound). q.depth) (take i ranks) ++ d ∷ []) c.in_ok-entry_for.ensures.depth
          ∙ (sym (map-append (λ (q : BlockRound). q.depth) (take i ranks) (r ∷ [])) ∙ ap (λ (rs : List BlockRound). map (λ (q : BlockRound). q.depth) rs) (sym more)))));
      tells = subst (All (TellsActivation c.args.net.now (source_of c.args.net.now c.args.source))) (sym grown)
          (All-push (TellsActivation c.args.net.now (source_of c.args.net.now c.args.source)) old e c.loop-rank.invariant.tells c.in_ok-entry_for.ensures.tells);
    }
