use Rattle.std.proofs.Common.{◌↔◌, ℕ, List, sym, subst}
use Rattle.std.specs.Prelude.{Contains, eqb}
use Rattle.std.proofs.lemmas.List.Filters.{dedup_is}
use Rattle.sci_reaction.specs.Depends.{Conditions}
use Rattle.sci_dep.proofs.Waited.{waits_are}
use Rattle.sci_dep.proofs.waiting.waits_of.Goals as goal

pub returns : goal.returns
returns c =
    let n = c.args.net.now in
    let b = c.args.block in
    let Are : List ℕ → Type 0 = λ l. (x : ℕ) → Contains l x ↔ Conditions n x b in
    waits_are n b c.in_ok-blocks.blocks.items c.push_sources.new.blocks.items c.sort_unstable.new.self.items c.dedup.new.self.items (subst Are (sym c.in_ok-blocks.ensures.items) c.requires.conditions)
    c.in_ok-push_sources.ensures c.sort_unstable.ensures.permutation c.sort_unstable.ensures.sorted (dedup_is eqb c.sort_unstable.new.self.items c.dedup.new.self.items c.dedup.ensures.filtered)
