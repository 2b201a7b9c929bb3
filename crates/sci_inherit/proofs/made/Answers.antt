use Rattle.std.proofs.Common.{ℕ, Bool, List, sym, subst, arith, length, Vec}
use Rattle.std.specs.declared.alloc.Global.{Global}
use Rattle.std.proofs.lemmas.List.{length-map}
use Rattle.sci_loop.specs.Lists.{plain}
use Rattle.sci_inherit.specs.declared.Fed.{Fed}
use Rattle.sci_inherit.specs.declared.gather.Senders.TheVariants.{Synchronous}
use Rattle.sci_inherit.specs.Live.{HaveSources}
use Rattle.sci_inherit.specs.Gather.{IsSender, Gathered, OfBlocks}
use Rattle.sci_inherit.proofs.Viewed.{origins_are}
use Rattle.sci_inherit.proofs.made.Goals as goal

pub returns : goal.returns
returns c =
    let n = c.args.net.now in
    let always = c.in_ok-always.always in
    let feeding = c.in_ok-feeding.feeding in
    let onward = c.in_ok-onward.onward in
    let a = length-map always.items (λ (v : Vec ℕ Global). v.items) in
    let f = length-map feeding.items (λ (v : Vec Fed Global). v.items) in
    let o = length-map onward.items (λ (v : Vec ℕ Global). v.items) in
    origins_are n c.in_ok-wanted.wanted.items (plain always.items) (plain feeding.items) (plain c.in_ok-branches.branches.items) (plain onward.items) c.well_formed-2.ensures c.in_ok-wanted.ensures c.in_ok-always.ensures.always
    c.in_ok-feeding.ensures.feeding c.in_ok-feeding.ensures.in_order (subst (λ (w : List Bool). Gathered n (OfBlocks (IsSender n w Synchronous) (length n.specs)) (plain c.in_ok-branches.branches.items)) c.in_ok-rows.ensures.wanted c.in_ok-branches.ensures.gathered) c.in_ok-onward.ensures.onward (omega (arith, a, always.ok.0, c.in_ok-always.ensures.len))
    (omega (arith, f, feeding.ok.0, c.in_ok-feeding.ensures.len)) (omega (arith, o, onward.ok.0, c.in_ok-onward.ensures.len))

pub feeding-requires-clause-wanted : goal.feeding-requires-clause-wanted
feeding-requires-clause-wanted c = subst (HaveSources c.args.net.now) (sym c.in_ok-rows.ensures.wanted) c.in_ok-wanted.ensures.sources
