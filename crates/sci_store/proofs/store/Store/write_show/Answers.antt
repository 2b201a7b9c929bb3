use Rattle.std.proofs.Common.{ℕ, ℤ, List, length, ap, sym, ◌∙◌, arith}
use Rattle.sci_store.specs.Store.{Standing}
use Rattle.sci_store.proofs.LineStarts.{heads_length}
use Rattle.sci_store.proofs.Observing.{between_length}
use Rattle.sci_store.proofs.store.Store.write_show.Goals as goal

pub put_all-requires : goal.put_all-requires
put_all-requires g c =
    let f = c.args.frame.now in
    let w = c.args.show.now in
    let names = heads_length c.args.frame.now.net in
    let heads = ap (λ (hs : List (List ℕ)). length hs) c.well_formed-2.ensures.heads in
    let whole = c.requires.store.values in
    let values = ap (λ (vs : List ℤ). length vs) (c.deref.ensures.value ∙ ap (λ (s : Standing). s.values) c.self.view_is) in
    ap (λ (hs : List (List ℕ)). length hs) c.heads.ensures
    ∙ (between_length c.args.frame.now.heads c.args.show.now.start c.args.show.now.end c.requires.show.order (omega (arith, names, heads, whole, c.requires.show.within))
    ∙ sym (between_length c.deref.result.now c.args.show.now.start c.args.show.now.end c.requires.show.order (omega (arith, values, c.requires.show.within))))
