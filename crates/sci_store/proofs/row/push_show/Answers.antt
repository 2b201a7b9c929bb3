use Rattle.std.proofs.Common.{◌≡◌, ◌<◌, ◌&&◌, eqb, is_none, ◌-◌, ◌∙◌, ◌++◌, List, [], ◌∷◌, length, take, sym, ap, arith}
use Rattle.std.proofs.lemmas.Bool.{eq-eqb, ne_eqb}
use Rattle.std.proofs.lemmas.List.{get_or_default}
use Rattle.sci_store.specs.declared.row.Show.{Show}
use Rattle.sci_store.specs.Rows.{then_block}
use Rattle.sci_store.proofs.Listing.{last_of, last_set}
use Rattle.sci_store.proofs.Showing.{then_none, then_joined, then_apart}
use Rattle.sci_store.proofs.row.push_show.Goals as goal

pub returns-then-show : goal.returns-then-show
returns-then-show c = sym (then_none c.args.shows.now.items c.args.show (eq-eqb c.args.show.start c.args.show.end c.if-show.true))

pub returns-then-adjoins : goal.returns-then-adjoins
returns-then-adjoins c =
    let items = c.args.shows.now.items in
    let n = c.len-count.result in
    let x : Show = c.index_mut.result.now in
    let y : Show = c.index.result.now in
    let long : c.len-count.result ≡ length c.args.shows.now.items = omega (arith, c.len-count.ensures, c.args.shows.now.ok.0) in
    let some : 0 < c.len-count.result = omega (arith, c.if-count-eq0.false) in
    let is = c.index_mut.ensures.value in
    let same : c.index.result.now ≡ c.index_mut.result.now =
    c.index.ensures ∙ (get_or_default c.args.shows.now.items (c.len-count.result - 1) c.index.result.now c.index_mut.result.now (omega (arith, long, some)) ∙ sym is) in
    let off = ne_eqb c.args.show.start c.args.show.end c.if-show.false in
    let joins = ap (λ (t : Show). eqb t.end c.args.show.start && (is_none t.asked && is_none c.args.show.asked)) (sym same) ∙ (sym c.adjoins.ensures ∙ c.if-adjoins.true) in
    last_set c.args.shows.now.items c.len-count.result c.index_mut.result.now (record x { end = c.args.show.end }) long some is
    ∙ (sym (then_joined (take (c.len-count.result - 1) c.args.shows.now.items) c.index_mut.result.now c.args.show off joins)
    ∙ ap (λ (l : List Show). then_block l c.args.show) (sym (last_of c.args.shows.now.items c.len-count.result c.index_mut.result.now long some is)))

pub returns : goal.returns
returns c =
    let long : c.len-count.result ≡ length c.args.shows.now.items = omega (arith, c.len-count.ensures, c.args.shows.now.ok.0) in
    let some : 0 < c.len-count.result = omega (arith, c.if-count-eq0.false) in
    let off = ne_eqb c.args.show.start c.args.show.end c.if-show.false in
    let apart = sym c.adjoins.ensures ∙ c.if-adjoins.false in
    let whole = last_of c.args.shows.now.items c.len-count.result c.index.result.now long some c.index.ensures in
    c.in_ok-push-2.ensures.items
    ∙ (ap (λ (l : List Show). l ++ c.args.show ∷ []) whole
    ∙ (sym (then_apart (take (c.len-count.result - 1) c.args.shows.now.items) c.index.result.now c.args.show off apart)
    ∙ ap (λ (l : List Show). then_block l c.args.show) (sym whole)))
