use Rattle.std.proofs.Common.{ℕ, ◌≡◌, List, Vec, length, map, sym, ap, ◌∙◌, subst, arith}
use Rattle.std.specs.declared.alloc.Global.{Global}
use Rattle.std.proofs.lemmas.List.{length-map}
use Rattle.sci_net.specs.declared.Feed.{Feed}
use Rattle.sci_net.specs.Parts.{rows_of}
use Rattle.sci_flat.specs.Lists.{plain}
use Rattle.sci_flat.specs.Origins.{shared}
use Rattle.sci_flat.specs.Sharing.{AllNumbers}
use Rattle.sci_flat.specs.Wired.{feed_at, AllFed}
use Rattle.sci_flat.proofs.Sharing.{have_lists, all_fed}
use Rattle.sci_flat.proofs.wires.feeds.Goals as goal

pub number_rows-requires : goal.number_rows-requires
number_rows-requires c = λ b p h l. let low = c.requires.inside b p h l in let long = ap length c.deref-3.ensures.value in omega (arith, low, long)

pub new-requires : goal.new-requires
new-requires c =
    let s = c.args.sharing.now in
    let P : List ℕ → Type 0 = λ os. AllNumbers os c.args.seats.now (length c.args.seats.now) (rows_of c.in_ok-numbers.numbers.items) in
    let found : length (rows_of c.in_ok-lists.lists.items) ≡ length (plain c.deref-2.result.now) = ap length c.in_ok-lists.ensures ∙ length-map (plain c.deref-2.result.now) _ in
    let same : length (plain c.deref-2.result.now) ≡ length (plain s.lists.items) = ap (λ (vs : List (Vec ℕ Global)). length (plain vs)) c.deref-2.ensures.value in
    let plain_long : length (plain s.lists.items) ≡ length s.lists.items = length-map s.lists.items _ in
    have_lists s.feeds.items (plain s.lists.items) s.origins.items c.args.seats.now (rows_of c.in_ok-numbers.numbers.items) (subst P c.deref-3.ensures.value c.in_ok-numbers.ensures) c.requires.inside
    (λ k d l. let w = c.requires.within k d l in omega (arith, w, plain_long))
    (length c.in_ok-lists.lists.items) (sym (length-map c.in_ok-lists.lists.items _) ∙ (found ∙ same))

pub returns : goal.returns
returns c =
    let s = c.args.sharing.now in
    let P : List ℕ → Type 0 = λ os. AllNumbers os c.args.seats.now (length c.args.seats.now) (rows_of c.in_ok-numbers.numbers.items) in
    let Q : List (List (List Feed)) → Type 0 = AllFed s.feeds.items (shared (plain s.lists.items) s.origins.items) c.args.seats.now (length c.args.seats.now) in
    let plain_long : length (plain s.lists.items) ≡ length s.lists.items = length-map s.lists.items _ in
    subst Q (sym c.new.ensures)
    (all_fed s.feeds.items (plain s.lists.items) s.origins.items c.args.seats.now (rows_of c.in_ok-numbers.numbers.items) (subst P c.deref-3.ensures.value c.in_ok-numbers.ensures) c.requires.inside
    (λ k d l. let w = c.requires.within k d l in omega (arith, w, plain_long))
    (rows_of c.in_ok-lists.lists.items)
    (c.in_ok-lists.ensures ∙ (ap (λ (fs : List Feed). map (map (feed_at fs)) (plain c.deref-2.result.now)) c.deref.ensures.value ∙ ap (λ (vs : List (Vec ℕ Global)). map (map (feed_at s.feeds.items)) (plain vs)) c.deref-2.ensures.value)))
