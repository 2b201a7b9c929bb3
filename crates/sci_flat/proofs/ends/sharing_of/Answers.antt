use Rattle.std.proofs.Common.{◌≡◌, ◌∙◌, ℕ, ◌<◌, List, length, map, get_or, ap, sym, subst, arith}
use Rattle.std.specs.Prelude.{All}
use Rattle.std.proofs.lemmas.List.{length-map}
use Rattle.sci_blocks.specs.declared.class.PortClass.TheVariants.{ActivationInput, ActivationOutput}
use Rattle.sci_flat.specs.Lists.{lists_of}
use Rattle.sci_flat.specs.Origins.{AreOrigins}
use Rattle.sci_flat.proofs.Reaching.{numbers_within, marks_at}
use Rattle.sci_flat.proofs.Origins.{origins_below}
use Rattle.sci_flat.proofs.Sharing.{ends_within, shared_feeding, under_all}
use Rattle.sci_flat.proofs.ends.sharing_of.Goals as goal

pub find_origins-requires-clause-sources : goal.find_origins-requires-clause-sources
find_origins-requires-clause-sources c =
    let P : List ℕ → Type 0 = All (λ n. n < c.args.ports) in
    subst P (sym (c.deref.ensures.value ∙ c.in_ok-sources.ensures.numbers)) (numbers_within c.args.ports ActivationOutput c.args.seats.now c.requires.inside)

pub find_origins-requires-clause-targets : goal.find_origins-requires-clause-targets
find_origins-requires-clause-targets c =
    let P : List ℕ → Type 0 = All (λ n. n < c.args.ports) in
    subst P (sym (c.deref-2.ensures.value ∙ c.in_ok-targets.ensures.numbers)) (numbers_within c.args.ports ActivationInput c.args.seats.now c.requires.inside)

pub origins_of-requires : goal.origins_of-requires
origins_of-requires c =
    let P : List ℕ → Type 0 = All (λ n. n < c.args.ports) in
    let low = subst P (sym (c.deref-4.ensures.value ∙ c.in_ok-targets.ensures.numbers)) (numbers_within c.args.ports ActivationInput c.args.seats.now c.requires.inside) in
    let long : length c.deref-3.result.now ≡ c.args.ports = ap length c.deref-3.ensures.value ∙ c.in_ok-origins.ensures.long in
    λ k d l. let one = low k d l in omega (arith, one, long)

pub marked-requires : goal.marked-requires
marked-requires c =
    let P : List ℕ → Type 0 = All (λ n. n < c.args.ports) in
    let low = subst P (sym (c.deref-4.ensures.value ∙ c.in_ok-targets.ensures.numbers)) (numbers_within c.args.ports ActivationInput c.args.seats.now c.requires.inside) in
    ends_within c.args.ports c.in_ok-origins.origins.items c.deref-4.result.now c.deref-5.result.now low c.in_ok-origins.ensures.within
    (c.deref-5.ensures.value ∙ (c.in_ok-ends.ensures ∙ ap (λ (os : List ℕ). map (λ (q : ℕ). get_or os q 0) c.deref-4.result.now) c.deref-3.ensures.value))

pub reached-requires-clause-sources : goal.reached-requires-clause-sources
reached-requires-clause-sources c =
    let P : List ℕ → Type 0 = All (λ n. n < c.args.ports) in
    let low = subst P (sym (c.deref-6.ensures.value ∙ c.in_ok-sources.ensures.numbers)) (numbers_within c.args.ports ActivationOutput c.args.seats.now c.requires.inside) in
    let long : length c.deref-7.result.now ≡ c.args.ports = ap length c.deref-7.ensures.value ∙ c.in_ok-wanted.ensures.long in
    λ k d l. let one = low k d l in omega (arith, one, long)

pub returns : goal.returns
returns c =
    let es = c.args.steps.now in
    let os = c.in_ok-origins.origins.items in
    let P : List ℕ → Type 0 = λ xs. AreOrigins es xs c.args.ports os in
    let origins = subst P (c.deref.ensures.value ∙ sym c.deref-6.ensures.value) c.in_ok-origins.ensures in
    let ends : c.deref-5.result.now ≡ map (λ (q : ℕ). get_or os q 0) c.deref-4.result.now =
    c.deref-5.ensures.value ∙ (c.in_ok-ends.ensures ∙ ap (λ (xs : List ℕ). map (λ (q : ℕ). get_or xs q 0) c.deref-4.result.now) c.deref-3.ensures.value) in
    let wanted : length c.deref-7.result.now ≡ c.args.ports = ap length c.deref-7.ensures.value ∙ c.in_ok-wanted.ensures.long in
    let lists : length c.in_ok-lists.lists.items ≡ length (lists_of c.in_ok-lists.lists) = sym (length-map c.in_ok-lists.lists.items _) in
    record {
      fed = shared_feeding c.args.seats.now es c.args.ports c.in_ok-sources.sources.feeds.items (lists_of c.in_ok-lists.lists) os c.deref-6.result.now c.deref-7.result.now c.deref-4.result.now c.deref-5.result.now c.in_ok-sources.ensures.feeds
          (c.deref-6.ensures.value ∙ c.in_ok-sources.ensures.numbers) (c.deref-4.ensures.value ∙ c.in_ok-targets.ensures.numbers) (numbers_within c.args.ports ActivationInput c.args.seats.now c.requires.inside) ends
          (λ q has. marks_at _ _ q c.deref-7.ensures.value (c.in_ok-wanted.ensures.marks q has)) origins c.in_ok-lists.ensures;
      long = c.in_ok-origins.ensures.long;
      within = λ k d l.
          let below = origins_below es c.deref-6.result.now c.args.ports os origins k d l in
          omega (arith, below, c.in_ok-origins.ensures.long, wanted, lists, c.in_ok-lists.ensures.long);
      under = under_all c.args.seats.now es c.in_ok-sources.sources.feeds.items (lists_of c.in_ok-lists.lists) c.deref-6.result.now c.deref-7.result.now c.in_ok-sources.ensures.feeds (c.deref-6.ensures.value ∙ c.in_ok-sources.ensures.numbers) c.in_ok-lists.ensures;
    }
