-- The blocks of some kinds, among those of a row.
use Rattle.std.proofs.Common.{◌≡◌, ℕ, ◌<◌, Bool, true, List, get_or, All}
use Rattle.std.proofs.lemmas.List.Elements.{Contains-get_or}
use Rattle.std.proofs.lemmas.List.Kept.{AllPairs-filter}
use Rattle.sci_forms.specs.declared.Kind.{Kind}
use Rattle.sci_net.specs.Parts.{Parts, spec_of}
use Rattle.sci_reaction.proofs.Lists.{and_both}
use Rattle.sci_run.specs.Activity.{Activity}
use Rattle.sci_sched.proofs.Members.{filter_from, filter_to}
use Rattle.sci_store.specs.Blocks.{AreBlocksByNumber}
use Rattle.sci_store.specs.Written.{AreAmong}
use Rattle.sci_store.specs.Chosen.{active_of_kinds, of_kinds}

module _ (n : Parts) (is : Kind → Bool) (blocks : List ℕ) where
  abbrev test : ℕ → Bool
  test b = is (spec_of n b).kind

  -- they stand by number too
  pub chosen_by_number : AreBlocksByNumber n blocks → AreBlocksByNumber n (of_kinds n is blocks)
  chosen_by_number h = record {
    rising = AllPairs-filter (λ b c. b < c) test blocks h.rising;
    blocks = λ b c. h.blocks b (filter_from test blocks b c).0;
  }

  -- the active ones of these kinds are among them
  pub chosen_among : (active : Activity) → AreAmong n active blocks → AreAmong n (active_of_kinds n is active) (of_kinds n is blocks)
  chosen_among active among b block on =
      let both = and_both (active b) (test b) on in filter_to test blocks b (among b block both.0) both.1

  -- and all of them are of these kinds
  pub chosen_kinds : All (λ b. test b ≡ true) (of_kinds n is blocks)
  chosen_kinds k d l = (filter_from test blocks (get_or (of_kinds n is blocks) k d) (Contains-get_or (of_kinds n is blocks) k d l)).1
