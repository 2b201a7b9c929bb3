-- What goes in with a switch, as code has it.
use Rattle.std.proofs.Common.{◌≡◌, ℕ, ◌+◌, Bool, true, false, List, [], ◌∷◌, Option, Some, None, refl, sym, ap, subst, ◌∙◌}
use Rattle.std.specs.Prelude.{IfSome}
use Rattle.sci_net.specs.declared.Wire.{Wire}
use Rattle.sci_net.specs.Parts.{Parts, IsBlock, spec_of, wire_of}
use Rattle.sci_reaction.specs.Memory.{Columns}
use Rattle.sci_ranges_base.specs.declared.interval.Interval.{Interval}
use Rattle.sci_ranges_base.specs.Intervals.{meet, range_at}
use Rattle.sci_ranges_refined.specs.Sums.{sum_cells}
use Rattle.sci_ranges_refined.specs.Choices.{taken_input, taken_place, known_truth, sum_of}
use Rattle.sci_ranges_rows.specs.Marks.{Marks}
use Rattle.sci_ranges_pass.specs.Ranges.{Ranges, entered}
use Rattle.sci_ranges_pass.specs.Taken.{comparison, addition, by_condition, by_truth, by_comparison, kept_on, summand, by_addition, taken_range, taken_ranges}
use Rattle.sci_ranges_sums.specs.declared.parts.Followed.{Followed}
use Rattle.sci_ranges_choices.specs.declared.parts.Choice.{Choice}
use Rattle.sci_ranges_choices.specs.View.{IsCompared, IsAdded, AreFollowed, by_looked, kept_by, summand_by, by_added, taken_by, all_taken_by}
use Rattle.sci_ranges_find.specs.Beside.{Follows, IsBefore}

-- what holds of the block that is found holds of the one that is followed
pub follows_such : (n : Parts) (i : Columns) (m : Marks) (r : Ranges) (P : ℕ → Type 0) (a : Option ℕ) (f : Option Followed) → Follows n i m r a f → IfSome a P
    → IfSome f (λ (x : Followed). P x.block)
follows_such n i m r P None None h p = tt
follows_such n i m r P None (Some f) h p = absurd h
follows_such n i m r P (Some b) None h p = absurd h
follows_such n i m r P (Some b) (Some f) h p = subst P (sym h.1) p

-- blocks that are compared, or added, are blocks
pub compared_block : (n : Parts) (a : Option ℕ) → IfSome a (λ g. IsCompared n g) → IfSome a (λ g. IsBlock n g)
compared_block n None h = tt
compared_block n (Some g) h = h.block

pub added_block : (n : Parts) (a : Option ℕ) → IfSome a (λ g. IsAdded n g) → IfSome a (λ g. IsBlock n g)
added_block n None h = tt
added_block n (Some g) h = h.block

module _ (n : Parts) (i : Columns) (m : Marks) (r : Ranges) (c : ℕ) (b : Choice) (is : IsBefore n i m r c b) (first : Bool) where
  looked_is : (a : Option ℕ) (f : Option Followed) (w : Wire) (o : Option Interval) → Follows n i m r a f → by_looked n c first w f o ≡ by_comparison n i m r c first w a o
  looked_is None None w o h = refl
  looked_is None (Some f) w o h = absurd h
  looked_is (Some g) None w o h = absurd h
  looked_is (Some g) (Some f) w o h =
      ap (λ (k : ℕ). by_truth n k f.ins.items w (known_truth (spec_of n c) first) o) h.1
      ∙ ap (λ (vs : List (Option Interval)). by_truth n g vs w (known_truth (spec_of n c) first) o) h.2

  kept_is : (w : Wire) (o : Option Interval) → kept_by n c first b w o ≡ kept_on n i m r c first w o
  kept_is w o = looked_is (comparison n m c) b.compared w (by_condition n c first w o) is.compared

  added_is : (a : Option ℕ) (f : Option Followed) (o : Option Interval) → Follows n i m r a f → by_added n c first b f o ≡ by_addition n i m r c first a o
  added_is None None o h = refl
  added_is None (Some f) o h = absurd h
  added_is (Some g) None o h = absurd h
  added_is (Some g) (Some f) o h =
      ap (λ (k : ℕ). meet o ((sum_cells (spec_of n k) (sum_of (spec_of n k) (λ j. kept_by n c first b (wire_of n k (j + 1)) (range_at f.ins.items j)))).values)) h.1
      ∙ (ap (λ (vs : List (Option Interval)). meet o ((sum_cells (spec_of n g) (sum_of (spec_of n g) (λ j. kept_by n c first b (wire_of n g (j + 1)) (range_at vs j)))).values)) h.2
      ∙ ap (λ (t : ℕ → Option Interval). meet o ((sum_cells (spec_of n g) (sum_of (spec_of n g) t)).values)) same)
    where
      same : (λ (j : ℕ). kept_by n c first b (wire_of n g (j + 1)) (range_at (entered n i m r g) j)) ≡ summand n i m r c first g
      same = λ x. λ j. kept_is (wire_of n g (j + 1)) (range_at (entered n i m r g) j) x

pub all_taken_is : (n : Parts) (i : Columns) (m : Marks) (r : Ranges) (c : ℕ) (us : List (Option Interval)) (b : Choice) → IsBefore n i m r c b
    → all_taken_by n c us b ≡ taken_ranges n i m r c us
all_taken_is n i m r c us b is =
    ap (λ (o : Option Interval). o ∷ range_at us 1 ∷ taken_by n c us b false ∷ []) first_is
    ∙ ap (λ (o : Option Interval). taken_range n i m r c us true ∷ range_at us 1 ∷ o ∷ []) third_is
  where
    first_is : taken_by n c us b true ≡ taken_range n i m r c us true
    first_is =
        ap (by_added n c true b b.first) (kept_is n i m r c b is true (wire_of n c 1) (range_at us 0))
        ∙ added_is n i m r c b is true (addition n m c true) b.first (kept_on n i m r c true (wire_of n c 1) (range_at us 0)) is.first

    third_is : taken_by n c us b false ≡ taken_range n i m r c us false
    third_is =
        ap (by_added n c false b b.third) (kept_is n i m r c b is false (wire_of n c 3) (range_at us 2))
        ∙ added_is n i m r c b is false (addition n m c false) b.third (kept_on n i m r c false (wire_of n c 3) (range_at us 2)) is.third
