-- The order in which the lists of the wheel fire.
use Rattle.std.proofs.Common.{◌≡◌, ◌<◌, ◌≤◌, ◌+◌, ◌-◌, ◌/◌, ◌%◌, inl, inr, nat_lt, ℕ, true, false, sym, ◌∙◌, arith}
use Rattle.std.proofs.lemmas.Bool.Decides.{nat_tests}
use Rattle.sci_links.proofs.TestLemmas.{when, unless, known}
use Rattle.sci_agenda.specs.Wheel.{place, list_at}
use Rattle.sci_agenda.proofs.Places.{Level, level0, level1, level2, level3, level_of}

pub low_list : (now rank : ℕ) → rank < 768 → list_at now rank ≡ rank
low_list now rank h =
    let t : nat_lt rank 768 ≡ true = grind (arith, nat_tests) in
    when (nat_lt rank 768) rank (768 + (rank - 768 + now / 16777216 % 256) % 256) t

pub high_list : (now rank : ℕ) → 768 ≤ rank → list_at now rank ≡ 768 + (rank - 768 + now / 16777216 % 256) % 256
high_list now rank h =
    let t : nat_lt rank 768 ≡ false = grind (arith, nat_tests) in
    unless (nat_lt rank 768) rank (768 + (rank - 768 + now / 16777216 % 256) % 256) t

-- the rank of a date's list
rank_by : (now d : ℕ) → Level now d → ℕ
rank_by now d (level0 a x) = d % 256
rank_by now d (level1 a1 a x) = 256 + d / 256 % 256
rank_by now d (level2 a1 a x) = 512 + d / 65536 % 256
rank_by now d (level3 a x) = 768 + (d / 16777216 - now / 16777216)

module _ (now d : ℕ) (from : now ≤ d) (until : d < now + 2147483648) where
  in_range : (l : Level now d) → rank_by now d l < 1024
  unfolding rank_by
  in_range (level0 a x) = omega arith
  in_range (level1 a1 a x) = omega arith
  in_range (level2 a1 a x) = omega arith
  in_range (level3 a x) = omega arith

  from_now : (l : Level now d) → now % 256 ≤ rank_by now d l
  unfolding rank_by
  from_now (level0 a x) = omega arith
  from_now (level1 a1 a x) = omega arith
  from_now (level2 a1 a x) = omega arith
  from_now (level3 a x) = omega arith

  listed : (l : Level now d) → place now d ≡ list_at now (rank_by now d l)
  unfolding rank_by
  listed (level0 a x) = x ∙ sym (low_list now (d % 256) (omega arith))
  listed (level1 a1 a x) = x ∙ sym (low_list now (256 + d / 256 % 256) (omega arith))
  listed (level2 a1 a x) = x ∙ sym (low_list now (512 + d / 65536 % 256) (omega arith))
  listed (level3 a x) =
      let e : 768 + d / 16777216 % 256 ≡ 768 + (768 + (d / 16777216 - now / 16777216) - 768 + now / 16777216 % 256) % 256 = omega arith in
      x ∙ (e ∙ sym (high_list now (768 + (d / 16777216 - now / 16777216)) (omega arith)))

  -- a list has one rank
  low_rank : (l : Level now d) (r : ℕ) → r < 768 → place now d ≡ r → rank_by now d l ≡ r
  unfolding rank_by
  low_rank (level0 a x) r h e = omega arith
  low_rank (level1 a1 a x) r h e = omega arith
  low_rank (level2 a1 a x) r h e = omega arith
  low_rank (level3 a x) r h e = absurd (omega arith)

  high_rank : (l : Level now d) (r : ℕ) → 768 ≤ r → r < 1024 → place now d ≡ 768 + (r - 768 + now / 16777216 % 256) % 256 → rank_by now d l ≡ r
  unfolding rank_by
  high_rank (level0 a x) r h g e = absurd (omega arith)
  high_rank (level1 a1 a x) r h g e = absurd (omega arith)
  high_rank (level2 a1 a x) r h g e = absurd (omega arith)
  high_rank (level3 a x) r h g e = omega arith

  one_rank : (l : Level now d) (r : ℕ) → r < 1024 → place now d ≡ list_at now r → rank_by now d l ≡ r
  one_rank l r h e = elim (known (nat_lt r 768)) [
    | inl t ↦ (let lt : r < 768 = grind (arith, nat_tests) in low_rank l r lt (e ∙ low_list now r lt))
    | inr t ↦ (let ge : 768 ≤ r = grind (arith, nat_tests) in high_rank l r ge h (e ∙ high_list now r ge))
  ]

-- the rank of a date
pub rank : ℕ → ℕ → ℕ
rank now d = rank_by now d (level_of now d)

pub rank_below : (now d : ℕ) → now ≤ d → d < now + 2147483648 → rank now d < 1024
unfolding rank
rank_below now d f u = in_range now d f u (level_of now d)

pub rank_from : (now d : ℕ) → now ≤ d → d < now + 2147483648 → now % 256 ≤ rank now d
unfolding rank
rank_from now d f u = from_now now d f u (level_of now d)

pub rank_list : (now d : ℕ) → now ≤ d → d < now + 2147483648 → place now d ≡ list_at now (rank now d)
unfolding rank
rank_list now d f u = listed now d f u (level_of now d)

pub rank_is : (now d r : ℕ) → now ≤ d → d < now + 2147483648 → r < 1024 → place now d ≡ list_at now r → rank now d ≡ r
unfolding rank
rank_is now d r f u h e = one_rank now d f u (level_of now d) r h e

module _ (now d e : ℕ) (from : now ≤ d) (late : now ≤ e) where
  -- lesser ranks fire first
  ordered : (l : Level now d) (m : Level now e) → rank_by now d l < rank_by now e m → d ≤ e
  unfolding rank_by
  ordered (level0 a x) (level0 b y) h = omega arith
  ordered (level0 a x) (level1 b1 b y) h = omega arith
  ordered (level0 a x) (level2 b1 b y) h = omega arith
  ordered (level0 a x) (level3 b y) h = omega arith
  ordered (level1 a1 a x) (level0 b y) h = absurd (omega arith)
  ordered (level1 a1 a x) (level1 b1 b y) h = omega arith
  ordered (level1 a1 a x) (level2 b1 b y) h = omega arith
  ordered (level1 a1 a x) (level3 b y) h = omega arith
  ordered (level2 a1 a x) (level0 b y) h = absurd (omega arith)
  ordered (level2 a1 a x) (level1 b1 b y) h = absurd (omega arith)
  ordered (level2 a1 a x) (level2 b1 b y) h = omega arith
  ordered (level2 a1 a x) (level3 b y) h = omega arith
  ordered (level3 a x) (level0 b y) h = absurd (omega arith)
  ordered (level3 a x) (level1 b1 b y) h = absurd (omega arith)
  ordered (level3 a x) (level2 b1 b y) h = absurd (omega arith)
  ordered (level3 a x) (level3 b y) h = omega arith

  -- a list of the first level has one date
  one_date : (l : Level now d) (m : Level now e) → place now d < 256 → place now d ≡ place now e → d ≡ e
  one_date (level0 a x) (level0 b y) h g = omega arith
  one_date (level0 a x) (level1 b1 b y) h g = absurd (omega arith)
  one_date (level0 a x) (level2 b1 b y) h g = absurd (omega arith)
  one_date (level0 a x) (level3 b y) h g = absurd (omega arith)
  one_date (level1 a1 a x) (level0 b y) h g = absurd (omega arith)
  one_date (level1 a1 a x) (level1 b1 b y) h g = absurd (omega arith)
  one_date (level1 a1 a x) (level2 b1 b y) h g = absurd (omega arith)
  one_date (level1 a1 a x) (level3 b y) h g = absurd (omega arith)
  one_date (level2 a1 a x) (level0 b y) h g = absurd (omega arith)
  one_date (level2 a1 a x) (level1 b1 b y) h g = absurd (omega arith)
  one_date (level2 a1 a x) (level2 b1 b y) h g = absurd (omega arith)
  one_date (level2 a1 a x) (level3 b y) h g = absurd (omega arith)
  one_date (level3 a x) (level0 b y) h g = absurd (omega arith)
  one_date (level3 a x) (level1 b1 b y) h g = absurd (omega arith)
  one_date (level3 a x) (level2 b1 b y) h g = absurd (omega arith)
  one_date (level3 a x) (level3 b y) h g = absurd (omega arith)

pub rank_order : (now d e : ℕ) → now ≤ d → now ≤ e → rank now d < rank now e → d ≤ e
unfolding rank
rank_order now d e f g h = ordered now d e f g (level_of now d) (level_of now e) h

pub same_date : (now d e : ℕ) → now ≤ d → now ≤ e → place now d < 256 → place now d ≡ place now e → d ≡ e
same_date now d e f g h k = one_date now d e f g (level_of now d) (level_of now e) h k
