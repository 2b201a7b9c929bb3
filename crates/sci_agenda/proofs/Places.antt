-- The place of a date, as now moves.
use Rattle.std.proofs.Common.{◌≡◌, ◌≢◌, ◌<◌, ◌≤◌, ◌+◌, ◌/◌, ◌%◌, ◌==◌, inl, inr, ℕ, refl, ◌∙◌, arith}
use Rattle.sci_links.proofs.TestLemmas.{when, unless, known, eq_true, eq_false}
use Rattle.sci_agenda.specs.Wheel.{place}

pub data Level (now date : ℕ) : Type 0 where
  level0 : date / 256 ≡ now / 256 → place now date ≡ date % 256 → Level now date
  level1 : date / 256 ≢ now / 256 → date / 65536 ≡ now / 65536 → place now date ≡ 256 + date / 256 % 256 → Level now date
  level2 : date / 65536 ≢ now / 65536 → date / 16777216 ≡ now / 16777216 → place now date ≡ 512 + date / 65536 % 256 → Level now date
  level3 : date / 16777216 ≢ now / 16777216 → place now date ≡ 768 + date / 16777216 % 256 → Level now date

pub level_of : (now date : ℕ) → Level now date
level_of now date = elim (known ((date / 256) == (now / 256))) [
  | inl a ↦ level0 (eq_true (date / 256) (now / 256) a) (when ((date / 256) == (now / 256)) (date % 256) _ a)
  | inr a ↦ elim (known ((date / 65536) == (now / 65536))) [
    | inl b ↦ level1 (eq_false (date / 256) (now / 256) a) (eq_true (date / 65536) (now / 65536) b)
        (unless ((date / 256) == (now / 256)) (date % 256) _ a ∙ when ((date / 65536) == (now / 65536)) (256 + date / 256 % 256) _ b)
    | inr b ↦ elim (known ((date / 16777216) == (now / 16777216))) [
      | inl c ↦ level2 (eq_false (date / 65536) (now / 65536) b) (eq_true (date / 16777216) (now / 16777216) c)
          (unless ((date / 256) == (now / 256)) (date % 256) _ a ∙ (unless ((date / 65536) == (now / 65536)) (256 + date / 256 % 256) _ b
          ∙ when ((date / 16777216) == (now / 16777216)) (512 + date / 65536 % 256) (768 + date / 16777216 % 256) c))
      | inr c ↦ level3 (eq_false (date / 16777216) (now / 16777216) c)
          (unless ((date / 256) == (now / 256)) (date % 256) _ a ∙ (unless ((date / 65536) == (now / 65536)) (256 + date / 256 % 256) _ b
          ∙ unless ((date / 16777216) == (now / 16777216)) (512 + date / 65536 % 256) (768 + date / 16777216 % 256) c))
    ]
  ]
]

pub place_below : (now date : ℕ) → place now date < 1024
place_below now date = bound (level_of now date)
  where
    bound : Level now date → place now date < 1024
    bound (level0 a e) = omega arith
    bound (level1 a b e) = omega arith
    bound (level2 a b e) = omega arith
    bound (level3 a e) = omega arith

module _ (now d e : ℕ) (from : now ≤ d) (least : d ≤ e) (until : e < now + 2147483648) where
  -- what stands in another list than d stays there when now becomes d
  stays_by : Level now d → Level now e → Level d e → place now e ≢ place now d → place d e ≡ place now e
  stays_by (level0 a x) (level0 b y) (level0 c z) ne = omega arith
  stays_by (level0 a x) (level0 b y) (level1 c1 c z) ne = absurd (omega arith)
  stays_by (level0 a x) (level0 b y) (level2 c1 c z) ne = absurd (omega arith)
  stays_by (level0 a x) (level0 b y) (level3 c z) ne = absurd (omega arith)
  stays_by (level0 a x) (level1 b1 b y) (level0 c z) ne = absurd (omega arith)
  stays_by (level0 a x) (level1 b1 b y) (level1 c1 c z) ne = omega arith
  stays_by (level0 a x) (level1 b1 b y) (level2 c1 c z) ne = absurd (omega arith)
  stays_by (level0 a x) (level1 b1 b y) (level3 c z) ne = absurd (omega arith)
  stays_by (level0 a x) (level2 b1 b y) (level0 c z) ne = absurd (omega arith)
  stays_by (level0 a x) (level2 b1 b y) (level1 c1 c z) ne = absurd (omega arith)
  stays_by (level0 a x) (level2 b1 b y) (level2 c1 c z) ne = omega arith
  stays_by (level0 a x) (level2 b1 b y) (level3 c z) ne = absurd (omega arith)
  stays_by (level0 a x) (level3 b y) (level0 c z) ne = absurd (omega arith)
  stays_by (level0 a x) (level3 b y) (level1 c1 c z) ne = absurd (omega arith)
  stays_by (level0 a x) (level3 b y) (level2 c1 c z) ne = absurd (omega arith)
  stays_by (level0 a x) (level3 b y) (level3 c z) ne = omega arith
  stays_by (level1 a1 a x) (level0 b y) f ne = absurd (omega arith)
  stays_by (level1 a1 a x) (level1 b1 b y) (level0 c z) ne = absurd (omega arith)
  stays_by (level1 a1 a x) (level1 b1 b y) (level1 c1 c z) ne = omega arith
  stays_by (level1 a1 a x) (level1 b1 b y) (level2 c1 c z) ne = absurd (omega arith)
  stays_by (level1 a1 a x) (level1 b1 b y) (level3 c z) ne = absurd (omega arith)
  stays_by (level1 a1 a x) (level2 b1 b y) (level0 c z) ne = absurd (omega arith)
  stays_by (level1 a1 a x) (level2 b1 b y) (level1 c1 c z) ne = absurd (omega arith)
  stays_by (level1 a1 a x) (level2 b1 b y) (level2 c1 c z) ne = omega arith
  stays_by (level1 a1 a x) (level2 b1 b y) (level3 c z) ne = absurd (omega arith)
  stays_by (level1 a1 a x) (level3 b y) (level0 c z) ne = absurd (omega arith)
  stays_by (level1 a1 a x) (level3 b y) (level1 c1 c z) ne = absurd (omega arith)
  stays_by (level1 a1 a x) (level3 b y) (level2 c1 c z) ne = absurd (omega arith)
  stays_by (level1 a1 a x) (level3 b y) (level3 c z) ne = omega arith
  stays_by (level2 a1 a x) (level0 b y) f ne = absurd (omega arith)
  stays_by (level2 a1 a x) (level1 b1 b y) f ne = absurd (omega arith)
  stays_by (level2 a1 a x) (level2 b1 b y) (level0 c z) ne = absurd (omega arith)
  stays_by (level2 a1 a x) (level2 b1 b y) (level1 c1 c z) ne = absurd (omega arith)
  stays_by (level2 a1 a x) (level2 b1 b y) (level2 c1 c z) ne = omega arith
  stays_by (level2 a1 a x) (level2 b1 b y) (level3 c z) ne = absurd (omega arith)
  stays_by (level2 a1 a x) (level3 b y) (level0 c z) ne = absurd (omega arith)
  stays_by (level2 a1 a x) (level3 b y) (level1 c1 c z) ne = absurd (omega arith)
  stays_by (level2 a1 a x) (level3 b y) (level2 c1 c z) ne = absurd (omega arith)
  stays_by (level2 a1 a x) (level3 b y) (level3 c z) ne = omega arith
  stays_by (level3 a x) (level0 b y) f ne = absurd (omega arith)
  stays_by (level3 a x) (level1 b1 b y) f ne = absurd (omega arith)
  stays_by (level3 a x) (level2 b1 b y) f ne = absurd (omega arith)
  stays_by (level3 a x) (level3 b y) (level0 c z) ne = absurd (omega arith)
  stays_by (level3 a x) (level3 b y) (level1 c1 c z) ne = absurd (omega arith)
  stays_by (level3 a x) (level3 b y) (level2 c1 c z) ne = absurd (omega arith)
  stays_by (level3 a x) (level3 b y) (level3 c z) ne = omega arith

  pub stays : place now e ≢ place now d → place d e ≡ place now e
  stays ne = stays_by (level_of now d) (level_of now e) (level_of d e) ne

  -- what stands in the list of d goes to a lesser level
  falls_by : Level now d → Level now e → Level d e → 256 ≤ place now d → place now e ≡ place now d → place d e / 256 < place now d / 256
  falls_by (level0 a x) f g h q = absurd (omega arith)
  falls_by (level1 a1 a x) (level0 b y) g h q = absurd (omega arith)
  falls_by (level1 a1 a x) (level1 b1 b y) (level0 c z) h q = omega arith
  falls_by (level1 a1 a x) (level1 b1 b y) (level1 c1 c z) h q = absurd (omega arith)
  falls_by (level1 a1 a x) (level1 b1 b y) (level2 c1 c z) h q = absurd (omega arith)
  falls_by (level1 a1 a x) (level1 b1 b y) (level3 c z) h q = absurd (omega arith)
  falls_by (level1 a1 a x) (level2 b1 b y) g h q = absurd (omega arith)
  falls_by (level1 a1 a x) (level3 b y) g h q = absurd (omega arith)
  falls_by (level2 a1 a x) (level0 b y) g h q = absurd (omega arith)
  falls_by (level2 a1 a x) (level1 b1 b y) g h q = absurd (omega arith)
  falls_by (level2 a1 a x) (level2 b1 b y) (level0 c z) h q = omega arith
  falls_by (level2 a1 a x) (level2 b1 b y) (level1 c1 c z) h q = omega arith
  falls_by (level2 a1 a x) (level2 b1 b y) (level2 c1 c z) h q = absurd (omega arith)
  falls_by (level2 a1 a x) (level2 b1 b y) (level3 c z) h q = absurd (omega arith)
  falls_by (level2 a1 a x) (level3 b y) g h q = absurd (omega arith)
  falls_by (level3 a x) (level0 b y) g h q = absurd (omega arith)
  falls_by (level3 a x) (level1 b1 b y) g h q = absurd (omega arith)
  falls_by (level3 a x) (level2 b1 b y) g h q = absurd (omega arith)
  falls_by (level3 a x) (level3 b y) (level0 c z) h q = omega arith
  falls_by (level3 a x) (level3 b y) (level1 c1 c z) h q = omega arith
  falls_by (level3 a x) (level3 b y) (level2 c1 c z) h q = omega arith
  falls_by (level3 a x) (level3 b y) (level3 c z) h q = absurd (omega arith)

  pub falls : 256 ≤ place now d → place now e ≡ place now d → place d e / 256 < place now d / 256
  falls h q = falls_by (level_of now d) (level_of now e) (level_of d e) h q

-- within one turn of the first level nothing changes
pub steady : (now d e : ℕ) → now ≤ d → place now d < 256 → place d e ≡ place now e
steady now d e from h = by_level (level_of now d)
  where
    same_place : Level now e → Level d e → d / 256 ≡ now / 256 → d / 65536 ≡ now / 65536 → d / 16777216 ≡ now / 16777216 → place d e ≡ place now e
    same_place (level0 b y) (level0 c z) u v w = omega arith
    same_place (level0 b y) (level1 c1 c z) u v w = absurd (omega arith)
    same_place (level0 b y) (level2 c1 c z) u v w = absurd (omega arith)
    same_place (level0 b y) (level3 c z) u v w = absurd (omega arith)
    same_place (level1 b1 b y) (level0 c z) u v w = absurd (omega arith)
    same_place (level1 b1 b y) (level1 c1 c z) u v w = omega arith
    same_place (level1 b1 b y) (level2 c1 c z) u v w = absurd (omega arith)
    same_place (level1 b1 b y) (level3 c z) u v w = absurd (omega arith)
    same_place (level2 b1 b y) (level0 c z) u v w = absurd (omega arith)
    same_place (level2 b1 b y) (level1 c1 c z) u v w = absurd (omega arith)
    same_place (level2 b1 b y) (level2 c1 c z) u v w = omega arith
    same_place (level2 b1 b y) (level3 c z) u v w = absurd (omega arith)
    same_place (level3 b y) (level0 c z) u v w = absurd (omega arith)
    same_place (level3 b y) (level1 c1 c z) u v w = absurd (omega arith)
    same_place (level3 b y) (level2 c1 c z) u v w = absurd (omega arith)
    same_place (level3 b y) (level3 c z) u v w = omega arith

    by_level : Level now d → place d e ≡ place now e
    by_level (level0 a x) = same_place (level_of now e) (level_of d e) a (omega arith) (omega arith)
    by_level (level1 a1 a x) = absurd (omega arith)
    by_level (level2 a1 a x) = absurd (omega arith)
    by_level (level3 a x) = absurd (omega arith)

-- d is alone on its list of the first level
pub alone : (d e : ℕ) → place d e ≡ d % 256 → e ≡ d
alone d e h = by_level (level_of d e)
  where
    by_level : Level d e → e ≡ d
    by_level (level0 a x) = omega arith
    by_level (level1 a1 a x) = absurd (omega arith)
    by_level (level2 a1 a x) = absurd (omega arith)
    by_level (level3 a x) = absurd (omega arith)

pub place_now : (d : ℕ) → place d d ≡ d % 256
place_now d = by_level (level_of d d)
  where
    by_level : Level d d → place d d ≡ d % 256
    by_level (level0 a x) = x
    by_level (level1 a1 a x) = absurd (a1 refl)
    by_level (level2 a1 a x) = absurd (a1 refl)
    by_level (level3 a x) = absurd (a refl)
