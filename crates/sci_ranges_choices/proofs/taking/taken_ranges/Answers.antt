use Rattle.std.proofs.Common.{◌≡◌, List, [], ◌∷◌, ◌++◌, Option, refl}
use Rattle.sci_ranges_base.specs.declared.interval.Interval.{Interval}
use Rattle.sci_ranges_choices.proofs.taking.taken_ranges.Goals as goal

three : (none one two all : List (Option Interval)) (x y z u v w : Option Interval) → none ≡ [] → one ≡ none ++ x ∷ [] → two ≡ one ++ y ∷ [] → all ≡ two ++ z ∷ [] → x ≡ u → y ≡ v
    → z ≡ w → all ≡ u ∷ v ∷ w ∷ []
three none one two all x y z u v w a b c d e f g = rw (d, c, b, a, e, f, g) refl

pub returns : goal.returns
returns c =
    three _ _ _ _ _ _ _ _ _ _ c.new-taken.ensures.items c.in_ok-push.ensures.items c.in_ok-push-2.ensures.items c.in_ok-push-3.ensures.items c.first_taken.ensures c.range_at.ensures
    c.third_taken.ensures
