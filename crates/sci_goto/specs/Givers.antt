-- A map from tags in scopes to positions, and the list of givers that it stands for.
use Rattle.std.specs.Prelude.{◌≡◌, ℕ, ◌<◌, List, [], ◌∷◌, ◌++◌, length, find, Bool, ◌&&◌, Option, Some, None, Ok}
use Rattle.std.specs.Map.{lookup}
use Rattle.std.specs.Option.{option_eq, option_map}
use Rattle.std.specs.Str.{bytes_eq}
use Rattle.sci_base.specs.Outcome.{Outcome}
use Rattle.sci_goto.specs.declared.givers.ScopedTag.{ScopedTag}
use Rattle.sci_goto.specs.declared.givers.Givers.{Givers}
use Rattle.sci_goto.specs.declared.serving.Serving.{Serving}
use Rattle.sci_goto.specs.declared.tag.Tag.{Tag}
use Rattle.sci_goto.specs.declared.tag.TagForm.{TagForm}
use Rattle.sci_goto.specs.declared.tag.TagForm.TheVariants.{WrongPorts, WrongParameters, Gives, Takes}
use Rattle.sci_goto.specs.Phase.{Standing, Giving, Taking, Tags, taking, same_tag, gives}
use Rattle.sci_goto.specs.Serving.{standing_at, IsGiverAt, IsServing}

-- ---- keys

-- where a tag is given: within the diagram at a place, or everywhere
abbrev pub within_of : ScopedTag → Option (List ℕ)
within_of q = option_map (λ p. p.items) q.within

pub record IsScoped (q : ScopedTag) (t : Tag) (w : Option (List ℕ)) : Type 0 where
  pub tag : q.tag ≡ t
  pub within : within_of q ≡ w

abbrev pub same_scoped : ScopedTag → ScopedTag → Bool
same_scoped a b = same_tag a.tag b.tag && option_eq bytes_eq (within_of a) (within_of b)

abbrev pub position_in : Givers → ScopedTag → Option ℕ
position_in m q = lookup (same_scoped q) m.positions.entries

-- ---- givers

-- a position among these tag objects is that of the one that gives this
abbrev pub IsFirst : List Standing → Option Giving → Option ℕ → Type 0
IsFirst ss None None = Unit {0}
IsFirst ss None (Some n) = ⊥
IsFirst ss (Some g) None = ⊥
IsFirst ss (Some g) (Some n) = (n < length ss) × IsGiverAt (standing_at ss n) g

-- the map has the positions of exactly these givers
abbrev pub HoldsGivers : Givers → List Standing → List Giving → Type 0
HoldsGivers m ss gs = (q : ScopedTag) → IsFirst ss (find (gives q.tag (within_of q)) gs) (position_in m q)

-- these tag objects keep the rules on each, and the map has those that give
pub record IsJoined (m : Givers) (ss : List Standing) (o : Outcome Tags) : Type 0 where
  pub more : Tags
  pub kept : o ≡ Ok more
  pub holds : HoldsGivers m ss more.givers

-- ---- takers

-- the takers among these tag objects
abbrev pub takings_as : Standing → TagForm → List Taking
takings_as s WrongPorts = []
takings_as s WrongParameters = []
takings_as s (Gives t scope) = []
takings_as s (Takes t) = taking s t ∷ []

abbrev pub takings : List Standing → List Taking
takings [] = []
takings (s ∷ ss) = takings_as s s.form ++ takings ss

-- one for each
abbrev pub Serve : List Standing → List Giving → List Taking → List Serving → Type 0
Serve ss gs [] [] = Unit {0}
Serve ss gs [] (s ∷ v) = ⊥
Serve ss gs (t ∷ ts) [] = ⊥
Serve ss gs (t ∷ ts) (s ∷ v) = IsServing ss gs t s × Serve ss gs ts v
