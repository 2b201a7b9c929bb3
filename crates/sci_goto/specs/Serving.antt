-- What an answer says of the tags of a tree: for each object that takes a tag, which of the tag objects serves it.
use Rattle.std.specs.Prelude.{◌≡◌, ℕ, ◌<◌, List, [], length, slice_index_or, Some, Result, Ok, Err, Vec}
use Rattle.std.specs.declared.alloc.Global.{Global}
use Rattle.sci_base.specs.declared.stop.Stop.{Stop}
use Rattle.sci_base.specs.Stops.{StopsBy}
use Rattle.sci_diagram.specs.Objects.{Objects}
use Rattle.sci_blocks.specs.declared.class.LinkType.TheVariants.{Regular}
use Rattle.sci_goto.specs.declared.serving.Serving.{Serving}
use Rattle.sci_goto.specs.declared.tag.Tag.{Tag}
use Rattle.sci_goto.specs.declared.tag.Scope.{Scope}
use Rattle.sci_goto.specs.declared.tag.TagForm.TheVariants.{WrongPorts, Gives, Takes}
use Rattle.sci_goto.specs.Phase.{Standing, standing, Giving, Taking, Tags, server, tags_of}

-- ---- by position, from 0

abbrev pub no_standing : Standing
no_standing = record { around = []; place = []; form = WrongPorts }

-- the tag object at a position in tree order
abbrev pub standing_at : List Standing → ℕ → Standing
standing_at ss n = slice_index_or ss n no_standing

abbrev pub no_tag : Tag
no_tag = record { link = Regular; number = 0 }

abbrev pub no_taking : Taking
no_taking = record { place = []; around = []; tag = no_tag }

abbrev pub taking_at : List Taking → ℕ → Taking
taking_at ts k = slice_index_or ts k no_taking

abbrev pub no_serving : Serving
no_serving = record { giver = 0; taker = 0 }

abbrev pub serving_at : List Serving → ℕ → Serving
serving_at v k = slice_index_or v k no_serving

-- ---- who serves whom

-- a tag object is the one that gives this
abbrev pub IsGiverAt : Standing → Giving → Type 0
IsGiverAt st g = (st.place ≡ g.place) × ((sc : Scope) × (st.form ≡ Gives g.tag sc))

-- a tag object is the one that takes this
abbrev pub IsTakerAt : Standing → Taking → Type 0
IsTakerAt st t = (st.place ≡ t.place) × (st.form ≡ Takes t.tag)

-- of these tag objects, of which these give a tag, which serves this taker
pub record IsServing (ss : List Standing) (gs : List Giving) (t : Taking) (s : Serving) : Type 0 where
  pub giver_there : s.giver < length ss
  pub taker_there : s.taker < length ss
  pub taker : IsTakerAt (standing_at ss s.taker) t
  pub giver : (g : Giving) × (server gs t ≡ Some g) × IsGiverAt (standing_at ss s.giver) g

-- one for each that takes a tag, in tree order
pub record AreServings (ss : List Standing) (tags : Tags) (v : List Serving) : Type 0 where
  pub long : length v ≡ length tags.takers
  pub each : (k : ℕ) → k < length tags.takers → IsServing ss tags.givers (taking_at tags.takers k) (serving_at v k)

-- what serves each taker of the tree, or the first rule on tags that it breaks; want of memory may come at any time
abbrev pub IsServed : Objects → Result (Vec Serving Global) Stop → Type 0
IsServed d (Ok v) = (tags : Tags) × (tags_of d ≡ Ok tags) × AreServings (standing d) tags v.items
IsServed d (Err e) = StopsBy (λ v. tags_of d ≡ Err v) e
