-- The rules on tags, over the whole tree.
use Rattle.std.specs.Prelude.{ℕ, ◌+◌, ℤ, pos, List, [], ◌∷◌, ◌++◌, length, find, Bool, true, false, ◌&&◌, nat_eq, nat_le, if◌then◌else◌, Option, Some, None, Ok, Err}
use Rattle.std.specs.List.{list_any}
use Rattle.std.specs.Option.{option_eq}
use Rattle.std.specs.Str.{bytes_eq}
use Rattle.sci_base.specs.declared.limits.TheConstants.{TAGS}
use Rattle.sci_base.specs.declared.refusal.Rule.{Rule}
use Rattle.sci_base.specs.declared.refusal.Rule.TheVariants.{TagShape, TagTwice, TagMissing, TooManyTags}
use Rattle.sci_base.specs.Plain.{Violation}
use Rattle.sci_base.specs.Outcome.{Outcome, ◌>>=◌}
use Rattle.sci_diagram.specs.Objects.{Object, block, superblock, link, text, deleted, Objects, no_objects, object}
use Rattle.sci_forms.specs.Forms.{or_else}
use Rattle.sci_blocks.specs.declared.class.LinkType.{LinkType}
use Rattle.sci_blocks.specs.declared.class.LinkType.TheVariants.{Regular, Activation}
use Rattle.sci_blocks.specs.Rows.{pass_through}
use Rattle.sci_goto.specs.declared.tag.Tag.{Tag}
use Rattle.sci_goto.specs.declared.tag.Scope.{Scope}
use Rattle.sci_goto.specs.declared.tag.Scope.TheVariants.{Local, Global}
use Rattle.sci_goto.specs.declared.tag.TagForm.{TagForm}
use Rattle.sci_goto.specs.declared.tag.TagForm.TheVariants.{WrongPorts, WrongParameters, Gives, Takes}
use Rattle.sci_goto.specs.Forms.{form_of}

-- ---- the tag objects of a tree

-- a tag object, by the place of the diagram that it stands in, its own place, and what it says
pub record Standing : Type 0 where
  pub around : List ℕ
  pub place : List ℕ
  pub form : TagForm

abbrev pub standing_as : List ℕ → List ℕ → Option TagForm → List Standing
standing_as at here None = []
standing_as at here (Some form) = record { around = at; place = here; form = form } ∷ []

-- the objects of the diagram at a place, the first of them at position k, in tree order
unfoldable mutual
  pub standing_in : List ℕ → ℕ → Objects → List Standing
  standing_in at k no_objects = []
  standing_in at k (object o os) = object_standing at (at ++ k ∷ []) o ++ standing_in at (k + 1) os

  pub object_standing : List ℕ → List ℕ → Object → List Standing
  object_standing at here (block gui f) = standing_as at here (form_of (pass_through gui) f)
  object_standing at here (superblock gui f os) = standing_in here 1 os
  object_standing at here (link from to kind) = []
  object_standing at here text = []
  object_standing at here deleted = []

abbrev pub standing : Objects → List Standing
standing d = standing_in [] 1 d

-- ---- what is given, and what is taken

-- an object that gives a tag: within the diagram at a place, or everywhere
pub record Giving : Type 0 where
  pub place : List ℕ
  pub tag : Tag
  pub within : Option (List ℕ)

-- an object that takes a tag, and the place of the diagram that it stands in
pub record Taking : Type 0 where
  pub place : List ℕ
  pub around : List ℕ
  pub tag : Tag

-- both in tree order
pub record Tags : Type 0 where
  pub givers : List Giving
  pub takers : List Taking

abbrev pub no_tags : Tags
no_tags = record { givers = []; takers = [] }

abbrev pub within : Scope → List ℕ → Option (List ℕ)
within Local around = Some around
within Global around = None

abbrev pub giving : Standing → Tag → Scope → Giving
giving s t scope = record { place = s.place; tag = t; within = within scope s.around }

abbrev pub taking : Standing → Tag → Taking
taking s t = record { place = s.place; around = s.around; tag = t }

-- ---- which tags are alike

abbrev pub same_link : LinkType → LinkType → Bool
same_link Regular Regular = true
same_link Regular Activation = false
same_link Activation Regular = false
same_link Activation Activation = true

abbrev pub same_tag : Tag → Tag → Bool
same_tag a b = same_link a.link b.link && nat_eq a.number b.number

-- whether an object gives this tag within the diagram at this place, or everywhere
abbrev pub gives : Tag → Option (List ℕ) → Giving → Bool
gives t w g = same_tag g.tag t && option_eq bytes_eq g.within w

-- the one that gives the tag within the taker's diagram, or else the one that gives it everywhere
abbrev pub server : List Giving → Taking → Option Giving
server gs t = or_else (find (gives t.tag (Some t.around)) gs) (find (gives t.tag None) gs)

-- ---- the rules

abbrev pub too_many_tags : ℕ → Violation
too_many_tags n = record { rule = TooManyTags; place = []; detail = pos n ∷ [] }

abbrev pub ill_formed : List ℕ → ℤ → Violation
ill_formed place code = record { rule = TagShape; place = place; detail = code ∷ [] }

abbrev pub by_tag : Rule → List ℕ → Tag → Violation
by_tag rule place t = record { rule = rule; place = place; detail = pos t.number ∷ [] }

abbrev pub few_enough : ℕ → Outcome (Unit {0})
few_enough n = if nat_le n TAGS then Ok tt else Err (too_many_tags n)

-- one more that gives a tag: no earlier one gives the same tag there
abbrev pub given_once : Tags → Giving → Outcome Tags
given_once tags g =
    if list_any (gives g.tag g.within) tags.givers then Err (by_tag TagTwice g.place g.tag) else
    Ok (record { givers = tags.givers ++ g ∷ []; takers = tags.takers })

-- one more tag object: its ports, then its parameters, then that it gives its tag as the first
abbrev pub joined : Tags → Standing → TagForm → Outcome Tags
joined tags s WrongPorts = Err (ill_formed s.place (pos 1))
joined tags s WrongParameters = Err (ill_formed s.place (pos 2))
joined tags s (Gives t scope) = given_once tags (giving s t scope)
joined tags s (Takes t) = Ok (record { givers = tags.givers; takers = tags.takers ++ taking s t ∷ [] })

unfoldable pub gathered : Tags → List Standing → Outcome Tags
gathered tags [] = Ok tags
gathered tags (s ∷ ss) = joined tags s s.form >>= λ more. gathered more ss

abbrev pub served_by : Taking → Option Giving → Outcome (Unit {0})
served_by t None = Err (by_tag TagMissing t.place t.tag)
served_by t (Some g) = Ok tt

-- each is served
unfoldable pub all_served : List Giving → List Taking → Outcome (Unit {0})
all_served gs [] = Ok tt
all_served gs (t ∷ ts) = served_by t (server gs t) >>= λ _. all_served gs ts

-- the tags of a tree, or the first rule on tags that it breaks
unfoldable pub tags_of : Objects → Outcome Tags
tags_of d = do
  few ← few_enough (length (standing d))
  tags ← gathered no_tags (standing d)
  served ← all_served tags.givers tags.takers
  Ok tags
