-- The names of tag objects; diagrams without them.
use Rattle.std.proofs.Common.{◌≡◌, ℕ, List, codes, Bool, true, false, cond, ◌||◌, Option, Some, None, refl, sym, ap, ◌∙◌}
use Rattle.std.specs.Prelude.{is_some}
use Rattle.std.specs.Str.{bytes_eq}
use Rattle.std.proofs.lemmas.Slice.Eq.{bytes_eq-Decides}
use Rattle.sci_base.specs.Plain.{Fields}
use Rattle.sci_diagram.specs.Tree.{is_tag}
use Rattle.sci_blocks.specs.declared.class.PortClass.TheVariants.{Input, Output, ActivationInput, ActivationOutput}
use Rattle.sci_blocks.specs.declared.class.LinkType.TheVariants.{Regular, Activation}
use Rattle.sci_blocks.specs.declared.pass_through.PassThrough.{PassThrough}
use Rattle.sci_blocks.specs.declared.pass_through.PassThrough.TheVariants.{Split, ActivationSplit, Union, PortBlock, Giver, Taker}
use Rattle.sci_goto.specs.Forms.{form_of}
use Rattle.sci_goto.specs.Phase.{gathered, all_served, tags_of}
use Rattle.sci_goto.specs.Laws.{NamesLaw, UntaggedLaw}

tags_alone : (f : Fields) (a b c d : Bool) → is_some (form_of (cond a (Some (Giver Regular)) (cond b (Some (Taker Regular)) (cond c (Some (Giver Activation)) (cond d (Some (Taker Activation)) None)))) f) ≡ (((a || b) || c) || d)
tags_alone f true b c d = refl
tags_alone f false true c d = refl
tags_alone f false false true d = refl
tags_alone f false false false true = refl
tags_alone f false false false false = refl

-- another name is none of a tag object
not_tag : (gui name : List ℕ) → is_tag name ≡ false → bytes_eq gui name ≡ true → false ≡ is_tag gui
not_tag gui name none e = sym (ap is_tag ((bytes_eq-Decides gui name).0 e) ∙ none)

by_name : (gui : List ℕ) (f : Fields) (a b c d i o k l : Bool) → bytes_eq gui (codes "SPLIT_f") ≡ a → bytes_eq gui (codes "CLKSPLIT_f") ≡ b → bytes_eq gui (codes "CLKSOM_f") ≡ c → bytes_eq gui (codes "CLKSOMV_f") ≡ d
    → bytes_eq gui (codes "IN_f") ≡ i → bytes_eq gui (codes "OUT_f") ≡ o → bytes_eq gui (codes "CLKINV_f") ≡ k → bytes_eq gui (codes "CLKOUTV_f") ≡ l → (t : Option PassThrough) → is_some (form_of t f) ≡ is_tag gui
    → is_some (form_of (cond a (Some Split) (cond b (Some ActivationSplit) (cond (c || d) (Some Union) (cond i (Some (PortBlock Input)) (cond o (Some (PortBlock Output)) (cond k (Some (PortBlock ActivationInput)) (cond l (Some (PortBlock ActivationOutput)) t))))))) f) ≡ is_tag gui
by_name gui f true b c d i o k l p q r s u v w x t e = not_tag gui (codes "SPLIT_f") refl p
by_name gui f false true c d i o k l p q r s u v w x t e = not_tag gui (codes "CLKSPLIT_f") refl q
by_name gui f false false true d i o k l p q r s u v w x t e = not_tag gui (codes "CLKSOM_f") refl r
by_name gui f false false false true i o k l p q r s u v w x t e = not_tag gui (codes "CLKSOMV_f") refl s
by_name gui f false false false false true o k l p q r s u v w x t e = not_tag gui (codes "IN_f") refl u
by_name gui f false false false false false true k l p q r s u v w x t e = not_tag gui (codes "OUT_f") refl v
by_name gui f false false false false false false true l p q r s u v w x t e = not_tag gui (codes "CLKINV_f") refl w
by_name gui f false false false false false false false true p q r s u v w x t e = not_tag gui (codes "CLKOUTV_f") refl x
by_name gui f false false false false false false false false p q r s u v w x t e = e

pub names_law : NamesLaw
names_law gui f =
    by_name gui f (bytes_eq gui (codes "SPLIT_f")) (bytes_eq gui (codes "CLKSPLIT_f")) (bytes_eq gui (codes "CLKSOM_f")) (bytes_eq gui (codes "CLKSOMV_f"))
    (bytes_eq gui (codes "IN_f")) (bytes_eq gui (codes "OUT_f")) (bytes_eq gui (codes "CLKINV_f")) (bytes_eq gui (codes "CLKOUTV_f")) refl refl refl refl refl refl refl refl _
    (tags_alone f (bytes_eq gui (codes "GOTO")) (bytes_eq gui (codes "FROM")) (bytes_eq gui (codes "CLKGOTO")) (bytes_eq gui (codes "CLKFROM")))

-- ---- no tag objects

pub untagged_law : UntaggedLaw
unfolding gathered all_served tags_of
untagged_law d h = rw h refl
