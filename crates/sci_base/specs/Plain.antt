-- The plain forms of the shared types: numbers, variants and fields as they are, each `Vec`, `SmallVec` and `String` as its list, and no allocator.
use Rattle.std.specs.Prelude.{ℕ, ℤ, List, [], Bool, Option, Some, None}
use Rattle.sci_base.specs.declared.refusal.Rule.{Rule}
use Rattle.sci_base.specs.declared.refusal.Refusal.{Refusal}
use Rattle.sci_base.specs.declared.block.BlockFields.{BlockFields}
use Rattle.sci_base.specs.declared.block.Dep.{Dep}
use Rattle.sci_base.specs.declared.block.DirectFeedthrough.{DirectFeedthrough}
use Rattle.sci_base.specs.declared.block.DirectFeedthrough.TheVariants.{All, Each}

-- a broken rule, with its place and detail
pub record Violation : Type 0 where
  pub rule : Rule
  pub place : List ℕ
  pub detail : List ℤ

abbrev pub violation_of : Refusal → Violation
violation_of r = record { rule = r.rule; place = r.place.path.items; detail = r.detail.items }

-- a violation by the whole file, with no detail
abbrev pub of_the_whole : Rule → Violation
of_the_whole rule = record { rule = rule; place = []; detail = [] }

-- which regular inputs have direct feedthrough
pub data Feedthrough : Type 0 where
  all_inputs : Bool → Feedthrough
  each_input : List Bool → Feedthrough

-- what `dep_ut` says
pub record Dependence : Type 0 where
  pub part : Feedthrough
  pub always : Bool

abbrev pub feedthrough_of : DirectFeedthrough → Feedthrough
feedthrough_of (All b) = all_inputs b
feedthrough_of (Each bs) = each_input bs.items

abbrev pub dependence_of : Dep → Dependence
dependence_of d = record { part = feedthrough_of d.part; always = d.always }

abbrev pub dep_of : Option Dep → Option Dependence
dep_of None = None
dep_of (Some d) = Some (dependence_of d)

-- what a block's model says
pub record Fields : Type 0 where
  pub ins : List ℤ
  pub in2 : List ℤ
  pub intyp : List ℤ
  pub outs : List ℤ
  pub out2 : List ℤ
  pub outtyp : List ℤ
  pub evtin : ℕ
  pub evtout : ℕ
  pub dstate : List ℤ
  pub ipar : List ℤ
  pub firing : List ℤ
  pub dep : Option Dependence

abbrev pub fields_of : BlockFields → Fields
fields_of f = record {
  ins = f.ins.items;
  in2 = f.in2.items;
  intyp = f.intyp.items;
  outs = f.outs.items;
  out2 = f.out2.items;
  outtyp = f.outtyp.items;
  evtin = f.evtin;
  evtout = f.evtout;
  dstate = f.dstate.items;
  ipar = f.ipar.items;
  firing = f.firing.items;
  dep = dep_of f.dep;
}
