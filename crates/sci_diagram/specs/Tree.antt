-- The tree that a JSON value stands for, or the first rule that it breaks, in the order of the walk.
use Rattle.std.specs.Prelude.{ℕ, zero, suc, ◌+◌, ℤ, pos, negsuc, List, [], ◌∷◌, ◌++◌, length, Bool, true, false, ◌&&◌, ◌||◌, not, int_lt, codes, if◌then◌else◌, Option, Some, None, is_some, option_and_then, Ok, Err}
use Rattle.std.specs.List.{list_all}
use Rattle.std.specs.Str.{bytes_eq}
use Rattle.sci_base.specs.declared.limits.TheConstants.{LEVELS}
use Rattle.serde_json.specs.Data.{Data, null, boolean, number, string, array, object, Items, no_items, item}
use Rattle.serde_json.specs.Find.{get, as_str, as_array, as_object}
use Rattle.sci_base.specs.declared.refusal.Rule.TheVariants.{MissingField, WrongField, TooDeep}
use Rattle.sci_base.specs.Plain.{Violation, Dependence, Fields}
use Rattle.sci_base.specs.Outcome.{Outcome, ◌>>=◌}
use Rattle.sci_json.specs.Field.{Field, absent, ill_formed, holds, field, as_ints, as_dep}
use Rattle.sci_diagram.specs.declared.diagram.End.{End}
use Rattle.sci_diagram.specs.declared.sorts.ObjectRole.{ObjectRole}
use Rattle.sci_diagram.specs.declared.sorts.ObjectRole.TheVariants.{Kind, Port, Joint, Tag, Super}
use Rattle.sci_diagram.specs.declared.sorts.Sort.{Sort}
use Rattle.sci_diagram.specs.Objects.{Object, block, superblock, link, text, deleted, Objects, no_objects, object as one_object}

-- ---- one field

abbrev pub missing : List ℕ → ℤ → Violation
missing at code = record { rule = MissingField; place = at; detail = code ∷ [] }

abbrev pub wrong : List ℕ → ℤ → Violation
wrong at code = record { rule = WrongField; place = at; detail = code ∷ [] }

abbrev pub too_deep : List ℕ → Violation
too_deep at = record { rule = TooDeep; place = at; detail = pos LEVELS ∷ [] }

-- a field that must be there
abbrev pub required : {A : Type 0} → List ℕ → ℤ → Field A → Outcome A
required at code absent = Err (missing at code)
required at code ill_formed = Err (wrong at code)
required at code (holds a) = Ok a

-- a list that may be left out
abbrev pub optional : List ℕ → ℤ → Field (List ℤ) → Outcome (List ℤ)
optional at code absent = Ok []
optional at code ill_formed = Err (wrong at code)
optional at code (holds xs) = Ok xs

-- a number from -2^31 to 2^31-1
abbrev pub is_small : ℤ → Bool
is_small z = not (int_lt z (negsuc 2147483647)) && int_lt z (pos 2147483648)

abbrev pub if_small : List ℕ → ℤ → List ℤ → Outcome (List ℤ)
if_small at code xs = if list_all is_small xs then Ok xs else Err (wrong at code)

-- a list of small numbers that may be left out
abbrev pub small_list : List ℕ → ℤ → List ℕ → Data → Outcome (List ℤ)
small_list at code name model = optional at code (field as_ints name model) >>= if_small at code

-- the length of such a list
abbrev pub count_of : List ℕ → ℤ → List ℕ → Data → Outcome ℕ
count_of at code name model = small_list at code name model >>= λ xs. Ok (length xs)

-- ---- links

abbrev pub end_from : List ℕ → ℤ → ℤ → List ℤ → Outcome End
end_from at code side (b ∷ p ∷ []) = Ok (record { block = b; port = p; side = side })
end_from at code side (b ∷ p ∷ s ∷ []) = Ok (record { block = b; port = p; side = s })
end_from at code side _ = Err (wrong at code)

-- an end has two or three numbers, and the third is the side where it is there
abbrev pub link_end : List ℕ → ℤ → ℤ → List ℕ → Data → Outcome End
link_end at code side name d = required at code (field as_ints name d) >>= end_from at code side

abbrev pub second : List ℕ → List ℤ → Outcome ℤ
second at (a ∷ b ∷ xs) = Ok b
second at _ = Err (wrong at (pos 21))

unfoldable pub read_link : List ℕ → Data → Outcome Object
read_link at d = do
  from ← link_end at (pos 19) (pos 0) (codes "from") d
  to ← link_end at (pos 20) (pos 1) (codes "to") d
  kind ← required at (pos 21) (field as_ints (codes "ct") d) >>= second at
  Ok (link from to kind)

-- ---- blocks

abbrev pub is_super_name : List ℕ → Bool
is_super_name s = bytes_eq s (codes "super") || bytes_eq s (codes "csuper")

abbrev pub first_text : Items → Option (List ℕ)
first_text no_items = None
first_text (item d ds) = as_str d

-- a text, or the text that a list begins with
abbrev pub sim_name : Data → Option (List ℕ)
sim_name null = None
sim_name (boolean b) = None
sim_name (number n) = None
sim_name (string s) = Some s
sim_name (array ds) = first_text ds
sim_name (object ms) = None

abbrev pub is_super : List ℕ → Field (List ℕ) → Outcome Bool
is_super at absent = Ok false
is_super at ill_formed = Err (wrong at (pos 5))
is_super at (holds s) = Ok (is_super_name s)

abbrev pub is_port : List ℕ → Bool
is_port s = bytes_eq s (codes "IN_f") || bytes_eq s (codes "OUT_f") || bytes_eq s (codes "CLKINV_f") || bytes_eq s (codes "CLKOUTV_f")

abbrev pub is_joint : List ℕ → Bool
is_joint s = bytes_eq s (codes "SPLIT_f") || bytes_eq s (codes "CLKSPLIT_f") || bytes_eq s (codes "CLKSOM_f") || bytes_eq s (codes "CLKSOMV_f")

-- GOTO, FROM, CLKGOTO and CLKFROM carry a link without drawing it
abbrev pub is_tag : List ℕ → Bool
is_tag s = bytes_eq s (codes "GOTO") || bytes_eq s (codes "FROM") || bytes_eq s (codes "CLKGOTO") || bytes_eq s (codes "CLKFROM")

-- a port block, a split or union, or a tag object
abbrev pub is_pass_through : List ℕ → Bool
is_pass_through s = is_port s || is_joint s || is_tag s

abbrev pub role_of : List ℕ → ObjectRole
role_of gui = if is_port gui then Port else (if is_joint gui then Joint else (if is_tag gui then Tag else Kind))

abbrev pub keeps_state : ObjectRole → Bool
keeps_state Kind = true
keeps_state Port = false
keeps_state Joint = false
keeps_state Tag = false
keeps_state Super = false

abbrev pub keeps_ipar : ObjectRole → Bool
keeps_ipar Kind = true
keeps_ipar Port = true
keeps_ipar Joint = false
keeps_ipar Tag = true
keeps_ipar Super = false

-- a list that is looked at only in some roles
abbrev pub list_where : Bool → List ℕ → ℤ → List ℕ → Data → Outcome (List ℤ)
list_where true at code name model = optional at code (field as_ints name model)
list_where false at code name model = Ok []

abbrev pub there : List ℕ → Option Data → Outcome (Unit {0})
there at None = Err (missing at (pos 15))
there at (Some d) = Ok tt

-- a superblock has an inner diagram
abbrev pub inner_there : ObjectRole → List ℕ → Data → Outcome (Unit {0})
inner_there Kind at model = Ok tt
inner_there Port at model = Ok tt
inner_there Joint at model = Ok tt
inner_there Tag at model = Ok tt
inner_there Super at model = there at (get (codes "rpar") model)

abbrev pub dep_at : List ℕ → Field Dependence → Outcome (Option Dependence)
dep_at at absent = Ok None
dep_at at ill_formed = Err (wrong at (pos 18))
dep_at at (holds p) = Ok (Some p)

unfoldable pub read_fields : ObjectRole → List ℕ → Data → Outcome Fields
read_fields role at m = do
  ins ← small_list at (pos 6) (codes "in") m
  in2 ← small_list at (pos 7) (codes "in2") m
  intyp ← small_list at (pos 8) (codes "intyp") m
  outs ← small_list at (pos 9) (codes "out") m
  out2 ← small_list at (pos 10) (codes "out2") m
  outtyp ← small_list at (pos 11) (codes "outtyp") m
  evtin ← count_of at (pos 12) (codes "evtin") m
  evtout ← count_of at (pos 13) (codes "evtout") m
  dstate ← list_where (keeps_state role) at (pos 14) (codes "dstate") m
  rpar ← inner_there role at m
  ipar ← list_where (keeps_ipar role) at (pos 16) (codes "ipar") m
  firing ← list_where (keeps_state role) at (pos 17) (codes "firing") m
  dep ← dep_at at (field as_dep (codes "dep_ut") m)
  Ok (record {
    ins = ins;
    in2 = in2;
    intyp = intyp;
    outs = outs;
    out2 = out2;
    outtyp = outtyp;
    evtin = evtin;
    evtout = evtout;
    dstate = dstate;
    ipar = ipar;
    firing = firing;
    dep = dep;
  })

-- ---- the walk; `inner at d` is the diagram of a superblock at this place

abbrev pub Inner : Type 0
Inner = List ℕ → Data → Outcome Objects

-- an object, as it is
abbrev pub whole_object : Data → Option Data
whole_object null = None
whole_object (boolean b) = None
whole_object (number n) = None
whole_object (string s) = None
whole_object (array ds) = None
whole_object (object ms) = Some (object ms)

abbrev pub inside : Inner → List ℕ → Option Data → Outcome Objects
inside inner at None = Err (missing at (pos 15))
inside inner at (Some d) = inner at d

abbrev pub block_of : Inner → List ℕ → List ℕ → Data → Bool → Outcome Object
block_of inner at gui model false = read_fields (role_of gui) at model >>= λ f. Ok (block gui f)
block_of inner at gui model true = read_fields Super at model >>= λ f. inside inner at (get (codes "rpar") model) >>= λ os. Ok (superblock gui f os)

-- a block by its name and model
abbrev pub modelled : Inner → List ℕ → List ℕ → Data → Outcome Object
modelled inner at gui model = is_super at (field sim_name (codes "sim") model) >>= block_of inner at gui model

unfoldable pub read_block : Inner → List ℕ → Data → Outcome Object
read_block inner at d = do
  gui ← required at (pos 3) (field as_str (codes "gui") d)
  model ← required at (pos 4) (field whole_object (codes "model") d)
  modelled inner at gui model

abbrev pub sort_of : List ℕ → Option Sort
sort_of s = if bytes_eq s (codes "Block") then Some Sort.Block else (if bytes_eq s (codes "Link") then Some Sort.Link else (if bytes_eq s (codes "Text") then Some Sort.Text else (if bytes_eq s (codes "Deleted") then Some Sort.Deleted else None)))

abbrev pub as_sort : Data → Option Sort
as_sort d = option_and_then sort_of (as_str d)

-- what kind of object it is; a value that is no object counts as wrong
unfoldable pub read_sort : List ℕ → Data → Outcome Sort
read_sort at d = if is_some (as_object d) then required at (pos 2) (field as_sort (codes "obj") d) else Err (wrong at (pos 2))

abbrev pub object_of : Inner → List ℕ → Data → Sort → Outcome Object
object_of inner at d Sort.Block = read_block inner at d
object_of inner at d Sort.Link = read_link at d
object_of inner at d Sort.Text = Ok text
object_of inner at d Sort.Deleted = Ok deleted

unfoldable pub read_object : Inner → List ℕ → Data → Outcome Object
read_object inner at d = read_sort at d >>= object_of inner at d

-- the objects in their order, the first of them at position k
unfoldable pub walk : Inner → List ℕ → ℕ → Items → Outcome Objects
walk inner at k no_items = Ok no_objects
walk inner at k (item d ds) = read_object inner (at ++ k ∷ []) d >>= λ o. walk inner at (k + 1) ds >>= λ os. Ok (one_object o os)

-- the list of a diagram's objects; a value that is no object counts as wrong
unfoldable pub list_of : List ℕ → Data → Outcome Items
list_of at d = if is_some (as_object d) then required at (pos 1) (field as_array (codes "objs") d) else Err (wrong at (pos 1))

-- the diagram at a place, where so many levels are left
unfoldable pub diagram_at : ℕ → List ℕ → Data → Outcome Objects
diagram_at zero at d = Err (too_deep at)
diagram_at (suc left) at d = list_of at d >>= walk (diagram_at left) at 1

-- the tree of the whole value, or the first failure
abbrev pub tree : Data → Outcome Objects
tree = diagram_at LEVELS []
