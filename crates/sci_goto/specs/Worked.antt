-- Tags, worked out by hand for small diagrams.
use Rattle.std.specs.Prelude.{◌≡◌, ℕ, ℤ, pos, negsuc, List, [], ◌∷◌, map, codes, Option, Some, None, Ok, Err}
use Rattle.sci_base.specs.declared.refusal.Rule.{Rule}
use Rattle.sci_base.specs.declared.refusal.Rule.TheVariants.{TagShape, TagTwice, TagMissing}
use Rattle.sci_base.specs.Plain.{Fields}
use Rattle.sci_diagram.specs.Objects.{Object, block, superblock, link, objects_of}
use Rattle.sci_goto.specs.Phase.{Giving, Taking, Tags, server, tags_of}

-- ---- objects, with scalars of int32

abbrev pub sized : List ℤ → List ℤ → List ℤ → Fields
sized ins outs ipar = record { ins = ins; in2 = []; intyp = ins; outs = outs; out2 = []; outtyp = outs; evtin = 0; evtout = 0; dstate = []; ipar = ipar; firing = []; dep = None }

abbrev pub clocked : ℕ → ℕ → List ℤ → Fields
clocked evtin evtout ipar = record { ins = []; in2 = []; intyp = []; outs = []; out2 = []; outtyp = []; evtin = evtin; evtout = evtout; dstate = []; ipar = ipar; firing = []; dep = None }

abbrev pub one : List ℤ
one = pos 1 ∷ []

abbrev pub goto : List ℤ → Object
goto ipar = block (codes "GOTO") (sized one [] ipar)

abbrev pub taken : List ℤ → Object
taken ipar = block (codes "FROM") (sized [] one ipar)

abbrev pub clock_goto : List ℤ → Object
clock_goto ipar = block (codes "CLKGOTO") (clocked 1 0 ipar)

abbrev pub clock_taken : List ℤ → Object
clock_taken ipar = block (codes "CLKFROM") (clocked 0 1 ipar)

abbrev pub constant : Object
constant = block (codes "CONST_m") (sized [] one one)

abbrev pub gain : Object
gain = block (codes "GAINBLK") (sized one one (pos 0 ∷ pos 2 ∷ []))

abbrev pub sum : Object
sum = block (codes "SUMMATION") (sized (pos 1 ∷ pos 1 ∷ []) one (pos 0 ∷ pos 1 ∷ pos 1 ∷ []))

abbrev pub delay : Object
delay = block (codes "DOLLAR_m") (sized one one [])

abbrev pub timer : Object
timer = block (codes "EVTDLY_c") (clocked 1 1 one)

-- from the first port of an object to a port of another
abbrev pub drawn : ℤ → ℤ → ℤ → ℤ → Object
drawn kind from to p = link (record { block = from; port = pos 1; side = pos 0 }) (record { block = to; port = p; side = pos 1 }) kind

abbrev pub wire : ℕ → ℕ → ℤ → Object
wire from to p = drawn (pos 1) (pos from) (pos to) p

abbrev pub around : List Object → Object
around os = superblock [] (sized [] [] []) (objects_of os)

abbrev pub tag_7 : List ℤ
tag_7 = pos 7 ∷ []

abbrev pub local_7 : List ℤ
local_7 = pos 7 ∷ pos 1 ∷ []

abbrev pub global_7 : List ℤ
global_7 = pos 7 ∷ pos 3 ∷ []

-- ---- what is refused

abbrev pub Refused : List Object → Rule → List ℕ → ℤ → Type 0
Refused os rule place n = tags_of (objects_of os) ≡ Err (record { rule = rule; place = place; detail = n ∷ [] })

abbrev pub one_place : List ℕ
one_place = 1 ∷ []

abbrev pub Kept : List Object → Type 0
Kept os = (tags : Tags) × (tags_of (objects_of os) ≡ Ok tags)

pub record WorkedRefusals : Type 0 where
  -- by its ports before its parameters, with two inputs, with none
  pub two_ports : Refused (block (codes "GOTO") (sized (pos 1 ∷ pos 1 ∷ []) [] []) ∷ []) TagShape one_place (pos 1)
  pub no_port : Refused (block (codes "CLKGOTO") (clocked 0 0 local_7) ∷ []) TagShape one_place (pos 1)
  -- no parameters, three, and a FROM with a scope
  pub no_tag : Refused (taken [] ∷ []) TagShape one_place (pos 2)
  pub three : Refused (goto (pos 7 ∷ pos 1 ∷ pos 1 ∷ []) ∷ []) TagShape one_place (pos 2)
  pub scope_taken : Refused (taken local_7 ∷ []) TagShape one_place (pos 2)
  -- tags and scopes out of range
  pub tag_0 : Refused (goto (pos 0 ∷ pos 1 ∷ []) ∷ []) TagShape one_place (pos 2)
  pub tag_below : Refused (taken (negsuc 0 ∷ []) ∷ []) TagShape one_place (pos 2)
  pub tag_above : Refused (goto (pos 2147483648 ∷ pos 1 ∷ []) ∷ []) TagShape one_place (pos 2)
  pub scope_2 : Refused (goto (pos 7 ∷ pos 2 ∷ []) ∷ []) TagShape one_place (pos 2)
  -- one tag given twice in one diagram, and everywhere from two diagrams; before that a later object breaks its row, or takes a tag that
  -- nothing gives
  pub twice : Refused (taken (pos 8 ∷ []) ∷ goto local_7 ∷ goto local_7 ∷ taken [] ∷ []) TagTwice (3 ∷ []) (pos 7)
  pub everywhere : Refused (around (clock_goto global_7 ∷ []) ∷ clock_goto global_7 ∷ []) TagTwice (2 ∷ []) (pos 7)
  pub row_first : Refused (goto local_7 ∷ goto (pos 7 ∷ []) ∷ goto local_7 ∷ []) TagShape (2 ∷ []) (pos 2)
  -- a tag given locally above, below and beside, and one given to activations alone
  pub above : Refused (goto local_7 ∷ around (taken tag_7 ∷ []) ∷ []) TagMissing (2 ∷ 1 ∷ []) (pos 7)
  pub below : Refused (taken tag_7 ∷ around (goto local_7 ∷ []) ∷ []) TagMissing (1 ∷ []) (pos 7)
  pub beside : Refused (around (goto local_7 ∷ []) ∷ around (taken tag_7 ∷ []) ∷ []) TagMissing (2 ∷ 1 ∷ []) (pos 7)
  pub clock_alone : Refused (clock_goto global_7 ∷ taken tag_7 ∷ []) TagMissing (2 ∷ []) (pos 7)
  pub signal_alone : Refused (clock_taken tag_7 ∷ goto local_7 ∷ []) TagMissing (1 ∷ []) (pos 7)
  -- one tag given locally in two diagrams, locally and everywhere, by both kinds; one that nothing takes; one taken twice
  pub apart : Kept (goto local_7 ∷ clock_goto local_7 ∷ around (goto local_7 ∷ goto global_7 ∷ []) ∷ taken tag_7 ∷ taken tag_7 ∷ [])

-- ---- what serves what

abbrev pub place_of : Option Giving → List ℕ
place_of None = []
place_of (Some g) = g.place

-- each taker by its place, with the place of what serves it
abbrev pub servers : Tags → List (List ℕ × List ℕ)
servers tags = map (λ (t : Taking). (t.place, place_of (server tags.givers t))) tags.takers

abbrev pub Served : List Object → List (List ℕ × List ℕ) → Type 0
Served os pairs = (tags : Tags) × (tags_of (objects_of os) ≡ Ok tags) × (servers tags ≡ pairs)

-- the counter: 1 a timer; 2 the constant 1; 3 the sum of 2 and 4; 4 a delay; 5 gives tag 7 locally, fed by the sum; 6 takes a tag, and
-- feeds the delay
abbrev pub counter : List ℤ → List Object
counter tag =
    timer ∷ constant ∷ sum ∷ delay ∷ goto local_7 ∷ taken tag ∷ drawn (negsuc 0) (pos 1) (pos 1) (pos 1)
    ∷ wire 2 3 (pos 1) ∷ wire 4 3 (pos 2) ∷ wire 3 5 (pos 1) ∷ wire 6 4 (pos 1) ∷ []

-- 1 a superblock without ports, in which a constant is given to tag 7; 2 takes tag 7, and feeds 3, a gain
abbrev pub from_inside : List ℤ → List Object
from_inside ipar = around (constant ∷ goto ipar ∷ wire 1 2 (pos 1) ∷ []) ∷ taken tag_7 ∷ gain ∷ wire 2 3 (pos 1) ∷ []

-- tag 7 is given everywhere by 1, and inside the superblock 2 also locally; it is taken by 3 and inside 2
abbrev pub both_scopes : List Object
both_scopes = goto global_7 ∷ around (taken tag_7 ∷ goto local_7 ∷ []) ∷ taken tag_7 ∷ []

pub record WorkedServers : Type 0 where
  pub delay_served : Served (counter tag_7) ((6 ∷ [], 5 ∷ []) ∷ [])
  pub delay_unserved : Refused (counter (pos 8 ∷ [])) TagMissing (6 ∷ []) (pos 8)
  pub gain_served : Served (from_inside global_7) ((2 ∷ [], 1 ∷ 2 ∷ []) ∷ [])
  pub gain_unserved : Refused (from_inside local_7) TagMissing (2 ∷ []) (pos 7)
  -- the local one is preferred
  pub preferred : Served both_scopes ((2 ∷ 1 ∷ [], 2 ∷ 2 ∷ []) ∷ (3 ∷ [], 1 ∷ []) ∷ [])
  -- activation tags are apart from those of values
  pub activation : Served (goto local_7 ∷ clock_goto local_7 ∷ clock_taken tag_7 ∷ []) ((3 ∷ [], 2 ∷ []) ∷ [])

pub record WorkedTags : Type 0 where
  pub refusals : WorkedRefusals
  pub served : WorkedServers
