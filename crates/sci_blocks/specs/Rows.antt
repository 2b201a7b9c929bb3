-- Pass-through objects: what each asks of its counts of ports, and of a port block's parameter.
use Rattle.std.specs.Prelude.{ℕ, ℤ, pos, List, [], ◌∷◌, length, Bool, ◌||◌, not, int_le, codes, if◌then◌else◌, Option, Some, None, is_none, Ok, Err}
use Rattle.std.specs.Str.{bytes_eq}
use Rattle.sci_base.specs.declared.limits.TheConstants.{PORTS}
use Rattle.sci_base.specs.Plain.{Fields}
use Rattle.sci_base.specs.Outcome.{Outcome}
use Rattle.sci_forms.specs.declared.broken.Broken.{Broken}
use Rattle.sci_forms.specs.declared.forms.Counts.{Counts}
use Rattle.sci_forms.specs.Forms.{or_else, within}
use Rattle.sci_forms.specs.Broken.{violation_at}
use Rattle.sci_check.specs.Check.{shape, bad}
use Rattle.sci_blocks.specs.declared.class.PortClass.TheVariants.{Input, Output, ActivationInput, ActivationOutput}
use Rattle.sci_blocks.specs.declared.class.LinkType.TheVariants.{Regular, Activation}
use Rattle.sci_blocks.specs.declared.pass_through.PassThrough.{PassThrough}
use Rattle.sci_blocks.specs.declared.pass_through.PassThrough.TheVariants.{Split, ActivationSplit, Union, PortBlock, Giver, Taker}

-- the pass-through object of a name
abbrev pub pass_through : List ℕ → Option PassThrough
pass_through gui =
    if bytes_eq gui (codes "SPLIT_f") then Some Split else
    if bytes_eq gui (codes "CLKSPLIT_f") then Some ActivationSplit else
    if bytes_eq gui (codes "CLKSOM_f") || bytes_eq gui (codes "CLKSOMV_f") then Some Union else
    if bytes_eq gui (codes "IN_f") then Some (PortBlock Input) else
    if bytes_eq gui (codes "OUT_f") then Some (PortBlock Output) else
    if bytes_eq gui (codes "CLKINV_f") then Some (PortBlock ActivationInput) else
    if bytes_eq gui (codes "CLKOUTV_f") then Some (PortBlock ActivationOutput) else
    if bytes_eq gui (codes "GOTO") then Some (Giver Regular) else
    if bytes_eq gui (codes "FROM") then Some (Taker Regular) else
    if bytes_eq gui (codes "CLKGOTO") then Some (Giver Activation) else
    if bytes_eq gui (codes "CLKFROM") then Some (Taker Activation) else None

-- the least and the most of inputs, outputs, activation inputs, activation outputs
abbrev pub counts : ℕ → ℕ → ℕ → ℕ → ℕ → ℕ → ℕ → ℕ → Counts
counts a b c d e f g h =
    record { ins_least = a; ins_most = b; outs_least = c; outs_most = d; evtin_least = e; evtin_most = f; evtout_least = g; evtout_most = h }

-- so many does a pass-through object ask for; the block that stands for an input of the
-- superblock has an output, and the other way round; an object that gives a tag has an input alone, one that takes a tag an output
abbrev pub row : PassThrough → Counts
row Split = counts 1 1 1 PORTS 0 0 0 0
row ActivationSplit = counts 0 0 0 0 1 1 1 PORTS
row Union = counts 0 0 0 0 1 PORTS 1 1
row (PortBlock Input) = counts 0 0 1 1 0 0 0 0
row (PortBlock Output) = counts 1 1 0 0 0 0 0 0
row (PortBlock ActivationInput) = counts 0 0 0 0 0 0 1 1
row (PortBlock ActivationOutput) = counts 0 0 0 0 1 1 0 0
row (Giver Regular) = counts 1 1 0 0 0 0 0 0
row (Giver Activation) = counts 0 0 0 0 1 1 0 0
row (Taker Regular) = counts 0 0 1 1 0 0 0 0
row (Taker Activation) = counts 0 0 0 0 0 0 1 1

abbrev pub row_broken : Counts → Fields → Option Broken
row_broken c f =
    if not (within c.ins_least c.ins_most (length f.ins)) then Some (shape (pos 1) (length f.ins)) else
    if not (within c.outs_least c.outs_most (length f.outs)) then Some (shape (pos 2) (length f.outs)) else
    if not (within c.evtin_least c.evtin_most f.evtin) then Some (shape (pos 3) f.evtin) else
    if not (within c.evtout_least c.evtout_most f.evtout) then Some (shape (pos 4) f.evtout) else None

-- whether an object has as many ports of each class as its row asks
abbrev pub has_its_ports : PassThrough → Fields → Bool
has_its_ports p f = is_none (row_broken (row p) f)

-- a port block's parameters are one number of at least 1
abbrev pub number_broken : List ℤ → Option Broken
number_broken [] = Some (bad (pos 1) 0 (pos 0))
number_broken (n ∷ []) = if int_le (pos 1) n then None else Some (bad (pos 1) 1 n)
number_broken (n ∷ m ∷ ns) = Some (bad (pos 1) 0 (pos (length (n ∷ m ∷ ns))))

abbrev pub parameters_broken : PassThrough → List ℤ → Option Broken
parameters_broken Split ps = None
parameters_broken ActivationSplit ps = None
parameters_broken Union ps = None
parameters_broken (Giver l) ps = None
parameters_broken (Taker l) ps = None
parameters_broken (PortBlock c) ps = number_broken ps

abbrev pub outcome_at : List ℕ → Option Broken → Outcome (Unit {0})
outcome_at place None = Ok tt
outcome_at place (Some b) = Err (violation_at place b)

-- the counts of ports, and then a port block's parameter
abbrev pub joint_checked : List ℕ → PassThrough → Fields → Outcome (Unit {0})
joint_checked place p f = outcome_at place (or_else (row_broken (row p) f) (parameters_broken p f.ipar))
