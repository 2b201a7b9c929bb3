-- Tag objects: what they say by their ports and their parameters.
use Rattle.std.specs.Prelude.{ℕ, ℤ, pos, negsuc, List, [], ◌∷◌, ◌&&◌, nat_le, if◌then◌else◌, Option, Some, None}
use Rattle.sci_base.specs.Fit.{int_eq}
use Rattle.sci_base.specs.Plain.{Fields}
use Rattle.sci_blocks.specs.declared.class.LinkType.{LinkType}
use Rattle.sci_blocks.specs.declared.pass_through.PassThrough.{PassThrough}
use Rattle.sci_blocks.specs.declared.pass_through.PassThrough.TheVariants.{Split, ActivationSplit, Union, PortBlock, Giver, Taker}
use Rattle.sci_blocks.specs.Rows.{has_its_ports}
use Rattle.sci_goto.specs.declared.tag.Scope.{Scope}
use Rattle.sci_goto.specs.declared.tag.Scope.TheVariants.{Local, Global}
use Rattle.sci_goto.specs.declared.tag.TagForm.{TagForm}
use Rattle.sci_goto.specs.declared.tag.TagForm.TheVariants.{WrongPorts, WrongParameters, Gives, Takes}

-- a tag's number, from 1 to 2^31-1
abbrev pub tag_number : ℤ → Option ℕ
tag_number (pos n) = if nat_le 1 n && nat_le n 2147483647 then Some n else None
tag_number (negsuc n) = None

abbrev pub scope_of : ℤ → Option Scope
scope_of z = if int_eq z (pos 1) then Some Local else if int_eq z (pos 3) then Some Global else None

abbrev pub gives_as : LinkType → Option ℕ → Option Scope → TagForm
gives_as link None scope = WrongParameters
gives_as link (Some n) None = WrongParameters
gives_as link (Some n) (Some scope) = Gives (record { link = link; number = n }) scope

abbrev pub takes_as : LinkType → Option ℕ → TagForm
takes_as link None = WrongParameters
takes_as link (Some n) = Takes (record { link = link; number = n })

-- what gives a tag says by its parameters: the tag and its scope
abbrev pub giver_form : LinkType → List ℤ → TagForm
giver_form link (n ∷ s ∷ []) = gives_as link (tag_number n) (scope_of s)
giver_form link _ = WrongParameters

-- what takes one: the tag alone
abbrev pub taker_form : LinkType → List ℤ → TagForm
taker_form link (n ∷ []) = takes_as link (tag_number n)
taker_form link _ = WrongParameters

-- its ports come first
abbrev pub by_ports : PassThrough → Fields → TagForm → TagForm
by_ports p f form = if has_its_ports p f then form else WrongPorts

-- what a block with these fields says, where it is a tag object
abbrev pub form_of : Option PassThrough → Fields → Option TagForm
form_of None f = None
form_of (Some Split) f = None
form_of (Some ActivationSplit) f = None
form_of (Some Union) f = None
form_of (Some (PortBlock c)) f = None
form_of (Some (Giver link)) f = Some (by_ports (Giver link) f (giver_form link f.ipar))
form_of (Some (Taker link)) f = Some (by_ports (Taker link) f (taker_form link f.ipar))
