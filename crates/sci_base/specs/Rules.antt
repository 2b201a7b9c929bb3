-- The numbers and names of the rules.
use Rattle.std.specs.Prelude.{ℕ, List, codes}
use Rattle.sci_base.specs.declared.refusal.Rule.{Rule}
use Rattle.sci_base.specs.declared.refusal.Rule.TheVariants.{NotJson, MissingField, WrongField, TooDeep, TooManyBlocks, TooManyLinks, UnknownBlock, BadParameter, PortShape, NotInteger, AlwaysActive, LinkEnd, InputTwice, SuperPorts, NoSource, ColumnTwice, TypeConflict, SizeConflict, TypeOpen, SizeOpen, TypeNotHere, ShapeRule, SignalTooLarge, AlgebraicLoop, ScheduleTooLong, NotC, InputShape, InputRange, FileTooLong, Unbuilt, TagShape, TagTwice, TagMissing, TooManyTags, RunEnded, NotSave, NotVcd}

abbrev pub number_of : Rule → ℕ
number_of NotJson = 1
number_of MissingField = 2
number_of WrongField = 3
number_of TooDeep = 4
number_of TooManyBlocks = 5
number_of TooManyLinks = 6
number_of UnknownBlock = 7
number_of BadParameter = 8
number_of PortShape = 9
number_of NotInteger = 10
number_of AlwaysActive = 11
number_of LinkEnd = 12
number_of InputTwice = 13
number_of SuperPorts = 14
number_of NoSource = 15
number_of ColumnTwice = 16
number_of TypeConflict = 17
number_of SizeConflict = 18
number_of TypeOpen = 19
number_of SizeOpen = 20
number_of TypeNotHere = 21
number_of ShapeRule = 22
number_of SignalTooLarge = 23
number_of AlgebraicLoop = 24
number_of ScheduleTooLong = 25
number_of NotC = 26
number_of InputShape = 27
number_of InputRange = 28
number_of FileTooLong = 29
number_of Unbuilt = 30
number_of TagShape = 31
number_of TagTwice = 32
number_of TagMissing = 33
number_of TooManyTags = 34
number_of RunEnded = 35
number_of NotSave = 36
number_of NotVcd = 37

abbrev pub name_of : Rule → List ℕ
name_of NotJson = codes "NotJson"
name_of MissingField = codes "MissingField"
name_of WrongField = codes "WrongField"
name_of TooDeep = codes "TooDeep"
name_of TooManyBlocks = codes "TooManyBlocks"
name_of TooManyLinks = codes "TooManyLinks"
name_of UnknownBlock = codes "UnknownBlock"
name_of BadParameter = codes "BadParameter"
name_of PortShape = codes "PortShape"
name_of NotInteger = codes "NotInteger"
name_of AlwaysActive = codes "AlwaysActive"
name_of LinkEnd = codes "LinkEnd"
name_of InputTwice = codes "InputTwice"
name_of SuperPorts = codes "SuperPorts"
name_of NoSource = codes "NoSource"
name_of ColumnTwice = codes "ColumnTwice"
name_of TypeConflict = codes "TypeConflict"
name_of SizeConflict = codes "SizeConflict"
name_of TypeOpen = codes "TypeOpen"
name_of SizeOpen = codes "SizeOpen"
name_of TypeNotHere = codes "TypeNotHere"
name_of ShapeRule = codes "ShapeRule"
name_of SignalTooLarge = codes "SignalTooLarge"
name_of AlgebraicLoop = codes "AlgebraicLoop"
name_of ScheduleTooLong = codes "ScheduleTooLong"
name_of NotC = codes "NotC"
name_of InputShape = codes "InputShape"
name_of InputRange = codes "InputRange"
name_of FileTooLong = codes "FileTooLong"
name_of Unbuilt = codes "Unbuilt"
name_of TagShape = codes "TagShape"
name_of TagTwice = codes "TagTwice"
name_of TagMissing = codes "TagMissing"
name_of TooManyTags = codes "TooManyTags"
name_of RunEnded = codes "RunEnded"
name_of NotSave = codes "NotSave"
name_of NotVcd = codes "NotVcd"
