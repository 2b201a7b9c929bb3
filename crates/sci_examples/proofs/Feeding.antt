-- Which port feeds which, worked out by hand, beside what stands in sci_goto and sci_flat.
use Rattle.std.proofs.Common.{◌≡◌, ℕ, false, inl, inr, ℤ, pos, List, [], ◌∷◌, Some, None, Ok, Err, refl, lit≤, lit<, arith}
use Rattle.sci_base.specs.declared.refusal.Rule.TheVariants.{TooManyTags, TagTwice, TagMissing}
use Rattle.sci_diagram.specs.declared.diagram.End.{End}
use Rattle.sci_diagram.specs.Objects.{Objects, block, objects_of}
use Rattle.sci_blocks.specs.declared.class.LinkType.TheVariants.{Regular, Activation}
use Rattle.sci_blocks.specs.declared.class.PortClass.TheVariants.{Input, Output, ActivationInput, ActivationOutput}
use Rattle.sci_blocks.specs.Blocks.{Placed, placed}
use Rattle.sci_goto.specs.declared.tag.Tag.{Tag}
use Rattle.sci_goto.specs.declared.tag.Scope.TheVariants.{Local, Global}
use Rattle.sci_goto.specs.declared.tag.TagForm.TheVariants.{WrongParameters, Gives}
use Rattle.sci_goto.specs.Forms.{tag_number, scope_of, giver_form, taker_form}
use Rattle.sci_goto.specs.Phase.{standing_in, object_standing, Giving, Taking, within, same_link, server, few_enough, given_once, served_by, gathered, all_served, tags_of}
use Rattle.sci_goto.specs.Worked.{around, wire, constant, gain}
use Rattle.sci_flat.specs.Chain.{Chain, stay, onward}
use Rattle.sci_flat.specs.Ports.{port, link_steps, split_steps, union_steps, port_steps, steps_of, object_steps, tree_steps}
use Rattle.sci_flat.specs.Tagged.{tag_step}
use Rattle.sci_flat.specs.declared.steps.port_numbers.PortNumbers.{PortNumbers}
use Rattle.sci_flat.specs.PortNumbers.{past, start, port_number}
use Rattle.sci_flat.specs.Flat.{IsWire}
use Rattle.sci_flat.specs.Refused.{ShareColumn, IsTaken, no_source, column_twice}
use Rattle.sci_examples.proofs.Blocks.{sensor, sum}

-- ---- tags

tag_0 : tag_number (pos 0) ≡ None
tag_0 = refl

greatest_tag : tag_number (pos 2147483647) ≡ Some 2147483647
greatest_tag = refl

tag_above : tag_number (pos 2147483648) ≡ None
tag_above = refl

scope_1 : scope_of (pos 1) ≡ Some Local
scope_1 = refl

scope_3 : scope_of (pos 3) ≡ Some Global
scope_3 = refl

scope_2 : scope_of (pos 2) ≡ None
scope_2 = refl

abbrev tag : ℕ → Tag
tag n = record { link = Regular; number = n }

-- tag 7 everywhere: the number stands before the scope
seven_everywhere : giver_form Regular (pos 7 ∷ pos 3 ∷ []) ≡ Gives (tag 7) Global
seven_everywhere = refl

-- what takes a tag names no scope
scope_taken : taker_form Regular (pos 7 ∷ pos 1 ∷ []) ≡ WrongParameters
scope_taken = refl

local_within : within Local (4 ∷ []) ≡ Some (4 ∷ [])
local_within = refl

kinds_apart : same_link Regular Activation ≡ false
kinds_apart = refl

-- given at 1 everywhere, at 2 in the outermost diagram, and at 3/1 in the diagram at 3
abbrev everywhere : Giving
everywhere = record { place = 1 ∷ []; tag = tag 7; within = None }

abbrev outermost : Giving
outermost = record { place = 2 ∷ []; tag = tag 7; within = Some [] }

abbrev inner : Giving
inner = record { place = 3 ∷ 1 ∷ []; tag = tag 7; within = Some (3 ∷ []) }

abbrev taking_at : List ℕ → Taking
taking_at place = record { place = 4 ∷ []; around = place; tag = tag 7 }

-- the diagram's own is preferred, wherever it stands among those that give
own_preferred : server (everywhere ∷ outermost ∷ inner ∷ []) (taking_at []) ≡ Some outermost
own_preferred = refl

-- in a diagram that has none of its own the one that is given everywhere
everywhere_else : server (outermost ∷ inner ∷ everywhere ∷ []) (taking_at (5 ∷ [])) ≡ Some everywhere
everywhere_else = refl

-- that of another diagram isn't seen
not_seen : server (inner ∷ []) (taking_at []) ≡ None
not_seen = refl

-- 1,024 tag objects are few enough, and one more are not
most_tags : few_enough 1024 ≡ Ok tt
most_tags = refl

too_many : few_enough 1025 ≡ Err (record { rule = TooManyTags; place = []; detail = pos 1025 ∷ [] })
too_many = refl

given_twice : given_once (record { givers = outermost ∷ []; takers = [] }) (record outermost { place = 6 ∷ [] }) ≡ Err (record { rule = TagTwice; place = 6 ∷ []; detail = pos 7 ∷ [] })
given_twice = refl

-- the refusal is at what takes the tag
missing : served_by (taking_at []) None ≡ Err (record { rule = TagMissing; place = 4 ∷ []; detail = pos 7 ∷ [] })
missing = refl

-- ---- steps

abbrev end : ℤ → ℤ → ℤ → End
end b p side = record { block = b; port = p; side = side }

-- in the diagram at place 9, from output 1 of object 2 to input 2 of object 3
along_link : link_steps (9 ∷ []) (end (pos 2) (pos 1) (pos 0)) (end (pos 3) (pos 2) (pos 1)) (Some Regular)
    ≡ (port (9 ∷ 2 ∷ []) Output (pos 1), port (9 ∷ 3 ∷ []) Input (pos 2)) ∷ []
along_link = refl

through_split : split_steps (3 ∷ []) Input Output 2
    ≡ (port (3 ∷ []) Input (pos 1), port (3 ∷ []) Output (pos 1)) ∷ (port (3 ∷ []) Input (pos 1), port (3 ∷ []) Output (pos 2)) ∷ []
through_split = refl

through_union : union_steps (3 ∷ []) 2
    ≡ (port (3 ∷ []) ActivationInput (pos 1), port (3 ∷ []) ActivationOutput (pos 1)) ∷ (port (3 ∷ []) ActivationInput (pos 2), port (3 ∷ []) ActivationOutput (pos 1)) ∷ []
through_union = refl

-- input 4 of the superblock at 5 is the output of the port block inside, and its output 4 the input of one
into_superblock : port_steps (5 ∷ []) (5 ∷ 2 ∷ []) Input (pos 4) ≡ (port (5 ∷ []) Input (pos 4), port (5 ∷ 2 ∷ []) Output (pos 1)) ∷ []
into_superblock = refl

out_of_superblock : port_steps (5 ∷ []) (5 ∷ 2 ∷ []) Output (pos 4) ≡ (port (5 ∷ 2 ∷ []) Input (pos 1), port (5 ∷ []) Output (pos 4)) ∷ []
out_of_superblock = refl

-- a superblock as the second object, with a link as its third: positions are those of the diagram inside
abbrev with_inside : Objects
with_inside = objects_of (constant ∷ around (constant ∷ gain ∷ wire 1 2 (pos 1) ∷ []) ∷ [])

inside : tree_steps with_inside ≡ (port (2 ∷ 1 ∷ []) Output (pos 1), port (2 ∷ 2 ∷ []) Input (pos 1)) ∷ []
unfolding steps_of object_steps
inside = refl

-- from the input of what gives the tag to the output of what takes it
tag_leads : tag_step (taking_at []) (Some outermost) ≡ (port (2 ∷ []) Input (pos 1), port (4 ∷ []) Output (pos 1)) ∷ []
tag_leads = refl

two_steps : Chain {A = ℕ} ((1, 2) ∷ (2, 3) ∷ []) 1 3
two_steps = onward (onward stay (inl (refl, refl))) (inr (inl (refl, refl)))

-- ---- seats: two inputs, three outputs, one activation input and four activation outputs, from number 10 on

abbrev seat : PortNumbers
seat = record { first = 10; ins = 2; outs = 3; evtin = 1; evtout = 4 }

past_seat : past seat ≡ 20
past_seat = refl

first_output : start seat Output ≡ 12
first_output = refl

first_activation_output : start seat ActivationOutput ≡ 16
first_activation_output = refl

third_output : port_number seat Output (pos 3) ≡ Some 14
third_output = refl

fourth_output : port_number seat Output (pos 4) ≡ None
fourth_output = refl

-- ---- flat nets

-- a gain as the first object and a constant as the second, with a link between them
abbrev drawn : Objects
drawn = objects_of (gain ∷ constant ∷ wire 2 1 (pos 1) ∷ [])

abbrev drawn_blocks : List Placed
drawn_blocks = placed (1 ∷ []) sum ∷ placed (2 ∷ []) (sensor (pos 1)) ∷ []

gain_fed : IsWire drawn drawn_blocks 1 1 (record { block = 2; port = 1 })
unfolding steps_of object_steps standing_in object_standing gathered all_served tags_of
gain_fed = record { least = lit≤ tt; most = lit≤ tt; fed = onward stay (inl (refl, refl)) }

abbrev two_sensors : List Placed
two_sensors = placed (3 ∷ []) (sensor (pos 6)) ∷ placed (4 ∷ []) (sensor (pos 6)) ∷ []

share : ShareColumn (sensor (pos 6)) (sensor (pos 6))
share = record { first = refl; second = refl; column = refl }

other_columns : ShareColumn (sensor (pos 1)) (sensor (pos 2)) → ⊥
other_columns h = let e = h.column in omega (arith, e)

-- the second is the one too many, and the column is told
second_taken : IsTaken two_sensors 2
second_taken = (1, lit≤ tt, lit< tt, share)

column_told : (column_twice two_sensors 2).detail ≡ pos 6 ∷ []
column_told = refl

unfed_at : (no_source two_sensors 2 5).place ≡ 4 ∷ []
unfed_at = refl

unfed_told : (no_source two_sensors 2 5).detail ≡ pos 5 ∷ []
unfed_told = refl
