-- The bounds of files and runs as the page on formats has them. Clauses and code cite them by name, so that this file alone has their numbers once more.
use Rattle.std.proofs.Common.{◌≡◌, pos, refl}
use Rattle.sci_base.specs.declared.limits.TheConstants.{DIAGRAM_BYTES, INPUT_BYTES, TEXT_BYTES, LEVELS, BLOCKS, LINKS, TAGS, PORTS, PORT_ELEMENTS}
use Rattle.sci_base.specs.declared.limits.TheConstants.{ALL_ELEMENTS, ENTRIES, DELAY, TICKS, EVENTS}

diagram_bytes : DIAGRAM_BYTES ≡ 16777216
diagram_bytes = refl

input_bytes : INPUT_BYTES ≡ 16777216
input_bytes = refl

text_bytes : TEXT_BYTES ≡ 67108864
text_bytes = refl

levels : LEVELS ≡ 16
levels = refl

blocks : BLOCKS ≡ 2048
blocks = refl

links : LINKS ≡ 16384
links = refl

tags : TAGS ≡ 1024
tags = refl

ports : PORTS ≡ 64
ports = refl

elements_of_a_port : PORT_ELEMENTS ≡ 256
elements_of_a_port = refl

all_elements : ALL_ELEMENTS ≡ 65536
all_elements = refl

entries : ENTRIES ≡ 262144
entries = refl

delay : DELAY ≡ pos 2147483647
delay = refl

ticks : TICKS ≡ 4611686018427387904
ticks = refl

events : EVENTS ≡ 1000000
events = refl
