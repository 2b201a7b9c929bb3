-- The numbers that a walk gives do not pass the number of ports.
use Rattle.std.proofs.Common.{◌≡◌, ◌+◌, ◌<◌, ◌≤◌, ◌^◌, ℕ, List, length, drop, get_or, map, arith}
use Rattle.sci_diagram.specs.Objects.{Object, Objects, block, superblock, link, text, deleted, no_objects, object, objects_of, object_view}
use Rattle.sci_diagram.specs.declared.diagram.Obj.{Obj}
use Rattle.sci_flat.specs.PortNumbers.{past}
use Rattle.sci_flat.specs.Numbers.{object_seat, own_past, insides_past, inside_past}
use Rattle.sci_flat.specs.Ready.{field_ports, ports_in}
use Rattle.sci_flat.proofs.Walking.{opened}

-- ---- numbers grow

pub past_least : (n : ℕ) (o : Object) → n ≤ past (object_seat n o)
past_least n (block gui f) = omega arith
past_least n (superblock gui f os) = omega arith
past_least n (link from to kind) = omega arith
past_least n text = omega arith
past_least n deleted = omega arith

pub own_least : (n : ℕ) (os : Objects) → n ≤ own_past n os
own_least n no_objects = omega arith
own_least n (object o os) = let one = past_least n o in let more = own_least (past (object_seat n o)) os in omega (arith, one, more)

mutual
  unfolding insides_past inside_past

  pub insides_least : (n : ℕ) (os : Objects) → n ≤ insides_past n os
  insides_least n no_objects = omega arith
  insides_least n (object o os) = let one = inside_least n o in let more = insides_least (inside_past n o) os in omega (arith, one, more)

  pub inside_least : (n : ℕ) (o : Object) → n ≤ inside_past n o
  inside_least n (block gui f) = omega arith
  inside_least n (superblock gui f os) = let one = own_least n os in let more = insides_least (own_past n os) os in omega (arith, one, more)
  inside_least n (link from to kind) = omega arith
  inside_least n text = omega arith
  inside_least n deleted = omega arith

-- the next object's ports, and what is inside it, have room
pub past_room : (os : List Obj) (i : ℕ) (r : Obj) → i < length os → r ≡ get_or os i r → (n w : ℕ) → own_past n (objects_of (map object_view (drop i os))) ≡ w → w < 2 ^ 32 → past (object_seat n (object_view r)) < 2 ^ 32
past_room os i r h is n w whole low =
    let now : own_past (past (object_seat n (object_view r))) (objects_of (map object_view (drop (i + 1) os))) ≡ w = rw (opened os i r h is) at whole in
    let least = own_least (past (object_seat n (object_view r))) (objects_of (map object_view (drop (i + 1) os))) in
    omega (arith, now, least, low)

pub inside_room : (os : List Obj) (i : ℕ) (r : Obj) → i < length os → r ≡ get_or os i r → (n w : ℕ) → insides_past n (objects_of (map object_view (drop i os))) ≡ w → w < 2 ^ 32 → inside_past n (object_view r) < 2 ^ 32
unfolding insides_past
inside_room os i r h is n w whole low =
    let now : insides_past (inside_past n (object_view r)) (objects_of (map object_view (drop (i + 1) os))) ≡ w = rw (opened os i r h is) at whole in
    let least = insides_least (inside_past n (object_view r)) (objects_of (map object_view (drop (i + 1) os))) in
    omega (arith, now, least, low)

-- ---- all the ports

abbrev pub own_ports : Objects → ℕ
own_ports no_objects = 0
own_ports (object (block gui f) os) = field_ports f + own_ports os
own_ports (object (superblock gui f is) os) = field_ports f + own_ports os
own_ports (object (link from to kind) os) = own_ports os
own_ports (object text os) = own_ports os
own_ports (object deleted os) = own_ports os

own_all : (n : ℕ) (os : Objects) → own_past n os ≡ n + own_ports os
own_all n no_objects = omega arith
own_all n (object (block gui f) os) = let more = own_all (past (object_seat n (block gui f))) os in omega (arith, more)
own_all n (object (superblock gui f is) os) = let more = own_all (past (object_seat n (superblock gui f is))) os in omega (arith, more)
own_all n (object (link from to kind) os) = let more = own_all (past (object_seat n (link from to kind))) os in omega (arith, more)
own_all n (object text os) = let more = own_all (past (object_seat n text)) os in omega (arith, more)
own_all n (object deleted os) = let more = own_all (past (object_seat n deleted)) os in omega (arith, more)

mutual
  unfolding insides_past inside_past

  pub insides_all : (n : ℕ) (os : Objects) → insides_past n os + own_ports os ≡ n + ports_in os
  insides_all n no_objects = omega arith
  insides_all n (object (block gui f) os) = let more = insides_all n os in omega (arith, more)
  insides_all n (object (superblock gui f is) os) =
      let own = own_all n is in
      let inner = insides_all (own_past n is) is in
      let more = insides_all (insides_past (own_past n is) is) os in
      omega (arith, own, inner, more)
  insides_all n (object (link from to kind) os) = let more = insides_all n os in omega (arith, more)
  insides_all n (object text os) = let more = insides_all n os in omega (arith, more)
  insides_all n (object deleted os) = let more = insides_all n os in omega (arith, more)

pub all_ports : (os : Objects) → insides_past (own_past 0 os) os ≡ ports_in os
all_ports os = let own = own_all 0 os in let inner = insides_all (own_past 0 os) os in omega (arith, own, inner)
