-- A bulk diagram keeps the bounds of a diagram that is read.
use Rattle.std.proofs.Common.{◌≡◌, ◌≤◌, ◌+◌, ◌-◌, ◌*◌, ◌++◌, ℕ, zero, suc, List, [], ◌∷◌, length, map, refl, ◌∙◌, ap, arith, pos}
use Rattle.std.proofs.lemmas.List.{length-append}
use Rattle.sci_diagram.specs.Objects.{Object, objects_of, listed}
use Rattle.sci_diagram.specs.Count.{blocks_in, links_in}
use Rattle.sci_blocks.specs.Sizes.{AreInsidesShort}
use Rattle.sci_flat.specs.Ready.{AreFieldsSmall, AreSmall, ports_in, IsReady}
use Rattle.sci_bulk.specs.declared.data_block.DataBlock.{DataBlock}
use Rattle.sci_bulk.specs.declared.data_block.DataBlock.TheVariants.{One, Delay, Sum, Triple}
use Rattle.sci_bulk.specs.Bulk.{fields, behind_block, blocks_from, data_blocks, clocks, clock, data_object, clock_link, links_into, links_from, drawing}
use Rattle.sci_bulk.specs.Laws.{BulkIsReady}

-- ---- counts of lists

blocks_append : (xs ys : List Object) → blocks_in (objects_of (xs ++ ys)) ≡ blocks_in (objects_of xs) + blocks_in (objects_of ys)
blocks_append [] ys = omega arith
blocks_append (x ∷ xs) ys = let e = blocks_append xs ys in omega (arith, e)

links_append : (xs ys : List Object) → links_in (objects_of (xs ++ ys)) ≡ links_in (objects_of xs) + links_in (objects_of ys)
links_append [] ys = omega arith
links_append (x ∷ xs) ys = let e = links_append xs ys in omega (arith, e)

ports_append : (xs ys : List Object) → ports_in (objects_of (xs ++ ys)) ≡ ports_in (objects_of xs) + ports_in (objects_of ys)
ports_append [] ys = omega arith
ports_append (x ∷ xs) ys = let e = ports_append xs ys in omega (arith, e)

small_append : (xs ys : List Object) → AreSmall (objects_of xs) → AreSmall (objects_of ys) → AreSmall (objects_of (xs ++ ys))
small_append [] ys h k = k
small_append (x ∷ xs) ys h k = (h.0, small_append xs ys h.1 k)

insides_append : (xs ys : List Object) → AreInsidesShort (objects_of xs) → AreInsidesShort (objects_of ys) → AreInsidesShort (objects_of (xs ++ ys))
insides_append [] ys h k = k
insides_append (x ∷ xs) ys h k = (h.0, insides_append xs ys h.1 k)

pub same_list : (xs : List Object) → listed (objects_of xs) ≡ xs
same_list [] = refl
same_list (x ∷ xs) = ap (λ (l : List Object). x ∷ l) (same_list xs)

-- ---- of the data blocks

data_count : (ds : List DataBlock) → blocks_in (objects_of (map data_object ds)) ≡ length ds
data_count [] = refl
data_count (One ∷ ds) = let e = data_count ds in omega (arith, e)
data_count (Delay c a ∷ ds) = let e = data_count ds in omega (arith, e)
data_count (Sum a b ∷ ds) = let e = data_count ds in omega (arith, e)
data_count (Triple a ∷ ds) = let e = data_count ds in omega (arith, e)

data_links : (ds : List DataBlock) → links_in (objects_of (map data_object ds)) ≡ 0
data_links [] = refl
data_links (One ∷ ds) = let e = data_links ds in omega (arith, e)
data_links (Delay c a ∷ ds) = let e = data_links ds in omega (arith, e)
data_links (Sum a b ∷ ds) = let e = data_links ds in omega (arith, e)
data_links (Triple a ∷ ds) = let e = data_links ds in omega (arith, e)

data_long : (ds : List DataBlock) → length (map data_object ds) ≡ length ds
data_long [] = refl
data_long (d ∷ ds) = let e = data_long ds in omega (arith, e)

data_ports : (ds : List DataBlock) → ports_in (objects_of (map data_object ds)) ≤ 3 * length ds
data_ports [] = omega arith
data_ports (One ∷ ds) = let e = data_ports ds in omega (arith, e)
data_ports (Delay c a ∷ ds) = let e = data_ports ds in omega (arith, e)
data_ports (Sum a b ∷ ds) = let e = data_ports ds in omega (arith, e)
data_ports (Triple a ∷ ds) = let e = data_ports ds in omega (arith, e)

data_small : (ds : List DataBlock) → AreSmall (objects_of (map data_object ds))
data_small [] = tt
data_small (One ∷ ds) = (record { ins = refl; in2 = refl; intyp = refl; outs = refl; out2 = refl; outtyp = refl }, data_small ds)
data_small (Delay c a ∷ ds) = (record { ins = refl; in2 = refl; intyp = refl; outs = refl; out2 = refl; outtyp = refl }, data_small ds)
data_small (Sum a b ∷ ds) = (record { ins = refl; in2 = refl; intyp = refl; outs = refl; out2 = refl; outtyp = refl }, data_small ds)
data_small (Triple a ∷ ds) = (record { ins = refl; in2 = refl; intyp = refl; outs = refl; out2 = refl; outtyp = refl }, data_small ds)

data_insides : (ds : List DataBlock) → AreInsidesShort (objects_of (map data_object ds))
data_insides [] = tt
data_insides (One ∷ ds) = (tt, data_insides ds)
data_insides (Delay c a ∷ ds) = (tt, data_insides ds)
data_insides (Sum a b ∷ ds) = (tt, data_insides ds)
data_insides (Triple a ∷ ds) = (tt, data_insides ds)

pub long_from : (count i x : ℕ) → length (blocks_from count i x) ≡ count
long_from zero i x = refl
long_from (suc count) i x = let e = long_from count (suc i) (behind_block x) in omega (arith, e)

pub data_length : (seed size : ℕ) → 1 ≤ size → length (data_blocks seed size) ≡ size
data_length seed size least = let e = long_from (size - 1) 2 seed in omega (arith, e)

-- ---- of their links

into_counts : (o : ℕ) (d : DataBlock) → (blocks_in (objects_of (links_into o d)) ≡ 0) × (ports_in (objects_of (links_into o d)) ≡ 0) × (length (links_into o d) ≤ 2)
into_counts o One = (refl, refl, omega arith)
into_counts o (Delay c a) = (refl, refl, omega arith)
into_counts o (Sum a b) = (refl, refl, omega arith)
into_counts o (Triple a) = (refl, refl, omega arith)

into_links : (o : ℕ) (d : DataBlock) → links_in (objects_of (links_into o d)) ≤ 2
into_links o One = omega arith
into_links o (Delay c a) = omega arith
into_links o (Sum a b) = omega arith
into_links o (Triple a) = omega arith

all_links : (o : ℕ) (ds : List DataBlock) → links_in (objects_of (links_from o ds)) ≤ 2 * length ds
all_links o [] = omega arith
all_links o (d ∷ ds) =
    let e = links_append (links_into o d) (links_from (suc o) ds) in
    omega (arith, e, into_links o d, all_links (suc o) ds)

into_small : (o : ℕ) (d : DataBlock) → AreSmall (objects_of (links_into o d)) × AreInsidesShort (objects_of (links_into o d))
into_small o One = (tt, tt)
into_small o (Delay c a) = ((tt, (tt, tt)), (tt, (tt, tt)))
into_small o (Sum a b) = ((tt, (tt, tt)), (tt, (tt, tt)))
into_small o (Triple a) = ((tt, tt), (tt, tt))

link_counts : (o : ℕ) (ds : List DataBlock) → (blocks_in (objects_of (links_from o ds)) ≡ 0) × (ports_in (objects_of (links_from o ds)) ≡ 0) × (length (links_from o ds) ≤ 2 * length ds)
link_counts o [] = (refl, refl, omega arith)
link_counts o (d ∷ ds) =
    let first = into_counts o d in
    let rest = link_counts (suc o) ds in (
      blocks_append (links_into o d) (links_from (suc o) ds) ∙ omega (arith, first.0, rest.0),
      ports_append (links_into o d) (links_from (suc o) ds) ∙ omega (arith, first.1, rest.1),
      omega (arith, length-append (links_into o d) (links_from (suc o) ds), first.2, rest.2),
    )

links_small : (o : ℕ) (ds : List DataBlock) → AreSmall (objects_of (links_from o ds)) × AreInsidesShort (objects_of (links_from o ds))
links_small o [] = (tt, tt)
links_small o (d ∷ ds) =
    let first = into_small o d in
    let rest = links_small (suc o) ds in
    (small_append (links_into o d) (links_from (suc o) ds) first.0 rest.0, insides_append (links_into o d) (links_from (suc o) ds) first.1 rest.1)

-- ---- of the whole

clock_small : (j : ℕ) → AreFieldsSmall (fields 0 0 1 1 (pos j ∷ []) [] (pos j ∷ []))
clock_small j = record { ins = refl; in2 = refl; intyp = refl; outs = refl; out2 = refl; outtyp = refl }

module _ (ds : List DataBlock) where
  links : List Object
  links = map clock_link clocks ++ links_from 9 ds

  behind_clocks : List Object
  behind_clocks = map data_object ds ++ (map clock_link clocks ++ links_from 9 ds)

  pub link_count : links_in (objects_of (drawing ds)) ≤ 8 + 2 * length ds
  link_count =
      let a = links_append (map clock clocks) (map data_object ds ++ (map clock_link clocks ++ links_from 9 ds)) in
      let b = links_append (map data_object ds) (map clock_link clocks ++ links_from 9 ds) in
      let c = links_append (map clock_link clocks) (links_from 9 ds) in
      omega (arith, a, b, c, data_links ds, all_links 9 ds)

  pub block_count : blocks_in (objects_of (drawing ds)) ≡ 8 + length ds
  block_count =
      let a = blocks_append (map clock clocks) (map data_object ds ++ (map clock_link clocks ++ links_from 9 ds)) in
      let b = blocks_append (map data_object ds) (map clock_link clocks ++ links_from 9 ds) in
      let c = blocks_append (map clock_link clocks) (links_from 9 ds) in
      omega (arith, a, b, c, data_count ds, (link_counts 9 ds).0)

  port_count : ports_in (objects_of (drawing ds)) ≤ 16 + 3 * length ds
  port_count =
      let a = ports_append (map clock clocks) (map data_object ds ++ (map clock_link clocks ++ links_from 9 ds)) in
      let b = ports_append (map data_object ds) (map clock_link clocks ++ links_from 9 ds) in
      let c = ports_append (map clock_link clocks) (links_from 9 ds) in
      omega (arith, a, b, c, data_ports ds, (link_counts 9 ds).1)

  object_count : length (drawing ds) ≤ 16 + 3 * length ds
  object_count =
      let a = length-append (map clock clocks) (map data_object ds ++ (map clock_link clocks ++ links_from 9 ds)) in
      let b = length-append (map data_object ds) (map clock_link clocks ++ links_from 9 ds) in
      let c = length-append (map clock_link clocks) (links_from 9 ds) in
      omega (arith, a, b, c, data_long ds, (link_counts 9 ds).2)

  all_small : AreSmall (objects_of (drawing ds))
  all_small =
      (clock_small 1, (clock_small 2, (clock_small 3, (clock_small 4, (clock_small 5, (clock_small 6, (clock_small 7, (clock_small 8, small_append (map data_object ds) (map clock_link clocks ++ links_from 9 ds) (data_small ds) (tt, (tt, (tt, (tt, (tt, (tt, (tt, (tt, (links_small 9 ds).0))))))))))))))))

  all_insides : AreInsidesShort (objects_of (drawing ds))
  all_insides =
      (tt, (tt, (tt, (tt, (tt, (tt, (tt, (tt, insides_append (map data_object ds) (map clock_link clocks ++ links_from 9 ds) (data_insides ds) (tt, (tt, (tt, (tt, (tt, (tt, (tt, (tt, (links_small 9 ds).1))))))))))))))))

  pub ready : length ds ≤ 2000 → IsReady (objects_of (drawing ds))
  ready most = record {
    short = (omega (arith, ap length (same_list (drawing ds)), object_count, most), all_insides);
    few = omega (arith, block_count, most);
    few_ports = omega (arith, port_count, most);
    small = all_small;
  }

pub bulk_is_ready : BulkIsReady
bulk_is_ready seed size least most = ready (data_blocks seed size) (omega (arith, data_length seed size least, most))
