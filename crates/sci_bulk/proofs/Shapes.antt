-- The objects of a bulk diagram by their shapes, and what holds of each shape.
use Rattle.std.proofs.Common.{◌≡◌, ◌++◌, ℕ, suc, List, [], ◌∷◌, map, codes, true, false, Ok, ℤ, pos, refl}
use Rattle.std.specs.Str.{bytes_eq}
use Rattle.sci_diagram.specs.Objects.{Object}
use Rattle.sci_forms.specs.declared.Kind.TheVariants.{Const, Summation, GainBlk, Dollar, EvtDly}
use Rattle.sci_forms.specs.declared.ports.Port.{Port}
use Rattle.sci_forms.specs.declared.spec.Spec.{Spec}
use Rattle.sci_blocks.specs.declared.class.PortClass.{PortClass}
use Rattle.sci_blocks.specs.declared.class.PortClass.TheVariants.{Input, Output, ActivationInput, ActivationOutput}
use Rattle.sci_blocks.specs.Blocks.{placed, object_parts}
use Rattle.sci_blocks.specs.Ports.{name_of, named_number, object_number}
use Rattle.sci_goto.specs.Phase.{object_standing}
use Rattle.sci_bulk.specs.declared.data_block.DataBlock.{DataBlock}
use Rattle.sci_bulk.specs.declared.data_block.DataBlock.TheVariants.{One, Delay, Sum, Triple}
use Rattle.sci_bulk.specs.Bulk.{clocks, clock, data_object, activates, feeds, clock_link, links_into, links_from, drawing}

-- ---- lists

abbrev pub Each : {A : Type 0} → (A → Type 0) → List A → Type 0
Each P [] = Unit {0}
Each P (x ∷ xs) = P x × Each P xs

pub each_append : {A : Type 0} (P : A → Type 0) (xs ys : List A) → Each P xs → Each P ys → Each P (xs ++ ys)
each_append P [] ys h k = k
each_append P (x ∷ xs) ys h k = (h.0, each_append P xs ys h.1 k)

-- ---- shapes

abbrev pub block_objects : List DataBlock → List Object
block_objects ds = map clock clocks ++ map data_object ds

abbrev pub link_objects : List DataBlock → List Object
link_objects ds = map clock_link clocks ++ links_from 9 ds

pub blocks_then_links : (ds : List DataBlock) → drawing ds ≡ block_objects ds ++ link_objects ds
blocks_then_links ds = refl

each_data : (P : Object → Type 0) → ((d : DataBlock) → P (data_object d)) → (ds : List DataBlock) → Each P (map data_object ds)
each_data P h [] = tt
each_data P h (d ∷ ds) = (h d, each_data P h ds)

pub each_block : (P : Object → Type 0) → ((j : ℕ) → P (clock j)) → ((d : DataBlock) → P (data_object d)) → (ds : List DataBlock) → Each P (block_objects ds)
each_block P c h ds = (c 1, (c 2, (c 3, (c 4, (c 5, (c 6, (c 7, (c 8, each_data P h ds))))))))

each_into : (P : Object → Type 0) → ((c o : ℕ) → P (activates c o)) → ((a o p : ℕ) → P (feeds a o p)) → (o : ℕ) (d : DataBlock) → Each P (links_into o d)
each_into P h k o One = tt
each_into P h k o (Delay c a) = (h c o, (k a o 1, tt))
each_into P h k o (Sum a b) = (k a o 1, (k b o 2, tt))
each_into P h k o (Triple a) = (k a o 1, tt)

each_from : (P : Object → Type 0) → ((c o : ℕ) → P (activates c o)) → ((a o p : ℕ) → P (feeds a o p)) → (o : ℕ) (ds : List DataBlock) → Each P (links_from o ds)
each_from P h k o [] = tt
each_from P h k o (d ∷ ds) = each_append P (links_into o d) (links_from (suc o) ds) (each_into P h k o d) (each_from P h k (suc o) ds)

pub each_link : (P : Object → Type 0) → ((c o : ℕ) → P (activates c o)) → ((a o p : ℕ) → P (feeds a o p)) → (ds : List DataBlock) → Each P (link_objects ds)
each_link P h k ds = (h 1 1, (h 2 2, (h 3 3, (h 4 4, (h 5 5, (h 6 6, (h 7 7, (h 8 8, each_from P h k 9 ds))))))))

-- ---- specs

abbrev pub int32 : Port
int32 = record { rows = pos 1; cols = pos 1; ty = pos 3 }

abbrev pub clock_spec : ℕ → Spec
clock_spec j = record { kind = EvtDly; params = pos j ∷ []; state = []; firing = pos j ∷ []; ins = []; outs = []; evtin = 1; evtout = 1; feed = [] }

abbrev pub data_spec : DataBlock → Spec
data_spec One = record { kind = Const; params = pos 1 ∷ []; state = []; firing = []; ins = []; outs = int32 ∷ []; evtin = 0; evtout = 0; feed = [] }
data_spec (Delay c a) = record { kind = Dollar; params = []; state = pos 0 ∷ []; firing = []; ins = int32 ∷ []; outs = int32 ∷ []; evtin = 1; evtout = 0; feed = false ∷ [] }
data_spec (Sum a b) = record { kind = Summation; params = pos 0 ∷ pos 1 ∷ pos 1 ∷ []; state = []; firing = []; ins = int32 ∷ int32 ∷ []; outs = int32 ∷ []; evtin = 0; evtout = 0; feed = true ∷ true ∷ [] }
data_spec (Triple a) = record { kind = GainBlk; params = pos 0 ∷ pos 3 ∷ []; state = []; firing = []; ins = int32 ∷ []; outs = int32 ∷ []; evtin = 0; evtout = 0; feed = true ∷ [] }

abbrev pub specs_of : List DataBlock → List Spec
specs_of ds = map clock_spec clocks ++ map data_spec ds

each_data_spec : (P : Spec → Type 0) → ((d : DataBlock) → P (data_spec d)) → (ds : List DataBlock) → Each P (map data_spec ds)
each_data_spec P h [] = tt
each_data_spec P h (d ∷ ds) = (h d, each_data_spec P h ds)

pub each_spec : (P : Spec → Type 0) → ((j : ℕ) → P (clock_spec j)) → ((d : DataBlock) → P (data_spec d)) → (ds : List DataBlock) → Each P (specs_of ds)
each_spec P c h ds = (c 1, (c 2, (c 3, (c 4, (c 5, (c 6, (c 7, (c 8, each_data_spec P h ds))))))))

-- ---- no tags

abbrev pub IsUntagged : Object → Type 0
IsUntagged o = (at here : List ℕ) → object_standing at here o ≡ []

clock_untagged : (j : ℕ) → IsUntagged (clock j)
unfolding object_standing
clock_untagged j at here = refl

data_untagged : (d : DataBlock) → IsUntagged (data_object d)
unfolding object_standing
data_untagged One at here = refl
data_untagged (Delay c a) at here = refl
data_untagged (Sum a b) at here = refl
data_untagged (Triple a) at here = refl

activation_untagged : (c o : ℕ) → IsUntagged (activates c o)
unfolding object_standing
activation_untagged c o at here = refl

feed_untagged : (a o p : ℕ) → IsUntagged (feeds a o p)
unfolding object_standing
feed_untagged a o p at here = refl

pub all_untagged : (ds : List DataBlock) → Each IsUntagged (drawing ds)
all_untagged ds =
    each_append IsUntagged (block_objects ds) (link_objects ds) (each_block IsUntagged clock_untagged data_untagged ds) (each_link IsUntagged activation_untagged feed_untagged ds)

-- ---- no port blocks

abbrev pub IsUnnumbered : Object → Type 0
IsUnnumbered o = (c : PortClass) → object_number c o ≡ []

unnamed : (gui : List ℕ) (ps : List ℤ) → bytes_eq gui (name_of Input) ≡ false → bytes_eq gui (name_of Output) ≡ false → bytes_eq gui (name_of ActivationInput) ≡ false → bytes_eq gui (name_of ActivationOutput) ≡ false
    → (c : PortClass) → named_number c gui ps ≡ []
unnamed gui ps i o e f Input = rw i refl
unnamed gui ps i o e f Output = rw o refl
unnamed gui ps i o e f ActivationInput = rw e refl
unnamed gui ps i o e f ActivationOutput = rw f refl

clock_unnumbered : (j : ℕ) → IsUnnumbered (clock j)
clock_unnumbered j c = unnamed (codes "EVTDLY_c") (pos j ∷ []) refl refl refl refl c

data_unnumbered : (d : DataBlock) → IsUnnumbered (data_object d)
data_unnumbered One k = unnamed (codes "CONST_m") (pos 1 ∷ []) refl refl refl refl k
data_unnumbered (Delay c a) k = unnamed (codes "DOLLAR_m") [] refl refl refl refl k
data_unnumbered (Sum a b) k = unnamed (codes "SUMMATION") (pos 0 ∷ pos 1 ∷ pos 1 ∷ []) refl refl refl refl k
data_unnumbered (Triple a) k = unnamed (codes "GAINBLK") (pos 0 ∷ pos 3 ∷ []) refl refl refl refl k

pub all_unnumbered : (ds : List DataBlock) → Each IsUnnumbered (drawing ds)
all_unnumbered ds =
    each_append IsUnnumbered (block_objects ds) (link_objects ds) (each_block IsUnnumbered clock_unnumbered data_unnumbered ds)
    (each_link IsUnnumbered (λ c o k. refl) (λ a o p k. refl) ds)

-- ---- each block keeps the form of its kind

-- the check of the object gives this spec
abbrev pub IsGiven : Object → Spec → Type 0
IsGiven o s = (here : List ℕ) → object_parts here o ≡ Ok (placed here s ∷ [])

abbrev pub AreGiven : List Object → List Spec → Type 0
AreGiven [] [] = Unit {0}
AreGiven [] (s ∷ ss) = ⊥
AreGiven (o ∷ os) [] = ⊥
AreGiven (o ∷ os) (s ∷ ss) = IsGiven o s × AreGiven os ss

data_given : (d : DataBlock) → IsGiven (data_object d) (data_spec d)
unfolding object_parts
data_given One here = refl
data_given (Delay c a) here = refl
data_given (Sum a b) here = refl
data_given (Triple a) here = refl

all_data_given : (ds : List DataBlock) → AreGiven (map data_object ds) (map data_spec ds)
all_data_given [] = tt
all_data_given (d ∷ ds) = (data_given d, all_data_given ds)

pub all_given : (ds : List DataBlock) → AreGiven (block_objects ds) (specs_of ds)
unfolding object_parts
all_given ds = (λ h. refl, (λ h. refl, (λ h. refl, (λ h. refl, (λ h. refl, (λ h. refl, (λ h. refl, (λ h. refl, all_data_given ds))))))))

abbrev pub GivesNone : Object → Type 0
GivesNone o = (here : List ℕ) → object_parts here o ≡ Ok []

activation_none : (c o : ℕ) → GivesNone (activates c o)
unfolding object_parts
activation_none c o here = refl

feed_none : (a o p : ℕ) → GivesNone (feeds a o p)
unfolding object_parts
feed_none a o p here = refl

pub links_none : (ds : List DataBlock) → Each GivesNone (link_objects ds)
links_none ds = each_link GivesNone activation_none feed_none ds
