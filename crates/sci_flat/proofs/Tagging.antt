-- The numbers of the tag objects' ports.
use Rattle.std.proofs.Common.{◌≡◌, ◌<◌, ◌≤◌, ◌+◌, ℕ, ℤ, pos, List, [], ◌∷◌, ◌++◌, length, Bool, true, false, cond, not, Option, Some, None, refl, subst, arith, get_or}
use Rattle.std.specs.Prelude.{is_none}
use Rattle.std.specs.List.{AllZip}
use Rattle.std.proofs.lemmas.Bool.Decides.{nat_tests}
use Rattle.sci_base.specs.Plain.{Fields}
use Rattle.sci_diagram.specs.Objects.{Object, block, superblock, link, text, deleted, Objects, no_objects, object}
use Rattle.sci_forms.specs.declared.broken.Broken.{Broken}
use Rattle.sci_forms.specs.declared.forms.Counts.{Counts}
use Rattle.sci_forms.specs.Forms.{within}
use Rattle.sci_check.specs.Check.{shape}
use Rattle.sci_blocks.specs.declared.class.PortClass.{PortClass}
use Rattle.sci_blocks.specs.declared.class.PortClass.TheVariants.{Input, Output, ActivationInput, ActivationOutput}
use Rattle.sci_blocks.specs.declared.class.LinkType.{LinkType}
use Rattle.sci_blocks.specs.declared.class.LinkType.TheVariants.{Regular, Activation}
use Rattle.sci_blocks.specs.declared.pass_through.PassThrough.{PassThrough}
use Rattle.sci_blocks.specs.declared.pass_through.PassThrough.TheVariants.{Split, ActivationSplit, Union, PortBlock, Giver, Taker}
use Rattle.sci_blocks.specs.Rows.{pass_through, row, row_broken, has_its_ports}
use Rattle.sci_blocks.specs.Wiring.{source_class, target_class}
use Rattle.sci_goto.specs.declared.tag.Scope.{Scope}
use Rattle.sci_goto.specs.declared.tag.TagForm.{TagForm}
use Rattle.sci_goto.specs.declared.tag.TagForm.TheVariants.{WrongPorts}
use Rattle.sci_goto.specs.Forms.{tag_number, scope_of, gives_as, takes_as, giver_form, taker_form, by_ports, form_of}
use Rattle.sci_goto.specs.Phase.{standing_as, standing_in, object_standing, standing}
use Rattle.sci_flat.specs.declared.steps.port_numbers.PortNumbers.{PortNumbers}
use Rattle.sci_flat.specs.PortNumbers.{seat_at, past, start, count}
use Rattle.sci_flat.specs.Ports.{Port, port}
use Rattle.sci_flat.specs.Numbers.{object_seat, seats, own_past, inside_past, tag_numbers, tags_by, object_tags_by}
use Rattle.sci_flat.specs.Numbered.{no_port, IsNumberOf, IsTagNumber, IsStandingNumber}
use Rattle.sci_flat.proofs.Listing.{object_names, own_names, inside_names, inside_object, tree_names, past_object, past_own, past_inside, At, at_left, at_right, Seated, object_seated}
use Rattle.sci_flat.proofs.Naming.{at_whole}
use Rattle.sci_flat.proofs.Placing.{zip_append}

-- ---- the port of one tag object

unbroken : (o : Option Broken) → is_none o ≡ true → o ≡ None
unbroken None h = refl
unbroken (Some x) h = cc

if_none : (b : Bool) (x : Broken) (r : Option Broken) → cond (not b) (Some x) r ≡ None → (b ≡ true) × (r ≡ None)
if_none true x r h = (refl, h)
if_none false x r h = cc

-- so many ports of each class as these counts ask
record HasPorts (c : Counts) (f : Fields) : Type 0 where
  ins : within c.ins_least c.ins_most (length f.ins) ≡ true
  outs : within c.outs_least c.outs_most (length f.outs) ≡ true
  evtin : within c.evtin_least c.evtin_most f.evtin ≡ true
  evtout : within c.evtout_least c.evtout_most f.evtout ≡ true

counted : (p : PassThrough) (f : Fields) → has_its_ports p f ≡ true → HasPorts (row p) f
counted p f h =
    let c = row p in
    let a = if_none (within c.ins_least c.ins_most (length f.ins)) (shape (pos 1) (length f.ins)) _ (unbroken (row_broken c f) h) in
    let b = if_none (within c.outs_least c.outs_most (length f.outs)) (shape (pos 2) (length f.outs)) _ a.1 in
    let d = if_none (within c.evtin_least c.evtin_most f.evtin) (shape (pos 3) f.evtin) _ b.1 in
    let e = if_none (within c.evtout_least c.evtout_most f.evtout) (shape (pos 4) f.evtout) None d.1 in
    record { ins = a.0; outs = b.0; evtin = d.0; evtout = e.0 }

exactly : (a n : ℕ) → within a a n ≡ true → n ≡ a
exactly a n h = grind (arith, nat_tests)

first_is : (names : List Port) (here : List ℕ) (s : PortNumbers) (c : PortClass) → Seated names here s → start s c ≡ s.first → 1 ≤ count s c → IsNumberOf names s.first (port here c (pos 1))
first_is names here s c a first one =
    let here_is : start s c + 0 ≡ s.first = omega (arith, first) in
    record { inside = subst (λ (i : ℕ). i < length names) here_is (a.inside c 0 one); named = subst (λ (i : ℕ). get_or names i no_port ≡ port here c (pos 1)) here_is (a.named c 0 one) }

-- the input of what gives a tag, the output of what takes one
giver_port : (names : List Port) (here : List ℕ) (m : ℕ) (f : Fields) (l : LinkType) → Seated names here (seat_at m f) → has_its_ports (Giver l) f ≡ true → IsNumberOf names m (port here (target_class l) (pos 1))
giver_port names here m f Regular a h =
    let p = counted (Giver Regular) f h in
    first_is names here (seat_at m f) Input a refl (omega (arith, exactly 1 (length f.ins) p.ins))
giver_port names here m f Activation a h =
    let p = counted (Giver Activation) f h in
    first_is names here (seat_at m f) ActivationInput a (omega (arith, exactly 0 (length f.ins) p.ins, exactly 0 (length f.outs) p.outs)) (omega (arith, exactly 1 f.evtin p.evtin))

taker_port : (names : List Port) (here : List ℕ) (m : ℕ) (f : Fields) (l : LinkType) → Seated names here (seat_at m f) → has_its_ports (Taker l) f ≡ true → IsNumberOf names m (port here (source_class l) (pos 1))
taker_port names here m f Regular a h =
    let p = counted (Taker Regular) f h in
    first_is names here (seat_at m f) Output a (omega (arith, exactly 0 (length f.ins) p.ins)) (omega (arith, exactly 1 (length f.outs) p.outs))
taker_port names here m f Activation a h =
    let p = counted (Taker Activation) f h in
    first_is names here (seat_at m f) ActivationOutput a (omega (arith, exactly 0 (length f.ins) p.ins, exactly 0 (length f.outs) p.outs, exactly 0 f.evtin p.evtin)) (omega (arith, exactly 1 f.evtout p.evtout))

by_giver : (names : List Port) (here : List ℕ) (m : ℕ) (l : LinkType) (ps : List ℤ) → IsNumberOf names m (port here (target_class l) (pos 1)) → IsTagNumber names here (giver_form l ps) m
by_giver names here m l [] n = tt
by_giver names here m l (x ∷ []) n = tt
by_giver names here m l (x ∷ s ∷ []) n = gives (tag_number x) (scope_of s)
  where
    gives : (a : Option ℕ) (b : Option Scope) → IsTagNumber names here (gives_as l a b) m
    gives None b = tt
    gives (Some k) None = tt
    gives (Some k) (Some scope) = n
by_giver names here m l (x ∷ s ∷ y ∷ ys) n = tt

by_taker : (names : List Port) (here : List ℕ) (m : ℕ) (l : LinkType) (ps : List ℤ) → IsNumberOf names m (port here (source_class l) (pos 1)) → IsTagNumber names here (taker_form l ps) m
by_taker names here m l [] n = tt
by_taker names here m l (x ∷ []) n = takes (tag_number x)
  where
    takes : (a : Option ℕ) → IsTagNumber names here (takes_as l a) m
    takes None = tt
    takes (Some k) = n
by_taker names here m l (x ∷ y ∷ ys) n = tt

where_ports : (names : List Port) (here : List ℕ) (m : ℕ) (p : PassThrough) (f : Fields) (form : TagForm) → (has_its_ports p f ≡ true → IsTagNumber names here form m) → IsTagNumber names here (by_ports p f form) m
where_ports names here m p f form g = on (has_its_ports p f) refl
  where
    on : (b : Bool) → has_its_ports p f ≡ b → IsTagNumber names here (cond b form WrongPorts) m
    on true e = g e
    on false e = tt

-- ---- all

block_tags : (names : List Port) (at here : List ℕ) (m : ℕ) (f : Fields) (p : Option PassThrough) → Seated names here (seat_at m f) → AllZip (IsStandingNumber names) (standing_as at here (form_of p f)) (tag_numbers (seat_at m f) p)
block_tags names at here m f None a = tt
block_tags names at here m f (Some Split) a = tt
block_tags names at here m f (Some ActivationSplit) a = tt
block_tags names at here m f (Some Union) a = tt
block_tags names at here m f (Some (PortBlock c)) a = tt
block_tags names at here m f (Some (Giver l)) a = (where_ports names here m (Giver l) f (giver_form l f.ipar) (λ h. by_giver names here m l f.ipar (giver_port names here m f l a h)), tt)
block_tags names at here m f (Some (Taker l)) a = (where_ports names here m (Taker l) f (taker_form l f.ipar) (λ h. by_taker names here m l f.ipar (taker_port names here m f l a h)), tt)

mutual
  unfolding standing_in object_standing tags_by object_tags_by

  diagram_tags : (names : List Port) (at : List ℕ) (k m n : ℕ) (os : Objects) → At names m (own_names at k os) → At names n (inside_names at k os) → AllZip (IsStandingNumber names) (standing_in at k os) (tags_by (seats m os) n os)
  diagram_tags names at k m n no_objects own inside = tt
  diagram_tags names at k m n (object o os) own inside =
      let here = at ++ k ∷ [] in
      let one = object_tags names at here m n o (at_left names m (object_names here o) (own_names at (k + 1) os) own) (at_left names n (inside_object here o) (inside_names at (k + 1) os) inside) in
      let more = diagram_tags names at (k + 1) (past (object_seat m o)) (inside_past n o) os
      (at_right names m (past (object_seat m o)) (object_names here o) (own_names at (k + 1) os) (past_object here m o) own)
      (at_right names n (inside_past n o) (inside_object here o) (inside_names at (k + 1) os) (past_inside here n o) inside) in
      zip_append (IsStandingNumber names) _ _ _ _ one more

  object_tags : (names : List Port) (at here : List ℕ) (m n : ℕ) (o : Object) → At names m (object_names here o) → At names n (inside_object here o) → AllZip (IsStandingNumber names) (object_standing at here o) (object_tags_by (object_seat m o) n o)
  object_tags names at here m n (block gui f) own inside = block_tags names at here m f (pass_through gui) (object_seated names here m (block gui f) own)
  object_tags names at here m n (superblock gui f os) own inside =
      diagram_tags names here 1 n (own_past n os) os (at_left names n (own_names here 1 os) (inside_names here 1 os) inside) (at_right names n (own_past n os) (own_names here 1 os) (inside_names here 1 os) (past_own here 1 n os) inside)
  object_tags names at here m n (link from to kind) own inside = tt
  object_tags names at here m n text own inside = tt
  object_tags names at here m n deleted own inside = tt

pub tree_tags : (t : Objects) → AllZip (IsStandingNumber (tree_names t)) (standing t) (tags_by (seats 0 t) (own_past 0 t) t)
tree_tags t =
    let names = tree_names t in
    let own = at_left names 0 (own_names [] 1 t) (inside_names [] 1 t) (at_whole names) in
    let inside = at_right names 0 (own_past 0 t) (own_names [] 1 t) (inside_names [] 1 t) (past_own [] 1 0 t) (at_whole names) in
    diagram_tags names [] 1 0 (own_past 0 t) t own inside
