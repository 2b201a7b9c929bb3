-- The active blocks of a row program what the run says.
use Rattle.std.proofs.Common.{◌≡◌, ℕ, zero, suc, ◌+◌, ◌-◌, ◌<◌, ◌≤◌, Bool, true, false, true≢false, ◌&&◌, ◌⊎◌, inl, inr, ℤ, negsuc, List, [], ◌∷◌, ◌++◌, AllPairs, Contains, length, take, get_or, if◌then◌else◌, refl, sym, ◌∙◌, ap, subst, arith}
use Rattle.sci_base.specs.Lists.{at, listed}
use Rattle.sci_forms.specs.declared.Kind.{Kind}
use Rattle.sci_forms.specs.declared.Kind.TheVariants.{EvtDly, EvtVarDly}
use Rattle.sci_forms.specs.declared.ports.Port.{Port as Signal}
use Rattle.sci_forms.specs.declared.spec.Spec.{Spec}
use Rattle.sci_forms.specs.Form.{is_sync, has_delay}
use Rattle.sci_forms.specs.Ports.{elements}
use Rattle.sci_kinds.specs.Asks.{laid}
use Rattle.sci_kinds.specs.Table.{delay}
use Rattle.sci_net.specs.declared.Feed.{Feed}
use Rattle.sci_net.specs.declared.Source.{Source}
use Rattle.sci_net.specs.Parts.{Parts, IsBlock, spec_of, wire_of}
use Rattle.sci_net.specs.Net.{IsNet}
use Rattle.sci_net.specs.Sources.{ports_to, block_sources, sources_from, sources_of, source_of}
use Rattle.sci_net.proofs.TypedSpecs.{all_typed, sources_few}
use Rattle.sci_reaction.specs.Equations.{Signals, output_among, input_in, all_inputs}
use Rattle.sci_reaction.proofs.Lists.{cons-Contains, and_both, and_true}
use Rattle.sci_pass.proofs.Meanings.{no_delay}
use Rattle.sci_pending.specs.Pending.{Pending}
use Rattle.sci_run.specs.Activity.{Activity}
use Rattle.sci_run.specs.Programs.{with_delays, delay_of, next_pending}
use Rattle.sci_places.specs.Flat.{values_at}
use Rattle.sci_store.specs.Marks.{mark_at}
use Rattle.sci_store.specs.Blocks.{AreBlocksByNumber}
use Rattle.sci_store.specs.Frame.{Fixed, seat_of, IsFrame}
use Rattle.sci_store.specs.Store.{Standing, ShowsValues}
use Rattle.sci_store.specs.Written.{AreAmong}
use Rattle.sci_store.specs.Chosen.{active_of_kinds}
use Rattle.sci_store.specs.Delays.{delays_in}
use Rattle.sci_sim.proofs.Delays.{source_at, sources_to, same_blocks, Rises, one, over, over_more, over_all}

-- ---- kinds with delays

not_sync : (k : Kind) → has_delay k ≡ true → is_sync k ≡ false
not_sync EvtDly h = refl
not_sync EvtVarDly h = refl
not_sync _ h = absurd (true≢false (sym h))

off_of : (t active : Bool) (d : ℤ) → (t && active) ≡ false → (t ≡ false → d ≡ negsuc 0) → (if active then d else negsuc 0) ≡ negsuc 0
off_of t false d h none = refl
off_of true true d h none = absurd (true≢false h)
off_of false true d h none = none refl

same_own : (t : Bool) (date : ℕ) (g : Feed → ℤ) (i k b m : ℕ) (p : Pending) → (1 ≤ m → i ≡ k)
    → with_delays date g i (if t then [] else ports_to b m) p ≡ with_delays date g k (if t then [] else ports_to b m) p
same_own true date g i k b m p h = refl
same_own false date g i k b zero p h = refl
same_own false date g i k b (suc m) p h = ap (λ (j : ℕ). with_delays date g j (ports_to b (suc m)) p) (h (omega arith))

-- ---- values that are the same at the blocks

laid_same : (ps : List Signal) (xs ys : ℕ → List ℤ) → ((k : ℕ) → 1 ≤ k → k ≤ length ps → xs k ≡ ys k) → laid ps xs ≡ laid ps ys
laid_same [] xs ys h = refl
laid_same (p ∷ ps) xs ys h =
    ap (λ (v : List ℤ). listed (at v) (elements p) ++ laid ps (λ k. xs (suc k))) (h 1 (omega arith) (omega arith))
    ∙ ap (λ (l : List ℤ). listed (at (ys 1)) (elements p) ++ l)
    (laid_same ps (λ k. xs (suc k)) (λ k. ys (suc k)) (λ k l m. h (suc k) (omega arith) (omega (arith, m))))

inputs_same : (n : Parts) (y z : Signals) → IsNet n → ((b : ℕ) → IsBlock n b → y b ≡ z b) → (b : ℕ) → IsBlock n b
    → all_inputs (spec_of n b) (input_in n y b) ≡ all_inputs (spec_of n b) (input_in n z b)
inputs_same n y z net value b inside =
    laid_same (spec_of n b).ins (input_in n y b) (input_in n z b)
    (λ k l m. ap (λ vs. output_among (spec_of n (wire_of n b k).block).outs vs (wire_of n b k).port)
    (value (wire_of n b k).block (net.wired.wires_lead b k (record { block = inside; least = l; most = m })).block))

-- ---- one block

sources_short : (n : Parts) → IsNet n → length (sources_of n) ≤ 2049
sources_short n net = let few = sources_few 1 n.specs (all_typed n net) in let most = net.wired.few in omega (arith, few, most)

module _ (f : Fixed) (frame : IsFrame f) (b : ℕ) (block : IsBlock f.net b) (delayed : has_delay (spec_of f.net b).kind ≡ true) where
  sync : is_sync (spec_of f.net b).kind ≡ false
  sync = not_sync (spec_of f.net b).kind delayed

  seat_sync : is_sync (seat_of f b).kind ≡ false
  seat_sync = ap is_sync (frame.seated b block).kind ∙ sync

  -- the sources of its activation outputs
  pub source_few : (p : ℕ) → p < (spec_of f.net b).evtout → (seat_of f b).first_source + p < 4294967296
  source_few p h = let within = (frame.seated b block).within seat_sync in let short = sources_short f.net frame.net in omega (arith, within, short, h)

  pub source_known : (ports p : ℕ) → ports + 1 ≡ length (sources_of f.net) → p < (spec_of f.net b).evtout
      → (1 ≤ (seat_of f b).first_source + p) × ((seat_of f b).first_source + p ≤ ports)
  source_known ports p e h =
      let within = (frame.seated b block).within seat_sync in
      let first = (frame.seated b block).first in
      (omega (arith, first), omega (arith, within, e, h))

  -- all its activation outputs
  pub own_ports : (date : ℕ) (g : Feed → ℤ) (k : ℕ) (p : Pending)
      → with_delays date g k (ports_to b (spec_of f.net b).evtout) p ≡ with_delays date g k (block_sources b (spec_of f.net b)) p
  own_ports date g k p = ap (λ (t : Bool). with_delays date g k (if t then [] else ports_to b (spec_of f.net b).evtout) p) (sym sync)

-- ---- the blocks of a row

abbrev pub first_of : Fixed → ℕ → ℕ
first_of f b = (seat_of f b).first_source

-- an active block with delays
abbrev pub programs : Fixed → Standing → ℕ → Bool
programs f s b = has_delay (spec_of f.net b).kind && (mark_at s.marks b).active

-- these blocks, one after another
abbrev pub row_programmed : Fixed → Standing → (date : ℕ) → List ℕ → Pending → Pending
row_programmed f s date bs p = over f.net date (delays_in f s) (programs f s) (first_of f) bs p

-- one block more
row_more : (f : Fixed) (s : Standing) (date : ℕ) (bs : List ℕ) (i b : ℕ) (p : Pending) → i < length bs → b ≡ get_or bs i 0
    → one f.net date (delays_in f s) (programs f s) (first_of f) b (row_programmed f s date (take i bs) p) ≡ row_programmed f s date (take (i + 1) bs) p
row_more f s date bs i b p h e =
    ap (λ (c : ℕ). one f.net date (delays_in f s) (programs f s) (first_of f) c (row_programmed f s date (take i bs) p)) e
    ∙ over_more f.net date (delays_in f s) (programs f s) (first_of f) bs i 0 p h

-- where the room for what goes in is another
pub row_on : (f : Fixed) (s t : Standing) (date : ℕ) (bs : List ℕ) (i b : ℕ) (p : Pending) → t ≡ record s { room = t.room } → i < length bs → b ≡ get_or bs i 0
    → has_delay (spec_of f.net b).kind ≡ true → (mark_at t.marks b).active ≡ true
    → with_delays date (delays_in f t) (first_of f b) (block_sources b (spec_of f.net b)) (row_programmed f s date (take i bs) p)
    ≡ row_programmed f s date (take (i + 1) bs) p
row_on f s t date bs i b p same h e delayed active =
    let before : Pending = row_programmed f s date (take i bs) p in
    let own : List Source = block_sources b (spec_of f.net b) in
    let is_on = and_true (has_delay (spec_of f.net b).kind) (mark_at s.marks b).active delayed
    (sym (ap (λ (u : Standing). (mark_at u.marks b).active) same) ∙ active) in
    ap (λ (u : Standing). with_delays date (delays_in f u) (first_of f b) own before) same
    ∙ (sym (ap (λ (on : Bool). if on then with_delays date (delays_in f s) (first_of f b) own before else before) is_on) ∙ row_more f s date bs i b p h e)

off_left : (x y : Bool) → x ≡ false → (x && y) ≡ false
off_left true y h = absurd (true≢false h)
off_left false y h = refl

off_right : (x y : Bool) → y ≡ false → (x && y) ≡ false
off_right true y h = h
off_right false y h = refl

pub row_off : (f : Fixed) (s t : Standing) (date : ℕ) (bs : List ℕ) (i b : ℕ) (p : Pending) → t ≡ record s { room = t.room } → i < length bs → b ≡ get_or bs i 0
    → (has_delay (spec_of f.net b).kind ≡ false) ⊎ ((mark_at t.marks b).active ≡ false)
    → row_programmed f s date (take i bs) p ≡ row_programmed f s date (take (i + 1) bs) p
row_off f s t date bs i b p same h e none =
    let before : Pending = row_programmed f s date (take i bs) p in
    let own : List Source = block_sources b (spec_of f.net b) in
    let x : Bool = has_delay (spec_of f.net b).kind in
    let y : Bool = (mark_at s.marks b).active in
    let is_off : (x && y) ≡ false = elim none [
      | inl left ↦ off_left x y left
      | inr right ↦ off_right x y (sym (ap (λ (u : Standing). (mark_at u.marks b).active) same) ∙ right)
    ] in
    sym (ap (λ (on : Bool). if on then with_delays date (delays_in f s) (first_of f b) own before else before) is_off) ∙ row_more f s date bs i b p h e

pub same_room : (s t u v : Standing) → v ≡ u → u ≡ record t { room = u.room } → t ≡ record s { room = t.room } → v ≡ record s { room = v.room }
same_room s t u v e a b =
    subst (λ (w : Standing). w ≡ record s { room = w.room }) (sym e) (a ∙ ap (λ (w : Standing). let x : Standing = record w { room = u.room } in x) b)

rises_of : (most r : ℕ) (bs : List ℕ) → AllPairs (λ b c. b < c) bs → ((c : ℕ) → Contains bs c → (r < c) × (c ≤ most)) → Rises most r bs
rises_of most r [] pairs each = tt
rises_of most r (b ∷ bs) pairs each =
    let here = each b (0, omega arith, refl) in (
      here.0,
      here.1,
      rises_of most b bs (λ i j d l h. pairs (suc i) (suc j) d (omega (arith, l)) (omega (arith, h)))
          (λ c has. (
            subst (λ (v : ℕ). b < v) has.2 (pairs 0 (suc has.0) c (omega arith) (omega (arith, has.1))),
            (each c (cons-Contains b bs c has)).1,
          )),
    )

module _ (f : Fixed) (frame : IsFrame f) where
  row_rises : (blocks : List ℕ) → AreBlocksByNumber f.net blocks → Rises (length f.net.specs) 0 blocks
  row_rises blocks h = rises_of (length f.net.specs) 0 blocks h.rising (λ c has. let b = h.blocks c has in (b.least, b.most))

  first_is : (b : ℕ) → IsBlock f.net (suc b) → has_delay (spec_of f.net (suc b)).kind ≡ true → 1 ≤ (spec_of f.net (suc b)).evtout
      → first_of f (suc b) ≡ length (sources_to f.net b)
  first_is b block delayed some =
      let seat = frame.seated (suc b) block in
      let k : ℕ = first_of f (suc b) in
      let alone = seat_sync f frame (suc b) block delayed in
      let within = seat.within alone in
      let here = seat.sources 1 (record { block = block; least = omega arith; most = some }) alone in
      let place = source_at f.net k (record { block = suc b; port = 1 }) seat.first (omega (arith, within, some))
      (ap (source_of f.net) (let same : k ≡ k + (1 - 1) = omega arith in same) ∙ here) in
      let before = ap (λ (d : ℕ). length (sources_from 1 (take d f.net.specs))) (let same : suc b - 1 ≡ b = omega arith in same) in
      omega (arith, place, before)

  module _ (s : Standing) (date : ℕ) where
    off : (b : ℕ) → IsBlock f.net b → programs f s b ≡ false → (i : ℕ) → delays_in f s (record { block = b; port = i }) ≡ negsuc 0
    off b block none i =
        off_of (has_delay (spec_of f.net b).kind) (mark_at s.marks b).active _ none
        (λ h. no_delay (spec_of f.net b) i (all_inputs (spec_of f.net b) (input_in f.net (values_at f.net s.values) b)) h)

    placed : (b : ℕ) (p : Pending) → IsBlock f.net (suc b) → programs f s (suc b) ≡ true
        → with_delays date (delays_in f s) (first_of f (suc b)) (block_sources (suc b) (spec_of f.net (suc b))) p
        ≡ with_delays date (delays_in f s) (length (sources_to f.net b)) (block_sources (suc b) (spec_of f.net (suc b))) p
    placed b p block is_on =
        same_own (is_sync (spec_of f.net (suc b)).kind) date (delays_in f s) (first_of f (suc b)) (length (sources_to f.net b)) (suc b)
        (spec_of f.net (suc b)).evtout p
        (λ some. first_is b block (and_both (has_delay (spec_of f.net (suc b)).kind) (mark_at s.marks (suc b)).active is_on).0 some)

    module _ (source : Source) (y : Signals) (active : Activity) (shown : ShowsValues f source s y active) where
      -- the delays on these values
      shown_delays : (q : Feed) → IsBlock f.net q.block → delays_in f s q ≡ delay_of f.net y active q
      shown_delays q block =
          let spec : Spec = spec_of f.net q.block in
          ap (λ (t : Bool). if t then delay spec q.port (all_inputs spec (input_in f.net (values_at f.net s.values) q.block)) else negsuc 0)
          (shown.active_are q.block block)
          ∙ ap (λ (u : List ℤ). if active q.block then delay spec q.port u else negsuc 0)
          (inputs_same f.net (values_at f.net s.values) y frame.net shown.values q.block block)

      pub row_all : (blocks : List ℕ) (p : Pending) → AreBlocksByNumber f.net blocks → AreAmong f.net (active_of_kinds f.net has_delay active) blocks
          → row_programmed f s date blocks p ≡ next_pending f.net date y active p
      row_all blocks p by_number among =
          over_all f.net date (delays_in f s) (programs f s) (first_of f) off placed blocks p (row_rises blocks by_number)
          (λ c block is_on. let both = and_both (has_delay (spec_of f.net c).kind) (mark_at s.marks c).active is_on in
          among c block (and_true (active c) (has_delay (spec_of f.net c).kind) (sym (shown.active_are c block) ∙ both.1) both.0))
          ∙ same_blocks f.net date (delays_in f s) (delay_of f.net y active) p shown_delays
