-- A reaction has at most one result.
use Rattle.std.proofs.Common.{◌≡◌, ℕ, ◌<◌, ◌⊎◌, inl, inr, ⊎_elim, ℤ, List, Result, Ok, Err, sym, subst, arith}
use Rattle.std.proofs.lemmas.Bool.{cases_order}
use Rattle.sci_base.specs.declared.observation.StopWord.{StopWord}
use Rattle.sci_loop.specs.Grounded.{Grounded}
use Rattle.sci_loop.proofs.Grounded.{no_loop_grounded}
use Rattle.sci_loop.proofs.Depth.{has_depth, one_depth, depth_falls}
use Rattle.sci_net.specs.declared.Source.{Source}
use Rattle.sci_net.specs.Parts.{Parts, IsBlock, IsWired}
use Rattle.sci_reaction.specs.Active.{Possible}
use Rattle.sci_reaction.specs.Depends.{Depends, IsLoopFree, HasDepth, Precedes}
use Rattle.sci_reaction.specs.Memory.{Memory, Columns}
use Rattle.sci_reaction.specs.Equations.{Signals, Gives, Meets}
use Rattle.sci_reaction.specs.Result.{Reaction, Whole, Stopped, IsResult, AreSame}
use Rattle.sci_reaction.proofs.Spreading.{possible, Spread-block}
use Rattle.sci_reaction.proofs.Agreement.{IsFair, Settled, Settled-flip, active_there, same_given, agrees}
use Rattle.sci_reaction.proofs.Decide.{bound, block_below, decide_depends}

-- ---- depth

module _ (n : Parts) (s : Source) (free : IsLoopFree n s) where
  pub needs_below : (c d : ℕ) → Depends n s c d → d < bound n
  needs_below c d h = block_below n d (Spread-block n s _ h.on_possible)

  pub ground : (c : ℕ) → IsBlock n c → Grounded (Depends n s) c
  ground c h = no_loop_grounded (Depends n s) (bound n) needs_below free c (block_below n c h)

  pub depth_of : (c : ℕ) → Possible n s c → (d : ℕ) × HasDepth n s c d
  depth_of c may = has_depth (Depends n s) (bound n) (decide_depends n s) needs_below c (ground c (Spread-block n s _ may))

  -- what a block depends on stands before it
  pub need_precedes : (b c : ℕ) → Depends n s b c → Precedes n s c b
  need_precedes b c dep =
      let x = depth_of b dep.possible in let y = depth_of c dep.on_possible in
      record { depth = y.0; later_depth = x.0; has = y.1; later_has = x.1; less = inl (depth_falls (Depends n s) b c x.0 y.0 dep x.1 y.1) }

  pub precedes_trans : (a b c : ℕ) → Precedes n s a b → Precedes n s b c → Precedes n s a c
  precedes_trans a b c p q =
      let same = one_depth (Depends n s) b p.later_depth q.depth p.later_has q.has in
      record {
        depth = p.depth;
        later_depth = q.later_depth;
        has = p.has;
        later_has = q.later_has;
        less = ⊎_elim
            (λ lt. ⊎_elim (λ gt. inl (omega (arith, lt, gt, same))) (λ eq. inl (omega (arith, lt, eq.0, same))) q.less)
            (λ lt. ⊎_elim (λ gt. inl (omega (arith, lt.0, gt, same))) (λ eq. inr (omega (arith, lt.0, eq.0, same), omega (arith, lt.1, eq.1))) q.less) p.less;
      }

  pub irreflexive : (b : ℕ) → Precedes n s b b → ⊥
  irreflexive b p =
      let same = one_depth (Depends n s) b p.depth p.later_depth p.has p.later_has in ⊎_elim (λ lt. omega (arith, lt, same)) (λ eq. omega (arith, eq.1)) p.less

  pub precedes_cases : (a b : ℕ) → Possible n s a → Possible n s b → (a ≡ b) ⊎ (Precedes n s a b ⊎ Precedes n s b a)
  precedes_cases a b ma mb =
      let x = depth_of a ma in let y = depth_of b mb in
      ⊎_elim
      (λ level. ⊎_elim (λ same. inl same)
      (λ apart. inr (⊎_elim
      (λ lt. inl (record { depth = x.0; later_depth = y.0; has = x.1; later_has = y.1; less = inr (level, lt) }))
      (λ gt. inr (record { depth = y.0; later_depth = x.0; has = y.1; later_has = x.1; less = inr (sym level, gt) })) apart)) (cases_order a b))
      (λ apart. inr (⊎_elim
      (λ lt. inl (record { depth = x.0; later_depth = y.0; has = x.1; later_has = y.1; less = inl lt }))
      (λ gt. inr (record { depth = y.0; later_depth = x.0; has = y.1; later_has = x.1; less = inl gt })) apart)) (cases_order x.0 y.0)

-- ---- one result

module _ (n : Parts) (m : Memory) (i : Columns) (s : Source) (ok : IsWired n) (fair : IsFair n m i) (free : IsLoopFree n s) where
  -- the equations of all blocks that aren't possible or stand before b
  abbrev MeetsBefore : Signals → ℕ → Type 0
  MeetsBefore y b = (c : ℕ) → IsBlock n c → (Possible n s c → Precedes n s c b) → Meets n m i s y c

  closed_before : (b c d : ℕ) → Precedes n s c b → Depends n s c d → Precedes n s d b
  closed_before b c d p dep = precedes_trans n s free d c b (need_precedes n s free c d dep) p

  settled_before : (y z : Signals) (b : ℕ) → MeetsBefore y b → MeetsBefore z b → Settled n m i s ok fair y z b
  settled_before y z b my mz d dep =
      agrees n m i s ok fair (λ c. Precedes n s c b) (closed_before b) y z my mz (ground n s free d (Spread-block n s _ dep.on_possible))
      (λ may. need_precedes n s free b d dep)

  -- where both meet the equations of what stands before b, b gives the same on both
  gives_same : (y z : Signals) (b : ℕ) (f g : Result (List ℤ) StopWord) → MeetsBefore y b → MeetsBefore z b → Gives n m i s y b f → Gives n m i s z b g → f ≡ g
  gives_same y z b f g my mz on too =
      same_given n m i s ok fair (λ c. Precedes n s c b) (closed_before b) y z my mz b f g (λ d dep. need_precedes n s free b d dep)
      (settled_before y z b my mz) on too

  -- so b does not have a value on one and none on the other
  clash : (y z : Signals) (b : ℕ) (word : StopWord) → MeetsBefore y b → MeetsBefore z b → Meets n m i s y b → Gives n m i s z b (Err word) → ⊥
  clash y z b word my mz meets none =
      ⊎_elim
      (λ on. let same = gives_same y z b (Ok (y b)) (Err word) my mz on none in cc)
      (λ off. off.idle (active_there n m i s ok fair z y b (Settled-flip n m i s ok fair y z b (settled_before y z b my mz)) none.active))
      meets

  -- of two stops the one that stands before the other has its value there
  stop_first : (b c : ℕ) (v w : StopWord) → IsResult n m i s (Stopped b v) → IsResult n m i s (Stopped c w) → Precedes n s b c → ⊥
  stop_first b c v w p q before =
      clash q.0 p.0 b v (λ d l within. q.1 d l (λ may. precedes_trans n s free d b c (within may) before)) p.1
      (q.1 b (Spread-block n s _ p.2.active) (λ may. before)) p.2

  same_word : (b : ℕ) (v w : StopWord) → IsResult n m i s (Stopped b v) → IsResult n m i s (Stopped b w) → v ≡ w
  same_word b v w p q = let same = gives_same p.0 q.0 b (Err v) (Err w) p.1 q.1 p.2 q.2 in cc

  pub one_result : (x y : Reaction) → IsResult n m i s x → IsResult n m i s y → AreSame n x y
  one_result (Whole y) (Whole z) my mz = λ b inside.
      (agrees n m i s ok fair (Possible n s) (λ c d h dep. dep.on_possible) y z (λ d l within. my d l) (λ d l within. mz d l) (ground n s free b inside) (λ may. may)).value inside
  one_result (Whole y) (Stopped b w) my stop =
      clash y stop.0 b w (λ c l within. my c l) stop.1 (my b (Spread-block n s _ stop.2.active)) stop.2
  one_result (Stopped b v) (Whole z) stop mz =
      clash z stop.0 b v (λ c l within. mz c l) stop.1 (mz b (Spread-block n s _ stop.2.active)) stop.2
  one_result (Stopped b v) (Stopped c w) p q =
      ⊎_elim
      (λ same. (same, same_word c v w (subst (λ k. IsResult n m i s (Stopped k v)) same p) q))
      (λ apart. absurd (⊎_elim (λ before. stop_first b c v w p q before) (λ after. stop_first c b w v q p after) apart))
      (precedes_cases n s free b c (possible n s _ p.2.active) (possible n s _ q.2.active))
