-- Blocks that some source may activate.
use Rattle.std.proofs.Common.{◌≡◌, ◌<◌, ◌+◌, ◌-◌, ◌↔◌, ◌∙◌, ℕ, Bool, true, false, true≢false, List, ◌∷◌, [], ◌++◌, ◌⊎◌, inl, inr, ⊎_elim, refl, sym, ap, subst, arith, length, get_or, length-append}
use Rattle.std.specs.Prelude.{Contains, All}
use Rattle.std.proofs.lemmas.Bool.{cases_eq}
use Rattle.std.proofs.lemmas.List.{get_or_append_left, get_or_push}
use Rattle.std.proofs.lemmas.List.Elements.{Contains-get_or}
use Rattle.sci_forms.specs.Form.{is_sync}
use Rattle.sci_loop.specs.Lists.{list_at}
use Rattle.sci_loop.specs.Reached.{IsReached, start, onward}
use Rattle.sci_loop.specs.Walk.{IsMarked}
use Rattle.sci_net.specs.declared.Feed.{Feed}
use Rattle.sci_net.specs.declared.Source.{Source}
use Rattle.sci_net.specs.declared.Source.TheVariants.{Start, Port}
use Rattle.sci_net.specs.Parts.{Parts, IsBlock, spec_of}
use Rattle.sci_net.specs.Net.{IsNet}
use Rattle.sci_reaction.specs.Links.{Supplies, Inherits, IsConstant, IsSource, SetOff}
use Rattle.sci_reaction.specs.Active.{Inherited, seeded, passed, IsSync, Possible, set_off, inherited}
use Rattle.sci_reaction.specs.Depends.{Conditions}
use Rattle.sci_reaction.proofs.Spreading.{Spread-least, from_guard}
use Rattle.sci_inherit.specs.declared.gather.Senders.{Senders}
use Rattle.sci_inherit.specs.declared.gather.Senders.TheVariants.{Each, Synchronous}
use Rattle.sci_inherit.specs.declared.Fed.{Fed}
use Rattle.sci_inherit.specs.Followers.{row_at, AreFedBy, AreRows, AreTargets}
use Rattle.sci_inherit.specs.Live.{IsLive, FedFrom, SetOffUpto, AreWanted, IsWanted, WantedTo}
use Rattle.sci_inherit.specs.Gather.{IsSender}
use Rattle.sci_inherit.proofs.Gathering.{reaches_block}

-- ---- rows that are filled

pub sender_wanted : (n : Parts) (w : List Bool) (s : Senders) (b : ℕ) → IsSender n w s b → IsMarked w b
sender_wanted n w Each b h = h
sender_wanted n w Synchronous b h = h.0

pub row_of_wanted : (n : Parts) (w : List Bool) (rows : List (List (List Fed))) (q : Feed) → AreRows n w rows → IsMarked w q.block → AreFedBy n q (row_at rows q)
row_of_wanted n w rows q are on f = ((λ h. ((are q f).0 h).1), λ h. (are q f).1 (on, h))

-- ---- what some source sets off

pub targets_inside : (n : Parts) (ls : List (List ℕ)) (m : ℕ) → AreTargets n ls → m ≡ length n.specs + 1 → (a : ℕ) → All (λ b. b < m) (list_at ls a)
targets_inside n ls m are count a j d h =
    let f = (are a (get_or (list_at ls a) j d)).0 (Contains-get_or (list_at ls a) j d h) in
    let l = f.feeds.within.block.most in omega (arith, l, count)

pub adds_fed : (n : Parts) (c : ℕ) (ls : List (List ℕ)) (l old new : List ℕ) → AreTargets n ls → l ≡ list_at ls c → (IsSync n c → ⊥) → ((b : ℕ) → Contains new b ↔ (Contains old b ⊎ Contains l b))
    → (b : ℕ) → Contains new b ↔ (Contains old b ⊎ FedFrom n c b)
adds_fed n c ls l old new are is other adds b = (
  (λ h. elim ((adds b).0 h) [
    | inl o ↦ inl o
    | inr t ↦ inr (record { other = other; feeds = (are c b).0 (subst (λ (m : List ℕ). Contains m b) is t) })
  ]),
  λ h. (adds b).1 (elim h [ inl o ↦ inl o | inr f ↦ inr (subst (λ (m : List ℕ). Contains m b) (sym is) ((are c b).1 f.feeds)) ]),
)

pub adds_no_fed : (n : Parts) (c : ℕ) (old : List ℕ) → IsSync n c → (b : ℕ) → Contains old b ↔ (Contains old b ⊎ FedFrom n c b)
adds_no_fed n c old sync b = ((λ h. inl h), λ h. elim h [ inl o ↦ o | inr f ↦ absurd (f.other sync) ])

pub set_off_none : (n : Parts) (found : List ℕ) → ((b : ℕ) → Contains found b ↔ IsConstant n b) → IsNet n → (b : ℕ) → Contains found b ↔ SetOffUpto n 0 b
set_off_none n found are net b = (
  (λ h. inl ((are b).0 h)),
  λ h. elim h [
    | inl c ↦ (are b).1 c
    | inr u ↦ let f = u.fed.feeds in let l = (net.wired.feeds_lead b f.feeds.input (record { block = u.block; port = f.port }) f.feeds.within f.feeds.fed).block.least in let m = u.below in absurd (omega (arith, l, m))
  ],
)

pub set_off_next : (n : Parts) (k : ℕ) (old new : List ℕ) → ((b : ℕ) → Contains new b ↔ (Contains old b ⊎ FedFrom n (k + 1) b)) → ((b : ℕ) → Contains old b ↔ SetOffUpto n k b)
    → (b : ℕ) → Contains new b ↔ SetOffUpto n (k + 1) b
set_off_next n k old new adds before b = (
  (λ h. elim ((adds b).0 h) [
    | inl o ↦ elim ((before b).0 o) [ inl c ↦ inl c | inr u ↦ inr (record { block = u.block; below = let l = u.below in omega (arith, l); fed = u.fed }) ]
    | inr f ↦ inr (record { block = k + 1; below = omega arith; fed = f })
  ]),
  λ h. (adds b).1 (elim h [
    | inl c ↦ inl ((before b).1 (inl c))
    | inr u ↦ ⊎_elim
        (λ s. inr (subst (λ (j : ℕ). FedFrom n j b) s u.fed))
        (λ d. inl ((before b).1 (inr (record { block = u.block; below = let l = u.below in omega (arith, l, d); fed = u.fed }))))
        (cases_eq u.block (k + 1))
  ]),
)

pub set_off_block : (n : Parts) (k : ℕ) (b : ℕ) → SetOffUpto n k b → IsBlock n b
set_off_block n k b h = elim h [ inl c ↦ c.block | inr u ↦ u.fed.feeds.feeds.within.block ]

-- ---- what some source may activate

not_true : (b : Bool) → (b ≡ true → ⊥) → b ≡ false
not_true true h = absurd (h refl)
not_true false h = refl

pub onward_inside : (n : Parts) (os : List (List ℕ)) (m : ℕ) → ((c b : ℕ) → Contains (list_at os c) b ↔ Conditions n c b) → m ≡ length n.specs + 1 → (c : ℕ) → All (λ b. b < m) (list_at os c)
onward_inside n os m are count c j d h =
    let k = (are c (get_or (list_at os c) j d)).0 (Contains-get_or (list_at os c) j d h) in
    let l = (reaches_block n (record { block = c; port = k.branch }) k.reaches).most in omega (arith, l, count)

module _ (n : Parts) (net : IsNet n) (os : List (List ℕ)) (bs : List ℕ) (always : (b : ℕ) → Contains bs b ↔ Inherited n (SetOffUpto n (length n.specs)) b)
    (are : (c b : ℕ) → Contains (list_at os c) b ↔ Conditions n c b) where
  abbrev port : ℕ → ℕ → Feed
  port c p = record { block = c; port = p }

  from_seed : {b : ℕ} → SetOffUpto n (length n.specs) b → IsLive n b
  from_seed {b} h = elim h [
    | inl c ↦ record { source = Start; is_source = tt; possible = set_off b c }
    | inr u ↦ let f = u.fed.feeds in record {
      source = Port (port u.block f.port);
      is_source = (net.wired.feeds_lead b f.feeds.input (port u.block f.port) f.feeds.within f.feeds.fed, not_true (is_sync (spec_of n u.block).kind) u.fed.other);
      possible = set_off b f.feeds;
    }
  ]

  inherits : {b : ℕ} → Inherited n (SetOffUpto n (length n.specs)) b → IsLive n b
  inherits (seeded b h) = from_seed h
  inherits (passed a b d i u) = let l = inherits d in record { source = l.source; is_source = l.is_source; possible = inherited a b l.possible i u }

  to : {b : ℕ} → IsReached os bs b → IsLive n b
  to (start b h) = inherits ((always b).0 h)
  to (onward a b r h) = let k = (are a b).0 h in let l = to r in record {
    source = l.source;
    is_source = l.is_source;
    possible = from_guard n l.source _ a k.branch l.possible k.sync tt k.reaches;
  }

  -- what is reached is closed under inheritance
  inherit : (a b : ℕ) → IsReached os bs a → Inherits n b → Supplies n a b → IsReached os bs b
  inherit a b (start c h) i u = start b ((always b).1 (passed c b ((always c).0 h) i u))
  inherit a b (onward c d r h) i u = let k = (are c d).0 h in onward c b r ((are c b).1 (record { sync = k.sync; branch = k.branch; reaches = passed d b k.reaches i u }))

  seed : (s : Source) → IsSource n s → (b : ℕ) → SetOff n s b → SetOffUpto n (length n.specs) b
  seed Start is b h = inl h
  seed (Port q) is b h = inr (record {
    block = q.block;
    below = let m = is.0.block.most in omega (arith, m);
    fed = record { other = λ t. true≢false (sym t ∙ is.1); feeds = record { port = q.port; feeds = h } };
  })

  from : (s : Source) → IsSource n s → {b : ℕ} → Possible n s b → IsReached os bs b
  from s is p = Spread-least n s _ (IsReached os bs)
      (λ b h. start b ((always b).1 (seeded b (seed s is b h))))
      (λ c q b r y t f. onward c b r ((are c b).1 (record { sync = y; branch = q; reaches = seeded b f })))
      inherit p

  pub live_are : (b : ℕ) → IsReached os bs b ↔ IsLive n b
  live_are b = (to, λ l. from l.source l.is_source l.possible)

-- ---- marks

pub wanted_none : (n : Parts) (w : List Bool) → w ≡ false ∷ [] → WantedTo n 0 w
wanted_none n w e = record { long = ap length e; each = λ c h. absurd (omega (arith, h)) }

pub wanted_next : (n : Parts) (k : ℕ) (mark : Bool) (old new : List Bool) → new ≡ old ++ mark ∷ [] → IsWanted n (k + 1) mark → WantedTo n k old → WantedTo n (k + 1) new
wanted_next n k mark old new e here before = record {
  long = let a = ap length e in let b = length-append old (mark ∷ []) in omega (arith, a, b, before.long);
  each = λ c h. ⊎_elim
      (λ s. subst (IsWanted n (c + 1)) (sym (ap (λ (l : List Bool). get_or l (c + 1) false) e ∙ get_or_push old mark false (c + 1) (let l = before.long in omega (arith, l, s)))) (subst (λ (j : ℕ). IsWanted n (j + 1) mark) (sym s) here))
      (λ d. subst (IsWanted n (c + 1)) (sym (ap (λ (l : List Bool). get_or l (c + 1) false) e ∙ get_or_append_left old (mark ∷ []) false (c + 1) (let l = before.long in omega (arith, l, h, d)))) (before.each c (omega (arith, h, d))))
      (cases_eq c k);
}

pub wanted_all : (n : Parts) (k : ℕ) (w : List Bool) → k ≡ length n.specs → WantedTo n k w → AreWanted n w
wanted_all n k w all t = record {
  long = let l = t.long in omega (arith, l, all);
  sources = λ c is other. (each c is).source other;
  live = λ c is sync. (each c is).live sync;
}
  where
    each : (c : ℕ) → IsBlock n c → IsWanted n c (get_or w c false)
    each c is =
        let low = is.least in let high = is.most in
        let at : (c - 1) + 1 ≡ c = omega (arith, low) in
        subst (λ (j : ℕ). IsWanted n j (get_or w j false)) at (t.each (c - 1) (omega (arith, low, high, all)))
