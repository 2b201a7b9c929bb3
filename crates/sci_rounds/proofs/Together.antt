-- Blocks that are ready at once, done one after another on the values at the beginning.
use Rattle.std.proofs.Common.{◌≡◌, ℕ, zero, suc, ◌+◌, ◌<◌, Bool, true, false, ◌⊎◌, inl, inr, ⊎_elim, ℤ, List, [], ◌∷◌, ◌++◌, length, get_or, Contains, Option, Some, None, Ok, Err, refl, sym, ap, subst, ◌∙◌, arith, true≢false}
use Rattle.std.proofs.lemmas.Bool.{cases_eq}
use Rattle.sci_base.specs.declared.observation.StopWord.{StopWord}
use Rattle.sci_net.specs.declared.Source.{Source}
use Rattle.sci_net.specs.Parts.{Parts, IsBlock, spec_of}
use Rattle.sci_net.specs.Net.{IsNet}
use Rattle.sci_reaction.specs.Active.{Possible, IsSync}
use Rattle.sci_reaction.specs.Depends.{IsLoopFree}
use Rattle.sci_reaction.specs.Memory.{Memory, Columns}
use Rattle.sci_reaction.specs.Equations.{Signals, input_in, branch_on, answer, Active, IsMaskOf}
use Rattle.sci_reaction.specs.Schedule.{Entry, blocks_of}
use Rattle.sci_reaction.specs.Pass.{Progress, put, applies, mask_in, with_values, IsFront}
use Rattle.sci_reaction.proofs.Lists.{Contains-cons, cons-Contains, put_same, put_other, Has-push, Has-left, Has-pushed}
use Rattle.sci_reaction.proofs.Rows.{Contains-has, has-Contains, block_in}
use Rattle.sci_pass.specs.Noted.{IsNoted}
use Rattle.sci_rounds.specs.Rounds.{IsClosed, IsReady, TellsActivation, IsNextDone, IsAlikeOn}
use Rattle.sci_rounds.proofs.Fronts.{ready_is_next, ready_is_alike}

-- it was ready at the beginning, and its entry tells when it is active
pub record IsNextHere (n : Parts) (s : Source) (begun : List ℕ) (e : Entry) : Type 0 where
  pub ready : IsReady n s begun e.block
  pub tells : TellsActivation n s e

-- no number stands twice
abbrev pub Apart : List ℕ → Type 0
Apart [] = Unit {0}
Apart (b ∷ bs) = (Contains bs b → ⊥) × Apart bs

pushed-left : (xs : List ℕ) (b c : ℕ) → Contains xs c → Contains (xs ++ b ∷ []) c
pushed-left xs b c h = has-Contains (xs ++ b ∷ []) c (Has-left xs (b ∷ []) c (Contains-has xs c h))

pushed-here : (xs : List ℕ) (b : ℕ) → Contains (xs ++ b ∷ []) b
pushed-here xs b = has-Contains (xs ++ b ∷ []) b (Has-push xs b)

pushed-cases : (xs : List ℕ) (b c : ℕ) → Contains (xs ++ b ∷ []) c → Contains xs c ⊎ (c ≡ b)
pushed-cases xs b c h =
    ⊎_elim (λ old. inl (has-Contains xs c old)) (λ new. inr new) (Has-pushed xs b c (Contains-has (xs ++ b ∷ []) c h))

put_own : (f : ℕ → ℕ) (b c : ℕ) → put f b (f b) c ≡ f c
put_own f b c = ⊎_elim (λ same. put_same f b (f b) c same ∙ ap f (sym same)) (λ other. put_other f b (f b) c other) (cases_eq c b)

noted_own : (n : Parts) (s : Source) (w : Progress) (branch mask : ℕ → ℕ) (b : ℕ) → IsNoted n s w (put branch b (branch b)) (put mask b (mask b))
    → IsNoted n s w branch mask
noted_own n s w branch mask b h = record {
  branches = λ c on sync. h.branches c on sync ∙ put_own branch b c;
  masks = λ c on. subst (IsMaskOf n s w.values c) (put_own mask b c) (h.masks c on);
}

module _ (n : Parts) (m : Memory) (i : Columns) (s : Source) (net : IsNet n) (free : IsLoopFree n s) (begun : List ℕ) (v : Progress)
    (closed : IsClosed n s begun) (front : IsFront n m i s begun v) (y : Signals) (alike : (a : ℕ) → IsBlock n a → (Possible n s a → Contains begun a) → y a ≡ v.values a)
    (vs : Signals) (acts : ℕ → Bool) (branch mask : ℕ → ℕ) where
  -- ---- what each entry comes to

  -- it applies and its block has these values, and that it is active, its branch and its mask are noted
  pub record IsValued (e : Entry) : Type 0 where
    pub on : applies n v e ≡ true
    pub gives : answer n m i e.block (mask_in n v e) (input_in n y e.block) ≡ Ok (vs e.block)
    pub takes : IsSync n e.block → branch_on (spec_of n e.block) (input_in n y e.block) ≡ branch e.block
    pub mask_is : mask_in n v e ≡ mask e.block
    pub active_is : acts e.block ≡ true

  -- it applies and its block has no values
  pub record IsStuck (e : Entry) (word : StopWord) : Type 0 where
    pub on : applies n v e ≡ true
    pub gives : answer n m i e.block (mask_in n v e) (input_in n y e.block) ≡ Err word

  pub record StopsAt (e : Entry) (stop : Option (ℕ × StopWord)) : Type 0 where
    pub word : StopWord
    pub stuck : IsStuck e word
    pub is : stop ≡ Some (e.block, word)

  -- one after another, up to the first that has no values
  abbrev pub Goes : List Entry → Option (ℕ × StopWord) → Type 0
  Goes [] stop = stop ≡ None
  Goes (e ∷ es) stop = ((applies n v e ≡ false) × Goes es stop) ⊎ ((IsValued e × Goes es stop) ⊎ StopsAt e stop)

  -- ---- what may be done next

  -- what is done besides what was at the beginning
  pub record IsUnderWay (done : List ℕ) (w : Progress) : Type 0 where
    pub front_is : IsFront n m i s done w
    pub closed_is : IsClosed n s done
    pub kept : (c : ℕ) → Contains begun c → Contains done c
    pub same : (a : ℕ) → (Possible n s a → Contains begun a) → v.values a ≡ w.values a
    pub noted : IsNoted n s w branch mask

  pub begins : IsNoted n s v branch mask → IsUnderWay begun v
  begins noted = record { front_is = front; closed_is = closed; kept = λ c h. h; same = λ a h. refl; noted = noted }

  module _ (done : List ℕ) (w : Progress) (way : IsUnderWay done w) (e : Entry) (here : IsNextHere n s begun e) (fresh : Contains done e.block → ⊥) where
    ready_now : IsReady n s done e.block
    ready_now = record { possible = here.ready.possible; fresh = fresh; needs = λ d dep. way.kept d (here.ready.needs d dep) }

    next : IsNextDone n m i s done w e.block
    next = ready_is_next n m i s done w e.block net free way.closed_is way.front_is ready_now

    first : IsNextDone n m i s begun v e.block
    first = ready_is_next n m i s begun v e.block net free closed front here.ready

    -- on the values at the beginning, on those so far and on those that are read
    forth : IsAlikeOn n m i s e.block v.values w.values
    forth = ready_is_alike n m i s begun e.block v.values w.values net free closed here.ready (λ a inside h. way.same a h)

    back : IsAlikeOn n m i s e.block w.values v.values
    back = ready_is_alike n m i s begun e.block w.values v.values net free closed here.ready (λ a inside h. sym (way.same a h))

    read : IsAlikeOn n m i s e.block y w.values
    read = ready_is_alike n m i s begun e.block y w.values net free closed here.ready (λ a inside h. alike a inside h ∙ way.same a h)

    pub active_now : applies n v e ≡ true → Active n s w.values e.block
    active_now on = forth.active ((first.told e refl here.tells).0.0 on)

    pub mask_now : IsMaskOf n s w.values e.block (mask_in n v e)
    mask_now = forth.masks (mask_in n v e) (first.told e refl here.tells).1

    pub stuck_now : (word : StopWord) → IsStuck e word → answer n m i e.block (mask_in n v e) (input_in n w.values e.block) ≡ Err word
    stuck_now word h = sym (read.answers (mask_in n v e)) ∙ h.gives

    pub goes_idle : applies n v e ≡ false → IsUnderWay (done ++ e.block ∷ []) w
    goes_idle off = record {
      front_is = next.idle (λ on. true≢false (sym ((first.told e refl here.tells).0.1 (back.active on)) ∙ off));
      closed_is = next.closed;
      kept = λ c h. pushed-left done e.block c (way.kept c h);
      same = way.same;
      noted = way.noted;
    }

    same_more : (a : ℕ) → (Possible n s a → Contains begun a) → v.values a ≡ put w.values e.block (vs e.block) a
    same_more a h =
        way.same a h ∙ sym (put_other w.values e.block (vs e.block) a
        (λ same. here.ready.fresh (subst (Contains begun) same (h (subst (Possible n s) (sym same) here.ready.possible)))))

    pub goes_valued : IsValued e → IsUnderWay (done ++ e.block ∷ []) (with_values w e.block (vs e.block))
    goes_valued h = record {
      front_is = next.valued (mask_in n v e) (vs e.block) (active_now h.on) mask_now (sym (read.answers (mask_in n v e)) ∙ h.gives);
      closed_is = next.closed;
      kept = λ c old. pushed-left done e.block c (way.kept c old);
      same = same_more;
      noted = noted_own n s (with_values w e.block (vs e.block)) branch mask e.block
          (next.noted (vs e.block) branch mask (branch e.block) (mask e.block) way.noted (λ sync. sym read.branches ∙ h.takes sync)
          (subst (IsMaskOf n s w.values e.block) h.mask_is mask_now));
    }

  -- ---- what the entries come to

  -- the entry is done: its block isn't active and stays, or has its values
  abbrev pub IsFound : Progress → Progress → Entry → Type 0
  IsFound w after e =
      ((applies n v e ≡ false) × (after.applied e.block ≡ w.applied e.block) × (after.values e.block ≡ w.values e.block))
      ⊎ (IsValued e × (after.applied e.block ≡ true) × (after.values e.block ≡ vs e.block))

  -- it stops at one of them, and those before it are done
  pub record IsStoppedIn (es : List Entry) (all : List ℕ) (after : Progress) (stop : ℕ × StopWord) : Type 0 where
    pub entry : Entry
    pub place : ℕ
    pub within : place < length es
    pub read : get_or es place entry ≡ entry
    pub block_is : stop.0 ≡ entry.block
    pub fresh : Contains all stop.0 → ⊥
    pub active : Active n s after.values stop.0
    pub mask_is : IsMaskOf n s after.values stop.0 (mask_in n v entry)
    pub gives : answer n m i stop.0 (mask_in n v entry) (input_in n after.values stop.0) ≡ Err stop.1
    pub earlier : (k : ℕ) (d : Entry) → k < place → Contains all (get_or es k d).block

  pub record AreDone (done : List ℕ) (w : Progress) (es : List Entry) (stop : Option (ℕ × StopWord)) : Type 0 where
    pub after : Progress
    pub all : List ℕ
    pub way : IsUnderWay all after
    pub more : (c : ℕ) → Contains done c → Contains all c
    pub among : (c : ℕ) → Contains all c → Contains done c ⊎ Contains (blocks_of es) c
    pub others : (c : ℕ) → (Contains (blocks_of es) c → ⊥) → (after.applied c ≡ w.applied c) × (after.values c ≡ w.values c)
    pub found : (e : Entry) → Contains es e → Contains all e.block → IsFound w after e
    pub whole : stop ≡ None → (c : ℕ) → Contains (blocks_of es) c → Contains all c
    pub stopped : (at : ℕ × StopWord) → stop ≡ Some at → IsStoppedIn es all after at

  in_rest : (e : Entry) (es : List Entry) (b : ℕ) → Contains (blocks_of es) b → Contains (blocks_of (e ∷ es)) b
  in_rest e es b h = cons-Contains e.block (blocks_of es) b h

  here_first : (e : Entry) (es : List Entry) → Contains (blocks_of (e ∷ es)) e.block
  here_first e es = (0, omega arith, refl)

  -- one entry is done, and then the others
  module _ (done : List ℕ) (w next_w : Progress) (e : Entry) (es : List Entry) (stop : Option (ℕ × StopWord)) (fresh : Contains done e.block → ⊥)
      (apart : Contains (blocks_of es) e.block → ⊥)
      (others_here : (c : ℕ) → (c ≡ e.block → ⊥) → (next_w.applied c ≡ w.applied c) × (next_w.values c ≡ w.values c))
      (here_is : (after : Progress) → after.applied e.block ≡ next_w.applied e.block → after.values e.block ≡ next_w.values e.block → IsFound w after e)
      (rest : AreDone (done ++ e.block ∷ []) next_w es stop) where
    others_then : (c : ℕ) → (Contains (blocks_of (e ∷ es)) c → ⊥) → (rest.after.applied c ≡ w.applied c) × (rest.after.values c ≡ w.values c)
    others_then c out =
        let apart_rest = rest.others c (λ h. out (in_rest e es c h)) in
        let apart_here = others_here c (λ same. out (subst (Contains (blocks_of (e ∷ es))) (sym same) (here_first e es))) in
        (apart_rest.0 ∙ apart_here.0, apart_rest.1 ∙ apart_here.1)

    among_then : (c : ℕ) → Contains rest.all c → Contains done c ⊎ Contains (blocks_of (e ∷ es)) c
    among_then c h =
        ⊎_elim
        (λ old. ⊎_elim (λ before. inl before) (λ same. inr (subst (Contains (blocks_of (e ∷ es))) (sym same) (here_first e es))) (pushed-cases done e.block c old))
        (λ new. inr (in_rest e es c new)) (rest.among c h)

    first_is : IsFound w rest.after e
    first_is = let kept = rest.others e.block apart in here_is rest.after kept.0 kept.1

    -- another entry's block is not this one
    other_block : (d : Entry) → Contains es d → d.block ≡ e.block → ⊥
    other_block d there same = apart (subst (Contains (blocks_of es)) same (block_in es d there))

    found_then : (d : Entry) → Contains (e ∷ es) d → Contains rest.all d.block → IsFound w rest.after d
    found_then d there h =
        ⊎_elim
        (λ same. subst (IsFound w rest.after) same first_is)
        (λ later. let before = others_here d.block (other_block d later) in
        ⊎_elim (λ off. inl (off.0, off.1 ∙ before.0, off.2 ∙ before.1)) (λ on. inr on) (rest.found d later h))
        (Contains-cons e es d there)

    whole_then : stop ≡ None → (c : ℕ) → Contains (blocks_of (e ∷ es)) c → Contains rest.all c
    whole_then none c h =
        ⊎_elim (λ same. subst (Contains rest.all) same (rest.more e.block (pushed-here done e.block))) (λ later. rest.whole none c later)
        (Contains-cons e.block (blocks_of es) c h)

    earlier_then : (place : ℕ) → ((k : ℕ) (d : Entry) → k < place → Contains rest.all (get_or es k d).block) → (k : ℕ) (d : Entry) → k < suc place
        → Contains rest.all (get_or (e ∷ es) k d).block
    earlier_then place h zero d l = rest.more e.block (pushed-here done e.block)
    earlier_then place h (suc k) d l = h k d (omega (arith, l))

    stopped_then : (at : ℕ × StopWord) → stop ≡ Some at → IsStoppedIn (e ∷ es) rest.all rest.after at
    stopped_then at is = let h = rest.stopped at is in record {
      entry = h.entry;
      place = suc h.place;
      within = let l = h.within in omega (arith, l);
      read = h.read;
      block_is = h.block_is;
      fresh = h.fresh;
      active = h.active;
      mask_is = h.mask_is;
      gives = h.gives;
      earlier = earlier_then h.place h.earlier;
    }

    then_rest : AreDone done w (e ∷ es) stop
    then_rest = record {
      after = rest.after;
      all = rest.all;
      way = rest.way;
      more = λ c h. rest.more c (pushed-left done e.block c h);
      among = among_then;
      others = others_then;
      found = found_then;
      whole = whole_then;
      stopped = stopped_then;
    }

  none_left : (done : List ℕ) (w : Progress) (stop : Option (ℕ × StopWord)) → IsUnderWay done w → stop ≡ None → AreDone done w [] stop
  none_left done w stop way none = record {
    after = w;
    all = done;
    way = way;
    more = λ c h. h;
    among = λ c h. inl h;
    others = λ c out. (refl, refl);
    found = λ e there h. absurd (omega (arith, there.1));
    whole = λ is c h. absurd (omega (arith, h.1));
    stopped = λ at is. cc;
  }

  -- the first of them has no values
  stops_first : (done : List ℕ) (w : Progress) (e : Entry) (es : List Entry) (stop : Option (ℕ × StopWord)) → IsUnderWay done w → IsNextHere n s begun e
      → (Contains done e.block → ⊥) → ((d : Entry) → Contains es d → Contains done d.block → ⊥) → StopsAt e stop → AreDone done w (e ∷ es) stop
  stops_first done w e es stop way here fresh fresh_rest h = record {
    after = w;
    all = done;
    way = way;
    more = λ c old. old;
    among = λ c old. inl old;
    others = λ c out. (refl, refl);
    found = λ d there old. absurd (⊎_elim (λ same. fresh (subst (λ (x : Entry). Contains done x.block) (sym same) old)) (λ later. fresh_rest d later old) (Contains-cons e es d there));
    whole = λ none. let is = h.is in cc;
    stopped = λ at is. let same : at ≡ (e.block, h.word) = let told = h.is in cc in
        subst (IsStoppedIn (e ∷ es) done w) (sym same) (record {
          entry = e;
          place = 0;
          within = omega arith;
          read = refl;
          block_is = refl;
          fresh = fresh;
          active = active_now done w way e here fresh h.stuck.on;
          mask_is = mask_now done w way e here fresh;
          gives = stuck_now done w way e here fresh h.word h.stuck;
          earlier = λ k d l. absurd (omega (arith, l));
        });
  }

  pub goes : (es : List Entry) (done : List ℕ) (w : Progress) (stop : Option (ℕ × StopWord)) → IsUnderWay done w → ((e : Entry) → Contains es e → IsNextHere n s begun e)
      → ((e : Entry) → Contains es e → Contains done e.block → ⊥) → Apart (blocks_of es) → Goes es stop → AreDone done w es stop
  goes [] done w stop way next_here fresh apart h = none_left done w stop way h
  goes (e ∷ es) done w stop way next_here fresh apart h =
      let here = next_here e (0, omega arith, refl) in
      let fresh_here = fresh e (0, omega arith, refl) in
      let rest_here : (d : Entry) → Contains es d → IsNextHere n s begun d = λ d there. next_here d (cons-Contains e es d there) in
      let fresh_rest : (d : Entry) → Contains es d → Contains done d.block → ⊥ = λ d there. fresh d (cons-Contains e es d there) in
      let fresh_then : (d : Entry) → Contains es d → Contains (done ++ e.block ∷ []) d.block → ⊥ = λ d there old.
      ⊎_elim (fresh_rest d there) (λ same. apart.0 (subst (Contains (blocks_of es)) same (block_in es d there))) (pushed-cases done e.block d.block old) in
      ⊎_elim
      (λ off. then_rest done w w e es stop fresh_here apart.0 (λ c other. (refl, refl)) (λ after a b. inl (off.0, a, b))
      (goes es (done ++ e.block ∷ []) w stop (goes_idle done w way e here fresh_here off.0) rest_here fresh_then apart.1 off.1))
      (λ on. ⊎_elim
      (λ has. then_rest done w (with_values w e.block (vs e.block)) e es stop fresh_here apart.0
      (λ c other. (put_other w.applied e.block true c other, put_other w.values e.block (vs e.block) c other))
      (λ after a b. inr (has.0, a ∙ put_same w.applied e.block true e.block refl, b ∙ put_same w.values e.block (vs e.block) e.block refl))
      (goes es (done ++ e.block ∷ []) (with_values w e.block (vs e.block)) stop (goes_valued done w way e here fresh_here has.0) rest_here fresh_then apart.1 has.1))
      (λ stuck. stops_first done w e es stop way here fresh_here fresh_rest stuck)
      on)
      h
