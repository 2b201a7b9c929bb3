-- What is told of the dump of a run is what its outputs hold.
use Rattle.std.proofs.Common.{◌≡◌, ◌≤◌, ◌<◌, ◌+◌, ◌-◌, ◌^◌, ℕ, zero, suc, ℤ, List, [], ◌∷◌, ◌++◌, take, get_or, length, inl, inr, refl, sym, ◌∙◌, ap, subst, arith, append_assoc, add-zero}
use Rattle.std.proofs.lemmas.List.{length-append}
use Rattle.std.proofs.Math.Seq.{take-append_seam, get_or-append_seam}
use Rattle.sci_base.specs.Lists.{at}
use Rattle.sci_io.specs.Files.{Files}
use Rattle.sci_forms.specs.declared.spec.Spec.{Spec}
use Rattle.sci_forms.specs.Ports.{total}
use Rattle.sci_net.specs.Parts.{Parts, IsBlock, no_spec, spec_of}
use Rattle.sci_net.specs.Net.{all_elements}
use Rattle.sci_needs.specs.Needs.{needs_of}
use Rattle.sci_reaction.specs.Memory.{first_memory}
use Rattle.sci_run.specs.Run.{State}
use Rattle.sci_vcd.specs.declared.signal.Signal.{Signal}
use Rattle.sci_vcd.specs.Waveforms.{Waveforms, value_at, IsDump}
use Rattle.sci_vcd.specs.Spelling.{spelling}
use Rattle.sci_vcd.specs.Signals.{output_signals, block_signals, number_of}
use Rattle.sci_vcd.proofs.OfNet.{output_signals_length}
use Rattle.sci_wave.proofs.OneDump.{one_more, AreHeldAlike, same_whole}
use Rattle.sci_vcd.proofs.Blaming as dumps
use Rattle.sci_wave.specs.History.{memory_at}
use Rattle.sci_wave.specs.RunDump.{IsDumpOf}
use Rattle.sci_trace.specs.Columns.{Needed}
use Rattle.sci_verdict.specs.Verdict.{Plan, Accepts}
use Rattle.sci_verdict.proofs.Verdicts.{one_verdict, given_is_net}
use Rattle.sci_answers.specs.Answer.{Answer, IsDone, prints}
use Rattle.sci_answers.specs.Course.{Holds, DueOn}
use Rattle.sci_answers.specs.Due.{course_of, Due}
use Rattle.sci_answers.specs.Dump.{IsDumpAnswer, gives_dump}
use Rattle.sci_answers.specs.DumpAt.{AcceptsDump, BreaksDump}
use Rattle.sci_print.specs.Values.{signal_text, texts_from, values_text}
use Rattle.sci_command_laws.specs.DumpRuns.{element_texts, block_texts, held_text, IsDumped, RunsThrough, held_at, TellsRun, DumpTellsRun}
use Rattle.sci_answers.specs.Inputs.{AcceptsColumns, behind_inputs}
use Rattle.sci_words.specs.Words.{dump, dump_at, spelled}
use Rattle.sci_command_laws.proofs.RunsAlike.{due_course, no_refusal}

-- ---- the lines of signals, block by block

texts_append : (w : Waveforms) (t n : ℕ) (gs hs : List Signal) → texts_from w t n (gs ++ hs) ≡ texts_from w t n gs ++ texts_from w t (n + length gs) hs
texts_append w t n [] hs = ap (λ (k : ℕ). texts_from w t k hs) (sym (add-zero n))
texts_append w t n (g ∷ gs) hs =
    let line = signal_text g (value_at w n t) in
    let more = texts_from w t (n + 1) gs in
    let number : n + 1 + length gs ≡ n + suc (length gs) = omega arith in
    ap (λ (l : List ℕ). line ++ l) (texts_append w t (n + 1) gs hs)
    ∙ (sym (append_assoc line more (texts_from w t (n + 1 + length gs) hs)) ∙ ap (λ (k : ℕ). (line ++ more) ++ texts_from w t k hs) number)

-- from element e on, where so many signals stand before the block
elements_told : (w : Waveforms) (t start : ℕ) (vs : List ℤ) (e : ℕ) (gs : List Signal) → ((k : ℕ) → e ≤ k → k < e + length gs → value_at w (start + k) t ≡ at vs (k - 1))
    → texts_from w t (start + e) gs ≡ element_texts vs e gs
elements_told w t start vs e [] h = refl
elements_told w t start vs e (g ∷ gs) h =
    let here : value_at w (start + e) t ≡ at vs (e - 1) = h e (omega arith) (omega arith) in
    let number : start + e + 1 ≡ start + (e + 1) = omega arith in
    let rest = elements_told w t start vs (e + 1) gs (λ k least most. h k (omega (arith, least)) (omega (arith, most))) in
    ap (λ (v : ℤ). signal_text g v ++ texts_from w t (start + e + 1) gs) here
    ∙ ap (λ (l : List ℕ). signal_text g (at vs (e - 1)) ++ l) (ap (λ (k : ℕ). texts_from w t k gs) number ∙ rest)

module _ (w : Waveforms) (t : ℕ) (n : Parts) (held : ℕ → List ℤ)
    (values : (b e : ℕ) → IsBlock n b → 1 ≤ e → e ≤ total (spec_of n b).outs → value_at w (number_of n b e) t ≡ at (held b) (e - 1)) where
  -- of the block behind these
  block_told : (before : List Spec) (s : Spec) (ss : List Spec) (b : ℕ) → n.specs ≡ before ++ s ∷ ss → b ≡ suc (length before)
      → texts_from w t (all_elements before + 1) (output_signals b 1 s.outs) ≡ element_texts (held b) 1 (output_signals b 1 s.outs)
  block_told before s ss b is number =
      let spec : spec_of n b ≡ s = ap (spec_of n) number ∙ (ap (λ (l : List Spec). get_or l (length before) no_spec) is ∙ get_or-append_seam before s ss no_spec) in
      let place : b - 1 ≡ length before = omega (arith, number) in
      let front : take (b - 1) n.specs ≡ before = ap (λ (k : ℕ). take k n.specs) place ∙ (ap (take (length before)) is ∙ take-append_seam before (s ∷ ss)) in
      let all = length-append before (s ∷ ss) in
      let most : b ≤ length n.specs = omega (arith, number, all, ap length is) in
      let count = output_signals_length b 1 s.outs in
      let size : total (spec_of n b).outs ≡ total s.outs = ap (λ (x : Spec). total x.outs) spec in
      elements_told w t (all_elements before) (held b) 1 (output_signals b 1 s.outs)
      (λ k low high.
      let within : k ≤ total (spec_of n b).outs = omega (arith, high, count, size) in
      let found = values b k (record { least = omega (arith, number); most = most }) low within in
      ap (λ (ss : List Spec). value_at w (all_elements ss + k) t) (sym front) ∙ found)

  blocks_told : (before ss : List Spec) (b k : ℕ) → n.specs ≡ before ++ ss → b ≡ suc (length before) → k ≡ all_elements before + 1 → texts_from w t k (block_signals b ss) ≡ block_texts held b ss
  blocks_told before [] b k is number place = refl
  blocks_told before (s ∷ ss) b k is number place =
      let os = output_signals b 1 s.outs in
      let first = ap (λ (j : ℕ). texts_from w t j os) place ∙ block_told before s ss b is number in
      let longer = length-append before (s ∷ []) in
      let count = output_signals_length b 1 s.outs in
      let more = one_more before s in
      let rest = blocks_told (before ++ s ∷ []) ss (b + 1) (k + length os) (is ∙ sym (append_assoc before (s ∷ []) ss)) (omega (arith, number, longer)) (omega (arith, place, count, more)) in
      texts_append w t k os (block_signals (b + 1) ss)
      ∙ (ap (λ (l : List ℕ). l ++ texts_from w t (k + length os) (block_signals (b + 1) ss)) first ∙ ap (λ (l : List ℕ). element_texts (held b) 1 os ++ l) rest)

-- what a run's dump tells at a tick is held then
held_told : (n : Parts) (states : List State) (w : Waveforms) (t : ℕ) → IsDumpOf n states w → values_text w t ≡ held_text n (memory_at (first_memory n) states t)
held_told n states w t h =
    ap (texts_from w t 1) h.signals
    ∙ blocks_told w t n (memory_at (first_memory n) states t).held (λ b e block least most. h.values t b e block least most) [] n.specs 1 1 refl refl (omega arith)

-- ---- what is due of vcd

record IsWritten (until limit : ℕ) (diagram inputs : List ℕ) (a : Answer) : Type 0 where
  plan : Plan
  accepted : Accepts diagram plan
  columns : List (List ℤ)
  read : AcceptsColumns (needs_of plan.net) inputs columns
  answer : IsDumpAnswer plan.net columns until limit a

written_behind : (files : Files) (i : List ℕ) (until limit : ℕ) (diagram inputs : List ℕ) (names : List (List ℕ)) (a : Answer) (p : Plan) → Accepts diagram p → IsDone a.status
    → DueOn files (behind_inputs i (needs_of p.net) (gives_dump until limit p)) (inputs ∷ []) names a → IsWritten until limit diagram inputs a
written_behind files i until limit diagram inputs names a p accepted done (holds, inl h) = absurd (no_refusal a h.0 done h.2)
written_behind files i until limit diagram inputs names a p accepted done (holds, inr h) =
    record { plan = p; accepted = accepted; columns = h.0; read = h.1.1; answer = h.4.0 }

is_written : (files : Files) (d i : List ℕ) (until limit : ℕ) (diagram inputs : List ℕ) (names : List (List ℕ)) (a : Answer) → IsDone a.status
    → DueOn files (course_of (dump d i until limit)) (diagram ∷ inputs ∷ []) names a → IsWritten until limit diagram inputs a
is_written files d i until limit diagram inputs names a done (holds, inl h) = absurd (no_refusal a h.0 done h.2)
is_written files d i until limit diagram inputs names a done (holds, inr h) = written_behind files i until limit diagram inputs h.2 a h.0 h.1.1 done h.4

-- ---- any run that the bytes have

columns_alike : (needs : List Needed) (bytes : List ℕ) (m n : List (List ℤ)) → AcceptsColumns needs bytes m → AcceptsColumns needs bytes n → m ≡ n
columns_alike needs bytes m n h k = cc (h, k)

held_so : (n : Parts) (xs ys : List State) (w : Waveforms) → ((t : ℕ) → AreHeldAlike n (memory_at (first_memory n) xs t) (memory_at (first_memory n) ys t)) → IsDumpOf n xs w → IsDumpOf n ys w
held_so n xs ys w alike d = record {
  dump = d.dump;
  signals = d.signals;
  values = λ t b e block least most. d.values t b e block least most ∙ ap (λ (vs : List ℤ). at vs (e - 1)) (alike t b block);
}

record TellsOf (until limit : ℕ) (diagram inputs : List ℕ) (a : Answer) (run : RunsThrough until limit diagram inputs) : Type 0 where
  dump : Waveforms
  of_run : IsDumpOf run.plan.net run.states dump
  text : a.out ≡ spelling dump

tells_of : (until limit : ℕ) (diagram inputs : List ℕ) (a : Answer) → IsWritten until limit diagram inputs a → (run : RunsThrough until limit diagram inputs) → TellsOf until limit diagram inputs a run
tells_of until limit diagram inputs a k run =
    let plan : k.plan ≡ run.plan = one_verdict.one_made diagram k.plan run.plan k.accepted run.accepted in
    let net = run.plan.net in
    let columns : k.columns ≡ run.columns =
    columns_alike (needs_of net) inputs k.columns run.columns (subst (λ (p : Plan). AcceptsColumns (needs_of p.net) inputs k.columns) plan k.read) run.read in
    let answer = subst (λ (cs : List (List ℤ)). IsDumpAnswer net cs until limit a) columns (subst (λ (p : Plan). IsDumpAnswer p.net k.columns until limit a) plan k.answer) in
    let alike = same_whole net run.columns until limit (given_is_net diagram net run.accepted.given) run.accepted.planned.free answer.1.1 run.history in
    record { dump = answer.0; of_run = held_so net answer.1.0 run.states answer.0 alike answer.1.2; text = ap (λ (b : Answer). b.out) answer.4 }

-- ---- what is due of vcdat on its bytes

module _ (until limit : ℕ) (diagram inputs : List ℕ) (a : Answer) (short : length a.out ≤ 67108864) (run : RunsThrough until limit diagram inputs) (k : TellsOf until limit diagram inputs a run) where
  spells : AcceptsDump a.out k.dump
  spells = (k.of_run.dump, k.text)

  due_told : (files : Files) (v : List ℕ) (tick : ℕ) → Holds files v a.out → DueOn files (course_of (dump_at v tick)) (a.out ∷ []) (v ∷ []) (held_at run tick)
  due_told files v tick holds =
      (holds, inr (k.dump, (short, spells), [], refl, (ap prints (sym (held_told run.plan.net run.states k.dump tick k.of_run)), refl)))

  only_told : (files : Files) (v : List ℕ) (tick : ℕ) (names : List (List ℕ)) (b : Answer) → DueOn files (course_of (dump_at v tick)) (a.out ∷ []) names b → b ≡ held_at run tick
  only_told files v tick names b (holds, inl (x, inl h, told, asked)) = absurd (omega (arith, short, h.0))
  only_told files v tick names b (holds, inl (x, inr h, told, asked)) = absurd (dumps.not_both a.out k.dump h.1.line spells h.1.blamed)
  only_told files v tick names b (holds, inr h) =
      let same : h.0 ≡ k.dump = dumps.one_dump h.0 k.dump h.1.1.0 spells.0 (sym h.1.1.1 ∙ spells.1) in
      h.4.0 ∙ (ap (λ (w : Waveforms). prints (values_text w tick)) same ∙ ap prints (held_told run.plan.net run.states k.dump tick k.of_run))

pub dump_tells_run : DumpTellsRun
dump_tells_run d i until limit diagram inputs dumped h =
    let due = due_course h.files (dump d i until limit) (diagram ∷ inputs ∷ []) h.names dumped (h.until_within, h.limit_within) h.due in
    let k = is_written h.files d i until limit diagram inputs h.names dumped h.done due in
    record {
      some = record { plan = k.plan; accepted = k.accepted; columns = k.columns; read = k.read; states = k.answer.1.0; history = k.answer.1.1 };
      told = λ run files v tick early holds. inr (dump_at v tick, (refl, early), due_told until limit diagram inputs dumped h.short run (tells_of until limit diagram inputs dumped k run) files v tick holds);
      only = λ run files v tick names b early asked.
          only_told until limit diagram inputs dumped h.short run (tells_of until limit diagram inputs dumped k run) files v tick names b (due_course files (dump_at v tick) (dumped.out ∷ []) names b early asked);
    }
