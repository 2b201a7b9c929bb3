-- The laws of ways, kind by kind.
use Rattle.std.proofs.Common.{◌≡◌, ◌≢◌, ℕ, ℤ, List, refl}
use Rattle.sci_forms.specs.declared.Kind.{Kind}
use Rattle.sci_forms.specs.declared.Kind.TheVariants.{Const, Summation, GainBlk, Product, AbsValue, Signum, MaxMin, Saturation, DeadBand, Convert, Mux, Demux, Extractor, LogicalOp, RelationalOp, Shift, BitSet, BitClear, ExtractBits, Switch2, Select, Logic, AndLog, Dollar, SampHold, Register, ModuloCount, GatedDelay, Sensor, EvtDly, EvtVarDly, IfThEl, ESelect, Halt}
use Rattle.sci_forms.specs.declared.spec.Spec.{Spec}
use Rattle.sci_forms.specs.Ports.{total, Fills}
use Rattle.sci_kinds.specs.Asks.{Asks, IsState, IsMask}
use Rattle.sci_kinds.specs.Table.{cell_of}
use Rattle.sci_kinds.proofs.TypedLemmas.{Tests, tests}
use Rattle.sci_kinds.proofs.LawProofs.{asks}
use Rattle.sci_cgen_blocks.specs.Terms.{WayGives, WayFits}
use Rattle.sci_cgen_blocks.specs.Recipes.{way_of, given}
use Rattle.sci_cgen_blocks.specs.Laws.{CellLaw, CellReadsLaw}
use Rattle.sci_cgen_blocks.proofs.Inputs.{fed_of, way_reads, IsFed, fed_is}
use Rattle.sci_cgen_blocks.proofs.Numbers.{abs_gives, sign_gives, extreme_gives, brought_gives, beyond_gives, convert_gives, abs_reads, sign_reads, extreme_reads, brought_reads, beyond_reads, convert_reads}
use Rattle.sci_cgen_blocks.proofs.Sums.{sum_gives, sum_reads}
use Rattle.sci_cgen_blocks.proofs.Products.{gain_gives, product_block_gives, gain_reads, product_block_reads}
use Rattle.sci_cgen_blocks.proofs.Parts.{const_gives, mux_gives, demux_gives, extractor_gives, const_reads, mux_reads, demux_reads, extractor_reads}
use Rattle.sci_cgen_blocks.proofs.LogicalKind.{logical_op_gives, logical_op_reads}
use Rattle.sci_cgen_blocks.proofs.PatternKinds.{shift_gives, bit_set_gives, bit_clear_gives, extract_bits_gives, shift_reads, bit_set_reads, bit_clear_reads, extract_bits_reads}
use Rattle.sci_cgen_blocks.proofs.ChoiceKinds.{relational_op_gives, switch_gives, relational_op_reads, switch_reads}
use Rattle.sci_cgen_blocks.proofs.SelectKinds.{select_gives, select_reads}
use Rattle.sci_cgen_blocks.proofs.TableKind.{logic_gives, logic_reads}
use Rattle.sci_cgen_blocks.proofs.StateKinds.{and_log_gives, dollar_gives, samp_hold_gives, register_gives, modulo_count_gives, gated_delay_gives, evt_dly_gives, evt_var_dly_gives, if_then_else_gives, event_select_gives, halt_gives, and_log_reads, dollar_reads, samp_hold_reads, register_reads, modulo_count_reads, gated_delay_reads, evt_dly_reads, evt_var_dly_reads, if_then_else_reads, event_select_reads, halt_reads}

module _ (s : Spec) (x : List ℤ) (m : ℕ) (u : List ℤ) (f : Fills s.ins u) (st : IsState s x) (mk : IsMask s m) where
  cell_by_kind : (k : Kind) → s.kind ≡ k → k ≢ Sensor → Asks k s → Tests k s → WayGives (given s x m u) (total s.outs) (cell_of k s x m u) (way_of k s)
  cell_by_kind Const q n a ts = const_gives s x m u
  cell_by_kind Summation q n a ts = λ e h t. sum_gives s x m u e h t a f
  cell_by_kind GainBlk q n a ts = λ e h t. gain_gives s x m u e h t a f
  cell_by_kind Product q n a ts = λ e h t. product_block_gives s x m u e h t a f
  cell_by_kind AbsValue q n a ts = λ e h t. abs_gives s x m u e h t a f
  cell_by_kind Signum q n a ts = λ e h t. sign_gives s x m u e h t a f
  cell_by_kind MaxMin q n a ts = λ e h t. extreme_gives s x m u e h t a f
  cell_by_kind Saturation q n a ts = λ e h t. brought_gives s x m u e h t a f
  cell_by_kind DeadBand q n a ts = λ e h t. beyond_gives s x m u e h t a f
  cell_by_kind Convert q n a ts = λ e h t. convert_gives s x m u e h t a f
  cell_by_kind Mux q n a ts = λ e h t. mux_gives s x m u e h t a
  cell_by_kind Demux q n a ts = λ e h t. demux_gives s x m u e h t
  cell_by_kind Extractor q n a ts = λ e h t. extractor_gives s x m u e h t
  cell_by_kind LogicalOp q n a ts = λ e h t. logical_op_gives s x m u e h t a f
  cell_by_kind RelationalOp q n a ts = λ e h t. relational_op_gives s x m u e t a
  cell_by_kind Shift q n a ts = λ e h t. shift_gives s x m u e t f h a
  cell_by_kind BitSet q n a ts = λ e h t. bit_set_gives s x m u e t f h a
  cell_by_kind BitClear q n a ts = λ e h t. bit_clear_gives s x m u e t f h a
  cell_by_kind ExtractBits q n a ts = λ e h t. extract_bits_gives s x m u e t f h a
  cell_by_kind Switch2 q n a ts = switch_gives s x m u a ts
  cell_by_kind Select q n a ts = select_gives s x m u q a mk
  cell_by_kind Logic q n a ts = logic_gives s x m u a ts
  cell_by_kind AndLog q n a ts = λ e h t. and_log_gives s x m u e t
  cell_by_kind Dollar q n a ts = λ e h t. dollar_gives s x m u e t
  cell_by_kind SampHold q n a ts = λ e h t. samp_hold_gives s x m u e t
  cell_by_kind Register q n a ts = λ e h t. register_gives s x m u e t
  cell_by_kind ModuloCount q n a ts = λ e h t. modulo_count_gives s x m u e t
  cell_by_kind GatedDelay q n a ts = λ e h t. gated_delay_gives s x m u e t q a st h
  cell_by_kind Sensor q n a ts = absurd (n refl)
  cell_by_kind EvtDly q n a ts = λ e h t. evt_dly_gives s x m u e t
  cell_by_kind EvtVarDly q n a ts = λ e h t. evt_var_dly_gives s x m u e t
  cell_by_kind IfThEl q n a ts = λ e h t. if_then_else_gives s x m u e t
  cell_by_kind ESelect q n a ts = λ e h t. event_select_gives s x m u e t
  cell_by_kind Halt q n a ts = λ e h t. halt_gives s x m u e t

pub cell_law : CellLaw
cell_law s x m u h n st mk f = cell_by_kind s x m u f st mk s.kind refl n (asks s h) (tests s.kind s h)

module _ (s : Spec) where
  reads_by_kind : (k : Kind) → k ≢ Sensor → Asks k s → Tests k s → IsFed k s → WayFits (fed_of k s) (total s.outs) (way_of k s) 8
  reads_by_kind Const n a ts f = const_reads s a
  reads_by_kind Summation n a ts f = way_reads Summation s 8 refl (λ e h. sum_reads s e h a f)
  reads_by_kind GainBlk n a ts f = way_reads GainBlk s 8 refl (λ e h. gain_reads s e h a f)
  reads_by_kind Product n a ts f = way_reads Product s 8 refl (λ e h. product_block_reads s e h a f)
  reads_by_kind AbsValue n a ts f = way_reads AbsValue s 8 refl (λ e h. abs_reads s e h a f)
  reads_by_kind Signum n a ts f = way_reads Signum s 8 refl (λ e h. sign_reads s e h a f)
  reads_by_kind MaxMin n a ts f = way_reads MaxMin s 8 refl (λ e h. extreme_reads s e h a f)
  reads_by_kind Saturation n a ts f = way_reads Saturation s 8 refl (λ e h. brought_reads s e h a f)
  reads_by_kind DeadBand n a ts f = way_reads DeadBand s 8 refl (λ e h. beyond_reads s e h a f)
  reads_by_kind Convert n a ts f = way_reads Convert s 8 refl (λ e h. convert_reads s e h a f)
  reads_by_kind Mux n a ts f = λ e h. mux_reads s e h a f
  reads_by_kind Demux n a ts f = way_reads Demux s 8 refl (λ e h. demux_reads s e h a f)
  reads_by_kind Extractor n a ts f = λ e h. extractor_reads s e h a f
  reads_by_kind LogicalOp n a ts f = way_reads LogicalOp s 8 refl (λ e h. logical_op_reads s e h a f)
  reads_by_kind RelationalOp n a ts f = way_reads RelationalOp s 8 refl (λ e h. relational_op_reads s e h a f)
  reads_by_kind Shift n a ts f = way_reads Shift s 8 refl (λ e h. shift_reads s e h a f)
  reads_by_kind BitSet n a ts f = way_reads BitSet s 8 refl (λ e h. bit_set_reads s e h a f)
  reads_by_kind BitClear n a ts f = way_reads BitClear s 8 refl (λ e h. bit_clear_reads s e h a f)
  reads_by_kind ExtractBits n a ts f = way_reads ExtractBits s 8 refl (λ e h. extract_bits_reads s e h a f)
  reads_by_kind Switch2 n a ts f = switch_reads s a ts f
  reads_by_kind Select n a ts f = select_reads s a f
  reads_by_kind Logic n a ts f = logic_reads s a ts f
  reads_by_kind AndLog n a ts f = way_reads AndLog s 8 refl (λ e h. and_log_reads s e)
  reads_by_kind Dollar n a ts f = way_reads Dollar s 8 refl (λ e h. dollar_reads s e a h)
  reads_by_kind SampHold n a ts f = way_reads SampHold s 8 refl (λ e h. samp_hold_reads s e a f h)
  reads_by_kind Register n a ts f = way_reads Register s 8 refl (λ e h. register_reads s e a)
  reads_by_kind ModuloCount n a ts f = way_reads ModuloCount s 8 refl (λ e h. modulo_count_reads s e)
  reads_by_kind GatedDelay n a ts f = way_reads GatedDelay s 8 refl (λ e h. gated_delay_reads s e a f h)
  reads_by_kind Sensor n a ts f = absurd (n refl)
  reads_by_kind EvtDly n a ts f = way_reads EvtDly s 8 refl (λ e h. evt_dly_reads s e)
  reads_by_kind EvtVarDly n a ts f = way_reads EvtVarDly s 8 refl (λ e h. evt_var_dly_reads s e)
  reads_by_kind IfThEl n a ts f = way_reads IfThEl s 8 refl (λ e h. if_then_else_reads s e)
  reads_by_kind ESelect n a ts f = way_reads ESelect s 8 refl (λ e h. event_select_reads s e)
  reads_by_kind Halt n a ts f = way_reads Halt s 8 refl (λ e h. halt_reads s e)

pub cell_reads_law : CellReadsLaw
cell_reads_law s h n = reads_by_kind s s.kind n (asks s h) (tests s.kind s h) (fed_is s h)
