-- Elements of ports, counted.
use Rattle.std.proofs.Common.{◌≡◌, ℕ, ◌+◌, ◌<◌, ◌≤◌, true, List, length, arith, lit≤}
use Rattle.sci_forms.specs.declared.Kind.{Kind}
use Rattle.sci_forms.specs.declared.Kind.TheVariants.{ESelect}
use Rattle.sci_forms.specs.declared.ports.Port.{Port}
use Rattle.sci_forms.specs.declared.spec.Spec.{Spec}
use Rattle.sci_forms.specs.Ports.{port_at, elements, total, before}
use Rattle.sci_forms.specs.Forms.{counts_of}
use Rattle.sci_forms.specs.Typed.{typed}
use Rattle.sci_kinds.proofs.TypedLemmas.{tests}
use Rattle.sci_net.specs.Net.{IsNet}
use Rattle.sci_net.specs.Parts.{Parts, IsBlock, spec_of}
use Rattle.sci_places.proofs.Lists.{up_to as port_up_to, before_next as port_next, before_all as port_all}
use Rattle.sci_places.proofs.Outputs.{outs_small as block_small}
use Rattle.sci_ranges_marks.proofs.Tested.{ins_few as few_ins}

pub up_to : (ps : List Port) (k : ℕ) → k < length ps → before ps k + elements (port_at ps k) ≤ total ps
up_to ps k h = port_up_to ps k h

pub before_next : (ps : List Port) (k : ℕ) → k < length ps → before ps (k + 1) ≡ before ps k + elements (port_at ps k)
before_next ps k h = port_next ps k h

pub before_all : (ps : List Port) → before ps (length ps) ≡ total ps
before_all ps = port_all ps

pub outs_small : (n : Parts) (b : ℕ) → IsNet n → IsBlock n b → total (spec_of n b).outs ≤ 65536
outs_small n b net block = block_small n b net block

pub ins_few : (s : Spec) → typed s ≡ true → length s.ins ≤ 64
ins_few s h = few_ins s h

evtout_most : (c : Kind) (n : ℕ) → (counts_of c n).evtout_most ≤ 64
evtout_most ESelect n = lit≤ tt
evtout_most _ n = lit≤ tt

pub evtout_few : (s : Spec) → typed s ≡ true → s.evtout ≤ 64
evtout_few s h = let most = (tests s.kind s h).evtout_most in let few = evtout_most s.kind (length s.ins) in omega (arith, most, few)
