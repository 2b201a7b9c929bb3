-- What the table of forms has at some places.
use Rattle.std.proofs.Common.{◌≡◌, ℕ, zero, suc, ◌<◌, Bool, true, false, refl, sym, ◌∙◌, arith, inl, inr, ◌⊎◌}
use Rattle.std.proofs.lemmas.Bool.{false≢true}
use Rattle.sci_forms.specs.declared.Kind.{Kind}
use Rattle.sci_forms.specs.declared.Kind.TheVariants.{Const, Logic, ModuloCount}
use Rattle.sci_forms.specs.declared.form.Memory.TheVariants.{Counter}
use Rattle.sci_forms.specs.declared.form.Role.TheVariants.{State}
use Rattle.sci_forms.specs.declared.form.ParamCount.TheVariants.{Truths}
use Rattle.sci_forms.specs.declared.form.Param.{Param}
use Rattle.sci_forms.specs.declared.form.Param.TheVariants.{Any, Between, Mode, Sign, Flag, Value, High, Element, Operation, Places, Bit, LastBit, Base}
use Rattle.sci_forms.specs.Form.{form, role_of}
use Rattle.sci_forms.specs.Forms.{by_place}

-- the parameter is compared with the one before
abbrev pub looks_back : Param → Bool
looks_back High = true
looks_back LastBit = true
looks_back Any = false
looks_back (Between low high) = false
looks_back Mode = false
looks_back Sign = false
looks_back Flag = false
looks_back Value = false
looks_back Element = false
looks_back Operation = false
looks_back Places = false
looks_back Bit = false
looks_back Base = false

pub looking_back : (p : Param) → (p ≡ High) ⊎ (p ≡ LastBit) → looks_back p ≡ true
looking_back p (inl e) = rw e refl
looking_back p (inr e) = rw e refl

first_looks_at_itself : (c : Kind) → looks_back (form c).params.first ≡ false
first_looks_at_itself Const = refl
first_looks_at_itself _ = refl

-- none is compared with one before the first
pub one_before : (c : Kind) (k : ℕ) → by_place looks_back (form c).params k ≡ true → 0 < k
one_before c zero h = absurd (false≢true (sym (first_looks_at_itself c) ∙ h))
one_before c (suc k) h = omega arith

-- the kinds of a table of truths and of a number that counts
pub truths_of : (c : Kind) → (form c).params.count ≡ Truths → c ≡ Logic
truths_of Logic h = refl
truths_of _ h = cc

pub counter_of : (c : Kind) → role_of c ≡ State Counter → c ≡ ModuloCount
counter_of ModuloCount h = refl
counter_of _ h = cc
