use Rattle.c_mean.proofs.Values.{number_is, element_is, neg_is, add_is, sub_is, mul_is, div_is, rem_is}
use Rattle.c_mean.proofs.arithmetic_law.Goals as goal

pub returns : goal.returns
returns c = record { number = number_is; element = element_is; neg = neg_is; add = add_is; sub = sub_is; mul = mul_is; div = div_is; rem = rem_is }
