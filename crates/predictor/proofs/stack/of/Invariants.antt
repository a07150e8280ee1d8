use Rattle.std.proofs.Common.{◌≡◌, take}
use Rattle.arrayvec.specs.ArrayVec.{array_vec_len}
use Rattle.predictor.proofs.stack.of.Given as goal

abbrev pub invariant-loop-address : goal.invariant-loop-address
invariant-loop-address l = record {
  items : l.stack.items ≡ take l.address-index l.addresses;
  len : array_vec_len l.stack ≡ l.address-index;
}
