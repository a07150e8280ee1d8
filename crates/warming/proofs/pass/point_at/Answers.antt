use Rattle.std.proofs.Common.{◌≡◌, ◌∷◌, ℕ, List, [], length, drop, ap, refl, arith}
use Rattle.std.specs.Prelude.{slice_index}
use Rattle.warming.proofs.pass.point_at.Goals as goal

first_is : (ns : List ℕ) → length ns ≡ 32 → slice_index ns 0 ≡ 0 → ns ≡ 0 ∷ drop 1 ns
first_is [] len zero_first = absurd (omega (arith, len))
first_is (n ∷ ns) len zero_first = ap (λ (m : ℕ). m ∷ ns) zero_first

pub returns-clause-fields : goal.returns-clause-fields
returns-clause-fields c = record {
  unit = c.ranges.unit.fits;
  pc = c.core_fits.ensures.pc;
  zero = first_is c.args.core.now.regs c.core_fits.ensures.count c.core_fits.ensures.zero;
  count = c.core_fits.ensures.count;
  regs = c.core_fits.ensures.regs;
  words = c.requires.words;
  places = c.requires.places;
  images = c.requires.images;
}
