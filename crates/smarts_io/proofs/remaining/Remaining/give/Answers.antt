use Rattle.std.proofs.Common.{◌≡◌, ◌≤◌, ◌-◌, ℕ, List, drop, length, take, ap, ◌∙◌, arith}
use Rattle.std.proofs.lemmas.List.{take_rest}
use Rattle.smarts_io.proofs.Pieces.{give_front}
use Rattle.smarts_io.proofs.remaining.Remaining.give.Goals as goal

pub returns-clause-given : goal.returns-clause-given
returns-clause-given c =
    let at : ℕ = c.self.inside.at in
    let count : ℕ = c.min-count.result in
    let bytes : List ℕ = c.deref.result.now in
    let left : take (length bytes - at) (drop at bytes) ≡ drop at c.self.inside.bytes.items =
    take_rest bytes at ∙ ap (drop at) c.deref.ensures.value in
    let fits : count ≤ length (drop at c.self.inside.bytes.items) =
    omega (arith, c.min-count.ensures, ap length left) in
    rw (← c.self.view_is)
    (give_front c.self.inside.bytes.items c.copy_from_slice.new.self _ at count fits
    (c.copy_from_slice.ensures.after ∙ ap (take count) left))
