use Rattle.turbosmarts.proofs.OutOfOrderLemmas.{marked_none}
use Rattle.turbosmarts.proofs.out_of_order.OutOfOrder.new.Goals as goal

pub returns-clause-shown : goal.returns-clause-shown
returns-clause-shown c =
    rw c.in_ok-with_capacity.ensures
    (marked_none _ _ _ _ c.requires.kind c.in_ok-new-2.ensures.widths c.requires.longest c.in_ok-new.ensures)
