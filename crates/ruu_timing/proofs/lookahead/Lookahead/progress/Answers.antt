use Rattle.std.proofs.Common.{arith, nat_lt}
use Rattle.ruu_timing.proofs.ListLemmas.{filter_short}
use Rattle.ruu_timing.proofs.lookahead.Lookahead.progress.Goals as goal

pub overflow_sub-result : goal.overflow_sub-result
overflow_sub-result c = rw c.fetched_later.ensures (omega (arith, c.requires.latest, filter_short (λ x. nat_lt c.args.t x.fetch) c.args.self.now.latest.items))

pub overflow_sub-result-2 : goal.overflow_sub-result-2
overflow_sub-result-2 c = rw c.dispatched_later.ensures (omega (arith, c.requires.latest, filter_short (λ x. nat_lt c.args.t x.dispatch) c.args.self.now.latest.items))

pub overflow_sub-result-3 : goal.overflow_sub-result-3
overflow_sub-result-3 c = rw c.issued_later.ensures (omega (arith, c.requires.latest, filter_short (λ x. nat_lt c.args.t x.issue) c.args.self.now.latest.items))

pub overflow_sub-result-4 : goal.overflow_sub-result-4
overflow_sub-result-4 c = rw c.retired_later.ensures (omega (arith, c.requires.latest, filter_short (λ x. nat_lt c.args.t x.retirement) c.args.self.now.latest.items))
