use Rattle.std.proofs.Common.{sym, arith, ◌∙◌, ◌≡◌, ◌+◌, ◌-◌}
use Rattle.ruu_timing.proofs.FlightLemmas.{store_here, store_retired, store_waits}
use Rattle.ruu_timing.proofs.flight.in_flight.Goals as goal

pub loop-k-preserved : goal.loop-k-preserved
loop-k-preserved c = record {
  further = λ list ring count.
      let e : c.loop-k.k + 1 - 1 ≡ c.loop-k.k = omega arith in
      rw e ((store_waits list c.args.stores.now c.args.stored c.loop-k.k c.args.word c.args.dispatch c.store_back-store.result
      c.store_back-store.ensures ring count (omega arith) (omega arith) c.if-store-dispatch.false
      (sym c.is_given.ensures ∙ c.if-is_given.false)).0 ∙ c.loop-k.invariant.further list ring count);
  waits = λ list ring count some.
      let e : c.loop-k.k + 1 - 2 ≡ c.loop-k.k - 1 = omega arith in
      rw e (store_waits list c.args.stores.now c.args.stored c.loop-k.k c.args.word c.args.dispatch c.store_back-store.result
      c.store_back-store.ensures ring count (omega arith) (omega arith) c.if-store-dispatch.false
      (sym c.is_given.ensures ∙ c.if-is_given.false)).1;
}

pub returns-then-store-dispatch-clause-value : goal.returns-then-store-dispatch-clause-value
returns-then-store-dispatch-clause-value c = λ list ring falls count le.
    sym (sym (c.loop-k.invariant.further list ring count)
    ∙ store_retired list c.args.stores.now c.args.stored c.loop-k.k c.args.word c.args.dispatch c.store_back-store.result
    c.store_back-store.ensures ring falls count (omega arith) (omega arith) c.if-store-dispatch.true)

pub returns-then-is_given-clause-value : goal.returns-then-is_given-clause-value
returns-then-is_given-clause-value c = λ list ring falls count le.
    sym (sym (c.loop-k.invariant.further list ring count)
    ∙ store_here list c.args.stores.now c.args.stored c.loop-k.k c.args.word c.args.dispatch c.store_back-store.result
    c.store_back-store.ensures ring count (omega arith) (omega arith) c.if-store-dispatch.false
    (sym c.is_given.ensures ∙ c.if-is_given.true))
