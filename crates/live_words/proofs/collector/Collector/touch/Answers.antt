use Rattle.std.proofs.Common.{sym, ◌∙◌, ap, arith}
use Rattle.rv_exec.specs.Memory.{Words}
use Rattle.live_words.specs.Collector.{with_first}
use Rattle.live_words.proofs.CollectorLemmas.{touched_new, touched_again, with_first_more, inserted, all_found}
use Rattle.live_words.proofs.collector.Collector.touch.Goals as goal

pub returns-in_ok-insert-clause-first : goal.returns-in_ok-insert-clause-first
returns-in_ok-insert-clause-first c =
    touched_new c.self.inside.first.entries c.insert.new.self.entries c.args.addr c.args.value
    (inserted c.self.inside.first c.args.addr c.args.value c.insert.new.self.entries
    (sym c.contains_key.ensures ∙ c.if-not-contains_key.true) c.in_ok-insert.ensures.entries)
    ∙ ap (λ (words : Words). with_first words c.args.addr c.args.value) c.self.view_is

pub returns-in_ok-insert-clause-found : goal.returns-in_ok-insert-clause-found
returns-in_ok-insert-clause-found c = λ pairs was.
    returns-in_ok-insert-clause-first c
    ∙ ap (λ (words : Words). with_first words c.args.addr c.args.value) was
    ∙ with_first_more pairs c.args.addr c.args.value

pub returns-else-not-contains_key-clause-first : goal.returns-else-not-contains_key-clause-first
returns-else-not-contains_key-clause-first c =
    sym c.self.view_is
    ∙ touched_again c.self.inside.first.entries c.args.addr c.args.value
    (sym c.contains_key.ensures ∙ c.if-not-contains_key.false)
    ∙ ap (λ (words : Words). with_first words c.args.addr c.args.value) c.self.view_is

pub returns-else-not-contains_key-clause-found : goal.returns-else-not-contains_key-clause-found
returns-else-not-contains_key-clause-found c = λ pairs was.
    returns-else-not-contains_key-clause-first c
    ∙ ap (λ (words : Words). with_first words c.args.addr c.args.value) was
    ∙ with_first_more pairs c.args.addr c.args.value

pub invariant_of-self : goal.invariant_of-self
invariant_of-self c =
    all_found c.self.inside.first.entries c.insert.new.self.entries c.args.addr c.args.value c.self.invariant
    (inserted c.self.inside.first c.args.addr c.args.value c.insert.new.self.entries
    (sym c.contains_key.ensures ∙ c.if-not-contains_key.true) c.in_ok-insert.ensures.entries)
    (record { addr = omega (arith, c.ranges.addr.fits); value = omega (arith, c.ranges.value.fits); aligned = c.requires })
