use Rattle.std.proofs.Common.{refl, ◌∙◌}
use Rattle.rv_machine.proofs.ShownLemmas.{shown, nothing_written}
use Rattle.rv_machine.proofs.UndoneLemmas.{end_of, no_memory}
use Rattle.rv_machine.proofs.WriteLemmas.{wrote}
use Rattle.rv_machine.proofs.whole.Whole.advance_watched.Goals as goal

pub returns-in_default-clause-advances : goal.returns-in_default-clause-advances
returns-in_default-clause-advances g c =
    shown c.args.self.now _ _ _ _ c.self.view_is c.self.inside.core.aligned c.in-Ok.ensures.next refl
    (rw c.in_default.is (nothing_written _ _))

pub returns-then-not-self-clause-advances : goal.returns-then-not-self-clause-advances
returns-then-not-self-clause-advances g c =
    shown c.args.self.now _ _ _ _ c.self.view_is c.self.inside.core.aligned c.in-Ok.ensures.next refl
    (rw c.if-not-self.true refl)

pub append-requires-clause-end : goal.append-requires-clause-end
append-requires-clause-end g c =
    let shows = c.in-Ok.ensures.next in
    let call = wrote _ _ shows.event c.in-Some.buffer shows.went (shows.output ∙ c.in-Some.is) in
    end_of _ _ c.in-Some.buffer.addr c.in-Some.buffer.len c.self.invariant.highest call.some
    call.covered

pub returns-in-Ok-append-clause-advances : goal.returns-in-Ok-append-clause-advances
returns-in-Ok-append-clause-advances g c =
    shown c.args.self.now _ _ _ _ c.self.view_is c.self.inside.core.aligned c.in-Ok.ensures.next refl
    (rw (c.if-not-self.false, c.in-Some.is) c.in-Ok-append.ensures.ok)

pub returns-in-Err-append-clause-advances : goal.returns-in-Err-append-clause-advances
returns-in-Err-append-clause-advances g c =
    let shows = c.in-Ok.ensures.next in
    no_memory c.args.self.now _ _ shows.event c.in-Some.buffer c.append.new.output.items
    c.self.view_is c.if-not-self.false shows.went (shows.output ∙ c.in-Some.is) c.in-Err-append.ensures.err
