use Rattle.std.proofs.Common.{◌≡◌, rules}
use Rattle.library_fold.proofs.HeaderLemmas.{foldable_of, no_header, started_of}
use Rattle.library_fold.proofs.front.read_header.Goals as goal

pub returns-in-End-clause-fault : goal.returns-in-End-clause-fault
returns-in-End-clause-fault g c =
    let handed = rw c.in-End.is at c.in_ok-fault.ensures.handed in
    (handed.0, no_header c.args.intake.now _ _ handed.0 c.requires handed.1)

pub returns-clause-started : goal.returns-clause-started
returns-clause-started g c =
    let handed = rw c.in-Header.is at c.in_ok-fault.ensures.handed in
    let found = c.in-Some.ensures in
    rw c.copied.ensures
    (started_of c.in-Some.header.now c.args.intake.now c.next.new.self _ _ handed.0 c.requires handed.1 found.value found.header found.budget)

pub returns-clause-foldable : goal.returns-clause-foldable
returns-clause-foldable g c =
    rw c.copied.ensures (foldable_of c.in-Some.header.now c.in-Some.ensures.header c.in-Some.ensures.budget)
