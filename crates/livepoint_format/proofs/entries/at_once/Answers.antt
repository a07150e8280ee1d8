use Rattle.std.proofs.Common.{◌≡◌, arith, [], take, length, length-take-le}
use Rattle.livepoint_format.specs.Reading.{items}
use Rattle.livepoint_format.specs.Decoding.{entry_after}
use Rattle.livepoint_format.proofs.EntriesLemmas.{passed_if, read_at_once}
use Rattle.livepoint_format.proofs.entries.at_once.Goals as goal

pub returns-then-passed-clause-passed : goal.returns-then-passed-clause-passed
returns-then-passed-clause-passed c =
    let long : length (take c.args.count c.fill-passed.new.row) ≡ c.args.count =
    length-take-le c.args.count c.fill-passed.new.row (omega (arith, c.fill-passed.ensures.len)) in
    let filled = rw c.rest-rest.ensures.value at (c.fill-passed.ensures.filled c.if-passed.true) in
    passed_if c.fill-passed.result (items (entry_after c.args.which.now c.args.limit c.args.set) c.args.count []) c.args.cursor.now
    (take c.args.count c.fill-passed.new.row) c.advance.new.self c.if-passed.true
    (read_at_once c.args.which.now c.args.limit c.args.set c.args.count c.requires.limit c.args.cursor.now c.advance.new.self
    (take c.args.count c.fill-passed.new.row) (rw c.rest-rest.ensures.value at c.if-rest-count.false) long filled c.advance.ensures.place c.advance.ensures.rest)
