use Rattle.std.proofs.Common.{◌≡◌, true, take, sym, ◌∙◌, ap}
use Rattle.predictor.specs.Parts.{is_counter}
use Rattle.livepoint_format.specs.Image.{greatest}
use Rattle.livepoint_format.proofs.ImageLemmas.{counters_at_once}
use Rattle.livepoint_format.proofs.image.counters.Goals as goal

pub returns : goal.returns
returns c =
    let test : is_counter (greatest (take c.args.count c.rest-rest.result.now)) ≡ true =
    ap is_counter (sym c.greatest.ensures) ∙ sym c.is_counter.ensures ∙ c.if-not-is_counter.false in
    counters_at_once c.args.count c.args.cursor.now c.advance.new.self c.in_ok-counters.counters.items c.rest-rest.ensures.bytes
    (rw c.rest-rest.ensures.value at c.if-rest-count.false) (rw c.rest-rest.ensures.value at test)
    (rw c.rest-rest.ensures.value at c.in_ok-counters.ensures.items) c.advance.ensures.place c.advance.ensures.rest
