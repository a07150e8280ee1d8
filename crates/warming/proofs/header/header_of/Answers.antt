use Rattle.std.proofs.Common.{◌≡◌, ◌∙◌, ℕ, Ok, refl, sym, ap, subst}
use Rattle.live_points.specs.declared.header.Header.{Header}
use Rattle.livepoint_format.specs.Format.{IsHeader}
use Rattle.livepoint_format.specs.Views.{head_of}
use Rattle.rv_machine.specs.Start.{start_of}
use Rattle.warming.specs.Collecting.{CanCollect}
use Rattle.warming.specs.Warming.{header_with}
use Rattle.warming.proofs.HeaderLemmas.{header_is, heap_of_start}
use Rattle.warming.proofs.WarmingLemmas.{can_collect, counts_of, header_found, header_passed, units_refused}
use Rattle.warming.proofs.header.header_of.Goals as goal

pub returns-clause-answer : goal.returns-clause-answer
returns-clause-answer c =
    let heap = c.heap_low.ensures.value ∙ sym (heap_of_start c.args.image.now) in
    header_found (start_of c.args.image.now) c.args.design.now c.args.records.now c.in_ok-length.length c.in-Ok.count
    c.in_ok-length.ensures.answer (sym c.in-Ok.ensures.units)
    ∙ ap (λ (h : ℕ). Ok (header_with c.args.design.now c.args.records.now h c.in_ok-length.length c.in-Ok.count)) (sym heap)
    ∙ ap Ok (sym c.header_with.ensures.value)

pub returns-clause-collects : goal.returns-clause-collects
returns-clause-collects c =
    subst (λ (h : Header). CanCollect (start_of c.args.image.now) h) (sym c.header_with.ensures.value)
    (can_collect (start_of c.args.image.now) c.args.design.now c.args.records.now c.heap_low.result c.in_ok-length.length c.in-Ok.count
    c.requires.design c.requires.records c.header_with.ensures.kinds c.in_ok-length.ensures.goes
    (counts_of c.args.design.now c.in_ok-length.length c.in-Ok.count (sym c.in-Ok.ensures.units)) c.in-Ok.ensures.below)

pub returns-clause-header : goal.returns-clause-header
returns-clause-header c =
    subst (λ (h : Header). IsHeader (head_of h))
    (ap (λ (h : ℕ). header_with c.args.design.now c.args.records.now h c.in_ok-length.length c.in-Ok.count) (sym c.heap_low.ensures.value)
    ∙ sym c.header_with.ensures.value)
    (header_is c.args.image.now c.args.design.now c.args.records.now c.in_ok-length.length c.in-Ok.count c.heap_low.ensures.image
    c.requires.design c.requires.records c.header_with.ensures.kinds c.in_ok-length.ensures.goes.least c.in_ok-length.ensures.goes.most
    (sym c.in-Ok.ensures.units))

pub returns-clause-version : goal.returns-clause-version
returns-clause-version c = ap (λ (h : Header). h.version) c.header_with.ensures.value

pub returns-clause-heap : goal.returns-clause-heap
returns-clause-heap c =
    ap (λ (h : Header). h.heap_low) c.header_with.ensures.value ∙ c.heap_low.ensures.value ∙ sym (heap_of_start c.args.image.now)

pub returns-in_err-length-clause-answer : goal.returns-in_err-length-clause-answer
returns-in_err-length-clause-answer c =
    header_passed (start_of c.args.image.now) c.args.design.now c.args.records.now c.from_residual.result c.in_err-length.field-0.0
    c.from_residual.ensures.1 c.in_err-length.ensures.answer

pub returns-in-Err-clause-answer : goal.returns-in-Err-clause-answer
returns-in-Err-clause-answer c =
    units_refused (start_of c.args.image.now) c.args.design.now c.args.records.now c.in_ok-length.length _ c.in_ok-length.ensures.answer
    (rw (← c.in-Err.ensures.units) refl)
