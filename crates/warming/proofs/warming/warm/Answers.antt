use Rattle.std.proofs.Common.{◌≡◌, ◌∙◌, List, sym, ap, subst}
use Rattle.live_points.specs.declared.point.LivePoint.{LivePoint}
use Rattle.live_points.specs.Sharing.{IsSharing}
use Rattle.livepoint_format.specs.Values.{Whole}
use Rattle.rv_machine.specs.Start.{start_of}
use Rattle.warming.proofs.HeaderLemmas.{visited_are}
use Rattle.warming.proofs.WarmingLemmas.{library_is, table_is}
use Rattle.warming.proofs.warming.warm.Goals as goal

pub from_points-requires-clause-table : goal.from_points-requires-clause-table
from_points-requires-clause-table c =
    table_is c.in_ok-header.header c.in_ok-shared.shared c.in_ok-header.ensures.version c.in_ok-shared.ensures.order

pub from_points-requires-clause-count : goal.from_points-requires-clause-count
from_points-requires-clause-count c =
    let are = visited_are c.args.image.now c.in_ok-header.header c.in_ok-points.points.items c.put_in_visit_order.new.points.items
    c.entry-entry.ensures.image c.in_ok-header.ensures.collects c.in_ok-header.ensures.heap c.in_ok-points.ensures.points
    c.in_ok-points.ensures.fields c.put_in_visit_order.ensures in
    are.count

pub from_points-requires-clause-points : goal.from_points-requires-clause-points
from_points-requires-clause-points c =
    let are = visited_are c.args.image.now c.in_ok-header.header c.in_ok-points.points.items c.put_in_visit_order.new.points.items
    c.entry-entry.ensures.image c.in_ok-header.ensures.collects c.in_ok-header.ensures.heap c.in_ok-points.ensures.points
    c.in_ok-points.ensures.fields c.put_in_visit_order.ensures in
    are.follow

pub returns : goal.returns
returns c =
    let are = visited_are c.args.image.now c.in_ok-header.header c.in_ok-points.points.items c.put_in_visit_order.new.points.items
    c.entry-entry.ensures.image c.in_ok-header.ensures.collects c.in_ok-header.ensures.heap c.in_ok-points.ensures.points
    c.in_ok-points.ensures.fields c.put_in_visit_order.ensures in
    let library : Whole = c.from_points.result in
    let points = ap (λ (l : Whole). l.points) c.from_points.ensures in
    let shared = ap (λ (l : Whole). l.shared) c.from_points.ensures in
    library_is (start_of c.args.image.now) c.in_ok-header.header _ library c.in_ok-header.ensures.answer
    (ap (λ (l : Whole). l.head) c.from_points.ensures) (points ∙ are.points)
    (subst (λ (ps : List LivePoint). IsSharing ps library.shared) (c.as_slice.ensures.value ∙ sym points)
    (subst (λ ws. IsSharing c.as_slice.result.now ws) (sym shared) c.in_ok-shared.ensures))
