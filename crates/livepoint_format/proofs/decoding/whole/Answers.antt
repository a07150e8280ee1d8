use Rattle.livepoint_format.specs.Format.{is_first}
use Rattle.livepoint_format.specs.Views.{head_of}
use Rattle.livepoint_format.proofs.LibraryLaws.{table_of_shared}
use Rattle.livepoint_format.proofs.DecodingLemmas.{front_is, points_some, points_most, points_are}
use Rattle.livepoint_format.proofs.decoding.whole.Goals as goal

pub visit_order-requires-clause-some : goal.visit_order-requires-clause-some
visit_order-requires-clause-some c =
    points_some (head_of c.in_ok-head.head) (front_is c.args.cursor.now (head_of c.in_ok-head.head, c.in_ok-head.shared) c.header.new.cursor c.rest-bytes.ensures.bytes c.in_ok-head.ensures.read).header

pub visit_order-requires-clause-few : goal.visit_order-requires-clause-few
visit_order-requires-clause-few c =
    points_most (head_of c.in_ok-head.head) (front_is c.args.cursor.now (head_of c.in_ok-head.head, c.in_ok-head.shared) c.header.new.cursor c.rest-bytes.ensures.bytes c.in_ok-head.ensures.read).header

pub points-requires-clause-header : goal.points-requires-clause-header
points-requires-clause-header c =
    (front_is c.args.cursor.now (head_of c.in_ok-head.head, c.in_ok-head.shared) c.header.new.cursor c.rest-bytes.ensures.bytes c.in_ok-head.ensures.read).header

pub points-requires-clause-table : goal.points-requires-clause-table
points-requires-clause-table c =
    (front_is c.args.cursor.now (head_of c.in_ok-head.head, c.in_ok-head.shared) c.header.new.cursor c.rest-bytes.ensures.bytes c.in_ok-head.ensures.read).shared

pub from_points-requires-clause-header : goal.from_points-requires-clause-header
from_points-requires-clause-header c =
    (front_is c.args.cursor.now (head_of c.in_ok-head.head, c.in_ok-head.shared) c.header.new.cursor c.rest-bytes.ensures.bytes c.in_ok-head.ensures.read).header

pub from_points-requires-clause-table : goal.from_points-requires-clause-table
from_points-requires-clause-table c =
    table_of_shared (is_first (head_of c.in_ok-head.head)) c.in_ok-head.shared (front_is c.args.cursor.now (head_of c.in_ok-head.head, c.in_ok-head.shared) c.header.new.cursor c.rest-bytes.ensures.bytes c.in_ok-head.ensures.read).shared

pub from_points-requires-clause-count : goal.from_points-requires-clause-count
from_points-requires-clause-count c =
    (points_are (head_of c.in_ok-head.head) c.in_ok-head.shared (front_is c.args.cursor.now (head_of c.in_ok-head.head, c.in_ok-head.shared) c.header.new.cursor c.rest-bytes.ensures.bytes c.in_ok-head.ensures.read).header (front_is c.args.cursor.now (head_of c.in_ok-head.head, c.in_ok-head.shared) c.header.new.cursor c.rest-bytes.ensures.bytes c.in_ok-head.ensures.read).shared c.in_ok-head.head.points c.header.new.cursor c.in_ok-points.points.items c.points.new.cursor c.rest-rest.ensures.bytes c.in_ok-points.ensures).0

pub from_points-requires-clause-points : goal.from_points-requires-clause-points
from_points-requires-clause-points c =
    (points_are (head_of c.in_ok-head.head) c.in_ok-head.shared (front_is c.args.cursor.now (head_of c.in_ok-head.head, c.in_ok-head.shared) c.header.new.cursor c.rest-bytes.ensures.bytes c.in_ok-head.ensures.read).header (front_is c.args.cursor.now (head_of c.in_ok-head.head, c.in_ok-head.shared) c.header.new.cursor c.rest-bytes.ensures.bytes c.in_ok-head.ensures.read).shared c.in_ok-head.head.points c.header.new.cursor c.in_ok-points.points.items c.points.new.cursor c.rest-rest.ensures.bytes c.in_ok-points.ensures).1
