use Rattle.std.proofs.Common.{◌≤◌, ◌<◌, ◌∙◌, ap, drop, sym, ℕ, List, Ok, ◌+◌, suc, arith, add-one}
use Rattle.std.proofs.lemmas.List.{drop-drop}
use Rattle.library_reader.specs.declared.part.Part.TheVariants.{Point}
use Rattle.library_reader.specs.Reader.{Reading}
use Rattle.library_reader.specs.ReaderView.{reading_of}
use Rattle.library_reader.proofs.HandingLemmas.{drop_bytes, point_due, point_reads, start_within, size_within}
use Rattle.library_reader.proofs.reader.Reader.read_part.Goals as goal

pub overflow_add-self : goal.overflow_add-self
overflow_add-self c =
    let r : Reading = reading_of c.self.inside in
    let h =
    point_reads r c.args.self.now c.unread.result.now c.in-Some.front c.in_ok-point.point c.in_ok-point.count c.self.view_is c.unread.ensures
    c.points.ensures.header c.points.ensures.table
    (drop_bytes c.self.inside.start c.self.inside.bytes.items c.self.invariant.bytes) c.in_ok-point.ensures.value in
    let within = start_within c.self.inside.bytes.items c.self.inside.start c.in_ok-point.count c.self.invariant.start h.fits in
    record { fits = omega (arith, within, c.self.invariant.room) }

pub overflow_add-self-2 : goal.overflow_add-self-2
overflow_add-self-2 c =
    let r : Reading = reading_of c.self.inside in
    let h =
    point_reads r c.args.self.now c.unread.result.now c.in-Some.front c.in_ok-point.point c.in_ok-point.count c.self.view_is c.unread.ensures
    c.points.ensures.header c.points.ensures.table
    (drop_bytes c.self.inside.start c.self.inside.bytes.items c.self.invariant.bytes) c.in_ok-point.ensures.value in
    record { fits = omega (arith, h.fits, c.self.invariant.size) }

pub invariant_of-self : goal.invariant_of-self
invariant_of-self c =
    let r : Reading = reading_of c.self.inside in
    let h =
    point_reads r c.args.self.now c.unread.result.now c.in-Some.front c.in_ok-point.point c.in_ok-point.count c.self.view_is c.unread.ensures
    c.points.ensures.header c.points.ensures.table
    (drop_bytes c.self.inside.start c.self.inside.bytes.items c.self.invariant.bytes) c.in_ok-point.ensures.value in
    let few : c.self.inside.points + 1 ≤ c.in-Some.front.0.points = omega (arith, c.points.ensures.value) in
    let most : c.in-Some.front.0.points ≤ 65536 = omega (arith, c.points.ensures.value, c.points.ensures.few) in
    record {
      start = start_within c.self.inside.bytes.items c.self.inside.start c.in_ok-point.count c.self.invariant.start h.fits;
      room = c.self.invariant.room;
      size = size_within c.self.inside.bytes.items c.self.inside.start c.self.inside.taken c.in_ok-point.count 1073741824 c.self.invariant.start h.fits c.self.invariant.size;
      points = rw c.in-Some.is (few, most);
      bytes = c.self.invariant.bytes;
    }

pub returns-clause-part : goal.returns-clause-part
returns-clause-part c =
    let r : Reading = reading_of c.self.inside in
    let h =
    point_reads r c.args.self.now c.unread.result.now c.in-Some.front c.in_ok-point.point c.in_ok-point.count c.self.view_is c.unread.ensures
    c.points.ensures.header c.points.ensures.table
    (drop_bytes c.self.inside.start c.self.inside.bytes.items c.self.invariant.bytes) c.in_ok-point.ensures.value in
    let few : r.points < c.in-Some.front.0.points = omega (arith, c.points.ensures.value) in
    rw (← c.self.view_is)
    (point_due r c.in-Some.front c.in_ok-point.point c.in_ok-point.count c.in-Some.is few h
    ∙ ap (λ (unread : List ℕ). Ok (Point c.in_ok-point.point, record r { unread = unread; taken = c.self.inside.taken + c.in_ok-point.count; points = suc c.self.inside.points }))
    (drop-drop c.in_ok-point.count c.self.inside.start c.self.inside.bytes.items)
    ∙ ap (λ (points : ℕ). Ok (Point c.in_ok-point.point, record r { unread = drop (c.self.inside.start + c.in_ok-point.count) c.self.inside.bytes.items; taken = c.self.inside.taken + c.in_ok-point.count; points = points }))
    (sym (add-one c.self.inside.points)))
