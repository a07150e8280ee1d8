use Rattle.std.proofs.Common.{◌≡◌, ◌<◌, [], length, get_or, drop, ◌∙◌, arith, refl}
use Rattle.std.proofs.lemmas.List.{take_at}
use Rattle.lru_plain.specs.Shape.{sets_of}
use Rattle.lru_plain.specs.Lists.{lists_in}
use Rattle.lru_plain.proofs.ListsLemmas.{room_left, appended_row, appended_lists}
use Rattle.lru_plain.proofs.lists.Lists.append.Goals as goal

pub append_at-requires-clause-room : goal.append_at-requires-clause-room
append_at-requires-clause-room g c =
    let ways : c.from-ways.result ≡ c.self.inside.geometry.ways = c.from-ways.ensures ∙ c.ways.ensures.value in
    let below : c.args.set < sets_of c.self.inside.geometry = rw (← c.self.view_is) at c.requires.set in
    let room : length (get_or (lists_in g.E.Listed.block_in c.self.inside.geometry c.self.inside.row.items) c.args.set []) < c.self.inside.geometry.ways =
    rw (← c.self.view_is) at c.requires.room in
    rw (c.deref_mut.ensures.value, c.start_of-start.ensures.value, ways)
    (room_left g.E.Listed.block_in c.self.inside.geometry c.self.inside.mask c.self.inside.row.items c.self.invariant
    c.args.element c.args.set c.requires.block below room)

pub invariant_of-self : goal.invariant_of-self
invariant_of-self g c =
    let ways : c.from-ways.result ≡ c.self.inside.geometry.ways = c.from-ways.ensures ∙ c.ways.ensures.value in
    let below : c.args.set < sets_of c.self.inside.geometry = rw (← c.self.view_is) at c.requires.set in
    let room : length (get_or (lists_in g.E.Listed.block_in c.self.inside.geometry c.self.inside.row.items) c.args.set []) < c.self.inside.geometry.ways =
    rw (← c.self.view_is) at c.requires.room in
    rw (
      take_at c.append_at.new.row (drop (length c.append_at.new.row) c.self.inside.row.items) c.self.inside.row.len (omega arith),
      c.append_at.ensures,
      c.deref_mut.ensures.value,
      c.start_of-start.ensures.value,
      ways,
    ) (appended_row g.E.Listed.block_in c.self.inside.geometry c.self.inside.mask c.self.inside.row.items c.self.invariant
    c.args.element c.args.set c.requires.block below room)

pub returns : goal.returns
returns g c =
    let ways : c.from-ways.result ≡ c.self.inside.geometry.ways = c.from-ways.ensures ∙ c.ways.ensures.value in
    let below : c.args.set < sets_of c.self.inside.geometry = rw (← c.self.view_is) at c.requires.set in
    let room : length (get_or (lists_in g.E.Listed.block_in c.self.inside.geometry c.self.inside.row.items) c.args.set []) < c.self.inside.geometry.ways =
    rw (← c.self.view_is) at c.requires.room in
    rw (
      ← c.self.view_is,
      take_at c.append_at.new.row (drop (length c.append_at.new.row) c.self.inside.row.items) c.self.inside.row.len (omega arith),
      c.append_at.ensures,
      c.deref_mut.ensures.value,
      c.start_of-start.ensures.value,
      ways,
      appended_lists g.E.Listed.block_in c.self.inside.geometry c.self.inside.mask c.self.inside.row.items c.self.invariant
          c.args.element c.args.set c.requires.block below room,
    ) refl
