use Rattle.std.proofs.Common.{◌≡◌, ◌<◌, ◌+◌, ℕ, List, arith, length, get_or, ◌∙◌, sym}
use Rattle.lru_plain.specs.Shape.{sets_of}
use Rattle.std.proofs.lemmas.List.{get_or_default}
use Rattle.recency_record.proofs.Rows.{part_at}
use Rattle.recency_record.proofs.snapshot.Snapshot.entries.Goals as goal

pub returns-clause-value : goal.returns-clause-value
returns-clause-value c =
    let starts : List ℕ = c.self.inside.starts.items in
    let set : c.args.set < sets_of c.self.inside.geometry = rw (← c.self.view_is) at c.requires in
    let within : c.args.set + 1 < length starts = omega (arith, c.self.invariant.count, set) in
    let first : c.index.result.now ≡ get_or starts c.args.set 0 =
    c.index.ensures ∙ get_or_default starts c.args.set c.index.result.now 0 (omega (arith, within)) in
    let next : c.index-2.result.now ≡ get_or starts (c.args.set + 1) 0 =
    c.index-2.ensures ∙ get_or_default starts (c.args.set + 1) c.index-2.result.now 0 within in
    rw (← c.self.view_is, first, next, c.deref.ensures.value) (sym (part_at starts c.self.inside.entries.items c.args.set within))
