use Rattle.std.proofs.Common.{◌≡◌, length, replicate, arith}
use Rattle.std.proofs.lemmas.List.{drop_all, append-nil}
use Rattle.lru_plain.proofs.ListsLemmas.{freed_more}
use Rattle.lru_plain.proofs.lists.free_all.Goals as goal

pub loop-place-preserved : goal.loop-place-preserved
loop-place-preserved g c = record {
  free = rw c.loop-place.invariant.free
      (freed_more c.args.row.now c.args.free c.args.free c.loop-place.place-index c.loop-place-test.true);
}

pub returns : goal.returns
returns g c =
    let end : c.loop-place.place-index ≡ length c.args.row.now = omega arith in
    rw (c.loop-place.invariant.free, end, drop_all (length c.args.row.now) c.args.row.now (omega arith))
    (append-nil (replicate (length c.args.row.now) c.args.free))
