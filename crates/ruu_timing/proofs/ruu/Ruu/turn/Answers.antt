use Rattle.std.proofs.Common.{◌≡◌, ◌+◌, ◌∙◌, ℕ, List, ap, arith, subst, sym}
use Rattle.hierarchy.specs.declared.marked.Marked.{Marked}
use Rattle.ruu_timing.specs.Progress.{progress_before, sum_of}
use Rattle.ruu_timing.specs.Ruu.{IsUnderWay, RuuShown}
use Rattle.ruu_timing.specs.Times.{times}
use Rattle.ruu_timing.specs.contracts.ruu.Ruu.{the_view}
use Rattle.ruu_timing.specs.declared.progress.Progress.{Progress}
use Rattle.ruu_timing.specs.declared.lookahead.Lookahead.{Lookahead}
use Rattle.ruu_timing.proofs.LookaheadLemmas.{few_latest}
use Rattle.ruu_timing.proofs.RuuLemmas.{IsSomeTurn, most, none_turn, some_turn, turn_left, turn_rises, turned}
use Rattle.ruu_timing.proofs.ruu.Ruu.turn.Goals as goal

pub behind-from-requires : goal.behind-from-requires
behind-from-requires g c =
    let items : List Marked = g.T.Trace.items c.args.trace.now in
    let under : IsUnderWay items (the_view c.self.inside) = rw (← c.self.view_is) at c.requires.under_way in
    omega (arith, under.small)

pub returns-then-t-clause-under_way : goal.returns-then-t-clause-under_way
returns-then-t-clause-under_way g c =
    let items : List Marked = g.T.Trace.items c.args.trace.now in
    let under : IsUnderWay items (the_view c.self.inside) = rw (← c.self.view_is) at c.requires.under_way in
    let over = none_turn c.self.inside.widths c.self.invariant.0 (g.T.Trace.items c.args.trace.now) c.requires.few c.requires.marks c.self.inside.cycle
    c.self.inside.progress c.self.inside.ahead under c.start.new.self c.start.ensures.ahead c.start.ensures.count c.start.ensures.same
    (rw c.behind-from.ensures at (sym c.least_next-t.ensures) ∙ c.if-t.true) in
    subst (λ (a : Lookahead). IsUnderWay items (record {
      widths = c.self.inside.widths;
      cycle = c.self.inside.cycle;
      progress = c.self.inside.progress;
      ahead = a;
    })) (sym over.1) under

pub returns-then-t-clause-over : goal.returns-then-t-clause-over
returns-then-t-clause-over g c =
    let items : List Marked = g.T.Trace.items c.args.trace.now in
    let under : IsUnderWay items (the_view c.self.inside) = rw (← c.self.view_is) at c.requires.under_way in
    let over = none_turn c.self.inside.widths c.self.invariant.0 (g.T.Trace.items c.args.trace.now) c.requires.few c.requires.marks c.self.inside.cycle
    c.self.inside.progress c.self.inside.ahead under c.start.new.self c.start.ensures.ahead c.start.ensures.count c.start.ensures.same
    (rw c.behind-from.ensures at (sym c.least_next-t.ensures) ∙ c.if-t.true) in
    let same : the_view c.self.inside ≡ c.args.self.now = c.self.view_is in (
      ap (λ (v : RuuShown). v.progress.retired) (sym same) ∙ over.0,
      ap (λ (a : Lookahead). record {
        widths = c.self.inside.widths;
        cycle = c.self.inside.cycle;
        progress = c.self.inside.progress;
        ahead = a;
      }) over.1 ∙ same,
    )

pub returns-then-t-clause-progress : goal.returns-then-t-clause-progress
returns-then-t-clause-progress g c =
    let items : List Marked = g.T.Trace.items c.args.trace.now in
    let under : IsUnderWay items (the_view c.self.inside) = rw (← c.self.view_is) at c.requires.under_way in
    rw (← c.self.view_is) under.progress

pub returns-then-t-clause-most : goal.returns-then-t-clause-most
returns-then-t-clause-most g c =
    let items : List Marked = g.T.Trace.items c.args.trace.now in
    let under : IsUnderWay items (the_view c.self.inside) = rw (← c.self.view_is) at c.requires.under_way in
    rw under.progress (most c.self.inside.widths c.self.invariant.0 (g.T.Trace.items c.args.trace.now) c.requires.few c.requires.marks c.self.inside.cycle
    c.self.inside.progress c.self.inside.ahead under c.start.new.self c.start.ensures.ahead c.start.ensures.count c.start.ensures.same _)

pub look_beyond-requires-clause-gone : goal.look_beyond-requires-clause-gone
look_beyond-requires-clause-gone g c =
    let items : List Marked = g.T.Trace.items c.args.trace.now in
    let under : IsUnderWay items (the_view c.self.inside) = rw (← c.self.view_is) at c.requires.under_way in
    let t : ℕ = c.least_next-t.result in
    let turn : IsSomeTurn c.self.inside.widths c.self.invariant.0 (g.T.Trace.items c.args.trace.now) c.requires.few c.requires.marks c.self.inside.cycle
    c.self.inside.progress c.self.inside.ahead under c.start.new.self c.start.ensures.ahead c.start.ensures.count c.start.ensures.same t =
    some_turn c.self.inside.widths c.self.invariant.0 (g.T.Trace.items c.args.trace.now) c.requires.few c.requires.marks c.self.inside.cycle
    c.self.inside.progress c.self.inside.ahead under c.start.new.self c.start.ensures.ahead c.start.ensures.count c.start.ensures.same t
    (rw c.behind-from.ensures at (sym c.least_next-t.ensures)) (omega arith) in
    turn.gone

pub progress-self-inside-requires-clause-few : goal.progress-self-inside-requires-clause-few
progress-self-inside-requires-clause-few g c = omega (arith, c.look_beyond.ensures.ahead.within, c.requires.few)

pub progress-self-inside-requires-clause-latest : goal.progress-self-inside-requires-clause-latest
progress-self-inside-requires-clause-latest g c =
    few_latest c.self.inside.widths c.self.invariant.0 (g.T.Trace.items c.args.trace.now) c.requires.few c.requires.marks c.look_beyond.new.self
    c.look_beyond.ensures.ahead

pub returns-clause-under_way : goal.returns-clause-under_way
returns-clause-under_way g c =
    let items : List Marked = g.T.Trace.items c.args.trace.now in
    let under : IsUnderWay items (the_view c.self.inside) = rw (← c.self.view_is) at c.requires.under_way in
    let t : ℕ = c.least_next-t.result in
    let turn : IsSomeTurn c.self.inside.widths c.self.invariant.0 (g.T.Trace.items c.args.trace.now) c.requires.few c.requires.marks c.self.inside.cycle
    c.self.inside.progress c.self.inside.ahead under c.start.new.self c.start.ensures.ahead c.start.ensures.count c.start.ensures.same t =
    some_turn c.self.inside.widths c.self.invariant.0 (g.T.Trace.items c.args.trace.now) c.requires.few c.requires.marks c.self.inside.cycle
    c.self.inside.progress c.self.inside.ahead under c.start.new.self c.start.ensures.ahead c.start.ensures.count c.start.ensures.same t
    (rw c.behind-from.ensures at (sym c.least_next-t.ensures)) (omega arith) in
    rw c.progress-self-inside.ensures
    (turned c.self.inside.widths c.self.invariant.0 (g.T.Trace.items c.args.trace.now) c.requires.few c.requires.marks c.self.inside.cycle
    c.self.inside.progress c.self.inside.ahead under c.start.new.self c.start.ensures.ahead c.start.ensures.count c.start.ensures.same t c.look_beyond.new.self turn
    c.look_beyond.ensures.ahead c.look_beyond.ensures.reach c.look_beyond.ensures.gone)

pub returns-clause-over : goal.returns-clause-over
returns-clause-over g c =
    let items : List Marked = g.T.Trace.items c.args.trace.now in
    let under : IsUnderWay items (the_view c.self.inside) = rw (← c.self.view_is) at c.requires.under_way in
    let t : ℕ = c.least_next-t.result in
    let turn : IsSomeTurn c.self.inside.widths c.self.invariant.0 (g.T.Trace.items c.args.trace.now) c.requires.few c.requires.marks c.self.inside.cycle
    c.self.inside.progress c.self.inside.ahead under c.start.new.self c.start.ensures.ahead c.start.ensures.count c.start.ensures.same t =
    some_turn c.self.inside.widths c.self.invariant.0 (g.T.Trace.items c.args.trace.now) c.requires.few c.requires.marks c.self.inside.cycle
    c.self.inside.progress c.self.inside.ahead under c.start.new.self c.start.ensures.ahead c.start.ensures.count c.start.ensures.same t
    (rw c.behind-from.ensures at (sym c.least_next-t.ensures)) (omega arith) in
    rw (← c.self.view_is) (turn_left c.self.inside.widths c.self.invariant.0 (g.T.Trace.items c.args.trace.now) c.requires.few c.requires.marks c.self.inside.cycle
    c.self.inside.progress c.self.inside.ahead under c.start.new.self c.start.ensures.ahead c.start.ensures.count c.start.ensures.same t turn)

pub returns-clause-next : goal.returns-clause-next
returns-clause-next g c =
    let items : List Marked = g.T.Trace.items c.args.trace.now in
    let under : IsUnderWay items (the_view c.self.inside) = rw (← c.self.view_is) at c.requires.under_way in
    let t : ℕ = c.least_next-t.result in
    let turn : IsSomeTurn c.self.inside.widths c.self.invariant.0 (g.T.Trace.items c.args.trace.now) c.requires.few c.requires.marks c.self.inside.cycle
    c.self.inside.progress c.self.inside.ahead under c.start.new.self c.start.ensures.ahead c.start.ensures.count c.start.ensures.same t =
    some_turn c.self.inside.widths c.self.invariant.0 (g.T.Trace.items c.args.trace.now) c.requires.few c.requires.marks c.self.inside.cycle
    c.self.inside.progress c.self.inside.ahead under c.start.new.self c.start.ensures.ahead c.start.ensures.count c.start.ensures.same t
    (rw c.behind-from.ensures at (sym c.least_next-t.ensures)) (omega arith) in
    rw (← c.self.view_is) turn.first

pub returns-clause-progress : goal.returns-clause-progress
returns-clause-progress g c =
    let items : List Marked = g.T.Trace.items c.args.trace.now in
    let under : IsUnderWay items (the_view c.self.inside) = rw (← c.self.view_is) at c.requires.under_way in
    let t : ℕ = c.least_next-t.result in
    let turn : IsSomeTurn c.self.inside.widths c.self.invariant.0 (g.T.Trace.items c.args.trace.now) c.requires.few c.requires.marks c.self.inside.cycle
    c.self.inside.progress c.self.inside.ahead under c.start.new.self c.start.ensures.ahead c.start.ensures.count c.start.ensures.same t =
    some_turn c.self.inside.widths c.self.invariant.0 (g.T.Trace.items c.args.trace.now) c.requires.few c.requires.marks c.self.inside.cycle
    c.self.inside.progress c.self.inside.ahead under c.start.new.self c.start.ensures.ahead c.start.ensures.count c.start.ensures.same t
    (rw c.behind-from.ensures at (sym c.least_next-t.ensures)) (omega arith) in
    rw (← c.self.view_is, c.progress-self-inside.ensures)
    (turned c.self.inside.widths c.self.invariant.0 (g.T.Trace.items c.args.trace.now) c.requires.few c.requires.marks c.self.inside.cycle
    c.self.inside.progress c.self.inside.ahead under c.start.new.self c.start.ensures.ahead c.start.ensures.count c.start.ensures.same t c.look_beyond.new.self turn
    c.look_beyond.ensures.ahead c.look_beyond.ensures.reach c.look_beyond.ensures.gone).progress

pub returns-clause-rises : goal.returns-clause-rises
returns-clause-rises g c =
    let items : List Marked = g.T.Trace.items c.args.trace.now in
    let under : IsUnderWay items (the_view c.self.inside) = rw (← c.self.view_is) at c.requires.under_way in
    let t : ℕ = c.least_next-t.result in
    let turn : IsSomeTurn c.self.inside.widths c.self.invariant.0 (g.T.Trace.items c.args.trace.now) c.requires.few c.requires.marks c.self.inside.cycle
    c.self.inside.progress c.self.inside.ahead under c.start.new.self c.start.ensures.ahead c.start.ensures.count c.start.ensures.same t =
    some_turn c.self.inside.widths c.self.invariant.0 (g.T.Trace.items c.args.trace.now) c.requires.few c.requires.marks c.self.inside.cycle
    c.self.inside.progress c.self.inside.ahead under c.start.new.self c.start.ensures.ahead c.start.ensures.count c.start.ensures.same t
    (rw c.behind-from.ensures at (sym c.least_next-t.ensures)) (omega arith) in
    let now = (turned c.self.inside.widths c.self.invariant.0 (g.T.Trace.items c.args.trace.now) c.requires.few c.requires.marks c.self.inside.cycle
    c.self.inside.progress c.self.inside.ahead under c.start.new.self c.start.ensures.ahead c.start.ensures.count c.start.ensures.same t c.look_beyond.new.self turn
    c.look_beyond.ensures.ahead c.look_beyond.ensures.reach c.look_beyond.ensures.gone).progress in
    let left : sum_of c.args.self.now.progress ≡ sum_of c.self.inside.progress = ap (λ (v : RuuShown). sum_of v.progress) (sym c.self.view_is) in
    let right : sum_of c.progress-self-inside.result ≡ sum_of (progress_before (times c.self.inside.widths items) (t + 1)) =
    ap (λ (p : Progress). sum_of p) (c.progress-self-inside.ensures ∙ now) in
    omega (
      arith,
      left,
      right,
      turn_rises c.self.inside.widths c.self.invariant.0 (g.T.Trace.items c.args.trace.now) c.requires.few c.requires.marks c.self.inside.cycle
          c.self.inside.progress c.self.inside.ahead under c.start.new.self c.start.ensures.ahead c.start.ensures.count c.start.ensures.same t turn,
    )

pub returns-clause-most : goal.returns-clause-most
returns-clause-most g c =
    let items : List Marked = g.T.Trace.items c.args.trace.now in
    let under : IsUnderWay items (the_view c.self.inside) = rw (← c.self.view_is) at c.requires.under_way in
    let t : ℕ = c.least_next-t.result in
    let turn : IsSomeTurn c.self.inside.widths c.self.invariant.0 (g.T.Trace.items c.args.trace.now) c.requires.few c.requires.marks c.self.inside.cycle
    c.self.inside.progress c.self.inside.ahead under c.start.new.self c.start.ensures.ahead c.start.ensures.count c.start.ensures.same t =
    some_turn c.self.inside.widths c.self.invariant.0 (g.T.Trace.items c.args.trace.now) c.requires.few c.requires.marks c.self.inside.cycle
    c.self.inside.progress c.self.inside.ahead under c.start.new.self c.start.ensures.ahead c.start.ensures.count c.start.ensures.same t
    (rw c.behind-from.ensures at (sym c.least_next-t.ensures)) (omega arith) in
    let now = (turned c.self.inside.widths c.self.invariant.0 (g.T.Trace.items c.args.trace.now) c.requires.few c.requires.marks c.self.inside.cycle
    c.self.inside.progress c.self.inside.ahead under c.start.new.self c.start.ensures.ahead c.start.ensures.count c.start.ensures.same t c.look_beyond.new.self turn
    c.look_beyond.ensures.ahead c.look_beyond.ensures.reach c.look_beyond.ensures.gone).progress in
    let right : sum_of c.progress-self-inside.result ≡ sum_of (progress_before (times c.self.inside.widths items) (t + 1)) =
    ap (λ (p : Progress). sum_of p) (c.progress-self-inside.ensures ∙ now) in
    omega (
      arith,
      right,
      most c.self.inside.widths c.self.invariant.0 (g.T.Trace.items c.args.trace.now) c.requires.few c.requires.marks c.self.inside.cycle
          c.self.inside.progress c.self.inside.ahead under c.start.new.self c.start.ensures.ahead c.start.ensures.count c.start.ensures.same (t + 1),
    )
