use Rattle.std.proofs.Common.{arith, ◌≡◌, sym, ap, length}
use Rattle.live_words.specs.Windows.{WindowsValue}
use Rattle.live_words.specs.WindowsView.{note_of}
use Rattle.live_words.proofs.WindowsLemmas.{noted_end, windows_started}
use Rattle.live_words.proofs.windows.Windows.end.Goals as goal

pub invariant_of-self : goal.invariant_of-self
invariant_of-self c =
    let len : length c.args.self.now.windows ≡ c.self.inside.started =
    windows_started c.self.inside.touches.items c.self.inside.ended c.self.inside.started c.args.self.now c.self.view_is in
    let ended : c.args.self.now.ended ≡ c.self.inside.ended = ap (λ (v : WindowsValue). v.ended) (sym c.self.view_is) in (
      noted_end c.self.inside.touches.items c.self.inside.ended c.self.inside.started (note_of c.self.inside)
          c.self.invariant.0 (omega (arith, c.requires, len, ended)),
      c.self.invariant.1,
    )

pub overflow_add-self : goal.overflow_add-self
overflow_add-self c =
    let len : length c.args.self.now.windows ≡ c.self.inside.started =
    windows_started c.self.inside.touches.items c.self.inside.ended c.self.inside.started c.args.self.now c.self.view_is in
    let ended : c.args.self.now.ended ≡ c.self.inside.ended = ap (λ (v : WindowsValue). v.ended) (sym c.self.view_is) in
    record { fits = omega (arith, c.requires, len, ended, c.self.invariant.0.few) }
