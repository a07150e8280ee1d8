use Rattle.std.proofs.Common.{arith, ◌≡◌, ◌∙◌, ap, length, ◌++◌, ◌∷◌, []}
use Rattle.std.specs.Prelude.{vec_len}
use Rattle.live_words.specs.Windows.{WindowsValue, with_window}
use Rattle.live_words.specs.WindowsView.{note_of}
use Rattle.live_words.proofs.WindowsLemmas.{noted_start, begun_start, begun_same, view_start, windows_started}
use Rattle.live_words.proofs.windows.Windows.start.Goals as goal

pub overflow_add-self : goal.overflow_add-self
overflow_add-self c =
    let len : length c.args.self.now.windows ≡ c.self.inside.started =
    windows_started c.self.inside.touches.items c.self.inside.ended c.self.inside.started c.args.self.now c.self.view_is in
    record { fits = omega (arith, len, c.requires) }

pub invariant_of-self-2 : goal.invariant_of-self-2
invariant_of-self-2 c =
    let len : length c.args.self.now.windows ≡ c.self.inside.started =
    windows_started c.self.inside.touches.items c.self.inside.ended c.self.inside.started c.args.self.now c.self.view_is in
    let long : vec_len c.self.inside.touches ≡ length c.self.inside.touches.items =
    omega (arith, c.self.inside.touches.ok.0) in (
      noted_start c.self.inside.touches.items c.self.inside.ended c.self.inside.started (note_of c.self.inside)
          c.self.invariant.0 (omega (arith, len, c.requires)),
      begun_start c.self.inside.touches.items c.self.inside.begins.items c.push.new.self.items c.self.inside.started
          c.self.invariant.1
          (c.in_ok-push.ensures.items ∙ ap (λ n. c.self.inside.begins.items ++ n ∷ []) (c.len.ensures ∙ long)),
    )

pub returns-clause-started : goal.returns-clause-started
returns-clause-started c =
    view_start c.self.inside.touches.items c.self.inside.ended c.self.inside.started (note_of c.self.inside) c.self.invariant.0
    ∙ ap (λ (v : WindowsValue). with_window v) c.self.view_is

pub invariant_of-self : goal.invariant_of-self
invariant_of-self c = (
  c.self.invariant.0,
  begun_same c.self.inside.touches.items c.self.inside.begins.items c.push.new.self.items c.self.inside.started
      c.self.invariant.1 c.in_err-push.ensures.items,
)
