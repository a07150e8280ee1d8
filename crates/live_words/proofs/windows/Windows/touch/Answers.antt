use Rattle.std.proofs.Common.{arith, refl, ◌≡◌, ◌∙◌, sym, ap, max, List, ◌++◌, ◌∷◌, []}
use Rattle.live_words.specs.declared.windows.Touch.{Touch}
use Rattle.live_words.specs.Windows.{WindowsValue, with_touch}
use Rattle.live_words.specs.WindowsView.{note_of}
use Rattle.live_words.proofs.WindowsLemmas.{touched_again, noted_touch, begun_touch, windows_touched}
use Rattle.live_words.proofs.windows.Windows.touch.Goals as goal

pub returns-then-from-self-clause-touched : goal.returns-then-from-self-clause-touched
returns-then-from-self-clause-touched c =
    sym c.self.view_is
    ∙ touched_again c.self.inside.touches.items c.self.inside.ended c.self.inside.started c.args.addr c.args.value
    (note_of c.self.inside) c.self.invariant.0
    (ap (λ n. max n c.self.inside.ended) (sym c.last_touch.ensures) ∙ sym c.max-from.ensures ∙ c.if-from-self.true)
    ∙ ap (λ (v : WindowsValue). with_touch v c.args.addr c.args.value) c.self.view_is

pub invariant_of-self-2 : goal.invariant_of-self-2
invariant_of-self-2 c =
    let all : c.push_reserved.new.self.items
    ≡ c.self.inside.touches.items ++ record { addr = c.args.addr; value = c.args.value; from = c.max-from.result; to = c.self.inside.started } ∷ [] =
    c.push_reserved.ensures.items
    ∙ ap (λ (ts : List Touch). ts ++ record { addr = c.args.addr; value = c.args.value; from = c.max-from.result; to = c.self.inside.started } ∷ []) c.reserve.ensures.items in (
      noted_touch c.self.inside.touches.items c.push_reserved.new.self.items c.self.inside.ended c.self.inside.started
          c.args.addr c.args.value c.max-from.result c.self.inside.notes c.insert.new.self c.self.invariant.0
          (c.max-from.ensures ∙ ap (λ n. max n c.self.inside.ended) c.last_touch.ensures) c.if-from-self.false
          (record { addr = omega (arith, c.ranges.addr.fits); value = omega (arith, c.ranges.value.fits); aligned = c.requires })
          all c.in_ok-insert.ensures.updates.0,
      begun_touch c.self.inside.touches.items c.push_reserved.new.self.items c.self.inside.begins.items c.self.inside.started
          _ c.self.invariant.1 refl all,
    )

pub returns-clause-touched : goal.returns-clause-touched
returns-clause-touched c =
    windows_touched c.self.inside.touches.items c.push_reserved.new.self.items c.self.inside.ended c.self.inside.started
    c.args.addr c.args.value c.max-from.result c.self.inside.notes c.self.invariant.0
    (c.max-from.ensures ∙ ap (λ n. max n c.self.inside.ended) c.last_touch.ensures) c.if-from-self.false
    (c.push_reserved.ensures.items
    ∙ ap (λ (ts : List Touch). ts ++ record { addr = c.args.addr; value = c.args.value; from = c.max-from.result; to = c.self.inside.started } ∷ []) c.reserve.ensures.items)
    ∙ ap (λ (v : WindowsValue). with_touch v c.args.addr c.args.value) c.self.view_is
