use Rattle.std.proofs.Common.{◌≡◌, take}
use Rattle.live_words.specs.WindowsView.{words_in}
use Rattle.live_words.proofs.windows.collected.Given as goal

abbrev pub invariant-loop-touch : goal.invariant-loop-touch
invariant-loop-touch l = l.collector ≡ words_in (take l.touch-index l.touches) l.window
