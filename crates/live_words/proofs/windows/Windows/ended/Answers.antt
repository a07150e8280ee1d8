use Rattle.std.proofs.Common.{◌≡◌, length, arith}
use Rattle.live_words.proofs.WindowsLemmas.{windows_started}
use Rattle.live_words.proofs.windows.Windows.ended.Goals as goal

pub returns-clause-most : goal.returns-clause-most
returns-clause-most c =
    let len : length c.args.self.now.windows ≡ c.self.inside.started =
    windows_started c.self.inside.touches.items c.self.inside.ended c.self.inside.started c.args.self.now c.self.view_is in
    omega (arith, len, c.self.invariant.0.order)
