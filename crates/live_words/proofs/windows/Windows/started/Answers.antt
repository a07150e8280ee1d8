use Rattle.std.proofs.Common.{sym}
use Rattle.live_words.proofs.WindowsLemmas.{windows_started}
use Rattle.live_words.proofs.windows.Windows.started.Goals as goal

pub returns : goal.returns
returns c =
    sym (windows_started c.self.inside.touches.items c.self.inside.ended c.self.inside.started c.args.self.now c.self.view_is)
