use Rattle.std.proofs.Common.{◌∙◌, ap, refl, ℕ, List, Ok, true, ◌+◌}
use Rattle.std.proofs.lemmas.List.{drop-drop}
use Rattle.library_reader.specs.declared.part.Part.TheVariants.{End}
use Rattle.library_reader.specs.Reader.{Reading}
use Rattle.library_reader.specs.ReaderView.{reading_of}
use Rattle.library_reader.proofs.HandingLemmas.{drop_bytes, end_due, end_reads}
use Rattle.library_reader.proofs.reader.Reader.read_end.Goals as goal

pub returns-clause-part : goal.returns-clause-part
returns-clause-part c =
    let r : Reading = reading_of c.self.inside in
    let h =
    end_reads r c.args.self.now c.unread.result.now c.in_ok-_letters._letters c.in_ok-_letters.count c.self.view_is c.unread.ensures
    (drop_bytes c.self.inside.start c.self.inside.bytes.items c.self.invariant.bytes) c.in_ok-_letters.ensures in
    rw (← c.self.view_is)
    (end_due r.front r c.in_ok-_letters._letters c.in_ok-_letters.count refl (rw (← c.self.view_is) at c.requires.some) (rw (← c.self.view_is) at c.requires.all) h
    ∙ ap (λ (unread : List ℕ). Ok (End, record r { unread = unread; taken = c.self.inside.taken + c.in_ok-_letters.count; ended = true }))
    (drop-drop c.in_ok-_letters.count c.self.inside.start c.self.inside.bytes.items))
