use Rattle.std.proofs.Common.{refl, sym}
use Rattle.elf_image.specs.View.{view_of}
use Rattle.elf_image.proofs.Words.{reaches, word_in_is}
use Rattle.elf_image.proofs.image.Image.word.Goals as goal

pub word_at-requires : goal.word_at-requires
word_at-requires c =
    rw c.deref.ensures.value
    (reaches (view_of c.self.inside) c.self.inside.memory.items c.args.addr refl c.self.invariant
    c.if-addr-ne0.false c.if-addr-self.false c.if-addr-self-2.false)

pub returns : goal.returns
returns c =
    rw (c.word_at.ensures, c.deref.ensures.value, ← c.self.view_is)
    (sym (word_in_is (view_of c.self.inside) c.self.inside.memory.items c.args.addr refl c.self.invariant
    c.if-addr-ne0.false c.if-addr-self.false c.if-addr-self-2.false))
