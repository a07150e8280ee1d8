use Rattle.std.proofs.Common.{◌≡◌, ◌∙◌, ap, None, Some, subst, ℕ, List, Option, Ok, ◌+◌, arith}
use Rattle.std.proofs.lemmas.List.{drop-drop}
use Rattle.library_reader.specs.declared.part.Part.TheVariants.{Header}
use Rattle.library_reader.specs.Reader.{Front, Reading}
use Rattle.library_reader.specs.ReaderView.{AreWithin, reading_of}
use Rattle.library_reader.proofs.HandingLemmas.{drop_bytes, header_due, header_reads, start_within, size_within}
use Rattle.library_reader.proofs.reader.Reader.read_front.Goals as goal

pub overflow_add-self : goal.overflow_add-self
overflow_add-self c =
    let r : Reading = reading_of c.self.inside in
    let none : r.front ≡ None = rw (← c.self.view_is) at c.requires in
    let nothing : AreWithin None r.points r.taken =
    subst (λ (f : Option Front). AreWithin f r.points r.taken) none c.self.invariant.points in
    let h =
    header_reads r c.args.self.now c.unread.result.now c.in_ok-front.front c.in_ok-front.count c.self.view_is c.unread.ensures nothing.1
    (drop_bytes c.self.inside.start c.self.inside.bytes.items c.self.invariant.bytes) c.in_ok-front.ensures.value in
    let within = start_within c.self.inside.bytes.items c.self.inside.start c.in_ok-front.count c.self.invariant.start h.fits in
    record { fits = omega (arith, within, c.self.invariant.room) }

pub invariant_of-self : goal.invariant_of-self
invariant_of-self c =
    let r : Reading = reading_of c.self.inside in
    let none : r.front ≡ None = rw (← c.self.view_is) at c.requires in
    let nothing : AreWithin None r.points r.taken =
    subst (λ (f : Option Front). AreWithin f r.points r.taken) none c.self.invariant.points in
    let h =
    header_reads r c.args.self.now c.unread.result.now c.in_ok-front.front c.in_ok-front.count c.self.view_is c.unread.ensures nothing.1
    (drop_bytes c.self.inside.start c.self.inside.bytes.items c.self.invariant.bytes) c.in_ok-front.ensures.value in
    record {
      start = start_within c.self.inside.bytes.items c.self.inside.start c.in_ok-front.count c.self.invariant.start h.fits;
      room = c.self.invariant.room;
      size = size_within c.self.inside.bytes.items c.self.inside.start c.self.inside.taken c.in_ok-front.count 1073741824 c.self.invariant.start h.fits c.self.invariant.size;
      points = (omega (arith, nothing.0), c.in_ok-front.ensures.few);
      bytes = c.self.invariant.bytes;
    }

pub returns : goal.returns
returns c =
    let r : Reading = reading_of c.self.inside in
    let none : r.front ≡ None = rw (← c.self.view_is) at c.requires in
    let nothing : AreWithin None r.points r.taken =
    subst (λ (f : Option Front). AreWithin f r.points r.taken) none c.self.invariant.points in
    let h =
    header_reads r c.args.self.now c.unread.result.now c.in_ok-front.front c.in_ok-front.count c.self.view_is c.unread.ensures nothing.1
    (drop_bytes c.self.inside.start c.self.inside.bytes.items c.self.invariant.bytes) c.in_ok-front.ensures.value in
    rw (← c.self.view_is)
    (header_due r c.in_ok-front.front c.in_ok-front.count none h
    ∙ ap (λ (unread : List ℕ). Ok (Header, record r { unread = unread; taken = c.self.inside.taken + c.in_ok-front.count; front = Some c.in_ok-front.front }))
    (drop-drop c.in_ok-front.count c.self.inside.start c.self.inside.bytes.items))
