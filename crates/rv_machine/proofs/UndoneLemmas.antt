-- A write call whose bytes found no memory is undone.
use Rattle.std.proofs.Common.{◌≡◌, ◌<◌, ◌≤◌, ◌+◌, ◌^◌, ℕ, true, List, length, Some, refl, arith, subst, ◌∙◌}
use Rattle.std.specs.Prelude.{slice_set, slice_index}
use Rattle.std.proofs.lemmas.List.{set-get_or, set-set}
use Rattle.std.proofs.lemmas.List.FromFn.{length-map-range_with_len}
use Rattle.std.proofs.lemmas.Bool.Decides.{nat_tests}
use Rattle.rv_exec.specs.declared.event.Event.{Event}
use Rattle.rv_exec.specs.declared.event.Buffer.{Buffer}
use Rattle.rv_exec.specs.Memory.{Words, Mapped, passes}
use Rattle.rv_exec.specs.Machine.{State, Went}
use Rattle.rv_exec.specs.Next.{next}
use Rattle.rv_machine.specs.Machine.{Machine, WantsMemory}
use Rattle.rv_machine.specs.Output.{byte_at, bytes_at}
use Rattle.rv_machine.proofs.WriteLemmas.{IsWrite, wrote}

-- a buffer that a whole machine lets pass ends below 2^32
pub end_of :
    (low heap_low addr len : ℕ)
    → heap_low ≤ 0x70000000 → 0 < len → passes (Mapped low heap_low) addr len ≡ true
    → addr + len ≤ 2 ^ 32
end_of low heap_low addr len highest some covered = grind (arith, nat_tests)

-- with its old pc and register 10 the state is the old one
pub undone :
    (s after : State) (e : Event) (b : Buffer)
    → next s ≡ Went e after → e.wrote ≡ Some b
    → record after { pc = s.pc; regs = slice_set after.regs 10 (slice_index s.regs 10) } ≡ s
undone s after e b went is =
    let call : IsWrite s b after = wrote s after e b went is in
    let regs : slice_set (slice_set s.regs 10 b.len) 10 (slice_index s.regs 10) ≡ s.regs =
    set-set s.regs 10 b.len (slice_index s.regs 10) ∙ set-get_or s.regs 10 0 in
    rw (call.state, regs) refl

length_bytes : (words : Words) (addr len : ℕ) → length (bytes_at words addr len) ≡ len
unfolding bytes_at
length_bytes words addr len = length-map-range_with_len (byte_at words) addr len

-- the call wanted memory, and with its old pc, register 10 and output the machine is the old one
pub no_memory :
    (old before : Machine) (after : State) (e : Event) (b : Buffer) (output : List ℕ)
    → before ≡ old → before.keeps ≡ true → next before.state ≡ Went e after
    → e.wrote ≡ Some b → output ≡ before.output
    → WantsMemory old
    × (◌≡◌ {A = Machine}
    (record {
      state = record after {
        pc = before.state.pc;
        regs = slice_set after.regs 10 (slice_index before.state.regs 10);
      };
      keeps = before.keeps;
      output = output;
    })
    old)
no_memory old before after e b output view keeps went is same =
    let call : IsWrite before.state b after = wrote before.state after e b went is in
    let P : Machine → Type 0 = λ m. WantsMemory m in (
      subst P view
          (record {
            keeps = keeps;
            writes = rw (went, is) (omega (arith, length_bytes after.words b.addr b.len, call.some));
          }),
      rw (undone before.state after e b went is, same) view,
    )
