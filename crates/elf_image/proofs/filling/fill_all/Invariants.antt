use Rattle.std.proofs.Common.{◌≡◌, ℕ, ◌+◌, ◌<◌, length, get_or, take}
use Rattle.elf_image.specs.Image.{byte_at}
use Rattle.elf_image.proofs.filling.fill_all.Given as goal

abbrev pub invariant-loop-segment : goal.invariant-loop-segment
invariant-loop-segment l =
    (k : ℕ) → k < length l.memory
    → get_or l.memory k 0 ≡ byte_at l.bytes (take l.segment-index l.segments) (l.low + k)
