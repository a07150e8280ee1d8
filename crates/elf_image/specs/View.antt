-- An image's bytes seen as words.
use Rattle.std.specs.Prelude.{ℕ, ◌*◌, ◌/◌, List, map, length}
use Rattle.std.specs.List.{range_with_len}
use Rattle.elf_image.specs.declared.image.Image.TheInside.{Inside}
use Rattle.elf_image.specs.Fields.{word_at}
use Rattle.elf_image.specs.Image.{ImageValue}

-- the words that a list of bytes spells, four bytes each
abbrev pub words_in : List ℕ → List ℕ
words_in bytes = map (λ k. word_at bytes (4 * k)) (range_with_len 0 (length bytes / 4))

abbrev pub view_of : Inside → ImageValue
view_of image = record {
  entry = image.entry;
  low = image.low;
  heap_low = image.heap_low;
  words = words_in image.memory.items;
}
