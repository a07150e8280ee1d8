use Rattle.std.proofs.Common.{rules}
use Rattle.std.proofs.lemmas.List.Elements.{filter_from_retain}
use Rattle.elf_image.specs.Segments.{is_loaded}
use Rattle.elf_image.proofs.segment.keep_loaded.Goals as goal

pub returns : goal.returns
returns c =
    filter_from_retain _ is_loaded (λ p x b q r. search rules) _ _ _ c.retain.ensures.filtered
