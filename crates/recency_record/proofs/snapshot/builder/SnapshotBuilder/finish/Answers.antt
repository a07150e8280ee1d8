use Rattle.std.proofs.Common.{◌∙◌, sym, ap, length, map, List, ◌+◌, ℕ}
use Rattle.std.proofs.lemmas.List.{length-map}
use Rattle.recency_record.specs.declared.entry.Entry.{Entry}
use Rattle.recency_record.specs.Parts.{in_a_row}
use Rattle.recency_record.specs.Views.{sets_of_builder}
use Rattle.recency_record.proofs.Rows.{row_starts, row_count, row_length}
use Rattle.recency_record.proofs.snapshot.builder.SnapshotBuilder.finish.Goals as goal

pub invariant_of-result : goal.invariant_of-result
invariant_of-result c =
    let sets : List (List Entry) = sets_of_builder c.self.inside in
    record {
      recency = rw c.self.view_is c.requires;
      starts = row_starts (map length (sets_of_builder c.self.inside)) c.self.inside.starts.items (in_a_row (sets_of_builder c.self.inside)) c.self.inside.entries.items
          c.self.invariant.starts c.self.invariant.row (sym (row_length (sets_of_builder c.self.inside)));
      count = row_count (map length (sets_of_builder c.self.inside)) c.self.inside.starts.items (in_a_row (sets_of_builder c.self.inside)) c.self.inside.entries.items
          c.self.invariant.starts c.self.invariant.row
          ∙ ap (λ (n : ℕ). n + 1) (length-map (sets_of_builder c.self.inside) (length {A = Entry}) ∙ ap length c.self.view_is ∙ c.requires.count);
    }
