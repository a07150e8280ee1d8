-- What the fields of an intake tell.
use Rattle.std.specs.Prelude.{◌≡◌, ◌≤◌, length}
use Rattle.library_reader.specs.declared.intake.Intake.TheInside.{Inside}
use Rattle.library_reader.specs.Reader.{Reading, came_in}

abbrev pub reading_in : Inside → Reading
reading_in fields = fields.reader

-- what came is counted, and is no more than a library may have
pub record IsIntake (fields : Inside) : Type 0 where
  pub count : fields.came ≡ came_in fields.reader
  pub most : fields.came ≤ 1073741824
  pub room : length fields.piece.items ≡ 1048576
