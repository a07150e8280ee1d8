-- Sources and sinks over memory, which fail at the calls that a list names.
use Rattle.std.specs.Prelude.{◌+◌, ◌-◌, ◌^◌, ◌==◌, ◌++◌, ℕ, List, Bool, true, false, min, length, take, drop, if◌then◌else◌}
use Rattle.std.specs.List.{list_any}

-- the calls that fail, how many calls were made, and how many failed
pub record Calls : Type 0 where
  pub failing : List ℕ
  pub made : ℕ
  pub faults : ℕ

-- calls that fail at those numbers, none made yet
abbrev pub calls_of : List ℕ → Calls
calls_of failing = record { failing = failing; made = 0; faults = 0 }

-- a count after one more, which stands still at the end of 64 bits
abbrev pub counted : ℕ → ℕ
counted n = min (n + 1) (2 ^ 64 - 1)

-- the next call is one of those that fail
abbrev pub is_named : Calls → Bool
is_named calls = list_any (λ k. k == calls.made) calls.failing

-- after one more call, that failed or not
abbrev pub after_call : Bool → Calls → Calls
after_call failed calls =
    if failed
    then record calls { made = counted calls.made; faults = counted calls.faults }
    else record calls { made = counted calls.made }

-- a source over memory: what is left, the most bytes of a read, and its calls
pub record Reading : Type 0 where
  pub left : List ℕ
  pub most : ℕ
  pub calls : Calls

-- how many bytes a read gives that doesn't fail
abbrev pub read_count : Reading → ℕ → ℕ
read_count r buffer_len = min (min r.most buffer_len) (length r.left)

-- the source after one read into a buffer of that length
abbrev pub after_read : Reading → ℕ → Reading
after_read r buffer_len =
    if is_named r.calls
    then record r { calls = after_call true r.calls }
    else record r { left = drop (read_count r buffer_len) r.left; calls = after_call false r.calls }

-- a sink over memory: what it took, the most bytes of a write, how many bytes it has room for in all, and its calls
pub record Writing : Type 0 where
  pub taken : List ℕ
  pub most : ℕ
  pub room : ℕ
  pub calls : Calls

-- how many bytes a write takes that doesn't fail
abbrev pub write_count : Writing → ℕ → ℕ
write_count w piece_len = min (min w.most piece_len) (w.room - length w.taken)

-- a write fails at a named call, and where no room is left
abbrev pub is_refused : Writing → Bool
is_refused w = if is_named w.calls then true else w.room - length w.taken == 0

-- the sink after one write of that piece
abbrev pub after_write : Writing → List ℕ → Writing
after_write w piece =
    if is_refused w
    then record w { calls = after_call true w.calls }
    else record w {
      taken = w.taken ++ take (write_count w (length piece)) piece;
      calls = after_call false w.calls;
    }
