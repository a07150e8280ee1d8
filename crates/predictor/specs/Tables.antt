-- What a predictor has learnt.
use Rattle.std.specs.Prelude.{◌≡◌, ℕ, ◌^◌, ◌<◌, ◌≤◌, List, [], replicate, length}
use Rattle.predictor.specs.declared.kind.PredictorKind.{PredictorKind}
use Rattle.predictor.specs.Kind.{IsKind}

-- the counters of directions, the outcomes of the latest branches as the digits of a number to
-- base 2, the targets of indirect jumps as pairs of a pc and where it led, and the return
-- addresses from the bottom
pub record Tables : Type 0 where
  pub kind : PredictorKind
  pub counters : List ℕ
  pub history : ℕ
  pub targets : List (ℕ × ℕ)
  pub stack : List ℕ

abbrev pub tables_with : PredictorKind → List ℕ → ℕ → List (ℕ × ℕ) → List ℕ → Tables
tables_with kind counters history targets stack =
    record { kind = kind; counters = counters; history = history; targets = targets; stack = stack }

-- what holds of all tables
pub record IsTables (t : Tables) : Type 0 where
  pub kind : IsKind t.kind
  pub counters : length t.counters ≡ 2 ^ t.kind.bits
  pub history : t.history < 2 ^ t.kind.bits
  pub targets : length t.targets ≡ 2 ^ t.kind.target_log
  pub stack : length t.stack ≤ t.kind.depth

-- the entry for no jump: its pc is that of no instruction
abbrev pub no_target : ℕ × ℕ
no_target = (1, 0)

-- the tables before any event
abbrev pub empty_tables : PredictorKind → Tables
empty_tables kind = record {
  kind = kind;
  counters = replicate (2 ^ kind.bits) 1;
  history = 0;
  targets = replicate (2 ^ kind.target_log) no_target;
  stack = [];
}
