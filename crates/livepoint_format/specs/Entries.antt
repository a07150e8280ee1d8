-- Entries that stand in bytes one behind the other.
use Rattle.std.specs.Prelude.{◌≡◌, ℕ, ◌-◌, ◌==◌, nat_lt, Bool, not, ◌&&◌, None, List, [], length, slice_get, flat_map}
use Rattle.std.specs.List.{list_any}
use Rattle.lru_plain.specs.Shape.{Shape}
use Rattle.recency_record.specs.declared.entry.Entry.{Entry}
use Rattle.recency_record.specs.Faults.{belongs, is_no_later, entry_fault}
use Rattle.live_words.specs.Follow.{Follow}
use Rattle.livepoint_format.specs.Format.{entry}

-- the entry may stand behind those before it in its set
abbrev pub may_stand : Shape → ℕ → ℕ → List Entry → Entry → Bool
may_stand g limit set before e =
    belongs g set e.block && (not (list_any (λ x. x.block == e.block) before)
    && (nat_lt e.time limit && not (is_no_later (slice_get before (length before - 1)) e.time)))

-- the text spells entries that may be those of a set
pub record AreRead (g : Shape) (limit set : ℕ) (text : List ℕ) (es : List Entry) : Type 0 where
  pub follow : Follow (λ before e. entry_fault g limit set before e ≡ None) [] es
  pub spelt : flat_map entry es ≡ text
