-- What is drawn for each group of the generated program.
use Rattle.std.specs.Prelude.{◌≤◌, ◌+◌, ◌*◌, ◌%◌, ◌==◌, if◌then◌else◌, ℕ, zero, suc, pos, ◌≤ℤ◌}
use Rattle.smarts_base.specs.Draws.{next_state, drawn}
use Rattle.image_maker.specs.declared.choice.Kind.{Kind}
use Rattle.image_maker.specs.declared.choice.Kind.TheVariants.{Mix, Load, Store, Branch}
use Rattle.image_maker.specs.declared.choice.Choice.{Choice}

-- the state behind so many draws
unfoldable pub state_behind : ℕ → ℕ → ℕ
state_behind state zero = state
state_behind state (suc n) = next_state (state_behind state n)

-- the draw of that number from a state on, counted from 0
abbrev pub draw_of : ℕ → ℕ → ℕ
draw_of state n = drawn (state_behind state n)

abbrev pub kind_of : ℕ → Kind
kind_of n = if n == 0 then Mix else (if n == 1 then Load else (if n == 2 then Store else Branch))

-- what the next four draws decide
unfoldable pub choice_from : ℕ → Choice
choice_from state = record {
  kind = kind_of (draw_of state 0 % 4);
  first = 10 + draw_of state 1 % 6;
  second = 10 + draw_of state 2 % 6;
  amount = pos (1 + draw_of state 3 % 500);
}

-- what is drawn for the group of that number, counted from 0
abbrev pub choice_of : ℕ → ℕ → Choice
choice_of seed group = choice_from (state_behind seed (4 * group))

abbrev pub IsDrawnRegister : ℕ → Type 0
IsDrawnRegister r = (10 ≤ r) × (r ≤ 15)

-- the ranges of what is drawn
pub record IsChoice (choice : Choice) : Type 0 where
  pub first : IsDrawnRegister choice.first
  pub second : IsDrawnRegister choice.second
  pub least : pos 1 ≤ℤ choice.amount
  pub most : choice.amount ≤ℤ pos 500
