-- Rows of bits. Assumes nothing.
use Rattle.std.specs.Prelude.{ℕ, ◌^◌, if◌then◌else◌, nat_lt}
use Rattle.questions.specs.Limits.{most_events}
use Rattle.rows.specs.declared.row.Row.{Row}

-- the number that a row holds, however it is stored: bit j stands for place j
abbrev pub value : Row → ℕ
value r = r.bits

-- the row that holds a number
abbrev pub row_of : ℕ → Row
row_of n = record { bits = n }

abbrev pub no_row : Row
no_row = row_of 0

-- the row with the one bit j, and none where there is no such bit
abbrev pub one_bit : ℕ → ℕ
one_bit j = if nat_lt j most_events then 2 ^ j else 0
