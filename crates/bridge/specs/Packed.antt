-- A check's answer as one number. Assumes nothing.
use Rattle.std.specs.Prelude.{ℕ, ◌+◌, ◌*◌, Ok, Err, Result}
use Rattle.questions.specs.Numbers.{number_of, item_shown}
use Rattle.questions.specs.declared.refusal.Refusal.{Refusal}

-- a total is below 2^32, so the two cases stay apart
abbrev pub packed : Result ℕ Refusal → ℕ
packed (Ok n) = n
packed (Err e) = number_of e.question * 4294967296 + item_shown e.item
