-- How long the lines are at most.
use Rattle.std.proofs.Common.{ℕ, ◌^◌, ◌<◌, ◌≤◌, ◌++◌, length, Some, decimal, Option, arith, length-append}
use Rattle.std.proofs.lemmas.Fmt.{length-decimal-le}
use Rattle.questions.specs.Numbers.{number_of, item_shown, refusal_line}
use Rattle.questions.specs.declared.refusal.Refusal.{Refusal}
use Rattle.lines.specs.Card.{line_end, most_line, root_line, total_line}
use Rattle.lines.specs.Laid.{around_word, event_line}

digits_8 : (n : ℕ) → n < 256 → length (decimal n) ≤ 3
digits_8 n h = length-decimal-le 3 n (omega arith) (omega arith) (omega arith)

digits_32 : (n : ℕ) → n < 2 ^ 32 → length (decimal n) ≤ 10
digits_32 n h = length-decimal-le 10 n (omega arith) (omega arith) (omega arith)

pub short_total : (n : ℕ) → n < 2 ^ 32 → length (total_line n) ≤ most_line
short_total n h = simp length-append (omega (arith, digits_32 n h))

pub short_root : (t n l : ℕ) → t < 256 → n < 2 ^ 32 → l < 256 → length (root_line t n l) ≤ most_line
short_root t n l ht hn hl = simp length-append (omega (arith, digits_8 t ht, digits_32 n hn, digits_8 l hl))

pub short_refusal : (r : Refusal) → number_of r.question < 256 → item_shown r.item < 256 → length (refusal_line r ++ line_end) ≤ most_line
short_refusal r hq hi = simp length-append (omega (arith, digits_8 (number_of r.question) hq, digits_8 (item_shown r.item) hi))

pub short_around : (n : ℕ) → n < 256 → length (around_word (Some n)) ≤ 3
short_around n h = digits_8 n h

pub short_event : (t : ℕ) (p : Option ℕ) (r : ℕ) → t < 256 → length (around_word p) ≤ 3 → r < 2 ^ 64 → length (event_line t p r) ≤ most_line
short_event t p r ht hp hr = simp length-append (omega (arith, digits_8 t ht, hp, length-decimal-le 20 r (omega arith) (omega arith) hr))
