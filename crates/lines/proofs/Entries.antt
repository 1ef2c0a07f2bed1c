-- The lines of a plan are those of the schema's roots.
use Rattle.std.proofs.Common.{◌≡◌, ℕ, zero, suc, ◌+◌, ◌-◌, ◌<◌, cond, List, [], ◌∷◌, ◌++◌, length, get_or, take, replicate, Ok, Err, sym, refl, ap, ◌∙◌, append-nil, arith}
use Rattle.std.proofs.lemmas.List.{take_more, flat_map_more}
use Rattle.std.proofs.lemmas.Grind.{flat_map-append}
use Rattle.std.proofs.lemmas.Bool.{ne_eqb}
use Rattle.questions.specs.Limits.{most_roots}
use Rattle.questions.specs.declared.refusal.Refusal.{Refusal}
use Rattle.grammar.specs.Pattern.{count, len, size}
use Rattle.grammar.specs.Schema.{Rooted}
use Rattle.schema.specs.Plans.{no_root, entries, plan_of}
use Rattle.schema.specs.Questions.{verdict}
use Rattle.schema.specs.Reading.{schema_of}
use Rattle.schema.specs.declared.plan.Plan.{Plan}
use Rattle.schema.specs.declared.plan.Root.{Root}
use Rattle.lines.specs.Card.{root_line, root_lines, total_line, answer_lines, card, entry_line, entry_lines}

-- an entry that is a root
pub entry_some : (r : Root) → (r.length ≡ 0 → ⊥) → entry_line r ≡ root_line r.event r.count r.length
entry_some r h = ap (λ o. cond o [] (root_line r.event r.count r.length)) (ne_eqb r.length 0 h)

-- one more entry
pub entry_lines_more : (rs : List Root) (i : ℕ) (d : Root) → i < length rs → entry_lines (take (i + 1) rs) ≡ entry_lines (take i rs) ++ entry_line (get_or rs i d)
entry_lines_more rs i d h = ap entry_lines (take_more rs i d h) ∙ sym (flat_map_more entry_line [] (take i rs) (get_or rs i d))

no_lines : (n : ℕ) → entry_lines (replicate n no_root) ≡ []
no_lines zero = refl
no_lines (suc n) = no_lines n

entries_lines : (s i : ℕ) (rs : List Rooted) → entry_lines (entries s i rs) ≡ root_lines s rs
entries_lines s i [] = refl
entries_lines s i (r ∷ rs) =
    ap (λ o. cond o [] (root_line r.event (count s r.pattern) (len s r.pattern + 1)) ++ entry_lines (entries s (i + size r.pattern + 1) rs)) (ne_eqb (len s r.pattern + 1) 0 (λ e. omega arith))
    ∙ ap (λ l. root_line r.event (count s r.pattern) (len s r.pattern + 1) ++ l) (entries_lines s (i + size r.pattern + 1) rs)

plan_lines : (s : ℕ) (rs : List Rooted) → entry_lines (plan_of s rs).roots ≡ root_lines s rs
plan_lines s rs =
    flat_map-append entry_line (entries s 0 rs) (replicate (most_roots - length rs) no_root)
    ∙ (ap (λ l. entry_lines (entries s 0 rs) ++ l) (no_lines (most_roots - length rs)) ∙ (append-nil (entry_lines (entries s 0 rs)) ∙ entries_lines s 0 rs))

-- the card of an accepted table by the entries of its plan, and of a refused one
pub card_planned : (b : List ℕ) (s n : ℕ) (p : Plan) → verdict b s ≡ Ok n → p ≡ plan_of s (schema_of b).roots → card b s ≡ entry_lines p.roots ++ total_line n
unfolding card
card_planned b s n p v e =
    ap (answer_lines s (schema_of b).roots) v
    ∙ sym (ap (λ l. l ++ total_line n) (ap (λ (x : Plan). entry_lines x.roots) e ∙ plan_lines s (schema_of b).roots))

pub card_no : (b : List ℕ) (s : ℕ) (r : Refusal) → verdict b s ≡ Err r → card b s ≡ answer_lines s [] (Err r)
unfolding card
card_no b s r e = ap (answer_lines s (schema_of b).roots) e
