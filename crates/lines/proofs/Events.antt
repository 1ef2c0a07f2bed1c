-- The lines of what is laid are those of the beginning that it shows.
use Rattle.std.proofs.Common.{◌≡◌, ℕ, ◌+◌, ◌<◌, List, ◌++◌, length, get_or, None, Ok, Err, Option, sym, ap, ◌∙◌, add-one}
use Rattle.std.proofs.lemmas.List.{get_or-map, length-map}
use Rattle.questions.specs.declared.refusal.Refusal.{Refusal}
use Rattle.questions.specs.Numbers.{refusal_line}
use Rattle.rows.specs.Row.{value}
use Rattle.schema.specs.Questions.{verdict}
use Rattle.laying.specs.Lays.{laid_events, shown}
use Rattle.laying.specs.declared.laid.Laid.{Laid}
use Rattle.laying.specs.declared.laid.LaidEvent.{LaidEvent}
use Rattle.lines.specs.Card.{line_end}
use Rattle.lines.specs.Laid.{event_line, line_at, first_lines, event_lines, number_lines, laid_lines, laid_text}

module _ (l : Laid) (i : ℕ) where
  -- the event at place i
  shown_line : (e : LaidEvent) → i < length (laid_events l) → e ≡ get_or (laid_events l) i e → line_at (shown l) i ≡ event_line e.event e.around (value e.precedes)
  unfolding shown
  shown_line e h is =
      (λ k. event_line (get_or-map (λ x. x.event) (laid_events l) i e 0 h k) (get_or-map (λ x. x.around) (laid_events l) i e None h k) (get_or-map (λ x. value x.precedes) (laid_events l) i e 0 h k))
      ∙ ap (λ (x : LaidEvent). event_line x.event x.around (value x.precedes)) (sym is)

  -- one event more
  pub shown_more : (e : LaidEvent) → i < length (laid_events l) → e ≡ get_or (laid_events l) i e
      → first_lines (shown l) (i + 1) ≡ first_lines (shown l) i ++ event_line e.event e.around (value e.precedes)
  shown_more e h is = ap (first_lines (shown l)) (add-one i) ∙ ap (λ x. first_lines (shown l) i ++ x) (shown_line e h is)

  -- and all
  pub shown_all : i ≡ length (laid_events l) → first_lines (shown l) i ≡ event_lines (shown l)
  unfolding shown event_lines
  shown_all e = ap (first_lines (shown l)) (e ∙ sym (length-map (laid_events l) _))

-- what is printed of an accepted table, and of a refused one
pub laid_yes : (b : List ℕ) (s n : ℕ) (o : Option ℕ) → verdict b s ≡ Ok n → laid_text b s o ≡ number_lines b s o
unfolding laid_text
laid_yes b s n o e = ap (λ v. laid_lines v (number_lines b s o)) e

pub laid_no : (b : List ℕ) (s : ℕ) (o : Option ℕ) (r : Refusal) → verdict b s ≡ Err r → laid_text b s o ≡ refusal_line r ++ line_end
unfolding laid_text
laid_no b s o r e = ap (λ v. laid_lines v (number_lines b s o)) e
