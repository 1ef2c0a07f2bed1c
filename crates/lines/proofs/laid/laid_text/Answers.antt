use Rattle.std.proofs.Common.{◌≤◌, ◌++◌, length, ap, sym, ◌∙◌, ap₂, arith}
use Rattle.std.proofs.lemmas.Result.{MatchResult-at_ok}
use Rattle.questions.specs.Numbers.{refusal_line}
use Rattle.schema.specs.Told.{table_of}
use Rattle.text.specs.Room.{text_room}
use Rattle.text.proofs.Kept.{kept_fits, kept_whole}
use Rattle.lines.specs.Card.{line_end}
use Rattle.lines.specs.Laid.{number_lines}
use Rattle.lines.proofs.Events.{laid_yes, laid_no}
use Rattle.lines.proofs.laid.laid_text.Goals as goal
use Rattle.lines.proofs.laid.laid_text.Goals.{in-Ok, in-Err}

pub returns-clause-says : goal.returns-clause-says
returns-clause-says c =
    elim c.match-of.branch [
      | in-Ok w ↦ (
          let x = w.in-Ok.schema in
          let o = c.args.number in
          let h = w.in-Ok.ensures in
          let yes = sym w.written-is ∙ c.in-Ok-written.is in
          w.page-is
          ∙ (kept_whole _ _ (number_lines (table_of x) x.scope o) c.new-page.ensures (MatchResult-at_ok _ _ _ yes w.write_number-written.ensures.written) (omega (arith, MatchResult-at_ok _ _ _ yes w.write_number-written.ensures.short))
          ∙ (ap₂ (λ b s. number_lines b s o) h.table h.scope ∙ sym (laid_yes c.args.table.now c.args.scope x.total o (sym h.answer))))
          )
      | in-Err w ↦ (
          let r = w.in-Err.refusal in
          let yes = sym w.written-is ∙ c.in-Ok-written.is in
          w.page-is
          ∙ (kept_whole _ _ (refusal_line r ++ line_end) c.new-page.ensures (MatchResult-at_ok _ _ _ yes w.write_refusal-written.ensures.written) (omega (arith, MatchResult-at_ok _ _ _ yes w.write_refusal-written.ensures.short))
          ∙ sym (laid_no c.args.table.now c.args.scope c.args.number r (sym w.in-Err.ensures.answer)))
          )
    ]

pub returns-clause-within : goal.returns-clause-within
returns-clause-within c =
    let fits : length c.new-page.result ≤ text_room = omega (arith, ap length c.new-page.ensures) in
    elim c.match-of.branch [
      | in-Ok w ↦ omega (arith, ap length w.page-is, kept_fits _ _ (MatchResult-at_ok _ _ _ (sym w.written-is ∙ c.in-Ok-written.is) w.write_number-written.ensures.written fits))
      | in-Err w ↦ omega (arith, ap length w.page-is, kept_fits _ _ (MatchResult-at_ok _ _ _ (sym w.written-is ∙ c.in-Ok-written.is) w.write_refusal-written.ensures.written fits))
    ]
