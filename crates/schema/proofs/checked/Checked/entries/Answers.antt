use Rattle.std.proofs.Common.{ℕ, take, sym, ap₂, ◌∙◌, arith}
use Rattle.std.proofs.Math.Seq.{take-append_seam}
use Rattle.schema.specs.Plans.{entries}
use Rattle.schema.specs.Reading.{schema_of}
use Rattle.schema.specs.Told.{table_of}
use Rattle.schema.specs.declared.plan.Plan.{Plan}
use Rattle.schema.proofs.Carried.{checked_sound, length-entries}
use Rattle.schema.proofs.checked.Checked.entries.Goals as goal

pub shared_ref_as_front-result : goal.shared_ref_as_front-result
shared_ref_as_front-result c = omega (arith, c.roots.ensures, (checked_sound c.args.self.now).within.roots_to)

pub returns : goal.returns
returns c =
    let s = c.args.self.now.scope in
    let rs = (schema_of (table_of c.args.self.now)).roots in
    ap₂ (λ (n : ℕ) (p : Plan). take n p.roots) (c.roots.ensures ∙ sym (length-entries s 0 rs)) (checked_sound c.args.self.now).plan ∙ take-append_seam (entries s 0 rs) _
