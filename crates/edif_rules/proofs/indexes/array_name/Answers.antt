use Rattle.std.proofs.Common.{◌≡◌, ◌∙◌, ap, take, length, List, ℕ, Some, option_map, subst, sym, Option, ℤ}
use Rattle.std.proofs.Math.Facts.{to_z-of_z}
use Rattle.nl_base.specs.Ranges.{Bounds}
use Rattle.edif_values.specs.Names.{sized_form}
use Rattle.edif_rules.proofs.ArrayLaws.{ranged}
use Rattle.edif_rules.proofs.indexes.array_name.Goals as goal

pub returns-in-Some : goal.returns-in-Some
returns-in-Some c =
    let found : ◌≡◌ {A = Option (ℕ × Bounds)} (Some (c.in-Some.form.0, c.in-Some.form.1)) (option_map (λ form. (length form.0, form.1)) (sized_form c.args.text.now c.args.size)) =
    c.in-Some.ensures.value ∙ ap (λ (size : ℤ). option_map (λ form. (length form.0, form.1)) (sized_form c.args.text.now size)) (to_z-of_z c.ranges.size) in
    ap (λ range. (take c.in-Some.form.0 c.args.text.now, range)) c.indexes_of.ensures ∙ ranged c.args.text.now c.args.size c.in-Some.form.0 c.in-Some.form.1 found
