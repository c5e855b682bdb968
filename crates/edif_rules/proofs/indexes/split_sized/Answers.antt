use Rattle.std.proofs.Common.{ap, sym, arith, length, option_map}
use Rattle.std.proofs.lemmas.Int.{ints}
use Rattle.edif_rules.proofs.ArrayLaws.{no_form_above}
use Rattle.edif_rules.proofs.indexes.split_sized.Goals as goal

pub returns-then-size-gt4294967295-clause-value : goal.returns-then-size-gt4294967295-clause-value
returns-then-size-gt4294967295-clause-value c = ap (option_map (λ form. (length form.0, form.1))) (sym (no_form_above c.args.text.now c.args.size (omega (arith, ints))))
