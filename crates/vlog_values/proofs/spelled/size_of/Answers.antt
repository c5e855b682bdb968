use Rattle.std.proofs.Common.{◌≡◌, None, subst, sym}
use Rattle.nl_base.specs.RangeForm.{spelled_index}
use Rattle.nl_base.proofs.Indexes.{spelled_index-no_utf8, spelled_index-no_parse}
use Rattle.vlog_values.proofs.SpelledSizes.{no_size}
use Rattle.vlog_values.proofs.spelled.size_of.Goals as goal

pub returns-in_default : goal.returns-in_default
returns-in_default c = sym (no_size c.args.bytes.now (spelled_index-no_utf8 c.args.bytes.now c.in_default.ensures.cases.0))

pub returns-in_default-parse : goal.returns-in_default-parse
returns-in_default-parse c =
    let text = c.in-Ok.text.now in
    sym (no_size c.args.bytes.now (subst (λ bytes. spelled_index bytes ≡ None) c.in-Ok.ensures.cases.0 (spelled_index-no_parse text c.in_default-parse.field-0 c.in_default-parse.ensures.value.0)))
