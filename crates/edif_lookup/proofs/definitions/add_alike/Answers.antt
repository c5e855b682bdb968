use Rattle.std.proofs.Common.{◌∙◌, ap, is_some, Some, cond, map}
use Rattle.nl_base.specs.Case.{same_bytes, small}
use Rattle.edif_lookup.specs.Tables.{at_small, one_more}
use Rattle.edif_lookup.proofs.TableLaws.{at_small-added, more_where_some}
use Rattle.edif_lookup.proofs.definitions.add_alike.Goals as goal

pub returns-in-Ok-clause-known : goal.returns-in-Ok-clause-known
returns-in-Ok-clause-known c = ap (λ alike. alike.more) c.joined_by-alike.ensures ∙ (more_where_some _ c.args.number ∙ ap is_some c.get.ensures.value)

pub returns-in-Ok-clause-added : goal.returns-in-Ok-clause-added
returns-in-Ok-clause-added c other =
    at_small-added c.args.table.now c.insert.new.self (record { bytes = c.args.spelling }) c.joined_by-alike.result c.in-Ok.ensures.entries other
    ∙ ap (λ alike. cond (same_bytes other (map small c.args.spelling.now)) (Some alike) (at_small other c.args.table.now)) (c.joined_by-alike.ensures ∙ ap (λ known. one_more known c.args.number) c.get.ensures.value)
