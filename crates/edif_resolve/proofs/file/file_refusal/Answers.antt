use Rattle.std.proofs.Common.{◌∙◌, ap}
use Rattle.edif_lookup.specs.Refusals.{in_order, lowest}
use Rattle.edif_design.specs.FileRules.{file_item_refusals}
use Rattle.edif_design.specs.Tables.{seen}
use Rattle.edif_resolve.proofs.Walking.{file_refused}
use Rattle.edif_resolve.proofs.file.file_refusal.Goals as goal

pub returns : goal.returns
returns c =
    file_refused c.args.file.now c.args.tabled.now c.requires.same (seen c.args.found.now) c.requires.designs c.in_ok-count.count c.in_ok-parts.parts c.lower.result c.in_ok-count.ensures
    (c.in_ok-parts.ensures ∙ ap (λ items. lowest (in_order (file_item_refusals c.args.tabled.now) items)) c.items.ensures) c.lower.ensures
