use Rattle.std.proofs.Common.{◌∙◌}
use Rattle.to_spice_rules.proofs.Firsts.{by_instance, by_name, by_word}
use Rattle.to_spice_rules.proofs.names.in_cell.Goals as goal

pub returns-in-Some : goal.returns-in-Some
returns-in-Some c = by_name c.args.cell.now c.bytes-name.result.now c.bytes-name.ensures c.in_ok-refusal.field-0 c.in_ok-refusal.ensures c.in-Some.refusal c.in-Some.is

pub returns-in-Some-2 : goal.returns-in-Some-2
returns-in-Some-2 c = by_word c.args.cell.now c.bytes-name.result.now c.bytes-name.ensures c.in_ok-refusal.field-0 c.in_ok-refusal.ensures c.in_default.is c.items.result.now (c.items.ensures ∙ c.in_ok-words.ensures)
    c.in_ok-refusal-2.field-0 c.in_ok-refusal-2.ensures c.in-Some-2.refusal c.in-Some-2.is

pub returns : goal.returns
returns c = by_instance c.args.cell.now c.bytes-name.result.now c.bytes-name.ensures c.in_ok-refusal.field-0 c.in_ok-refusal.ensures c.in_default.is c.items.result.now (c.items.ensures ∙ c.in_ok-words.ensures)
    c.in_ok-refusal-2.field-0 c.in_ok-refusal-2.ensures c.in_default-2.is c.items-2.result.now c.items-2.ensures c.in_instances.result c.in_instances.ensures
