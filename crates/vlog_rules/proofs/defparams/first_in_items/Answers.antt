use Rattle.std.proofs.Common.{◌∙◌, Bool, List, flat_map, not, sym}
use Rattle.vlog_design.specs.Names.{defparam_statement, has_name}
use Rattle.vlog_rules.proofs.SetLaws.{found_behind, found_in_part}
use Rattle.vlog_values.specs.declared.module.ItemV.{ItemV}
use Rattle.vlog_values.specs.declared.statement.DefSet.{DefSet}
use Rattle.vlog_rules.proofs.defparams.first_in_items.Goals as goal

abbrev sets_in : ItemV → List DefSet
sets_in item = flat_map (λ statement. statement.sets) (defparam_statement item)

pub returns-in-Some : goal.returns-in-Some
returns-in-Some c =
    let p : DefSet → Bool = λ set. not (has_name c.args.names.now set.instance) in
    sym (sym c.loop-item.invariant ∙ found_in_part p sets_in c.args.items.now c.loop-item.item-index c.item-item.result c.item-item.result c.loop-item-test.true c.item-item.is c.in-Some.set.now c.in-Some.ensures)

pub loop-item-preserved : goal.loop-item-preserved
loop-item-preserved c =
    let p : DefSet → Bool = λ set. not (has_name c.args.names.now set.instance) in
    sym (found_behind p sets_in c.args.items.now c.loop-item.item-index c.item-item.result c.item-item.result c.loop-item-test.true c.item-item.is c.in_default.ensures) ∙ c.loop-item.invariant
