use Rattle.std.proofs.Common.{◌≡◌, ◌++◌, OnOk, ap, subst, sym, ◌∙◌}
use Rattle.vlog_design.specs.Design.{joins_between}
use Rattle.vlog_design.specs.Exprs.{bits}
use Rattle.vlog_design.specs.Numbers.{HasNumbers}
use Rattle.vlog_design.proofs.Parts.{all_found}
use Rattle.vlog_design.proofs.RunLaws.{nodes_of_pin}
use Rattle.vlog_ties.proofs.joins.push_tie.Goals as goal

pub push_supply-requires : goal.push_supply-requires
push_supply-requires c = all_found HasNumbers _ _ _ c.requires.numbers (sym c.find.ensures ∙ c.in-Some.is)

pub returns-in-Pin : goal.returns-in-Pin
returns-in-Pin c =
    let value = bits c.args.table.now c.in-Pin.value.now in
    record {
      added = rw c.in-Pin.is (subst (λ joins. OnOk c.push_node_joins.result (c.push_node_joins.new.out.items ≡ c.args.out.now.items ++ joins))
          (ap (λ left. joins_between left value) (nodes_of_pin c.in-Pin.number c.in-Pin.port_number 0 c.in-Pin.width)) c.push_node_joins.ensures.added);
    }
