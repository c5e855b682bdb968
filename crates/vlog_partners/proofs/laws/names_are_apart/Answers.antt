use Rattle.net_hier.specs.declared.cells.HCell.{HCell}
use Rattle.vlog_partners.proofs.Lists.{distinct_both, distinct_more, none_shared, own_names}
use Rattle.vlog_partners.proofs.laws.names_are_apart.Goals as goal

pub returns : goal.returns
returns c = record {
  cells = λ cells e. own_names (λ (cell : HCell). cell.name) cells e;
  both = λ ports instances d e h. distinct_both ports instances d e (none_shared ports instances h);
  more = λ names name d fresh. distinct_more names name d fresh;
}
