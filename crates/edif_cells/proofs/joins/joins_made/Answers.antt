use Rattle.std.proofs.Common.{◌∙◌, ◌++◌, ℕ, ap, arith}
use Rattle.edif_values.specs.declared.net.Net.{Net}
use Rattle.edif_rules.specs.Scopes.{lists_of}
use Rattle.edif_cells.specs.Values.{joins_of}
use Rattle.edif_cells.proofs.Numbered.{flat_numbered}
use Rattle.edif_cells.proofs.joins.joins_made.Goals as goal

pub push_joins-requires : goal.push_joins-requires
push_joins-requires c = c.requires.good

pub loop-number-preserved : goal.loop-number-preserved
loop-number-preserved c =
    flat_numbered c.args.nets.now c.loop-number.number c.index-nets-number.result (omega arith) c.index-nets-number.is (λ (net : ℕ × Net). joins_of (lists_of c.args.scope.now) net.0 net.1.joined)
    c.loop-number.made _ c.loop-number.invariant (c.in_ok-push_joins.ensures ∙ ap (λ joined. c.loop-number.made ++ joins_of (lists_of c.args.scope.now) c.loop-number.number joined) c.items.ensures)
