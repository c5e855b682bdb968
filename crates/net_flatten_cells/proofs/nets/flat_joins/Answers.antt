use Rattle.std.proofs.Common.{◌≡◌, length, sym, subst, subst₂, arith}
use Rattle.std.specs.Prelude.{IfOk}
use Rattle.net_flatten_cells.specs.Wired.{AreWithin}
use Rattle.net_flatten_cells.proofs.NetLaws.{lists_few, lists_within, wide_wired}
use Rattle.net_flatten_rules.specs.FlatDesign.{joins_from}
use Rattle.net_flatten_cells.proofs.nets.flat_joins.Goals as goal

pub joins_of-requires-clause-groups : goal.joins_of-requires-clause-groups
joins_of-requires-clause-groups c = subst (λ ts. AreWithin (length ts) c.in_ok-members.members) (sym c.terminals.ensures) (lists_within c.args.flat.now c.in_ok-members.members c.in_ok-members.ensures (length c.args.flat.now.terminals) c.requires.numbers.len)

pub joins_of-requires-clause-few : goal.joins_of-requires-clause-few
joins_of-requires-clause-few c =
    let l = lists_few c.args.flat.now c.in_ok-members.members c.in_ok-members.ensures (length c.args.flat.now.terminals) c.requires.numbers in
    omega (arith, l, c.requires.numbers.few)

pub returns-clause-joins : goal.returns-clause-joins
returns-clause-joins c = subst₂ (λ ts w. IfOk c.joins_of.result (λ made. made.0 ≡ joins_from ts c.args.leaves.now.numbers 0 w)) c.terminals.ensures (wide_wired c.args.flat.now c.in_ok-members.members c.in_ok-members.ensures) c.joins_of.ensures.joins

pub returns-clause-count : goal.returns-clause-count
returns-clause-count c = subst (λ w. IfOk c.joins_of.result (λ made. made.1 ≡ length w)) (wide_wired c.args.flat.now c.in_ok-members.members c.in_ok-members.ensures) c.joins_of.ensures.count
