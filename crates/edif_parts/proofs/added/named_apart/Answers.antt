use Rattle.std.proofs.Common.{ℕ, List, ap, sym}
use Rattle.net_hier.specs.declared.constants.ConstName.{ConstName}
use Rattle.edif_parts.proofs.AddedLaws.{none_first}
use Rattle.edif_parts.proofs.added.named_apart.Goals as goal

pub returns-clause-first : goal.returns-clause-first
returns-clause-first c =
    let cell : ConstName → List ℕ = λ n. n.cell in
    c.in_ok-add_constant-2.ensures.first c.args.constants.now (sym (ap cell c.one.ensures.name))
    (c.in_ok-add_constant.ensures.first c.args.constants.now (sym (ap cell c.zero.ensures.name)) (none_first c.args.constants.now c.args.own.now _ c.empty-added.ensures))
