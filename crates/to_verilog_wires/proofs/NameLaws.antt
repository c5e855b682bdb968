-- Names and properties of wires.
use Rattle.std.proofs.Common.{◌≡◌, ℕ, false, List, [], ◌∷◌, ◌++◌, sym, ◌∙◌, ap, subst, codes}
use Rattle.net_bits.specs.Names.{AreUsed, has_name, with_name}
use Rattle.net_bits.proofs.CallerLaws.{used-with_name}
use Rattle.net_hier.specs.declared.cells.HCell.{HCell}
use Rattle.net_hier.specs.declared.nodes.Node.{Node}
use Rattle.to_verilog_wires.specs.Naming.{wire_attrs}
use Rattle.to_verilog_wires.specs.Wires.{HasOneMore, IsNamed, IsSameBut}
use Rattle.to_verilog_wires.specs.declared.naming.Wires.{Wires}
use Rattle.vlog_written.specs.Written.{wire_item}

pub one_more : (cell : HCell) (nodes : List Node) (before now after : Wires) (name : List ℕ) → IsSameBut before now → has_name before.used name ≡ false → IsNamed before.used name → AreUsed now.used (codes "n") now.next →
    after.used ≡ with_name now.used name → after.names ≡ now.names ++ name ∷ [] → after.decls ≡ now.decls ++ wire_item (record { attrs = wire_attrs cell nodes; name = name }) ∷ [] → after.next ≡ now.next → HasOneMore cell nodes before after
one_more cell nodes before now after name same new named used u n d x = record {
  name = name;
  is_new = new;
  is_named = named;
  used = u ∙ ap (λ set. with_name set name) same.used;
  names = n ∙ ap (λ l. l ++ name ∷ []) same.names;
  decls = d ∙ ap (λ l. l ++ wire_item (record { attrs = wire_attrs cell nodes; name = name }) ∷ []) same.decls;
  next = subst (λ set. AreUsed set (codes "n") after.next) (sym u) (subst (λ k. AreUsed (with_name now.used name) (codes "n") k) (sym x) (used-with_name now.used name (codes "n") now.next used));
}
