use Rattle.std.proofs.Common.{◌≡◌, ◌||◌, ℕ, List, false, drop, map}
use Rattle.edif_lookup.specs.Refusals.{is_in}
use Rattle.net_bits.specs.Names.{has_name}
use Rattle.net_hier.specs.declared.cells.HInst.{HInst}
use Rattle.edif_parts.proofs.added.used_names.Given as goal

abbrev pub invariant-loop-instance : goal.invariant-loop-instance
invariant-loop-instance l = record {
  by_bytes : l.names.up_to_case ≡ false;
  has : (name : List ℕ) → (has_name l.names name || is_in name (map (λ (x : HInst). x.name) (drop l.instance-index l.own))) ≡ is_in name (map (λ (x : HInst). x.name) l.own);
}
