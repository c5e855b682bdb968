-- The value of a cell by the lists in which its references are looked up.
use borrow.Author.Tests.{ltb-true}
use Rattle.std.proofs.lemmas.Bool.Decides.{nat_tests}
use Rattle.std.proofs.Common.{◌≡◌, ℕ, zero, suc, ◌<◌, Bool, true, false, cond, List, [], ◌∷◌, ◌++◌, map, length, get_or, Option, Some, None, option_map, refl, sym, ap, ◌∙◌, subst, arith, if◌then◌else◌}
use Rattle.std.specs.Prelude.{nat_lt, slice_get, option_to_list}
use Rattle.std.specs.List.{filter_map, flat_map}
use Rattle.std.specs.Option.{option_and_then}
use Rattle.std.proofs.Math.ListN.{get_or-map}
use Rattle.std.proofs.lemmas.List.{map-append}
use Rattle.edif_values.specs.Names.{original}
use Rattle.edif_values.specs.declared.instance.Instance.{Instance}
use Rattle.edif_values.specs.declared.net.Net.{Net}
use Rattle.edif_values.specs.declared.net.PortRef.{PortRef}
use Rattle.net_hier.specs.declared.cells.HCell.{HCell}
use Rattle.net_hier.specs.declared.cells.HInst.{HInst}
use Rattle.net_hier.specs.declared.nodes.Join.{Join}
use Rattle.edif_values.specs.declared.cell.Cell.{Cell}
use Rattle.edif_design.specs.CellRules.{bit_meant}
use Rattle.edif_design.specs.Design.{cell_properties, cell_value, instance_value, net_joins, net_value, number_below, number_in, port_value}
use Rattle.edif_design.specs.Parts.{instances, nets, numbered, ports}
use Rattle.edif_design.specs.References.{LinkedCell, linked_by, with_number}
use Rattle.edif_rules.specs.RefRefusals.{ref_node}
use Rattle.edif_rules.specs.Scopes.{IsScope, ScopeLists}
use Rattle.edif_rules.proofs.ScopeLaws.{node_alike}
use Rattle.edif_rules.proofs.Turns.{filter_grows}
use Rattle.edif_cells.specs.Values.{instance_at, instance_of, join_of, joins_of, number_within}

-- a number is that of a cell where it is below how many there are
one_of : (cells : List Cell) (n : ℕ) → option_map (λ (inner : ℕ × Cell). inner.0) (with_number cells n) ≡ number_within (length cells) n
one_of cells n = by cells n n
  where
    by : (cells : List Cell) (k n : ℕ) → option_map (λ (inner : ℕ × Cell). inner.0) (option_map (λ cell. (n, cell)) (slice_get cells k)) ≡ (if nat_lt k (length cells) then Some n else None)
    by [] k n = sym (at (nat_lt k 0) n (λ e. absurd (omega (arith, ltb-true k 0 e))))
      where
        at : (b : Bool) (n : ℕ) → (b ≡ true → ⊥) → (if b then Some n else None) ≡ None
        at true n h = absurd (h refl)
        at false n h = refl
    by (cell ∷ cells) zero n = ap (λ b. if b then Some n else None) (sym (first (length cells)))
      where
        first : (m : ℕ) → nat_lt 0 (suc m) ≡ true
        first m = grind (arith, nat_tests)
    by (cell ∷ cells) (suc k) n = by cells k n ∙ ap (λ b. if b then Some n else None) (same k (length cells))
      where
        same : (k m : ℕ) → nat_lt k m ≡ nat_lt (suc k) (suc m)
        same k m = grind (arith, nat_tests)

-- the numbers of the cells that instances are of
pub number_alike : (cells : List Cell) (below : List (Option ℕ)) (instance : ℕ) → option_and_then (number_within (length cells)) (get_or below instance None) ≡ number_below (map (option_and_then (with_number cells)) below) instance
number_alike cells below instance =
    by (get_or below instance None)
    ∙ ap (option_map (λ (inner : ℕ × Cell). inner.0)) (sym (get_or-map (option_and_then (with_number cells)) below instance None))
  where
    by : (o : Option ℕ) → option_and_then (number_within (length cells)) o ≡ option_map (λ (inner : ℕ × Cell). inner.0) (option_and_then (with_number cells) o)
    by None = refl
    by (Some n) = sym (one_of cells n)

-- the instances of a cell
pub instances_alike : (numbers : List ℕ) (cells : List Cell) (below : List (Option ℕ)) (instances : List Instance)
    → map (instance_at numbers below (length cells)) (numbered instances) ≡ map (instance_value numbers (map (option_and_then (with_number cells)) below)) (numbered instances)
instances_alike numbers cells below instances = λ j. map (λ (instance : ℕ × Instance). instance_of (number_in numbers (number_alike cells below instance.0 j)) instance.1) (numbered instances)

-- the joins of a cell
pub joins_alike : (linked : LinkedCell) (lists : ScopeLists) → IsScope linked lists → (nets : List Net) → flat_map (λ (net : ℕ × Net). joins_of lists net.0 net.1.joined) (numbered nets) ≡ flat_map (net_joins linked) (numbered nets)
joins_alike linked lists is nets = λ j. flat_map (λ (net : ℕ × Net). map (join_of net.0) (filter_map (λ ref. node_alike linked lists is ref j) net.1.joined)) (numbered nets)

-- of one more reference the join of what it means
pub joins_grow : (lists : ScopeLists) (net : ℕ) (xs : List PortRef) (x : PortRef) → joins_of lists net (xs ++ x ∷ []) ≡ joins_of lists net xs ++ map (join_of net) (option_to_list (ref_node lists x))
joins_grow lists net xs x = ap (map (join_of net)) (filter_grows (ref_node lists) xs x) ∙ map-append (join_of net) (filter_map (ref_node lists) xs) (option_to_list (ref_node lists x))

-- a cell that has the value's parts is the value
pub cell_made : (numbers : List ℕ) (cells : List Cell) (cell : Cell) (below : List (Option ℕ)) (made : HCell) → made.name ≡ original cell.name → made.ports ≡ map port_value (ports cell)
    → made.instances ≡ map (instance_at numbers below (length cells)) (numbered (instances cell)) → made.nets ≡ map net_value (nets cell) → made.joins ≡ flat_map (net_joins (linked_by cells cell below)) (numbered (nets cell))
    → made.props ≡ flat_map cell_properties cell.items → made ≡ cell_value numbers (linked_by cells cell below)
unfolding cell_value
cell_made numbers cells cell below made name ps us ns js props = λ j. record { name = name j; ports = ps j; instances = (us ∙ instances_alike numbers cells below (instances cell)) j; nets = ns j; joins = js j; props = props j }

-- the joins that were made of the nets that were read
pub joins_found : (linked : LinkedCell) (lists : ScopeLists) (made : List Join) (read : List Net) → made ≡ flat_map (λ (net : ℕ × Net). joins_of lists net.0 net.1.joined) (numbered read) → read ≡ nets linked.cell → IsScope linked lists
    → made ≡ flat_map (net_joins linked) (numbered (nets linked.cell))
joins_found linked lists made read is_made is_read is =
    is_made ∙ (ap (λ ns. flat_map (λ (net : ℕ × Net). joins_of lists net.0 net.1.joined) (numbered ns)) is_read ∙ joins_alike linked lists is (nets linked.cell))
