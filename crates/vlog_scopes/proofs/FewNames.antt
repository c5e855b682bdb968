-- A small module has few names.
use Rattle.std.proofs.Common.{ℕ, ◌≤◌, List, [], ◌∷◌, flat_map, length, sum_by, arith, length-append}
use Rattle.std.proofs.lemmas.List.{length-map}
use Rattle.std.proofs.lemmas.List.Sums.{sum_by-cons}
use Rattle.vlog_design.specs.Names.{Name, header_names, port_names}
use Rattle.vlog_scopes.specs.Filled.{item_nets}
use Rattle.vlog_scopes.specs.Ranged.{RangedName}
use Rattle.vlog_values.specs.Sizes.{header_size, item_size, module_size, port_size}
use Rattle.vlog_values.specs.declared.declaration.PortDecl.{PortDecl}
use Rattle.vlog_values.specs.declared.module.Header.{Header}
use Rattle.vlog_values.specs.declared.module.Header.TheVariants.{Names, Decls}
use Rattle.vlog_values.specs.declared.module.ItemV.{ItemV}
use Rattle.vlog_values.specs.declared.module.ItemV.TheVariants.{Port, Net, Param, Assign, Instances as InstancesItem, Defparam}
use Rattle.vlog_values.specs.declared.module.Module.{Module}

few_in_decls : (decls : List PortDecl) → length (flat_map (λ (decl : PortDecl). decl.names) decls) ≤ sum_by port_size decls
few_in_decls [] = omega arith
few_in_decls (d ∷ ds) = omega (arith, length-append d.names (flat_map (λ (decl : PortDecl). decl.names) ds), few_in_decls ds, sum_by-cons port_size d ds)

few_in_header : (header : Header) → length (header_names header) ≤ header_size header
unfolding header_names
few_in_header (Names names) = omega arith
few_in_header (Decls decls) = omega (arith, few_in_decls decls)

few_in_item : (item : ItemV) → length (item_nets item) ≤ item_size item
few_in_item (Net decl) = omega (arith, length-map {B = RangedName} decl.names (λ (name : Name). record { name = name; range = decl.range }))
few_in_item (Port decl) = omega arith
few_in_item (Param decl) = omega arith
few_in_item (Assign statement) = omega arith
few_in_item (InstancesItem statement) = omega arith
few_in_item (Defparam statement) = omega arith

few_in_items : (items : List ItemV) → length (flat_map item_nets items) ≤ sum_by item_size items
few_in_items [] = omega arith
few_in_items (item ∷ items) =
    omega (
      arith,
      length-append (item_nets item) (flat_map item_nets items),
      few_in_item item,
      few_in_items items,
      sum_by-cons item_size item items,
    )

pub few_ports : (m : Module) (limit : ℕ) → module_size m ≤ limit → length (port_names m) ≤ limit
few_ports m limit h = omega (arith, few_in_header m.header, h)

pub few_nets : (m : Module) (limit : ℕ) → module_size m ≤ limit → length (flat_map item_nets m.items) ≤ limit
few_nets m limit h = omega (arith, few_in_items m.items, h)
