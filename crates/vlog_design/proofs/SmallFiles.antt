-- What the definitions say of small files.
use Rattle.std.proofs.Common.{◌≡◌, ℕ, List, [], ◌∷◌, refl, true, false, Bool, Option, Some, None, pos, codes, map, cond}
use Rattle.nl_base.specs.declared.value.Dir.TheVariants.{Input, Output}
use Rattle.nl_base.specs.declared.value.PropValue.TheVariants.{Int as IntValue}
use Rattle.nl_base.specs.Ranges.{Bounds}
use Rattle.nl_base.specs.declared.rule.Rule.TheVariants.{G1, G6, G8, G13, G16, G17}
use Rattle.net_hier.specs.declared.cells.HInst.{HInst}
use Rattle.net_hier.specs.declared.cells.HCell.{HCell}
use Rattle.net_hier.specs.declared.nodes.Join.{Join}
use Rattle.net_hier.specs.declared.nodes.Node.{Node}
use Rattle.net_hier.specs.declared.nodes.Node.TheVariants.{Port, Pin, Net, Zero, One}
use Rattle.vlog_design.specs.Design.{vlog_design, module_cell, module_joins, module_instances, pairings, item_pairings, connections, joins_between, param_value}
use Rattle.vlog_design.specs.Exprs.{repeated}
use Rattle.vlog_design.specs.Names.{clashing, declarations, first_places, header_names, implicit_names, instance_statements, instances, is_declared, is_implicit, module_uses, net_decls, port_decls, port_range, signal_named, signals, target_uses, wires}
use Rattle.vlog_design.specs.Ranges.{position_of, selected}
use Rattle.vlog_design.specs.Reach.{instance_modules, module_named, module_number, modules_below, reached, reaches}
use Rattle.vlog_design.specs.Rules.{bad_selects, declared_twice, first_G, other_ranges, params_twice, ports_twice, recursions, refusals, refused, too_many_connections, too_wide, unequal_widths, unknown_instances, unknown_modules, unknown_names, unknown_ports, ports_named, unsized, without_direction}
use Rattle.vlog_values.specs.declared.expression.Const.TheVariants.{Number}
use Rattle.vlog_values.specs.declared.expression.Expr.{Expr}
use Rattle.vlog_values.specs.declared.expression.Expr.TheVariants.{Ref, Lit, Loose, Cat, Rep}
use Rattle.vlog_values.specs.declared.expression.Select.TheVariants.{All, Slice}
use Rattle.vlog_values.specs.declared.literal.Base.TheVariants.{Binary}
use Rattle.vlog_values.specs.declared.statement.Conns.TheVariants.{Named, Order}
use Rattle.vlog_values.specs.declared.module.Header.TheVariants.{Names, Decls}
use Rattle.vlog_values.specs.declared.module.ItemV.{ItemV}
use Rattle.vlog_values.specs.declared.module.ItemV.TheVariants.{Net as Net', Instances as InstancesItem, Defparam}
use Rattle.vlog_values.specs.declared.declaration.NetKind.TheVariants.{Supply0}
use Rattle.vlog_values.specs.Bits.{binary_digits, digit_bits, digit_value, fill_of, fitted, literal_bits, own_bits}
use Rattle.vlog_values.specs.declared.module.Module.{Module}
use Rattle.vlog_values.specs.declared.declaration.PortDecl.{PortDecl}
use Rattle.vlog_values.specs.declared.module.VlogFile.{VlogFile}
use Rattle.vlog_design.proofs.ExprLemmas.{expr_equations}

abbrev input : Option Bounds → List (List ℕ) → PortDecl
input range names = record { attrs = []; dir = Input; kind = None; signed = false; range = range; names = names }

abbrev a_module : Bool → List ℕ → List PortDecl → List ItemV → Module
a_module implicit name ports items = record { attrs = []; name = name; implicit = implicit; params = []; header = Decls ports; items = items }

abbrev instance : List ℕ → List ℕ → List ℕ → Expr → ItemV
instance of name port value = InstancesItem (record { attrs = []; «module» = of; params = []; insts = record { name = name; conns = Named (record { port = port; value = Some value } ∷ []) } ∷ [] })

-- module B (input I); endmodule module m (); B u (.I(w)); endmodule
abbrev implicit_w : Bool → VlogFile
implicit_w implicit = record { modules = a_module implicit (codes "B") (input None (codes "I" ∷ []) ∷ []) [] ∷ a_module implicit (codes "m") [] (instance (codes "B") (codes "u") (codes "I") (Ref All (codes "w")) ∷ []) ∷ [] }

pub implicit_accepted : first_G (implicit_w true) (codes "m") ≡ None
unfolding first_G refusals reached reaches modules_below module_number instance_modules module_named instance_statements instances unknown_modules declared_twice declarations clashing without_direction unknown_names signals signal_named wires implicit_names is_implicit is_declared first_places header_names port_decls net_decls port_range module_uses target_uses bad_selects selected unequal_widths unsized pairings item_pairings connections unknown_ports ports_named ports_twice too_many_connections params_twice too_wide other_ranges recursions unknown_instances
implicit_accepted = simp expr_equations

pub implicit_refused : first_G (implicit_w false) (codes "m") ≡ Some (refused G6 (codes "m") (codes "w" ∷ []))
unfolding first_G refusals reached reaches modules_below module_number instance_modules module_named instance_statements instances unknown_modules declared_twice declarations clashing without_direction unknown_names signals signal_named wires implicit_names is_implicit is_declared first_places header_names port_decls net_decls port_range module_uses target_uses bad_selects selected unequal_widths unsized pairings item_pairings connections unknown_ports ports_named ports_twice too_many_connections params_twice too_wide other_ranges recursions unknown_instances
implicit_refused = simp expr_equations

-- module r (); r u (); endmodule
abbrev recursive : VlogFile
recursive = record { modules = record { attrs = []; name = codes "r"; implicit = true; params = []; header = Names []; items = InstancesItem (record { attrs = []; «module» = codes "r"; params = []; insts = record { name = codes "u"; conns = Order [] } ∷ [] }) ∷ [] } ∷ [] }

pub recursion_refused : first_G recursive (codes "r") ≡ Some (refused G16 (codes "r") (codes "u" ∷ []))
unfolding first_G refusals reached reaches modules_below module_number instance_modules module_named instance_statements instances unknown_modules declared_twice declarations clashing without_direction unknown_names signals signal_named wires implicit_names is_implicit is_declared first_places header_names port_decls net_decls port_range module_uses target_uses bad_selects selected unequal_widths unsized pairings item_pairings connections unknown_ports ports_named ports_twice too_many_connections params_twice too_wide other_ranges recursions unknown_instances
recursion_refused = refl

-- module s (input [1:0] A); endmodule module t (input x); s u (.A(x)); endmodule
abbrev two_wide : Expr → VlogFile
two_wide value = record { modules = a_module true (codes "s") (input (Some (record { left = pos 1; right = pos 0 })) (codes "A" ∷ []) ∷ []) [] ∷ a_module true (codes "t") (input None (codes "x" ∷ []) ∷ []) (instance (codes "s") (codes "u") (codes "A") value ∷ []) ∷ [] }

pub width_refused : first_G (two_wide (Ref All (codes "x"))) (codes "t") ≡ Some (refused G8 (codes "t") (codes "u" ∷ codes "A" ∷ []))
unfolding first_G refusals reached reaches modules_below module_number instance_modules module_named instance_statements instances unknown_modules declared_twice declarations clashing without_direction unknown_names signals signal_named wires implicit_names is_implicit is_declared first_places header_names port_decls net_decls port_range module_uses target_uses bad_selects selected unequal_widths unsized pairings item_pairings connections unknown_ports ports_named ports_twice too_many_connections params_twice too_wide other_ranges recursions unknown_instances
width_refused = simp expr_equations

-- with .A('b1)
pub unsized_refused : first_G (two_wide (Loose (record { signed = false; base = Binary; digits = codes "1" }))) (codes "t") ≡ Some (refused G13 (codes "t") (codes "u" ∷ codes "A" ∷ []))
unfolding first_G refusals reached reaches modules_below module_number instance_modules module_named instance_statements instances unknown_modules declared_twice declarations clashing without_direction unknown_names signals signal_named wires implicit_names is_implicit is_declared first_places header_names port_decls net_decls port_range module_uses target_uses bad_selects selected unequal_widths unsized pairings item_pairings connections unknown_ports ports_named ports_twice too_many_connections params_twice too_wide other_ranges recursions unknown_instances
unsized_refused = simp expr_equations

pub no_top_refused : first_G (two_wide (Ref All (codes "x"))) (codes "q") ≡ Some (refused G1 [] (codes "q" ∷ []))
unfolding first_G refusals reached reaches modules_below module_number instance_modules module_named instance_statements instances unknown_modules declared_twice declarations clashing without_direction unknown_names signals signal_named wires implicit_names is_implicit is_declared first_places header_names port_decls net_decls port_range module_uses target_uses bad_selects selected unequal_widths unsized pairings item_pairings connections unknown_ports ports_named ports_twice too_many_connections params_twice too_wide other_ranges recursions unknown_instances
no_top_refused = refl

-- module L (); endmodule module m (); L #(.A(1)) u (); defparam u.A = 2; endmodule
abbrev with_defparam : List ℕ → VlogFile
with_defparam of = record {
  modules = a_module true (codes "L") [] [] ∷ a_module true (codes "m") []
      (InstancesItem (record { attrs = []; «module» = codes "L"; params = record { name = codes "A"; value = Number (pos 1) } ∷ []; insts = record { name = codes "u"; conns = Order [] } ∷ [] })
      ∷ Defparam (record { attrs = []; sets = record { «instance» = of; name = codes "A"; value = Number (pos 2) } ∷ [] }) ∷ []) ∷ [];
}

pub defparam_accepted : first_G (with_defparam (codes "u")) (codes "m") ≡ None
unfolding first_G refusals reached reaches modules_below module_number instance_modules module_named instance_statements instances unknown_modules declared_twice declarations clashing without_direction unknown_names signals signal_named wires implicit_names is_implicit is_declared first_places header_names port_decls net_decls port_range module_uses target_uses bad_selects selected unequal_widths unsized pairings item_pairings connections unknown_ports ports_named ports_twice too_many_connections params_twice too_wide other_ranges recursions unknown_instances
defparam_accepted = refl

pub defparam_refused : first_G (with_defparam (codes "w")) (codes "m") ≡ Some (refused G17 (codes "m") (codes "w" ∷ codes "A" ∷ []))
unfolding first_G refusals reached reaches modules_below module_number instance_modules module_named instance_statements instances unknown_modules declared_twice declarations clashing without_direction unknown_names signals signal_named wires implicit_names is_implicit is_declared first_places header_names port_decls net_decls port_range module_uses target_uses bad_selects selected unequal_widths unsized pairings item_pairings connections unknown_ports ports_named ports_twice too_many_connections params_twice too_wide other_ranges recursions unknown_instances
defparam_refused = refl

pub defparam_props : map (λ (cell : HCell). map (λ (i : HInst). i.props) cell.instances) (vlog_design (with_defparam (codes "u")) (codes "m")).cells
    ≡ [] ∷ ((record { name = codes "A"; value = IntValue (pos 1) } ∷ record { name = codes "A"; value = IntValue (pos 2) } ∷ []) ∷ []) ∷ []
unfolding vlog_design reached reaches modules_below module_number instance_modules module_named instance_statements module_cell module_instances param_value
defparam_props = refl

-- module AND4 (input [3:0] A, output Y); endmodule
-- module top (input [1:0] b, input c, output y, output z);
--   supply0 g; AND4 u (.A({2{b[1:0]}}), .Y(y)); AND4 v (.A({{c, g}, 2'b1x}), .Y(z));
-- endmodule
abbrev port : Bool → Option Bounds → List ℕ → PortDecl
port out range name = record { attrs = []; dir = cond out Output Input; kind = None; signed = false; range = range; names = name ∷ [] }

abbrev and4 : List ℕ → Expr → Expr → ItemV
and4 name a y = InstancesItem (record { attrs = []; «module» = codes "AND4"; params = []; insts = record { name = name; conns = Named (record { port = codes "A"; value = Some a } ∷ record { port = codes "Y"; value = Some y } ∷ []) } ∷ [] })

abbrev whole : List ℕ → Expr
whole name = Ref All name

abbrev two_ands : VlogFile
two_ands = record {
  modules =
      a_module true (codes "AND4") (port false (Some (record { left = pos 3; right = pos 0 })) (codes "A") ∷ port true None (codes "Y") ∷ []) []
      ∷ a_module true (codes "top") (port false (Some (record { left = pos 1; right = pos 0 })) (codes "b") ∷ port false None (codes "c") ∷ port true None (codes "y") ∷ port true None (codes "z") ∷ [])
      (Net' (record { attrs = []; kind = Supply0; signed = false; range = None; names = codes "g" ∷ [] })
      ∷ and4 (codes "u") (Rep (pos 2) (Ref (Slice (pos 1) (pos 0)) (codes "b") ∷ [])) (whole (codes "y"))
      ∷ and4 (codes "v") (Cat (Cat (whole (codes "c") ∷ whole (codes "g") ∷ []) ∷ Lit (record { size = 2; based = record { signed = false; base = Binary; digits = codes "1x" } }) ∷ [])) (whole (codes "z"))
      ∷ []) ∷ [];
}

abbrev joined_pair : Node → Node → Join
joined_pair a b = record { a = a; b = b }

pub joins_of_ands : map (λ (cell : HCell). cell.joins) (vlog_design two_ands (codes "top")).cells ≡ [] ∷ (
    joined_pair (Net 0) Zero
    ∷ joined_pair (Pin 0 0 0) (Port 0 0) ∷ joined_pair (Pin 0 0 1) (Port 0 1) ∷ joined_pair (Pin 0 0 2) (Port 0 0) ∷ joined_pair (Pin 0 0 3) (Port 0 1) ∷ joined_pair (Pin 0 1 0) (Port 2 0)
    ∷ joined_pair (Pin 1 0 0) (Port 1 0) ∷ joined_pair (Pin 1 0 1) (Net 0) ∷ joined_pair (Pin 1 0 2) One ∷ joined_pair (Pin 1 1 0) (Port 3 0) ∷ []) ∷ []
unfolding vlog_design reached reaches modules_below module_number instance_modules module_named instance_statements module_cell module_joins item_pairings connections joins_between signals signal_named wires implicit_names is_implicit is_declared declarations first_places header_names port_decls net_decls port_range module_uses target_uses selected position_of repeated literal_bits own_bits digit_bits fill_of fitted binary_digits digit_value
joins_of_ands = simp expr_equations
