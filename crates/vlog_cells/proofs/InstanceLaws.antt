-- The instances of a module by the values that `defparam` gives them.
use Rattle.std.proofs.Common.{◌≡◌, ◌+◌, not, cond, List, [], ◌∷◌, ◌++◌, bytes_eq, flat_map, map, refl, ap, ◌∙◌}
use Rattle.std.specs.Borrow.{Bor}
use Rattle.std.specs.List.{position_or_len}
use Rattle.vlog_design.specs.Design.{def_sets, module_instances, statement_instances}
use Rattle.vlog_design.specs.Names.{Name, instance_statement, instance_statements}
use Rattle.vlog_design.specs.Reach.{module_number}
use Rattle.vlog_values.specs.declared.module.Module.{Module}
use Rattle.vlog_values.specs.declared.statement.DefSet.{DefSet}
use Rattle.vlog_values.specs.declared.statement.Instances.{Instances}
use Rattle.vlog_values.specs.declared.statement.VInst.{VInst}
use Rattle.vlog_cells.specs.Instances.{instance_by, instances_by, props_by, sets_for, sets_under}

number_is : (modules : List Module) (name : Name) → position_or_len (bytes_eq name) (map (λ m. m.name) modules) ≡ module_number modules name
unfolding module_number
number_is [] name = refl
number_is (m ∷ ms) name = ap (λ n. cond (not (bytes_eq name m.name)) (1 + n) 0) (number_is ms name)

module _ (modules : List Module) (m : Module) (names : List Name) (found : List (Name × List (Bor DefSet))) (named : names ≡ map (λ m. m.name) modules) (known : (key : Name) → sets_under found key ≡ sets_for key (def_sets m)) where
  insts_are : (statement : Instances) (insts : List VInst) → map (instance_by (position_or_len (bytes_eq statement.module) names) statement found) insts
      ≡ map (λ instance. record { name = instance.name; cell = module_number modules statement.module; props = props_by statement (sets_for instance.name (def_sets m)) }) insts
  insts_are statement [] = refl
  insts_are statement (x ∷ xs) =
      let number : position_or_len (bytes_eq statement.module) names ≡ module_number modules statement.module = ap (position_or_len (bytes_eq statement.module)) named ∙ number_is modules statement.module in
      (λ j. record { name = x.name; cell = number j; props = props_by statement (known x.name j) } ∷ insts_are statement xs j)

  statements_are : (statements : List Instances) → flat_map (instances_by names found) statements ≡ flat_map (statement_instances modules m) statements
  statements_are [] = refl
  statements_are (statement ∷ statements) = (λ j. insts_are statement statement.insts j ++ statements_are statements j)

  pub instances_are : flat_map (instances_by names found) (flat_map instance_statement m.items) ≡ module_instances modules m
  unfolding module_instances instance_statements
  instances_are = statements_are (flat_map instance_statement m.items)
