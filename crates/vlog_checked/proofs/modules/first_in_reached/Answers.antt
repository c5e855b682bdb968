use Rattle.std.proofs.Common.{◌≡◌, ◌++◌, ◌∙◌, List, [], ap, flat_map, map, not, sym}
use Rattle.nl_base.specs.declared.rule.Refusal.{Refusal}
use Rattle.nl_base.specs.declared.rule.Rule.TheVariants.{G3, G4, G5}
use Rattle.vlog_values.specs.declared.module.Module.{Module}
use Rattle.vlog_design.specs.Rules.{declared_twice, first_of, in_modules, refused, unknown_modules, without_direction}
use Rattle.vlog_design.specs.Tables.{modules_of}
use Rattle.vlog_checked.specs.Groups.{module_refusals}
use Rattle.vlog_checked.proofs.BothLaws.{first_empty, none_of_three, none_told}
use Rattle.vlog_checked.proofs.Firsts.{three_first, three_last, three_second}
use Rattle.vlog_checked.proofs.modules.first_in_reached.Goals as goal

pub returns-then-is_none : goal.returns-then-is_none
unfolding module_refusals unknown_modules declared_twice without_direction
returns-then-is_none c =
    let modules = modules_of c.args.modules.now in
    let f : Module → List Refusal = λ m. map (refused G3 m.name) (unknown_modules c.args.all.now m) in
    let g : Module → List Refusal = λ m. map (refused G4 m.name) (declared_twice m) in
    let h : Module → List Refusal = λ m. map (refused G5 m.name) (without_direction m) in
    let empty : flat_map (λ m. f m ++ (g m ++ h m)) modules ≡ [] = first_empty _ (sym c.in_ok-any.ensures ∙ none_told c.in_ok-any.any (c.is_none.ensures ∙ ap not c.if-is_none.true)) in
    let none = none_of_three f g h modules empty in
    ap first_of (sym (λ j. none.0 j ++ none.1 j ++ none.2 j))

pub returns-in-Some : goal.returns-in-Some
unfolding module_refusals unknown_modules
returns-in-Some c = three_first (in_modules G3 (unknown_modules c.args.all.now) (modules_of c.args.modules.now)) (in_modules G4 declared_twice (modules_of c.args.modules.now)) c.in_ok-refusal.field-0 c.in_ok-refusal.ensures (in_modules G5 without_direction (modules_of c.args.modules.now)) c.in-Some.refusal c.in-Some.is

pub returns-in-Some-2 : goal.returns-in-Some-2
unfolding module_refusals unknown_modules
returns-in-Some-2 c = three_second (in_modules G3 (unknown_modules c.args.all.now) (modules_of c.args.modules.now)) (in_modules G4 declared_twice (modules_of c.args.modules.now)) c.in_ok-refusal.field-0 c.in_ok-refusal.ensures (in_modules G5 without_direction (modules_of c.args.modules.now)) c.in_default.is c.in_ok-refusal-2.field-0 c.in_ok-refusal-2.ensures c.in-Some-2.refusal c.in-Some-2.is

pub returns : goal.returns
unfolding module_refusals unknown_modules
returns c = three_last (in_modules G3 (unknown_modules c.args.all.now) (modules_of c.args.modules.now)) (in_modules G4 declared_twice (modules_of c.args.modules.now)) c.in_ok-refusal.field-0 c.in_ok-refusal.ensures (in_modules G5 without_direction (modules_of c.args.modules.now)) c.in_default.is c.in_ok-refusal-2.field-0 c.in_ok-refusal-2.ensures c.in_default-2.is c.first_in_modules-4.result c.first_in_modules-4.ensures
