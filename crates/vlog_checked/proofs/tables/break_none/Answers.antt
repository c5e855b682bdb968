use Rattle.std.proofs.Common.{◌≡◌, ◌++◌, ◌∙◌, List, [], ap, flat_map, map, not, sym}
use Rattle.nl_base.specs.declared.rule.Refusal.{Refusal}
use Rattle.nl_base.specs.declared.rule.Rule.{Rule}
use Rattle.nl_base.specs.declared.rule.Rule.TheVariants.{G9, G10, G11, G14, G17}
use Rattle.vlog_design.specs.Rules.{Objects, first_of, params_twice, ports_twice, refused, too_many_connections, unknown_instances, unknown_ports}
use Rattle.vlog_design.specs.Tables.{modules_of}
use Rattle.vlog_values.specs.declared.module.Module.{Module}
use Rattle.vlog_checked.specs.Groups.{connection_refusals}
use Rattle.vlog_checked.proofs.BothLaws.{first_empty, none_of_both, none_of_three, none_told}
use Rattle.vlog_checked.proofs.tables.break_none.Goals as goal

pub returns : goal.returns
unfolding connection_refusals unknown_ports ports_twice too_many_connections params_twice
returns c told =
    let modules = modules_of c.args.library.now.modules.items in
    let by : Rule → (Module → Objects) → Module → List Refusal = λ rule objects m. map (refused rule m.name) (objects m) in
    let f : Module → List Refusal = λ m. by G9 (unknown_ports modules) m ++ (by G10 ports_twice m ++ by G11 (too_many_connections modules) m) in
    let g : Module → List Refusal = λ m. by G14 params_twice m ++ by G17 unknown_instances m in
    let empty : flat_map (λ m. f m ++ g m) modules ≡ [] =
    first_empty _ (sym (c.in_ok-found.ensures ∙ ap (λ those. first_of (flat_map (λ m. f m ++ g m) (modules_of those))) c.deref.ensures.value)
    ∙ none_told c.in_ok-found.found (c.is_none.ensures ∙ ap not told)) in
    let both = none_of_both f g modules empty in
    let three = none_of_three (by G9 (unknown_ports modules)) (by G10 ports_twice) (by G11 (too_many_connections modules)) modules both.0 in
    let two = none_of_both (by G14 params_twice) (by G17 unknown_instances) modules both.1 in
    record {
      connections = λ j. three.0 j ++ three.1 j ++ three.2 j;
      parameters = two.0;
      instances = two.1;
    }
