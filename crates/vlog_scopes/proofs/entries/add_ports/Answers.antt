use Rattle.std.proofs.Common.{◌≡◌, ◌≤◌, ◌∙◌, ◌++◌, ap, arith, flat_map, length, subst, sym}
use Rattle.std.proofs.lemmas.List.{length-map}
use Rattle.vlog_design.specs.Names.{direction_names, port_decls, port_names, port_signals}
use Rattle.vlog_design.specs.Tables.{names_of}
use Rattle.vlog_scopes.specs.Distinct.{Distinct, signal_names}
use Rattle.vlog_scopes.specs.Ranged.{lent_names, plain_names, port_slots, range_named, ranged_names, ranged_ports}
use Rattle.vlog_scopes.proofs.Declarations.{directions_distinct, ports_distinct}
use Rattle.vlog_scopes.proofs.FewNames.{few_ports}
use Rattle.vlog_scopes.proofs.RangeLaws.{lent_plain, plain_directions, port_range_is}
use Rattle.vlog_scopes.proofs.SignalLaws.{ports_slots}
use Rattle.vlog_scopes.proofs.entries.add_ports.Goals as goal

pub ranged_set-requires : goal.ranged_set-requires
ranged_set-requires c =
    let m = c.args.m.now in
    let same : lent_names c.deref.result.now ≡ direction_names m =
    lent_plain c.deref.result.now ∙ (ap plain_names (ap ranged_names c.deref.ensures.value ∙ c.in_ok-directions.ensures) ∙ plain_directions (port_decls m)) in
    subst Distinct (sym same) (directions_distinct m c.requires.once)

pub add_listed-requires-clause-few : goal.add_listed-requires-clause-few
add_listed-requires-clause-few c =
    let m = c.args.m.now in
    let listed : names_of c.deref-2.result.now ≡ port_names m = ap names_of c.deref-2.ensures.value ∙ c.in_ok-listed.ensures in
    let long : length c.deref-2.result.now ≡ length (port_names m) = sym (length-map c.deref-2.result.now (λ key. key.now)) ∙ ap length listed in
    let few : length (port_names m) ≤ 268435456 = few_ports m 268435456 c.requires.small in
    omega (arith, long, few)

pub add_listed-requires-clause-differ : goal.add_listed-requires-clause-differ
add_listed-requires-clause-differ c =
    let m = c.args.m.now in
    let listed : names_of c.deref-2.result.now ≡ port_names m = ap names_of c.deref-2.ensures.value ∙ c.in_ok-listed.ensures in
    subst Distinct (sym (λ j. signal_names (c.requires.first j) ++ listed j)) (ports_distinct m c.requires.once)

pub returns : goal.returns
returns c =
    let m = c.args.m.now in
    let listed : names_of c.deref-2.result.now ≡ port_names m = ap names_of c.deref-2.ensures.value ∙ c.in_ok-listed.ensures in
    let directions : ranged_names c.deref-3.result.now ≡ flat_map ranged_ports (port_decls m) = ap ranged_names c.deref-3.ensures.value ∙ c.in_ok-directions.ensures in
    record {
      added = c.in_ok-add_listed.ensures.added
          ∙ ((λ j. c.requires.first j ++ port_slots (ranged_names c.deref-3.result.now) 0 (names_of c.deref-2.result.now))
          ∙ (ports_slots m (ranged_names c.deref-3.result.now) (λ name. ap (λ ranged. range_named ranged name) directions ∙ port_range_is m name) 0 (names_of c.deref-2.result.now) ∙ ap (port_signals m 0) listed));
    }
