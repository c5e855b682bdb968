use Rattle.std.proofs.Common.{◌≡◌, ◌<◌, ◌∙◌, ap, arith, length, map, subst, sym, List}
use Rattle.std.specs.Prelude.{All}
use Rattle.std.proofs.lemmas.List.{length-map}
use Rattle.net_lint.specs.Findings.{AreFound, AreSeveral, IsFloating, IsUndriven}
use Rattle.net_lint.specs.Groups.{drivers_among, finding_of, first_drivers, sets_of}
use Rattle.net_lint.specs.Lint.{view_of}
use Rattle.net_lint.specs.Roles.{role_of}
use Rattle.net_lint.specs.declared.role.Role.{Role}
use Rattle.net_lint.proofs.Sizes.{members_few}
use Rattle.net_lint.proofs.Whole.{drivers_below, drivers_many, floating_found, kept_below, members_below, several_found, undriven_found}
use Rattle.net_lint.proofs.findings.findings_of.Goals as goal

pub findings_by_group-requires : goal.findings_by_group-requires
findings_by_group-requires c =
    let read = ap length c.as_slice.ensures.value in
    let made = ap length c.in_ok-roles.ensures in
    let many = length-map c.args.flat.now.terminals (role_of c.args.hier.now.cells c.args.flat.now.spots) in
    members_below c.args.flat.now c.args.members c.requires.members (length c.as_slice.result.now) (omega (arith, read, made, many, c.requires.classes.are_numbers.len))

pub drivers_by_group-requires-clause-within : goal.drivers_by_group-requires-clause-within
drivers_by_group-requires-clause-within c =
    let read = ap length c.as_slice-2.ensures.value in
    let made = ap length c.in_ok-roles.ensures in
    let many = length-map c.args.flat.now.terminals (role_of c.args.hier.now.cells c.args.flat.now.spots) in
    members_below c.args.flat.now c.args.members c.requires.members (length c.as_slice-2.result.now) (omega (arith, read, made, many, c.requires.classes.are_numbers.len))

pub drivers_by_group-requires-clause-few : goal.drivers_by_group-requires-clause-few
drivers_by_group-requires-clause-few c =
    let numbers = c.requires.classes.are_numbers in
    omega (arith, members_few c.args.flat.now c.args.members c.requires.members, numbers.len, numbers.few)

pub returns-clause-found : goal.returns-clause-found
returns-clause-found c =
    let found = c.in_ok-found.ensures ∙ ap (λ (rs : List Role). map (finding_of rs) c.args.members) (c.as_slice.ensures.value ∙ c.in_ok-roles.ensures) in
    let drivers = c.in_ok-drivers.ensures ∙ ap (λ (rs : List Role). map (drivers_among rs) c.args.members) (c.as_slice-2.ensures.value ∙ c.in_ok-roles.ensures) in
    let firsts : c.in_ok-first_drivers.field-0.items ≡ first_drivers c.args.flat.now.groups c.in_ok-drivers.drivers = c.in_ok-first_drivers.ensures in
    record {
      undriven_are = subst (AreFound IsUndriven (view_of c.args._constants.now c.args.hier.now c.args.flat.now)) (sym c.in_ok-places_found.ensures)
          (undriven_found c.args._constants.now c.args.hier.now c.cells-cells.ensures.valid.valid c.args.flat.now c.requires.classes c.args.members c.requires.members c.as_slice-3.result.now (c.as_slice-3.ensures.value ∙ found));
      floating_are = subst (AreFound IsFloating (view_of c.args._constants.now c.args.hier.now c.args.flat.now)) (sym c.in_ok-places_found-2.ensures)
          (floating_found c.args._constants.now c.args.hier.now c.cells-cells.ensures.valid.valid c.args.flat.now c.requires.classes c.args.members c.requires.members c.as_slice-4.result.now (c.as_slice-4.ensures.value ∙ found));
      several_are = subst (λ fs. AreSeveral (view_of c.args._constants.now c.args.hier.now c.args.flat.now) (sets_of c.args.flat.now.groups c.in_ok-drivers.drivers fs)) (sym firsts)
          (several_found c.args._constants.now c.args.hier.now c.cells-cells.ensures.valid.valid c.args.flat.now c.requires.classes c.args.members c.requires.members c.in_ok-drivers.drivers drivers);
    }

pub returns-clause-fit : goal.returns-clause-fit
returns-clause-fit c =
    let many = c.requires.classes.are_numbers.len in
    record {
      undriven = subst (All (λ place. place < length c.args.flat.now.terminals)) (sym c.in_ok-places_found.ensures) (kept_below _ (length c.args.flat.now.groups) (length c.args.flat.now.terminals) many);
      floating = subst (All (λ place. place < length c.args.flat.now.terminals)) (sym c.in_ok-places_found-2.ensures) (kept_below _ (length c.args.flat.now.groups) (length c.args.flat.now.terminals) many);
      firsts = subst (All (λ place. place < length c.args.flat.now.terminals)) (sym c.in_ok-first_drivers.ensures) (kept_below _ (length c.args.flat.now.groups) (length c.args.flat.now.terminals) many);
      drivers = drivers_below c.args.flat.now c.args.members c.requires.members (length c.args.flat.now.terminals) many c.as_slice-2.result.now c.in_ok-drivers.drivers c.in_ok-drivers.ensures;
      groups = drivers_many c.args.flat.now c.args.members c.requires.members (length c.args.flat.now.terminals) many c.as_slice-2.result.now c.in_ok-drivers.drivers c.in_ok-drivers.ensures;
    }
