use Rattle.std.proofs.Common.{◌≡◌, ◌<◌, arith, length}
use Rattle.net_lint.specs.Groups.{drivers_among, role_at}
use Rattle.net_lint.specs.Roles.{is_driver}
use Rattle.net_lint.proofs.Laid.{group_few, group_laid}
use Rattle.net_lint.proofs.drivers.drivers_by_group.Goals as goal

pub overflow_cast-len : goal.overflow_cast-len
overflow_cast-len c =
    let members = c.args.members.now in
    let lt : c.loop-group.group < length members = omega (arith, c.loop-group-test.true, c.count-group-end.ensures) in
    let few = group_few (λ place. is_driver (role_at c.args.roles.now place)) members c.loop-group.group c.loop-group.places.items c.of.result.now c.push_drivers.new.drivers.items lt c.of.ensures c.loop-group.invariant.few c.in_ok-push_drivers.ensures in
    omega (arith, c.len.ensures, c.push_drivers.new.drivers.ok, few.1, c.requires.few)

pub loop-group-preserved : goal.loop-group-preserved
loop-group-preserved c =
    let members = c.args.members.now in
    let lt : c.loop-group.group < length members = omega (arith, c.loop-group-test.true, c.count-group-end.ensures) in
    let few = group_few (λ place. is_driver (role_at c.args.roles.now place)) members c.loop-group.group c.loop-group.places.items c.of.result.now c.push_drivers.new.drivers.items lt c.of.ensures c.loop-group.invariant.few c.in_ok-push_drivers.ensures in
    let end : c.len.result ≡ length c.push_drivers.new.drivers.items = omega (arith, c.len.ensures, c.push_drivers.new.drivers.ok) in
    record {
      laid = group_laid (drivers_among c.args.roles.now) members c.loop-group.group c.loop-group.starts.items c.loop-group.places.items c.of.result.now c.push-in-loop-group.new.self.items c.push_drivers.new.drivers.items c.len.result lt c.of.ensures
          c.loop-group.invariant.laid c.in_ok-push_drivers.ensures end c.in_ok-push-2.ensures.items;
      few = few.0;
    }
