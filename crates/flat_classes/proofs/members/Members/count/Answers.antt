use Rattle.std.proofs.Common.{◌≡◌, ap, arith, length}
use Rattle.net_bits.specs.Parts.{parts}
use Rattle.flat_classes.proofs.GroupLists.{parts_count}
use Rattle.flat_classes.proofs.members.Members.count.Goals as goal

pub returns : goal.returns
returns c =
    let starts = c.self.inside.starts.items in
    let places = c.self.inside.places.items in
    let count : length (parts starts places) ≡ length c.args.self.now = ap length c.self.view_is in
    omega (arith, c.len.ensures, count, parts_count starts places)
