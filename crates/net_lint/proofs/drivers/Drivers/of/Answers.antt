use Rattle.std.proofs.Common.{◌≡◌, ap, arith, get_or, length, sym, ◌∙◌, []}
use Rattle.net_bits.specs.Parts.{part, parts}
use Rattle.flat_classes.proofs.GroupLists.{parts_count, parts_read}
use Rattle.net_lint.proofs.drivers.Drivers.of.Goals as goal

pub part_of-requires-clause-there : goal.part_of-requires-clause-there
part_of-requires-clause-there c =
    let starts = c.self.inside.starts.items in
    let places = c.self.inside.places.items in
    let read = ap length c.as_slice.ensures.value in
    let count : length (parts starts places) ≡ length c.args.self.now = ap length c.self.view_is in
    omega (arith, c.requires, read, count, parts_count starts places)

pub returns : goal.returns
returns c =
    let starts = c.self.inside.starts.items in
    let places = c.self.inside.places.items in
    let count : length (parts starts places) ≡ length c.args.self.now = ap length c.self.view_is in
    c.part_of.ensures
    ∙ (ap (λ s. part s c.as_slice-2.result.now c.args.group) c.as_slice.ensures.value
    ∙ (ap (λ p. part starts p c.args.group) c.as_slice-2.ensures.value
    ∙ (sym (parts_read starts places c.args.group (omega (arith, c.requires, count, parts_count starts places))) ∙ ap (λ lists. get_or lists c.args.group []) c.self.view_is)))
