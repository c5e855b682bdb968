use Rattle.std.proofs.Common.{◌≡◌, ◌-◌, ◌<◌, slice_get, length, ap, subst, sym, ◌∙◌, HoldsAt, Less, Equal, Greater}
use Rattle.std.specs.List.Sorted.{IsNonDecreasingBy, IsPartitionPoint}
use Rattle.std.specs.Ordering.{ordering_index}
use Rattle.net_hier.specs.Nodes.{node_cmp}
use Rattle.net_bits.specs.Classes.{ClassTable, class_of}
use Rattle.net_bits.proofs.ClassTables.{class_found, class_missing, copied_get}
use Rattle.net_bits.proofs.classes.Classes.class_of.Goals as goal

pub returns-in-Ok : goal.returns-in-Ok
returns-in-Ok c =
    let node = c.args.node.now in
    let table : ClassTable = record { nodes = c.self.inside.nodes.items; numbers = c.self.inside.numbers.items; count = length c.self.inside.starts.items - 1 } in
    let found : c.copied.result ≡ slice_get table.numbers c.in-Ok.number = c.copied.ensures ∙ (copied_get c.deref-in-Ok.result.now c.in-Ok.number c.get.result c.get.ensures.lookup.0 c.get.ensures.lookup.1 ∙ ap (λ xs. slice_get xs c.in-Ok.number) c.deref-in-Ok.ensures.value) in
    let inside = subst (λ xs. c.in-Ok.number < length xs) c.deref.ensures.value c.in-Ok.ensures.bound in
    let holds = subst (λ xs. HoldsAt (λ y. node_cmp y node ≡ Equal) xs c.in-Ok.number) c.deref.ensures.value c.in-Ok.ensures.ok in
    found ∙ (sym (class_found table c.self.invariant.in_order node c.in-Ok.number inside holds) ∙ ap (λ (t : ClassTable). class_of t node) c.self.view_is)

pub returns-in-Err : goal.returns-in-Err
returns-in-Err c =
    let node = c.args.node.now in
    let table : ClassTable = record { nodes = c.self.inside.nodes.items; numbers = c.self.inside.numbers.items; count = length c.self.inside.starts.items - 1 } in
    let search_of = subst (λ xs. IsNonDecreasingBy (λ y. ordering_index (node_cmp y node)) xs → IsPartitionPoint (λ y. node_cmp y node ≡ Less) (λ y. node_cmp y node ≡ Greater) xs c.in-Err.field-0) c.deref.ensures.value c.in-Err.ensures.position in
    sym (class_missing table c.self.invariant.in_order node c.in-Err.field-0 search_of) ∙ ap (λ (t : ClassTable). class_of t node) c.self.view_is
