use Rattle.std.proofs.Common.{arith, rules, ◌≡◌, ℕ, ◌-◌, ◌<◌, List, All, length, subst, sym, ◌∙◌}
use Rattle.net_hier.specs.declared.nodes.Node.{Node}
use Rattle.net_bits.specs.Classes.{AreClasses, ClassTable}
use Rattle.net_bits.specs.Flood.{IsNext}
use Rattle.net_bits.proofs.ClassTables.{are_classes, has_members, numbers_below}
use Rattle.net_bits.proofs.Transport.{are_mutual}
use Rattle.net_bits.proofs.classes.Classes.of_cell.Goals as goal

pub number_classes-requires-clause-lists : goal.number_classes-requires-clause-lists
number_classes-requires-clause-lists g c = are_mutual c.args.cell.now c.in_ok-adjacency.adjacency c.in_ok-adjacency.ensures.neighbours

pub groups_of-requires-clause-below : goal.groups_of-requires-clause-below
groups_of-requires-clause-below g c =
    subst (λ t. All (λ n. n < c.in_ok-numbers.count) t) (sym c.as_slice.ensures.value) (numbers_below (IsNext c.in_ok-adjacency.adjacency.lists) c.in_ok-numbers.numbers.items c.in_ok-numbers.count c.in_ok-numbers.ensures.numbers)

pub invariant_of-result : goal.invariant_of-result
invariant_of-result g c =
    let adjacency = c.in_ok-adjacency.adjacency in
    let numbers = c.in_ok-numbers.numbers.items in
    let few : c.in_ok-numbers.count < 4294967296 = search rules in
    has_members adjacency.nodes c.into_nodes-nodes.result.items numbers c.as_slice.result.now c.in_ok-starts.field-0.starts.items c.in_ok-starts.field-0.places.items c.as_slice-2.result.now
    c.in_ok-members.members.items c.in_ok-numbers.count c.in_ok-adjacency.ensures.neighbours.nodes.in_order c.into_nodes-nodes.ensures (c.in_ok-numbers.ensures.len ∙ c.in_ok-adjacency.ensures.neighbours.lists.len)
    c.as_slice.ensures.value few c.in_ok-starts.ensures c.as_slice-2.ensures.value c.in_ok-members.ensures.nodes

pub returns-clause-classes : goal.returns-clause-classes
returns-clause-classes g c =
    let are = are_classes c.args.cell.now c.in_ok-adjacency.adjacency c.in_ok-adjacency.ensures.neighbours c.in_ok-numbers.numbers.items c.in_ok-numbers.count
    (c.in_ok-numbers.ensures.len ∙ c.in_ok-adjacency.ensures.neighbours.lists.len) c.in_ok-numbers.ensures.numbers in
    let table : List Node → ℕ → ClassTable = λ nodes count. record { nodes = nodes; numbers = c.in_ok-numbers.numbers.items; count = count } in
    let counted : length c.in_ok-starts.field-0.starts.items - 1 ≡ c.in_ok-numbers.count = let l = c.in_ok-starts.ensures.sums.len in omega (arith, l) in
    subst (λ n. AreClasses c.args.cell.now (table c.into_nodes-nodes.result.items n)) (sym counted)
    (subst (λ nodes. AreClasses c.args.cell.now (table nodes c.in_ok-numbers.count)) (sym c.into_nodes-nodes.ensures) are)
