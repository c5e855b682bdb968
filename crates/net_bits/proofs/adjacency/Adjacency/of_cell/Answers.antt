use Rattle.std.proofs.Common.{arith, Contains, ◌↔◌, ◌≡◌, ◌*◌, ◌<◌, List, length, get_or, subst, ap, ◌∙◌}
use Rattle.std.specs.Set.{distinct_count}
use Rattle.std.proofs.lemmas.Map.Made.{distinct_count-le}
use Rattle.net_hier.specs.declared.nodes.Join.{Join}
use Rattle.net_hier.specs.declared.nodes.Node.{Node}
use Rattle.net_bits.specs.Neighbours.{AreOtherEnds, ends, same_node}
use Rattle.net_bits.specs.Parts.{parts}
use Rattle.net_bits.proofs.EndKeys.{length-ends}
use Rattle.net_bits.proofs.EndNumbers.{count_nodes}
use Rattle.net_bits.proofs.OtherEnds.{all_neighbours, are_other_ends, lent_groups, lent_others, numbers_long, numbers_there, starts_there}
use Rattle.net_bits.proofs.PartLaws.{length-parts}
use Rattle.net_bits.proofs.adjacency.Adjacency.of_cell.Goals as goal

pub overflow_cast-count : goal.overflow_cast-count
overflow_cast-count c =
    let joins = c.items-joins.result.now in
    let nodes = c.in_ok-nodes.field-0.nodes in
    let count = count_nodes (ends joins) nodes.items c.in_ok-nodes.field-0.numbers.items c.in_ok-nodes.ensures in
    omega (arith, c.len-count.ensures, nodes.ok.0, count, distinct_count-le same_node (ends joins), length-ends joins, c.requires, ap (length {A = Join}) c.items-joins.ensures)

pub groups_of-requires-clause-below : goal.groups_of-requires-clause-below
groups_of-requires-clause-below c = λ k d h.
    let joins = c.items-joins.result.now in
    let nodes = c.in_ok-nodes.field-0.nodes in
    let numbers = c.in_ok-nodes.field-0.numbers.items in
    let there = numbers_there joins nodes.items numbers c.in_ok-nodes.ensures k d (subst (λ l. k < length l) c.as_slice.ensures.value h) in
    let same = ap (λ l. get_or l k d) c.as_slice.ensures.value in
    omega (arith, there, same, c.len-count.ensures, nodes.ok.0)

pub groups_of-requires-clause-few : goal.groups_of-requires-clause-few
groups_of-requires-clause-few c =
    let joins = c.items-joins.result.now in
    let long = numbers_long joins c.in_ok-nodes.field-0.nodes.items c.in_ok-nodes.field-0.numbers.items c.in_ok-nodes.ensures in
    omega (arith, long, ap length c.as_slice.ensures.value, c.requires, ap (length {A = Join}) c.items-joins.ensures)

pub other_numbers-requires-clause-even : goal.other_numbers-requires-clause-even
other_numbers-requires-clause-even c =
    let joins = c.items-joins.result.now in
    (length joins, ap length c.as_slice-2.ensures.value ∙ numbers_long joins c.in_ok-nodes.field-0.nodes.items c.in_ok-nodes.field-0.numbers.items c.in_ok-nodes.ensures)

pub invariant_of-result : goal.invariant_of-result
invariant_of-result c =
    let joins = c.items-joins.result.now in
    let nodes = c.in_ok-nodes.field-0.nodes in
    let numbers = c.in_ok-nodes.field-0.numbers.items in
    let starts = c.in_ok-starts.field-0.starts.items in
    let places = c.in_ok-starts.field-0.places.items in
    let others = c.in_ok-others.others.items in
    let many : c.len-count.result ≡ length nodes.items = omega (arith, c.len-count.ensures, nodes.ok.0) in
    let grouped = lent_groups nodes.items numbers c.as_slice.result.now starts places c.len-count.result many c.as_slice.ensures.value c.in_ok-starts.ensures in
    let is = lent_others numbers c.as_slice-2.result.now places c.as_slice-3.result.now others c.as_slice-2.ensures.value c.as_slice-3.ensures.value c.in_ok-others.ensures in
    let count = count_nodes (ends joins) nodes.items numbers c.in_ok-nodes.ensures in
    let all = all_neighbours joins nodes.items numbers starts places others c.in_ok-nodes.ensures grouped is in
    let few = ap (length {A = Join}) c.items-joins.ensures in (
      record {
        len = length-parts starts others ∙ (let l = grouped.sums.len in omega (arith, l));
        few = omega (arith, count, distinct_count-le same_node (ends joins), length-ends joins, c.requires, few);
        short = omega (arith, all, c.requires, few);
      },
      starts_there joins nodes.items numbers starts places others c.in_ok-nodes.ensures grouped is,
    )

pub returns-clause-neighbours : goal.returns-clause-neighbours
returns-clause-neighbours c =
    let joins = c.items-joins.result.now in
    let nodes = c.in_ok-nodes.field-0.nodes in
    let numbers = c.in_ok-nodes.field-0.numbers.items in
    let starts = c.in_ok-starts.field-0.starts.items in
    let places = c.in_ok-starts.field-0.places.items in
    let others = c.in_ok-others.others.items in
    let many : c.len-count.result ≡ length nodes.items = omega (arith, c.len-count.ensures, nodes.ok.0) in
    let grouped = lent_groups nodes.items numbers c.as_slice.result.now starts places c.len-count.result many c.as_slice.ensures.value c.in_ok-starts.ensures in
    let is = lent_others numbers c.as_slice-2.result.now places c.as_slice-3.result.now others c.as_slice-2.ensures.value c.as_slice-3.ensures.value c.in_ok-others.ensures in
    record {
      nodes = record {
        in_order = c.in_ok-nodes.ensures.in_order;
        joined = subst (λ js. (node : Node) → Contains nodes.items node ↔ Contains (ends js) node) c.items-joins.ensures c.in_ok-nodes.ensures.joined;
      };
      lists = subst (λ js. AreOtherEnds nodes.items js (parts starts others)) c.items-joins.ensures (are_other_ends joins nodes.items numbers starts places others c.in_ok-nodes.ensures grouped is);
    }

pub returns-clause-count : goal.returns-clause-count
returns-clause-count c =
    let joins = c.items-joins.result.now in
    count_nodes (ends joins) c.in_ok-nodes.field-0.nodes.items c.in_ok-nodes.field-0.numbers.items c.in_ok-nodes.ensures ∙ ap (λ js. distinct_count same_node (ends js)) c.items-joins.ensures

pub returns-clause-degrees : goal.returns-clause-degrees
returns-clause-degrees c =
    let joins = c.items-joins.result.now in
    let nodes = c.in_ok-nodes.field-0.nodes in
    let numbers = c.in_ok-nodes.field-0.numbers.items in
    let starts = c.in_ok-starts.field-0.starts.items in
    let places = c.in_ok-starts.field-0.places.items in
    let others = c.in_ok-others.others.items in
    let many : c.len-count.result ≡ length nodes.items = omega (arith, c.len-count.ensures, nodes.ok.0) in
    let grouped = lent_groups nodes.items numbers c.as_slice.result.now starts places c.len-count.result many c.as_slice.ensures.value c.in_ok-starts.ensures in
    let is = lent_others numbers c.as_slice-2.result.now places c.as_slice-3.result.now others c.as_slice-2.ensures.value c.as_slice-3.ensures.value c.in_ok-others.ensures in
    all_neighbours joins nodes.items numbers starts places others c.in_ok-nodes.ensures grouped is ∙ ap (λ (js : List Join). 2 * length js) c.items-joins.ensures
