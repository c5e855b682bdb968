use Rattle.std.proofs.Common.{ap, sym, ◌∙◌, ◌<◌, ℕ, Some, bytes_eq, get_or, length, map, refl, subst}
use Rattle.std.specs.Prelude.{All}
use Rattle.std.specs.List.{list_any}
use Rattle.net_flatten_rules.specs.Joined.{name_at}
use Rattle.net_flatten_refusals.proofs.RepeatLaws.{repeated_here, search_begins, search_ends, search_goes_on, under_within}
use Rattle.net_flatten_refusals.proofs.repeats.first_by_digests.Goals as goal

pub loop-leaf-init : goal.loop-leaf-init
loop-leaf-init c = search_begins c.args.hier.now.cells c.args.spots.now c.args.digests.now c.args.leaves.now c.requires.leaves c.empty-before.result c.empty-before.ensures

pub is_among-requires-clause-others : goal.is_among-requires-clause-others
is_among-requires-clause-others c = subst (All (λ other. other < length c.args.spots.now)) (sym c.of.ensures)
    (under_within c.args.hier.now.cells c.args.spots.now c.args.digests.now c.args.leaves.now c.requires.leaves c.loop-leaf.leaf-index c.loop-leaf.before c.loop-leaf.invariant _)

pub returns-then-branch : goal.returns-then-branch
returns-then-branch c = λ paths of.
    let digest : ℕ = get_or c.args.digests.now (get_or c.args.leaves.now c.loop-leaf.leaf-index 0) 0 in
    ap Some (c.in_ok-name.ensures paths of)
    ∙ repeated_here c.args.hier.now.cells c.args.spots.now c.args.digests.now c.args.leaves.now c.requires.leaves c.loop-leaf.leaf-index c.loop-leaf.before c.loop-leaf.invariant c.loop-leaf-test.true digest refl
    paths of (c.requires.digests paths of) c.in_ok-is_among.field-0
    (c.in_ok-is_among.ensures paths of ∙ ap (λ ls. list_any (bytes_eq (name_at paths (get_or c.args.leaves.now c.loop-leaf.leaf-index 0))) (map (name_at paths) ls)) c.of.ensures) c.if-branch.true

pub loop-leaf-preserved : goal.loop-leaf-preserved
loop-leaf-preserved c =
    let digest : ℕ = get_or c.args.digests.now (get_or c.args.leaves.now c.loop-leaf.leaf-index 0) 0 in
    search_goes_on c.args.hier.now.cells c.args.spots.now c.args.digests.now c.args.leaves.now c.requires.leaves c.loop-leaf.leaf-index c.loop-leaf.before c.loop-leaf.invariant c.loop-leaf-test.true digest refl
    c.in_ok-is_among.field-0 c.requires.digests
    (λ paths of. c.in_ok-is_among.ensures paths of ∙ ap (λ ls. list_any (bytes_eq (name_at paths (get_or c.args.leaves.now c.loop-leaf.leaf-index 0))) (map (name_at paths) ls)) c.of.ensures)
    c.if-branch.false c.add.new.self c.in_ok-add.ensures

pub returns : goal.returns
returns c = search_ends c.args.hier.now.cells c.args.spots.now c.args.digests.now c.args.leaves.now c.requires.leaves c.loop-leaf.leaf-index c.loop-leaf.before c.loop-leaf.invariant c.loop-leaf-test.false
