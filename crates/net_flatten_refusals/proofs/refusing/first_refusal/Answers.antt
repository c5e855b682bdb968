use Rattle.std.proofs.Common.{ap, subst, subst₂, sym, ◌∙◌, ◌<◌, ◌≢◌, ◌≡◌, None, length}
use Rattle.std.specs.Prelude.{All}
use Rattle.flat_classes.specs.Ways.{ArePaths}
use Rattle.net_flatten_rules.specs.FlatDesign.{inner}
use Rattle.net_flatten_rules.specs.Rules.{first_of, names_twice}
use Rattle.net_flatten_refusals.specs.LongNames.{refused_names}
use Rattle.net_flatten_refusals.proofs.LongLaws.{rest_first}
use Rattle.net_flatten_rules.proofs.MarkLaws.{inner_within, none_is_top}
use Rattle.net_flatten_refusals.proofs.refusing.first_refusal.Goals as goal

pub first_twice-requires-clause-leaves : goal.first_twice-requires-clause-leaves
first_twice-requires-clause-leaves c =
    let leaves : c.as_slice.result.now ≡ inner c.args.flat.now.leaves = c.as_slice.ensures.value ∙ (c.in_ok-leaves.ensures ∙ ap inner c.leaves.ensures) in
    subst₂ (λ ls ss. All (λ leaf. leaf < length ss) ls) (sym leaves) (sym c.spots-spots.ensures) (inner_within c.requires.0 c.args.hier.now c.args.flat.now c.requires.1)

pub first_long-requires-clause-leaves : goal.first_long-requires-clause-leaves
first_long-requires-clause-leaves c =
    let leaves : c.as_slice-2.result.now ≡ inner c.args.flat.now.leaves = c.as_slice-2.ensures.value ∙ (c.in_ok-leaves.ensures ∙ ap inner c.leaves.ensures) in
    subst₂ (λ ls ss. All (λ leaf. leaf < length ss) ls) (sym leaves) (sym c.spots-spots.ensures) (inner_within c.requires.0 c.args.hier.now c.args.flat.now c.requires.1)

pub first_long-requires-clause-below : goal.first_long-requires-clause-below
first_long-requires-clause-below c =
    let leaves : c.as_slice-2.result.now ≡ inner c.args.flat.now.leaves = c.as_slice-2.ensures.value ∙ (c.in_ok-leaves.ensures ∙ ap inner c.leaves.ensures) in
    subst (All (λ leaf. leaf ≢ 0)) (sym leaves) (none_is_top c.args.flat.now.leaves)

pub returns : goal.returns
returns c = λ paths of.
    let spots : c.spots-spots.result.now ≡ c.args.flat.now.spots = c.spots-spots.ensures in
    let first : c.as_slice.result.now ≡ inner c.args.flat.now.leaves = c.as_slice.ensures.value ∙ (c.in_ok-leaves.ensures ∙ ap inner c.leaves.ensures) in
    let second : c.as_slice-2.result.now ≡ inner c.args.flat.now.leaves = c.as_slice-2.ensures.value ∙ (c.in_ok-leaves.ensures ∙ ap inner c.leaves.ensures) in
    let here : ArePaths c.args.hier.now.cells c.spots-spots.result.now paths = subst (λ ss. ArePaths c.args.hier.now.cells ss paths) (sym spots) of in
    let none : None ≡ first_of (names_twice c.args.hier.now paths c.args.flat.now) = sym c.in_default.is ∙ c.in_ok-broken.ensures paths c.args.flat.now here first in
    c.in_ok-broken-2.ensures paths here ∙ ((λ j. first_of (refused_names c.args.hier.now (spots j) paths (second j))) ∙ rest_first c.args.hier.now paths c.args.flat.now none)
