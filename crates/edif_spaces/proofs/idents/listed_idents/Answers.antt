use Rattle.std.proofs.Common.{refl, sym, subst, ◌∙◌}
use Rattle.edif_spaces.specs.Spaces.{AreIdents}
use Rattle.edif_spaces.proofs.IdentLaws.{first_all, first_none, lent, seen}
use Rattle.edif_spaces.proofs.SpaceLaws.{space_turn}
use Rattle.edif_spaces.proofs.idents.listed_idents.Goals as goal

pub loop-name-init : goal.loop-name-init
loop-name-init c = let none = c.in_ok-idents.ensures.items in (first_none lent c.args.names.now _ none, c.in_ok-space.ensures ∙ sym none)

pub loop-name-preserved : goal.loop-name-preserved
loop-name-preserved c =
    let now = c.loop-name.invariant in
    space_turn lent c.args.names.now c.loop-name.name-index _ _ _ _ _ _ _ c.loop-name-test.true refl now.0 now.1 c.in_ok-ident.ensures.fits c.in_ok-ident.ensures.new c.in_ok-ident.ensures.added c.in_ok-push.ensures.items

pub returns : goal.returns
returns c = subst (AreIdents (seen c.args.names.now)) (sym c.of.ensures) (first_all lent c.args.names.now c.loop-name.name-index _ c.loop-name-test.false c.loop-name.invariant.0)
