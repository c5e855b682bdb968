use Rattle.std.proofs.Common.{arith, [], ◌∷◌, ◌++◌, drop, get_or, refl, sym, subst, take, ◌∙◌, ◌+◌}
use Rattle.digests.specs.Sets.{AreNoted}
use Rattle.edif_spaces.specs.Plain.{IsPlain}
use Rattle.edif_spaces.specs.Spaces.{AreIdents}
use Rattle.edif_spaces.proofs.IdentLaws.{first_all, first_more, first_none, lent, seen}
use Rattle.edif_spaces.proofs.ManyLaws.{AreTold, cut_at, digests_of, own_told, seen_more, told_more, told_none}
use Rattle.edif_spaces.proofs.PlainLaws.{and_left, none_stemmed, plain_none}
use Rattle.edif_spaces.proofs.many.idents_by.Goals as goal

pub loop-name-init : goal.loop-name-init
loop-name-init c = let none = c.in_ok-idents.ensures.items in record {
  first = first_none lent c.args.names.now _ none;
  plain = subst (λ l. IsPlain l 0) (sym none) plain_none;
  few = omega arith;
  told = subst (λ l. AreTold c.args.digests.now [] l c.new-given.result) (sym none) (told_none c.args.digests.now c.new-given.result c.new-given.ensures);
}

pub plain_ident-requires-clause-stem : goal.plain_ident-requires-clause-stem
plain_ident-requires-clause-stem c = none_stemmed c.args.names.now c.loop-name.name-index _ _ c.requires.stem c.loop-name-test.true refl

pub plain_ident-requires-clause-can : goal.plain_ident-requires-clause-can
plain_ident-requires-clause-can c = λ own. and_left _ _ (sym c.in_ok-is_own.ensures.own ∙ own)

pub plain_ident-requires-clause-few : goal.plain_ident-requires-clause-few
plain_ident-requires-clause-few c = let within = c.loop-name-test.true in let step = c.loop-name.invariant.few in omega (arith, c.requires.fewer, within, step)

pub loop-name-preserved : goal.loop-name-preserved
loop-name-preserved c =
    let names = c.args.names.now in
    let i = c.loop-name.name-index in
    let within = c.loop-name-test.true in
    let sets = c.args.digests.now in
    let name = (get_or names i (record { ref_ptr = (0, 0); now = [] })).now in
    let stemless = none_stemmed names i _ _ c.requires.stem within refl in
    let given = c.is_own.new.given in
    let rest = digests_of (seen (drop (i + 1) names)) in
    let noted = subst (AreNoted sets) (cut_at names i _ within) c.requires.noted in
    let now = c.loop-name.invariant in
    let own = own_told sets (seen (take i names)) c.loop-name.idents.items c.loop-name.given name stemless now.told rest noted in
    let found = c.in_ok-ident.ensures c.loop-name.idents.items (own ∙ sym c.in_ok-is_own.ensures.own) now.plain in
    let pushed = c.in_ok-push.ensures.items in
    let told = told_more sets (seen (take i names)) c.loop-name.idents.items c.loop-name.given name stemless now.told c.loop-name.from _ _ found rest _ noted c.in_ok-is_own.ensures.added in
    record {
      first = first_more lent names i _ _ _ _ _ within refl now.first found.fits found.new pushed;
      plain = subst (λ l. IsPlain l c.in_ok-ident.next) (sym pushed) found.plain;
      few = let before = now.few in let step = found.step in omega (arith, before, step);
      told = subst (λ l. AreTold sets (seen (take (i + 1) names)) l given) (sym pushed)
          (subst (λ before. AreTold sets before (c.loop-name.idents.items ++ c.in_ok-ident.ident ∷ []) given) (sym (seen_more names i _ within)) told);
    }

pub returns : goal.returns
returns c = subst (AreIdents (seen c.args.names.now)) (sym c.of.ensures) (first_all lent c.args.names.now c.loop-name.name-index _ c.loop-name-test.false c.loop-name.invariant.first)
