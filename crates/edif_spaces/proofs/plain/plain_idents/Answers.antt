use Rattle.std.proofs.Common.{arith, [], get_or, refl, sym, subst, ◌∙◌}
use Rattle.edif_spaces.specs.Plain.{IsPlain}
use Rattle.edif_spaces.specs.Spaces.{AreIdents}
use Rattle.edif_spaces.proofs.IdentLaws.{first_all, first_more, first_none, lent, seen}
use Rattle.edif_spaces.proofs.PlainLaws.{and_left, none_stemmed, plain_none, told_own}
use Rattle.edif_spaces.proofs.plain.plain_idents.Goals as goal

pub loop-name-init : goal.loop-name-init
loop-name-init c = record {
  first = first_none lent c.args.names.now _ c.in_ok-idents.ensures.items;
  plain = subst (λ l. IsPlain l 0) (sym c.in_ok-idents.ensures.items) plain_none;
  few = omega arith;
}

pub plain_ident-requires-clause-stem : goal.plain_ident-requires-clause-stem
plain_ident-requires-clause-stem c = none_stemmed c.args.names.now c.loop-name.name-index _ _ c.requires.stem c.loop-name-test.true refl

pub plain_ident-requires-clause-can : goal.plain_ident-requires-clause-can
plain_ident-requires-clause-can c = λ own. and_left _ _ (sym c.is_own-is_own.ensures ∙ own)

pub plain_ident-requires-clause-few : goal.plain_ident-requires-clause-few
plain_ident-requires-clause-few c = let within = c.loop-name-test.true in let step = c.loop-name.invariant.few in omega (arith, c.requires.few, within, step)

pub loop-name-preserved : goal.loop-name-preserved
loop-name-preserved c = let name = (get_or c.args.names.now c.loop-name.name-index (record { ref_ptr = (0, 0); now = [] })).now in let found = c.in_ok-ident.ensures c.loop-name.idents.items (told_own c.loop-name.idents.items c.as_slice.result.now name c.is_own-is_own.result c.as_slice.ensures.value c.is_own-is_own.ensures) c.loop-name.invariant.plain in let pushed = c.in_ok-push.ensures.items in record {
  first = first_more lent c.args.names.now c.loop-name.name-index _ _ _ _ _ c.loop-name-test.true refl c.loop-name.invariant.first found.fits found.new pushed;
  plain = subst (λ l. IsPlain l c.in_ok-ident.next) (sym pushed) found.plain;
  few = let before = c.loop-name.invariant.few in let step = found.step in omega (arith, before, step);
}

pub returns : goal.returns
returns c = subst (AreIdents (seen c.args.names.now)) (sym c.of.ensures) (first_all lent c.args.names.now c.loop-name.name-index _ c.loop-name-test.false c.loop-name.invariant.first)
