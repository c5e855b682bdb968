use Rattle.std.proofs.Common.{arith, ◌∙◌, sym, ap, map}
use Rattle.nl_base.specs.Case.{small, same_bytes}
use Rattle.edif_keywords.proofs.Tables.{turn_found, turn_passes, none_left}
use Rattle.edif_keywords.proofs.aliases.find_letters.Goals as goal

pub returns-then-is_small_of : goal.returns-then-is_small_of
returns-then-is_small_of c =
    let alike = ap (same_bytes (map small c.args.word.now)) (sym c.as_slice.ensures.value) ∙ sym c.is_small_of.ensures ∙ c.if-is_small_of.true in
    sym (turn_found c.args.word.now c.args.keywords.now.entries c.loop-i.i _ _ (sym c.in-Some.ensures.entry) alike) ∙ c.loop-i.invariant

pub loop-i-preserved : goal.loop-i-preserved
loop-i-preserved c =
    let differs = ap (same_bytes (map small c.args.word.now)) (sym c.as_slice.ensures.value) ∙ sym c.is_small_of.ensures ∙ c.if-is_small_of.false in
    sym (turn_passes c.args.word.now c.args.keywords.now.entries c.loop-i.i _ _ (sym c.in-Some.ensures.entry) differs) ∙ c.loop-i.invariant

pub returns : goal.returns
returns c = sym (none_left c.args.word.now c.args.keywords.now.entries c.loop-i.i (omega (arith, c.len-i-end.ensures.len, c.loop-i-test.false))) ∙ c.loop-i.invariant
