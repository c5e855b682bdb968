use Rattle.std.proofs.Common.{◌≡◌, ◌<◌, ◌^◌, None, Some, subst, sym, ◌∙◌, arith}
use Rattle.std.specs.Fmt.{decimal}
use Rattle.netlist_words.specs.Parsing.{spelled_number}
use Rattle.netlist_words.proofs.Decimals.{none_by_bytes, none_by_fault, none_by_text, some_by_text, texts_differ, texts_equal}
use Rattle.netlist_words.proofs.numbers.number_of.Goals as goal

pub returns-in_default : goal.returns-in_default
returns-in_default c = sym (none_by_bytes c.args.word.now c.in_default.ensures.cases.0)

pub returns-in_default-parse : goal.returns-in_default-parse
returns-in_default-parse c =
    let text = c.in-Ok.text.now in
    sym (subst (λ bytes. spelled_number bytes ≡ None) c.in-Ok.ensures.cases.0 (none_by_fault text c.in_default-parse.field-0 c.in_default-parse.ensures.value.0))

pub returns-then-ne : goal.returns-then-ne
returns-then-ne c =
    let text = c.in-Ok.text.now in
    sym (subst (λ bytes. spelled_number bytes ≡ None) c.in-Ok.ensures.cases.0
    (none_by_text (Unit {0}) text c.in-Ok-parse.number c.in-Ok-parse.ensures.value.0 (λ (e : decimal c.in-Ok-parse.number ≡ text). texts_differ c.format.result.now text c.ne.result c.ne.ensures c.if-ne.true (c.format.ensures.text ∙ e))))

pub returns : goal.returns
returns c =
    let text = c.in-Ok.text.now in
    let small : c.in-Ok-parse.number < 2 ^ 64 = grind (arith, c.in-Ok-parse.ensures.value.0) in
    let same : decimal c.in-Ok-parse.number ≡ text = sym c.format.ensures.text ∙ texts_equal c.format.result.now text c.ne.result c.ne.ensures c.if-ne.false in
    sym (subst (λ bytes. spelled_number bytes ≡ Some c.in-Ok-parse.number) c.in-Ok.ensures.cases.0 (some_by_text text c.in-Ok-parse.number small same))
