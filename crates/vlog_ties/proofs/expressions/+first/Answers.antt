use Rattle.std.proofs.Common.{ap, refl, sym, ◌∙◌, drop, ◌+◌, map}
use Rattle.vlog_design.specs.Names.{Use, uses}
use Rattle.vlog_design.specs.Rules.{first_of}
use Rattle.vlog_design.proofs.ExprLemmas.{uses-Cat, uses-Lit, uses-Loose, uses-LooseNumber, uses-Ref, uses-Rep}
use Rattle.vlog_rules.proofs.RuleLaws.{first_behind, first_there}
use Rattle.vlog_ties.proofs.Broken.{names_in, names_left}
use Rattle.vlog_ties.proofs.expressions.+first.Goals as goal

pub first_use-returns-in-Ref : goal.first_use-returns-in-Ref
first_use-returns-in-Ref t c = rw (c.in-Ref.is, uses-Ref, ← c.bytes.ensures) refl

pub first_use-returns-in-Lit : goal.first_use-returns-in-Lit
first_use-returns-in-Lit t c = rw (c.in-Lit.is, uses-Lit) refl

pub first_use-returns-in-LooseNumber : goal.first_use-returns-in-LooseNumber
first_use-returns-in-LooseNumber t c = rw (c.in-LooseNumber.is, uses-LooseNumber) refl

pub first_use-returns-in-Loose : goal.first_use-returns-in-Loose
first_use-returns-in-Loose t c = rw (c.in-Loose.is, uses-Loose) refl

pub first_use-returns-in-Cat : goal.first_use-returns-in-Cat
first_use-returns-in-Cat t c = rw (c.in-Cat.is, uses-Cat, ← c.items.ensures) c.first_use_in.ensures

pub first_use-returns-in-Rep : goal.first_use-returns-in-Rep
first_use-returns-in-Rep t c = rw (c.in-Rep.is, uses-Rep, ← c.get.ensures, ← c.items-in-Rep.ensures) c.first_use_in-in-Rep.ensures

pub first_use_in-returns-in-Some : goal.first_use_in-returns-in-Some
first_use_in-returns-in-Some t c =
    let parts = c.args.parts.now in
    let i = c.loop-part.part-index in
    let part = c.part-item.result in
    first_there (map (λ (u : Use). u.name) (uses part)) (names_in (drop (i + 1) parts)) _ c.in-Some.ensures
    ∙ (ap first_of (sym (names_left parts i part c.part-item.is c.loop-part-test.true)) ∙ c.loop-part.invariant)

pub first_use_in-loop-part-preserved : goal.first_use_in-loop-part-preserved
first_use_in-loop-part-preserved t c =
    let parts = c.args.parts.now in
    let i = c.loop-part.part-index in
    let part = c.part-item.result in
    sym (first_behind (map (λ (u : Use). u.name) (uses part)) (names_in (drop (i + 1) parts)) c.in_default.ensures)
    ∙ (ap first_of (sym (names_left parts i part c.part-item.is c.loop-part-test.true)) ∙ c.loop-part.invariant)
