use Rattle.std.proofs.Common.{◌≡◌, ◌++◌, ◌∙◌, ap, append-nil, subst, sym}
use Rattle.std.specs.Prelude.{IfOk}
use Rattle.nl_base.specs.declared.rule.Rule.TheVariants.{G14, G16}
use Rattle.vlog_design.specs.Rules.{first_of, in_modules, params_twice, recursions}
use Rattle.vlog_design.specs.Tables.{modules_of}
use Rattle.vlog_checked.specs.Groups.{BreakNone, connection_refusals, design_refusals, table_refusals}
use Rattle.vlog_checked.proofs.Firsts.{three_first, three_last, three_second}
use Rattle.vlog_checked.proofs.FreeLaws.{left_of_free}
use Rattle.vlog_checked.proofs.tables.first_of_free.Goals as goal

pub returns-then-unbroken : goal.returns-then-unbroken
unfolding design_refusals
returns-then-unbroken c =
    let modules = modules_of c.args.library.now.modules.items in
    let none : BreakNone modules = c.in_ok-unbroken.ensures c.if-unbroken.true in
    let left : table_refusals modules ≡ in_modules G16 (recursions modules) modules =
    left_of_free modules c.requires.free
    ∙ ((λ j. none.connections j ++ none.parameters j ++ (in_modules G16 (recursions modules) modules ++ none.instances j))
    ∙ append-nil (in_modules G16 (recursions modules) modules)) in
    subst (λ all. IfOk c.first_recursion.result (λ found. found ≡ first_of all)) (sym left)
    (subst (λ those. IfOk c.first_recursion.result (λ found. found ≡ first_of (in_modules G16 (recursions (modules_of those)) (modules_of those)))) c.deref.ensures.value c.first_recursion.ensures)

pub returns-in-Some : goal.returns-in-Some
returns-in-Some c =
    let modules = modules_of c.args.library.now.modules.items in
    three_first (connection_refusals modules) (in_modules G14 params_twice modules) c.in_ok-refusal.field-0 c.in_ok-refusal.ensures (design_refusals modules) c.in-Some.refusal c.in-Some.is
    ∙ ap first_of (sym (left_of_free modules c.requires.free))

pub returns-in-Some-2 : goal.returns-in-Some-2
unfolding params_twice
returns-in-Some-2 c =
    let modules = modules_of c.args.library.now.modules.items in
    three_second (connection_refusals modules) (in_modules G14 params_twice modules) c.in_ok-refusal.field-0 c.in_ok-refusal.ensures (design_refusals modules) c.in_default.is
    c.in_ok-refusal-2.field-0 (c.in_ok-refusal-2.ensures ∙ ap (λ those. first_of (in_modules G14 params_twice (modules_of those))) c.deref-2.ensures.value) c.in-Some-2.refusal c.in-Some-2.is
    ∙ ap first_of (sym (left_of_free modules c.requires.free))

pub returns : goal.returns
unfolding params_twice
returns c =
    let modules = modules_of c.args.library.now.modules.items in
    subst (λ all. IfOk c.first_in_instances.result (λ found. found ≡ first_of all)) (sym (left_of_free modules c.requires.free))
    (three_last (connection_refusals modules) (in_modules G14 params_twice modules) c.in_ok-refusal.field-0 c.in_ok-refusal.ensures (design_refusals modules) c.in_default.is
    c.in_ok-refusal-2.field-0 (c.in_ok-refusal-2.ensures ∙ ap (λ those. first_of (in_modules G14 params_twice (modules_of those))) c.deref-2.ensures.value) c.in_default-2.is c.first_in_instances.result
    (subst (λ those. IfOk c.first_in_instances.result (λ found. found ≡ first_of (design_refusals (modules_of those)))) c.deref-3.ensures.value c.first_in_instances.ensures))
