use Rattle.std.proofs.Common.{◌≡◌, ◌∙◌, ap, subst}
use Rattle.std.specs.Prelude.{IfOk}
use Rattle.nl_base.specs.declared.rule.Rule.TheVariants.{G9, G10, G11}
use Rattle.vlog_design.specs.Rules.{first_of, in_modules, ports_twice, too_many_connections, unknown_ports}
use Rattle.vlog_design.specs.Tables.{modules_of}
use Rattle.vlog_checked.specs.Groups.{connection_refusals}
use Rattle.vlog_checked.proofs.Firsts.{three_first, three_last, three_second}
use Rattle.vlog_checked.proofs.tables.first_in_connections.Goals as goal

pub returns-in-Some : goal.returns-in-Some
unfolding connection_refusals unknown_ports ports_twice
returns-in-Some c = three_first (in_modules G9 (unknown_ports (modules_of c.args.library.now.modules.items)) (modules_of c.args.library.now.modules.items)) (in_modules G10 ports_twice (modules_of c.args.library.now.modules.items)) c.in_ok-refusal.field-0 (c.in_ok-refusal.ensures ∙ ap (λ modules. first_of (in_modules G9 (unknown_ports (modules_of c.args.library.now.modules.items)) (modules_of modules))) c.deref.ensures.value) (in_modules G11 (too_many_connections (modules_of c.args.library.now.modules.items)) (modules_of c.args.library.now.modules.items)) c.in-Some.refusal c.in-Some.is

pub returns-in-Some-2 : goal.returns-in-Some-2
unfolding connection_refusals unknown_ports ports_twice
returns-in-Some-2 c =
    three_second (in_modules G9 (unknown_ports (modules_of c.args.library.now.modules.items)) (modules_of c.args.library.now.modules.items)) (in_modules G10 ports_twice (modules_of c.args.library.now.modules.items)) c.in_ok-refusal.field-0 (c.in_ok-refusal.ensures ∙ ap (λ modules. first_of (in_modules G9 (unknown_ports (modules_of c.args.library.now.modules.items)) (modules_of modules))) c.deref.ensures.value) (in_modules G11 (too_many_connections (modules_of c.args.library.now.modules.items)) (modules_of c.args.library.now.modules.items)) c.in_default.is
    c.in_ok-refusal-2.field-0 (c.in_ok-refusal-2.ensures ∙ ap (λ modules. first_of (in_modules G10 ports_twice (modules_of modules))) c.deref-2.ensures.value) c.in-Some-2.refusal c.in-Some-2.is

pub returns : goal.returns
unfolding connection_refusals unknown_ports ports_twice too_many_connections
returns c =
    three_last (in_modules G9 (unknown_ports (modules_of c.args.library.now.modules.items)) (modules_of c.args.library.now.modules.items)) (in_modules G10 ports_twice (modules_of c.args.library.now.modules.items)) c.in_ok-refusal.field-0 (c.in_ok-refusal.ensures ∙ ap (λ modules. first_of (in_modules G9 (unknown_ports (modules_of c.args.library.now.modules.items)) (modules_of modules))) c.deref.ensures.value) (in_modules G11 (too_many_connections (modules_of c.args.library.now.modules.items)) (modules_of c.args.library.now.modules.items)) c.in_default.is
    c.in_ok-refusal-2.field-0 (c.in_ok-refusal-2.ensures ∙ ap (λ modules. first_of (in_modules G10 ports_twice (modules_of modules))) c.deref-2.ensures.value) c.in_default-2.is c.first_in_modules-3.result
    (subst (λ modules. IfOk c.first_in_modules-3.result (λ found. found ≡ first_of (in_modules G11 (too_many_connections (modules_of c.args.library.now.modules.items)) (modules_of modules)))) c.deref-3.ensures.value c.first_in_modules-3.ensures)
