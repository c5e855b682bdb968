use Rattle.std.proofs.Common.{◌∙◌, ◌&&◌, ap, not, sym, bytes_eq}
use Rattle.std.specs.List.{list_any}
use Rattle.vlog_design.specs.Names.{Name, is_whole, target_uses}
use Rattle.vlog_design.specs.Tables.{names_of}
use Rattle.vlog_design.specs.Uses.{uses_of}
use Rattle.vlog_scopes.proofs.ImplicitLaws.{implicit_are, none_implicit, none_undeclared}
use Rattle.vlog_scopes.proofs.implicit.implicit_in.Goals as goal

pub returns-then-not-m : goal.returns-then-not-m
returns-then-not-m c = ap names_of c.new.ensures.items ∙ sym (none_implicit c.args.m.now c.if-not-m.true)

pub returns-then-len-eq0 : goal.returns-then-len-eq0
returns-then-len-eq0 c =
    let are = λ (name : Name). c.in_ok-nets.ensures name ∙ ap (λ b. not b && list_any (λ u. bytes_eq name u.name && is_whole u.select) (target_uses c.args.m.now)) (c.in_ok-declared.ensures name) in
    ap names_of c.new-then-len-eq0.ensures.items ∙ sym (none_undeclared c.args.m.now c.in_ok-nets.nets c.if-not-m.false are (sym c.len.ensures ∙ c.if-len-eq0.true))

pub returns : goal.returns
returns c =
    let are = λ (name : Name). c.in_ok-nets.ensures name ∙ ap (λ b. not b && list_any (λ u. bytes_eq name u.name && is_whole u.select) (target_uses c.args.m.now)) (c.in_ok-declared.ensures name) in
    c.in_ok-names.ensures ∙ implicit_are c.args.m.now c.in_ok-nets.nets c.if-not-m.false are (uses_of c.deref.result.now) (ap uses_of c.deref.ensures.value ∙ c.in_ok-uses.ensures)
