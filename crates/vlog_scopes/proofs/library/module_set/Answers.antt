use Rattle.std.proofs.Common.{◌∷◌, [], ◌∙◌, ◌++◌, ap, if◌then◌else◌, not}
use Rattle.vlog_design.specs.Names.{has_name}
use Rattle.vlog_scopes.proofs.ModuleLaws.{module_more}
use Rattle.vlog_scopes.proofs.library.module_set.Goals as goal

pub loop-m-preserved : goal.loop-m-preserved
loop-m-preserved c =
    let set = c.loop-m.set in
    let new = c.in_ok-add.field-0 in
    module_more c.args.modules.now set _ c.loop-m.m-index c.m-item.result new c.loop-m-test.true c.m-item.is c.requires c.loop-m.invariant
    (c.in_ok-add.ensures.new ∙ ap (λ name. not (has_name set name)) c.bytes.ensures)
    (c.in_ok-add.ensures.added ∙ ap (λ name. set ++ (if new then name ∷ [] else [])) c.bytes.ensures)
