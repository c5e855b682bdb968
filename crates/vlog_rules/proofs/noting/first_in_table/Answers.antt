use Rattle.std.proofs.Common.{◌∙◌, false, get_or, sym, take, true}
use Rattle.vlog_design.specs.Rules.{clash}
use Rattle.vlog_rules.specs.Kinds.{kept_kinds}
use Rattle.vlog_rules.specs.Seen.{declaration_of, declarations_of}
use Rattle.vlog_rules.proofs.Clashes.{clash_here, clash_none, front_there}
use Rattle.vlog_rules.proofs.KindLaws.{clash_met, met_more}
use Rattle.vlog_rules.proofs.noting.first_in_table.Goals as goal

pub returns-then-clashes : goal.returns-then-clashes
returns-then-clashes c =
    let keys = c.args.declarations.now in
    let i = c.loop-declaration.declaration-index in
    sym (sym c.loop-declaration.invariant.left
    ∙ clash_here declaration_of clash (declarations_of (take i keys)) keys i _ c.loop-declaration-test.true
    (clash_met (kept_kinds c.loop-declaration.met) (declarations_of (take i keys)) (declaration_of (get_or keys i _)) c.loop-declaration.invariant.met c.in_ok-clashes.clashes true c.in_ok-clashes.ensures.clashes c.if-clashes.true))

pub loop-declaration-preserved : goal.loop-declaration-preserved
loop-declaration-preserved c =
    let keys = c.args.declarations.now in
    let i = c.loop-declaration.declaration-index in
    record {
      met = met_more (kept_kinds c.loop-declaration.met) (kept_kinds _) keys i _ c.loop-declaration-test.true c.loop-declaration.invariant.met c.in_ok-clashes.ensures.noted;
      left = front_there declaration_of clash keys i _ c.loop-declaration-test.true
          (clash_met (kept_kinds c.loop-declaration.met) (declarations_of (take i keys)) (declaration_of (get_or keys i _)) c.loop-declaration.invariant.met c.in_ok-clashes.clashes false c.in_ok-clashes.ensures.clashes c.if-clashes.false)
          ∙ c.loop-declaration.invariant.left;
    }

pub returns : goal.returns
returns c = sym (sym c.loop-declaration.invariant.left ∙ clash_none declaration_of clash (declarations_of (take c.loop-declaration.declaration-index c.args.declarations.now)) c.args.declarations.now c.loop-declaration.declaration-index c.loop-declaration-test.false)
