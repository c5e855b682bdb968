use Rattle.std.proofs.Common.{◌≡◌, true, false, [], ◌∷◌, ◌++◌, Some, refl, sym, ◌∙◌, ap, arith}
use Rattle.net_hier.proofs.Fitting.{names_all, names_more, names_not}
use Rattle.net_hier.proofs.fit.instance_names_differ.Goals as goal

pub returns-then-not-branch : goal.returns-then-not-branch
returns-then-not-branch c = (
  (λ h. let e : false ≡ true = h in absurd (cc)),
  (λ own. absurd (names_not (λ instance. instance.name) c.args.instances.now c.loop-instance.instance-index c.instance-item.result c.loop-instance.names c.loop-instance.invariant c.loop-instance-test.true c.instance-item.is
      (λ none.
      let yes : c.in_ok-add.field-0 ≡ true = c.in_ok-add.ensures.new.1 (λ place e. none place (e ∙ ap Some c.bytes.ensures)) in
      let no : c.in_ok-add.field-0 ≡ false = c.if-not-branch.true in
      cc)
      own)),
)

pub loop-instance-preserved : goal.loop-instance-preserved
loop-instance-preserved c =
    let yes : c.in_ok-add.field-0 ≡ true = c.if-not-branch.false in
    names_more (λ instance. instance.name) c.args.instances.now c.loop-instance.instance-index c.instance-item.result c.loop-instance.names c.add.new.self c.loop-instance.invariant c.loop-instance-test.true c.instance-item.is
    (λ place e. c.in_ok-add.ensures.new.0 yes place (e ∙ ap Some (sym c.bytes.ensures)))
    (c.in_ok-add.ensures.added yes ∙ ap (λ name. c.loop-instance.names ++ name ∷ []) c.bytes.ensures)

pub returns : goal.returns
returns c = ((λ h. names_all (λ instance. instance.name) c.args.instances.now c.loop-instance.instance-index c.loop-instance.names c.loop-instance.invariant (omega (arith, c.loop-instance-test.false))), (λ own. refl))
