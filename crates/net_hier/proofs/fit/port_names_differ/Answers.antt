use Rattle.std.proofs.Common.{◌≡◌, true, false, [], ◌∷◌, ◌++◌, Some, refl, sym, ◌∙◌, ap, arith}
use Rattle.net_hier.proofs.Fitting.{names_all, names_more, names_not}
use Rattle.net_hier.proofs.fit.port_names_differ.Goals as goal

pub returns-then-not-branch : goal.returns-then-not-branch
returns-then-not-branch c = (
  (λ h. let e : false ≡ true = h in absurd (cc)),
  (λ own. absurd (names_not (λ port. port.name) c.args.ports.now c.loop-port.port-index c.port-item.result c.loop-port.names c.loop-port.invariant c.loop-port-test.true c.port-item.is
      (λ none.
      let yes : c.in_ok-add.field-0 ≡ true = c.in_ok-add.ensures.new.1 (λ place e. none place (e ∙ ap Some c.bytes.ensures)) in
      let no : c.in_ok-add.field-0 ≡ false = c.if-not-branch.true in
      cc)
      own)),
)

pub loop-port-preserved : goal.loop-port-preserved
loop-port-preserved c =
    let yes : c.in_ok-add.field-0 ≡ true = c.if-not-branch.false in
    names_more (λ port. port.name) c.args.ports.now c.loop-port.port-index c.port-item.result c.loop-port.names c.add.new.self c.loop-port.invariant c.loop-port-test.true c.port-item.is
    (λ place e. c.in_ok-add.ensures.new.0 yes place (e ∙ ap Some (sym c.bytes.ensures)))
    (c.in_ok-add.ensures.added yes ∙ ap (λ name. c.loop-port.names ++ name ∷ []) c.bytes.ensures)

pub returns : goal.returns
returns c = ((λ h. names_all (λ port. port.name) c.args.ports.now c.loop-port.port-index c.loop-port.names c.loop-port.invariant (omega (arith, c.loop-port-test.false))), (λ own. refl))
