use Rattle.std.proofs.Common.{rules, arith, ◌≡◌, ◌∷◌, [], sym, ap, ◌∙◌, subst}
use Rattle.net_hier.specs.declared.cells.HPort.{HPort}
use Rattle.net_bits.specs.Leaves.{IsScalarOutput}
use Rattle.net_bits.proofs.LeafLaws.{form_of, one_item}
use Rattle.net_bits.proofs.leaf.has_form.Goals as goal

pub returns-then-eq : goal.returns-then-eq
returns-then-eq c =
    let cell = c.args.cell.now in
    let name = c.args.name.now in
    let is_named : cell.name ≡ name.cell = search rules in
    let only : cell.ports ≡ c.port-item.result ∷ [] = sym c.items.ensures ∙ (one_item c.items.result.now c.port-item.result (omega arith) (omega arith) ∙ ap (λ (p : HPort). p ∷ []) (sym c.port-item.is)) in
    let form = form_of cell name c.port-item.result is_named only in
    let test = c.is_scalar_output.ensures in
    let port = c.port-item.result in (
      λ t. form.0 (subst (λ n. IsScalarOutput n port) c.bytes-then-eq.ensures (test.0 t)),
      λ f. test.1 (subst (λ n. IsScalarOutput n port) (sym c.bytes-then-eq.ensures) (form.1 f)),
    )
