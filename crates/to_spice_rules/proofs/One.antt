-- One refusal comes of a design, and none where it keeps the rules.
use Rattle.std.proofs.Common.{◌≡◌, ◌<◌, inl, inr, List, [], ◌∷◌, None, Some, sym, ◌∙◌, ap, subst, arith}
use Rattle.std.specs.declared.cmp.Ordering.TheVariants.{Less}
use Rattle.std.proofs.lemmas.Bool.{cases_eq, cases_lt}
use Rattle.net_graph.proofs.ListLaws.{same_element}
use Rattle.net_hier.specs.Design.{IsCell}
use Rattle.net_hier.specs.Nodes.{node_cmp}
use Rattle.net_hier.specs.declared.cells.HCell.{HCell}
use Rattle.net_hier.specs.declared.nodes.Node.{Node}
use Rattle.net_hier.specs.declared.nodes.Node.TheVariants.{Port, Pin, Net, Zero, One}
use Rattle.to_spice_rules.specs.Answers.{IsFirstOfConnections, IsFirstRefusal, KeepsConnections, KeepsRules, of_connections, of_constants, of_names, of_ports}
use Rattle.to_spice_rules.specs.Connections.{AreFirstJoined, AreJoined, HasPortsApart, IsFirstOfConstants, IsFirstOfPorts, IsPortRefusal}
use Rattle.to_spice_rules.specs.Names.{refused}
use Rattle.to_spice_rules.specs.PortWords.{IsOwnBit, word_of}
use Rattle.to_spice_rules.specs.declared.refusal.SpiceRefusal.{SpiceRefusal}
use Rattle.to_spice_rules.specs.declared.refusal.SpiceRule.TheVariants.{S5, S6}
use Rattle.to_spice_rules.proofs.PortOrder.{earlier_bit, earlier_port}

-- two port bits of which none is before the other are one
one_bit : (cell : HCell) (x y : Node) → IsOwnBit cell x → IsOwnBit cell y → ¬ (node_cmp x y ≡ Less) → ¬ (node_cmp y x ≡ Less) → x ≡ y
one_bit cell (Port p b) (Port q c) hx hy not_less not_more = elim (cases_lt p q) as (λ _. Port p b ≡ Port q c) [
  | inl lt ↦ absurd (not_less (earlier_port p b q c lt))
  | inr ge ↦ elim (cases_eq p q) as (λ _. Port p b ≡ Port q c) [
    | inr ne ↦ absurd (let more : q < p = grind (arith, ge, ne) in not_more (earlier_port q c p b more))
    | inl e ↦ elim (cases_lt b c) as (λ _. Port p b ≡ Port q c) [
      | inl lt ↦ absurd (not_less (earlier_bit p b q c e lt))
      | inr le ↦ elim (cases_eq b c) as (λ _. Port p b ≡ Port q c) [
        | inl f ↦ λ i. Port (e i) (f i)
        | inr ne ↦ absurd (let more : c < b = grind (arith, le, ne) in not_more (earlier_bit q c p b (sym e) more))
      ]
    ]
  ]
]
one_bit cell (Pin i p b) y hx hy not_less not_more = absurd hx
one_bit cell (Net n) y hx hy not_less not_more = absurd hx
one_bit cell Zero y hx hy not_less not_more = absurd hx
one_bit cell One y hx hy not_less not_more = absurd hx
one_bit cell x (Pin i p b) hx hy not_less not_more = absurd hy
one_bit cell x (Net n) hx hy not_less not_more = absurd hy
one_bit cell x Zero hx hy not_less not_more = absurd hy
one_bit cell x One hx hy not_less not_more = absurd hy

one_pair : (cell : HCell) (x y z w : Node) → AreFirstJoined cell x y → AreFirstJoined cell z w → (x ≡ z) × (y ≡ w)
one_pair cell x y z w f g =
    let later : y ≡ w = one_bit cell y w f.joined.is_later g.joined.is_later (g.no_earlier x y f.joined) (f.no_earlier z w g.joined) in
    let other : AreJoined cell z y = subst (AreJoined cell z) (sym later) g.joined in
    let own : AreJoined cell x w = subst (AreJoined cell x) later f.joined in
    (one_bit cell x z f.joined.is_first g.joined.is_first (g.no_other x own) (f.no_other z other), later)

one_port_refusal : (cell : HCell) (r s : SpiceRefusal) → IsPortRefusal cell r → IsPortRefusal cell s → r ≡ s
one_port_refusal cell r s f g =
    let p = one_pair cell f.first f.later g.first g.later f.are_first g.are_first in
    f.is_refusal ∙ (ap (λ x. refused S5 cell.name (word_of cell x ∷ word_of cell f.later ∷ [])) p.0 ∙ (ap (λ x. refused S5 cell.name (word_of cell g.first ∷ word_of cell x ∷ [])) p.1 ∙ sym g.is_refusal))

module _ (cells : List HCell) where
  broken_ports : (r : SpiceRefusal) (f : IsFirstOfPorts cells r) → ¬ HasPortsApart f.cell
  broken_ports r f apart = apart f.here.first f.here.later f.here.are_first.joined

  one_by_ports : (r s : SpiceRefusal) → IsFirstOfPorts cells r → IsFirstOfPorts cells s → r ≡ s
  one_by_ports r s f g = elim (cases_lt f.number g.number) as (λ _. r ≡ s) [
    | inl lt ↦ absurd (broken_ports r f (g.before f.number f.cell lt f.is_cell))
    | inr ge ↦ elim (cases_eq f.number g.number) as (λ _. r ≡ s) [
      | inr ne ↦ absurd (let more : g.number < f.number = grind (arith, ge, ne) in broken_ports s g (f.before g.number g.cell more g.is_cell))
      | inl e ↦
          let there : IsCell cells f.number g.cell = subst (λ n. IsCell cells n g.cell) (sym e) g.is_cell in
          let same : g.cell ≡ f.cell = same_element cells f.number g.cell f.cell there f.is_cell in
          one_port_refusal f.cell r s f.here (subst (λ c. IsPortRefusal c s) same g.here)
    ]
  ]

  one_by_constants : (r s : SpiceRefusal) → IsFirstOfConstants cells r → IsFirstOfConstants cells s → r ≡ s
  one_by_constants r s f g = elim (cases_lt f.number g.number) as (λ _. r ≡ s) [
    | inl lt ↦ absurd (g.before f.number f.cell lt f.is_cell f.value f.needs)
    | inr ge ↦ elim (cases_eq f.number g.number) as (λ _. r ≡ s) [
      | inr ne ↦ absurd (let more : g.number < f.number = grind (arith, ge, ne) in f.before g.number g.cell more g.is_cell g.value g.needs)
      | inl e ↦
          let there : IsCell cells f.number g.cell = subst (λ n. IsCell cells n g.cell) (sym e) g.is_cell in
          let same : f.cell ≡ g.cell = same_element cells f.number f.cell g.cell f.is_cell there in
          f.is_refusal ∙ (ap (λ (c : HCell). refused S6 c.name []) same ∙ sym g.is_refusal)
    ]
  ]

  one_by_connections : (r s : SpiceRefusal) → IsFirstOfConnections cells r → IsFirstOfConnections cells s → r ≡ s
  one_by_connections r s (of_ports f) (of_ports g) = one_by_ports r s f g
  one_by_connections r s (of_ports f) (of_constants apart g) = absurd (broken_ports r f (apart f.number f.cell f.is_cell))
  one_by_connections r s (of_constants apart f) (of_ports g) = absurd (broken_ports s g (apart g.number g.cell g.is_cell))
  one_by_connections r s (of_constants apart f) (of_constants oapart g) = one_by_constants r s f g

  -- at most one refusal comes of a design
  pub one_refusal : (r s : SpiceRefusal) → IsFirstRefusal cells r → IsFirstRefusal cells s → r ≡ s
  one_refusal r s (of_names e) (of_names f) = let g : Some r ≡ Some s = sym e ∙ f in cc
  one_refusal r s (of_names e) (of_connections f c) = absurd (let g : Some r ≡ None = sym e ∙ f in cc)
  one_refusal r s (of_connections e c) (of_names f) = absurd (let g : None ≡ Some s = sym e ∙ f in cc)
  one_refusal r s (of_connections e c) (of_connections f d) = one_by_connections r s c d

  broken_connections : (r : SpiceRefusal) → IsFirstOfConnections cells r → ¬ KeepsConnections cells
  broken_connections r (of_ports f) keeps = broken_ports r f (keeps.ports f.number f.cell f.is_cell)
  broken_connections r (of_constants apart f) keeps = keeps.constants f.number f.cell f.is_cell f.value f.needs

  -- and none where it keeps the rules
  pub broken : (r : SpiceRefusal) → IsFirstRefusal cells r → ¬ KeepsRules cells
  broken r (of_names e) keeps = let g : Some r ≡ None = sym e ∙ keeps.names in cc
  broken r (of_connections e c) keeps = broken_connections r c keeps.connections
