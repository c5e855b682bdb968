-- whether two nodes are connected, from the class of the first
use Rattle.std.proofs.Common.{◌≡◌, ℕ, ◌&&◌, ◌↔◌, inl, inr, Bool, true, false, Option, Some, None, IsTrue, eqb, nat_eq, refl, sym, ◌∙◌, ap, subst}
use Rattle.std.specs.Option.{option_eq}
use Rattle.std.proofs.lemmas.Bool.{eqb-true, eq-eqb}
use Rattle.net_hier.specs.Cells.{IsLocallyConnected}
use Rattle.net_hier.specs.contracts.nodes.NodeEq.TheImpl.Laws.{laws-law}
use Rattle.net_hier.specs.contracts.nodes.NodePartialEq.TheImpl.{eq-value}
use Rattle.net_hier.specs.declared.cells.HCell.{HCell}
use Rattle.net_hier.specs.declared.nodes.Node.{Node}
use Rattle.net_hier.specs.declared.nodes.Node.TheVariants.{Port, Pin, Net, Zero, One}
use Rattle.net_bits.specs.Classes.{AreClasses, ClassTable, class_of}
use Rattle.net_bits.proofs.CallerLaws.{connected_classes}

both : (p q : Bool) → (p && q) ≡ true → (p ≡ true) × (q ≡ true)
both true true h = (refl, refl)
both true false h = cc
both false q h = cc

same_nodes : (x y : Node) → eq-value.it x y ≡ true → x ≡ y
same_nodes (Port a b) (Port c d) h =
    let r = both (eqb a c) (eqb b d) h in
    λ i. Port (eqb-true a c r.0 i) (eqb-true b d r.1 i)
same_nodes (Pin i a b) (Pin j c d) h =
    let r = both (eqb i j) (eqb a c && eqb b d) h in
    let s = both (eqb a c) (eqb b d) r.1 in
    λ k. Pin (eqb-true i j r.0 k) (eqb-true a c s.0 k) (eqb-true b d s.1 k)
same_nodes (Net a) (Net b) h = ap Net (eqb-true a b h)
same_nodes Zero Zero h = refl
same_nodes One One h = refl
same_nodes x y h = cc

is_class : (found : Option ℕ) (class : ℕ) → option_eq nat_eq found (Some class) ≡ true → found ≡ Some class
is_class None class h = cc
is_class (Some number) class h = ap Some (eqb-true number class h)

-- a node in a class is connected to the nodes of this class
pub connected_in_class : (cell : HCell) (classes : ClassTable) → AreClasses cell classes → (x y : Node) (class : ℕ) (same : Bool)
    → class_of classes x ≡ Some class → same ≡ option_eq nat_eq (class_of classes y) (Some class) → IsTrue same ↔ IsLocallyConnected cell x y
connected_in_class cell classes are x y class same of_x is = (
  λ h. (connected_classes cell classes are x y).1 (inr (class, of_x, is_class (class_of classes y) class (sym is ∙ h))),
  λ link. is ∙ (ap (λ found. option_eq nat_eq found (Some class)) (of_y link) ∙ eq-eqb class class refl),
)
  where
    of_y : IsLocallyConnected cell x y → class_of classes y ≡ Some class
    of_y link = elim ((connected_classes cell classes are x y).0 link) as (λ _. class_of classes y ≡ Some class) [
      | inl e ↦ sym (ap (class_of classes) e) ∙ of_x
      | inr k ↦ k.2 ∙ (sym k.1 ∙ of_x)
    ]

-- a node in no class is connected to itself alone
pub connected_in_none : (cell : HCell) (classes : ClassTable) → AreClasses cell classes → (x y : Node) (same : Bool)
    → class_of classes x ≡ None → same ≡ eq-value.it x y → IsTrue same ↔ IsLocallyConnected cell x y
connected_in_none cell classes are x y same of_x is = (
  λ h. (connected_classes cell classes are x y).1 (inl (same_nodes x y (sym is ∙ h))),
  λ link. is ∙ subst (λ z. eq-value.it x z ≡ true) (itself link) (laws-law.refl x),
)
  where
    itself : IsLocallyConnected cell x y → x ≡ y
    itself link = elim ((connected_classes cell classes are x y).0 link) as (λ _. x ≡ y) [
      | inl e ↦ e
      | inr k ↦ let two : None ≡ Some k.0 = sym of_x ∙ k.1 in cc
    ]
