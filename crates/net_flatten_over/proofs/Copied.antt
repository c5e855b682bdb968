-- a design that is the same, cell by cell, as a flattened one
use Rattle.std.proofs.Common.{◌≡◌, ℕ, ◌<◌, ◌⊎◌, inl, inr, List, [], ◌∷◌, refl, sym, ◌∙◌, ap, subst, subst₂, slice_get, Some, Option, length, Bool, arith}
use Rattle.std.proofs.lemmas.Option.{slice_get_within}
use Rattle.net_hier.specs.Cells.{IsConstantCell, IsConstantInstance, IsLeaf}
use Rattle.net_hier.specs.Constants.{AreConstantNames, ConstantNames}
use Rattle.net_hier.specs.Design.{Design, IsCell}
use Rattle.net_hier.specs.SameCells.{SameCell, SameCells}
use Rattle.net_hier.specs.SameDesign.{SamePorts}
use Rattle.net_hier.specs.Valid.{HasPaths, HaveOwnInstances, HaveOwnNames, IsValid}
use Rattle.net_hier.specs.declared.cells.HCell.{HCell}
use Rattle.net_hier.specs.declared.cells.HInst.{HInst}
use Rattle.net_hier.specs.declared.cells.HPort.{HPort}
use Rattle.net_hier.specs.declared.nodes.Node.{Node}
use Rattle.net_hier.specs.declared.nodes.Node.TheVariants.{Port, Pin, Net, Zero, One}
use Rattle.net_hier.proofs.Pairs.{BelowPair, below_pair, signature_there, leaf_forth, lt_or_le}
use Rattle.net_hier.proofs.Partners.{partner_has_paths, valid_has_paths}
use Rattle.net_hier.proofs.PathLaws.{element_there, same_element}
use Rattle.net_hier.proofs.Theorem.{same_design}
use Rattle.net_flatten_rules.specs.SameFlat.{IsTop, SameFlat, TopInstance}
use Rattle.net_flatten_over.specs.Over.{HasLeavesAlone, HasOwnNames}
use Rattle.net_flatten_over.proofs.Going.{goes_over}

-- numbers, and so nodes, of which it is absurd that they differ are the same
same_or_other : (a b : ℕ) → (a ≡ b) ⊎ (a ≡ b → ⊥)
same_or_other a b = elim (order a b) [ inl lt ↦ inr (λ e. omega (arith, lt, e)) | inr (inl e) ↦ inl e | inr (inr lt) ↦ inr (λ e. omega (arith, lt, e)) ]
  where
    order : (m n : ℕ) → (m < n) ⊎ ((m ≡ n) ⊎ (n < m))
    order m n = grind arith

number_stays : (a b : ℕ) → ((a ≡ b → ⊥) → ⊥) → a ≡ b
number_stays a b h = elim (same_or_other a b) [ inl e ↦ e | inr f ↦ absurd (h f) ]

node_stays : (x y : Node) → ((x ≡ y → ⊥) → ⊥) → x ≡ y
node_stays (Port a b) (Port c d) h =
    let p : a ≡ c = number_stays a c (λ f. h (λ e. f (cc))) in
    let q : b ≡ d = number_stays b d (λ f. h (λ e. f (cc))) in
    subst₂ (λ m n. Port a b ≡ Port m n) p q refl
node_stays (Pin i a b) (Pin j c d) h =
    let o : i ≡ j = number_stays i j (λ f. h (λ e. f (cc))) in
    let p : a ≡ c = number_stays a c (λ f. h (λ e. f (cc))) in
    let q : b ≡ d = number_stays b d (λ f. h (λ e. f (cc))) in
    subst₂ (λ m n. Pin i a b ≡ Pin j m n) p q (ap (λ m. Pin m a b) o)
node_stays (Net a) (Net b) h = let p : a ≡ b = number_stays a b (λ f. h (λ e. f (cc))) in ap Net p
node_stays Zero Zero h = refl
node_stays One One h = refl
node_stays x y h = absurd (h (λ e. cc))

-- a cell of which it is absurd that it is no leaf is one
pub leaf_stays : (cell : HCell) → ((IsLeaf cell → ⊥) → ⊥) → IsLeaf cell
leaf_stays cell h = record {
  no_instances = none cell.instances (λ f. h (λ leaf. f leaf.no_instances));
  apart = λ x y hx hy link. node_stays x y (λ f. h (λ leaf. f (leaf.apart x y hx hy link)));
}
  where
    none : (xs : List HInst) → ((xs ≡ [] → ⊥) → ⊥) → xs ≡ []
    none [] f = refl
    none (x ∷ xs) f = absurd (f (λ e. cc))

-- the flattened top has no instances but leaves: what is no constant cell is one by definition, and a constant cell is a leaf
pub flat_alone : (names : ConstantNames) (design flat : Design) → SameFlat names design flat → HasLeavesAlone flat
flat_alone names design flat same place instance cell t = leaf_stays cell (λ f. f (same.no_more place instance cell t (λ c. f c.1.is_leaf)).0)

-- ports have names of their own where those of another cell with the same ports have
own_ports : (cell other : HCell) → SamePorts cell other → HaveOwnNames (λ port. port.name) cell.ports → HaveOwnNames (λ port. port.name) other.ports
own_ports cell other same own place oplace item oitem there othere e =
    let (x, xthere, signature) = signature_there other cell (sym same) place item there in
    let (y, ythere, osignature) = signature_there other cell (sym same) oplace oitem othere in
    own place oplace x y xthere ythere (ap (λ f. f.name) signature ∙ (e ∙ sym (ap (λ f. f.name) osignature)))

-- of the ports of a constant cell there is one
one_port : (names : ConstantNames) (value : Bool) (cell : HCell) → IsConstantCell names value cell → HaveOwnNames (λ port. port.name) cell.ports
one_port names value cell c place oplace item oitem there othere e = first place oplace (within place item there) (within oplace oitem othere)
  where
    within : (i : ℕ) (x : HPort) → slice_get cell.ports i ≡ Some x → i < 1
    within i x at = slice_get_within (c.port ∷ []) i x (subst (λ ps. slice_get ps i ≡ Some x) c.only_port at)

    first : (i j : ℕ) → i < 1 → j < 1 → i ≡ j
    first i j a b = omega (arith, a, b)

module _ (names : ConstantNames) (flat other : Design) (n : Option ℕ) (valid : IsValid flat) (own : HaveOwnInstances other.cells) (same : SameCells names flat other n) where
  paths : HasPaths flat
  paths = valid_has_paths flat valid

  opaths : HasPaths other
  opaths = partner_has_paths names flat other n valid same own

  -- the top and its partner
  record TopPair (otop : HCell) : Type 0 where
    top : HCell
    is_top : IsTop flat top
    same_top : SameCell names flat other n flat.top other.top top otop

  top_pair : (otop : HCell) → IsTop other otop → TopPair otop
  top_pair otop is =
      let (top, is_top) = element_there flat.cells flat.top valid.has_top in
      let (found, is_found, sc) = same.same_cells flat.top other.top top same.same_top is_top in
      let e : found ≡ otop = same_element other.cells other.top found otop is_found is in
      record { top = top; is_top = is_top; same_top = subst (SameCell names flat other n flat.top other.top top) e sc }

  -- an instance of the other top is the partner of one of the top, or one of a constant cell that was added
  data Instance (cell : HCell) : Type 0 where
    copied : {place number onumber : ℕ} {instance : HInst} {below : HCell} → TopInstance flat place instance below → IsCell flat.cells number below → SameCell names flat other n number onumber below cell → Instance cell
    added : {value : Bool} → IsConstantCell names value cell → Instance cell

  instance_is : (place : ℕ) (counterpart : HInst) (cell : HCell) → TopInstance other place counterpart cell → Instance cell
  instance_is place counterpart cell t =
      let p : TopPair t.top = top_pair t.top t.is_top in
      elim (lt_or_le place (length p.top.instances)) [
        | inl lt ↦
            let (x, there) = element_there p.top.instances place lt in
            let b : BelowPair names flat other n paths opaths same p.top t.top place x = below_pair names flat other n paths opaths same flat.top other.top p.top t.top p.is_top p.same_top place x there in
            let e : b.counterpart ≡ counterpart = same_element t.top.instances place b.counterpart counterpart b.counterpart_there t.is_there in
            let q : b.obelow ≡ cell = same_element other.cells counterpart.cell b.obelow cell (subst (λ i. IsCell other.cells i.cell b.obelow) e b.is_obelow) t.is_of in
            copied (record { top = p.top; is_top = p.is_top; is_there = there; is_of = b.is_below }) b.is_below (subst (SameCell names flat other n x.cell b.counterpart.cell b.below) q b.same_below)
        | inr le ↦
            let (v, is_added) = p.same_top.added_alone place le (slice_get_within t.top.instances place counterpart t.is_there) in
            let c : IsConstantInstance names other.cells t.top v place = (p.same_top.added_after v place is_added).1 in
            let e : c.the_instance ≡ counterpart = same_element t.top.instances place c.the_instance counterpart c.is_there t.is_there in
            let q : c.below ≡ cell = same_element other.cells counterpart.cell c.below cell (subst (λ i. IsCell other.cells i.cell c.below) e c.is_below) t.is_of in
            added (subst (IsConstantCell names v) q c.is_constant)
      ]

  pub copies_alone : HasLeavesAlone flat → HasLeavesAlone other
  copies_alone alone place counterpart cell t = by (instance_is place counterpart cell t)
    where
      by : Instance cell → IsLeaf cell
      by (copied {place = at} {number = number} {onumber = onumber} {instance = instance} {below = below} is is_cell sc) = leaf_forth names flat other n number onumber below cell sc (alone at instance below is)
      by (added c) = c.is_leaf

  copied_ports : (cell : HCell) → Instance cell → HaveOwnNames (λ port. port.name) cell.ports
  copied_ports cell (copied {number = number} {below = below} is is_cell sc) = own_ports below cell sc.same_ports (valid.good_cells number below is_cell).port_names
  copied_ports cell (added {value = value} c) = one_port names value cell c

  pub copies_own_names : HasOwnNames other
  copies_own_names = record {
    has_paths = opaths;
    top_ports = λ otop is. let p : TopPair otop = top_pair otop is in own_ports p.top otop p.same_top.same_ports (valid.good_cells flat.top p.top p.is_top).port_names;
    instance_ports = λ place counterpart cell t. copied_ports cell (instance_is place counterpart cell t);
  }

pub valid_own_names : (design : Design) → IsValid design → HasOwnNames design
valid_own_names design valid = record {
  has_paths = valid_has_paths design valid;
  top_ports = λ top is. (valid.good_cells design.top top is).port_names;
  instance_ports = λ place instance cell t. (valid.good_cells instance.cell cell t.is_of).port_names;
}

pub goes_over_copied : (names : ConstantNames) (design flat other : Design) (n : Option ℕ) → AreConstantNames names → IsValid flat → HaveOwnInstances other.cells → SameFlat names design flat → SameCells names flat other n → SameFlat names design other
goes_over_copied names design flat other n differ valid own same cells =
    goes_over names design flat other (valid_own_names flat valid) (copies_own_names names flat other n valid own cells) same
    (same_design names flat other n (valid_has_paths flat valid) (partner_has_paths names flat other n valid cells own) cells differ)
    (copies_alone names flat other n valid own cells (flat_alone names design flat same))
