-- leaves, by their classes
use Rattle.std.proofs.Common.{◌≡◌, ℕ, ◌<◌, ◌≤◌, ◌==◌, ◌↔◌, inl, inr, Bool, true, List, [], ◌∷◌, Option, Some, length, filter, slice_get, refl, sym, ◌∙◌, ap, subst, arith, Contains, get_or}
use Rattle.std.specs.Prelude.{count_by}
use Rattle.std.specs.List.Sorted.{IsStrictlySortedBy}
use Rattle.std.proofs.lemmas.Bool.{eqb-true, cases_lt}
use Rattle.std.proofs.lemmas.List.Kept.{IsStrictlySortedBy-filter}
use Rattle.std.proofs.lemmas.List.Sums.{length-filter}
use Rattle.std.proofs.lemmas.Option.{get_or_from_slice_get, slice_get-get_or, slice_get_within}
use Rattle.net_hier.specs.Cells.{IsConstantCell, IsLeaf, IsPortBitOrConstant}
use Rattle.net_hier.specs.Constants.{ConstantNames, name_of_constant}
use Rattle.net_hier.specs.Nodes.{node_cmp}
use Rattle.net_hier.specs.Valid.{IsGoodCell, IsNode}
use Rattle.net_hier.specs.declared.cells.HCell.{HCell}
use Rattle.net_hier.specs.declared.cells.HPort.{HPort}
use Rattle.net_hier.specs.declared.constants.ConstName.{ConstName}
use Rattle.net_hier.specs.declared.nodes.Join.{Join}
use Rattle.net_hier.specs.declared.nodes.Node.{Node}
use Rattle.net_hier.specs.declared.nodes.Node.TheVariants.{Port, Pin, Net, Zero, One}
use Rattle.net_bits.specs.Classes.{AreClasses, ClassTable, class_of, is_number, members_of}
use Rattle.net_bits.specs.Leaves.{AreApart, HasForm, IsScalarOutput, is_outer}
use Rattle.net_bits.specs.Neighbours.{ends}
use Rattle.net_bits.proofs.Items.{Contains-cons_cases, Contains-filter, Contains-from_filter, Contains-from_flat_map, Contains-place, no_member, place_of}
use Rattle.net_bits.proofs.CallerLaws.{connected_classes, member_of_class}
use Rattle.net_bits.proofs.Nodes.{once}

-- a node that may not be connected to another such node passes the test
outer_passes : (cell : HCell) (x : Node) → IsPortBitOrConstant cell x → is_outer x ≡ true
outer_passes cell (Port port bit) h = refl
outer_passes cell (Pin instance port bit) h = absurd h
outer_passes cell (Net net) h = absurd h
outer_passes cell Zero h = refl
outer_passes cell One h = refl

outer_is : (cells : List HCell) (cell : HCell) (x : Node) → IsNode cells cell x → is_outer x ≡ true → IsPortBitOrConstant cell x
outer_is cells cell (Port port bit) n h = n
outer_is cells cell (Pin instance port bit) n h = absurd (cc)
outer_is cells cell (Net net) n h = absurd (cc)
outer_is cells cell Zero n h = tt
outer_is cells cell One n h = tt

-- a joined node of a good cell is one of the cell's nodes
joined_node : (cells : List HCell) (cell : HCell) → IsGoodCell cells cell → (x : Node) → Contains (ends cell.joins) x → IsNode cells cell x
joined_node cells cell good x m =
    let r = Contains-from_flat_map (λ (join : Join). join.a ∷ (join.b ∷ [])) cell.joins x m in
    let at = place_of cell.joins r.0 r.1 in
    let both = good.joins_in_range at.0 r.0 at.1 in
    elim (Contains-cons_cases r.0.a (r.0.b ∷ []) x r.2) as (λ _. IsNode cells cell x) [
      | inl e ↦ subst (IsNode cells cell) e both.0
      | inr n ↦ elim (Contains-cons_cases r.0.b [] x n) as (λ _. IsNode cells cell x) [
        | inl e ↦ subst (IsNode cells cell) e both.1
        | inr o ↦ absurd (no_member x o)
      ]
    ]

-- of at most one that passes there are no two
one_that_passes : (p : Node → Bool) (nodes : List Node) → count_by p nodes ≤ 1 → (x y : Node) → Contains nodes x → Contains nodes y → p x ≡ true → p y ≡ true → x ≡ y
one_that_passes p nodes few x y mx my hx hy =
    let i = place_of (filter p nodes) x (Contains-filter p nodes x mx hx) in
    let j = place_of (filter p nodes) y (Contains-filter p nodes y my hy) in
    let li = slice_get_within (filter p nodes) i.0 x i.1 in
    let lj = slice_get_within (filter p nodes) j.0 y j.1 in
    let len = length-filter p nodes in
    let at : i.0 ≡ j.0 = omega (arith, li, lj, len, few) in
    same (slice_get (filter p nodes) j.0) x y (subst (λ k. slice_get (filter p nodes) k ≡ Some x) at i.1) j.1
  where
    same : (o : Option Node) (x y : Node) → o ≡ Some x → o ≡ Some y → x ≡ y
    same o x y a b = cc

pub leaf_from_apart : (cell : HCell) (classes : ClassTable) → AreClasses cell classes → cell.instances ≡ [] → AreApart classes → IsLeaf cell
leaf_from_apart cell classes are none apart = record {
  no_instances = none;
  apart = λ x y hx hy c. elim ((connected_classes cell classes are x y).0 c) as (λ _. x ≡ y) [
    | inl e ↦ e
    | inr k ↦ one_that_passes is_outer (members_of classes k.0) (apart k.0 (are.below x k.0 k.1)) x y
        ((member_of_class cell classes are x k.0).0 k.1) ((member_of_class cell classes are y k.0).0 k.2) (outer_passes cell x hx) (outer_passes cell y hy)
  ];
}

-- where all that pass are one node, at most one passes
pub apart_from_leaf : (cells : List HCell) (cell : HCell) (classes : ClassTable) → IsGoodCell cells cell → AreClasses cell classes → IsLeaf cell → AreApart classes
apart_from_leaf cells cell classes good are leaf class l =
    let p : Node → Bool = λ node. is_number class (class_of classes node) in
    let members = members_of classes class in
    let outer = filter is_outer members in
    let sorted : IsStrictlySortedBy node_cmp outer = IsStrictlySortedBy-filter node_cmp is_outer members (IsStrictlySortedBy-filter node_cmp p classes.nodes are.nodes.in_order) in
    let len = length-filter is_outer members in
    elim (cases_lt 1 (length outer)) as (λ _. count_by is_outer members ≤ 1) [
      | inl two ↦
          let x = get_or outer 0 Zero in
          let y = get_or outer 1 Zero in
          let hx : slice_get outer 0 ≡ Some x = slice_get-get_or outer 0 Zero (omega arith) in
          let hy : slice_get outer 1 ≡ Some y = slice_get-get_or outer 1 Zero two in
          let mx = Contains-from_filter is_outer members x (Contains-place outer 0 x hx) in
          let my = Contains-from_filter is_outer members y (Contains-place outer 1 y hy) in
          let cx = (member_of_class cell classes are x class).1 mx.0 in
          let cy = (member_of_class cell classes are y class).1 my.0 in
          let nx = outer_is cells cell x (joined_node cells cell good x ((are.joined x).1 (class, cx))) mx.1 in
          let ny = outer_is cells cell y (joined_node cells cell good y ((are.joined y).1 (class, cy))) my.1 in
          let same : x ≡ y = leaf.apart x y nx ny ((are.same x y class class cx cy).0 refl) in
          let place = once outer sorted 0 1 y (hx ∙ ap Some same) hy in
          absurd (omega (arith, place))
      | inr few ↦ omega (arith, few, len)
    ]

-- the only item of a list of one
pub one_item : {X : Type 0} (xs : List X) (d : X) → 1 ≤ length xs → length xs < 2 → xs ≡ get_or xs 0 d ∷ []
one_item [] d h l = absurd (omega arith)
one_item (x ∷ []) d h l = refl
one_item (x ∷ (y ∷ ys)) d h l = absurd (omega arith)

pub no_items : {X : Type 0} (xs : List X) → (length xs == 0) ≡ true → xs ≡ []
no_items [] h = refl
no_items (x ∷ xs) h = absurd (let e = eqb-true (length (x ∷ xs)) 0 h in omega arith)

-- the cell of a number is the element at it
pub cell_is : (cells : List HCell) (n : ℕ) (value found : HCell) → slice_get cells n ≡ Some value → found ≡ get_or cells n found → found ≡ value
cell_is cells n value found h e = e ∙ get_or_from_slice_get cells n value found h

-- a cell with this name and this port alone
pub form_of : (cell : HCell) (name : ConstName) (port : HPort) → cell.name ≡ name.cell → cell.ports ≡ port ∷ [] → IsScalarOutput name.port port ↔ HasForm name cell
form_of cell name port is_named only = (
  λ h. record { is_named = is_named; port = port; only_port = only; is_port = h },
  λ form. subst (IsScalarOutput name.port) (let e : form.port ∷ [] ≡ port ∷ [] = sym form.only_port ∙ only in let f : form.port ≡ port = cc in f) form.is_port,
)

-- a leaf of the constant's form is its cell
pub constant_form : (names : ConstantNames) (value : Bool) (cell : HCell) → IsLeaf cell → HasForm (name_of_constant names value) cell → IsConstantCell names value cell
constant_form names value cell leaf form = record {
  is_leaf = leaf;
  is_named = form.is_named;
  port = form.port;
  only_port = form.only_port;
  port_named = form.is_port.is_named;
  is_scalar = form.is_port.is_scalar;
  is_output = form.is_port.is_output;
}

pub form_of_constant : (names : ConstantNames) (value : Bool) (cell : HCell) → IsConstantCell names value cell → HasForm (name_of_constant names value) cell
form_of_constant names value cell is = record {
  is_named = is.is_named;
  port = is.port;
  only_port = is.only_port;
  is_port = record { is_named = is.port_named; is_scalar = is.is_scalar; is_output = is.is_output };
}
