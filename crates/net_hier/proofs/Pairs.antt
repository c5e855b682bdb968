use Rattle.std.proofs.Common.{◌≡◌, ℕ, ◌<◌, ◌≤◌, ◌⊎◌, inl, inr, List, [], ◌∷◌, refl, sym, ◌∙◌, ap, subst, slice_get, Some, None, Option, length, map, Bool, true, false, arith, rules, option_map, IsSome, subst₂}
use Rattle.std.proofs.lemmas.Option.{slice_get-map, slice_get_within}
use Rattle.net_hier.specs.Cells.{width_of, IsBitOrConstant, IsConstantCell, IsConstantInstance, IsLeaf, IsLocallyConnected, IsPinBit, IsPortBit, IsPortBitOrConstant, constant_node}
use Rattle.net_hier.specs.Constants.{ConstantNames, AreConstantNames}
use Rattle.net_hier.specs.Design.{Design, IsCell}
use Rattle.net_hier.specs.Paths.{Path, CellAt, HasInstance, LeadsTo}
use Rattle.net_hier.specs.SameCells.{AddedAsNeeded, NeedsConstant, stand_or, IsPartner, SameCell, SameCells, SameInstance, stand_in}
use Rattle.net_hier.specs.SameDesign.{SamePorts, signature_of}
use Rattle.net_hier.specs.Valid.{HasPaths}
use Rattle.net_hier.proofs.PathLaws.{element_there, cell_there, one_cell, one_number, same_element}
use Rattle.net_hier.specs.declared.cells.HCell.{HCell}
use Rattle.net_hier.specs.declared.cells.HInst.{HInst}
use Rattle.net_hier.specs.declared.cells.HPort.{HPort}
use Rattle.net_hier.specs.declared.nodes.Node.{Node}
use Rattle.net_hier.specs.declared.nodes.Node.TheVariants.{Port, Pin, Net, Zero, One}

-- the path leads in both designs, to a cell and its partner
pub record PairAt (names : ConstantNames) (design other : Design) (n : Option ℕ) (path : Path) (cell partner : HCell) : Type 0 where
  pub number : ℕ
  pub onumber : ℕ
  pub leads : LeadsTo design.cells design.top path number
  pub oleads : LeadsTo other.cells other.top path onumber
  pub is_cell : IsCell design.cells number cell
  pub is_ocell : IsCell other.cells onumber partner
  pub are_partners : IsPartner design n number onumber
  pub same : SameCell names design other n number onumber cell partner

pub pair_here : {names : ConstantNames} {design other : Design} {n : Option ℕ} {path : Path} {cell partner : HCell} → PairAt names design other n path cell partner → CellAt design path cell
pair_here pair = record { number = pair.number; leads = pair.leads; is_cell = pair.is_cell }

pub pair_there : {names : ConstantNames} {design other : Design} {n : Option ℕ} {path : Path} {cell partner : HCell} → PairAt names design other n path cell partner → CellAt other path partner
pair_there pair = record { number = pair.onumber; leads = pair.oleads; is_cell = pair.is_ocell }

-- the other design's path leads to the cell of an added instance
pub record IsBehind (names : ConstantNames) (design other : Design) (n : Option ℕ) (path : Path) : Type 0 where
  pub above : Path
  pub cell : HCell
  pub partner : HCell
  pub pair : PairAt names design other n above cell partner
  pub value : Bool
  pub place : ℕ
  pub is_added : pair.same.added value ≡ Some place
  pub instance : HInst
  pub is_there : slice_get partner.instances place ≡ Some instance
  pub path_is : path ≡ instance.name ∷ above

-- lists and options
pub lt_or_le : (a b : ℕ) → (a < b) ⊎ (b ≤ a)
lt_or_le a b = grind arith

empty_list : {A : Type 0} (xs : List A) → ((i : ℕ) → i < length xs → ⊥) → xs ≡ []
empty_list [] none = refl
empty_list (x ∷ xs) none = absurd (none 0 (omega arith))

pub no_element : {A : Type 0} (xs : List A) (i : ℕ) (x : A) → xs ≡ [] → ¬ (slice_get xs i ≡ Some x)
no_element {A = A} xs i x e h = let p : slice_get {X = A} [] i ≡ Some x = subst (λ l. slice_get l i ≡ Some x) e h in cc

mapped_some : {A B : Type 0} (f : A → B) (o : Option A) (y : B) → option_map f o ≡ Some y → (x : A) × (o ≡ Some x) × (f x ≡ y)
mapped_some f (Some x) y e = (x, refl, cc)
mapped_some f None y e = absurd (cc)

one_of_map : {A B : Type 0} (f : A → B) (xs : List A) (y : B) → map f xs ≡ y ∷ [] → (x : A) × (xs ≡ x ∷ []) × (f x ≡ y)
one_of_map f [] y e = absurd (cc)
one_of_map f (x ∷ []) y e = (x, refl, cc)
one_of_map f (x ∷ z ∷ xs) y e = absurd (cc)

pub none_not_some : {A : Type 0} (o : Option A) (x : A) → o ≡ None → ¬ (o ≡ Some x)
none_not_some o x e f = cc

some_or_none : {A : Type 0} (o : Option A) → ((x : A) → ¬ (o ≡ Some x)) → o ≡ None
some_or_none (Some x) none = absurd (none x refl)
some_or_none None none = refl

-- ports
pub signature_there : (cell other : HCell) → SamePorts cell other → (place : ℕ) (port : HPort) → slice_get cell.ports place ≡ Some port →
    (counterpart : HPort) × (slice_get other.ports place ≡ Some counterpart) × (signature_of counterpart ≡ signature_of port)
signature_there cell other same place port there =
    mapped_some signature_of (slice_get other.ports place) (signature_of port)
    (sym (slice_get-map signature_of other.ports place) ∙ (ap (λ fs. slice_get fs place) (sym same) ∙ (slice_get-map signature_of cell.ports place ∙ ap (option_map signature_of) there)))

pub port_bit_same : (cell other : HCell) → SamePorts cell other → (port bit : ℕ) → IsPortBit cell port bit → IsPortBit other port bit
port_bit_same cell other same port bit h =
    let (counterpart, there, signature) = signature_there cell other same port h.the_port h.is_there in
    record { the_port = counterpart; is_there = there; within = subst (λ f. bit < width_of f.range) (sym signature) h.within }

-- the only bit of a constant cell
pub constant_bit_there : (names : ConstantNames) (value : Bool) (cell : HCell) → IsConstantCell names value cell → IsPortBit cell 0 0
constant_bit_there names value cell c =
    record { the_port = c.port; is_there = subst (λ ps. slice_get ps 0 ≡ Some c.port) (sym c.only_port) refl; within = subst (λ r. 0 < width_of r) (sym c.is_scalar) (omega arith) }

pub constant_pin : (names : ConstantNames) (design : Design) (cell : HCell) (value : Bool) (instance : ℕ) → IsConstantInstance names design.cells cell value instance → IsPinBit design.cells cell instance 0 0
constant_pin names design cell value instance c =
    record { the_instance = c.the_instance; is_there = c.is_there; below = c.below; is_below = c.is_below; is_bit = constant_bit_there names value c.below c.is_constant }

pub constant_bit_only : (names : ConstantNames) (value : Bool) (cell : HCell) → IsConstantCell names value cell → (port bit : ℕ) → IsPortBit cell port bit → (port ≡ 0) × (bit ≡ 0)
constant_bit_only names value cell c port bit h =
    let there : slice_get (c.port ∷ []) port ≡ Some h.the_port = subst (λ ps. slice_get ps port ≡ Some h.the_port) c.only_port h.is_there in
    let lt : port < length (c.port ∷ []) = slice_get_within (c.port ∷ []) port h.the_port there in
    let e : port ≡ 0 = omega arith in
    let only : c.port ≡ h.the_port = same_element (c.port ∷ []) 0 c.port h.the_port refl (subst (λ m. slice_get (c.port ∷ []) m ≡ Some h.the_port) e there) in
    let within : bit < 1 = subst (λ r. bit < width_of r) (ap (λ p. p.range) (sym only) ∙ c.is_scalar) h.within in
    (e, omega arith)

-- a cell is of one constant only
pub one_kind : (names : ConstantNames) → AreConstantNames names → (a b : Bool) (cell : HCell) → IsConstantCell names a cell → IsConstantCell names b cell → a ≡ b
one_kind names differ false false cell c d = refl
one_kind names differ true true cell c d = refl
one_kind names differ false true cell c d = absurd (differ.differ (sym c.is_named ∙ d.is_named))
one_kind names differ true false cell c d = absurd (differ.differ (sym d.is_named ∙ c.is_named))

-- the cell of an instance is at the path that its name makes longer
pub at_below : (design : Design) (path : Path) (cell : HCell) → CellAt design path cell → (place : ℕ) (instance : HInst) (below : HCell) → slice_get cell.instances place ≡ Some instance → IsCell design.cells instance.cell below →
    CellAt design (instance.name ∷ path) below
at_below design path cell at place instance below there is_below =
    record { number = instance.cell; leads = (at.number, at.leads, record { cell = cell; is_cell = at.is_cell; number = place; instance = instance; is_there = there; is_named = refl; is_of = refl }); is_cell = is_below }

-- one partner's constant cell is the other's, of the same kind
module _ (names : ConstantNames) (design other : Design) (n : Option ℕ) where
  stands_itself : (added : Bool → Option ℕ) → ((v : Bool) → added v ≡ None) → (x : Node) → stand_in added x ≡ x
  stands_itself added none (Port port bit) = refl
  stands_itself added none (Pin instance port bit) = refl
  stands_itself added none (Net net) = refl
  stands_itself added none Zero = ap (λ o. stand_or o Zero) (none false)
  stands_itself added none One = ap (λ o. stand_or o One) (none true)

  -- in a leaf the nodes with a partner are its port bits and the constants
  port_bit_only : (cell : HCell) → cell.instances ≡ [] → (x : Node) → IsBitOrConstant design.cells cell x → IsPortBitOrConstant cell x
  port_bit_only cell e (Port port bit) h = h
  port_bit_only cell e (Pin instance port bit) h = absurd (no_element cell.instances instance h.the_instance e h.is_there)
  port_bit_only cell e (Net net) h = h
  port_bit_only cell e Zero h = tt
  port_bit_only cell e One h = tt

  some_bit : (cell : HCell) (x : Node) → IsPortBitOrConstant cell x → IsBitOrConstant design.cells cell x
  some_bit cell (Port port bit) h = h
  some_bit cell (Pin instance port bit) h = absurd h
  some_bit cell (Net net) h = h
  some_bit cell Zero h = tt
  some_bit cell One h = tt

  same_bit : (cell partner : HCell) → SamePorts cell partner → (x : Node) → IsPortBitOrConstant cell x → IsPortBitOrConstant partner x
  same_bit cell partner e (Port port bit) h = port_bit_same cell partner e port bit h
  same_bit cell partner e (Pin instance port bit) h = h
  same_bit cell partner e (Net net) h = h
  same_bit cell partner e Zero h = tt
  same_bit cell partner e One h = tt

  none_needed : (cell : HCell) → IsLeaf cell → (m : Option ℕ) (added : Bool → Option ℕ) → AddedAsNeeded m design.cells cell added → (v : Bool) → added v ≡ None
  none_needed cell leaf None added needed v = needed v
  none_needed cell leaf (Some m) added needed v = some_or_none (added v) (λ place e.
      let need : NeedsConstant design.cells cell v = (needed v).0 (subst IsSome (sym e) (search rules)) in
      need.is_other (sym (leaf.apart (constant_node v) need.node (constant_bit v) (port_bit_only cell leaf.no_instances need.node need.is_bit) need.is_connected)))
    where
      constant_bit : (v : Bool) → IsPortBitOrConstant cell (constant_node v)
      constant_bit false = tt
      constant_bit true = tt

  pub leaf_forth : (number onumber : ℕ) (cell partner : HCell) → SameCell names design other n number onumber cell partner → IsLeaf cell → IsLeaf partner
  leaf_forth number onumber cell partner same leaf =
      let none : ((v : Bool) → same.added v ≡ None) = none_needed cell leaf n same.added same.as_needed in
      let e : length cell.instances ≡ 0 = ap length leaf.no_instances in
      record {
        no_instances = empty_list partner.instances (λ i lt. let (v, p) = same.added_alone i (omega arith) lt in absurd (none_not_some (same.added v) i (none v) p));
        apart = λ x y hx hy link.
            let cx : IsPortBitOrConstant cell x = same_bit partner cell (sym same.same_ports) x hx in
            let cy : IsPortBitOrConstant cell y = same_bit partner cell (sym same.same_ports) y hy in
            leaf.apart x y cx cy ((same.same_connection x y (some_bit cell x cx) (some_bit cell y cy)).1
            (subst₂ (IsLocallyConnected partner) (sym (stands_itself same.added none x)) (sym (stands_itself same.added none y)) link));
      }

  pub leaf_back : (number onumber : ℕ) (cell partner : HCell) → SameCell names design other n number onumber cell partner → IsLeaf partner → IsLeaf cell
  leaf_back number onumber cell partner same leaf =
      let none : ((v : Bool) → same.added v ≡ None) = λ v. some_or_none (same.added v) (λ place e.
      let c : IsConstantInstance names other.cells partner v place = (same.added_after v place e).1 in no_element partner.instances place c.the_instance leaf.no_instances c.is_there) in
      record {
        no_instances = empty_list cell.instances (λ i lt. let (x, there) = element_there cell.instances i lt in
            let (counterpart, tthere, s) = same.same_instances i x there in no_element partner.instances i counterpart leaf.no_instances tthere);
        apart = λ x y hx hy link.
            leaf.apart x y (same_bit cell partner same.same_ports x hx) (same_bit cell partner same.same_ports y hy)
            (subst₂ (IsLocallyConnected partner) (stands_itself same.added none x) (stands_itself same.added none y)
            ((same.same_connection x y (some_bit cell x hx) (some_bit cell y hy)).0 link));
      }

  pub constant_forth : (number onumber : ℕ) (cell partner : HCell) (value : Bool) → SameCell names design other n number onumber cell partner → IsConstantCell names value cell → IsConstantCell names value partner
  constant_forth number onumber cell partner value same c =
      let (counterpart, only, signature) = one_of_map signature_of partner.ports (signature_of c.port) (sym same.same_ports ∙ ap (map signature_of) c.only_port) in
      record {
        is_leaf = leaf_forth number onumber cell partner same c.is_leaf;
        is_named = sym same.same_name ∙ c.is_named;
        port = counterpart;
        only_port = only;
        port_named = ap (λ f. f.name) signature ∙ c.port_named;
        is_scalar = ap (λ f. f.range) signature ∙ c.is_scalar;
        is_output = ap (λ f. f.dir) signature ∙ c.is_output;
      }

  pub constant_back : (number onumber : ℕ) (cell partner : HCell) (value : Bool) → SameCell names design other n number onumber cell partner → IsConstantCell names value partner → IsConstantCell names value cell
  constant_back number onumber cell partner value same c =
      let (counterpart, only, signature) = one_of_map signature_of cell.ports (signature_of c.port) (same.same_ports ∙ ap (map signature_of) c.only_port) in
      record {
        is_leaf = leaf_back number onumber cell partner same c.is_leaf;
        is_named = same.same_name ∙ c.is_named;
        port = counterpart;
        only_port = only;
        port_named = ap (λ f. f.name) signature ∙ c.port_named;
        is_scalar = ap (λ f. f.range) signature ∙ c.is_scalar;
        is_output = ap (λ f. f.dir) signature ∙ c.is_output;
      }

-- paths
module _ (names : ConstantNames) (design other : Design) (n : Option ℕ) (valid : HasPaths design) (ovalid : HasPaths other) (same : SameCells names design other n) where
  -- an instance has a partner, and their cells are partners
  pub record BelowPair (cell partner : HCell) (place : ℕ) (instance : HInst) : Type 0 where
    pub counterpart : HInst
    pub counterpart_there : slice_get partner.instances place ≡ Some counterpart
    pub same_instance : SameInstance design n instance counterpart
    pub below : HCell
    pub is_below : IsCell design.cells instance.cell below
    pub obelow : HCell
    pub is_obelow : IsCell other.cells counterpart.cell obelow
    pub same_below : SameCell names design other n instance.cell counterpart.cell below obelow

  pub below_pair : (number onumber : ℕ) (cell partner : HCell) → IsCell design.cells number cell → SameCell names design other n number onumber cell partner →
      (place : ℕ) (instance : HInst) → slice_get cell.instances place ≡ Some instance → BelowPair cell partner place instance
  below_pair number onumber cell partner is_cell sc place instance there =
      let (counterpart, counterpart_there, si) = sc.same_instances place instance there in
      let (below, is_below) = element_there design.cells instance.cell (valid.instances_in_range number cell is_cell place instance there) in
      let (obelow, is_obelow, sb) = same.same_cells instance.cell counterpart.cell below si.same_cell is_below in
      record { counterpart = counterpart; counterpart_there = counterpart_there; same_instance = si; below = below; is_below = is_below; obelow = obelow; is_obelow = is_obelow; same_below = sb }

  pub leads_forth : (path : Path) (number : ℕ) → LeadsTo design.cells design.top path number → (onumber : ℕ) × LeadsTo other.cells other.top path onumber × IsPartner design n number onumber
  leads_forth [] number leads = (other.top, refl, subst (λ m. IsPartner design n m other.top) (sym leads) same.same_top)
  leads_forth (name ∷ path) number leads =
      let i : HasInstance design.cells leads.0 name number = leads.2 in
      let (oouter, oleads, partners) = leads_forth path leads.0 leads.1 in
      let (partner, is_ocell, sc) = same.same_cells leads.0 oouter i.cell partners i.is_cell in
      let (counterpart, there, si) = sc.same_instances i.number i.instance i.is_there in
      let has : HasInstance other.cells oouter name counterpart.cell = record { cell = partner; is_cell = is_ocell; number = i.number; instance = counterpart; is_there = there; is_named = sym si.same_name ∙ i.is_named; is_of = refl } in
      (counterpart.cell, (oouter, oleads, has), subst (λ m. IsPartner design n m counterpart.cell) i.is_of si.same_cell)

  pub pair_of : (path : Path) (cell : HCell) → CellAt design path cell → (partner : HCell) × PairAt names design other n path cell partner
  pair_of path cell at =
      let (onumber, oleads, partners) = leads_forth path at.number at.leads in
      let (partner, is_ocell, sc) = same.same_cells at.number onumber cell partners at.is_cell in
      (partner, record { number = at.number; onumber = onumber; leads = at.leads; oleads = oleads; is_cell = at.is_cell; is_ocell = is_ocell; are_partners = partners; same = sc })

  -- an instance and its partner
  pub pin_forth : (path : Path) (cell partner : HCell) → PairAt names design other n path cell partner → (instance port bit : ℕ) → IsPinBit design.cells cell instance port bit → IsPinBit other.cells partner instance port bit
  pin_forth path cell partner pair instance port bit h =
      let b : BelowPair cell partner instance h.the_instance = below_pair pair.number pair.onumber cell partner pair.is_cell pair.same instance h.the_instance h.is_there in
      let e : h.below ≡ b.below = same_element design.cells h.the_instance.cell h.below b.below h.is_below b.is_below in
      record {
        the_instance = b.counterpart;
        is_there = b.counterpart_there;
        below = b.obelow;
        is_below = b.is_obelow;
        is_bit = port_bit_same b.below b.obelow b.same_below.same_ports port bit (subst (λ c. IsPortBit c port bit) e h.is_bit);
      }

  pub pin_name : (path : Path) (cell partner : HCell) → PairAt names design other n path cell partner → (place : ℕ) (instance counterpart : HInst) → slice_get cell.instances place ≡ Some instance → slice_get partner.instances place ≡ Some counterpart →
      counterpart.name ≡ instance.name
  pin_name path cell partner pair place instance counterpart there tthere =
      let (found, fthere, si) = pair.same.same_instances place instance there in
      ap (λ i. i.name) (same_element partner.instances place counterpart found tthere fthere) ∙ sym si.same_name

  pub pin_back : (path : Path) (cell partner : HCell) → PairAt names design other n path cell partner → (instance port bit : ℕ) → instance < length cell.instances →
      IsPinBit other.cells partner instance port bit → IsPinBit design.cells cell instance port bit
  pin_back path cell partner pair instance port bit lt h =
      let (x, there) = element_there cell.instances instance lt in
      let b : BelowPair cell partner instance x = below_pair pair.number pair.onumber cell partner pair.is_cell pair.same instance x there in
      let p : h.the_instance ≡ b.counterpart = same_element partner.instances instance h.the_instance b.counterpart h.is_there b.counterpart_there in
      let e : h.below ≡ b.obelow = same_element other.cells b.counterpart.cell h.below b.obelow (subst (λ i. IsCell other.cells i.cell h.below) p h.is_below) b.is_obelow in
      record {
        the_instance = x;
        is_there = there;
        below = b.below;
        is_below = b.is_below;
        is_bit = port_bit_same b.obelow b.below (sym b.same_below.same_ports) port bit (subst (λ c. IsPortBit c port bit) e h.is_bit);
      }

  pub instance_forth : (path : Path) (cell partner : HCell) → PairAt names design other n path cell partner → (value : Bool) (instance : ℕ) → IsConstantInstance names design.cells cell value instance → IsConstantInstance names other.cells partner value instance
  instance_forth path cell partner pair value instance h =
      let b : BelowPair cell partner instance h.the_instance = below_pair pair.number pair.onumber cell partner pair.is_cell pair.same instance h.the_instance h.is_there in
      let e : h.below ≡ b.below = same_element design.cells h.the_instance.cell h.below b.below h.is_below b.is_below in
      record {
        the_instance = b.counterpart;
        is_there = b.counterpart_there;
        below = b.obelow;
        is_below = b.is_obelow;
        is_constant = constant_forth names design other n h.the_instance.cell b.counterpart.cell b.below b.obelow value b.same_below (subst (IsConstantCell names value) e h.is_constant);
      }

  pub instance_back : (path : Path) (cell partner : HCell) → PairAt names design other n path cell partner → (value : Bool) (instance : ℕ) → instance < length cell.instances →
      IsConstantInstance names other.cells partner value instance → IsConstantInstance names design.cells cell value instance
  instance_back path cell partner pair value instance lt h =
      let (x, there) = element_there cell.instances instance lt in
      let b : BelowPair cell partner instance x = below_pair pair.number pair.onumber cell partner pair.is_cell pair.same instance x there in
      let p : h.the_instance ≡ b.counterpart = same_element partner.instances instance h.the_instance b.counterpart h.is_there b.counterpart_there in
      let e : h.below ≡ b.obelow = same_element other.cells b.counterpart.cell h.below b.obelow (subst (λ i. IsCell other.cells i.cell h.below) p h.is_below) b.is_obelow in
      record {
        the_instance = x;
        is_there = there;
        below = b.below;
        is_below = b.is_below;
        is_constant = constant_back names design other n x.cell b.counterpart.cell b.below b.obelow value b.same_below (subst (IsConstantCell names value) e h.is_constant);
      }

  -- the path of an added instance leads to a constant cell
  pub behind_constant : (path : Path) (cell : HCell) (behind : IsBehind names design other n path) → CellAt other path cell → IsConstantCell names behind.value cell
  behind_constant path cell behind at =
      let c : IsConstantInstance names other.cells behind.partner behind.value behind.place = (behind.pair.same.added_after behind.value behind.place behind.is_added).1 in
      let e : c.the_instance ≡ behind.instance = same_element behind.partner.instances behind.place c.the_instance behind.instance c.is_there behind.is_there in
      let has : HasInstance other.cells behind.pair.onumber behind.instance.name c.the_instance.cell =
      record { cell = behind.partner; is_cell = behind.pair.is_ocell; number = behind.place; instance = c.the_instance; is_there = c.is_there; is_named = ap (λ i. i.name) e; is_of = refl } in
      let there : CellAt other (behind.instance.name ∷ behind.above) c.below = record { number = c.the_instance.cell; leads = (behind.pair.onumber, behind.pair.oleads, has); is_cell = c.is_below } in
      subst (IsConstantCell names behind.value) (one_cell other ovalid path c.below cell (subst (λ p. CellAt other p c.below) (sym behind.path_is) there) at) c.is_constant

  instance_back_or_behind : (path : Path) (number onumber : ℕ) (name : List ℕ) (inner : ℕ) → LeadsTo design.cells design.top path number → LeadsTo other.cells other.top path onumber → IsPartner design n number onumber → HasInstance other.cells onumber name inner →
      ((back : ℕ) × LeadsTo design.cells design.top (name ∷ path) back × IsPartner design n back inner) ⊎ IsBehind names design other n (name ∷ path)
  instance_back_or_behind path number onumber name inner leads oleads partners i =
      let (cell, is_cell) = cell_there design valid path number leads in
      let (partner, is_ocell, sc) = same.same_cells number onumber cell partners is_cell in
      let e : i.cell ≡ partner = same_element other.cells onumber i.cell partner i.is_cell is_ocell in
      let there : slice_get partner.instances i.number ≡ Some i.instance = subst (λ c. slice_get c.instances i.number ≡ Some i.instance) e i.is_there in
      elim (lt_or_le i.number (length cell.instances)) [
        | inl lt ↦
            let (x, xthere) = element_there cell.instances i.number lt in
            let (counterpart, tthere, si) = sc.same_instances i.number x xthere in
            let p : counterpart ≡ i.instance = same_element partner.instances i.number counterpart i.instance tthere there in
            let has : HasInstance design.cells number name x.cell = record { cell = cell; is_cell = is_cell; number = i.number; instance = x; is_there = xthere; is_named = si.same_name ∙ (ap (λ w. w.name) p ∙ i.is_named); is_of = refl } in
            inl (x.cell, (number, leads, has), subst (λ m. IsPartner design n x.cell m) (ap (λ w. w.cell) p ∙ i.is_of) si.same_cell)
        | inr le ↦
            let (v, added) = sc.added_alone i.number le (slice_get_within partner.instances i.number i.instance there) in
            inr (record {
              above = path;
              cell = cell;
              partner = partner;
              pair = record { number = number; onumber = onumber; leads = leads; oleads = oleads; is_cell = is_cell; is_ocell = is_ocell; are_partners = partners; same = sc };
              value = v;
              place = i.number;
              is_added = added;
              instance = i.instance;
              is_there = there;
              path_is = ap (λ w. w ∷ path) (sym i.is_named);
            })
      ]

  leads_back : (path : Path) (onumber : ℕ) → LeadsTo other.cells other.top path onumber → ((number : ℕ) × LeadsTo design.cells design.top path number × IsPartner design n number onumber) ⊎ IsBehind names design other n path
  leads_back [] onumber leads = inl (design.top, refl, subst (λ m. IsPartner design n design.top m) (sym leads) same.same_top)
  leads_back (name ∷ path) onumber leads =
      let i : HasInstance other.cells leads.0 name onumber = leads.2 in
      elim (leads_back path leads.0 leads.1) [
        | inl found ↦ instance_back_or_behind path found.0 leads.0 name onumber found.1 leads.1 found.2 i
        | inr behind ↦
            let c : IsConstantCell names behind.value i.cell = behind_constant path i.cell behind (record { number = leads.0; leads = leads.1; is_cell = i.is_cell }) in
            absurd (no_element i.cell.instances i.number i.instance c.is_leaf.no_instances i.is_there)
      ]

  -- each path of the other design leads in both, or to an added instance
  pub path_back : (path : Path) (partner : HCell) → CellAt other path partner → ((cell : HCell) × PairAt names design other n path cell partner) ⊎ IsBehind names design other n path
  path_back path partner at = elim (leads_back path at.number at.leads) [
    | inl found ↦
        let (cell, is_cell) = cell_there design valid path found.0 found.1 in
        let (opartner, is_ocell, sc) = same.same_cells found.0 at.number cell found.2 is_cell in
        let e : opartner ≡ partner = same_element other.cells at.number opartner partner is_ocell at.is_cell in
        inl (cell, record { number = found.0; onumber = at.number; leads = found.1; oleads = at.leads; is_cell = is_cell; is_ocell = at.is_cell; are_partners = found.2; same = subst (SameCell names design other n found.0 at.number cell) e sc })
    | inr behind ↦ inr behind
  ]

  pub not_both : (path : Path) (cell partner : HCell) → PairAt names design other n path cell partner → ¬ IsBehind names design other n path
  not_both path cell partner pair behind =
      let leads : LeadsTo design.cells design.top (behind.instance.name ∷ behind.above) pair.number = subst (λ p. LeadsTo design.cells design.top p pair.number) behind.path_is pair.leads in
      let i : HasInstance design.cells leads.0 behind.instance.name pair.number = leads.2 in
      let e : leads.0 ≡ behind.pair.number = one_number design valid behind.above leads.0 behind.pair.number leads.1 behind.pair.leads in
      let c : i.cell ≡ behind.cell = same_element design.cells behind.pair.number i.cell behind.cell (subst (λ m. IsCell design.cells m i.cell) e i.is_cell) behind.pair.is_cell in
      let there : slice_get behind.cell.instances i.number ≡ Some i.instance = subst (λ w. slice_get w.instances i.number ≡ Some i.instance) c i.is_there in
      let (counterpart, tthere, si) = behind.pair.same.same_instances i.number i.instance there in
      let p : i.number ≡ behind.place = ovalid.own_instances behind.pair.onumber behind.partner behind.pair.is_ocell i.number behind.place counterpart behind.instance tthere behind.is_there (sym si.same_name ∙ i.is_named) in
      let after : length behind.cell.instances ≤ behind.place = (behind.pair.same.added_after behind.value behind.place behind.is_added).0 in
      let within : i.number < length behind.cell.instances = slice_get_within behind.cell.instances i.number i.instance there in
      omega arith
