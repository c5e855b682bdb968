-- The cells of a file that breaks no rule up to E12 are as in a design.
use Rattle.std.proofs.Common.{◌≡◌, ℕ, zero, suc, ◌+◌, ◌<◌, inl, inr, Bool, true, false, List, [], ◌∷◌, length, get_or, slice_get, cond, Option, Some, None, refl, sym, ap, ◌∙◌, subst, arith, pos}
use Rattle.std.specs.Prelude.{option_map, ℤ, nat_abs, int_lt, not, ◌||◌, negsuc}
use Rattle.std.specs.List.{cons_option, filter_map, flat_map}
use Rattle.std.specs.Option.{option_and_then}
use Rattle.std.proofs.lemmas.Bool.{false≢true}
use Rattle.std.proofs.lemmas.Bool.Decides.{nat_tests}
use Rattle.std.proofs.lemmas.List.{length-map}
use Rattle.std.proofs.lemmas.Option.{slice_get-map, slice_get_within}
use Rattle.net_graph.specs.Graph.{IsReached}
use Rattle.net_graph.proofs.ListLaws.{element_there}
use Rattle.net_hier.specs.Cells.{IsPinBit, IsPortBit, width_of}
use Rattle.net_hier.specs.Design.{cells_below as design_below}
use Rattle.net_hier.specs.Valid.{Each, HaveOwnNames, IsGoodCell, IsJoinOf, IsNode, IsPortWidth}
use Rattle.net_hier.specs.declared.cells.HCell.{HCell}
use Rattle.net_hier.specs.declared.nodes.Node.{Node}
use Rattle.net_hier.specs.declared.nodes.Node.TheVariants as nodes
use Rattle.edif_values.specs.Names.{original, port_original}
use Rattle.edif_values.specs.declared.name.PortName.{PortName}
use Rattle.edif_values.specs.declared.name.PortName.TheVariants.{Single, Array}
use Rattle.edif_values.specs.declared.instance.Instance.{Instance}
use Rattle.edif_values.specs.declared.net.PortRef.{PortRef}
use Rattle.edif_values.specs.declared.port.Port.{Port}
use Rattle.edif_lookup.specs.Candidates.{the_only}
use Rattle.edif_values.specs.declared.cell.Cell.{Cell}
use Rattle.edif_values.specs.declared.file.EdifFile.{EdifFile}
use Rattle.edif_design.specs.CellRules.{bit_meant, bit_of, instance_candidates, is_bad_size, is_no_member, node_of, owner_at, owner_bit, owner_of, Owner, port_candidates, port_ident, port_name, size_of}
use Rattle.edif_design.specs.Design.{cell_value, edif_cells, edif_top, instance_value, net_joins, net_value, number_in, numbers_in_design, port_value}
use Rattle.edif_design.specs.FileRules.{refusals}
use Rattle.edif_design.specs.Parts.{instances, nets, numbered, ports}
use Rattle.edif_design.specs.Reach.{is_reached}
use Rattle.edif_design.specs.References.{CellPlace, all_cells, linked_cell, number_meant, top}
use Rattle.edif_resolve.proofs.Clean.{map_get, ports_clean, reached_clean, split_get}
use Rattle.edif_resolve.proofs.Linking.{below_at, design_reached, inner_there, instance_from, instance_meant, instance_names_clean, instance_number, instance_there}
use Rattle.edif_resolve.proofs.Numbers.{StandsAt, meant_stands, all_candidates, numbered_stand, the_only_is, top_stands}
use Rattle.edif_resolve.proofs.Recursion.{numbered_is}
use Rattle.edif_resolve.proofs.Renumbering.{ComesFrom, design_at, design_from, reach_of, top_reached}
use Rattle.edif_resolve.proofs.Widths.{array_width, good_width, own_names, port_names_clean, sizes_clean}

-- what stands in a list of lists
record InList {A B : Type 0} (f : A → List B) (xs : List A) (y : B) : Type 0 where
  pub place : ℕ
  pub item : A
  pub is_item : slice_get xs place ≡ Some item
  pub inner : ℕ
  pub is_inner : slice_get (f item) inner ≡ Some y

flat_from : {A B : Type 0} (f : A → List B) (xs : List A) (n : ℕ) (y : B) → slice_get (flat_map f xs) n ≡ Some y → InList f xs y
flat_from f [] n y e = absurd (cc)
flat_from f (x ∷ xs) n y e = elim (split_get (f x) (flat_map f xs) n y e) [
  | inl a ↦ record { place = 0; item = x; is_item = refl; inner = n; is_inner = a.1 }
  | inr b ↦ (let r = flat_from f xs b.0 y b.1.1 in record { place = suc r.place; item = r.item; is_item = r.is_item; inner = r.inner; is_inner = r.is_inner })
]

-- what an option of some images is
map_some : {A B : Type 0} (f : A → B) (o : Option A) (y : B) → option_map f o ≡ Some y → (x : A) × ((o ≡ Some x) × (f x ≡ y))
map_some f None y e = absurd (cc)
map_some f (Some x) y e = (x, (refl, (let g : f x ≡ y = cc in g)))

then_some : {A B : Type 0} (f : A → Option B) (o : Option A) (y : B) → option_and_then f o ≡ Some y → (x : A) × ((o ≡ Some x) × (f x ≡ Some y))
then_some f None y e = absurd (cc)
then_some f (Some x) y e = (x, (refl, e))

-- the items that f gives of some things come from one of them
kept_from : {A B : Type 0} (f : A → Option B) (xs : List A) (n : ℕ) (y : B) → slice_get (filter_map f xs) n ≡ Some y → (x : A) × (f x ≡ Some y)
kept_from f [] n y e = absurd (cc)
kept_from {A = A} {B = B} f (x ∷ xs) n y e = by (f x) refl n e (λ m g. kept_from f xs m y g)
  where
    by : (o : Option B) → f x ≡ o → (n : ℕ) → slice_get (cons_option o (filter_map f xs)) n ≡ Some y → ((m : ℕ) → slice_get (filter_map f xs) m ≡ Some y → (z : A) × (f z ≡ Some y)) → (z : A) × (f z ≡ Some y)
    by None h n e rest = rest n e
    by (Some w) h zero e rest = (x, (h ∙ e))
    by (Some w) h (suc n) e rest = rest n e

-- ---- bits

not_less : (b : Bool) (x : Option ℕ) (y : ℕ) → cond b None x ≡ Some y → (b ≡ false) × (x ≡ Some y)
not_less true x y e = absurd (let f : None ≡ Some y = e in cc)
not_less false x y e = (refl, e)

or_none : (a b : Bool) → (a || b) ≡ false → (a ≡ false) × (b ≡ false)
or_none true b e = absurd (false≢true (sym e))
or_none false b e = (refl, e)

not_not : (b : Bool) → not b ≡ false → b ≡ true
not_not true e = refl
not_not false e = absurd (false≢true (sym e))

below_size : (size index : ℤ) → int_lt index (pos 0) ≡ false → int_lt index size ≡ true → (n : ℕ) → size ≡ pos n → nat_abs index < n
below_size size (pos i) low high n e = (let h : int_lt (pos i) (pos n) ≡ true = ap (int_lt (pos i)) (sym e) ∙ high in grind (arith, nat_tests))
below_size size (negsuc i) low high n e = absurd (false≢true (sym low))

-- a bit that is meant lies within the width of its port
bit_within : (name : PortName) (member : Option ℤ) (bit : ℕ) → is_bad_size (size_of name) ≡ false → bit_of (size_of name) member ≡ Some bit → bit < width_of (port_original name).1
bit_within (Single name) None bit good e = (let f : 0 ≡ bit = cc in omega (arith, f))
bit_within (Single name) (Some index) bit good e = absurd (let f : None ≡ Some bit = e in cc)
bit_within (Array name size) None bit good e =
    let w = good_width (Array name size) good in
    let r = not_less (int_lt size (pos 1) || int_lt (pos 1) size) (Some 0) bit e in
    let f : Some 0 ≡ Some bit = r.1 in
    let g : 0 ≡ bit = cc in
    omega (arith, g, w.0)
bit_within (Array name size) (Some index) bit good e =
    let w = array_width (original name) size good in
    let r = not_less (is_no_member (Some size) index) (Some (nat_abs index)) bit e in
    let f : Some (nat_abs index) ≡ Some bit = r.1 in
    let g : nat_abs index ≡ bit = cc in
    let p = or_none (int_lt index (pos 0)) (not (int_lt index size)) r.0 in
    let b : nat_abs index < w.0 = below_size size index p.0 (not_not (int_lt index size) p.1) w.0 w.1.0 in
    omega (arith, g, b, w.1.1)

-- ---- a cell of the design

port_stands : (cell : Cell) (spelling : List ℕ) (port : ℕ × Port) → the_only (port_candidates cell spelling) ≡ Some port → slice_get (ports cell) port.0 ≡ Some port.1
port_stands cell spelling port e =
    the_only_is (StandsAt (ports cell)) (port_candidates cell spelling) port (all_candidates (StandsAt (ports cell)) port_ident (numbered (ports cell)) spelling (numbered_stand (ports cell))) e

instance_stands : (cell : Cell) (spelling : List ℕ) (instance : ℕ × Instance) → the_only (instance_candidates cell spelling) ≡ Some instance → slice_get (instances cell) instance.0 ≡ Some instance.1
instance_stands cell spelling instance e =
    the_only_is (StandsAt (instances cell)) (instance_candidates cell spelling) instance (all_candidates (StandsAt (instances cell)) (λ u. u.name.ident) (numbered (instances cell)) spelling (numbered_stand (instances cell))) e

module _ (file : EdifFile) (clean : refusals file ≡ []) (start : ℕ × CellPlace) (is_top : top file ≡ Some start) where
  abbrev value_of : CellPlace → HCell
  value_of place = cell_value (numbers_in_design file) (linked_cell file place)

  -- a bit of a port of a reached cell
  port_bit : (n : ℕ) (place : CellPlace) → slice_get (all_cells file) n ≡ Some place → is_reached file n ≡ true → (spelling : List ℕ) (port : ℕ × Port) (member : Option ℤ) (bit : ℕ) → the_only (port_candidates place.cell spelling) ≡ Some port
      → bit_of (size_of port.1.name) member ≡ Some bit → IsPortBit (value_of place) port.0 bit
  unfolding cell_value
  port_bit n place e reached spelling port member bit is_port is_bit =
      let stands : slice_get (ports place.cell) port.0 ≡ Some port.1 = port_stands place.cell spelling port is_port in
      let good : is_bad_size (size_of port.1.name) ≡ false = sizes_clean (original place.cell.name) (ports place.cell) (ports_clean file place (reached_clean file clean n place e reached)) port.0 port.1 stands in
      record {
        the_port = port_value port.1;
        is_there = slice_get-map port_value (ports place.cell) port.0 ∙ ap (option_map port_value) stands;
        within = bit_within port.1.name member bit good is_bit;
      }

  module _ (n : ℕ) (place : CellPlace) (e : slice_get (all_cells file) n ≡ Some place) (reached : is_reached file n ≡ true) where
    abbrev GoodNode : Node → Type 0
    GoodNode node = IsNode (edif_cells file) (value_of place) node

    pin_bit : (spelling : List ℕ) (instance : ℕ × Instance) (inner : ℕ × Cell) → the_only (instance_candidates place.cell spelling) ≡ Some instance → get_or (linked_cell file place).below instance.0 None ≡ Some inner
        → (port_spelling : List ℕ) (port : ℕ × Port) (member : Option ℤ) (bit : ℕ) → the_only (port_candidates inner.1 port_spelling) ≡ Some port → bit_of (size_of port.1.name) member ≡ Some bit
        → IsPinBit (edif_cells file) (value_of place) instance.0 port.0 bit
    pin_bit spelling instance inner is_instance is_inner port_spelling port member bit is_port is_bit =
        let stands : slice_get (instances place.cell) instance.0 ≡ Some instance.1 = instance_stands place.cell spelling instance is_instance in
        let meant = instance_meant file clean n place e reached instance.0 instance.1 stands in
        let found : ℕ × CellPlace = meant.0 in
        let there = inner_there file clean start is_top n place instance.0 instance.1 found e reached stands meant.1 in
        let same : Some inner ≡ Some (found.0, found.1.cell) = sym is_inner ∙ (below_at file place instance.0 instance.1 stands ∙ ap (option_map (λ f. (f.0, f.1.cell))) meant.1) in
        let cell : inner.1 ≡ found.1.cell = ap (λ o. second_or inner.1 o) same in
        let old : slice_get (all_cells file) found.0 ≡ Some found.1 = meant_stands file place.library instance.1.library instance.1.cell found meant.1 in
        record {
          the_instance = instance_value (numbers_in_design file) (linked_cell file place).below (instance.0, instance.1);
          is_there = instance_there file place instance.0 instance.1 stands;
          below = value_of found.1;
          is_below = ap (slice_get (edif_cells file)) (instance_number file place instance.0 instance.1 found stands meant.1) ∙ there.1;
          is_bit = port_bit found.0 found.1 old there.0 port_spelling port member bit (ap (λ c. the_only (port_candidates c port_spelling)) (sym cell) ∙ is_port) is_bit;
        }
      where
        second_or : Cell → Option (ℕ × Cell) → Cell
        second_or d None = d
        second_or d (Some x) = x.1

    owner_node : (ref : PortRef) (owner : Owner) (node : Node) → ((port : ℕ × Port) (bit : ℕ) → the_only (port_candidates owner.1 ref.port) ≡ Some port → bit_of (size_of port.1.name) ref.member ≡ Some bit → GoodNode (node_of owner port.0 bit))
        → owner_bit ref owner ≡ Some node → GoodNode node
    owner_node ref owner node good g =
        let a = then_some (λ port. option_map (node_of owner port.0) (bit_of (size_of port.1.name) ref.member)) (the_only (port_candidates owner.1 ref.port)) node g in
        let b = map_some (node_of owner a.0.0) (bit_of (size_of a.0.1.name) ref.member) node a.1.1 in
        subst GoodNode b.1.1 (good a.0 b.0 a.1.0 b.1.0)

    -- the bit that a reference means is a node of the cell
    node_good : (ref : PortRef) (node : Node) → bit_meant (linked_cell file place) ref ≡ Some node → GoodNode node
    node_good ref node g = by ref.instance g
      where
        by : (o : Option (List ℕ)) → option_and_then (owner_bit ref) (owner_of (linked_cell file place) o) ≡ Some node → GoodNode node
        by None g = owner_node ref (None, place.cell) node (λ port bit is_port is_bit. port_bit n place e reached ref.port port ref.member bit is_port is_bit) g
        by (Some spelling) g =
            let a = then_some (owner_bit ref) (owner_of (linked_cell file place) (Some spelling)) node g in
            let b = then_some (owner_at (linked_cell file place).below) (the_only (instance_candidates place.cell spelling)) a.0 a.1.0 in
            let d = map_some (λ inner. (Some b.0, inner.1)) (get_or (linked_cell file place).below b.0.0 None) a.0 b.1.1 in
            owner_node ref (Some b.0, d.0.1) node (λ port bit is_port is_bit. pin_bit spelling b.0 d.0 b.1.0 d.1.0 ref.port port ref.member bit is_port is_bit) (ap (owner_bit ref) d.1.1 ∙ a.1.1)

    joins_good : Each (IsJoinOf (edif_cells file) (value_of place)) (value_of place).joins
    unfolding cell_value
    joins_good k join g =
        let a = flat_from (net_joins (linked_cell file place)) (numbered (nets place.cell)) k join g in
        let net = numbered_is 0 (nets place.cell) a.place a.item a.is_item in
        let b = map_get (λ bit. record { a = nodes.Net a.item.0; b = bit }) (filter_map (bit_meant (linked_cell file place)) a.item.1.joined) a.inner join a.is_inner in
        let ref = kept_from (bit_meant (linked_cell file place)) a.item.1.joined a.inner b.0 b.1.0 in
        let i : a.item.0 ≡ a.place = net.0 ∙ (let f : 0 + a.place ≡ a.place = omega arith in f) in
        let long : a.place < length (nets place.cell) = slice_get_within (nets place.cell) a.place a.item.1 net.1 in
        subst (IsJoinOf (edif_cells file) (value_of place)) b.1.1 ((omega (arith, i, long, length-map (nets place.cell) net_value)), node_good ref.0 b.0 ref.1)

    port_names_good : HaveOwnNames (λ port. port.name) (value_of place).ports
    unfolding cell_value
    port_names_good i j x y is_x is_y same =
        let a = map_get port_value (ports place.cell) i x is_x in
        let b = map_get port_value (ports place.cell) j y is_y in
        own_names port_name (ports place.cell) (port_names_clean (original place.cell.name) (ports place.cell) (ports_clean file place (reached_clean file clean n place e reached))) i j a.0 b.0 a.1.0 b.1.0
        (ap (λ p. p.name) a.1.1 ∙ (same ∙ sym (ap (λ p. p.name) b.1.1)))

    widths_good : Each IsPortWidth (value_of place).ports
    unfolding cell_value
    widths_good i x is_x =
        let a = map_get port_value (ports place.cell) i x is_x in
        subst IsPortWidth a.1.1 (good_width a.0.name (sizes_clean (original place.cell.name) (ports place.cell) (ports_clean file place (reached_clean file clean n place e reached)) i a.0 a.1.0))

    instance_names_good : HaveOwnNames (λ instance. instance.name) (value_of place).instances
    instance_names_good i j x y is_x is_y same =
        let a = instance_from file place i x is_x in
        let b = instance_from file place j y is_y in
        own_names (λ u. original u.name) (instances place.cell) (instance_names_clean file clean n place e reached) i j a.0 b.0 a.1.0 b.1.0 (ap (λ u. u.name) a.1.1 ∙ (same ∙ sym (ap (λ u. u.name) b.1.1)))

    instances_good : Each (λ instance. instance.cell < length (edif_cells file)) (value_of place).instances
    instances_good i x is_x =
        let a = instance_from file place i x is_x in
        let meant = instance_meant file clean n place e reached i a.0 a.1.0 in
        let there = inner_there file clean start is_top n place i a.0 meant.0 e reached a.1.0 meant.1 in
        subst (λ m. m < length (edif_cells file)) (sym (instance_number file place i a.0 meant.0 a.1.0 meant.1) ∙ ap (λ u. u.cell) a.1.1) (slice_get_within (edif_cells file) (get_or (numbers_in_design file) meant.0.0 0) (value_of meant.0.1) there.1)

    pub cell_good : IsGoodCell (edif_cells file) (value_of place)
    cell_good = record {
      instances_in_range = instances_good;
      joins_in_range = joins_good;
      port_names = port_names_good;
      instance_names = instance_names_good;
      widths = widths_good;
    }

  top_number : edif_top file ≡ get_or (numbers_in_design file) start.0 0
  unfolding edif_top
  top_number = ap (λ o. number_in (numbers_in_design file) (number_meant o)) is_top

  pub has_top : edif_top file < length (edif_cells file)
  has_top =
      subst (λ m. m < length (edif_cells file)) (sym top_number)
      (slice_get_within (edif_cells file) (get_or (numbers_in_design file) start.0 0) (value_of start.1) (design_at file start.0 start.1 (top_stands file start is_top) (top_reached file start is_top)))

  pub good_cells : (number : ℕ) (cell : HCell) → slice_get (edif_cells file) number ≡ Some cell → IsGoodCell (edif_cells file) cell
  good_cells number cell g =
      let from : ComesFrom file number cell = design_from file number cell g in
      subst (IsGoodCell (edif_cells file)) from.value (cell_good from.old from.place from.stands from.reached)

  pub all_reached : (number : ℕ) → number < length (edif_cells file) → IsReached (design_below (edif_cells file)) (edif_top file) number
  all_reached number within =
      let there = element_there (edif_cells file) number within in
      let from : ComesFrom file number there.0 = design_from file number there.0 there.1 in
      subst (λ m. IsReached (design_below (edif_cells file)) (edif_top file) m) from.renumbered
      (subst (λ m. IsReached (design_below (edif_cells file)) m (get_or (numbers_in_design file) from.old 0)) (sym top_number)
      (design_reached file clean start is_top from.old (reach_of file start is_top from.old from.reached) from.reached))
