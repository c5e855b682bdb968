-- A file that is written for a design is the same, cell by cell.
use Rattle.std.proofs.Common.{◌≡◌, ◌↔◌, ℕ, zero, suc, ◌+◌, ◌<◌, ◌≤◌, ◌==◌, Bool, true, false, cond, List, [], ◌∷◌, ◌++◌, Option, None, Some, length, map, slice_get, refl, sym, ap, subst, ◌∙◌, append-nil, arith}
use Rattle.std.specs.Prelude.{option_map}
use Rattle.std.proofs.lemmas.List.{length-map}
use Rattle.std.proofs.lemmas.Option.{slice_get-map}
use Rattle.net_graph.proofs.ListLaws.{same_element}
use Rattle.net_graph.proofs.OrderLaws.{StandsIn}
use Rattle.net_hier.specs.Cells.{IsBitOrConstant, IsLocallyConnected}
use Rattle.net_hier.specs.Constants.{AreConstantNames, ConstantNames}
use Rattle.net_hier.specs.Design.{Design, IsCell, top_name}
use Rattle.net_hier.specs.Facts.{SameValues, cell_props}
use Rattle.net_hier.specs.SameCells.{IsPartner, SameCell, SameCells, SameInstance, stand_in}
use Rattle.net_hier.specs.SameDesign.{SameDesign, signature_of}
use Rattle.net_hier.specs.Valid.{HaveOwnNames, IsValid}
use Rattle.net_hier.specs.declared.cells.HCell.{HCell}
use Rattle.net_hier.specs.declared.cells.HInst.{HInst}
use Rattle.net_hier.specs.declared.cells.HPort.{HPort}
use Rattle.net_hier.specs.declared.cells.HProp.{HProp}
use Rattle.net_hier.specs.declared.nodes.Node.{Node}
use Rattle.net_hier.specs.declared.nodes.Node.TheVariants.{Port, Pin, Net, Zero, One}
use Rattle.net_hier.proofs.Partners.{partner_has_paths, partner_owns_instances, valid_has_paths}
use Rattle.net_hier.proofs.Theorem.{same_design as same_by_cells}
use Rattle.vlog_design.specs.Design.{attr_props, vlog_design}
use Rattle.vlog_design.specs.Names.{Name}
use Rattle.vlog_design.specs.Reach.{module_number}
use Rattle.vlog_design.specs.Rules.{first_G}
use Rattle.vlog_values.specs.declared.module.Module.{Module}
use Rattle.vlog_written.specs.Written.{PlainInstance, PlainModule, PlainPort}
use Rattle.vlog_plain.specs.Parts.{instance_in_cell, plain_cell, port_in_cell}
use Rattle.vlog_plain.specs.Plain.{IsPlainFile, plain_file, plain_modules}
use Rattle.vlog_plain.proofs.CellLaws.{cells_are, top_cell}
use Rattle.vlog_plain.proofs.FirstRule.{no_rule_broken}
use Rattle.vlog_plain.proofs.Places.{number_of}
use Rattle.vlog_plain.proofs.Uses.{none_some, some_same}
use Rattle.vlog_partners.specs.Partners.{signature_of_plain}
use Rattle.vlog_partners.proofs.Fitting.{file_is, the_top}
use Rattle.vlog_partners.proofs.Here.{AreModulesFor, Below, Here, below_at, here_for, name_below}
use Rattle.vlog_partners.proofs.Lists.{IsMatched, as_long}
use Rattle.vlog_partners.proofs.Writing.{keeps_connection, keeps_values}

-- what stands at a place of a list that is made of another
made_of : {A B : Type 0} (f : A → B) (xs : List A) (place : ℕ) (y : B) → slice_get (map f xs) place ≡ Some y → IsMatched f xs place y
made_of f [] place y e = absurd (cc)
made_of f (x ∷ xs) zero y e = record { item = x; is_there = refl; is_value = sym (some_same (f x) y e) }
made_of f (x ∷ xs) (suc place) y e = let r = made_of f xs place y e in record { item = r.item; is_there = r.is_there; is_value = r.is_value }

signatures : (ports : List PlainPort) → map signature_of (map port_in_cell ports) ≡ map signature_of_plain ports
signatures [] = refl
signatures (port ∷ ports) = ap (λ l. signature_of_plain port ∷ l) (signatures ports)

-- no constant has an instance of its own
abbrev none_added : Bool → Option ℕ
none_added value = None

stays : (x : Node) → stand_in none_added x ≡ x
stays (Port port bit) = refl
stays (Pin instance port bit) = refl
stays (Net net) = refl
stays Zero = refl
stays One = refl

same_props_twice : (b : Bool) (props : List HProp) → cond b (props ++ []) props ≡ props
same_props_twice true props = append-nil props
same_props_twice false props = refl

module _ (design : Design) (ps : List PlainModule) (valid : IsValid design) (are : AreModulesFor design ps) (own : HaveOwnNames (λ (cell : HCell). cell.name) design.cells) where
  abbrev modules : List Module
  modules = plain_modules ps

  abbrev top : StandsIn design.order design.top
  top = the_top design ps valid are

  abbrev name : Name
  name = top_name design.cells design.top

  pub file : IsPlainFile ps (the_top design ps valid are).place (top_name design.cells design.top)
  file = file_is design ps valid are own

  module _ (names : ConstantNames) (other : Design) (cells : other.cells ≡ (vlog_design (plain_file ps) (top_name design.cells design.top)).cells) (tops : other.top ≡ (vlog_design (plain_file ps) (top_name design.cells design.top)).top) (props : other.props ≡ (vlog_design (plain_file ps) (top_name design.cells design.top)).props) where
    all_cells : other.cells ≡ map (plain_cell modules) ps
    all_cells = cells ∙ cells_are ps top.place name file

    no_props : other.props ≡ []
    unfolding vlog_design
    no_props = props

    top_place : other.top ≡ top.place
    top_place = tops ∙ top_cell ps top.place name file

    cell_there : (place : ℕ) (here : Here design ps place) → IsCell other.cells place (plain_cell modules here.p)
    cell_there place here = ap (λ (cs : List HCell). slice_get cs place) all_cells ∙ (slice_get-map (plain_cell modules) ps place ∙ ap (option_map (plain_cell modules)) here.is_module)

    module _ (place : ℕ) (here : Here design ps place) where
      abbrev partner : HCell
      partner = plain_cell modules here.p

      partner_props : cell_props other place partner ≡ attr_props here.p.attrs
      partner_props =
          ap (λ (more : List HProp). cond (place == other.top) (attr_props here.p.attrs ++ more) (attr_props here.p.attrs)) no_props ∙ same_props_twice (place == other.top) (attr_props here.p.attrs)

      port_props : (number : ℕ) (port counterpart : HPort) → slice_get here.cell.ports number ≡ Some port → slice_get partner.ports number ≡ Some counterpart → SameValues port.props counterpart.props
      port_props number port counterpart e f =
          let w : IsMatched port_in_cell here.p.ports number counterpart = made_of port_in_cell here.p.ports number counterpart f in
          subst (λ (t : HPort). SameValues port.props t.props) (sym w.is_value) (here.is_for.same_port_props number port w.item e w.is_there)

      same_instance : (t : ℕ) (written : PlainInstance) (b : Below design ps place here t written) → SameInstance design None b.instance (instance_in_cell modules written)
      same_instance t written b =
          let number : module_number modules written.of ≡ b.before = ap (module_number modules) (sym (name_below design ps valid are place here t written b)) ∙ number_of ps b.before b.there.p file.distinct b.there.is_module in
          record {
            same_name = b.is_for.same_name;
            same_cell = (b.before, b.there.is_number ∙ ap Some b.same_number, number ∙ (let e : b.before ≡ 0 + b.before = omega arith in e));
            same_props = b.is_for.same_props;
          }

      instances : (t : ℕ) (instance : HInst) → slice_get here.cell.instances t ≡ Some instance → (counterpart : HInst) × (slice_get partner.instances t ≡ Some counterpart) × SameInstance design None instance counterpart
      instances t instance e =
          let w = as_long here.cell.instances here.p.instances here.is_for.as_many t instance e in
          let b : Below design ps place here t w.0 = below_at design ps valid are place here t w.0 w.1 in
          let same : b.instance ≡ instance = same_element here.cell.instances t b.instance instance b.is_instance e in (
            instance_in_cell modules w.0,
            slice_get-map (instance_in_cell modules) here.p.instances t ∙ ap (option_map (instance_in_cell modules)) w.1,
            subst (λ (i : HInst). SameInstance design None i (instance_in_cell modules w.0)) same (same_instance t w.0 b),
          )

      none_more : (t : ℕ) → length here.cell.instances ≤ t → t < length partner.instances → ⊥
      none_more t h k =
          let long : length partner.instances ≡ length here.p.instances = length-map here.p.instances (instance_in_cell modules) in
          let count = here.is_for.as_many in
          omega (arith, h, k, long, count)

      connection : (x y : Node) → IsBitOrConstant design.cells here.cell x → IsBitOrConstant design.cells here.cell y → IsLocallyConnected here.cell x y ↔ IsLocallyConnected partner (stand_in none_added x) (stand_in none_added y)
      connection x y h k =
          subst (λ u. IsLocallyConnected here.cell x y ↔ IsLocallyConnected partner u (stand_in none_added y)) (sym (stays x))
          (subst (λ v. IsLocallyConnected here.cell x y ↔ IsLocallyConnected partner x v) (sym (stays y)) (keeps_connection design ps valid are own place here x y h k))

      same_cell : SameCell names design other None here.number place here.cell partner
      same_cell = record {
        same_name = here.is_for.same_name;
        same_ports = here.is_for.same_ports ∙ sym (signatures here.p.ports);
        same_props = subst (SameValues (cell_props design here.number here.cell)) (sym partner_props) here.is_for.same_props;
        same_port_props = port_props;
        same_instances = instances;
        added = none_added;
        as_needed = λ value. refl;
        added_after = λ value t e. absurd (none_some t e);
        added_alone = λ t h k. absurd (none_more t h k);
        zero_first = λ t u e f. absurd (none_some t e);
        same_connection = connection;
        same_port_nets = λ port bit is property value. keeps_values design ps valid are own place here (Port port bit) is property value;
        same_pin_nets = λ instance port bit is property value. keeps_values design ps valid are own place here (Pin instance port bit) is property value;
      }

    -- a partner of a number
    abbrev HasPartner : ℕ → ℕ → HCell → Type 0
    HasPartner number onumber cell = (partner : HCell) × IsCell other.cells onumber partner × SameCell names design other None number onumber cell partner

    partner_of : (number onumber : ℕ) (cell : HCell) → IsPartner design None number onumber → IsCell design.cells number cell → HasPartner number onumber cell
    partner_of number onumber cell is e =
        let here : Here design ps is.0 = here_for design ps valid are is.0 number is.1 in
        let numbers : here.number ≡ number = same_element design.order is.0 here.number number here.is_number is.1 in
        let cells_same : here.cell ≡ cell = same_element design.cells number here.cell cell (subst (λ n. IsCell design.cells n here.cell) numbers here.is_cell) e in
        let onumbers : is.0 ≡ onumber = let o = is.2 in omega (arith, o) in
        subst (λ c. HasPartner number onumber c) cells_same
        (subst (λ n. HasPartner n onumber here.cell) numbers
        (subst (λ o. HasPartner here.number o here.cell) onumbers (plain_cell modules here.p, cell_there is.0 here, same_cell is.0 here)))

    as_many : length other.cells ≡ 0 + length design.order
    as_many =
        let count : length (map (plain_cell modules) ps) ≡ length ps = length-map ps (plain_cell modules) in
        let all : length other.cells ≡ length (map (plain_cell modules) ps) = ap length all_cells in
        let order = are.as_many in
        omega (arith, all, count, order)

    pub same_cells : SameCells names design other None
    same_cells = record {
      first = tt;
      no_more = as_many;
      same_top = (top.place, top.is_there, top_place ∙ (let e : top.place ≡ 0 + top.place = omega arith in e));
      same_cells = partner_of;
    }

    -- and so as a whole
    pub same_design : AreConstantNames names → SameDesign names design other
    same_design constants =
        same_by_cells names design other None (valid_has_paths design valid) (partner_has_paths names design other None valid same_cells (partner_owns_instances names design other valid same_cells)) same_cells constants

  -- no rule is broken
  pub no_refusal : first_G (plain_file ps) (top_name design.cells design.top) ≡ None
  no_refusal = no_rule_broken ps top.place name file
