-- Plain modules that are written for the cells of a design fit together.
use Rattle.std.proofs.Common.{◌≡◌, inl, inr, ℕ, ◌<◌, ◌≤◌, List, [], ◌∷◌, ◌++◌, Option, Some, length, map, slice_get, refl, sym, ap, subst, ◌∙◌, arith, Contains}
use Rattle.std.specs.Prelude.{option_map}
use Rattle.std.specs.Option.{option_map_or}
use Rattle.std.proofs.lemmas.Option.{slice_get-map, slice_get_within}
use Rattle.net_graph.specs.Graph.{IsAbove}
use Rattle.net_graph.specs.Walks.{IsLinked, Leads}
use Rattle.net_graph.proofs.ListLaws.{same_element}
use Rattle.net_graph.proofs.OrderLaws.{StandsIn, contained, visits_lists}
use Rattle.net_graph.proofs.WalkLaws.{linked_along, linked_by, linked_itself}
use Rattle.net_hier.specs.Cells.{width_of}
use Rattle.net_hier.specs.Design.{Design, below_of, cells_below, top_name}
use Rattle.net_hier.specs.SameDesign.{PortSignature, signature_of}
use Rattle.net_hier.specs.Valid.{HaveOwnNames, IsPortWidth, IsValid}
use Rattle.net_hier.specs.declared.cells.HCell.{HCell}
use Rattle.net_hier.specs.declared.cells.HInst.{HInst}
use Rattle.net_hier.specs.declared.cells.HPort.{HPort}
use Rattle.net_stars.specs.Stars.{Hubs}
use Rattle.vlog_values.specs.declared.expression.Expr.{Expr}
use Rattle.vlog_values.specs.declared.statement.Assignment.{Assignment}
use Rattle.vlog_values.specs.declared.statement.NamedConn.{NamedConn}
use Rattle.vlog_written.specs.OwnNames.{AreDistinct, instances_named, ports_named, wires_named}
use Rattle.vlog_written.specs.Written.{PlainInstance, PlainModule, PlainPort}
use Rattle.vlog_written.proofs.Members.{distinct_left, there_at}
use Rattle.vlog_plain.specs.Plain.{IsBitExpr, IsOver, IsPinValue, IsPlainConn, IsPlainFile, IsPlainInstance, IsPlainModule, each_bit, one_bit, open_pin}
use Rattle.vlog_partners.specs.Partners.{IsHubAssign, IsPinOf, each_hub, signature_of_plain, no_hub, one_hub}
use Rattle.vlog_partners.proofs.Here.{AreModulesFor, Below, Here, all_below, below_at, here_at, here_for, name_below, once}
use Rattle.vlog_partners.proofs.Lists.{IsMatched, as_long, distinct_names, matched}

-- what a pin is connected to
pin_value : (p : PlainModule) (hubs : Hubs) (number port width : ℕ) (value : Option Expr) → IsPinOf p hubs number port width value → IsPinValue p width value
pin_value p hubs number port width value (no_hub bare e) = open_pin e
pin_value p hubs number port width value (one_hub hub expr has is w e) = one_bit expr (hub, is) w e
pin_value p hubs number port width value (each_hub exprs are w e) = each_bit exprs (λ expr m. let s : StandsIn exprs expr = contained exprs expr m in let r = are s.place expr s.is_there in (r.0, r.2)) w e

sides_bits : (p : PlainModule) (set : Assignment) → (cells : List HCell) (cell : HCell) (hubs : Hubs) → IsHubAssign cells cell hubs p set → IsBitExpr p set.left × IsBitExpr p set.right
sides_bits p set cells cell hubs a = elim a.sides as (λ _. IsBitExpr p set.left × IsBitExpr p set.right) [
  | inl s ↦ ((a.terminal, s.0), (a.hub, s.1))
  | inr s ↦ ((a.hub, s.0), (a.terminal, s.1))
]

-- the names of the ports of a cell are those that are written
signature_names : (ports : List HPort) (written : List PlainPort) → map signature_of ports ≡ map signature_of_plain written → map (λ (port : HPort). port.name) ports ≡ map (λ (port : PlainPort). port.name) written
signature_names ports written e = sym (over_signature ports) ∙ (ap (map (λ (signature : PortSignature). signature.name)) e ∙ over_plain written)
  where
    over_signature : (ports : List HPort) → map (λ (signature : PortSignature). signature.name) (map signature_of ports) ≡ map (λ (port : HPort). port.name) ports
    over_signature [] = refl
    over_signature (port ∷ ports) = ap (λ l. port.name ∷ l) (over_signature ports)

    over_plain : (written : List PlainPort) → map (λ (signature : PortSignature). signature.name) (map signature_of_plain written) ≡ map (λ (port : PlainPort). port.name) written
    over_plain [] = refl
    over_plain (port ∷ written) = ap (λ l. port.name ∷ l) (over_plain written)

module _ (design : Design) (ps : List PlainModule) (valid : IsValid design) (are : AreModulesFor design ps) where
  module _ (place : ℕ) (here : Here design ps place) where
    narrow : (port : PlainPort) → Contains here.p.ports port → width_of port.range ≤ 65536
    narrow port m =
        let s : StandsIn here.p.ports port = contained here.p.ports port m in
        let f : IsMatched signature_of here.cell.ports s.place (signature_of_plain port) = matched signature_of_plain signature_of here.p.ports here.cell.ports (sym here.is_for.same_ports) s.place port s.is_there in
        let w : IsPortWidth f.item = (valid.good_cells here.number here.cell here.is_cell).widths s.place f.item f.is_there in
        let e : width_of port.range ≡ width_of f.item.range = ap (λ (signature : PortSignature). width_of signature.range) f.is_value in
        omega (arith, w.1, e)

    module _ (t : ℕ) (written : PlainInstance) (b : Below design ps place here t written) where
      -- the ports of the cell below are those of the module below
      pub ports_below : map signature_of b.is_for.below.ports ≡ map signature_of_plain b.there.p.ports
      ports_below = ap (λ (c : HCell). map signature_of c.ports) b.same_cell ∙ b.there.is_for.same_ports

      pub conn_names : map (λ (conn : NamedConn). conn.port) written.conns ≡ ports_named b.there.p
      conn_names = b.is_for.each_port ∙ signature_names b.is_for.below.ports b.there.p.ports ports_below

      conn_is : (conn : NamedConn) → Contains written.conns conn → IsPlainConn here.p b.there.p conn
      conn_is conn m =
          let s : StandsIn written.conns conn = contained written.conns conn m in
          let q : IsMatched (λ (port : HPort). port.name) b.is_for.below.ports s.place conn.port = matched (λ (c : NamedConn). c.port) (λ (port : HPort). port.name) written.conns b.is_for.below.ports b.is_for.each_port s.place conn s.is_there in
          let f : IsMatched signature_of_plain b.there.p.ports s.place (signature_of q.item) = matched signature_of signature_of_plain b.is_for.below.ports b.there.p.ports ports_below s.place q.item q.is_there in
          record {
            place = s.place;
            port = f.item;
            is_port = f.is_there;
            is_named = q.is_value ∙ ap (λ (signature : PortSignature). signature.name) f.is_value;
            is_value = subst (λ width. IsPinValue here.p width conn.value) (ap (λ (signature : PortSignature). width_of signature.range) f.is_value)
                (pin_value here.p here.is_for.hubs t s.place (width_of q.item.range) conn.value (b.is_for.pins s.place q.item conn q.is_there s.is_there));
          }

      instance_is : IsPlainInstance ps place here.p written
      instance_is = record {
        below_place = b.before;
        falls = b.falls;
        below = b.there.p;
        is_below = b.there.is_module;
        is_named = name_below design ps valid are place here t written b;
        conns = conn_is;
        ports_once = subst AreDistinct (sym conn_names) (distinct_left (ports_named b.there.p) (instances_named b.there.p ++ wires_named b.there.p) b.there.is_for.distinct);
        params_once = b.is_for.params_once;
      }

    pub module_is : IsPlainModule ps place here.p
    module_is = record {
      distinct = here.is_for.distinct;
      narrow = narrow;
      assigns = λ set m. sides_bits here.p set design.cells here.cell here.is_for.hubs (here.is_for.assigns set m);
      instances = λ written m. let s : StandsIn here.p.instances written = contained here.p.instances written m in instance_is s.place written (below_at design ps valid are place here s.place written s.is_there);
    }

  -- a module at an outer place has an instance of that at an inner one
  over : (outer inner a b : ℕ) → slice_get design.order outer ≡ Some a → slice_get design.order inner ≡ Some b → IsAbove (cells_below design.cells) a b → IsOver ps outer inner
  over outer inner a b e f above =
      let h : Here design ps outer = here_for design ps valid are outer a e in
      let number : h.number ≡ a = same_element design.order outer h.number a h.is_number e in
      let row : above.numbers ≡ below_of h.cell = same_element (cells_below design.cells) a above.numbers (below_of h.cell) above.are_below (subst (λ n. slice_get (cells_below design.cells) n ≡ Some (below_of h.cell)) number (matched_row h)) in
      let i : IsMatched (λ (i : HInst). i.cell) h.cell.instances above.place b = matched (λ (n : ℕ). n) (λ (i : HInst). i.cell) above.numbers h.cell.instances (each above.numbers ∙ row) above.place b above.is_there in
      let w = as_long h.cell.instances h.p.instances h.is_for.as_many above.place i.item i.is_there in
      let below : Below design ps outer h above.place w.0 = below_at design ps valid are outer h above.place w.0 w.1 in
      let same_instance : i.item ≡ below.instance = same_element h.cell.instances above.place i.item below.instance i.is_there below.is_instance in
      let same : b ≡ below.there.number = i.is_value ∙ (ap (λ (x : HInst). x.cell) same_instance ∙ sym below.same_number) in
      let where_it_is : below.before ≡ inner = once design ps valid are below.before inner b (below.there.is_number ∙ ap Some (sym same)) f in
      record {
        p = h.p;
        is_outer = h.is_module;
        instance = w.0;
        is_instance = there_at h.p.instances above.place w.0 w.1;
        below = below.there.p;
        is_inner = subst (λ n. slice_get ps n ≡ Some below.there.p) where_it_is below.there.is_module;
        is_named = name_below design ps valid are outer h above.place w.0 below;
      }
    where
      each : (numbers : List ℕ) → map (λ (n : ℕ). n) numbers ≡ numbers
      each [] = refl
      each (n ∷ numbers) = ap (λ l. n ∷ l) (each numbers)

      matched_row : (h : Here design ps outer) → slice_get (cells_below design.cells) h.number ≡ Some (below_of h.cell)
      matched_row h = slice_get-map below_of design.cells h.number ∙ ap (option_map below_of) h.is_cell

  -- a walk over cells is one over places
  walk : (place a : ℕ) (numbers : List ℕ) (b : ℕ) → slice_get design.order place ≡ Some a → Leads (IsAbove (cells_below design.cells)) a numbers b → (other : ℕ) × (slice_get design.order other ≡ Some b) × IsLinked (IsOver ps) place other
  walk place a [] b e lead = (place, e ∙ ap Some lead, linked_itself (IsOver ps) place)
  walk place a (next ∷ numbers) b e lead =
      let above : IsAbove (cells_below design.cells) a next = lead.0 in
      let step = all_below design ps valid are place a above.numbers above.place next e above.are_below above.is_there in
      let rest = walk step.0 next numbers b step.2 lead.1 in
      (rest.0, rest.1, linked_along (linked_by (over place step.0 a next e step.2 above)) rest.2)

  pub the_top : StandsIn design.order design.top
  the_top = visits_lists (cells_below design.cells) design.top valid.postorder

  module _ (own : HaveOwnNames (λ (cell : HCell). cell.name) design.cells) where
    own_modules : HaveOwnNames (λ (p : PlainModule). p.name) ps
    own_modules place other p q e f same =
        let h : Here design ps place = here_at design ps valid are place (slice_get_within ps place p e) in
        let g : Here design ps other = here_at design ps valid are other (slice_get_within ps other q f) in
        let one : h.p ≡ p = same_element ps place h.p p h.is_module e in
        let two : g.p ≡ q = same_element ps other g.p q g.is_module f in
        let names : h.cell.name ≡ g.cell.name = h.is_for.same_name ∙ (ap (λ (r : PlainModule). r.name) one ∙ (same ∙ (sym (ap (λ (r : PlainModule). r.name) two) ∙ sym g.is_for.same_name))) in
        let numbers : h.number ≡ g.number = own h.number g.number h.cell g.cell h.is_cell g.is_cell names in
        once design ps valid are place other g.number (h.is_number ∙ ap Some numbers) g.is_number

    top_here : Here design ps the_top.place
    top_here = here_for design ps valid are the_top.place design.top the_top.is_there

    reached_all : (place : ℕ) → place < length ps → IsLinked (IsOver ps) the_top.place place
    reached_all place within =
        let h : Here design ps place = here_at design ps valid are place within in
        let reached = valid.reached h.number (slice_get_within design.cells h.number h.cell h.is_cell) in
        let r = walk the_top.place design.top reached.places h.number the_top.is_there reached.lead in
        let same : r.0 ≡ place = once design ps valid are r.0 place h.number r.1 h.is_number in
        subst (IsLinked (IsOver ps) the_top.place) same r.2

    top_named : top_here.p.name ≡ top_name design.cells design.top
    top_named =
        let number : top_here.number ≡ design.top = same_element design.order the_top.place top_here.number design.top top_here.is_number the_top.is_there in
        sym top_here.is_for.same_name
        ∙ sym (ap (λ (o : Option HCell). option_map_or (λ (cell : HCell). cell.name) o []) (subst (λ n. slice_get design.cells n ≡ Some top_here.cell) number top_here.is_cell))

    -- the file
    pub file_is : IsPlainFile ps the_top.place (top_name design.cells design.top)
    file_is = record {
      distinct = distinct_names (λ (p : PlainModule). p.name) ps own_modules;
      modules = λ place p e. let h : Here design ps place = here_at design ps valid are place (slice_get_within ps place p e) in subst (IsPlainModule ps place) (same_element ps place h.p p h.is_module e) (module_is place h);
      the_top = top_here.p;
      is_top = top_here.is_module;
      top_named = top_named;
      reached = reached_all;
    }
