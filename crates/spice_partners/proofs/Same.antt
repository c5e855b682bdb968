-- The design of the subcircuits of a design has the same pins.
use Rattle.std.proofs.Common.{◌≡◌, ℕ, List, [], ◌∷◌, length, map, refl, sym, ◌∙◌, ap, subst}
use Rattle.std.specs.Prelude.{◌↔◌}
use Rattle.std.proofs.lemmas.List.{length-map}
use Rattle.net_graph.proofs.ListLaws.{empty_list}
use Rattle.net_hier.specs.Design.{Design}
use Rattle.net_hier.specs.Flat.{At}
use Rattle.net_hier.specs.Paths.{CellAt, Path}
use Rattle.net_hier.specs.Valid.{HasPaths, IsValid}
use Rattle.net_hier.specs.declared.cells.HCell.{HCell}
use Rattle.net_hier.specs.declared.cells.HInst.{HInst}
use Rattle.net_hier.specs.declared.cells.HPort.{HPort}
use Rattle.net_hier.specs.declared.nodes.Node.TheVariants.{Port}
use Rattle.net_hier.proofs.Partners.{valid_has_paths}
use Rattle.net_hier.proofs.PathLaws.{one_cell}
use Rattle.spice_text.specs.declared.file.SpiceFile.{SpiceFile}
use Rattle.spice_text.specs.declared.file.Subckt.{Subckt}
use Rattle.to_spice_rules.specs.Answers.{KeepsRules}
use Rattle.to_spice_rules.specs.PortWords.{port_words}
use Rattle.to_spice_rules.proofs.Kept.{has_name}
use Rattle.spice_partners.specs.Partners.{AreSubcktsFor, IsSubcktFor}
use Rattle.spice_partners.specs.Places.{place_of}
use Rattle.spice_partners.specs.Plain.{IsPlainlyConnected}
use Rattle.spice_partners.specs.SamePins.{HasPinsAt, HasPlainLeaf, IsPinAt, SamePins, of_leaf, of_top}
use Rattle.spice_partners.specs.SpiceDesign.{cell_in, instance_in, scalar_port, spice_design}
use Rattle.spice_partners.proofs.Over.{goes_over}
use Rattle.spice_partners.proofs.Paths.{IsOrigin, PairAt, mapped, origin, other_paths, pair_back, pair_of}
use Rattle.spice_partners.proofs.Plain.{HasNames, to_connected, to_plain}

-- a cell with pins is at its path
at_pins : (design : Design) (path : Path) (cell : HCell) → HasPinsAt design path cell → CellAt design path cell
at_pins design path cell (of_top is_cell) = record { number = design.top; leads = refl; is_cell = is_cell }
at_pins design path cell (of_leaf leaf) = leaf.at

words_back : (words : List (List ℕ)) → map (λ (port : HPort). port.name) (map scalar_port words) ≡ words
words_back [] = refl
words_back (word ∷ words) = ap (λ l. word ∷ l) (words_back words)

module _ (design : Design) (valid : IsValid design) (keeps : KeepsRules design.cells) (file : SpiceFile) (are : AreSubcktsFor design file.cells) where
  abbrev other : Design
  other = spice_design file

  paths : HasPaths design
  paths = valid_has_paths design valid

  opaths : HasPaths other
  opaths = other_paths design valid keeps file are

  abbrev Pair : Path → HCell → Type 0
  Pair = PairAt design valid keeps file are

  named : HasNames design
  named number cell is_cell = has_name design.cells keeps number cell is_cell

  onamed : HasNames other
  onamed number cell is_cell e =
      let s = mapped (cell_in file.cells) file.cells number cell is_cell in
      let o : IsOrigin design valid keeps file are number s.0 = origin design valid keeps file are number s.0 s.1 in
      named o.number o.written.cell o.written.is_cell (sym o.written.is_for.same_name ∙ (ap (λ (c : HCell). c.name) s.2 ∙ e))

  -- ---- cells without instances
  none_there : (cell : HCell) (subckt : Subckt) → IsSubcktFor design.cells cell subckt → cell.instances ≡ [] → (cell_in file.cells subckt).instances ≡ []
  none_there cell subckt is none = empty_list _ (length-map subckt.calls (instance_in file.cells) ∙ (is.as_many ∙ ap (λ (l : List HInst). length l) none))

  none_here : (cell : HCell) (subckt : Subckt) → IsSubcktFor design.cells cell subckt → (cell_in file.cells subckt).instances ≡ [] → cell.instances ≡ []
  none_here cell subckt is none = empty_list _ (sym is.as_many ∙ (sym (length-map subckt.calls (instance_in file.cells)) ∙ ap (λ (l : List HInst). length l) none))

  leaf_forth : (path : Path) (name : List ℕ) → HasPlainLeaf design path name → HasPlainLeaf other path name
  leaf_forth path name h =
      let pair : Pair path h.cell = pair_of design valid keeps file are path h.cell h.is_leaf.at in
      record { cell = cell_in file.cells pair.subckt; is_leaf = record { at = pair.there; no_instances = none_there h.cell pair.subckt pair.is_for h.is_leaf.no_instances }; is_named = pair.is_for.same_name ∙ h.is_named }

  leaf_back : (path : Path) (name : List ℕ) → HasPlainLeaf other path name → HasPlainLeaf design path name
  leaf_back path name h =
      let found = pair_back design valid keeps file are path h.cell h.is_leaf.at in
      let pair : Pair path found.0 = found.1 in
      let none : (cell_in file.cells pair.subckt).instances ≡ [] = subst (λ (c : HCell). c.instances ≡ []) found.2 h.is_leaf.no_instances in
      record { cell = found.0; is_leaf = record { at = pair.at; no_instances = none_here found.0 pair.subckt pair.is_for none }; is_named = sym pair.is_for.same_name ∙ (sym (ap (λ (c : HCell). c.name) found.2) ∙ h.is_named) }

  -- ---- words and connection
  words : (path : Path) (cell ocell : HCell) → HasPinsAt design path cell → HasPinsAt other path ocell → port_words cell ≡ map (λ (port : HPort). port.name) ocell.ports
  words path cell ocell has ohas =
      let pair : Pair path cell = pair_of design valid keeps file are path cell (at_pins design path cell has) in
      let same : ocell ≡ cell_in file.cells pair.subckt = one_cell other opaths path ocell (cell_in file.cells pair.subckt) (at_pins other path ocell ohas) pair.there in
      sym (ap (λ (c : HCell). map (λ (port : HPort). port.name) c.ports) same ∙ (words_back pair.subckt.ports ∙ pair.is_for.same_ports))

  connection : (path opath : Path) (cell ocell : HCell) (port bit oport obit : ℕ) → IsPinAt design path cell port bit → IsPinAt design opath ocell oport obit →
      IsPlainlyConnected design (At path (Port port bit)) (At opath (Port oport obit)) ↔ IsPlainlyConnected other (At path (Port (place_of cell port bit) 0)) (At opath (Port (place_of ocell oport obit) 0))
  connection path opath cell ocell port bit oport obit pin opin =
      let over = goes_over design valid keeps file are named onamed path opath cell ocell (at_pins design path cell pin.has_pins) (at_pins design opath ocell opin.has_pins) port bit oport obit pin.is_bit opin.is_bit in
      (λ link. to_plain other onamed _ _ (over.0 (to_connected design named _ _ link)), λ link. to_plain design named _ _ (over.1 (to_connected other onamed _ _ link)))

  pub same_pins : SamePins design (spice_design file)
  same_pins = record { same_leaves = λ path name. (leaf_forth path name, leaf_back path name); same_words = words; same_connection = connection }
