-- A file that is made of a design breaks none of the rules E1 to E12.
use Rattle.std.proofs.Common.{◌≡◌, ◌⊎◌, inl, inr, ℕ, zero, suc, Bool, true, false, List, [], ◌∷◌, ◌++◌, Option, Some, get_or, map, refl, sym, ap, ◌∙◌, subst}
use Rattle.std.specs.Prelude.{is_none, is_some, slice_get}
use Rattle.std.proofs.lemmas.Bool.{false≢true}
use Rattle.edif_values.specs.Names.{original}
use Rattle.edif_values.specs.declared.name.NameDef.{NameDef}
use Rattle.edif_values.specs.declared.cell.Cell.{Cell}
use Rattle.edif_values.specs.declared.view.View.{View}
use Rattle.edif_values.specs.declared.instance.Instance.{Instance}
use Rattle.edif_values.specs.declared.net.Net.{Net}
use Rattle.edif_values.specs.declared.port.Port.{Port}
use Rattle.net_hier.specs.Constants.{ConstantNames, name_of_constant}
use Rattle.net_hier.specs.Design.{Design, IsCell}
use Rattle.net_hier.specs.Valid.{IsGoodCell}
use Rattle.net_hier.specs.declared.cells.HCell.{HCell}
use Rattle.edif_lookup.specs.Candidates.{candidates, the_only}
use Rattle.edif_meanings.specs.Apart.{AreApart}
use Rattle.edif_design.specs.CellRules.{cell_refusals, is_bad_size, means_view, port_ident, port_name, size_of}
use Rattle.edif_design.specs.FileRules.{refusals}
use Rattle.edif_design.specs.Parts.{numbered, ports, views}
use Rattle.edif_design.specs.References.{LinkedCell, linked_cell, place_in}
use Rattle.edif_lookup.specs.Refusals.{is_in}
use Rattle.edif_written.specs.Naming.{name_for}
use Rattle.edif_written.specs.Written.{cell_of, file_of, netlist}
use Rattle.edif_written.proofs.CellLaws.{AreInstances, AreNets, ArePorts, cell_none}
use Rattle.edif_written.proofs.Rules.{file_none}
use Rattle.edif_plans.specs.Made.{output_for}
use Rattle.edif_plans.specs.Plans.{head_at, head_of, number_of}
use Rattle.edif_plans.specs.declared.plan.Plan.{Plan}
use Rattle.edif_partners.specs.Files.{AreMadeCells, IsNewCell, IsOldCell}
use Rattle.edif_partners.specs.Placed.{ArePlaced}
use Rattle.edif_partners.proofs.CellRules.{made_none}

-- one item stands behind none
no_split : {A : Type 0} (before : List A) (x : A) (after : List A) → before ++ x ∷ after ≡ [] → ⊥
no_split [] x after e = cc
no_split (b ∷ before) x after e = cc

first_alone : (before : List Port) (x : Port) (after : List Port) (port : Port) → before ++ x ∷ after ≡ port ∷ [] → is_in (port_name x) (map port_name before) ≡ false
first_alone [] x after port e = refl
first_alone (b ∷ before) x after port e = absurd (no_split before x after (let f : before ++ x ∷ after ≡ [] = cc in f))

one_size : (ident name : List ℕ) (i : ℕ) (x : Port) → slice_get (output_for ident name ∷ []) i ≡ Some x → is_bad_size (size_of x.name) ≡ false
one_size ident name zero x there = subst (λ (p : Port). is_bad_size (size_of p.name) ≡ false) (let e : output_for ident name ≡ x = cc in e) refl
one_size ident name (suc i) x there = absurd cc

one_port : (ident name : List ℕ) → ArePorts (output_for ident name ∷ [])
unfolding AreApart
one_port ident name = record { apart = (refl, tt); names = λ before x after e. first_alone before x after (output_for ident name) e; sizes = one_size ident name }

-- a cell that has the view has one
has_view : (cell : Cell) → means_view cell netlist ≡ true → is_none (slice_get (views cell) 0) ≡ false
has_view cell h = by (views cell) h
  where
    by : (vs : List View) → is_some (the_only (candidates (λ (v : View). v.name.ident) (numbered vs) netlist)) ≡ true → is_none (slice_get vs 0) ≡ false
    by [] t = absurd (false≢true t)
    by (v ∷ vs) t = refl

module _ (name design_name : NameDef) (cells : List Cell) (top : List ℕ) (names : ConstantNames) (design : Design) (plan : Plan) (are : AreMadeCells names design plan cells) (good : (number : ℕ) (cell : HCell) → IsCell design.cells number cell → IsGoodCell design.cells cell) where
  no_instances : AreInstances name design_name cells top are.placed.apart are.placed.viewed []
  unfolding AreApart
  no_instances = record { apart = tt; names = λ before x after e. absurd (no_split before x after e); each = λ i x there. absurd cc }

  no_nets : (linked : LinkedCell) → AreNets name design_name cells top are.placed.apart are.placed.viewed linked []
  unfolding AreApart
  no_nets linked = record { apart = tt; each = λ before x after e. absurd (no_split before x after e) }

  new_none : (number : ℕ) (made : Cell) → IsNewCell names plan number made → cell_refusals (file_of name design_name cells top) (place_in 0 made) ≡ []
  new_none number made is =
      let cell_name : NameDef = name_for (head_at plan number).cell (name_of_constant names is.value).cell in
      let port : Port = output_for (get_or (head_at plan number).ports 0 []) (name_of_constant names is.value).port in
      subst (λ (d : Cell). cell_refusals (file_of name design_name cells top) (place_in 0 d) ≡ []) (sym is.is_made)
      (cell_none name design_name cells top are.placed.apart are.placed.viewed cell_name (port ∷ []) [] [] []
      (one_port (get_or (head_at plan number).ports 0 []) (name_of_constant names is.value).port) no_instances
      (no_nets (linked_cell (file_of name design_name cells top) (place_in 0 (cell_of cell_name (port ∷ []) [] [] [])))))

  old_none : (made : Cell) → IsOldCell design plan made → cell_refusals (file_of name design_name cells top) (place_in 0 made) ≡ []
  old_none made is =
      let stands = are.placed.stand is.number is.cell is.is_there in
      let apart : AreApart (head_of plan is.number).ports = subst AreApart (sym stands.head.ports_named) (are.placed.ports_apart (number_of plan is.number) stands.made stands.is_there) in
      made_none name design_name cells top design.cells plan are.placed (head_of plan is.number) is.cell _ is.classes made is.is_made apart is.are_classes (good is.number is.cell is.is_there)
      (λ value needed. are.constants is.number is.cell is.classes value is.is_there is.are_classes needed)

  pub made_file_none : (k : ℕ) (top_cell : Cell) → slice_get cells k ≡ Some top_cell → top ≡ top_cell.name.ident → refusals (file_of name design_name cells top) ≡ []
  made_file_none k top_cell there is_top = file_none name design_name cells top are.placed.apart
      (λ i made at. elim (are.each i made at) as (λ _. cell_refusals (file_of name design_name cells top) (place_in 0 made) ≡ []) [ inl new ↦ new_none i made new | inr old ↦ old_none made old ])
      k top_cell there is_top (has_view top_cell (are.placed.viewed k top_cell there))
