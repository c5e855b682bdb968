-- Modules that are written for the cells of a design, as a file of plain modules.
use Rattle.std.proofs.Common.{◌≡◌, ℕ, zero, suc, List, [], ◌∷◌, None, Some, length, slice_get, refl, ap, subst, ◌∙◌, arith}
use Rattle.std.proofs.lemmas.List.{length-map}
use Rattle.std.proofs.lemmas.Option.{slice_get_within}
use Rattle.net_graph.proofs.ListLaws.{element_there, same_element}
use Rattle.net_hier.specs.Constants.{AreConstantNames, ConstantNames}
use Rattle.net_hier.specs.Design.{Design, IsCell, top_name}
use Rattle.net_hier.specs.SameCells.{SameCells}
use Rattle.net_hier.specs.SameDesign.{SameDesign}
use Rattle.net_hier.specs.Valid.{HaveOwnNames, IsValid}
use Rattle.net_hier.specs.declared.cells.HCell.{HCell}
use Rattle.vlog_design.specs.Design.{vlog_design}
use Rattle.vlog_design.specs.Rules.{first_G}
use Rattle.vlog_values.specs.declared.module.Module.{Module}
use Rattle.vlog_values.specs.declared.module.VlogFile.{VlogFile}
use Rattle.vlog_written.specs.Written.{PlainModule, plain_module}
use Rattle.vlog_plain.specs.Plain.{plain_file, plain_modules}
use Rattle.vlog_partners.specs.Partners.{AreWritten, IsModuleFor, IsWritten}
use Rattle.vlog_partners.proofs.Here.{AreModulesFor}
use Rattle.vlog_partners.proofs.Same.{no_refusal, same_cells, same_design}

-- modules as plain ones, of which something holds at each place
record Collected (Holds : ℕ → PlainModule → Type 0) (modules : List Module) : Type 0 where
  ps : List PlainModule
  are_plain : modules ≡ plain_modules ps
  each : (place : ℕ) (p : PlainModule) → slice_get ps place ≡ Some p → Holds place p

collect : (Holds : ℕ → PlainModule → Type 0) (modules : List Module) → ((place : ℕ) (m : Module) → slice_get modules place ≡ Some m → (p : PlainModule) × (m ≡ plain_module p) × Holds place p) → Collected Holds modules
collect Holds [] h = record { ps = []; are_plain = refl; each = λ place p e. absurd (cc) }
collect Holds (m ∷ modules) h =
    let first = h 0 m refl in
    let rest : Collected (λ place. Holds (suc place)) modules = collect (λ place. Holds (suc place)) modules (λ place other e. h (suc place) other e) in
    record { ps = first.0 ∷ rest.ps; are_plain = λ j. first.1 j ∷ rest.are_plain j; each = by first.0 first.2 rest.ps rest.each }
  where
    by : (q : PlainModule) → Holds 0 q → (qs : List PlainModule) → ((place : ℕ) (p : PlainModule) → slice_get qs place ≡ Some p → Holds (suc place) p) → (place : ℕ) (p : PlainModule) → slice_get (q ∷ qs) place ≡ Some p → Holds place p
    by q here qs later zero p e = let same : q ≡ p = cc in subst (Holds 0) same here
    by q here qs later (suc place) p e = later place p e

module _ (design : Design) (file : VlogFile) (are : AreWritten design file.modules) where
  abbrev IsAt : ℕ → PlainModule → Type 0
  IsAt place p = (number : ℕ) (cell : HCell) → slice_get design.order place ≡ Some number → IsCell design.cells number cell → IsModuleFor design number cell p

  plain_at : (place : ℕ) (m : Module) → slice_get file.modules place ≡ Some m → (p : PlainModule) × (m ≡ plain_module p) × IsAt place p
  plain_at place m e =
      let lt = slice_get_within file.modules place m e in
      let long = are.as_many in
      let n = element_there design.order place (omega (arith, lt, long)) in
      let w : IsWritten design n.0 m = are.each place n.0 m n.1 e in (
        w.p,
        w.is_plain,
        λ number cell is_number is_cell.
            let numbers : n.0 ≡ number = same_element design.order place n.0 number n.1 is_number in
            let cells : w.cell ≡ cell = same_element design.cells number w.cell cell (subst (λ k. IsCell design.cells k w.cell) numbers w.is_cell) is_cell in
            subst (λ c. IsModuleFor design number c w.p) cells (subst (λ k. IsModuleFor design k w.cell w.p) numbers w.is_for),
      )

  all : Collected IsAt file.modules
  all = collect IsAt file.modules plain_at

  abbrev ps : List PlainModule
  ps = all.ps

  same_file : file ≡ plain_file ps
  same_file = ap (λ (modules : List Module). record { modules = modules }) all.are_plain

  are_modules : AreModulesFor design ps
  are_modules =
      let long : length (plain_modules ps) ≡ length ps = length-map ps plain_module in
      let same : length file.modules ≡ length (plain_modules ps) = ap length all.are_plain in
      let count = are.as_many in
      record { as_many = omega (arith, long, same, count); modules = λ place number cell p e is_cell is. all.each place p is number cell e is_cell }

  module _ (valid : IsValid design) (own : HaveOwnNames (λ (cell : HCell). cell.name) design.cells) where
    pub file_good : first_G file (top_name design.cells design.top) ≡ None
    file_good = ap (λ f. first_G f (top_name design.cells design.top)) same_file ∙ no_refusal design ps valid are_modules own

    module _ (names : ConstantNames) (other : Design) (cells : other.cells ≡ (vlog_design file (top_name design.cells design.top)).cells) (top : other.top ≡ (vlog_design file (top_name design.cells design.top)).top) (props : other.props ≡ (vlog_design file (top_name design.cells design.top)).props) where
      cells_are : other.cells ≡ (vlog_design (plain_file ps) (top_name design.cells design.top)).cells
      cells_are = cells ∙ ap (λ f. (vlog_design f (top_name design.cells design.top)).cells) same_file

      top_is : other.top ≡ (vlog_design (plain_file ps) (top_name design.cells design.top)).top
      top_is = top ∙ ap (λ f. (vlog_design f (top_name design.cells design.top)).top) same_file

      props_are : other.props ≡ (vlog_design (plain_file ps) (top_name design.cells design.top)).props
      props_are = props ∙ ap (λ f. (vlog_design f (top_name design.cells design.top)).props) same_file

      pub file_same_cells : SameCells names design other None
      file_same_cells = same_cells design ps valid are_modules own names other cells_are top_is props_are

      pub file_same_design : AreConstantNames names → SameDesign names design other
      file_same_design constants = same_design design ps valid are_modules own names other cells_are top_is props_are constants
