-- What the cells of the file need is there, and what the file is.
use Rattle.std.proofs.Common.{arith, ◌≡◌, inl, inr, ℕ, zero, suc, ◌<◌, Bool, List, [], ◌∷◌, Some, length, sym, ap, ◌∙◌, subst}
use Rattle.std.specs.Prelude.{slice_get}
use Rattle.std.specs.Option.{option_map_or}
use Rattle.std.specs.List.{AllByRecursion}
use Rattle.std.proofs.lemmas.List.{length-map}
use Rattle.std.proofs.lemmas.Option.{slice_get_within}
use Rattle.net_hier.specs.Constants.{AreConstantNames, ConstantNames}
use Rattle.net_hier.specs.Design.{Design, IsCell, top_name}
use Rattle.net_hier.specs.Valid.{IsGoodCell, IsValid}
use Rattle.net_hier.specs.declared.cells.HCell.{HCell}
use Rattle.net_hier.specs.declared.cells.HPort.{HPort}
use Rattle.net_live.proofs.NeedLaws.{need_is}
use Rattle.edif_values.specs.Values.{IsString, IsWord, IsEdifValue}
use Rattle.edif_values.specs.declared.name.NameDef.{NameDef}
use Rattle.edif_naming.proofs.SoundLaws.{short_string}
use Rattle.edif_values.specs.declared.cell.Cell.{Cell}
use Rattle.edif_values.specs.declared.file.EdifFile.{EdifFile}
use Rattle.edif_written.specs.Written.{file_of}
use Rattle.edif_plans.specs.Plans.{HasConstant, constant_number, head_at, head_of, number_of}
use Rattle.edif_plans.specs.Sound.{AreStems, IsSoundCell, IsSoundDesign}
use Rattle.edif_plans.specs.declared.plan.Plan.{Plan}
use Rattle.edif_copies.specs.Answers.{IsEdifFor}
use Rattle.edif_plans.specs.Planned.{AreCells, IsAlone, IsOldAt, IsPlan, IsPlannedFile}
use Rattle.edif_copies.proofs.Whole.{planned_is_edif}
use Rattle.edif_planning.specs.Plans.{IsPlanned}
use Rattle.edif_planning.specs.declared.planning.Planned.{Planned}
use Rattle.edif_planning.proofs.ClassLaws.{item_there}
use Rattle.edif_value_laws.specs.Named.{HasWords}
use Rattle.edif_value_laws.proofs.Files.{made_value}
use Rattle.to_edif.specs.Cells.{HasConstants, HasNewHead, HaveHeads}
use Rattle.to_edif.specs.Files.{IsLoneName, IsNamedAfterTop}
use Rattle.to_edif.proofs.Named.{planned_named}

module _ (names : ConstantNames) (design : Design) (valid : IsValid design) (values : List Bool) (plan : Plan) (is : IsPlan names design values plan) where
  new_head : (place : ℕ) (value : Bool) → slice_get values place ≡ Some value → HasNewHead plan place
  new_head place value there =
      let lt : place < length values = slice_get_within values place value there in
      record {
        is_there = let n = is.as_many in omega (arith, lt, n);
        has_port = let one = (is.new_heads place value there).len in omega (arith, one);
      }

  -- each new cell has a head
  pub have_heads : HaveHeads plan (length values)
  have_heads place lt = let value = item_there values place lt in new_head place value.0 value.1

  old_head : (value : Bool) (number : ℕ) → IsOldAt names design (length values) value number → HasNewHead plan number
  old_head value number old =
      let lt : old.place < length design.order = slice_get_within design.order old.place old.old old.is_placed in
      let at : number_of plan old.old ≡ number = is.numbers old.place old.old old.is_placed ∙ sym old.is_number in
      let ports : length (head_of plan old.old).ports ≡ length old.cell.ports = (is.old_heads old.old old.cell old.is_cell).len ∙ length-map old.cell.ports (λ (port : HPort). port.name) in
      let one : length old.cell.ports ≡ 1 = ap length old.is_constant.only_port in
      record {
        is_there = let n = is.as_many in let m = old.is_number in omega (arith, lt, n, m);
        has_port = subst (λ n. 0 < length (head_at plan n).ports) at (omega (arith, ports, one));
      }

  has_constant : (value : Bool) → HasNewHead plan (constant_number plan value) → HasConstant plan value
  has_constant value head = record { is_there = head.is_there; has_port = head.has_port }

  -- each constant that a cell needs has a head
  pub has_constants : HasConstants design plan
  has_constants number cell classes value there are needed =
      let good : IsGoodCell design.cells cell = valid.good_cells number cell there in
      let place = is.constants value (record { number = number; cell = cell; is_there = there; needs = (need_is design.cells cell classes are good.joins_in_range value).0 needed }) in
      has_constant value (elim place as (λ _. HasNewHead plan (constant_number plan value)) [
        | inl new ↦ new_head (constant_number plan value) value new
        | inr old ↦ old_head value (constant_number plan value) old
      ])

-- the name of the top, written alone
top_alone : (design : Design) (cell : HCell) (word : List ℕ) (made : NameDef) → IsCell design.cells design.top cell → word ≡ cell.name → IsLoneName word made → IsAlone (top_name design.cells design.top) made
top_alone design cell word made there is_word is =
    let named : word ≡ top_name design.cells design.top = is_word ∙ sym (ap (λ o. option_map_or (λ (c : HCell). c.name) o []) there) in
    subst (λ (n : List ℕ). IsAlone n made) named is.alone

-- the file that is planned
pub planned_file : (names : ConstantNames) (design : Design) (planned : Planned) (cells : List Cell) (name design_name : NameDef) (top : List ℕ) (file : EdifFile) (cell : HCell) (word : List ℕ) → IsPlanned names design planned → AreCells names design planned.plan planned.missing.items design.order cells
    → IsCell design.cells design.top cell → word ≡ cell.name → IsLoneName word name → IsLoneName word design_name → top ≡ (head_of planned.plan design.top).cell → file ≡ file_of name design_name cells top → IsPlannedFile names design file
planned_file names design planned cells name design_name top file cell word is are there is_word is_name is_design_name is_top is_file = record {
  values = planned.missing.items;
  are_missing = is.are_missing;
  plan = planned.plan;
  is_plan = is.is_plan;
  cells = cells;
  are_cells = are;
  name = name;
  design_name = design_name;
  is_name = top_alone design cell word name there is_word is_name;
  is_design_name = top_alone design cell word design_name there is_word is_design_name;
  is_file = is_file ∙ ap (file_of name design_name cells) is_top;
}

-- each design that says what the file says is the same as the design
pub edif_for : (names : ConstantNames) (design : Design) (file : EdifFile) → AreConstantNames names → IsValid design → IsPlannedFile names design file → IsEdifFor names design file
edif_for names design file good valid planned = planned_is_edif names design file valid planned good

-- the file and its design are named after the top
pub named_after_top : (design : Design) (cells : List Cell) (name design_name : NameDef) (top : List ℕ) (file : EdifFile) (cell : HCell) (word : List ℕ) → IsCell design.cells design.top cell → word ≡ cell.name → IsLoneName word name → IsLoneName word design_name → file ≡ file_of name design_name cells top
    → IsNamedAfterTop design file
unfolding file_of
named_after_top design cells name design_name top file cell word there is_word is_name is_design_name is_file =
    let named : word ≡ top_name design.cells design.top = is_word ∙ sym (ap (λ o. option_map_or (λ (c : HCell). c.name) o []) there) in
    subst (IsNamedAfterTop design) (sym is_file) (record { file_name = is_name.is_name ∙ named; design_names = ap (λ n. n ∷ []) (is_design_name.is_name ∙ named) })

-- ---- the file can be written

at_place : {A : Type 0} (P : A → Type 0) (xs : List A) (place : ℕ) (x : A) → AllByRecursion P xs → slice_get xs place ≡ Some x → P x
at_place P [] place x h there = absurd cc
at_place P (y ∷ ys) zero x h there = subst P (let e : y ≡ x = cc in e) h.0
at_place P (y ∷ ys) (suc place) x h there = at_place P ys place x h.1 there

top_string : (design : Design) (number : ℕ) (cell : HCell) → IsCell design.cells number cell → IsSoundDesign design → IsString cell.name
top_string design number cell there sound = short_string cell.name (at_place IsSoundCell design.cells number cell sound.cells there).name

pub file_value : (names : ConstantNames) (design : Design) (planned : Planned) (cells : List Cell) (name design_name : NameDef) (top : List ℕ) (file : EdifFile) (cell : HCell) (word : List ℕ) → IsPlanned names design planned → AreCells names design planned.plan planned.missing.items design.order cells
    → ((place : ℕ) → place < length planned.missing.items → HasWords (head_at planned.plan place)) → AreStems names → IsCell design.cells design.top cell → word ≡ cell.name → IsLoneName word name → IsLoneName word design_name → IsWord top → file ≡ file_of name design_name cells top
    → IsSoundDesign design → IsEdifValue file
file_value names design planned cells name design_name top file cell word is are words stems there is_word is_name is_design_name top_word is_file sound =
    let string : IsString word = subst IsString (sym is_word) (top_string design design.top cell there sound) in
    subst IsEdifValue (sym is_file)
    (made_value name design_name cells top names design planned.plan stems sound
    (planned_named names design planned.missing.items planned.plan cells is.is_plan are words)
    (is_name.sound string) (is_design_name.sound string) top_word)
