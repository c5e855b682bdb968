-- The modules of a design's cells are those of a file that is translated.
use Rattle.std.proofs.Common.{◌≡◌, ℕ, zero, suc, ◌+◌, ◌<◌, ◌≤◌, List, [], ◌∷◌, ◌++◌, None, Some, length, slice_get, get_or, take, sym, ◌∙◌, ap, subst, arith, length-append}
use Rattle.std.proofs.lemmas.List.{length-map, take_all, take_more}
use Rattle.std.proofs.lemmas.Option.{slice_get-get_or, slice_get_within}
use Rattle.net_bits.specs.Names.{NameSet, has_name}
use Rattle.net_values.specs.Sound.{IsSound}
use Rattle.net_hier.specs.Design.{Design, below_of, cells_below}
use Rattle.net_hier.specs.Valid.{IsHier, IsValid}
use Rattle.to_verilog_rules.specs.Rules.{first_V}
use Rattle.to_verilog.specs.Modules.{IsModuleOf, plain_of}
use Rattle.to_verilog.proofs.Listed.{there_below}
use Rattle.to_verilog_values.proofs.Broken.{good_design, named_cell}
use Rattle.to_verilog_values.proofs.Plain.{module_is}
use Rattle.vlog_partners.specs.Partners.{AreWritten, IsWritten}
use Rattle.vlog_partners.proofs.Collected.{file_good, file_same_cells, file_same_design}
use Rattle.vlog_partners.proofs.Orders.{order_within}
use Rattle.vlog_values.specs.Values.{IsModule, IsVlogValue}
use Rattle.vlog_values.specs.declared.module.Module.{Module}
use Rattle.vlog_values.specs.declared.module.VlogFile.{VlogFile}
use Rattle.to_verilog.specs.Answers.{AreModules, IsTranslated}
use Rattle.to_verilog.proofs.Good.{all_places, module_good}
use Rattle.to_verilog.proofs.NoRefusal.{own_cells, writable}

-- a number of the order is that of a cell
pub number_within : (design : Design) → IsValid design → (place number : ℕ) → slice_get design.order place ≡ Some number → number < length design.cells
number_within design valid place number e =
    let h = order_within (cells_below design.cells) design.top design.order valid.postorder place number e in
    omega (arith, h, length-map design.cells below_of)

pub translated : (design : Design) (params : NameSet) (modules : List Module) → IsHier design → first_V design.cells design.top design.props (has_name params) ≡ None → AreModules design params design.order modules →
    IsTranslated design params (record { modules = modules })
translated design params modules hier none are =
    let file : VlogFile = record { modules = modules } in
    let own = own_cells design.cells design.top design.props params none in
    let written : AreWritten design modules = record { as_many = are.as_many; each = are.written } in
    record {
      no_refusal = none;
      same = record {
        no_refusal = file_good design file written hier.valid own;
        same_cells = λ names constants other is. file_same_cells design file written hier.valid own names other is.same_cells is.same_top is.same_props;
        same_design = λ names constants other is. file_same_design design file written hier.valid own names other is.same_cells is.same_top is.same_props constants;
      };
    }

-- ---- one module more
both_more : {A B : Type 0} (P : A → B → Type 0) (xs : List A) (ys : List B) (x : A) (y : B) → length ys ≡ length xs → ((place : ℕ) (a : A) (b : B) → slice_get xs place ≡ Some a → slice_get ys place ≡ Some b → P a b) → P x y →
    (place : ℕ) (a : A) (b : B) → slice_get (xs ++ x ∷ []) place ≡ Some a → slice_get (ys ++ y ∷ []) place ≡ Some b → P a b
both_more P [] [] x y l all p zero a b e f =
    let g : Some x ≡ Some a = e in
    let h : Some y ≡ Some b = f in
    let s : x ≡ a = cc in
    let t : y ≡ b = cc in
    subst (λ v. P v b) s (subst (P x) t p)
both_more P [] [] x y l all p (suc k) a b e f = absurd (let g : None ≡ Some a = e in cc)
both_more P [] (z ∷ ys) x y l all p place a b e f = absurd (omega (arith, l))
both_more P (z ∷ xs) [] x y l all p place a b e f = absurd (omega (arith, l))
both_more P (w ∷ xs) (z ∷ ys) x y l all p zero a b e f = all 0 a b e f
both_more P (w ∷ xs) (z ∷ ys) x y l all p (suc k) a b e f = both_more P xs ys x y (omega (arith, l)) (λ place c d g h. all (suc place) c d g h) p k a b e f

pub no_modules : (design : Design) (params : NameSet) (modules : List Module) → modules ≡ [] → AreModules design params [] modules
no_modules design params modules e = record {
  as_many = ap length e;
  written = λ place number m f g. absurd (let h : None ≡ Some number = f in cc);
  plain = λ place number m f g. absurd (let h : None ≡ Some number = f in cc);
}

pub module_more : (design : Design) (params : NameSet) (numbers : List ℕ) (i d : ℕ) (modules new : List Module) (m : Module) → i < length numbers → AreModules design params (take i numbers) modules → new ≡ modules ++ m ∷ [] →
    IsWritten design (get_or numbers i d) m → IsModuleOf design params (get_or numbers i d) m → AreModules design params (take (i + 1) numbers) new
module_more design params numbers i d modules new m h are e w p =
    let number : ℕ = get_or numbers i d in
    subst (AreModules design params (take (i + 1) numbers)) (sym e) (subst (λ l. AreModules design params l (modules ++ m ∷ [])) (sym (take_more numbers i d h)) (record {
      as_many = length-append modules (m ∷ []) ∙ (ap (λ k. k + 1) are.as_many ∙ sym (length-append (take i numbers) (number ∷ [])));
      written = both_more (IsWritten design) (take i numbers) modules number m are.as_many are.written w;
      plain = both_more (IsModuleOf design params) (take i numbers) modules number m are.as_many are.plain p;
    }))

pub all_modules : (design : Design) (params : NameSet) (numbers : List ℕ) (i : ℕ) (modules : List Module) → length numbers ≤ i → AreModules design params (take i numbers) modules → AreModules design params numbers modules
all_modules design params numbers i modules h are = subst (λ l. AreModules design params l modules) (take_all i numbers h) are

-- the cell of a number of the order
pub number_there : (design : Design) → IsValid design → (numbers : List ℕ) (i d : ℕ) → numbers ≡ design.order → i < length numbers → get_or numbers i d < length design.cells
number_there design valid numbers i d e h =
    let lt = number_within design valid i (get_or numbers i d) (ap (λ l. slice_get l i) (sym e) ∙ slice_get-get_or numbers i d h) in
    lt

-- ---- the value
pub value_is : (design : Design) (params : NameSet) (modules : List Module) → IsHier design → first_V design.cells design.top design.props (has_name params) ≡ None → AreModules design params design.order modules → IsSound design →
    IsVlogValue (record { modules = modules })
value_is design params modules hier none are sound = all_places IsModule modules (λ place m e.
    let lt : place < length modules = slice_get_within modules place m e in
    let number = there_below design.order place (omega (arith, lt, are.as_many)) in
    let is = are.plain place number.0 m number.1 e in
    subst IsModule (sym is.is_plain) (module_is (plain_of design params number.0 is.cell is.wiring is.is_wiring.wires)
    (module_good design params number.0 is.cell hier.valid is.is_cell (writable design.cells design.top design.props params none number.0 is.cell is.is_cell)
    (named_cell design.cells design.top design.props params none) (good_design design.cells design.top design.props params none) sound is.wiring is.decls is.is_wiring)))
