-- A file whose graph has an order, and whose units are few, has a design.
use Rattle.std.proofs.Common.{◌≡◌, ℕ, suc, ◌+◌, ◌≤◌, true, List, [], ◌∷◌, map, get_or, slice_get, Option, Some, None, Ok, refl, sym, ap, ◌∙◌, subst, arith}
use Rattle.std.specs.Prelude.{IsSome, MatchOption, is_some, option_map}
use Rattle.std.specs.List.{cons_option, enumerate_from}
use Rattle.std.proofs.lemmas.Bool.{false≢true}
use Rattle.std.proofs.lemmas.Option.{slice_get-map}
use Rattle.net_graph.specs.Graph.{HasList, IsPostorder, IsReached, ReachesItself}
use Rattle.net_graph.proofs.ListLaws.{some_is}
use Rattle.net_graph.proofs.WorkLaws.{reached_by_marks}
use Rattle.net_hier.specs.Design.{Design, below_of, cells_below as design_below}
use Rattle.net_hier.specs.Units.{units}
use Rattle.net_hier.specs.Valid.{CellsFit, unit_limit}
use Rattle.net_hier.proofs.Building as hier
use Rattle.edif_values.specs.Sizes.{edif_size}
use Rattle.edif_values.specs.declared.instance.Instance.{Instance}
use Rattle.edif_values.specs.declared.file.EdifFile.{EdifFile}
use Rattle.edif_design.specs.Design.{cell_value, edif_cells, edif_properties, edif_top, instance_value, number_in, numbers_in_design}
use Rattle.edif_design.specs.FileRules.{refusals}
use Rattle.edif_design.specs.Parts.{instances, numbered}
use Rattle.edif_design.specs.Reach.{cells_below, is_reached, those_meant}
use Rattle.edif_design.specs.References.{CellPlace, all_cells, cell_meant, linked_cell, number_meant, numbers_meant, top}
use Rattle.edif_resolve.specs.Answers.{HasDesign, IsDesignFrom}
use Rattle.edif_resolve.proofs.Answering.{answered, built_answered}
use Rattle.edif_resolve.proofs.Clean.{map_get, top_there}
use Rattle.edif_resolve.proofs.FewParts.{cells_fit}
use Rattle.edif_resolve.proofs.Linking.{instance_meant, instance_number}
use Rattle.edif_resolve.proofs.Numbers.{map_twice}
use Rattle.edif_resolve.proofs.OtherNumbers.{ComesFromChosen, IsRenumbered, none_reaches, order_renumbered}
use Rattle.edif_resolve.proofs.Renumbering.{ComesFrom, below_reached, design_at, design_from, numbers_apart, reach_of, top_reached}

module _ (file : EdifFile) (clean : refusals file ≡ []) (start : ℕ × CellPlace) (is_top : top file ≡ Some start) where
  abbrev renumbered : ℕ → ℕ
  renumbered number = get_or (numbers_in_design file) number 0

  -- the cells of some instances, each of which is of a cell of the file
  instances_below : (value : (ℕ × Instance) → ℕ) (meant : Instance → Option (ℕ × CellPlace)) (n : ℕ) (those : List Instance)
      → ((i : ℕ) (u : Instance) → slice_get those i ≡ Some u → (found : ℕ × CellPlace) × ((meant u ≡ Some found) × (value (n + i, u) ≡ renumbered found.0)))
      → map value (enumerate_from n those) ≡ map renumbered (those_meant (map (λ u. number_meant (meant u)) those))
  instances_below value meant n [] each = refl
  instances_below value meant n (u ∷ those) each =
      let here = each 0 u refl in
      let rest = instances_below value meant (n + 1) those
      (λ i v there. (let e : n + 1 + i ≡ n + suc i = omega arith in let later = each (suc i) v there in (later.0, (later.1.0, ap (λ m. value (m, v)) e ∙ later.1.1)))) in
      (λ j. value ((let e : n ≡ n + 0 = omega arith in e) j, u) ∷ rest j)
      ∙ (ap (λ m. m ∷ map renumbered (those_meant (map (λ v. number_meant (meant v)) those))) here.1.1
      ∙ sym (ap (λ o. map renumbered (cons_option (number_meant o) (those_meant (map (λ v. number_meant (meant v)) those)))) here.1.0))

  -- what stands below a reached cell in the design
  below_is : (n : ℕ) (place : CellPlace) → slice_get (all_cells file) n ≡ Some place → is_reached file n ≡ true
      → below_of (cell_value (numbers_in_design file) (linked_cell file place)) ≡ map renumbered (those_meant (numbers_meant file place))
  unfolding cell_value
  below_is n place e reached =
      map_twice (λ u. u.cell) (instance_value (numbers_in_design file) (linked_cell file place).below) (numbered (instances place.cell))
      ∙ instances_below (λ item. (instance_value (numbers_in_design file) (linked_cell file place).below item).cell) (cell_meant file place.library) 0 (instances place.cell)
      (λ i u there. (let meant = instance_meant file clean n place e reached i u there in
      let same : 0 + i ≡ i = omega arith in
      (meant.0, (meant.1, ap (λ m. (instance_value (numbers_in_design file) (linked_cell file place).below (m, u)).cell) same ∙ instance_number file place i u meant.0 there meant.1))))

  lists_are : (n : ℕ) (numbers : List ℕ) → is_reached file n ≡ true → HasList (cells_below file) n numbers → HasList (design_below (edif_cells file)) (renumbered n) (map renumbered numbers)
  lists_are n numbers reached listed =
      let found = map_get (λ p. those_meant (numbers_meant file p)) (all_cells file) n numbers listed in
      slice_get-map below_of (edif_cells file) (renumbered n)
      ∙ (ap (option_map below_of) (design_at file n found.0 found.1.0 reached) ∙ ap Some (below_is n found.0 found.1.0 reached ∙ ap (map renumbered) found.1.1))

  comes_from : (number : ℕ) (numbers : List ℕ) → HasList (design_below (edif_cells file)) number numbers → ComesFromChosen (cells_below file) (is_reached file) renumbered number
  comes_from number numbers listed =
      let found = map_get below_of (edif_cells file) number numbers listed in
      let from : ComesFrom file number found.0 = design_from file number found.0 found.1.0 in
      record {
        old = from.old;
        is_chosen = from.reached;
        is_number = from.renumbered;
        numbers = those_meant (numbers_meant file from.place);
        are_below = slice_get-map (λ p. those_meant (numbers_meant file p)) (all_cells file) from.old ∙ ap (option_map (λ p. those_meant (numbers_meant file p))) from.stands;
      }

  -- the graph of the design is that of the reached cells of the file
  is_renumbered : IsRenumbered (cells_below file) (design_below (edif_cells file)) (is_reached file) renumbered
  is_renumbered = record {
    apart = numbers_apart file start is_top;
    closed = below_reached file start is_top;
    lists = lists_are;
    comes = comes_from;
  }

  none_back : ((n : ℕ) → IsReached (cells_below file) start.0 n → ¬ ReachesItself (cells_below file) n) → (number : ℕ) → ¬ ReachesItself (design_below (edif_cells file)) number
  none_back free =
      none_reaches (cells_below file) (design_below (edif_cells file)) (is_reached file) renumbered is_renumbered
      (λ n reached. free n (reached_by_marks (cells_below file) start.0 n (reach_of file start is_top n reached)))

  order_there : (order : List ℕ) → IsPostorder (cells_below file) start.0 order → IsPostorder (design_below (edif_cells file)) (renumbered start.0) (map renumbered order)
  order_there order visits = order_renumbered (cells_below file) (design_below (edif_cells file)) (is_reached file) renumbered is_renumbered start.0 order (top_reached file start is_top) visits

  top_is : renumbered start.0 ≡ edif_top file
  unfolding edif_top
  top_is = sym (ap (λ o. number_in (numbers_in_design file) (number_meant o)) is_top)

  design_of_order : edif_size file ≤ 268435456 → units (edif_cells file) ≤ unit_limit → ((n : ℕ) → IsReached (cells_below file) start.0 n → ¬ ReachesItself (cells_below file) n) → (order : List ℕ)
      → IsPostorder (cells_below file) start.0 order → HasDesign file
  design_of_order small few free order visits =
      let fit : CellsFit (edif_cells file) (edif_top file) = cells_fit file clean small in
      let none = none_back free in
      let design : Design = record { cells = edif_cells file; top = edif_top file; props = edif_properties file; order = map renumbered order } in
      let ordered = subst (λ m. IsPostorder (design_below (edif_cells file)) m (map renumbered order)) top_is (order_there order visits) in
      let built = hier.built (edif_cells file) (edif_top file) (edif_properties file) (map renumbered order) fit (record { no_recursion = none; few_units = few; postorder = ordered }) in
      let from : IsDesignFrom (edif_cells file) (edif_top file) (edif_properties file) design = built_answered (edif_cells file) (edif_top file) (edif_properties file) design fit built in
      record {
        design = design;
        is_design = answered file clean (edif_cells file) refl (edif_top file) (edif_properties file) (Ok design) refl refl from;
      }

-- a file that breaks no rule up to E12, of few units, whose graph has an order
pub design_shown : (file : EdifFile) → refusals file ≡ [] → edif_size file ≤ 268435456 → units (edif_cells file) ≤ unit_limit → (number : ℕ) → Some number ≡ number_meant (top file)
    → ((n : ℕ) → IsReached (cells_below file) number n → ¬ ReachesItself (cells_below file) n) → (order : List ℕ) → IsPostorder (cells_below file) number order → HasDesign file
design_shown file clean small few number is free order visits =
    let start = top_there file clean in
    let same : number ≡ start.0.0 = let e : Some number ≡ Some start.0.0 = is ∙ ap number_meant start.1 in cc in
    design_of_order file clean start.0 start.1 small few (subst (λ m. (n : ℕ) → IsReached (cells_below file) m n → ¬ ReachesItself (cells_below file) n) same free) order
    (subst (λ m. IsPostorder (cells_below file) m order) same visits)

-- the same where the order is that of a walk, if it has found one
pub shown : {V : Type 0} (items : V → List ℕ) (P : Type 0) (file : EdifFile) → refusals file ≡ [] → edif_size file ≤ 268435456 → units (edif_cells file) ≤ unit_limit → (number : ℕ) → Some number ≡ number_meant (top file)
    → (graph : List (List ℕ)) → graph ≡ cells_below file → (found : Option V) → is_some found ≡ true → MatchOption found P (λ order. IsPostorder graph number (items order))
    → (IsSome found → (n : ℕ) → IsReached graph number n → ¬ ReachesItself graph n) → HasDesign file
shown items P file clean small few number is graph are None there order free = absurd (false≢true there)
shown items P file clean small few number is graph are (Some walk) there order free =
    design_shown file clean small few number is (subst (λ g. (n : ℕ) → IsReached g number n → ¬ ReachesItself g n) are (free (some_is (Some walk) walk refl))) (items walk)
    (subst (λ g. IsPostorder g number (items walk)) are order)
