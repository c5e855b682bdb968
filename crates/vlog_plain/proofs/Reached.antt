-- The top of a file of plain modules reaches all of them, and none of them reaches itself (12.1).
use Rattle.std.proofs.Common.{◌≡◌, ℕ, zero, suc, ◌<◌, true, false, List, [], ◌∷◌, Option, Some, flat_map, length, map, replicate, slice_get, refl, sym, ap, subst, ◌∙◌, arith, Contains}
use Rattle.std.specs.Prelude.{option_map, option_to_list}
use Rattle.std.specs.Option.{option_map_or}
use Rattle.std.proofs.lemmas.Bool.{false_from_ne_true}
use Rattle.std.proofs.lemmas.List.{length-map, length-replicate}
use Rattle.std.proofs.lemmas.Option.{slice_get-map, slice_get_within}
use Rattle.net_graph.specs.Graph.{HasList, IsAbove, IsReached}
use Rattle.net_graph.specs.Marks.{IsReachable, below, is_marked, itself, marks_of}
use Rattle.net_graph.proofs.ListLaws.{element_there, same_element}
use Rattle.net_graph.proofs.MarkLaws.{marked_within, reachable-marked}
use Rattle.net_graph.proofs.OrderLaws.{StandsIn, contained}
use Rattle.net_graph.proofs.WalkLaws.{linked_by, linked_map}
use Rattle.net_graph.proofs.WorkLaws.{has_above, marked_by_reach, reached_by_marks, reached_marks}
use Rattle.net_stars.proofs.Ranks.{no_recursion}
use Rattle.vlog_design.specs.Names.{Name, instance_statements}
use Rattle.vlog_design.specs.Reach.{instance_modules, marked, module_number, module_place, modules_below, numbers_below, reached, reaches, statement_modules}
use Rattle.vlog_design.specs.Rules.{recursions, statement_names}
use Rattle.vlog_values.specs.declared.module.Module.{Module}
use Rattle.vlog_written.specs.Written.{PlainInstance, PlainModule, plain_module, statement_of}
use Rattle.vlog_written.proofs.Contents.{image_of, part_of, there_in_parts}
use Rattle.vlog_written.proofs.Members.{there_at, there_here, there_mapped}
use Rattle.vlog_written.proofs.Shape.{statements_are}
use Rattle.vlog_plain.specs.Plain.{IsOver, IsPlainFile, IsPlainInstance, plain_file, plain_modules}
use Rattle.vlog_plain.proofs.Lists.{find_none}
use Rattle.vlog_plain.proofs.Places.{found_at, module_at, number_of}
use Rattle.vlog_plain.proofs.Uses.{only_one}

-- the modules of a module's instances
pub modules_of_instances : (p : PlainModule) → instance_modules (plain_module p) ≡ map (λ (instance : PlainInstance). instance.of) p.instances
unfolding instance_modules
modules_of_instances p = ap (flat_map statement_modules) (statements_are p) ∙ by p.instances
  where
    by : (instances : List PlainInstance) → flat_map statement_modules (map statement_of instances) ≡ map (λ (instance : PlainInstance). instance.of) instances
    by [] = refl
    by (instance ∷ instances) = ap (λ l. instance.of ∷ l) (by instances)

-- marks that are all on
all_marked : (n k : ℕ) → k < n → is_marked (replicate n true) k ≡ true
all_marked zero k h = absurd (omega (arith, h))
all_marked (suc n) zero h = refl
all_marked (suc n) (suc k) h = all_marked n k (omega (arith, h))

marked_all : {A : Type 0} (xs : List A) → marked (replicate (length xs) true) xs ≡ xs
marked_all [] = refl
marked_all (x ∷ xs) = ap (λ l. x ∷ l) (marked_all xs)

module _ (ps : List PlainModule) (top : ℕ) (name : Name) (file : IsPlainFile ps top name) where
  abbrev modules : List Module
  modules = plain_modules ps

  abbrev graph : List (List ℕ)
  graph = modules_below modules

  modules_long : length modules ≡ length ps
  modules_long = length-map ps plain_module

  graph_long : length graph ≡ length ps
  unfolding modules_below
  graph_long = length-map modules (numbers_below modules) ∙ modules_long

  row : (place : ℕ) (p : PlainModule) → slice_get ps place ≡ Some p → HasList graph place (numbers_below modules (plain_module p))
  unfolding modules_below
  row place p e = slice_get-map (numbers_below modules) modules place ∙ ap (option_map (numbers_below modules)) (module_at ps place p e)

  -- what stands below a module by its instances stands below it in the graph
  above : (outer inner : ℕ) → IsOver ps outer inner → IsAbove graph outer inner
  above outer inner over =
      let numbers = numbers_below modules (plain_module over.p) in
      let of : Contains (instance_modules (plain_module over.p)) over.instance.of = subst (λ l. Contains l over.instance.of) (sym (modules_of_instances over.p)) (there_mapped (λ (instance : PlainInstance). instance.of) over.p.instances over.instance over.is_instance) in
      let known : module_place modules over.instance.of ≡ Some inner = ap (module_place modules) (sym over.is_named) ∙ found_at ps inner over.below file.distinct over.is_inner in
      let there : Contains numbers inner = there_in_parts (λ other. option_to_list (module_place modules other)) (instance_modules (plain_module over.p)) over.instance.of inner of (subst (λ o. Contains (option_to_list o) inner) (sym known) (there_here inner [])) in
      let stands : StandsIn numbers inner = contained numbers inner there in
      record { numbers = numbers; are_below = row outer over.p over.is_outer; place = stands.place; is_there = stands.is_there }

  number_there : (o : Option ℕ) (n : ℕ) → Contains (option_to_list o) n → (m : ℕ) → o ≡ Some m → m ≡ n
  number_there o n h m e = only_one m n (subst (λ q. Contains (option_to_list q) n) e h)

  -- what stands below a module stands earlier in the file
  pub falls : (outer inner : ℕ) → IsAbove graph outer inner → inner < outer
  falls outer inner a =
      let within : outer < length ps = let lt : outer < length graph = slice_get_within graph outer a.numbers a.are_below in omega (arith, lt, graph_long) in
      let at = element_there ps outer within in
      let p : PlainModule = at.0 in
      let same : a.numbers ≡ numbers_below modules (plain_module p) = same_element graph outer a.numbers (numbers_below modules (plain_module p)) a.are_below (row outer p at.1) in
      let there : Contains (numbers_below modules (plain_module p)) inner = subst (λ l. Contains l inner) same (there_at a.numbers a.place inner a.is_there) in
      let r = part_of (λ other. option_to_list (module_place modules other)) (instance_modules (plain_module p)) inner there in
      let i = image_of (λ (instance : PlainInstance). instance.of) p.instances r.0 (subst (λ l. Contains l r.0) (modules_of_instances p) r.1) in
      let one : IsPlainInstance ps outer p i.0 = (file.modules outer p at.1).instances i.0 i.1 in
      let known : module_place modules r.0 ≡ Some one.below_place = ap (module_place modules) (sym i.2 ∙ sym one.is_named) ∙ found_at ps one.below_place one.below file.distinct one.is_below in
      let e : one.below_place ≡ inner = number_there (module_place modules r.0) inner r.2 one.below_place known in
      omega (arith, e, one.falls)

  in_range : (outer inner : ℕ) → IsAbove graph outer inner → inner < length graph
  in_range outer inner a =
      let lt : outer < length graph = slice_get_within graph outer a.numbers a.are_below in
      let less : inner < outer = falls outer inner a in
      omega (arith, lt, less)

  top_within : top < length graph
  top_within = let lt : top < length ps = slice_get_within ps top file.the_top file.is_top in omega (arith, lt, graph_long)

  reachable_within : (k : ℕ) → IsReachable graph top k → k < length graph
  reachable_within k itself = top_within
  reachable_within k (below {outer = outer} r b) = in_range outer k (has_above graph outer k b)

  reached_each : (k : ℕ) → k < length graph → IsReached graph top k
  reached_each k h = linked_map (IsOver ps) (IsAbove graph) (λ n. n) (λ outer inner over. linked_by (above outer inner over)) (file.reached k (omega (arith, h, graph_long)))

  marks_are : replicate (length graph) true ≡ marks_of graph top
  marks_are =
      let long : length (replicate (length graph) true) ≡ length graph = length-replicate (length graph) true in
      reached_marks graph top top_within in_range (replicate (length graph) true) long
      (λ k. (
        (λ h. let lt : k < length (replicate (length graph) true) = marked_within (replicate (length graph) true) k h in reached_each k (omega (arith, lt, long))),
        (λ r. all_marked (length graph) k (reachable_within k (marked_by_reach graph top k r))),
      ))

  top_number : module_number modules name ≡ top
  top_number = ap (module_number modules) (sym file.top_named) ∙ number_of ps top file.the_top file.distinct file.is_top

  -- all modules are reached
  pub all_reached : reached (plain_file ps) name ≡ modules
  unfolding reached
  all_reached =
      let long : length graph ≡ length modules = omega (arith, graph_long, modules_long) in
      ap (λ n. marked (marks_of graph n) modules) top_number
      ∙ (ap (λ marks. marked marks modules) (sym marks_are)
      ∙ (ap (λ n. marked (replicate n true) modules) long ∙ marked_all modules))

  -- the number of the top
  pub top_is : module_number (reached (plain_file ps) name) name ≡ top
  top_is = ap (λ ms. module_number ms name) all_reached ∙ top_number

  -- no instance leads back
  not_back : (place : ℕ) (p : PlainModule) → slice_get ps place ≡ Some p → (instance : PlainInstance) → Contains p.instances instance → reaches modules instance.of p.name ≡ false
  unfolding reaches
  not_back place p e instance m =
      let one : IsPlainInstance ps place p instance = (file.modules place p e).instances instance m in
      let number : module_number modules instance.of ≡ one.below_place = ap (module_number modules) (sym one.is_named) ∙ number_of ps one.below_place one.below file.distinct one.is_below in
      let own : module_number modules p.name ≡ place = number_of ps place p file.distinct e in
      let first : IsAbove graph place one.below_place = above place one.below_place (record { p = p; is_outer = e; instance = instance; is_instance = m; below = one.below; is_inner = one.is_below; is_named = one.is_named }) in
      ap (λ n. is_marked (marks_of graph n) (module_number modules p.name)) number
      ∙ (ap (is_marked (marks_of graph one.below_place)) own
      ∙ false_from_ne_true (is_marked (marks_of graph one.below_place) place)
      (λ h. no_recursion graph (λ n. n) falls place (record { below = one.below_place; first = first; back = reached_by_marks graph one.below_place place (reachable-marked graph one.below_place place h) })))

  pub no_recursions : (place : ℕ) (p : PlainModule) → slice_get ps place ≡ Some p → recursions modules (plain_module p) ≡ []
  unfolding recursions
  no_recursions place p e =
      ap (λ o. option_map_or (λ (pair : Name × Name). (pair.0 ∷ []) ∷ []) o [])
      (find_none (λ (pair : Name × Name). reaches modules pair.1 p.name) (flat_map statement_names (instance_statements (plain_module p))) by)
    where
      by : (pair : Name × Name) → Contains (flat_map statement_names (instance_statements (plain_module p))) pair → reaches modules pair.1 p.name ≡ false
      by pair h =
          let r = part_of statement_names (instance_statements (plain_module p)) pair h in
          let i = image_of statement_of p.instances r.0 (subst (λ l. Contains l r.0) (statements_are p) r.1) in
          let same : (i.0.name, i.0.of) ≡ pair = only_one (i.0.name, i.0.of) pair (subst (λ s. Contains (statement_names s) pair) (sym i.2) r.2) in
          ap (λ (q : Name × Name). reaches modules q.1 p.name) (sym same) ∙ not_back place p e i.0 i.1
