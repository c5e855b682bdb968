-- The reached modules of a file that breaks no rule: each is reached among them, and none reaches itself.
use Rattle.std.proofs.Common.{◌≡◌, ℕ, zero, suc, ◌<◌, Bool, true, false, List, [], ◌∷◌, ◌++◌, map, find, flat_map, length, slice_get, bytes_eq, cond, Option, Some, None, refl, sym, ap, ◌∙◌, subst, arith}
use Rattle.std.specs.Prelude.{is_none, option_map}
use Rattle.std.specs.Option.{option_map_or}
use Rattle.std.proofs.lemmas.Bool.{false≢true}
use Rattle.std.proofs.lemmas.List.{length-map}
use Rattle.std.proofs.lemmas.Option.{get_or_from_slice_get, slice_get-map, slice_get_within}
use Rattle.net_graph.specs.Graph.{IsAbove, IsReached, ReachesItself}
use Rattle.net_graph.specs.Marks.{IsReachable, itself, below, has_below, is_marked, marks_of}
use Rattle.net_graph.proofs.ListLaws.{element_there}
use Rattle.net_graph.proofs.MarkLaws.{marked-reachable, reachable-marked}
use Rattle.net_graph.proofs.WalkLaws.{linked_along, linked_by, linked_itself}
use Rattle.net_graph.proofs.WorkLaws.{above_has, has_above, marked_by_reach}
use Rattle.net_hier.specs.Valid.{Each, HaveOwnNames}
use Rattle.vlog_design.specs.Names.{Name, instance_statement, instance_statements}
use Rattle.vlog_design.specs.Reach.{module_named, module_number, modules_below, numbers_below, reached, reaches}
use Rattle.vlog_design.specs.Rules.{modules_twice, no_top, recursions, refused, statement_names, unknown_modules, unknown_module_in, first_instance}
use Rattle.vlog_values.specs.Values.{AreInstances, IsItem, IsModule, IsVlogValue}
use Rattle.vlog_values.specs.declared.module.ItemV.{ItemV}
use Rattle.vlog_values.specs.declared.module.ItemV.TheVariants as items
use Rattle.vlog_values.specs.declared.module.Module.{Module}
use Rattle.vlog_values.specs.declared.module.VlogFile.{VlogFile}
use Rattle.vlog_values.specs.declared.statement.Instances.{Instances}
use Rattle.vlog_values.specs.declared.statement.VInst.{VInst}
use Rattle.vlog_checked.specs.Clean.{IsClean}
use Rattle.vlog_checked.proofs.Below.{IsBelow, IsInstanceOf, KnowsModules, above, from_above}
use Rattle.vlog_checked.proofs.Differing.{no_clash, own_names_of}
use Rattle.vlog_checked.proofs.ListLaws.{InList, all_get, flat_from, flat_none, flat_to, map_none}
use Rattle.vlog_checked.proofs.Lookup.{IsMarkedOne, found_some, is_named, is_number, marked_from, marked_own, marked_to, named_there}

-- ---- options and marks

some_there : {A B : Type 0} (o : Option A) (x : B) → cond (is_none o) (x ∷ []) [] ≡ [] → (y : A) × (o ≡ Some y)
some_there None x e = absurd (cc)
some_there (Some y) x e = (y, refl)

mark_there : (marks : List Bool) (k : ℕ) → is_marked marks k ≡ true → slice_get marks k ≡ Some true
mark_there [] k h = absurd (false≢true h)
mark_there (mark ∷ marks) zero h = ap Some h
mark_there (mark ∷ marks) (suc k) h = mark_there marks k h

-- ---- statements

-- a statement of a module is one of its items
statement_item : (m : Module) (i : ℕ) (statement : Instances) → slice_get (instance_statements m) i ≡ Some statement → (j : ℕ) × (slice_get m.items j ≡ Some (items.Instances statement))
unfolding instance_statements
statement_item m i statement e =
    let r : InList instance_statement m.items statement = flat_from instance_statement m.items i statement e in
    (r.place, r.is_item ∙ ap Some (by r.item r.inner r.is_inner))
  where
    by : (item : ItemV) (n : ℕ) → slice_get (instance_statement item) n ≡ Some statement → item ≡ items.Instances statement
    by (items.Instances other) zero e = let f : other ≡ statement = cc in ap items.Instances f
    by (items.Instances other) (suc n) e = absurd (cc)
    by (items.Port d) n e = absurd (cc)
    by (items.Net d) n e = absurd (cc)
    by (items.Param d) n e = absurd (cc)
    by (items.Assign s) n e = absurd (cc)
    by (items.Defparam s) n e = absurd (cc)

pub statement_value : (m : Module) → IsModule m → (i : ℕ) (statement : Instances) → slice_get (instance_statements m) i ≡ Some statement → AreInstances statement
statement_value m value i statement e = let r = statement_item m i statement e in all_get IsItem m.items value.items r.0 (items.Instances statement) r.1

-- each statement of a module has an instance
some_instance : (m : Module) → IsModule m → (i : ℕ) (statement : Instances) → slice_get (instance_statements m) i ≡ Some statement → (instance : VInst) × IsInstanceOf m statement instance
some_instance m value i statement e =
    let v = statement_value m value i statement e in
    let r = element_there statement.insts 0 (omega (arith, v.insts.some)) in
    (r.0, record { place = i; is_there = e; inner = 0; is_inner = r.1 })

-- the modules of a module's statements are there
pub statements_known : (modules : List Module) (m : Module) → unknown_modules modules m ≡ [] → KnowsModules modules m
unfolding unknown_modules
statements_known modules m e i statement is =
    some_there (module_named modules statement.module) (first_instance statement ++ statement.module ∷ []) (flat_none (unknown_module_in modules) (instance_statements m) e i statement is)

-- ---- one list of modules

module _ (ms : List Module) where
  pub graph_long : length (modules_below ms) ≡ length ms
  unfolding modules_below
  graph_long = length-map ms (numbers_below ms)

  pub inner_within : (outer inner : ℕ) → IsAbove (modules_below ms) outer inner → inner < length (modules_below ms)
  inner_within outer inner a =
      let r : IsBelow ms outer inner = from_above ms outer inner a in
      let lt : module_number ms r.statement.module < length ms = slice_get_within ms (module_number ms r.statement.module) r.below (named_there ms r.statement.module r.below r.is_below).0 in
      omega (arith, lt, r.is_number, graph_long)

  pub bounds : (outer inner : ℕ) → has_below (modules_below ms) outer inner ≡ true → inner < length (modules_below ms)
  bounds outer inner h = inner_within outer inner (has_above (modules_below ms) outer inner h)

  none_found : {A : Type 0} (o : Option A) (f : A → List (List (List ℕ))) → option_map_or f o [] ≡ [] → ((x : A) → f x ≡ [] → ⊥) → (y : A) → o ≡ Some y → ⊥
  none_found None f e g y h = cc
  none_found (Some x) f e g y h = g x e

  -- no module leads back to itself
  pub none_back : HaveOwnNames (λ (m : Module). m.name) ms → Each (λ m. recursions ms m ≡ []) ms → (n : ℕ) → ¬ ReachesItself (modules_below ms) n
  unfolding recursions reaches
  none_back own quiet n back =
      let r : IsBelow ms n back.below = from_above ms n back.below back.first in
      let m : Module = r.module in
      let p = flat_to statement_names (instance_statements m) r.is_instance.place r.statement r.is_instance.inner (r.instance.name, r.statement.module) r.is_instance.is_there
      (slice_get-map (λ (i : VInst). (i.name, r.statement.module)) r.statement.insts r.is_instance.inner ∙ ap (option_map (λ (i : VInst). (i.name, r.statement.module))) r.is_instance.is_inner) in
      let lt : back.below < length (modules_below ms) = inner_within n back.below back.first in
      let marked_so : is_marked (marks_of (modules_below ms) back.below) n ≡ true = marked-reachable (modules_below ms) back.below lt bounds n (marked_by_reach (modules_below ms) back.below n back.back) in
      let so : is_marked (marks_of (modules_below ms) (module_number ms r.statement.module)) (module_number ms m.name) ≡ true =
      (λ j. is_marked (marks_of (modules_below ms) (r.is_number j)) (is_number ms own n m r.is_module j)) ∙ marked_so in
      let f = found_some (λ (i : Name × Name). is_marked (marks_of (modules_below ms) (module_number ms i.1)) (module_number ms m.name)) (flat_map statement_names (instance_statements m)) p.0 (r.instance.name, r.statement.module) p.1 so in
      none_found (find (λ (i : Name × Name). is_marked (marks_of (modules_below ms) (module_number ms i.1)) (module_number ms m.name)) (flat_map statement_names (instance_statements m))) (λ (i : Name × Name). (i.0 ∷ []) ∷ [])
      (quiet n m r.is_module) (λ x e. cc) f.0 f.1

-- ---- the reached modules

module _ (file : VlogFile) (top : Name) where
  abbrev those : List Module
  those = reached file top

  abbrev graph : List (List ℕ)
  graph = modules_below file.modules

  abbrev start : ℕ
  start = module_number file.modules top

  -- where the top is there, and the modules of the file have their own names
  module _ (has_top : no_top file top ≡ []) (once : modules_twice file ≡ []) where
    pub own_all : HaveOwnNames (λ (m : Module). m.name) file.modules
    own_all = own_names_of (λ (m : Module). m.name) file.modules (no_clash bytes_eq [] (map (λ (m : Module). m.name) file.modules) (map_none (λ name. refused _ [] (name ∷ [])) _ once))

    pub own_those : HaveOwnNames (λ (m : Module). m.name) those
    unfolding reached
    own_those = marked_own (λ (m : Module). m.name) (marks_of graph start) file.modules own_all

    the_top : (m : Module) × (module_named file.modules top ≡ Some m)
    the_top = some_there (module_named file.modules top) (refused _ [] (top ∷ [])) has_top

    pub start_there : start < length file.modules
    start_there = slice_get_within file.modules start the_top.0 (named_there file.modules top the_top.0 the_top.1).0

    start_within : start < length graph
    start_within = omega (arith, start_there, graph_long file.modules)

    -- a reached module is one of the file, which can be reached
    pub record IsFrom (m : Module) : Type 0 where
      pub place : ℕ
      pub is_there : slice_get file.modules place ≡ Some m
      pub reach : IsReachable graph start place

    pub reached_from : (i : ℕ) (m : Module) → slice_get those i ≡ Some m → IsFrom m
    unfolding reached
    reached_from i m e =
        let r : IsMarkedOne (marks_of graph start) file.modules m = marked_from (marks_of graph start) file.modules i m e in
        record { place = r.place; is_there = r.is_there; reach = reachable-marked graph start r.place (get_or_from_slice_get (marks_of graph start) r.place true false r.is_marked_there) }

    pub reached_to : (place : ℕ) (m : Module) → slice_get file.modules place ≡ Some m → IsReachable graph start place → (i : ℕ) × (slice_get those i ≡ Some m)
    unfolding reached
    reached_to place m e reach = marked_to (marks_of graph start) file.modules place m e (mark_there (marks_of graph start) place (marked-reachable graph start start_within (bounds file.modules) place reach))

    -- the number of the top among the reached modules
    pub top_there : (m : Module) × (slice_get those (module_number those top) ≡ Some m)
    top_there =
        let there = named_there file.modules top the_top.0 the_top.1 in
        let t = reached_to start the_top.0 there.0 itself in
        (the_top.0, (named_there those top the_top.0 (ap (module_named those) there.1 ∙ is_named those own_those t.0 the_top.0 t.1)).0)

    pub top_within : module_number those top < length those
    top_within = slice_get_within those (module_number those top) top_there.0 top_there.1

  -- where no rule is broken
  module _ (value : IsVlogValue file) (clean : IsClean file top) where
    pub those_values : Each IsModule those
    those_values i m e = let r = reached_from clean.has_top clean.once i m e in all_get IsModule file.modules value r.place m r.is_there

    -- the modules of the statements of a reached module are reached
    pub all_known : Each (KnowsModules those) those
    all_known i m e j statement is =
        let r = reached_from clean.has_top clean.once i m e in
        let s = some_instance m (those_values i m e) j statement is in
        let known = statements_known file.modules m (clean.each i m e).known_modules j statement is in
        let b : Module = known.0 in
        let there = named_there file.modules statement.module b known.1 in
        let a : IsAbove graph r.place (module_number file.modules statement.module) = above file.modules r.place m statement s.0 b r.is_there s.1 known.1 in
        let t = reached_to clean.has_top clean.once (module_number file.modules statement.module) b there.0 (below r.reach (above_has graph r.place (module_number file.modules statement.module) a)) in
        (b, (ap (module_named those) there.1 ∙ is_named those (own_those clean.has_top clean.once) t.0 b t.1))

    new_reach : (place : ℕ) → IsReachable graph start place → (m : Module) → slice_get file.modules place ≡ Some m → IsReached (modules_below those) (module_number those top) (module_number those m.name)
    new_reach place itself m e =
        let there = named_there file.modules top (the_top clean.has_top clean.once).0 (the_top clean.has_top clean.once).1 in
        let same : (the_top clean.has_top clean.once).0 ≡ m = let a : slice_get file.modules start ≡ Some (the_top clean.has_top clean.once).0 = there.0 in cc in
        subst (IsReached (modules_below those) (module_number those top)) (ap (module_number those) (there.1 ∙ ap (λ (o : Module). o.name) same)) (linked_itself (IsAbove (modules_below those)) (module_number those top))
    new_reach place (below {outer = outer} r h) m e =
        let b : IsBelow file.modules outer place = from_above file.modules outer place (has_above graph outer place h) in
        let t = reached_to clean.has_top clean.once outer b.module b.is_module r in
        let known = all_known t.0 b.module t.1 b.is_instance.place b.statement b.is_instance.is_there in
        let a : IsAbove (modules_below those) t.0 (module_number those b.statement.module) = above those t.0 b.module b.statement b.instance known.0 t.1 b.is_instance known.1 in
        let there = named_there file.modules b.statement.module b.below b.is_below in
        let same : b.below ≡ m = let q : slice_get file.modules place ≡ Some b.below = ap (slice_get file.modules) (sym b.is_number) ∙ there.0 in cc in
        let name : b.statement.module ≡ m.name = there.1 ∙ ap (λ (o : Module). o.name) same in
        let number : module_number those b.module.name ≡ t.0 = is_number those (own_those clean.has_top clean.once) t.0 b.module t.1 in
        linked_along (subst (IsReached (modules_below those) (module_number those top)) number (new_reach outer r b.module b.is_module))
        (linked_by (subst (IsAbove (modules_below those) t.0) (ap (module_number those) name) a))

    -- each reached module is reached from the top among them
    pub each_reached : (n : ℕ) → n < length those → IsReached (modules_below those) (module_number those top) n
    each_reached n lt =
        let x = element_there those n lt in
        let r = reached_from clean.has_top clean.once n x.0 x.1 in
        subst (IsReached (modules_below those) (module_number those top)) (is_number those (own_those clean.has_top clean.once) n x.0 x.1) (new_reach r.place r.reach x.0 r.is_there)

    pub none_reaches_itself : (n : ℕ) → ¬ ReachesItself (modules_below those) n
    none_reaches_itself = none_back those (own_those clean.has_top clean.once) (λ i m e. (clean.each i m e).no_recursion)
