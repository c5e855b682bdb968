-- From the design of modules to the design of a file.
use Rattle.std.proofs.Common.{◌≡◌, Bool, true, ℕ, zero, suc, ◌+◌, ◌-◌, ◌<◌, ◌≤◌, ◌^◌, List, [], ◌∷◌, ◌++◌, Some, None, Result, Ok, Err, length, map, min, sum_by, take, get_or, slice_get, refl, sym, ap, ◌∙◌, subst, arith}
use Rattle.std.specs.Prelude.{MatchResult, option_map}
use Rattle.std.specs.List.{AllByRecursion}
use Rattle.std.proofs.lemmas.List.{length-map, map-append, take_more}
use Rattle.std.proofs.lemmas.List.Sums.{sum_by_push}
use Rattle.std.proofs.lemmas.Option.{slice_get-get_or, slice_get-map}
use Rattle.net_graph.specs.Graph.{IsFirstRecursion, ReachesItself}
use Rattle.net_graph.specs.Marks.{marks_of}
use Rattle.net_hier.specs.Design.{Design, cells_below}
use Rattle.net_hier.specs.Units.{units}
use Rattle.net_hier.specs.Valid.{CellsFit, unit_limit}
use Rattle.net_hier.specs.declared.cells.HCell.{HCell}
use Rattle.vlog_design.specs.Design.{module_joins, vlog_design}
use Rattle.vlog_design.specs.Names.{Name, Signal, has_name, implicit_names, signals}
use Rattle.vlog_design.specs.Reach.{module_number, modules_below, reached}
use Rattle.vlog_design.specs.Rules.{first_G, first_of, refusals}
use Rattle.vlog_rules.specs.declared.passes.ModuleScope.{ModuleScope}
use Rattle.vlog_scopes.specs.Distinct.{Distinct, module_names}
use Rattle.vlog_ties.specs.Ties.{modules_in, signal_width}
use Rattle.vlog_shown.proofs.Lists.{all_once, all_small, names_same}
use Rattle.vlog_values.specs.Sizes.{vlog_size}
use Rattle.vlog_values.specs.Values.{IsVlogValue}
use Rattle.vlog_values.specs.declared.module.Module.{Module}
use Rattle.vlog_values.specs.declared.module.VlogFile.{VlogFile}
use Rattle.vlog_elab.specs.Answers.{AreShown, AreShownFrom, HasDesign, IsDesignFrom, IsDesignOf, IsFaultFrom, IsFaultOf}
use Rattle.vlog_checked.specs.Clean.{IsClean}
use Rattle.vlog_shown.specs.Interfaces.{cells_shown, interface, is_shown}
use Rattle.vlog_elab.specs.Ready.{AreReady, CanBeCell, CanHaveCells, IsReady}
use Rattle.vlog_elab.specs.Units.{cells_from, module_units}
use Rattle.vlog_elab.specs.declared.answer.ResolveError.{ResolveError}
use Rattle.vlog_elab.specs.declared.answer.Shown.{Shown}
use Rattle.vlog_elab.specs.declared.answer.ResolveError.TheVariants.{Refused, TooBig, NoMemory}
use Rattle.vlog_checked.proofs.Clean.{clean_file}
use Rattle.vlog_checked.proofs.ListLaws.{all_get}
use Rattle.vlog_elab.proofs.Fitting.{none_back, numbers_fit, those_few, those_fit, those_small}
use Rattle.vlog_checked.proofs.Reaching.{own_all, reached_from, those_values}
use Rattle.vlog_checked.proofs.TableLaws.{differ_in, differ_marked}
use Rattle.vlog_elab.proofs.Choosing.{marked_cells, name_there}
use Rattle.net_hier.proofs.Building.{built, in_range, top_within}
use Rattle.vlog_elab.proofs.Ordering.{has_postorder}
use Rattle.vlog_elab.proofs.Signals.{units_are}

pub first_reaches : (graph : List (List ℕ)) (n i : ℕ) → IsFirstRecursion graph n i → ReachesItself graph n
first_reaches graph n i first = record {
  below = first.closing.inner;
  first = record { numbers = first.closing.numbers; are_below = first.closing.are_below; place = i; is_there = first.closing.is_there };
  back = first.closing.closes;
}

-- ---- counting

pub scopes_more : (scopes : List ModuleScope) (i : ℕ) (x : ModuleScope) → i < length scopes → x ≡ get_or scopes i x → modules_in (take (i + 1) scopes) ≡ modules_in (take i scopes) ++ x.module.now ∷ []
scopes_more scopes i x lt is =
    ap modules_in (take_more scopes i x lt ∙ ap (λ s. take i scopes ++ s ∷ []) (sym is)) ∙ map-append (λ (scope : ModuleScope). scope.module.now) (take i scopes) (x ∷ [])

-- the units of one more module
pub units_more : (scopes : List ModuleScope) (i : ℕ) (x : ModuleScope) (limit count more : ℕ) → i < length scopes → x ≡ get_or scopes i x → count ≡ min limit (sum_by (module_units (modules_in scopes)) (modules_in (take i scopes)))
    → more ≡ min limit (module_units (modules_in scopes) x.module.now) → min (count + more) limit ≡ min limit (sum_by (module_units (modules_in scopes)) (modules_in (take (i + 1) scopes)))
units_more scopes i x limit count more lt is are is_more =
    let e : sum_by (module_units (modules_in scopes)) (modules_in (take (i + 1) scopes)) ≡ sum_by (module_units (modules_in scopes)) (modules_in (take i scopes)) + module_units (modules_in scopes) x.module.now =
    ap (sum_by (module_units (modules_in scopes))) (scopes_more scopes i x lt is) ∙ sum_by_push (module_units (modules_in scopes)) (modules_in (take i scopes)) x.module.now in
    grind arith

pub all_taken : {A : Type 0} (xs : List A) (i : ℕ) → length xs ≤ i → take i xs ≡ xs
all_taken [] zero h = refl
all_taken [] (suc i) h = refl
all_taken (x ∷ xs) zero h = absurd (omega arith)
all_taken (x ∷ xs) (suc i) h = ap (λ ys. x ∷ ys) (all_taken xs i (omega arith))

-- the units of one module
pub module_done : (ms : List Module) (m : Module) (table : List Signal) (limit bits joins : ℕ) → table ≡ signals m → bits ≡ min limit (sum_by signal_width table) → joins ≡ min limit (length (module_joins ms m)) → min (bits + joins) limit ≡ min limit (module_units ms m)
module_done ms m table limit bits joins whole are joined = let e : sum_by signal_width table ≡ sum_by signal_width (signals m) = ap (sum_by signal_width) whole in grind arith

-- the units of all modules are those of their cells
pub units_done : (scopes : List ModuleScope) (i count : ℕ) → length scopes ≤ i → count ≡ min (2 ^ 64 - 1) (sum_by (module_units (modules_in scopes)) (modules_in (take i scopes))) → count ≡ units (cells_from (modules_in scopes))
units_done scopes i count le is =
    is ∙ (ap (λ those. min (2 ^ 64 - 1) (sum_by (module_units (modules_in scopes)) (modules_in those))) (all_taken scopes i le) ∙ sym (units_are (modules_in scopes)))

-- the module of a scope stands under its number
pub scope_there : (scopes : List ModuleScope) (i : ℕ) (x : ModuleScope) → i < length scopes → x ≡ get_or scopes i x → slice_get (modules_in scopes) i ≡ Some x.module.now
scope_there scopes i x lt is =
    slice_get-map (λ (scope : ModuleScope). scope.module.now) scopes i ∙ ap (option_map (λ (scope : ModuleScope). scope.module.now)) (slice_get-get_or scopes i x lt ∙ ap Some (sym is))

pub ready_there : (names : List Name) (scopes : List ModuleScope) (i : ℕ) (x : ModuleScope) → AreReady names (modules_in scopes) → i < length scopes → x ≡ get_or scopes i x → IsReady (modules_in scopes) x.module.now
ready_there names scopes i x ready lt is = ready.each i x.module.now (scope_there scopes i x lt is)

-- ---- the file

-- what a file that has no refusals gives
module _ (file : VlogFile) (top : Name) (value : IsVlogValue file) (small : vlog_size file ≤ 268435456) (none : refusals file top ≡ []) where
  abbrev clean : IsClean file top
  clean = clean_file file top none

  pub ready : (names : List Name) → names ≡ map (λ m. m.name) (reached file top) → AreReady names (reached file top)
  ready names are = record {
    named = are;
    few = those_few file top value clean small;
    each = λ i m e. (let c = clean.each i m e in record {
      value = those_values file top value clean i m e;
      small = those_small file top value clean small i m e;
      once = c.declared_once;
      equal = c.equal_widths;
      sized = c.sized;
      narrow = c.narrow;
    });
  }

  pub first_none : first_G file top ≡ None
  unfolding first_G
  first_none = ap first_of none

  design_answered : (design : Design) → IsDesignFrom (cells_from (reached file top)) (module_number (reached file top) top) design → IsDesignOf file top design
  unfolding vlog_design
  design_answered design from = record { no_refusal = first_none; same_cells = from.same_cells; same_top = from.same_top; same_props = from.same_props; is_hier = from.is_hier }

  fault_answered : (fault : ResolveError) → IsFaultFrom (cells_from (reached file top)) fault → IsFaultOf file top fault
  unfolding vlog_design
  fault_answered (Refused refusal) h = absurd h
  fault_answered (TooBig count) h = record { no_refusal = first_none; is_count = h.is_count; passes = h.passes }
  fault_answered NoMemory h = h

  pub answered : (result : Result Design ResolveError) → MatchResult result (IsDesignFrom (cells_from (reached file top)) (module_number (reached file top) top)) (IsFaultFrom (cells_from (reached file top)))
      → MatchResult result (IsDesignOf file top) (IsFaultOf file top)
  answered (Ok design) h = design_answered design h
  answered (Err fault) h = fault_answered fault h

  -- cells that fit, of which none reaches itself and whose units are within the limit, have an order and so are a design
  design_there : units (cells_from (reached file top)) ≤ unit_limit → HasDesign file top
  design_there few =
      let cells : List HCell = cells_from (reached file top) in
      let number : ℕ = module_number (reached file top) top in
      let fit : CellsFit (cells_from (reached file top)) (module_number (reached file top) top) = those_fit file top value clean small in
      let free : (n : ℕ) → ¬ ReachesItself (cells_below (cells_from (reached file top))) n = none_back file top value clean small in
      let order = has_postorder (cells_below (cells_from (reached file top))) (in_range (cells_from (reached file top)) number fit) free number (top_within (cells_from (reached file top)) number fit) in
      let is_built = built (cells_from (reached file top)) number [] order.0 fit (record { no_recursion = free; few_units = few; postorder = order.1 }) in
      record {
        design = record { cells = cells; top = number; props = []; order = order.0 };
        is_design = design_answered (record { cells = cells; top = number; props = []; order = order.0 }) (record { same_cells = is_built.same_cells; same_top = is_built.same_top; same_props = is_built.same_props; is_hier = is_built.is_hier });
      }

  pub checked : (result : Result (Unit {0}) ResolveError) → MatchResult result (λ done. units (cells_from (reached file top)) ≤ unit_limit) (IsFaultFrom (cells_from (reached file top)))
      → MatchResult result (λ done. HasDesign file top) (IsFaultOf file top)
  checked (Ok done) few = design_there few
  checked (Err fault) h = fault_answered fault h

  -- the same of modules that are the reached ones
  module _ (ms : List Module) (are : ms ≡ reached file top) where
    pub ready_for : (names : List Name) → names ≡ map (λ m. m.name) (reached file top) → AreReady names ms
    ready_for names named = subst (AreReady names) (sym are) (ready names named)

    pub fit_for : (number : ℕ) → number ≡ module_number (reached file top) top → CellsFit (cells_from ms) number
    fit_for number is = subst (λ those. CellsFit (cells_from those) number) (sym are) (subst (CellsFit (cells_from (reached file top))) (sym is) (those_fit file top value clean small))

    pub free_for : (number : ℕ) → ¬ ReachesItself (cells_below (cells_from ms)) number
    free_for = subst (λ those. (number : ℕ) → ¬ ReachesItself (cells_below (cells_from those)) number) (sym are) (none_back file top value clean small)

    pub shown_for : (number : ℕ) → number ≡ module_number (reached file top) top → (result : Result Shown ResolveError)
        → MatchResult result (λ shown. AreShownFrom ms number shown.modules shown.top shown.is_declared) (IsFaultFrom (cells_from ms)) → MatchResult result (λ shown. AreShown file top shown.modules shown.top shown.is_declared) (IsFaultOf file top)
    shown_for number is (Ok shown) h =
        record {
          no_refusals = none;
          shown_are = h.shown_are ∙ ap (map interface) are;
          number_is = h.top_is ∙ is;
          few_units = subst (λ those. units (cells_from those) ≤ unit_limit) are h.few_units;
          declared = λ e. subst (AllByRecursion (λ (m : Module). implicit_names m ≡ [])) are (h.declared e);
        }
    shown_for number is (Err fault) h = fault_answered fault (subst (λ those. IsFaultFrom (cells_from those) fault) are h)

    pub checked_for : (result : Result (Unit {0}) ResolveError) → MatchResult result (λ done. units (cells_from ms) ≤ unit_limit) (IsFaultFrom (cells_from ms)) → MatchResult result (λ done. HasDesign file top) (IsFaultOf file top)
    checked_for result h = checked result (subst (λ those. MatchResult result (λ done. units (cells_from those) ≤ unit_limit) (IsFaultFrom (cells_from those))) are h)

  -- the same of the modules that are shown
  module _ (shown : List Module) (number : ℕ) (is_declared : Bool) (are : AreShown file top shown number is_declared) where
    -- the cells of those modules of the file that are shown are those of the reached ones
    cells_are : cells_shown shown file.modules ≡ cells_from (reached file top)
    unfolding reached
    cells_are = ap (λ those. cells_shown those file.modules) are.shown_are ∙ marked_cells (marks_of (modules_below file.modules) (module_number file.modules top)) file.modules (differ_in file clean.once)

    reached_differ : Distinct (module_names (reached file top))
    unfolding reached
    reached_differ = differ_marked (marks_of (modules_below file.modules) (module_number file.modules top)) file.modules (differ_in file clean.once)

    -- a module of the file whose name is shown is a reached one
    chosen_fits : (i : ℕ) (m : Module) → slice_get file.modules i ≡ Some m → is_shown (map interface (reached file top)) m ≡ true → CanBeCell is_declared m
    chosen_fits i m e h =
        let n = name_there m.name (reached file top) (subst (λ names. has_name names m.name ≡ true) (names_same (reached file top)) h) in
        let r = reached_from file top clean.has_top clean.once n.place n.item n.is_there in
        let p : i ≡ r.place = own_all file top clean.has_top clean.once i r.place m n.item e r.is_there n.has_it in
        let q : slice_get file.modules i ≡ Some n.item = ap (slice_get file.modules) p ∙ r.is_there in
        let same : n.item ≡ m = cc in
        subst (CanBeCell is_declared) same (record {
          value = those_values file top value clean n.place n.item n.is_there;
          small = those_small file top value clean small n.place n.item n.is_there;
          once = (clean.each n.place n.item n.is_there).declared_once;
          declared = λ e. all_get (λ (m : Module). implicit_names m ≡ []) (reached file top) (are.declared e) n.place n.item n.is_there;
          numbers = numbers_fit (reached file top) n.place n.item n.is_there (clean.each n.place n.item n.is_there).narrow are.few_units;
        })

    pub can_shown : CanHaveCells is_declared shown file.modules
    can_shown = subst (λ those. CanHaveCells is_declared those file.modules) (sym are.shown_are) (record {
      few = let g : length (map interface (reached file top)) ≤ 268435456 = omega (arith, length-map (reached file top) interface, those_few file top value clean small) in g;
      differ = subst Distinct (sym (names_same (reached file top))) reached_differ;
      once = all_once (reached file top) (λ i m e. (clean.each i m e).declared_once);
      small = all_small (reached file top) (those_small file top value clean small);
      fit = chosen_fits;
    })

    pub fit_shown : CellsFit (cells_shown shown file.modules) number
    fit_shown = subst (λ cells. CellsFit cells number) (sym cells_are) (subst (CellsFit (cells_from (reached file top))) (sym are.number_is) (those_fit file top value clean small))

    pub free_shown : (n : ℕ) → ¬ ReachesItself (cells_below (cells_shown shown file.modules)) n
    free_shown = subst (λ cells. (n : ℕ) → ¬ ReachesItself (cells_below cells) n) (sym cells_are) (none_back file top value clean small)

    pub units_shown : units (cells_shown shown file.modules) ≤ unit_limit
    units_shown = subst (λ cells. units cells ≤ unit_limit) (sym cells_are) are.few_units

    pub answered_shown : (result : Result Design ResolveError) → MatchResult result (IsDesignFrom (cells_shown shown file.modules) number) (IsFaultFrom (cells_shown shown file.modules)) → MatchResult result (IsDesignOf file top) (IsFaultOf file top)
    answered_shown result h =
        answered result (subst (λ n. MatchResult result (IsDesignFrom (cells_from (reached file top)) n) (IsFaultFrom (cells_from (reached file top)))) are.number_is
        (subst (λ cells. MatchResult result (IsDesignFrom cells number) (IsFaultFrom cells)) cells_are h))
