-- the cells of a flattened design are those of a design, and what `flatten` answers
use Rattle.std.proofs.Common.{◌≡◌, ℕ, ◌+◌, ◌-◌, ◌≤◌, inl, inr, List, [], refl, ap, subst, slice_get, Some, length, arith}
use Rattle.std.specs.Prelude.{◌∷◌, IfOk, MatchResult, None, Result, Ok, Err}
use Rattle.std.proofs.lemmas.List.{length-map}
use Rattle.flat_classes.specs.FlatFaults.{IsFlatFault}
use Rattle.flat_classes.specs.FlatSums.{IsFewFlat}
use Rattle.flat_classes.specs.Terminals.{AreFlatClasses, FlatValue}
use Rattle.flat_classes.specs.declared.flat.FlatFault.{FlatFault}
use Rattle.flat_classes.specs.declared.flat.FlatFault.TheVariants as faults
use Rattle.flat_classes.specs.Ways.{ArePaths}
use Rattle.net_flatten.proofs.Fits.{all_reached, stub_or_top, good, leaves, long, numbers, the_leaf}
use Rattle.net_flatten.proofs.UnitLaws.{numbers_short}
use Rattle.net_flatten.specs.Flattening.{IsFlattenError, IsFlattening, flatten_fault}
use Rattle.net_flatten.specs.declared.flattening.FlattenError.{FlattenError}
use Rattle.net_flatten_cells.proofs.CellLaws.{inner_few}
use Rattle.net_flatten_refusals.specs.Named.{HaveOwnJoinedNames}
use Rattle.net_flatten_rules.specs.FlatDesign.{flat_cells, inner}
use Rattle.net_flatten_rules.specs.Rules.{first_of, refusals}
use Rattle.net_flatten_rules.specs.SameFlat.{SameFlat}
use Rattle.net_flatten_same.proofs.Same.{unrefused_same}
use Rattle.net_graph.specs.Graph.{IsFirstRecursion, ReachesItself}
use Rattle.net_hier.specs.Build.{IsBuilt}
use Rattle.net_hier.specs.Constants.{ConstantNames}
use Rattle.net_hier.specs.Design.{Design}
use Rattle.net_hier.specs.Paths.{Path}
use Rattle.net_hier.specs.Valid.{CellsFit, IsHier, IsValid, count_limit}
use Rattle.net_hier.specs.declared.cells.HCell.{HCell}

module _ (names : ConstantNames) (design : Design) (hier : IsHier design) (few : IsFewFlat design) (flat : FlatValue) (are : AreFlatClasses names design flat) (paths : List Path) where
  abbrev ks : List HCell
  ks = flat_cells design paths flat

  abbrev top : ℕ
  top = length (numbers names design hier few flat are paths)

  is_long : length ks ≡ top + 1
  is_long = long names design hier few flat are paths

  pub top_is : top ≡ length ks - 1
  top_is = let l = is_long in omega (arith, l)

  few_in : (place : ℕ) (cell : HCell) → slice_get ks place ≡ Some cell → length cell.instances ≤ count_limit
  few_in place cell e = elim (stub_or_top names design hier few flat are paths place cell e) as (λ _. length cell.instances ≤ count_limit) [
    | inl f ↦ subst (λ (c : HCell). length c.instances ≤ count_limit) f.is (omega arith)
    | inr t ↦
        let f = inner_few names design flat are hier few in
        let l = length-map (leaves names design hier few flat are paths) (the_leaf names design hier few flat are paths) in
        subst (λ (c : HCell). length c.instances ≤ count_limit) t.1 (omega (arith, f, l))
  ]

  -- the cells fit
  pub cells_fit : HaveOwnJoinedNames paths (inner flat.leaves) → CellsFit ks (length ks - 1)
  cells_fit own = subst (CellsFit ks) top_is (record {
    few_parts = record { few_cells = let s = numbers_short names design hier few flat are paths in let l = is_long in omega (arith, s, l); few_instances = few_in };
    has_top = let l = is_long in omega (arith, l);
    good_cells = good names design hier few flat are paths own;
    reached = all_reached names design hier few flat are paths;
  })

  -- the design of these cells is the flattened one
  pub flattening_made : (other : Design) → ArePaths design.cells flat.spots paths → refusals design paths flat ≡ [] → IsBuilt ks (length ks - 1) design.props other → IsFlattening names design other
  flattening_made other are_paths none built = record {
    few = few;
    is_flattened = record {
      flat = flat;
      are_classes = are;
      paths = paths;
      are_paths = are_paths;
      same_cells = built.same_cells;
      top_is_last = let l = is_long in let c = ap length built.same_cells in let t = built.same_top in omega (arith, l, c, t);
      same_props = built.same_props;
    };
    no_refusals = none;
  }

-- where no number reaches itself, there is no first one that does
pub none_first : (graph : List (List ℕ)) → ((number : ℕ) → ¬ ReachesItself graph number) → (number place : ℕ) → IsFirstRecursion graph number place → ⊥
none_first graph free number place first = free number (record {
  below = first.closing.inner;
  first = record { numbers = first.closing.numbers; are_below = first.closing.are_below; place = place; is_there = first.closing.is_there };
  back = first.closing.closes;
})

-- a flattened design of a valid one is the design as one cell of leaf instances
pub same_flat : (names : ConstantNames) (design : Design) (result : Result Design FlattenError) → IsValid design → MatchResult result (IsFlattening names design) (IsFlattenError names design) → IfOk result (SameFlat names design)
same_flat names design (Ok other) valid is = unrefused_same names design other is.is_flattened.flat is.is_flattened.paths valid is.is_flattened.are_classes is.is_flattened.are_paths is.is_flattened is.no_refusals
same_flat names design (Err e) valid is = tt

-- why a design is not taken apart is why it is not flattened
pub fault_passed : (names : ConstantNames) (design : Design) (fault : FlatFault) → IsFlatFault design fault → IsFlattenError names design (flatten_fault fault)
fault_passed names design (faults.TooLarge count) is = is
fault_passed names design faults.NoMemory is = tt

pub nothing_first : {A : Type 0} (xs : List A) → first_of xs ≡ None → xs ≡ []
nothing_first [] e = refl
nothing_first (x ∷ xs) e = absurd (cc)
