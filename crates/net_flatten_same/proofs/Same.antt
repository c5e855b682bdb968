-- a flattened design is the design as one cell of leaf instances
use Rattle.std.proofs.Common.{◌≡◌, ℕ, suc, ◌+◌, List, [], ◌∷◌, ◌++◌, refl, sym, ◌∙◌, ap, subst, subst₂, length, map, arith}
use Rattle.std.specs.List.{flat_map}
use Rattle.std.proofs.lemmas.List.{length-append, length-map}
use Rattle.net_hier.specs.Constants.{ConstantNames}
use Rattle.net_hier.specs.Design.{Design, top_name}
use Rattle.net_hier.specs.Paths.{Path}
use Rattle.net_hier.specs.Valid.{IsValid}
use Rattle.net_hier.specs.declared.cells.HCell.{HCell}
use Rattle.net_hier.specs.declared.cells.HProp.{HProp}
use Rattle.flat_classes.specs.Terminals.{AreFlatClasses, FlatValue}
use Rattle.flat_classes.proofs.OneFlat.{one_flat}
use Rattle.flat_classes.specs.Ways.{ArePaths}
use Rattle.flat_report.proofs.OneReport.{one_paths}
use Rattle.net_flatten_rules.specs.FlatDesign.{IsFlattened, cell_or_none, stub, flat_cells, inner}
use Rattle.net_flatten_rules.specs.Joined.{name_at}
use Rattle.net_flatten_rules.specs.Rules.{long_in_cell, long_in_design, names_twice, refusals, refused, repeated}
use Rattle.net_flatten_rules.specs.SameFlat.{SameFlat}
use Rattle.net_flatten_rules.specs.declared.refusal.FlattenRule.TheVariants.{F1}
use Rattle.net_flatten_same.proofs.Connection.{same_connection}
use Rattle.net_flatten_same.proofs.Flattened.{front, has_leaves, no_more, other, same_name, same_top, same_top_props, the_top}
use Rattle.net_flatten_same.proofs.Leaves.{Flattening, numbers_of, one_joined}
use Rattle.net_flatten_same.proofs.Lists.{nothing_before, nothing_mapped}

module _ (names : ConstantNames) (design : Design) (f : Flattening names design) (order : List ℕ) where
  same_flat : SameFlat names design (other names design f order)
  same_flat = record {
    same_name = same_name names design f order;
    has_leaves = has_leaves names design f order;
    one_each = one_joined names design f;
    no_more = no_more names design f order;
    same_top = same_top names design f order;
    same_top_props = same_top_props names design f order;
    same_connection = same_connection names design f order;
  }

  one_more : (n m : ℕ) → suc n ≡ m + 1 → n ≡ m
  one_more n m e = omega (arith, e)

  -- the number of the last cell
  last_cell : (cells : List HCell) (top : ℕ) → cells ≡ (other names design f order).cells → suc top ≡ length cells → top ≡ (other names design f order).top
  last_cell cells top e last =
      let n : length cells ≡ length (front names design f order) + 1 = ap length e ∙ length-append (front names design f order) (the_top names design f order ∷ []) in
      let m : length (front names design f order) ≡ length (numbers_of design f.flat) = length-map (numbers_of design f.flat) (λ number. stub (cell_or_none design.cells number)) in
      one_more top (length (numbers_of design f.flat)) (last ∙ (n ∙ ap (λ k. k + 1) m))

-- the same of a design with equal cells, top and properties
moved : (names : ConstantNames) (design : Design) (a b : List HCell) (m n : ℕ) (p q : List HProp) (order : List ℕ) → a ≡ b → m ≡ n → p ≡ q →
    SameFlat names design (record { cells = b; top = n; props = q; order = order }) → SameFlat names design (record { cells = a; top = m; props = p; order = order })
moved names design a b m n p q order ea em ep h =
    subst (λ c. SameFlat names design (record { cells = c; top = m; props = p; order = order })) (sym ea)
    (subst (λ k. SameFlat names design (record { cells = b; top = k; props = p; order = order })) (sym em)
    (subst (λ r. SameFlat names design (record { cells = b; top = n; props = r; order = order })) (sym ep) h))

module _ (names : ConstantNames) (design made : Design) (flat : FlatValue) (paths : List Path) (valid : IsValid design) (are : AreFlatClasses names design flat) (are_paths : ArePaths design.cells flat.spots paths)
    (is : IsFlattened names design made.cells made.top made.props) where
  same_value : is.flat ≡ flat
  same_value = one_flat names design valid is.flat flat is.are_classes are

  same_paths : is.paths ≡ paths
  same_paths = one_paths design valid flat.spots are.are_spots is.paths paths (subst (λ (v : FlatValue). ArePaths design.cells v.spots is.paths) same_value is.are_paths) are_paths

  pub joined_same : names_twice design paths flat ≡ [] → SameFlat names design made
  joined_same none =
      let f : Flattening names design = record {
        valid = valid;
        flat = flat;
        are = are;
        paths = paths;
        are_paths = are_paths;
        apart = nothing_mapped (λ name. refused F1 (top_name design.cells design.top) (name ∷ [])) (repeated [] (map (name_at paths) (inner flat.leaves))) none;
      } in
      let cells : made.cells ≡ flat_cells design paths flat = is.same_cells ∙ subst₂ (λ v p. flat_cells design is.paths is.flat ≡ flat_cells design p v) same_value same_paths refl in
      moved names design made.cells (flat_cells design paths flat) made.top (length (numbers_of design flat)) made.props design.props made.order
      cells (last_cell names design f made.order made.cells made.top cells is.top_is_last) is.same_props (same_flat names design f made.order)

  pub unrefused_same : refusals design paths flat ≡ [] → SameFlat names design made
  unrefused_same none = joined_same (nothing_before (names_twice design paths flat) (flat_map long_in_cell (flat_cells design paths flat) ++ long_in_design design) none)
