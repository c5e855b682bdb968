-- a valid design is flattened in one way
use Rattle.std.proofs.Common.{◌≡◌, ℕ, suc, List, refl, sym, ◌∙◌, ap, subst, subst₂, length}
use Rattle.net_graph.specs.Graph.{IsPostorder}
use Rattle.net_hier.specs.Constants.{ConstantNames}
use Rattle.net_hier.specs.Design.{Design, cells_below}
use Rattle.net_hier.specs.Paths.{Path}
use Rattle.net_hier.specs.Valid.{IsValid}
use Rattle.net_hier.specs.declared.cells.HCell.{HCell}
use Rattle.net_hier.specs.declared.cells.HProp.{HProp}
use Rattle.flat_classes.specs.Terminals.{AreFlatClasses, FlatValue}
use Rattle.flat_classes.proofs.OneFlat.{one_flat}
use Rattle.flat_classes.specs.Ways.{ArePaths}
use Rattle.flat_report.proofs.OneReport.{one_paths}
use Rattle.net_flatten_rules.specs.FlatDesign.{IsFlattened, flat_cells}
use Rattle.net_flatten_rules.specs.Rules.{refusals}
use Rattle.net_flatten_one.specs.Parts.{HasParts}
use Rattle.net_flatten_one.proofs.Orders.{one_postorder}

-- a design of parts
abbrev of_parts : List HCell → ℕ → List HProp → List ℕ → Design
of_parts cells top props order = record { cells = cells; top = top; props = props; order = order }

same_parts : (a b : List HCell) (m n : ℕ) (p q : List HProp) (o r : List ℕ) → a ≡ b → m ≡ n → p ≡ q → o ≡ r → of_parts a m p o ≡ of_parts b n q r
same_parts a b m n p q o r ea em ep eo = cc

module _ (cells : List HCell) (top : ℕ) (props : List HProp) (design other : Design) where
  pub one_design : HasParts cells top props design → HasParts cells top props other → IsValid design → IsValid other → design ≡ other
  one_design of_design of_other valid valid_other =
      let same_cells : other.cells ≡ design.cells = of_other.same_cells ∙ sym of_design.same_cells in
      let same_top : other.top ≡ design.top = of_other.same_top ∙ sym of_design.same_top in
      let moved : IsPostorder (cells_below design.cells) design.top other.order =
      subst₂ (λ cs t. IsPostorder (cells_below cs) t other.order) same_cells same_top valid_other.postorder in
      let same_order : design.order ≡ other.order = one_postorder (cells_below design.cells) design.top design.order other.order valid.postorder moved in
      same_parts design.cells other.cells design.top other.top design.props other.props design.order other.order (sym same_cells) (sym same_top) (of_design.same_props ∙ sym of_other.same_props) same_order

module _ (names : ConstantNames) (design : Design) (valid : IsValid design) where
  -- paths of the same flat classes
  one_way : (a b : FlatValue) (apaths bpaths : List Path) → AreFlatClasses names design a → AreFlatClasses names design b → ArePaths design.cells a.spots apaths → ArePaths design.cells b.spots bpaths → apaths ≡ bpaths
  one_way a b apaths bpaths of_a of_b are are_too =
      let same : a ≡ b = one_flat names design valid a b of_a of_b in
      one_paths design valid b.spots of_b.are_spots apaths bpaths (subst (λ (v : FlatValue). ArePaths design.cells v.spots apaths) same are) are_too

  pub one_refusals : (a b : FlatValue) (apaths bpaths : List Path) → AreFlatClasses names design a → AreFlatClasses names design b → ArePaths design.cells a.spots apaths → ArePaths design.cells b.spots bpaths
      → refusals design apaths a ≡ refusals design bpaths b
  one_refusals a b apaths bpaths of_a of_b are are_too =
      subst₂ (λ v p. refusals design apaths a ≡ refusals design p v) (one_flat names design valid a b of_a of_b) (one_way a b apaths bpaths of_a of_b are are_too) refl

  -- the cells of the flattened design
  one_list : (a b : FlatValue) (apaths bpaths : List Path) → AreFlatClasses names design a → AreFlatClasses names design b → ArePaths design.cells a.spots apaths → ArePaths design.cells b.spots bpaths
      → flat_cells design apaths a ≡ flat_cells design bpaths b
  one_list a b apaths bpaths of_a of_b are are_too =
      subst₂ (λ v p. flat_cells design apaths a ≡ flat_cells design p v) (one_flat names design valid a b of_a of_b) (one_way a b apaths bpaths of_a of_b are are_too) refl

  pub one_flattened : (a b : Design) → IsFlattened names design a.cells a.top a.props → IsFlattened names design b.cells b.top b.props → HasParts a.cells a.top a.props b
  one_flattened a b of_a of_b =
      let same : b.cells ≡ a.cells = of_b.same_cells ∙ (one_list of_b.flat of_a.flat of_b.paths of_a.paths of_b.are_classes of_a.are_classes of_b.are_paths of_a.are_paths ∙ sym of_a.same_cells) in
      let tops : suc b.top ≡ suc a.top = of_b.top_is_last ∙ (ap (λ cs. length cs) same ∙ sym of_a.top_is_last) in
      record { same_cells = same; same_top = cc; same_props = of_b.same_props ∙ sym of_a.same_props }
