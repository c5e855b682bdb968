-- What the expressions of nodes mean in a plain module.
use Rattle.std.proofs.Common.{◌≡◌, inl, inr, ℕ, zero, suc, ◌<◌, List, [], ◌∷◌, ◌++◌, Option, Some, flat_map, slice_get, refl, sym, ap, ◌∙◌, arith}
use Rattle.net_graph.proofs.ListLaws.{element_there}
use Rattle.net_hier.specs.declared.nodes.Node.{Node}
use Rattle.net_hier.specs.declared.nodes.Node.TheVariants.{Pin}
use Rattle.net_stars.specs.Stars.{Hubs}
use Rattle.vlog_design.specs.Exprs.{bits}
use Rattle.vlog_design.specs.Names.{Signal, signals}
use Rattle.vlog_design.proofs.ExprLemmas.{bits-Cat}
use Rattle.vlog_values.specs.declared.expression.Expr.{Expr}
use Rattle.vlog_values.specs.declared.expression.Expr.TheVariants.{Cat}
use Rattle.vlog_values.specs.declared.statement.Assignment.{Assignment}
use Rattle.vlog_written.specs.Hubs.{MeansBoth}
use Rattle.vlog_written.specs.Written.{MeansNode, PlainModule, plain_module, port_expr, wire_expr}
use Rattle.vlog_written.proofs.Exprs.{constant_means, port_means, wire_means}
use Rattle.vlog_plain.specs.Plain.{IsNodeExpr, IsPlainModule, of_constant, of_port, of_wire}
use Rattle.vlog_plain.proofs.Named.{table_is}
use Rattle.vlog_plain.proofs.Uses.{are_apart, none_some, some_same}
use Rattle.vlog_partners.specs.Partners.{AreSides, IsPinOf, each_hub, no_hub, one_hub}

module _ (ps : List PlainModule) (place : ℕ) (p : PlainModule) (is : IsPlainModule ps place p) where
  abbrev names : List Signal
  names = signals (plain_module p)

  pub node_means : (node : Node) (expr : Expr) → IsNodeExpr p node expr → MeansNode names expr node
  node_means node expr (of_port number port bit e within n x) =
      ap (bits names) x
      ∙ (ap (λ table. bits table (port_expr port bit)) (table_is ps place p is)
      ∙ (port_means p (are_apart ps place p is) number bit port e within ∙ ap (λ (m : Node). Some m ∷ []) (sym n)))
  node_means node expr (of_wire number wire e n x) =
      ap (bits names) x
      ∙ (ap (λ table. bits table (wire_expr wire)) (table_is ps place p is)
      ∙ (wire_means p (are_apart ps place p is) number wire e ∙ ap (λ (m : Node). Some m ∷ []) (sym n)))
  node_means node expr (of_constant one n x) = ap (bits names) x ∙ (constant_means names one ∙ ap (λ (m : Node). Some m ∷ []) (sym n))

  pub both_mean : (set : Assignment) (x y : Node) → AreSides p set x y → MeansBoth names set x y
  both_mean set x y sides = elim sides as (λ _. MeansBoth names set x y) [
    | inl s ↦ inl (node_means x set.left s.0, node_means y set.right s.1)
    | inr s ↦ inr (node_means y set.left s.0, node_means x set.right s.1)
  ]

  -- the bits of expressions of one node each
  each_at : (exprs : List Expr) → ((k : ℕ) (part : Expr) → slice_get exprs k ≡ Some part → (other : Node) × (bits names part ≡ Some other ∷ [])) → (bit : ℕ) (expr : Expr) (hub : Node) → slice_get exprs bit ≡ Some expr → bits names expr ≡ Some hub ∷ [] →
      slice_get (flat_map (bits names) exprs) bit ≡ Some (Some hub)
  each_at [] single bit expr hub e h = absurd (cc)
  each_at (part ∷ exprs) single zero expr hub e h =
      let same : part ≡ expr = some_same part expr e in
      ap (λ (l : List (Option Node)). slice_get (l ++ flat_map (bits names) exprs) 0) (ap (bits names) same ∙ h)
  each_at (part ∷ exprs) single (suc bit) expr hub e h =
      let s = single 0 part refl in
      ap (λ (l : List (Option Node)). slice_get (l ++ flat_map (bits names) exprs) (suc bit)) s.1 ∙ each_at exprs (λ k other f. single (suc k) other f) bit expr hub e h

  module _ (hubs : Hubs) (number port width : ℕ) where
    hub_at : (exprs : List Expr) (bit : ℕ) (expr : Expr) →
        (are : (k : ℕ) (part : Expr) → slice_get exprs k ≡ Some part → (hub : Node) × (hubs (Pin number port k) ≡ Some hub) × IsNodeExpr p hub part) → (e : slice_get exprs bit ≡ Some expr) → slice_get (bits names (Cat exprs)) bit ≡ Some (Some (are bit expr e).0)
    hub_at exprs bit expr are e =
        ap (λ (l : List (Option Node)). slice_get l bit) (bits-Cat names exprs)
        ∙ each_at exprs (λ k part f. let r = are k part f in (r.0, node_means r.0 part r.2)) bit expr (are bit expr e).0 e (node_means (are bit expr e).0 expr (are bit expr e).2)

    first_only : (bit : ℕ) → width ≡ 1 → bit < width → bit ≡ 0
    first_only bit w lt = omega (arith, w, lt)

    two_nodes : (x y : Node) → Some (Some x) ≡ Some (Some y) → x ≡ y
    two_nodes x y e = cc

    -- a node at a bit of a pin is the hub of the bit
    pub is_hub_there : (o : Option Expr) (value : Expr) (bit : ℕ) (node : Node) → IsPinOf p hubs number port width o → o ≡ Some value → bit < width → slice_get (bits names value) bit ≡ Some (Some node) → hubs (Pin number port bit) ≡ Some node
    is_hub_there o value bit node (no_hub bare e) v lt at = absurd (none_some value (sym e ∙ v))
    is_hub_there o value bit node (one_hub hub expr has is_expr w e) v lt at =
        let same : expr ≡ value = some_same expr value (sym e ∙ v) in
        let zero_bit : bit ≡ 0 = first_only bit w lt in
        let here : slice_get (bits names value) 0 ≡ Some (Some hub) = ap (λ (l : List (Option Node)). slice_get l 0) (ap (bits names) (sym same) ∙ node_means hub expr is_expr) in
        let node_is : hub ≡ node = two_nodes hub node (sym here ∙ (ap (slice_get (bits names value)) (sym zero_bit) ∙ at)) in
        ap (λ n. hubs (Pin number port n)) zero_bit ∙ (has ∙ ap Some node_is)
    is_hub_there o value bit node (each_hub exprs are w e) v lt at =
        let same : Cat exprs ≡ value = some_same (Cat exprs) value (sym e ∙ v) in
        let part = element_there exprs bit (omega (arith, lt, w)) in
        let node_is : (are bit part.0 part.1).0 ≡ node = two_nodes (are bit part.0 part.1).0 node (sym (hub_at exprs bit part.0 are part.1) ∙ (ap (λ (x : Expr). slice_get (bits names x) bit) same ∙ at)) in
        (are bit part.0 part.1).1 ∙ ap Some node_is

    -- a bit with a hub has it in what the pin is connected to
    pub record HasThere (o : Option Expr) (bit : ℕ) (hub : Node) : Type 0 where
      pub value : Expr
      pub is_value : o ≡ Some value
      pub is_there : slice_get (bits names value) bit ≡ Some (Some hub)

    pub has_there : (o : Option Expr) (bit : ℕ) (hub : Node) → IsPinOf p hubs number port width o → bit < width → hubs (Pin number port bit) ≡ Some hub → HasThere o bit hub
    has_there o bit hub (no_hub bare e) lt h = absurd (none_some hub (sym (bare bit lt) ∙ h))
    has_there o bit hub (one_hub other expr has is_expr w e) lt h =
        let zero_bit : bit ≡ 0 = first_only bit w lt in
        let same : other ≡ hub = some_same other hub (sym has ∙ (ap (λ n. hubs (Pin number port n)) (sym zero_bit) ∙ h)) in
        record {
          value = expr;
          is_value = e;
          is_there = ap (slice_get (bits names expr)) zero_bit ∙ (ap (λ (l : List (Option Node)). slice_get l 0) (node_means other expr is_expr) ∙ ap (λ (x : Node). Some (Some x)) same);
        }
    has_there o bit hub (each_hub exprs are w e) lt h =
        let part = element_there exprs bit (omega (arith, lt, w)) in
        let same : (are bit part.0 part.1).0 ≡ hub = some_same (are bit part.0 part.1).0 hub (sym (are bit part.0 part.1).1 ∙ h) in
        record { value = Cat exprs; is_value = e; is_there = hub_at exprs bit part.0 are part.1 ∙ ap (λ (x : Node). Some (Some x)) same }
