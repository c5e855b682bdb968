use Rattle.std.proofs.Common.{ℕ, ◌≡◌, ◌<◌, ◌∙◌, ap, length, subst, sym}
use Rattle.std.specs.Prelude.{MatchOption}
use Rattle.std.proofs.lemmas.List.{length-map}
use Rattle.net_graph.specs.Graph.{IsFirstRecursion, ReachesItself}
use Rattle.vlog_design.specs.Reach.{modules_below}
use Rattle.vlog_design.specs.Tables.{modules_of}
use Rattle.vlog_reach.proofs.ReachLaws.{graph_long, in_range}
use Rattle.vlog_scopes.proofs.RecursionLaws.{graph_same}
use Rattle.vlog_scopes.proofs.recursion.recursion_in.Goals as goal

pub first_recursion-requires-clause-in_range : goal.first_recursion-requires-clause-in_range
first_recursion-requires-clause-in_range c =
    in_range (modules_of c.args.modules.now) c.deref.result.now (c.deref.ensures.value ∙ (c.in_ok-graph.ensures ∙ graph_same (modules_of c.args.modules.now) c.args.names.now c.requires.are_named))

pub first_recursion-requires-clause-within : goal.first_recursion-requires-clause-within
first_recursion-requires-clause-within c =
    let modules = modules_of c.args.modules.now in
    let same : c.deref.result.now ≡ modules_below modules = c.deref.ensures.value ∙ (c.in_ok-graph.ensures ∙ graph_same modules c.args.names.now c.requires.are_named) in
    subst (λ n. c.args.top < n) (sym (ap length same ∙ (graph_long modules ∙ length-map c.args.modules.now (λ m. m.now)))) c.requires.within

pub first_recursion-requires-clause-short : goal.first_recursion-requires-clause-short
first_recursion-requires-clause-short c =
    let modules = modules_of c.args.modules.now in
    let same : c.deref.result.now ≡ modules_below modules = c.deref.ensures.value ∙ (c.in_ok-graph.ensures ∙ graph_same modules c.args.names.now c.requires.are_named) in
    subst (λ n. n < 4294967296) (sym (ap length same ∙ (graph_long modules ∙ length-map c.args.modules.now (λ m. m.now)))) c.requires.few

pub returns : goal.returns
returns c =
    let modules = modules_of c.args.modules.now in
    let same : c.deref.result.now ≡ modules_below modules = c.deref.ensures.value ∙ (c.in_ok-graph.ensures ∙ graph_same modules c.args.names.now c.requires.are_named) in
    subst (λ graph. MatchOption c.in_ok-found.found ((number : ℕ) → ¬ ReachesItself graph number) (λ recursion. IsFirstRecursion graph recursion.number recursion.place)) same c.in_ok-found.ensures
