use Rattle.std.proofs.Common.{◌≡◌, [], ◌∙◌, sym, subst}
use Rattle.std.specs.Prelude.{MatchResult}
use Rattle.edif_lookup.proofs.Orders.{lowest_none}
use Rattle.edif_design.specs.FileRules.{refusals}
use Rattle.edif_resolve.specs.Answers.{IsDesignOf, IsFaultOf}
use Rattle.edif_resolve.proofs.Low.{first_of_file}
use Rattle.edif_resolve.proofs.answer.resolve.Goals as goal

pub returns-in-Some : goal.returns-in-Some
returns-in-Some c = first_of_file c.args.file.now c.in-Some.refusal (sym c.in_ok-refusal.ensures ∙ c.in-Some.is)

pub design_of-requires-clause-clean : goal.design_of-requires-clause-clean
design_of-requires-clause-clean c =
    subst (λ file. refusals file ≡ []) (sym c.in_ok-tabled.ensures) (lowest_none (refusals c.args.file.now) (sym c.in_ok-refusal.ensures ∙ c.in-None.is))

pub returns : goal.returns
returns c = subst (λ file. MatchResult c.design_of.result (IsDesignOf file) (IsFaultOf file)) c.in_ok-tabled.ensures c.design_of.ensures
