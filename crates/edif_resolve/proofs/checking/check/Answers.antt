use Rattle.std.proofs.Common.{◌≡◌, [], ◌∙◌, sym, subst}
use Rattle.std.specs.Prelude.{MatchResult}
use Rattle.edif_lookup.proofs.Orders.{lowest_none}
use Rattle.edif_design.specs.FileRules.{refusals}
use Rattle.edif_resolve.specs.Answers.{HasDesign, IsFaultOf}
use Rattle.edif_resolve.proofs.Low.{first_of_file}
use Rattle.edif_resolve.proofs.checking.check.Goals as goal

pub returns-in-Some : goal.returns-in-Some
returns-in-Some c = first_of_file c.args.file.now c.in-Some.refusal (sym c.in_ok-refusal.ensures ∙ c.in-Some.is)

pub judged-requires-clause-clean : goal.judged-requires-clause-clean
judged-requires-clause-clean c =
    subst (λ file. refusals file ≡ []) (sym c.in_ok-tabled.ensures) (lowest_none (refusals c.args.file.now) (sym c.in_ok-refusal.ensures ∙ c.in-None.is))

pub returns : goal.returns
returns c = subst (λ file. MatchResult c.judged.result (λ done. HasDesign file) (IsFaultOf file)) c.in_ok-tabled.ensures c.judged.ensures
