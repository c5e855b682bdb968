use Rattle.std.proofs.Common.{◌∷◌, [], ◌∙◌, ap}
use Rattle.std.specs.Prelude.{codes}
use Rattle.nl_base.specs.declared.rule.Rule.TheVariants.{E5}
use Rattle.edif_lookup.specs.Refusals.{broken, lowest}
use Rattle.edif_lookup.proofs.Orders.{lowest_both}
use Rattle.edif_resolve.proofs.library.one_refusal.Goals as goal

pub returns : goal.returns
returns c =
    c.lower.ensures ∙ lowest_both _ _ c.in_ok-second.second c.in_ok-parts.parts
    (c.in_ok-second.ensures ∙ ap (λ s. lowest (broken c.args.taken E5 [] (codes "cell" ∷ (s ∷ [])))) c.bytes.ensures.bytes) c.in_ok-parts.ensures
