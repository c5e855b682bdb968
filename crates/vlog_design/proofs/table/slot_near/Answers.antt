use Rattle.std.proofs.Common.{ap, option_map, refl, sym, ◌∙◌}
use Rattle.vlog_design.proofs.Tables.{found}
use Rattle.vlog_design.proofs.table.slot_near.Goals as goal

pub returns-in-None : goal.returns-in-None
returns-in-None c =
    ap (option_map (λ p. p.2.now)) (sym c.in-None.is) ∙ (c.get_full.ensures.value ∙ found c.args.slots.now.entries _ c.args.name.now (λ k. refl))

pub returns-in-Some-get_full : goal.returns-in-Some-get_full
returns-in-Some-get_full c =
    ap (option_map (λ p. p.2.now)) (sym c.in-Some-get_full.is) ∙ (c.get_full.ensures.value ∙ found c.args.slots.now.entries _ c.args.name.now (λ k. refl))
