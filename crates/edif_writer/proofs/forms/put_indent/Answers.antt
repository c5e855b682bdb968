use Rattle.std.proofs.Common.{ℕ, List, ◌++◌, ◌∙◌, sym, subst}
use Rattle.std.proofs.lemmas.List.{take-replicate}
use Rattle.nl_output.specs.Writing.{state, ToCome}
use Rattle.edif_writer.proofs.forms.put_indent.Goals as goal

pub returns : goal.returns
returns g c b rest s =
    c.put.ensures b rest (subst (λ (z : List ℕ). ToCome b (state g.O.Sink.receipt c.args.sink.now c.args.output.now) (z ++ rest))
    (sym (c.split_at.ensures.front ∙ take-replicate c.args.indent 16 32 c.requires)) s)
