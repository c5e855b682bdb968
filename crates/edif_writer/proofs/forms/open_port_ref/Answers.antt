use Rattle.std.proofs.Common.{List, ℕ, ◌++◌, ◌∙◌, sym, ap, subst}
use Rattle.std.specs.Prelude.{codes}
use Rattle.nl_output.specs.Writing.{state, ToCome}
use Rattle.edif_writer.proofs.Fronts.{front}
use Rattle.edif_writer.proofs.forms.open_port_ref.Goals as goal

pub returns : goal.returns
returns g c b rest s =
    c.put.ensures b rest (subst (λ (z : List ℕ). ToCome b (state g.O.Sink.receipt c.args.sink.now c.args.output.now) z)
    (sym (ap (λ (z : List ℕ). z ++ rest) c.split_at.ensures.back ∙ front c.args.indent (codes "(portRef ") rest c.requires)) s)
