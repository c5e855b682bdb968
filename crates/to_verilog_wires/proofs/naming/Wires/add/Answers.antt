use Rattle.std.proofs.Common.{◌∷◌, [], ◌++◌, ◌∙◌, ap, refl, false, None}
use Rattle.vlog_values.specs.declared.declaration.NetKind.TheVariants.{Wire}
use Rattle.net_bits.specs.Names.{with_name}
use Rattle.to_verilog_wires.proofs.NameLaws.{one_more}
use Rattle.vlog_values.specs.declared.module.ItemV.TheVariants.{Net}
use Rattle.to_verilog_wires.proofs.naming.Wires.add.Goals as goal

pub returns : goal.returns
returns c =
    one_more c.args.cell.now c.args.nodes.now c.args.self.now c.name_for.new.self _ c.in_ok-name.name c.in_ok-name.ensures.kept c.in_ok-name.ensures.new c.in_ok-name.ensures.named c.in_ok-name.ensures.next
    (c.in_ok-add.ensures.added ∙ ap (with_name c.name_for.new.self.used) c.bytes.ensures)
    c.in_ok-push-2.ensures.added
    (c.in_ok-push.ensures.added ∙ ap (λ d. c.name_for.new.self.decls ++ Net d ∷ []) (c.in_ok-decl.ensures ∙ (ap (λ n. record { attrs = c.in_ok-attrs.attrs; kind = Wire; signed = false; range = None; names = n ∷ [] }) c.bytes-2.ensures
    ∙ ap (λ a. record { attrs = a; kind = Wire; signed = false; range = None; names = c.in_ok-name.name ∷ [] }) c.in_ok-attrs.ensures)))
    refl
