use Rattle.std.proofs.Common.{map, ap, ◌∙◌, subst}
use Rattle.edif_written.specs.Naming.{ident_of}
use Rattle.edif_naming.proofs.LastLaws.{own_ident, pushed_plain, pushed_value}
use Rattle.edif_spaces.specs.Plain.{IsPlainStep}
use Rattle.edif_spaces.proofs.PlainLaws.{told_own}
use Rattle.edif_naming.proofs.last.add_property.Goals as goal

pub property_by-requires : goal.property_by-requires
property_by-requires c =
    let before = map ident_of c.args.made.now.items in
    let told = told_own before (map ident_of c.as_slice.result.now) c.bytes-name.result.now c.is_own-is_own.result (ap (map ident_of) c.as_slice.ensures.value) c.is_own-is_own.ensures in
    λ own. own_ident before c.args.from c.in_ok-ident.next c.bytes-name.result.now c.in_ok-ident.ident c.is_own-is_own.result told (c.in_ok-ident.ensures before told c.requires.plain.plain) own ∙ c.bytes-name.ensures

pub returns-clause-value : goal.returns-clause-value
returns-clause-value c = pushed_value c.args.made.now.items c.push.new.self.items c.in_ok-property.property c.in_ok-ident.ident c.args.prop.now c.in_ok-push.ensures.items c.in_ok-property.ensures.property

pub returns-clause-plain : goal.returns-clause-plain
returns-clause-plain c =
    let before = map ident_of c.args.made.now.items in
    let told = told_own before (map ident_of c.as_slice.result.now) c.bytes-name.result.now c.is_own-is_own.result (ap (map ident_of) c.as_slice.ensures.value) c.is_own-is_own.ensures in
    let step = subst (λ n. IsPlainStep before c.args.from n c.in_ok-ident.ident c.in_ok-ident.next) c.bytes-name.ensures (c.in_ok-ident.ensures before told c.requires.plain.plain) in
    pushed_plain c.args.made.now.items c.push.new.self.items c.args.from c.in_ok-ident.next c.in_ok-property.property c.in_ok-ident.ident c.args.prop.now c.requires.plain c.in_ok-push.ensures.items c.in_ok-property.ensures.property step
