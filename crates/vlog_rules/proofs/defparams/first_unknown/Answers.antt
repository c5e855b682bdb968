use Rattle.std.proofs.Common.{◌∙◌, Bool, List, ℕ, None, Some, ap, find, flat_map, not, refl, sym}
use Rattle.vlog_design.specs.Names.{defparam_statement, has_name}
use Rattle.vlog_design.specs.Tables.{names_of}
use Rattle.vlog_rules.proofs.StatementLaws.{unknown_set_first}
use Rattle.vlog_values.specs.declared.module.ItemV.{ItemV}
use Rattle.vlog_values.specs.declared.statement.DefSet.{DefSet}
use Rattle.vlog_rules.proofs.defparams.first_unknown.Goals as goal

abbrev sets_in : ItemV → List DefSet
sets_in item = flat_map (λ statement. statement.sets) (defparam_statement item)

pub returns-in-None : goal.returns-in-None
returns-in-None c =
    let p : DefSet → Bool = λ set. not (has_name c.in_ok-names.names set.instance) in
    let same = λ (name : List ℕ). c.in_ok-names.ensures name ∙ ap (λ names. has_name names name) (ap names_of c.deref.ensures.value ∙ c.in_ok-listed.ensures) in
    sym (unknown_set_first c.args.m.now c.in_ok-names.names None same (c.in-None.ensures ∙ ap (λ items. find p (flat_map sets_in items)) c.items.ensures))

pub returns : goal.returns
returns c =
    let p : DefSet → Bool = λ set. not (has_name c.in_ok-names.names set.instance) in
    let same = λ (name : List ℕ). c.in_ok-names.ensures name ∙ ap (λ names. has_name names name) (ap names_of c.deref.ensures.value ∙ c.in_ok-listed.ensures) in
    ap Some (c.in_ok-refuse_two-in-Some.ensures ∙ rw (c.bytes.ensures, c.bytes-instance.ensures, c.bytes-name.ensures) refl)
    ∙ sym (unknown_set_first c.args.m.now c.in_ok-names.names (Some c.in-Some.set.now) same (c.in-Some.ensures ∙ ap (λ items. find p (flat_map sets_in items)) c.items.ensures))
