use Rattle.std.proofs.Common.{◌≡◌, ◌∙◌, ap, map, ◌&&◌}
use Rattle.net_bits.specs.Names.{has_name as set_has}
use Rattle.net_hier.specs.declared.cells.HProp.{HProp}
use Rattle.net_live.specs.Last.{last_of, seen}
use Rattle.vlog_design.specs.Names.{has_name}
use Rattle.vlog_design.specs.Tables.{names_of}
use Rattle.to_verilog_rules.specs.Found.{flagged_names}
use Rattle.to_verilog_rules.specs.Rules.{is_last_boolean}
use Rattle.to_verilog_rules.proofs.Firsts.{first_by, flagged_is}
use Rattle.to_verilog_rules.proofs.flags.flag_among.Goals as goal

pub returns : goal.returns
returns c =
    let is_param = set_has c.args.params.now in
    let last : seen c.as_slice.result.now ≡ last_of c.args.props.now = ap seen c.as_slice.ensures.value ∙ c.in_ok-last.ensures in
    let same : names_of c.deref.result.now ≡ flagged_names is_param (last_of c.args.props.now) = ap names_of c.deref.ensures.value ∙ (c.in_ok-names.ensures ∙ ap (flagged_names is_param) last) in
    first_by c.in_ok-set.set (map (λ (prop : HProp). prop.name) c.args.props.now) (λ name. is_param name && is_last_boolean c.args.props.now name) _
    c.prop_named-found.ensures
    (λ name. c.in_ok-set.ensures name ∙ (ap (λ l. has_name l name) same ∙ flagged_is is_param name (last_of c.args.props.now)))
