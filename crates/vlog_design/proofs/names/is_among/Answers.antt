use Rattle.std.proofs.Common.{ap, bytes_eq, length, nat_lt, sym, ◌∙◌}
use Rattle.std.specs.List.{position_or_len}
use Rattle.std.proofs.lemmas.List.{length-map}
use Rattle.vlog_design.specs.Tables.{names_of}
use Rattle.vlog_design.proofs.NameSets.{any_within}
use Rattle.vlog_design.proofs.names.is_among.Goals as goal

pub returns : goal.returns
returns c =
    let names = c.args.names.now in
    let test = bytes_eq c.args.name.now in
    ap (λ n. nat_lt n (length names)) c.place_among.ensures
    ∙ (ap (nat_lt (position_or_len test (names_of names))) (sym (length-map names _)) ∙ any_within test (names_of names))
