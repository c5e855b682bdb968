use Rattle.std.proofs.Common.{◌∙◌, [], Bool, ap}
use Rattle.digests.specs.Sets.{is_again}
use Rattle.vlog_design.specs.Names.{Name, clashing, declarations}
use Rattle.vlog_design.specs.Rules.{clash}
use Rattle.vlog_rules.specs.NameDigests.{digest_of}
use Rattle.vlog_rules.proofs.DigestLaws.{clash_again, clashing_kept}
use Rattle.vlog_rules.proofs.noting.suspected.Goals as goal

pub returns : goal.returns
returns c =
    let sets = c.in_ok-digests.digests in
    let test : Name → Bool = λ name. is_again sets (digest_of name) in
    ap (clashing clash []) c.in_ok-found.ensures
    ∙ clashing_kept test [] (declarations c.args.m.now) (clash_again sets (declarations c.args.m.now) c.in_ok-digests.ensures)
