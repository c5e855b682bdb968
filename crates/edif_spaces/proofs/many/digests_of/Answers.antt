use Rattle.std.proofs.Common.{true, [], ◌∷◌, ◌++◌, ◌∙◌, ap, get_or, subst, sym, take}
use Rattle.std.proofs.lemmas.List.{map-append}
use Rattle.digests.specs.Sets.{AreNoted}
use Rattle.net_bits.specs.NameTables.{digest_of}
use Rattle.edif_spaces.proofs.IdentLaws.{seen}
use Rattle.edif_spaces.proofs.ManyLaws.{digests_of, seen_more}
use Rattle.edif_spaces.proofs.many.digests_of.Goals as goal

pub loop-name-preserved : goal.loop-name-preserved
loop-name-preserved c =
    let names = c.args.names.now in
    let i = c.loop-name.name-index in
    let before = seen (take i names) in
    let more = ap digests_of (seen_more names i _ c.loop-name-test.true) ∙ map-append (digest_of true) before ((get_or names i _).now ∷ []) in
    subst (AreNoted c.note.new.self) (sym more) (subst (λ d. AreNoted c.note.new.self (digests_of before ++ d ∷ [])) c.digest.ensures (c.note.ensures _ c.loop-name.invariant))
