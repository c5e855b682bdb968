use Rattle.std.proofs.Common.{◌≡◌, drop}
use Rattle.edif_meanings.specs.Apart.{is_alike_any}
use Rattle.edif_spaces.proofs.plain.is_taken.Given as goal

abbrev pub invariant-loop-ident : goal.invariant-loop-ident
invariant-loop-ident l = is_alike_any l.name (drop l.ident-index l.idents) ≡ is_alike_any l.name l.idents
