use Rattle.std.proofs.Common.{None, ◌∙◌, sym, ap, refl, arith, get_or, set}
use Rattle.std.proofs.lemmas.List.{map-set}
use Rattle.flat_classes.specs.Groups.{known_number, known_numbers}
use Rattle.flat_classes.proofs.Ordering.{none_some, read_known, some_same, told, untold}
use Rattle.flat_classes.proofs.groups.number_of.Goals as goal

pub returns-then-number-clause-known : goal.returns-then-number-clause-known
returns-then-number-clause-known c = λ number e.
    let there = read_known c.args.known.now c.args.value (get_or c.args.known.now c.args.value 0) c.requires.value refl ∙ told (get_or c.args.known.now c.args.value 0) c.if-number.true in
    (some_same (get_or c.args.known.now c.args.value 0) number (sym there ∙ e), refl)

pub returns-then-number-clause-unknown : goal.returns-then-number-clause-unknown
returns-then-number-clause-unknown c = λ e.
    let there = read_known c.args.known.now c.args.value (get_or c.args.known.now c.args.value 0) c.requires.value refl ∙ told (get_or c.args.known.now c.args.value 0) c.if-number.true in
    absurd (none_some (get_or (known_numbers c.args.known.now) c.args.value None) (get_or c.args.known.now c.args.value 0) e there)

pub returns-clause-known : goal.returns-clause-known
returns-clause-known c = λ number e.
    let none = read_known c.args.known.now c.args.value (get_or c.args.known.now c.args.value 0) c.requires.value refl ∙ untold (get_or c.args.known.now c.args.value 0) c.if-number.false in
    absurd (none_some (get_or (known_numbers c.args.known.now) c.args.value None) number none e)

pub returns-clause-unknown : goal.returns-clause-unknown
returns-clause-unknown c = λ e. (refl, map-set known_number c.args.known.now c.args.value c.args.next ∙ ap (set (known_numbers c.args.known.now) c.args.value) (told c.args.next (λ same. omega (arith, same, c.requires.next))))
