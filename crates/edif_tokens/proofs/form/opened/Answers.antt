use Rattle.std.proofs.Common.{◌∙◌, ap, ℕ, List, length, drop, arith}
use Rattle.edif_tokens.proofs.OpenForms.{open_room}
use Rattle.edif_tokens.proofs.form.opened.Goals as goal

pub behind-front-requires : goal.behind-front-requires
behind-front-requires c =
    let r = open_room c.args.bytes.now c.args.at c.requires in
    omega (arith, r.before, ap (λ (xs : List ℕ). length xs) c.held.ensures)

pub behind-opened-requires : goal.behind-opened-requires
behind-opened-requires c =
    let r = open_room c.args.bytes.now c.args.at c.requires in
    let front = c.behind-front.ensures ∙ ap (λ (xs : List ℕ). drop c.args.at.space xs) c.held.ensures in
    omega (arith, r.some, ap (λ (xs : List ℕ). length xs) front)

pub behind-inside-requires : goal.behind-inside-requires
behind-inside-requires c =
    let r = open_room c.args.bytes.now c.args.at c.requires in
    let front = c.behind-front.ensures ∙ ap (λ (xs : List ℕ). drop c.args.at.space xs) c.held.ensures in
    let opened = c.behind-opened.ensures ∙ ap (λ (xs : List ℕ). drop 1 xs) front in
    omega (arith, r.between, ap (λ (xs : List ℕ). length xs) opened)

pub returns : goal.returns
returns c =
    let front = c.behind-front.ensures ∙ ap (λ (xs : List ℕ). drop c.args.at.space xs) c.held.ensures in
    let opened = c.behind-opened.ensures ∙ ap (λ (xs : List ℕ). drop 1 xs) front in
    c.behind-inside.ensures ∙ ap (λ (xs : List ℕ). drop c.args.at.inner xs) opened
