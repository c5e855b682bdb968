use Rattle.std.proofs.Common.{◌∙◌, sym, ap, ℕ, List, length, take, drop, arith}
use Rattle.edif_tokens.proofs.HeldForms.{form_held}
use Rattle.edif_tokens.proofs.form.form_word.Goals as goal

pub behind-front-requires : goal.behind-front-requires
behind-front-requires c =
    let h = form_held c.args.bytes.now c.args.at c.requires.form c.requires.some in
    omega (arith, h.before, ap (λ (xs : List ℕ). length xs) c.held.ensures)

pub behind-opened-requires : goal.behind-opened-requires
behind-opened-requires c =
    let h = form_held c.args.bytes.now c.args.at c.requires.form c.requires.some in
    let front = c.behind-front.ensures ∙ ap (λ (xs : List ℕ). drop c.args.at.space xs) c.held.ensures in
    omega (arith, h.some, ap (λ (xs : List ℕ). length xs) front)

pub behind-inside-requires : goal.behind-inside-requires
behind-inside-requires c =
    let h = form_held c.args.bytes.now c.args.at c.requires.form c.requires.some in
    let front = c.behind-front.ensures ∙ ap (λ (xs : List ℕ). drop c.args.at.space xs) c.held.ensures in
    let opened = c.behind-opened.ensures ∙ ap (λ (xs : List ℕ). drop 1 xs) front ∙ sym h.behind in
    omega (arith, h.between, ap (λ (xs : List ℕ). length xs) opened)

pub split_at-requires : goal.split_at-requires
split_at-requires c =
    let h = form_held c.args.bytes.now c.args.at c.requires.form c.requires.some in
    let front = c.behind-front.ensures ∙ ap (λ (xs : List ℕ). drop c.args.at.space xs) c.held.ensures in
    let opened = c.behind-opened.ensures ∙ ap (λ (xs : List ℕ). drop 1 xs) front ∙ sym h.behind in
    let inside = c.behind-inside.ensures ∙ ap (λ (xs : List ℕ). drop c.args.at.inner xs) opened in
    omega (arith, h.enough, ap (λ (xs : List ℕ). length xs) inside)

pub returns : goal.returns
returns c =
    let h = form_held c.args.bytes.now c.args.at c.requires.form c.requires.some in
    let front = c.behind-front.ensures ∙ ap (λ (xs : List ℕ). drop c.args.at.space xs) c.held.ensures in
    let opened = c.behind-opened.ensures ∙ ap (λ (xs : List ℕ). drop 1 xs) front ∙ sym h.behind in
    let inside = c.behind-inside.ensures ∙ ap (λ (xs : List ℕ). drop c.args.at.inner xs) opened in
    c.split_at.ensures.front ∙ ap (λ (xs : List ℕ). take c.args.at.count xs) inside ∙ sym h.word
