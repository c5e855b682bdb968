use Rattle.std.proofs.Common.{◌≡◌, ℕ, List, [], ◌∷◌, ◌++◌, Some, true, ap, ◌∙◌, rules}
use Rattle.nl_bytes.specs.Bytes.{IsAhead}
use Rattle.nl_bytes.specs.Classes.{in_class}
use Rattle.nl_bytes.proofs.Uses.{Uses-byte}
use Rattle.edif_tokens.proofs.Answering.{begin_led}
use Rattle.edif_tokens.proofs.lexeme.begin.Goals as goal

pub returns-clause-begins : goal.returns-clause-begins
returns-clause-begins g c =
    let b = c.in-Some.b in
    let lead : c.args.lead ≡ true = search (rules, c.if-not-lead.false) in
    let ahead : IsAhead c.peek.new.self (g.S.Source.supply c.peek.new.source).left (Some b) = rw c.in-Some.is at c.in_ok-next.ensures.ahead in
    let inside : in_class c.args.class b ≡ true = search (rules, c.contains.ensures, c.if-not-contains.false) in
    let first_used = Uses-byte c.args.bytes.now c.advance.new.self (g.S.Source.supply c.args.source.now).left c.args.byte c.requires.ahead.0 c.requires.ahead.1 c.advance.ensures.held c.advance.ensures.place in
    let text = c.in_ok-push-2.ensures.items ∙ ap (λ (xs : List ℕ). xs ++ b ∷ []) (c.in_ok-push.ensures.items ∙ ap (λ (xs : List ℕ). xs ++ c.args.byte ∷ []) c.requires.empty) in
    rw lead (begin_led first_used c.peek.ensures.none_used ahead.1 c.advance-2.ensures.held c.advance-2.ensures.place inside text)
