-- The equations of the definitions on expressions, one for each variant.
use Rattle.std.proofs.Common.{◌≡◌, ℕ, ◌*◌, List, [], ◌∷◌, ◌++◌, map, flat_map, sum, ap, refl, sym, ◌∙◌, ℤ, Option, Bool, true, false}
use Rattle.net_hier.specs.declared.nodes.Node.{Node}
use Rattle.std.specs.List.{list_any}
use Rattle.vlog_values.specs.Bits.{literal_bits}
use Rattle.vlog_design.specs.Exprs.{bits, bits_step, constant_bit, has_loose, literals, literals_step, loose_step, repeated, signal_bits, span_count, span_of, times, width, width_step}
use Rattle.vlog_design.specs.Names.{Name, Signal, Use, signal_named, uses, uses_step}
use Rattle.vlog_values.specs.declared.expression.Expr.{Expr}
use Rattle.vlog_values.specs.declared.expression.Expr.TheFolds.{fold-roll-Expr}
use Rattle.vlog_values.specs.declared.expression.Expr.TheOpen.{Expr-F}
use Rattle.vlog_values.specs.declared.expression.Expr.TheVariants.{Ref, Lit, LooseNumber, Loose, Cat, Rep, rolls-Ref, rolls-Lit, rolls-LooseNumber, rolls-Loose, rolls-Cat, rolls-Rep}
use Rattle.vlog_values.specs.declared.expression.Select.{Select}
use Rattle.vlog_values.specs.declared.literal.Based.{Based}
use Rattle.vlog_values.specs.declared.literal.Literal.{Literal}

-- the parts' results, one after another
pub joined-map : {A B : Type 0} (f : A → List B) (xs : List A) → flat_map (λ ys. ys) (map f xs) ≡ flat_map f xs
joined-map f [] = refl
joined-map f (x ∷ xs) = ap (λ ys. f x ++ ys) (joined-map f xs)

module _ (signals : List Signal) where
  pub width-Ref : (name : Name) (select : Select) → width signals (Ref select name) ≡ span_count (span_of (signal_named signals name) select)
  unfolding width
  width-Ref name select = ap (width signals) (sym (rolls-Ref select name)) ∙ fold-roll-Expr ℕ (width_step signals) (Expr-F.Ref select name)

  pub width-Lit : (literal : Literal) → width signals (Lit literal) ≡ literal.size
  unfolding width
  width-Lit literal = ap (width signals) (sym (rolls-Lit literal)) ∙ fold-roll-Expr ℕ (width_step signals) (Expr-F.Lit literal)

  pub width-LooseNumber : (number : ℤ) → width signals (LooseNumber number) ≡ 0
  unfolding width
  width-LooseNumber number = ap (width signals) (sym (rolls-LooseNumber number)) ∙ fold-roll-Expr ℕ (width_step signals) (Expr-F.LooseNumber number)

  pub width-Loose : (based : Based) → width signals (Loose based) ≡ 0
  unfolding width
  width-Loose based = ap (width signals) (sym (rolls-Loose based)) ∙ fold-roll-Expr ℕ (width_step signals) (Expr-F.Loose based)

  pub width-Cat : (parts : List Expr) → width signals (Cat parts) ≡ sum (map (width signals) parts)
  unfolding width
  width-Cat parts = ap (width signals) (sym (rolls-Cat parts)) ∙ fold-roll-Expr ℕ (width_step signals) (Expr-F.Cat parts)

  pub width-Rep : (count : ℤ) (parts : List Expr) → width signals (Rep count parts) ≡ times count * sum (map (width signals) parts)
  unfolding width
  width-Rep count parts = ap (width signals) (sym (rolls-Rep count parts)) ∙ fold-roll-Expr ℕ (width_step signals) (Expr-F.Rep count parts)

  pub bits-Ref : (name : Name) (select : Select) → bits signals (Ref select name) ≡ signal_bits (signal_named signals name) select
  unfolding bits
  bits-Ref name select = ap (bits signals) (sym (rolls-Ref select name)) ∙ fold-roll-Expr (List (Option Node)) (bits_step signals) (Expr-F.Ref select name)

  pub bits-Lit : (literal : Literal) → bits signals (Lit literal) ≡ map constant_bit (literal_bits literal)
  unfolding bits
  bits-Lit literal = ap (bits signals) (sym (rolls-Lit literal)) ∙ fold-roll-Expr (List (Option Node)) (bits_step signals) (Expr-F.Lit literal)

  pub bits-LooseNumber : (number : ℤ) → bits signals (LooseNumber number) ≡ []
  unfolding bits
  bits-LooseNumber number = ap (bits signals) (sym (rolls-LooseNumber number)) ∙ fold-roll-Expr (List (Option Node)) (bits_step signals) (Expr-F.LooseNumber number)

  pub bits-Loose : (based : Based) → bits signals (Loose based) ≡ []
  unfolding bits
  bits-Loose based = ap (bits signals) (sym (rolls-Loose based)) ∙ fold-roll-Expr (List (Option Node)) (bits_step signals) (Expr-F.Loose based)

  pub bits-Cat : (parts : List Expr) → bits signals (Cat parts) ≡ flat_map (bits signals) parts
  unfolding bits
  bits-Cat parts = ap (bits signals) (sym (rolls-Cat parts)) ∙ (fold-roll-Expr (List (Option Node)) (bits_step signals) (Expr-F.Cat parts) ∙ joined-map (bits signals) parts)

  pub bits-Rep : (count : ℤ) (parts : List Expr) → bits signals (Rep count parts) ≡ repeated (times count) (flat_map (bits signals) parts)
  unfolding bits
  bits-Rep count parts = ap (bits signals) (sym (rolls-Rep count parts)) ∙ (fold-roll-Expr (List (Option Node)) (bits_step signals) (Expr-F.Rep count parts) ∙ ap (repeated (times count)) (joined-map (bits signals) parts))

pub uses-Ref : (name : Name) (select : Select) → uses (Ref select name) ≡ record { name = name; select = select } ∷ []
unfolding uses
uses-Ref name select = ap uses (sym (rolls-Ref select name)) ∙ fold-roll-Expr (List Use) uses_step (Expr-F.Ref select name)

pub uses-Lit : (literal : Literal) → uses (Lit literal) ≡ []
unfolding uses
uses-Lit literal = ap uses (sym (rolls-Lit literal)) ∙ fold-roll-Expr (List Use) uses_step (Expr-F.Lit literal)

pub uses-LooseNumber : (number : ℤ) → uses (LooseNumber number) ≡ []
unfolding uses
uses-LooseNumber number = ap uses (sym (rolls-LooseNumber number)) ∙ fold-roll-Expr (List Use) uses_step (Expr-F.LooseNumber number)

pub uses-Loose : (based : Based) → uses (Loose based) ≡ []
unfolding uses
uses-Loose based = ap uses (sym (rolls-Loose based)) ∙ fold-roll-Expr (List Use) uses_step (Expr-F.Loose based)

pub uses-Cat : (parts : List Expr) → uses (Cat parts) ≡ flat_map uses parts
unfolding uses
uses-Cat parts = ap uses (sym (rolls-Cat parts)) ∙ (fold-roll-Expr (List Use) uses_step (Expr-F.Cat parts) ∙ joined-map uses parts)

pub uses-Rep : (count : ℤ) (parts : List Expr) → uses (Rep count parts) ≡ flat_map uses parts
unfolding uses
uses-Rep count parts = ap uses (sym (rolls-Rep count parts)) ∙ (fold-roll-Expr (List Use) uses_step (Expr-F.Rep count parts) ∙ joined-map uses parts)

pub has_loose-Ref : (name : Name) (select : Select) → has_loose (Ref select name) ≡ false
unfolding has_loose
has_loose-Ref name select = ap has_loose (sym (rolls-Ref select name)) ∙ fold-roll-Expr Bool loose_step (Expr-F.Ref select name)

pub has_loose-Lit : (literal : Literal) → has_loose (Lit literal) ≡ false
unfolding has_loose
has_loose-Lit literal = ap has_loose (sym (rolls-Lit literal)) ∙ fold-roll-Expr Bool loose_step (Expr-F.Lit literal)

pub has_loose-LooseNumber : (number : ℤ) → has_loose (LooseNumber number) ≡ true
unfolding has_loose
has_loose-LooseNumber number = ap has_loose (sym (rolls-LooseNumber number)) ∙ fold-roll-Expr Bool loose_step (Expr-F.LooseNumber number)

pub has_loose-Loose : (based : Based) → has_loose (Loose based) ≡ true
unfolding has_loose
has_loose-Loose based = ap has_loose (sym (rolls-Loose based)) ∙ fold-roll-Expr Bool loose_step (Expr-F.Loose based)

pub has_loose-Cat : (parts : List Expr) → has_loose (Cat parts) ≡ list_any (λ part. part) (map has_loose parts)
unfolding has_loose
has_loose-Cat parts = ap has_loose (sym (rolls-Cat parts)) ∙ fold-roll-Expr Bool loose_step (Expr-F.Cat parts)

pub has_loose-Rep : (count : ℤ) (parts : List Expr) → has_loose (Rep count parts) ≡ list_any (λ part. part) (map has_loose parts)
unfolding has_loose
has_loose-Rep count parts = ap has_loose (sym (rolls-Rep count parts)) ∙ fold-roll-Expr Bool loose_step (Expr-F.Rep count parts)

pub literals-Lit : (literal : Literal) → literals (Lit literal) ≡ literal ∷ []
unfolding literals
literals-Lit literal = ap literals (sym (rolls-Lit literal)) ∙ fold-roll-Expr (List Literal) literals_step (Expr-F.Lit literal)

pub literals-Cat : (parts : List Expr) → literals (Cat parts) ≡ flat_map literals parts
unfolding literals
literals-Cat parts = ap literals (sym (rolls-Cat parts)) ∙ (fold-roll-Expr (List Literal) literals_step (Expr-F.Cat parts) ∙ joined-map literals parts)

pub literals-Rep : (count : ℤ) (parts : List Expr) → literals (Rep count parts) ≡ flat_map literals parts
unfolding literals
literals-Rep count parts = ap literals (sym (rolls-Rep count parts)) ∙ (fold-roll-Expr (List Literal) literals_step (Expr-F.Rep count parts) ∙ joined-map literals parts)

pub ruleset expr_equations = (width-Ref, width-Lit, width-LooseNumber, width-Loose, width-Cat, width-Rep, bits-Ref, bits-Lit, bits-LooseNumber, bits-Loose, bits-Cat, bits-Rep, uses-Ref, uses-Lit, uses-LooseNumber, uses-Loose, uses-Cat, uses-Rep, has_loose-Ref, has_loose-Lit, has_loose-LooseNumber, has_loose-Loose, has_loose-Cat, has_loose-Rep)

pub ruleset uses_equations = (uses-Ref, uses-Lit, uses-LooseNumber, uses-Loose, uses-Cat, uses-Rep)
