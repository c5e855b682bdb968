-- What the parts of a file go on from, and with what a directive or a module begins.
use Rattle.std.proofs.Common.{◌≡◌, subst, ℕ, Bool, true, false, cond, List, Option, Some, None, codes}
use Rattle.std.specs.Prelude.{IfSome}
use Rattle.grammar.specs.Part.{takes}
use Rattle.nl_base.specs.Case.{same_bytes}
use Rattle.vlog_tokens.specs.declared.token.VToken.{VToken}
use Rattle.vlog_tokens.specs.declared.token.VToken.TheVariants as token
use Rattle.vlog_exprs.specs.Language.{Vlog}
use Rattle.vlog_modules.specs.Grammar.{port_decls, param_groups, pieces, PieceStart, at_word_of, at_attributes, at_module, directive_of, directive_start, module_start, at_piece}

-- what a part goes on from: a type that stands in the signature of the part, and that its crate does not name to others
abbrev pub StateOf : {S A : Type 0} → (S → Vlog A) → Type 0
StateOf {S = S} part = S

-- declarations of ports, of which the last may get further names
abbrev pub PortDecls : Type 0
PortDecls = StateOf port_decls

-- groups of parameters, of which the last may get further parameters
abbrev pub ParamGroups : Type 0
ParamGroups = StateOf param_groups

-- the modules so far
abbrev pub SoFar : Type 0
SoFar = StateOf pieces

-- ---- with what a directive or a module begins

-- one value or another
pub choose : {D : Type 0} (P : Option D → Type 0) (t : Bool) (x y : Option D) → P x → P y → P (cond t x y)
choose P true x y p q = p
choose P false x y p q = q

-- what holds at each such beginning
module _ (P : PieceStart → Type 0) (word : (w : List ℕ) → IfSome (directive_of w) (λ d. P (at_word_of d))) (attributes : P at_attributes) (at_keyword : P at_module) where
  by_word : (w : List ℕ) (start : PieceStart) → directive_start (directive_of w) ≡ takes start → P start
  by_word w start h = by (directive_of w) start (word w) h
    where
      by : (o : Option _) (start : PieceStart) → IfSome o (λ d. P (at_word_of d)) → directive_start o ≡ takes start → P start
      by (Some d) start is h = let same : at_word_of d ≡ start = cc in subst P same is
      by None start is h = absurd cc

  by_keyword : (t : Bool) (start : PieceStart) → module_start t ≡ takes start → P start
  by_keyword true start h = let same : at_module ≡ start = cc in subst P same at_keyword
  by_keyword false start h = absurd cc

  pub piece_cases : (t : VToken) (start : PieceStart) → at_piece t ≡ takes start → P start
  piece_cases (token.Directive w) start h = by_word w start h
  piece_cases (token.Keyword w) start h = by_keyword (same_bytes w (codes "module")) start h
  piece_cases token.AttrStart start h = let same : at_attributes ≡ start = cc in subst P same attributes
  piece_cases (token.Name n) start h = absurd cc
  piece_cases (token.Number n) start h = absurd cc
  piece_cases (token.Real r) start h = absurd cc
  piece_cases (token.Based b) start h = absurd cc
  piece_cases (token.Str t) start h = absurd cc
  piece_cases (token.Punct b) start h = absurd cc
  piece_cases token.AttrStop start h = absurd cc
  piece_cases (token.Symbol b) start h = absurd cc
