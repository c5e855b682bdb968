-- What a reader sees of the next token before it reads an item or a module, and those parts from their first tokens on.
use Rattle.std.specs.Prelude.{ℕ, List, Bool, true, false, is_some, if◌then◌else◌}
use Rattle.grammar.specs.Part.{Glance, takes, refuses, leaves, gives, sequence}
use Rattle.readers.specs.Parts.{if_next}
use Rattle.readers.specs.Items.{as_item}
use Rattle.vlog_values.specs.declared.module.Module.{Module}
use Rattle.vlog_tokens.specs.declared.token.VFound.{VFound}
use Rattle.vlog_tokens.specs.Keywords.{is_keyword}
use Rattle.vlog_exprs.specs.Language.{Vlog}
use Rattle.vlog_exprs.specs.Reasons.{meant_by}
use Rattle.vlog_items.specs.Grammar.{item_words}
use Rattle.vlog_exprs.specs.Grammar.{attrs}
use Rattle.vlog_modules.specs.Grammar.{at_item, at_piece, at_directive, net_type, module_of, with_module, with_implicit}
use Rattle.vlog_modules.specs.declared.file.Directive.{Directive}
use Rattle.vlog_modules.specs.declared.file.Directive.TheVariants as directives
use Rattle.vlog_modules.specs.declared.file.Piece.{Piece}
use Rattle.vlog_modules.specs.declared.file.Piece.TheVariants as forms
use Rattle.vlog_modules.specs.declared.file.SoFar.{SoFar}

-- whether a token is taken
abbrev pub is_taken : {C R : Type 0} → Glance C R → Bool
is_taken (takes c) = true
is_taken (refuses r) = true
is_taken leaves = false

-- whether attributes or an item begin with a token
unfoldable pub begins_item : VFound → Bool
begins_item x = is_taken (at_item x.token)

-- whether an item begins with a simple name or a keyword
abbrev pub begins_by : List ℕ → Bool
begins_by w = if is_keyword w then is_some (meant_by item_words w) else true

-- whether a directive, attributes or a module begin with a token
unfoldable pub begins_piece : VFound → Bool
begins_piece x = is_taken (at_piece x.token)

-- what a directive says of names that are used without a declaration, behind the directive: whether they are nets
unfoldable pub said_by : Directive → Vlog Bool
said_by directives.Nettype = net_type
said_by directives.Reset = gives true

-- a module from its attributes on
unfoldable pub one_module : Bool → Vlog Module
one_module implicit = sequence attrs (module_of implicit)

-- a directive or a module
unfoldable pub piece : Bool → Vlog Piece
piece implicit = if_next (λ _ x. at_directive x.token) (λ d. as_item forms.Implicit (said_by d)) (as_item forms.Module (one_module implicit))

-- one more piece of a file
unfoldable pub with_piece : SoFar → Piece → SoFar
with_piece s (forms.Implicit implicit) = with_implicit s implicit
with_piece s (forms.Module m) = with_module s m
