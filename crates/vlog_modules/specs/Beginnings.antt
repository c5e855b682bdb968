-- The pieces of a file in two steps: a directive or a module up to its items, and then the items.
use Rattle.std.specs.Prelude.{Bool, List, [], codes}
use Rattle.grammar.specs.Part.{gives, sequence, ◌>>=◌}
use Rattle.readers.specs.Parts.{if_next}
use Rattle.readers.specs.Items.{as_item}
use Rattle.vlog_values.specs.declared.expression.Attr.{Attr}
use Rattle.vlog_values.specs.declared.module.ItemV.{ItemV}
use Rattle.vlog_values.specs.declared.module.Module.{Module}
use Rattle.vlog_exprs.specs.Language.{Vlog}
use Rattle.vlog_exprs.specs.Grammar.{attrs, keyword, mark, name}
use Rattle.vlog_modules.specs.Grammar.{at_directive, header, items, params}
use Rattle.vlog_modules.specs.Starts.{said_by}
use Rattle.vlog_modules.specs.declared.file.Piece.{Piece}
use Rattle.vlog_modules.specs.declared.file.Piece.TheVariants as forms

-- NAME ["#" "(" pgroup {"," pgroup} ")"] [header] ";", behind "module": a module without items
unfoldable pub heading_rest : Bool → List Attr → Vlog Module
heading_rest implicit as_written = do
  n ← name
  ps ← params
  h ← header
  _ ← mark 59
  gives (record { attrs = as_written; name = n; implicit = implicit; params = ps; header = h; items = [] })

-- the same with "module", behind the attributes
unfoldable pub heading_of : Bool → List Attr → Vlog Module
heading_of implicit as_written = sequence (keyword (codes "module")) (λ _. heading_rest implicit as_written)

-- the same from the attributes on
unfoldable pub one_heading : Bool → Vlog Module
one_heading implicit = sequence attrs (heading_of implicit)

-- a directive, or a module up to its items
unfoldable pub beginning : Bool → Vlog Piece
beginning implicit = if_next (λ _ x. at_directive x.token) (λ d. as_item forms.Implicit (said_by d)) (as_item forms.Module (one_heading implicit))

-- the module with these items
abbrev pub with_items : Module → List ItemV → Module
with_items m list = record { attrs = m.attrs; name = m.name; implicit = m.implicit; params = m.params; header = m.header; items = list }

-- what stands behind the beginning of a piece, and the whole piece: behind a module up to its items these and "endmodule"
unfoldable pub ending : Piece → Vlog Piece
ending (forms.Implicit implicit) = gives (forms.Implicit implicit)
ending (forms.Module m) = sequence (items []) (λ list. gives (forms.Module (with_items m list)))
