-- The file in the words of the extended BNF (EDIF 2 0 0, form edif).
use Rattle.std.specs.Prelude.{◌≡◌, [], ◌∷◌, ◌++◌}
use Rattle.grammar.specs.Whole.{end, Done}
use Rattle.nl_base.specs.declared.place.Place.{Place}
use Rattle.nl_bytes.specs.Tokens.{Ahead}
use Rattle.edif_tokens.specs.declared.token.Found.{Found}
use Rattle.edif_values.specs.declared.keyword.Keyword.TheVariants as k
use Rattle.edif_values.specs.declared.file.FileItem.{FileItem}
use Rattle.edif_values.specs.declared.file.FileItem.TheVariants as file_items
use Rattle.edif_values.specs.declared.file.EdifFile.{EdifFile}
use Rattle.edif_productions.specs.Production.{Production, many, form, meaning, aliased, ◌·◌, ◌∣◌, Tokens, Texts}
use Rattle.edif_productions.specs.Header.{header}
use Rattle.edif_productions.specs.Names.{name}
use Rattle.edif_productions.specs.Notes.{note, status}
use Rattle.edif_productions.specs.Libraries.{library, design}

-- fileItem  = library | design | status | note
unfoldable pub file_item : Production FileItem
file_item =
    meaning (λ l. file_items.Library l) library
    ∣ meaning (λ d. file_items.Design d) design
    ∣ meaning (λ s. file_items.Status s) status
    ∣ meaning (λ n. file_items.Note n) note

-- file      = ( edif NAME ( edifVersion 2 0 0 ) ( edifLevel 0 ) map {fileItem} ) end of input
-- The end of the input is no part of it.
unfoldable pub file : Production EdifFile
file =
    form k.Edif (meaning (λ x. record { name = x.0; items = x.1 })
    (name · aliased header (many file_item)))

-- The tokens are a text of the file, and behind it the end of the input. No aliases are in force
-- before it.
abbrev pub IsFileText : Ahead Found → EdifFile → Type 0
IsFileText s f =
    (text : Tokens) × (at : Place) × (s.tokens ≡ text ++ end at ∷ []) × Texts [] file text f
    × (s.finish ≡ Done)
