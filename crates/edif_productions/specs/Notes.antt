-- User data, notes and status in the words of the extended BNF (EDIF 2 0 0, forms userData,
-- comment, status, written, timeStamp, author, program, version, dataOrigin).
use Rattle.std.specs.Prelude.{ℕ, zero, suc, ℤ}
use Rattle.edif_values.specs.declared.keyword.Keyword.TheVariants as k
use Rattle.edif_values.specs.declared.user.UserTree.{UserTree}
use Rattle.edif_values.specs.declared.user.UserTree.TheVariants as trees
use Rattle.edif_values.specs.declared.user.UserData.{UserData}
use Rattle.edif_values.specs.declared.note.Note.{Note}
use Rattle.edif_values.specs.declared.note.Note.TheVariants as notes
use Rattle.edif_values.specs.declared.written.Stamp.{Stamp}
use Rattle.edif_values.specs.declared.written.WrittenItem.{WrittenItem}
use Rattle.edif_values.specs.declared.written.WrittenItem.TheVariants as written_items
use Rattle.edif_values.specs.declared.written.Written.{Written}
use Rattle.edif_values.specs.declared.status.StatusItem.TheVariants as status_items
use Rattle.edif_values.specs.declared.status.Status.{Status}
use Rattle.edif_productions.specs.Production.{Production, optional, many, form, list, meaning, ◌·◌, ◌∣◌, ident, int, str}
use Rattle.edif_productions.specs.Header.{comment}

-- IDENT | INT | STR
abbrev pub leaf : Production UserTree
leaf =
    meaning (λ w. trees.Word w) ident
    ∣ meaning (λ n. trees.Number n) int
    ∣ meaning (λ s. trees.Str s) str

-- TREE      = IDENT | INT | STR | ( {TREE} )     with at most so many lists in one another
unfoldable pub tree : ℕ → Production UserTree
tree zero = leaf
tree (suc room) = leaf ∣ list (meaning (λ ts. trees.List ts) (many (tree room)))

-- userData  = ( userData IDENT {TREE} )                                  lists at most 64 deep
unfoldable pub user_data : Production UserData
user_data =
    form k.UserData (meaning (λ x. record { name = x.0; trees = x.1 }) (ident · many (tree 64)))

-- note      = comment | userData
unfoldable pub note : Production Note
note = meaning (λ ts. notes.Comment ts) comment ∣ meaning (λ u. notes.User u) user_data

-- wItem     = ( author STR ) | ( program STR [( version STR )] )
--           | ( dataOrigin STR [( version STR )] ) | note
unfoldable pub written_item : Production WrittenItem
written_item =
    form k.Author (meaning (λ s. written_items.Author s) str)
    ∣ form k.Program (meaning (λ x. written_items.Program x.0 x.1)
    (str · optional (form k.Version str)))
    ∣ form k.DataOrigin (meaning (λ x. written_items.DataOrigin x.0 x.1)
    (str · optional (form k.Version str)))
    ∣ meaning (λ n. written_items.Note n) note

-- the six numbers of a time stamp
abbrev pub stamp_of : ℤ × (ℤ × (ℤ × (ℤ × (ℤ × ℤ)))) → Stamp
stamp_of x = record {
  year = x.0;
  month = x.1.0;
  day = x.1.1.0;
  hour = x.1.1.1.0;
  minute = x.1.1.1.1.0;
  second = x.1.1.1.1.1;
}

-- written   = ( written ( timeStamp INT INT INT INT INT INT ) {wItem} )
unfoldable pub written : Production Written
written =
    form k.Written (meaning (λ x. record { stamp = x.0; items = x.1 })
    (form k.TimeStamp (meaning stamp_of (int · int · int · int · int · int)) · many written_item))

-- status    = ( status {written | note} )
unfoldable pub status : Production Status
status =
    form k.Status (meaning (λ is. record { items = is })
    (many (meaning (λ w. status_items.Written w) written
    ∣ meaning (λ n. status_items.Note n) note)))
