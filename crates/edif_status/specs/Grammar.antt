-- The productions of user data, notes and status (EDIF 2 0 0, forms userData, comment, status, written, timeStamp, author, program, version,
-- dataOrigin). Each reads on after its keyword, up to the `)` of the form.
use Rattle.std.specs.Prelude.{ℕ, zero, suc, Bool, true, false, List, [], ◌∷◌, ◌++◌, Option, Some, None, Result, Ok, Err, ℤ, cond}
use Rattle.readers.specs.Items.{as_item}
use Rattle.grammar.specs.Part.{Glance, takes, leaves, refuses, gives, sequence, ◌>>=◌}
use Rattle.readers.specs.Parts.{one, while_next}
use Rattle.nl_base.specs.declared.fault.Reason.{Reason}
use Rattle.nl_base.specs.declared.fault.Reason.TheVariants as reasons
use Rattle.edif_tokens.specs.declared.token.Found.{Found}
use Rattle.edif_values.specs.declared.token.Token.{Token}
use Rattle.edif_values.specs.declared.token.Token.TheVariants as token
use Rattle.edif_values.specs.declared.keyword.Keyword.{Keyword}
use Rattle.edif_values.specs.declared.keyword.Keyword.TheVariants as k
use Rattle.edif_values.specs.Keywords.{same_keyword}
use Rattle.edif_keywords.specs.Language.{Edif}
use Rattle.edif_keywords.specs.Grammar.{word, string, integer, opening, closing, comment, begin, item, items, form_or}
use Rattle.edif_values.specs.declared.user.UserTree.{UserTree}
use Rattle.edif_values.specs.declared.user.UserTree.TheVariants as tree
use Rattle.edif_values.specs.declared.user.UserData.{UserData}
use Rattle.edif_values.specs.declared.note.Note.{Note}
use Rattle.edif_values.specs.declared.note.Note.TheVariants as notes
use Rattle.edif_values.specs.declared.written.Stamp.{Stamp}
use Rattle.edif_values.specs.declared.written.WrittenItem.{WrittenItem}
use Rattle.edif_values.specs.declared.written.WrittenItem.TheVariants as written_items
use Rattle.edif_values.specs.declared.written.Written.{Written}
use Rattle.edif_values.specs.declared.status.StatusItem.{StatusItem}
use Rattle.edif_values.specs.declared.status.StatusItem.TheVariants as status_items
use Rattle.edif_values.specs.declared.status.Status.{Status}

-- ---- user data

-- how a tree begins: it is whole, or it is a list
pub data TreeStart : Type 0 where
  Whole : UserTree → TreeStart
  Opens : TreeStart

-- what a token says that begins a tree where so many lists may be opened; TooDeep: a `(` where none may
abbrev pub tree_start : ℕ → Token → Result TreeStart Reason
tree_start room (token.Word w) = Ok (Whole (tree.Word w))
tree_start room (token.Number n) = Ok (Whole (tree.Number n))
tree_start room (token.Str s) = Ok (Whole (tree.Str s))
tree_start zero token.LeftParen = Err reasons.TooDeep
tree_start (suc room) token.LeftParen = Ok Opens
tree_start room token.RightParen = Err reasons.Unexpected

-- a token is taken for what it says, or refused
abbrev pub glance_of : {C : Type 0} → Result C Reason → Glance C Reason
glance_of (Ok c) = takes c
glance_of (Err reason) = refuses reason

-- what a token is to a list of trees: all but `)` begin one
abbrev pub tree_of : ℕ → Token → Glance TreeStart Reason
tree_of room token.RightParen = leaves
tree_of room t = glance_of (tree_start room t)

-- the rest of a tree, whose list `inner` reads on
abbrev pub tree_rest : Edif (List UserTree) → TreeStart → Edif UserTree
tree_rest inner (Whole t) = gives t
tree_rest inner Opens = sequence inner (λ ts. gives (tree.List ts))

-- a tree whose list `inner` reads on
unfoldable pub tree_by : ℕ → Edif (List UserTree) → Edif UserTree
tree_by room inner = sequence (one (λ _ x. tree_start room x.token)) (tree_rest inner)

-- {TREE} ), after some trees, whose lists `inner` reads on
unfoldable pub trees_by : ℕ → Edif (List UserTree) → List UserTree → Edif (List UserTree)
trees_by room inner = while_next (λ _ _ x. tree_of room x.token) (λ so_far c. sequence (tree_rest inner c) (λ t. gives (so_far ++ t ∷ []))) (λ so_far. sequence closing (λ _. gives so_far))

-- {TREE} ), after some trees, where so many lists may be opened, one in another; where none may, none is read on
unfoldable pub trees : ℕ → List UserTree → Edif (List UserTree)
trees zero = trees_by zero (gives [])
trees (suc room) = trees_by (suc room) (trees room [])

-- TREE      = IDENT | INT | STR | ( {TREE} )                             where so many lists may be opened, one in another
unfoldable pub user_tree : ℕ → Edif UserTree
user_tree zero = tree_by zero (gives [])
user_tree (suc room) = tree_by (suc room) (trees room [])

-- ( {TREE} ) in which so many lists may be opened, one in another
unfoldable pub user_list : ℕ → Edif UserTree
user_list room = do
  _ ← opening
  ts ← trees room []
  gives (tree.List ts)

-- IDENT | INT
abbrev pub plain_of : Token → Result UserTree Reason
plain_of (token.Word w) = Ok (tree.Word w)
plain_of (token.Number n) = Ok (tree.Number n)
plain_of t = Err reasons.Unexpected

-- IDENT | INT | STR
abbrev pub leaf_of : Token → Result UserTree Reason
leaf_of (token.Str s) = Ok (tree.Str s)
leaf_of t = plain_of t

-- a tree that is a word or a number
unfoldable pub plain : Edif UserTree
plain = one (λ _ x. plain_of x.token)

-- a tree that is no list
unfoldable pub leaf : Edif UserTree
leaf = one (λ _ x. leaf_of x.token)

-- all tokens but `)`
abbrev pub is_tree : Token → Bool
is_tree token.RightParen = false
is_tree t = true

-- an integer
abbrev pub is_number : Token → Bool
is_number (token.Number n) = true
is_number t = false

-- whether a token begins a tree where one may stand
unfoldable pub begins_tree : Found → Bool
begins_tree x = is_tree x.token

-- whether a token is a number
unfoldable pub has_number : Found → Bool
has_number x = is_number x.token

-- userData  = ( userData IDENT {TREE} )                                  lists at most 64 deep
unfoldable pub user : Edif UserData
user = do
  w ← word
  ts ← trees 64 []
  gives (record { name = w; trees = ts })

-- ---- notes

-- note      = comment | userData
abbrev pub note : Keyword → Edif Note
note q = cond (same_keyword q k.Comment) (as_item notes.Comment comment) (as_item notes.User user)

-- the keywords of a note
abbrev pub note_keywords : List Keyword
note_keywords = k.Comment ∷ k.UserData ∷ []

-- ---- status

-- INT INT INT ), after `( timeStamp` and a date
unfoldable pub clock : ℤ → ℤ → ℤ → Edif Stamp
clock year month day = do
  hour ← integer
  minute ← integer
  second ← integer
  _ ← closing
  gives (record { year = year; month = month; day = day; hour = hour; minute = minute; second = second })

-- INT INT INT INT INT INT ), after `( timeStamp`
unfoldable pub stamp : Edif Stamp
stamp = do
  year ← integer
  month ← integer
  day ← integer
  clock year month day

-- STR ) ), after `( version`: with the `)` of the form around it
unfoldable pub version_text : Edif (Option (List ℕ))
version_text = do
  s ← string
  _ ← closing
  _ ← closing
  gives (Some s)

-- ), where there is no version
unfoldable pub no_version : Edif (Option (List ℕ))
no_version = do
  _ ← closing
  gives None

-- [( version STR )] ), with the `)` of the form around it
unfoldable pub maybe_version : Edif (Option (List ℕ))
maybe_version = form_or (k.Version ∷ []) (λ _. version_text) no_version

-- STR ), after `( author`
unfoldable pub author : Edif WrittenItem
author = do
  s ← string
  _ ← closing
  gives (written_items.Author s)

-- STR [( version STR )] ), after `( program`
unfoldable pub program : Edif WrittenItem
program = do
  s ← string
  v ← maybe_version
  gives (written_items.Program s v)

-- STR [( version STR )] ), after `( dataOrigin`
unfoldable pub data_origin : Edif WrittenItem
data_origin = do
  s ← string
  v ← maybe_version
  gives (written_items.DataOrigin s v)

-- wItem     = ( author STR ) | ( program STR [( version STR )] ) | ( dataOrigin STR [( version STR )] ) | note
abbrev pub written_item : Keyword → Edif WrittenItem
written_item q = cond (same_keyword q k.Author) author (cond (same_keyword q k.Program) program (cond (same_keyword q k.DataOrigin) data_origin (as_item written_items.Note (note q))))

-- the keywords that may stand in written
abbrev pub written_keywords : List Keyword
written_keywords = k.Author ∷ k.Program ∷ k.DataOrigin ∷ note_keywords

-- wItem, from its `(` on
unfoldable pub written_part : Edif WrittenItem
written_part = item written_keywords written_item

-- {wItem} ), after some
unfoldable pub written_rest : List WrittenItem → Edif (List WrittenItem)
written_rest = items (λ _. written_keywords) written_item

-- written   = ( written ( timeStamp INT INT INT INT INT INT ) {wItem} )
unfoldable pub written : Edif Written
written = do
  _ ← begin (k.TimeStamp ∷ [])
  s ← stamp
  is ← written_rest []
  gives (record { stamp = s; items = is })

-- written | note
abbrev pub status_item : Keyword → Edif StatusItem
status_item q = cond (same_keyword q k.Written) (as_item status_items.Written written) (as_item status_items.Note (note q))

-- the keywords that may stand in a status
abbrev pub status_keywords : List Keyword
status_keywords = k.Written ∷ note_keywords

-- written | note, from its `(` on
unfoldable pub status_part : Edif StatusItem
status_part = item status_keywords status_item

-- {written | note} ), after some
unfoldable pub status_rest : List StatusItem → Edif (List StatusItem)
status_rest = items (λ _. status_keywords) status_item

-- status    = ( status {written | note} )
unfoldable pub status : Edif Status
status = do
  is ← status_rest []
  gives (record { items = is })
