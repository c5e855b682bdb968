-- The productions of views, cells, libraries, designs and the file (EDIF 2 0 0, forms view, viewType, interface, contents, cell, cellType, library,
-- external, technology, numberDefinition, scale, unit, design, edif). Each reads on after its keyword, up to the `)` of the form.
use Rattle.std.specs.Prelude.{ℕ, Bool, true, false, List, [], ◌∷◌, codes, cond}
use Rattle.std.specs.List.{list_any}
use Rattle.readers.specs.Items.{as_item}
use Rattle.grammar.specs.Part.{gives, under, ◌>>=◌}
use Rattle.edif_values.specs.declared.keyword.Keyword.{Keyword}
use Rattle.edif_values.specs.declared.keyword.Keyword.TheVariants as k
use Rattle.edif_values.specs.Keywords.{same_keyword}
use Rattle.edif_keywords.specs.Aliases.{Alias}
use Rattle.edif_keywords.specs.Language.{Edif}
use Rattle.edif_keywords.specs.Grammar.{word, closing, choice, view_type, begin, items, level, header}
use Rattle.edif_values.specs.declared.name.NameDef.{NameDef}
use Rattle.edif_names.specs.Grammar.{name, scaled, property}
use Rattle.edif_values.specs.declared.note.Note.{Note}
use Rattle.edif_status.specs.Grammar.{note, note_keywords, status}
use Rattle.edif_nets.specs.Grammar.{designator, port, instance, net}
use Rattle.edif_values.specs.declared.view.InterfaceItem.{InterfaceItem}
use Rattle.edif_values.specs.declared.view.InterfaceItem.TheVariants as interface_items
use Rattle.edif_values.specs.declared.view.ContentsItem.{ContentsItem}
use Rattle.edif_values.specs.declared.view.ContentsItem.TheVariants as contents_items
use Rattle.edif_values.specs.declared.view.ViewItem.{ViewItem}
use Rattle.edif_values.specs.declared.view.ViewItem.TheVariants as view_items
use Rattle.edif_values.specs.declared.view.View.{View}
use Rattle.edif_values.specs.declared.cell.CellKind.{CellKind}
use Rattle.edif_values.specs.declared.cell.CellKind.TheVariants as kinds
use Rattle.edif_values.specs.declared.cell.CellItem.{CellItem}
use Rattle.edif_values.specs.declared.cell.CellItem.TheVariants as cell_items
use Rattle.edif_values.specs.declared.cell.Cell.{Cell}
use Rattle.edif_values.specs.declared.library.Scale.{Scale}
use Rattle.edif_values.specs.declared.library.LibraryItem.{LibraryItem}
use Rattle.edif_values.specs.declared.library.LibraryItem.TheVariants as library_items
use Rattle.edif_values.specs.declared.library.Library.{Library}
use Rattle.edif_values.specs.declared.file.DesignItem.{DesignItem}
use Rattle.edif_values.specs.declared.file.DesignItem.TheVariants as design_items
use Rattle.edif_values.specs.declared.file.Design.{Design}
use Rattle.edif_values.specs.declared.file.FileItem.{FileItem}
use Rattle.edif_values.specs.declared.file.FileItem.TheVariants as file_items
use Rattle.edif_values.specs.declared.file.EdifFile.{EdifFile}
use Rattle.edif_values.specs.Values.{is_contents, is_view}

-- ---- interfaces and contents

-- port | property | designator | note
abbrev pub interface_item : Keyword → Edif InterfaceItem
interface_item q =
    cond (same_keyword q k.Port) (as_item interface_items.Port port)
    (cond (same_keyword q k.Property) (as_item interface_items.Property property)
    (cond (same_keyword q k.Designator) (as_item interface_items.Designator designator)
    (as_item interface_items.Note (note q))))

-- the keywords that may stand in an interface
abbrev pub interface_keywords : List Keyword
interface_keywords = k.Port ∷ k.Property ∷ k.Designator ∷ note_keywords

-- {port | property | designator | note} ), after some
unfoldable pub interface_rest : List InterfaceItem → Edif (List InterfaceItem)
interface_rest = items (λ _. interface_keywords) interface_item

-- interface = ( interface {port | property | designator | note} )
unfoldable pub interface : Edif (List InterfaceItem)
interface = do
  _ ← begin (k.Interface ∷ [])
  interface_rest []

-- instance | net | note
abbrev pub contents_item : Keyword → Edif ContentsItem
contents_item q =
    cond (same_keyword q k.Instance) (as_item contents_items.Instance instance)
    (cond (same_keyword q k.Net) (as_item contents_items.Net net)
    (as_item contents_items.Note (note q)))

-- the keywords that may stand in contents
abbrev pub contents_keywords : List Keyword
contents_keywords = k.Instance ∷ k.Net ∷ note_keywords

-- {instance | net | note} ), after some
-- contents  = ( contents {instance | net | note} )
unfoldable pub contents_rest : List ContentsItem → Edif (List ContentsItem)
contents_rest = items (λ _. contents_keywords) contents_item

-- ---- views

-- contents | property | status | note
abbrev pub view_item : Keyword → Edif ViewItem
view_item q =
    cond (same_keyword q k.Contents) (as_item view_items.Contents (contents_rest []))
    (cond (same_keyword q k.Property) (as_item view_items.Property property)
    (cond (same_keyword q k.Status) (as_item view_items.Status status)
    (as_item view_items.Note (note q))))

-- whether some items have contents
unfoldable pub has_contents : List ViewItem → Bool
has_contents is = list_any is_contents is

-- the keywords that may stand in a view, which has contents already or not: at most one contents
unfoldable pub view_keywords : Bool → List Keyword
view_keywords false = k.Contents ∷ k.Property ∷ k.Status ∷ note_keywords
view_keywords true = k.Property ∷ k.Status ∷ note_keywords

-- {contents | property | status | note} ), after some
unfoldable pub view_rest : List ViewItem → Edif (List ViewItem)
view_rest = items (λ so_far. view_keywords (has_contents so_far)) view_item

-- ( viewType NETLIST )
unfoldable pub netlist : Edif (Unit {0})
netlist = do
  _ ← begin (k.ViewType ∷ [])
  _ ← view_type
  closing

-- view      = ( view NAME ( viewType NETLIST ) interface {contents | property | status | note} )
unfoldable pub view : Edif View
view = do
  n ← name
  _ ← netlist
  ps ← interface
  is ← view_rest []
  gives (record { name = n; interface = ps; items = is })

-- ---- cells

-- KIND      = GENERIC | TIE | RIPPER
abbrev pub kind_words : List (List ℕ × CellKind)
kind_words = (codes "GENERIC", kinds.Generic) ∷ (codes "TIE", kinds.Tie) ∷ (codes "RIPPER", kinds.Ripper) ∷ []

-- ( cellType KIND )
unfoldable pub cell_type : Edif CellKind
cell_type = do
  _ ← begin (k.CellType ∷ [])
  kind ← choice kind_words
  _ ← closing
  gives kind

-- view | property | status | note
abbrev pub cell_item : Keyword → Edif CellItem
cell_item q =
    cond (same_keyword q k.View) (as_item cell_items.View view)
    (cond (same_keyword q k.Property) (as_item cell_items.Property property)
    (cond (same_keyword q k.Status) (as_item cell_items.Status status)
    (as_item cell_items.Note (note q))))

-- whether some items have a view
unfoldable pub has_view : List CellItem → Bool
has_view is = list_any is_view is

-- the keywords that may stand in a cell, which has a view already or not: at most one view
unfoldable pub cell_keywords : Bool → List Keyword
cell_keywords false = k.View ∷ k.Property ∷ k.Status ∷ note_keywords
cell_keywords true = k.Property ∷ k.Status ∷ note_keywords

-- {view | property | status | note} ), after some
unfoldable pub cell_rest : List CellItem → Edif (List CellItem)
cell_rest = items (λ so_far. cell_keywords (has_view so_far)) cell_item

-- cell      = ( cell NAME ( cellType KIND ) {view | property | status | note} )
unfoldable pub cell : Edif Cell
cell = do
  n ← name
  kind ← cell_type
  is ← cell_rest []
  gives (record { name = n; kind = kind; items = is })

-- ---- libraries

-- ( unit IDENT )
unfoldable pub unit : Edif (List ℕ)
unit = do
  _ ← begin (k.Unit ∷ [])
  w ← word
  _ ← closing
  gives w

-- scale     = ( scale SCALED SCALED ( unit IDENT ) )
unfoldable pub scale : Edif Scale
scale = do
  l ← scaled
  r ← scaled
  u ← unit
  _ ← closing
  gives (record { left = l; right = r; unit = u })

-- {scale} ), after some
unfoldable pub scales_rest : List Scale → Edif (List Scale)
scales_rest = items (λ _. k.Scale ∷ []) (λ _. scale)

-- {note} ), after some
unfoldable pub notes_rest : List Note → Edif (List Note)
notes_rest = items (λ _. note_keywords) note

-- ( numberDefinition {scale} )
unfoldable pub number_definition : Edif (List Scale)
number_definition = do
  _ ← begin (k.NumberDefinition ∷ [])
  scales_rest []

-- ( technology ( numberDefinition {scale} ) {note} )
unfoldable pub technology : Edif (List Scale × List Note)
technology = do
  _ ← begin (k.Technology ∷ [])
  ss ← number_definition
  ns ← notes_rest []
  gives (ss, ns)

-- cell | status | note
abbrev pub library_item : Keyword → Edif LibraryItem
library_item q =
    cond (same_keyword q k.Cell) (as_item library_items.Cell cell)
    (cond (same_keyword q k.Status) (as_item library_items.Status status)
    (as_item library_items.Note (note q)))

-- the keywords that may stand in a library
abbrev pub library_keywords : List Keyword
library_keywords = k.Cell ∷ k.Status ∷ note_keywords

-- {cell | status | note} ), after some
unfoldable pub library_rest : List LibraryItem → Edif (List LibraryItem)
library_rest = items (λ _. library_keywords) library_item

-- LIB       = NAME ( edifLevel 0 ) ( technology ( numberDefinition {scale} ) {note} ) {cell | status | note}
-- library   = ( library LIB ) | ( external LIB )
unfoldable pub library : Bool → Edif Library
library external = do
  n ← name
  _ ← level
  t ← technology
  is ← library_rest []
  gives (record { external = external; name = n; scales = t.0; notes = t.1; items = is })

-- ---- designs

-- ( libraryRef IDENT )
unfoldable pub library_ref : Edif (List ℕ)
library_ref = do
  _ ← begin (k.LibraryRef ∷ [])
  w ← word
  _ ← closing
  gives w

-- ( cellRef IDENT ( libraryRef IDENT ) )
unfoldable pub cell_ref : Edif (List ℕ × List ℕ)
cell_ref = do
  _ ← begin (k.CellRef ∷ [])
  c ← word
  l ← library_ref
  _ ← closing
  gives (c, l)

-- property | status | note
abbrev pub design_item : Keyword → Edif DesignItem
design_item q =
    cond (same_keyword q k.Property) (as_item design_items.Property property)
    (cond (same_keyword q k.Status) (as_item design_items.Status status)
    (as_item design_items.Note (note q)))

-- the keywords that may stand in a design
abbrev pub design_keywords : List Keyword
design_keywords = k.Property ∷ k.Status ∷ note_keywords

-- {property | status | note} ), after some
unfoldable pub design_rest : List DesignItem → Edif (List DesignItem)
design_rest = items (λ _. design_keywords) design_item

-- design    = ( design NAME ( cellRef IDENT ( libraryRef IDENT ) ) {property | status | note} )
unfoldable pub design : Edif Design
design = do
  n ← name
  c ← cell_ref
  is ← design_rest []
  gives (record { name = n; cell = c.0; library = c.1; items = is })

-- ---- the file

-- fileItem  = library | design | status | note
abbrev pub file_item : Keyword → Edif FileItem
file_item q =
    cond (same_keyword q k.Library) (as_item file_items.Library (library false))
    (cond (same_keyword q k.External) (as_item file_items.Library (library true))
    (cond (same_keyword q k.Design) (as_item file_items.Design design)
    (cond (same_keyword q k.Status) (as_item file_items.Status status)
    (as_item file_items.Note (note q)))))

-- the keywords that may stand in a file
abbrev pub file_keywords : List Keyword
file_keywords = k.Library ∷ k.External ∷ k.Design ∷ k.Status ∷ note_keywords

-- {fileItem} ), after some
unfoldable pub file_rest : List FileItem → Edif (List FileItem)
file_rest = items (λ _. file_keywords) file_item

-- what stands behind the header, under the aliases that it gives
unfoldable pub file_body : NameDef → Edif EdifFile
file_body n = do
  is ← file_rest []
  gives (record { name = n; items = is })

-- file      = ( edif NAME ( edifVersion 2 0 0 ) ( edifLevel 0 ) map {fileItem} ) end of input
-- The end of the input is no part of it.
unfoldable pub file : List Alias → Edif EdifFile
file table = do
  _ ← begin (k.Edif ∷ [])
  n ← name
  aliases ← header table
  under aliases (file_body n)
