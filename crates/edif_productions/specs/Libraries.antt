-- Views, cells, libraries and designs in the words of the extended BNF (EDIF 2 0 0, forms
-- interface, contents, view, viewType, cell, cellType, scale, unit, library, external, technology,
-- numberDefinition, design).
use Rattle.std.specs.Prelude.{Bool, true, false, List, codes}
use Rattle.edif_values.specs.declared.keyword.Keyword.TheVariants as k
use Rattle.edif_values.specs.declared.note.Note.{Note}
use Rattle.edif_values.specs.declared.view.InterfaceItem.{InterfaceItem}
use Rattle.edif_values.specs.declared.view.InterfaceItem.TheVariants as interface_items
use Rattle.edif_values.specs.declared.view.ContentsItem.{ContentsItem}
use Rattle.edif_values.specs.declared.view.ContentsItem.TheVariants as contents_items
use Rattle.edif_values.specs.declared.view.ViewItem.{ViewItem}
use Rattle.edif_values.specs.declared.view.ViewItem.TheVariants as view_items
use Rattle.edif_values.specs.declared.view.View.{View}
use Rattle.edif_values.specs.declared.cell.CellKind.{CellKind}
use Rattle.edif_values.specs.declared.cell.CellKind.TheVariants as kinds
use Rattle.edif_values.specs.declared.cell.CellItem.{CellItem}
use Rattle.edif_values.specs.declared.cell.CellItem.TheVariants as cell_items
use Rattle.edif_values.specs.declared.cell.Cell.{Cell}
use Rattle.edif_values.specs.declared.library.Scale.{Scale}
use Rattle.edif_values.specs.declared.library.LibraryItem.TheVariants as library_items
use Rattle.edif_values.specs.declared.library.Library.{Library}
use Rattle.edif_values.specs.declared.file.DesignItem.TheVariants as design_items
use Rattle.edif_values.specs.declared.file.Design.{Design}
use Rattle.edif_values.specs.Values.{is_contents, is_view}
use Rattle.edif_productions.specs.Production.{Production, many, form, meaning, such, ◌·◌, ◌∣◌, ident, capitals, AtMostOne}
use Rattle.edif_productions.specs.Header.{level}
use Rattle.edif_productions.specs.Names.{name, scaled, property}
use Rattle.edif_productions.specs.Notes.{note, status}
use Rattle.edif_productions.specs.Nets.{designator, port, instance, net}

-- interface = ( interface {port | property | designator | note} )
unfoldable pub interface : Production (List InterfaceItem)
interface =
    form k.Interface (many (meaning (λ p. interface_items.Port p) port
    ∣ meaning (λ p. interface_items.Property p) property
    ∣ meaning (λ s. interface_items.Designator s) designator
    ∣ meaning (λ n. interface_items.Note n) note))

-- contents  = ( contents {instance | net | note} )
unfoldable pub contents : Production (List ContentsItem)
contents =
    form k.Contents (many (meaning (λ u. contents_items.Instance u) instance
    ∣ meaning (λ n. contents_items.Net n) net
    ∣ meaning (λ n. contents_items.Note n) note))

-- property | status | note
abbrev pub view_part : Production ViewItem
view_part =
    meaning (λ p. view_items.Property p) property
    ∣ meaning (λ s. view_items.Status s) status
    ∣ meaning (λ n. view_items.Note n) note

-- ( viewType NETLIST )
abbrev pub netlist : Production (Unit {0})
netlist = form k.ViewType (capitals (codes "NETLIST") tt)

-- view      = ( view NAME ( viewType NETLIST ) interface {contents | property | status | note} )
--                                                                        at most one contents
unfoldable pub view : Production View
view =
    form k.View (meaning (λ x. record { name = x.0; interface = x.1.1.0; items = x.1.1.1 })
    (name · netlist · interface
    · such (λ is. AtMostOne is_contents is)
    (many (meaning (λ is. view_items.Contents is) contents ∣ view_part))))

-- KIND      = GENERIC | TIE | RIPPER
abbrev pub kind : Production CellKind
kind =
    capitals (codes "GENERIC") kinds.Generic
    ∣ capitals (codes "TIE") kinds.Tie
    ∣ capitals (codes "RIPPER") kinds.Ripper

-- property | status | note
abbrev pub cell_part : Production CellItem
cell_part =
    meaning (λ p. cell_items.Property p) property
    ∣ meaning (λ s. cell_items.Status s) status
    ∣ meaning (λ n. cell_items.Note n) note

-- cell      = ( cell NAME ( cellType KIND ) {view | property | status | note} )   at most one view
unfoldable pub cell : Production Cell
cell =
    form k.Cell (meaning (λ x. record { name = x.0; kind = x.1.0; items = x.1.1 })
    (name · form k.CellType kind
    · such (λ is. AtMostOne is_view is)
    (many (meaning (λ v. cell_items.View v) view ∣ cell_part))))

-- scale     = ( scale SCALED SCALED ( unit IDENT ) )
unfoldable pub scale : Production Scale
scale =
    form k.Scale (meaning (λ x. record { left = x.0; right = x.1.0; unit = x.1.1 })
    (scaled · scaled · form k.Unit ident))

-- ( technology ( numberDefinition {scale} ) {note} )
abbrev pub technology : Production (List Scale × List Note)
technology = form k.Technology (form k.NumberDefinition (many scale) · many note)

-- LIB       = NAME ( edifLevel 0 ) ( technology ( numberDefinition {scale} ) {note} )
--             {cell | status | note}
abbrev pub library_of : Bool → Production Library
library_of external =
    meaning (λ x. record {
      external = external;
      name = x.0;
      scales = x.1.1.0.0;
      notes = x.1.1.0.1;
      items = x.1.1.1;
    })
    (name · level · technology
    · many (meaning (λ c. library_items.Cell c) cell
    ∣ meaning (λ s. library_items.Status s) status
    ∣ meaning (λ n. library_items.Note n) note))

-- library   = ( library LIB ) | ( external LIB )
unfoldable pub library : Production Library
library = form k.Library (library_of false) ∣ form k.External (library_of true)

-- design    = ( design NAME ( cellRef IDENT ( libraryRef IDENT ) ) {property | status | note} )
unfoldable pub design : Production Design
design =
    form k.Design (meaning (λ x. record {
      name = x.0;
      cell = x.1.0.0;
      library = x.1.0.1;
      items = x.1.1;
    })
    (name · form k.CellRef (ident · form k.LibraryRef ident)
    · many (meaning (λ p. design_items.Property p) property
    ∣ meaning (λ s. design_items.Status s) status
    ∣ meaning (λ n. design_items.Note n) note)))
