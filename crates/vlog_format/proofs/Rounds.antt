-- The loops over the pieces of a file and the items of a module, which are not kept.
use Rattle.std.proofs.Common.{◌≡◌, true, false, List, [], ◌∷◌, ◌++◌, Result, Ok, Err, arith, codes}
use Rattle.grammar.specs.Part.{sequence}
use Rattle.nl_base.specs.declared.fault.ReadError.{ReadError}
use Rattle.nl_io.specs.Sources.{Supply}
use Rattle.readers.specs.Readers.{Reader, LooksFor, Reads, ReadsWhole, same}
use Rattle.readers.proofs.Loops.{Goes}
use Rattle.vlog_values.specs.declared.module.ItemV.{ItemV}
use Rattle.vlog_values.specs.declared.module.VlogFile.{VlogFile}
use Rattle.vlog_tokens.specs.declared.token.VFound.{VFound}
use Rattle.vlog_tokens.specs.Language.{vlog}
use Rattle.vlog_exprs.specs.Grammar.{attrs, keyword}
use Rattle.vlog_exprs.specs.Language.{NoContext}
use Rattle.vlog_items.specs.Grammar.{item}
use Rattle.vlog_modules.specs.declared.file.Piece.{Piece}
use Rattle.vlog_modules.specs.declared.file.SoFar.{SoFar}
use Rattle.vlog_modules.specs.Grammar.{items, pieces, file}
use Rattle.vlog_modules.specs.Starts.{begins_item, begins_piece, piece, with_piece}
use Rattle.vlog_modules.proofs.Items.{item_loops}
use Rattle.vlog_modules.proofs.Pieces.{piece_loops}
use Rattle.vlog_format.specs.declared.format.Made.{Made}
use Rattle.vlog_format.specs.Formats.{IsTextOfPieces}
use Rattle.vlog_format.specs.Pieces.{FormatsPiece, IsMadeOf}

-- no piece was read
abbrev pub at_start : SoFar
at_start = record { modules = []; implicit = true }

pub goes_first : (start : Reader NoContext VFound) (i : Supply) → Goes vlog file (pieces at_start) start start i i
unfolding file
goes_first start i = grind (arith, piece_loops)

-- after the pieces so far a look at the next token, from which on n is what is seen of the source
module _ (so_far : SoFar) (start now next : Reader NoContext VFound) (i j n : Supply) (goes : Goes vlog file (pieces so_far) now start j i) where
  pub look_fails : (e : ReadError) → LooksFor vlog begins_piece (Err e) now next j n → ReadsWhole vlog same file (Err e) start next i n
  look_fails e look = grind (arith, piece_loops)

  pub all_read : (v : VlogFile) → v ≡ record { modules = so_far.modules } → LooksFor vlog begins_piece (Ok false) now next j n → ReadsWhole vlog same file (Ok v) start next i n
  all_read v is look = grind (arith, piece_loops)

  -- a piece is next, and it is read
  module _ (look : LooksFor vlog begins_piece (Ok true) now next j n) (last : Reader NoContext VFound) (m : Supply) where
    pub piece_fails : (e : ReadError) → Reads vlog same (piece so_far.implicit) (Err e) next last n m → ReadsWhole vlog same file (Err e) start last i m
    piece_fails e reads = grind (arith, piece_loops)

    pub goes_on : (p : Piece) → Reads vlog same (piece so_far.implicit) (Ok p) next last n m → Goes vlog file (pieces (with_piece so_far p)) last start m i
    goes_on p reads = grind (arith, piece_loops)

    pub piece_failed : (made : Made) → made.implicit ≡ so_far.implicit → (e : ReadError) → FormatsPiece made (Err e) next last n m → (read : Result VlogFile ReadError) × ReadsWhole vlog same file read start last i m × IsTextOfPieces read (Err e)
    piece_failed made implicit e (Err f, reads, is) = (Err f, piece_fails f (rw implicit at reads), is)
    piece_failed made implicit e (Ok p, reads, is) = absurd is

    pub piece_made : (made after : Made) → IsMadeOf made so_far → FormatsPiece made (Ok after) next last n m → (t : SoFar) × IsMadeOf after t × Goes vlog file (pieces t) last start m i
    piece_made made after are (Ok p, reads, is) = (with_piece so_far p, is so_far are, goes_on p (rw are.implicit at reads))
    piece_made made after are (Err e, reads, is) = absurd is

-- no item was read
pub goes_first_item : (start : Reader NoContext VFound) (i : Supply) → Goes vlog (items []) (items []) start start i i
goes_first_item start i = grind (arith, item_loops)

-- after the items so far a look at the next token
module _ (so_far : List ItemV) (start now next : Reader NoContext VFound) (i j n : Supply) (goes : Goes vlog (items []) (items so_far) now start j i) where
  pub look_at_item_fails : (e : ReadError) → LooksFor vlog begins_item (Err e) now next j n → Reads vlog same (items []) (Err e) start next i n
  look_at_item_fails e look = grind (arith, item_loops)

  module _ (last : Reader NoContext VFound) (m : Supply) where
    -- no item is next
    pub end_fails : LooksFor vlog begins_item (Ok false) now next j n → (e : ReadError) → Reads vlog same (keyword (codes "endmodule")) (Err e) next last n m → Reads vlog same (items []) (Err e) start last i m
    end_fails look e reads = grind (arith, item_loops)

    pub all_items_read : LooksFor vlog begins_item (Ok false) now next j n → Reads vlog same (keyword (codes "endmodule")) (Ok tt) next last n m → Reads vlog same (items []) (Ok so_far) start last i m
    all_items_read look reads = grind (arith, item_loops)

    -- an item is next
    pub item_fails : LooksFor vlog begins_item (Ok true) now next j n → (e : ReadError) → Reads vlog same (sequence attrs item) (Err e) next last n m → Reads vlog same (items []) (Err e) start last i m
    item_fails look e reads = grind (arith, item_loops)

    pub goes_on_item : LooksFor vlog begins_item (Ok true) now next j n → (v : ItemV) → Reads vlog same (sequence attrs item) (Ok v) next last n m → Goes vlog (items []) (items (so_far ++ v ∷ [])) last start m i
    goes_on_item look v reads = grind (arith, item_loops)
