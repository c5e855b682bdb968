-- The written text of a file spells the file, and reads as it within the limit of an input.
use Rattle.std.proofs.Common.{◌≤◌, List, [], ◌∷◌, map, length, refl, sym, subst}
use Rattle.grammar.specs.Whole.{proper, end, whole, the_end, IsText}
use Rattle.nl_base.specs.Place.{place_at_start}
use Rattle.nl_bytes.specs.declared.bytes.TheConstants.{LIMIT}
use Rattle.nl_bytes.specs.Tokens.{Ahead}
use Rattle.edif_tokens.specs.declared.token.Found.{Found}
use Rattle.edif_values.specs.declared.token.Token.{Token}
use Rattle.edif_tokens.specs.Language.{all_tokens}
use Rattle.edif_tokens.proofs.Limits.{tokens_whole}
use Rattle.edif_keywords.specs.Reasons.{trailing}
use Rattle.edif_values.specs.declared.file.EdifFile.{EdifFile}
use Rattle.edif_library.specs.Grammar.{file}
use Rattle.edif_library.specs.Text.{EdifReads}
use Rattle.edif_writer.specs.Forms.{file_block, edif_text}
use Rattle.edif_lexing.specs.Lexing.{Shows}
use Rattle.edif_lexing.specs.Tokens.{block_tokens}
use Rattle.edif_lexing.proofs.Laying.{text_lexes}
use Rattle.edif_values.specs.Values.{IsEdifValue}
use Rattle.edif_library.specs.AnyLength.{EdifSpells}
use Rattle.edif_rereading.proofs.Spelled.{Row, Spelled}
use Rattle.edif_rereading.proofs.Library.{file_spelled}
use Rattle.edif_rereading.proofs.Writable.{file_laid}

in_row : (fs : List Found) → Row (map proper fs) (map (λ (f : Found). f.token) fs)
in_row [] = tt
in_row (f ∷ fs) = (refl, in_row fs)

-- tokens that spell a file, and the end of the bytes behind them
whole_text : (v : EdifFile) (s : Ahead Found) (ts : List Token) → Shows s ts → Spelled (file []) ts v → IsText [] (whole trailing (file [])) s v
unfolding whole the_end
whole_text v s ts shown x =
    let row : Row (map proper shown.found) ts = subst (λ (z : List Token). Row (map proper shown.found) z) shown.same (in_row shown.found) in
    ((v, map proper shown.found, end shown.last ∷ [], shown.tokens, x.by [] (map proper shown.found) row, (tt, end shown.last ∷ [], [], refl, (end shown.last, refl, refl), (refl, refl))), shown.finish)

pub text_spells : (v : EdifFile) → IsEdifValue v → EdifSpells (edif_text v) v
text_spells v g = whole_text v (all_tokens (edif_text v)) (block_tokens (file_block v)) ((text_lexes (file_block v) 0 (file_laid v g)).at place_at_start) (file_spelled [] v g)

pub text_reads : (v : EdifFile) → IsEdifValue v → length (edif_text v) ≤ LIMIT → EdifReads (edif_text v) v
text_reads v g le = subst (λ (s : Ahead Found). IsText [] (whole trailing (file [])) s v) (sym (tokens_whole (edif_text v) le)) (text_spells v g)
