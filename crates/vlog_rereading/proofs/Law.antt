-- The written text of a file spells the file, and reads as it within the limit of an input.
use Rattle.std.proofs.Common.{◌≡◌, ℕ, ◌≤◌, List, [], ◌∷◌, ◌++◌, map, length, true, refl, sym, ap, ◌∙◌, subst, append-nil}
use Rattle.grammar.specs.Part.{gives}
use Rattle.grammar.specs.Whole.{Terminal, proper, end, whole, the_end, IsText}
use Rattle.nl_base.specs.declared.place.Place.{Place}
use Rattle.nl_base.specs.Place.{place_at_start}
use Rattle.nl_bytes.specs.declared.bytes.TheConstants.{LIMIT}
use Rattle.nl_bytes.specs.Tokens.{Ahead}
use Rattle.vlog_values.specs.declared.module.VlogFile.{VlogFile}
use Rattle.vlog_values.specs.Values.{IsVlogValue}
use Rattle.vlog_tokens.specs.declared.token.VFound.{VFound}
use Rattle.vlog_tokens.specs.declared.token.VToken.{VToken}
use Rattle.vlog_tokens.specs.Language.{all_tokens}
use Rattle.vlog_exprs.specs.Reasons.{trailing}
use Rattle.vlog_modules.specs.Grammar.{file}
use Rattle.vlog_modules.specs.Text.{VlogReads}
use Rattle.vlog_writer.specs.Forms.{file_lines, vlog_text}
use Rattle.vlog_lexing.specs.Lexing.{Shows}
use Rattle.vlog_lexing.specs.Tokens.{line_tokens}
use Rattle.vlog_lexing.proofs.Laying.{text_lexes}
use Rattle.vlog_lexing.proofs.Limits.{tokens_whole}
use Rattle.vlog_modules.specs.AnyLength.{VlogSpells}
use Rattle.vlog_rereading.proofs.Fronts.{Row, Parted, Front}
use Rattle.vlog_rereading.proofs.Modules.{file_front}
use Rattle.vlog_rereading.proofs.Writable.{file_laid}

in_row : (fs : List VFound) → Row (map proper fs) (map (λ (f : VFound). f.token) fs)
in_row [] = tt
in_row (f ∷ fs) = (refl, in_row fs)

none_behind : (xs : List (Terminal VFound Place)) → Row xs [] → xs ≡ []
none_behind [] row = refl
none_behind (x ∷ xs) row = absurd row

-- tokens that spell a file, and the end of the bytes behind them
whole_text : (v : VlogFile) (s : Ahead VFound) (ts : List VToken) → Shows s ts → Front file v ts [] → IsText tt (whole trailing file) s v
unfolding whole the_end
whole_text v s ts shown x =
    let row : Row (map proper shown.found) ts = subst (λ (z : List VToken). Row (map proper shown.found) z) shown.same (in_row shown.found) in
    let p = x.at (map proper shown.found) row in
    let front : map proper shown.found ≡ p.front = p.parts ∙ ap (λ (z : List (Terminal VFound Place)). p.front ++ z) (none_behind p.behind p.row) ∙ append-nil p.front in
    let parts : s.tokens ≡ p.front ++ end shown.last ∷ [] = shown.tokens ∙ ap (λ (z : List (Terminal VFound Place)). z ++ end shown.last ∷ []) front in
    ((v, p.front, end shown.last ∷ [], parts, p.spells, (tt, end shown.last ∷ [], [], refl, (end shown.last, refl, refl), (refl, refl))), shown.finish)

pub text_spells : (v : VlogFile) → IsVlogValue v → VlogSpells (vlog_text v) v
text_spells v good = whole_text v (all_tokens (vlog_text v)) (line_tokens (file_lines true v.modules) []) ((text_lexes (file_lines true v.modules) (file_laid v good)).at place_at_start) (file_front v [] good)

pub text_reads : (v : VlogFile) → IsVlogValue v → length (vlog_text v) ≤ LIMIT → VlogReads (vlog_text v) v
text_reads v good le = subst (λ (s : Ahead VFound). IsText tt (whole trailing file) s v) (sym (tokens_whole (vlog_text v) le)) (text_spells v good)
