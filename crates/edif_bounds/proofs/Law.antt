-- The size of a file that was read.
use Rattle.std.proofs.Common.{◌≡◌, ◌∙◌, ap, ℕ, ◌+◌, ◌<◌, ◌≤◌, List, [], ◌++◌, length, map, length-append, arith}
use Rattle.grammar.specs.Texts.{Spells}
use Rattle.grammar.specs.Whole.{Terminal, proper, whole, the_end}
use Rattle.nl_base.specs.declared.place.Place.{Place}
use Rattle.nl_base.specs.Place.{place_at_start}
use Rattle.nl_bytes.specs.declared.bytes.TheConstants.{LIMIT}
use Rattle.edif_tokens.specs.declared.token.Found.{Found}
use Rattle.edif_tokens.specs.Language.{tokens}
use Rattle.edif_keywords.specs.Reasons.{trailing}
use Rattle.edif_values.specs.declared.file.EdifFile.{EdifFile}
use Rattle.edif_library.specs.Grammar.{file}
use Rattle.edif_values.specs.Sizes.{edif_size}
use Rattle.edif_library.specs.Text.{EdifReads}
use Rattle.edif_bounds.proofs.Library.{bounded_file}
use Rattle.edif_limits.proofs.Law as limits
use Rattle.edif_limits.proofs.Tokens.{few_tokens, few_proper}

-- the end of the input is no token of a file
whole_size : (ts : List (Terminal Found Place)) (v : EdifFile) → Spells [] (whole trailing (file [])) ts v → edif_size v < length ts
unfolding whole the_end
whole_size ts v (u, a, b, is, in_file, (ended, c, d, is_end, (x, one_more, told), (none, same))) =
    let l = ap length is ∙ length-append a b in
    let m = ap length is_end ∙ length-append c d in
    let k = ap length one_more in
    let h = (bounded_file []).bound [] a u in_file in
    let s = ap edif_size same in
    omega (arith, l, m, k, h, s)

-- A file that was read has fewer items than tokens, of which the end of the input is one.
pub items_within : (bs : List ℕ) (v : EdifFile) → EdifReads bs v → edif_size v < length (tokens bs).tokens
items_within bs v reads = whole_size (tokens bs).tokens v reads.0

-- Besides the end of the input there are no more tokens than bytes.
pub proper_within : (bs : List ℕ) (front : List Found) (rest : List (Terminal Found Place)) → (tokens bs).tokens ≡ map proper front ++ rest → length front ≤ length bs
proper_within bs front rest is = few_proper place_at_start bs front rest is

tokens_within : (bs : List ℕ) → length (tokens bs).tokens ≤ length bs + 1
tokens_within bs = let h = few_tokens place_at_start bs in omega (arith, h)

-- Bytes that read as a file are within the limit of an input.
pub input_within : (bs : List ℕ) (v : EdifFile) → EdifReads bs v → length bs ≤ LIMIT
input_within bs v h = ((limits.reads bs v).0 h).1

-- So the size of the file is.
pub file_within : (bs : List ℕ) (v : EdifFile) → EdifReads bs v → edif_size v ≤ LIMIT
file_within bs v reads = let a = items_within bs v reads in let b = tokens_within bs in let c = input_within bs v reads in omega (arith, a, b, c)
