-- The size of a file that was read.
use Rattle.std.proofs.Common.{◌∙◌, ap, ℕ, ◌+◌, ◌<◌, ◌≤◌, List, length, length-append, arith}
use Rattle.grammar.specs.Texts.{Spells}
use Rattle.grammar.specs.Whole.{Terminal, whole, the_end}
use Rattle.nl_base.specs.declared.place.Place.{Place}
use Rattle.nl_base.specs.Place.{place_at_start}
use Rattle.nl_bytes.specs.declared.bytes.TheConstants.{LIMIT}
use Rattle.vlog_values.specs.declared.module.VlogFile.{VlogFile}
use Rattle.vlog_values.specs.Sizes.{vlog_size}
use Rattle.vlog_tokens.specs.declared.token.VFound.{VFound}
use Rattle.vlog_tokens.specs.Language.{vtokens}
use Rattle.vlog_exprs.specs.Reasons.{trailing}
use Rattle.vlog_modules.specs.Grammar.{file}
use Rattle.vlog_modules.specs.Text.{VlogReads}
use Rattle.vlog_bounds.proofs.FileSizes.{bounded_file}
use Rattle.vlog_bounds.proofs.TokenCount.{few_tokens, read_within}

-- the end of the input is no token of a file
whole_size : (ts : List (Terminal VFound Place)) (v : VlogFile) → Spells tt (whole trailing file) ts v → vlog_size v < length ts
unfolding whole the_end
whole_size ts v (u, a, b, is, in_file, (ended, c, d, is_end, (x, one_more, told), (none, same))) =
    let l = ap length is ∙ length-append a b in
    let m = ap length is_end ∙ length-append c d in
    let k = ap length one_more in
    let h = bounded_file.bound a u in_file in
    let s = ap vlog_size same in
    omega (arith, l, m, k, h, s)

-- A file that was read has fewer items than tokens, of which the end of the input is one.
pub items_within : (bs : List ℕ) (v : VlogFile) → VlogReads bs v → vlog_size v < length (vtokens bs).tokens
items_within bs v reads = whole_size (vtokens bs).tokens v reads.0

-- Besides the end of the input there are no more tokens than bytes.
pub tokens_within : (bs : List ℕ) → length (vtokens bs).tokens ≤ length bs + 1
tokens_within bs = let h = few_tokens place_at_start bs in omega (arith, h)

-- Bytes that read as a file are within the limit of an input.
pub input_within : (bs : List ℕ) (v : VlogFile) → VlogReads bs v → length bs ≤ LIMIT
input_within bs v reads = let h = read_within place_at_start bs reads.1 in omega (arith, h)

-- So the size of the file is.
pub file_within : (bs : List ℕ) (v : VlogFile) → VlogReads bs v → vlog_size v ≤ LIMIT
file_within bs v reads = let a = items_within bs v reads in let b = tokens_within bs in let c = input_within bs v reads in omega (arith, a, b, c)
