-- Loops that make a list: what each item keeps, and how many items there are in all their lists.
use Rattle.std.proofs.lemmas.List.{length_push}
use Rattle.std.proofs.lemmas.List.Sums.{sum_by_push}
use Rattle.nl_bytes.proofs.Uses.{AllByRecursion-push}
use Rattle.edif_keywords.proofs.Forms.{string_loops, item_loops}

-- for a loop over the strings of a form
pub ruleset string_lists = (AllByRecursion-push, length_push, string_loops)

-- for a loop over the forms in a form
pub ruleset item_lists = (AllByRecursion-push, sum_by_push, length_push, item_loops)
