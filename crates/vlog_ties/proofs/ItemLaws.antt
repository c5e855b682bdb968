-- The ties of a module, item by item.
use Rattle.std.proofs.Common.{◌≡◌, ℕ, ◌+◌, ◌<◌, ◌≤◌, List, [], ◌++◌, ap, drop, flat_map, get_or, length, sym, take, ◌∙◌}
use Rattle.std.proofs.lemmas.List.{take_all}
use Rattle.std.proofs.lemmas.List.Concat.{flat_map-append}
use Rattle.std.proofs.lemmas.List.Folds.{flat_map-map}
use Rattle.vlog_design.specs.Design.{instance_count, module_joins}
use Rattle.vlog_design.specs.Names.{Signal, signals}
use Rattle.vlog_values.specs.declared.module.ItemV.{ItemV}
use Rattle.vlog_values.specs.declared.module.Module.{Module}
use Rattle.vlog_ties.specs.Ties.{Tied, all_tied, item_ties, module_ties, tie_joins, tied, tied_joins, ties_from}
use Rattle.vlog_ties.specs.declared.tie.Tie.{Tie}
use Rattle.vlog_ties.proofs.ModuleLaws.{module_joined}
use Rattle.vlog_ties.proofs.Places.{items_step}

-- ties that are added to none
pub added_alone : (ties before : List Tie) (ts : List Tied) → before ≡ [] → all_tied ties ≡ all_tied before ++ ts → all_tied ties ≡ ts
added_alone ties before ts e is = is ∙ ap (λ b. all_tied b ++ ts) e

-- the joins of the ties of the next item, and those of the items behind it
pub joins_step : (table : List Signal) (modules : List Module) (number : ℕ) (list : List ItemV) (i : ℕ) (item : ItemV) (ties : List Tie) → item ≡ get_or list i item → i < length list → all_tied ties ≡ item_ties modules number item →
    flat_map (tied_joins table) (ties_from modules number (drop i list)) ≡ flat_map (tie_joins table) ties ++ flat_map (tied_joins table) (ties_from modules (number + instance_count item) (drop (i + 1) list))
joins_step table modules number list i item ties is h are =
    let here = item_ties modules number item in
    let rest = ties_from modules (number + instance_count item) (drop (i + 1) list) in
    ap (flat_map (tied_joins table)) (items_step modules number list i item is h)
    ∙ (flat_map-append (tied_joins table) here rest ∙ ap (λ joins. joins ++ flat_map (tied_joins table) rest) (ap (flat_map (tied_joins table)) (sym are) ∙ flat_map-map (tied_joins table) tied ties))

-- the joins of what all items tie
pub all_joined : (modules : List Module) (m : Module) (table : List Signal) (list : List ItemV) → table ≡ signals m → list ≡ m.items → flat_map (tied_joins table) (ties_from modules 0 list) ≡ module_joins modules m
unfolding module_ties
all_joined modules m table list e f = (λ j. flat_map (tied_joins (e j)) (ties_from modules 0 (f j))) ∙ module_joined modules m

-- what all items tie
pub all_taken : (modules : List Module) (m : Module) (list : List ItemV) (i : ℕ) → list ≡ m.items → length list ≤ i → ties_from modules 0 (take i list) ≡ module_ties modules m
unfolding module_ties
all_taken modules m list i e le = ap (ties_from modules 0) (take_all i list le ∙ e)
