use Rattle.std.proofs.Common.{◌≡◌, ◌++◌, OnOk, ap, flat_map, subst, sym, ◌∙◌}
use Rattle.std.proofs.lemmas.List.Folds.{flat_map-map}
use Rattle.vlog_ties.specs.Ties.{all_tied, modules_in, tied, tied_joins}
use Rattle.vlog_ties.proofs.ItemLaws.{added_alone}
use Rattle.vlog_ties.proofs.ModuleLaws.{item_joined}
use Rattle.vlog_ties.proofs.Valid.{item_valid, ties_spelled}
use Rattle.vlog_ties.proofs.joins.push_item_joins.Goals as goal

pub push_ties-requires-clause-digits : goal.push_ties-requires-clause-digits
push_ties-requires-clause-digits c =
    ties_spelled _ _ (ap all_tied c.as_slice.ensures.value ∙ added_alone _ _ _ c.new-ties.ensures.items c.in_ok-push_item_ties.ensures.added)
    (item_valid (modules_in c.args.scopes.now) c.args.number c.args.item.now c.requires.valid c.requires.small)

pub returns : goal.returns
returns c =
    let table = c.args.table.now in
    let modules = modules_in c.args.scopes.now in
    let item = c.args.item.now in
    let are = ap all_tied c.as_slice.ensures.value ∙ added_alone _ _ _ c.new-ties.ensures.items c.in_ok-push_item_ties.ensures.added in
    record {
      added = subst (λ joins. OnOk c.push_ties.result (c.push_ties.new.out.items ≡ c.args.out.now.items ++ joins))
          (sym (flat_map-map (tied_joins table) tied c.as_slice.result.now) ∙ (ap (flat_map (tied_joins table)) are ∙ item_joined table modules c.args.number item)) c.push_ties.ensures.added;
    }
