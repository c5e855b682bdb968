use Rattle.std.proofs.Common.{◌≡◌, [], ◌∷◌, flat_map, ap, append-nil, arith, reverse, sym, ◌++◌, ◌∙◌}
use Rattle.std.specs.Vec.{vec_len}
use Rattle.vlog_cells.specs.Parts.{declared_item, tying_item}
use Rattle.vlog_cells.proofs.PinLaws.{all_taken, declared_alone, no_items, taken, tying_alone}
use Rattle.vlog_cells.proofs.parts.items_parted.Goals as goal

pub loop-item-init : goal.loop-item-init
loop-item-init c =
    record {
      declared = ap (λ l. flat_map declared_item c.args.left.now.items ++ reverse l) c.in_ok-declared.ensures.items ∙ append-nil (flat_map declared_item c.args.left.now.items);
      tying = ap (λ l. flat_map tying_item c.args.left.now.items ++ reverse l) c.in_ok-tying.ensures.items ∙ append-nil (flat_map tying_item c.args.left.now.items);
    }

pub loop-item-preserved : goal.loop-item-preserved
loop-item-preserved c =
    let item = c.in-Some.item in
    let old = c.loop-item.left.items in
    let new = c.give_back.new.items.items in
    let is : old ≡ new ++ item ∷ [] = c.in-Some.ensures.items ∙ ap (λ l. l ++ item ∷ []) (sym c.give_back.ensures) in
    record {
      declared = taken declared_item old new item c.loop-item.declared.items c.part_item.new.declared.items _ (declared_alone item) is c.in_ok-part_item.ensures.declared c.loop-item.invariant.declared;
      tying = taken tying_item old new item c.loop-item.tying.items c.part_item.new.tying.items _ (tying_alone item) is c.in_ok-part_item.ensures.tying c.loop-item.invariant.tying;
    }

pub returns : goal.returns
returns c =
    let left = c.loop-item.left in
    let none : vec_len left ≡ 0 = c.in_default.ensures.cases.0 in
    let empty : left.items ≡ [] = no_items left.items (omega (arith, none, left.ok)) in
    record {
      declared = c.reverse.ensures.items ∙ all_taken declared_item left.items c.loop-item.declared.items _ empty c.loop-item.invariant.declared;
      tying = all_taken tying_item left.items c.loop-item.tying.items _ empty c.loop-item.invariant.tying;
    }
