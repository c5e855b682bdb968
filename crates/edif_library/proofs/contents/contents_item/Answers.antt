use Rattle.edif_library.proofs.Sizes.{less_room}
use Rattle.edif_values.specs.Sizes.{contents_item_size}
use Rattle.edif_library.proofs.contents.contents_item.Goals as goal

pub returns-clause-size : goal.returns-clause-size
returns-clause-size g c = less_room contents_item_size _ _ _ _ c.in_ok-keyword.ensures.reads.value.2 c.contents_form.ensures.size
