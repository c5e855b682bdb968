-- The contents of a cell that is written (EDIF 2 0 0, contents, instance, net).
use Rattle.std.specs.Prelude.{◌≡◌, List, map}
use Rattle.edif_values.specs.declared.instance.Instance.{Instance as WrittenInstance}
use Rattle.edif_values.specs.declared.net.Net.{Net}
use Rattle.edif_values.specs.declared.view.ContentsItem.{ContentsItem}
use Rattle.edif_values.specs.declared.view.ContentsItem.TheVariants as contents_items
use Rattle.edif_written.specs.Written.{contents_of}
use Rattle.net_bits.specs.Classes.{ClassTable}
use Rattle.net_hier.specs.Constants.{ConstantNames}
use Rattle.net_hier.specs.declared.cells.HCell.{HCell}
use Rattle.edif_plans.specs.AddedNames.{AreNamedFor}
use Rattle.edif_plans.specs.Made.{AreAddedTo, AreInstancesFor, AreNetsFor, live_below}
use Rattle.edif_plans.specs.declared.added.Instances.{Instances}
use Rattle.edif_plans.specs.declared.head.Head.{Head}
use Rattle.edif_plans.specs.declared.plan.Plan.{Plan}

-- the parts of contents are instances, of which this holds
pub record HaveInstances (Holds : List WrittenInstance → Type 0) (items : List ContentsItem) : Type 0 where
  pub made : List WrittenInstance
  pub are_made : items ≡ map contents_items.Instance made
  pub hold : Holds made

-- the contents are the instances that are made of the cell and those of the constants, named after these cells of them, and then the nets of its live classes
pub record AreContentsFor (names : ConstantNames) (cells : List HCell) (plan : Plan) (head : Head) (cell : HCell) (classes : ClassTable) (items : List ContentsItem) : Type 0 where
  pub instances : Instances
  pub made_instances : List WrittenInstance
  pub nets : List Net
  pub are_items : items ≡ contents_of made_instances nets
  pub are_added : AreAddedTo cell.instances classes instances
  pub are_named : AreNamedFor names cell.instances instances.added
  pub are_instances : AreInstancesFor plan cell.instances instances made_instances
  pub are_nets : AreNetsFor (record { cells = cells; plan = plan; cell = cell; head = head; instances = instances }) classes (live_below cell.nets classes classes.count) nets
