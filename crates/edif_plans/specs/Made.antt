-- What is made of a cell of a design (EDIF 2 0 0, cell, view, interface, contents, instance, net, joined).
use Rattle.std.specs.Prelude.{⊤, ◌≡◌, ℕ, zero, suc, ◌++◌, Bool, true, false, cond, List, [], ◌∷◌, map, get_or}
use Rattle.std.specs.List.{AllByRecursion}
use Rattle.nl_base.specs.declared.value.Dir.TheVariants.{Output}
use Rattle.edif_values.specs.Values.{IsWord, IsProperty, IsInstance, IsNet, IsPort}
use Rattle.edif_values.specs.declared.name.PortName.TheVariants.{Single}
use Rattle.edif_values.specs.declared.property.Property.{Property}
use Rattle.edif_values.specs.declared.instance.Instance.{Instance}
use Rattle.edif_values.specs.declared.net.Net.{Net}
use Rattle.edif_values.specs.declared.port.Port.{Port}
use Rattle.edif_values.specs.declared.port.PortItem.TheVariants.{Direction}
use Rattle.edif_values.specs.declared.cell.Cell.{Cell}
use Rattle.net_hier.specs.Constants.{ConstantNames}
use Rattle.net_hier.specs.declared.cells.HCell.{HCell}
use Rattle.net_hier.specs.declared.cells.HInst.{HInst}
use Rattle.net_hier.specs.declared.cells.HNet.{HNet}
use Rattle.net_hier.specs.declared.cells.HProp.{HProp}
use Rattle.net_hier.specs.declared.constants.ConstName.{ConstName}
use Rattle.net_bits.specs.Classes.{ClassTable, members_of}
use Rattle.net_live.specs.Last.{last_of}
use Rattle.net_live.specs.Live.{AreLiveClasses, class_props, is_live, needs_constant}
use Rattle.edif_values.specs.Names.{original}
use Rattle.edif_lookup.specs.Refusals.{is_in}
use Rattle.edif_meanings.specs.Apart.{AreApart}
use Rattle.edif_design.specs.CellRules.{port_ident}
use Rattle.edif_design.specs.Design.{net_value, property_value}
use Rattle.edif_written.specs.Written.{cell_of}
use Rattle.edif_written.specs.Naming.{name_for}
use Rattle.edif_written.specs.Sound.{AreSoundProps, IsShort}
use Rattle.edif_spaces.specs.Spaces.{AreIdents}
use Rattle.edif_plans.specs.AddedNames.{AreNamedFor}
use Rattle.edif_plans.specs.Summaries.{summary_for, summary_of, instance_summary, instance_summaries, instance_ident, instance_names}
use Rattle.edif_plans.specs.NetNames.{HasNoSpareText, net_names}
use Rattle.edif_plans.specs.PortNames.{HasPlainText}
use Rattle.edif_plans.specs.References.{CellPlan, refs_for}
use Rattle.edif_plans.specs.Sound.{IsSoundInstance, IsSoundNet, IsSoundPort}
use Rattle.edif_plans.specs.declared.added.Instances.{Instances}
use Rattle.edif_plans.specs.declared.head.Head.{Head}
use Rattle.edif_plans.specs.declared.plan.Plan.{Plan}

-- the constants that a cell needs, the zero first
abbrev pub needed_values : ClassTable → List Bool
needed_values classes = cond (needs_constant classes false) (false ∷ []) [] ++ cond (needs_constant classes true) (true ∷ []) []

-- each name is another than those before it
unfoldable pub AreFree : List (List ℕ) → List (List ℕ) → Type 0
AreFree before [] = ⊤
AreFree before (name ∷ names) = (is_in name before ≡ false) × AreFree (before ++ name ∷ []) names

-- the ports of a cell under these identifiers, each array with its name and its range as its text
pub record ArePortsFor (head : Head) (cell : HCell) (ports : List Port) : Type 0 where
  pub idents : map port_ident ports ≡ head.ports
  pub summaries : map summary_of ports ≡ map summary_for cell.ports
  pub texts : AllByRecursion (λ port. HasPlainText port.name) ports
  pub sound : AllByRecursion IsSoundPort cell.ports → AllByRecursion IsPort ports

-- an instance is added for each constant that the cell needs, under a name that no instance has before it, and all have identifiers that differ up to case
pub record AreAddedTo (own : List HInst) (classes : ClassTable) (instances : Instances) : Type 0 where
  pub values : map (λ one. one.value) instances.added ≡ needed_values classes
  pub free : AreFree (map (λ instance. instance.name) own) (map (λ one. one.name) instances.added)
  pub idents : AreIdents (instance_names own instances.added) instances.idents
  pub short : AllByRecursion (λ one. IsShort one.name) instances.added

-- the instances of a cell and those that are added to it
pub record AreInstancesFor (plan : Plan) (own : List HInst) (instances : Instances) (made : List Instance) : Type 0 where
  pub idents : map instance_ident made ≡ instances.idents
  pub summaries : map instance_summary made ≡ instance_summaries plan own instances.added
  pub no_spare_text : AllByRecursion (λ instance. HasNoSpareText instance.name) made
  pub sound : AllByRecursion IsSoundInstance own → AllByRecursion IsInstance made

-- the live classes below a number, in order
unfoldable pub live_below : List HNet → ClassTable → ℕ → List ℕ
live_below nets classes zero = []
live_below nets classes (suc n) = live_below nets classes n ++ cond (is_live nets (members_of classes n)) (n ∷ []) []

-- a net for each live class, in order, which has the name of its class, joins what its nodes stand for and has the last value of each property of its nets
pub record AreNetsFor (cell_plan : CellPlan) (classes : ClassTable) (live : List ℕ) (nets : List Net) : Type 0 where
  pub are_live : AreLiveClasses cell_plan.cell.nets classes live
  pub in_order : live ≡ live_below cell_plan.cell.nets classes classes.count
  pub names : map (λ net. original net.name) nets ≡ net_names cell_plan.cell classes live
  pub idents : AreIdents (net_names cell_plan.cell classes live) (map (λ net. net.name.ident) nets)
  pub no_spare_text : AllByRecursion (λ net. HasNoSpareText net.name) nets
  pub apart : AreApart (map (λ net. net.name.ident) nets)
  pub joined : map (λ net. net.joined) nets ≡ map (λ class. refs_for cell_plan (members_of classes class)) live
  pub props : map (λ net. (net_value net).props) nets ≡ map (λ class. last_of (class_props cell_plan.cell.nets (members_of classes class))) live
  pub sound : AllByRecursion IsSoundPort cell_plan.cell.ports → AllByRecursion IsSoundNet cell_plan.cell.nets → AllByRecursion IsNet nets

-- what is made of a cell with these classes, under this head, where these are its properties
pub record IsMadeCell (cells : List HCell) (plan : Plan) (head : Head) (cell : HCell) (props : List HProp) (classes : ClassTable) (made : Cell) : Type 0 where
  pub ports : List Port
  pub instances : Instances
  pub made_instances : List Instance
  pub live : List ℕ
  pub nets : List Net
  pub properties : List Property
  pub is_cell : made ≡ cell_of (name_for head.cell cell.name) ports made_instances nets properties
  pub are_ports : ArePortsFor head cell ports
  pub are_added : AreAddedTo cell.instances classes instances
  pub are_instances : AreInstancesFor plan cell.instances instances made_instances
  pub are_nets : AreNetsFor (record { cells = cells; plan = plan; cell = cell; head = head; instances = instances }) classes live nets
  pub are_properties : map property_value properties ≡ last_of props
  pub sound : AreSoundProps props → AllByRecursion IsProperty properties
  pub word : IsWord head.cell

-- and its added instances are named after these cells of the constants
pub record IsMadeUnder (names : ConstantNames) (cells : List HCell) (plan : Plan) (head : Head) (cell : HCell) (props : List HProp) (classes : ClassTable) (made : Cell) : Type 0 where
  pub is_made : IsMadeCell cells plan head cell props classes made
  pub are_named : AreNamedFor names cell.instances is_made.instances.added

-- a scalar output without properties
abbrev pub output_for : List ℕ → List ℕ → Port
output_for ident name = record { name = Single (name_for ident name); items = Direction Output ∷ [] }

-- the cell that is made for a constant
abbrev pub new_cell_for : Head → ConstName → Cell
new_cell_for head constant = cell_of (name_for head.cell constant.cell) (output_for (get_or head.ports 0 []) constant.port ∷ []) [] [] []
