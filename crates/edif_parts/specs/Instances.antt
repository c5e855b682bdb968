-- The instances that are written (EDIF 2 0 0, instance, viewRef, cellRef, libraryRef).
use Rattle.std.specs.Prelude.{ℕ, List, [], ◌∷◌, flat_map, map, Some}
use Rattle.edif_values.specs.declared.property.Property.{Property}
use Rattle.edif_values.specs.declared.instance.Instance.{Instance}
use Rattle.edif_values.specs.declared.instance.InstanceItem.TheVariants as instance_items
use Rattle.edif_values.specs.declared.view.ContentsItem.{ContentsItem}
use Rattle.edif_values.specs.declared.view.ContentsItem.TheVariants as contents_items
use Rattle.edif_written.specs.Naming.{name_for}
use Rattle.edif_written.specs.Written.{netlist, work}

-- the instance of this identifier, name, cell and properties
abbrev pub instance_for : List ℕ → List ℕ → List ℕ → List Property → Instance
instance_for ident name cell properties = record { name = name_for ident name; view = netlist; cell = cell; library = Some work; items = map instance_items.Property properties }

-- the instance that a part of contents is, if it is one
abbrev pub instance_in : ContentsItem → List Instance
instance_in (contents_items.Instance one) = one ∷ []
instance_in _ = []

-- the instances among the parts of contents
abbrev pub instances_in : List ContentsItem → List Instance
instances_in items = flat_map instance_in items
