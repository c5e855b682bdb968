-- What the parts of ports, instances and nets read as by cases: where a part begins with a token that is due, which part a keyword leads to,
-- and whether the items of a port have a direction.
use Rattle.std.proofs.Common.{◌≡◌, refl, ◌∙◌, ap, Bool, true, false, ◌||◌, List, [], ◌∷◌, ◌++◌, Option}
use Rattle.std.specs.List.{list_any}
use Rattle.std.proofs.lemmas.List.Folds.{list_any-append}
use Rattle.nl_base.specs.declared.fault.ReadError.{ReadError}
use Rattle.edif_tokens.specs.declared.token.Found.{Found}
use Rattle.readers.specs.Parts.{any}
use Rattle.nl_bytes.specs.Tokens.{Ahead}
use Rattle.readers.specs.Readers.{reading, IsCause}
use Rattle.readers.proofs.Choices.{due_one, due_then}
use Rattle.readers.proofs.Reading.{sequences}
use Rattle.edif_values.specs.declared.keyword.Keyword.{Keyword}
use Rattle.edif_values.specs.declared.keyword.Keyword.TheVariants as k
use Rattle.edif_values.specs.Keywords.{same_keyword}
use Rattle.edif_keywords.specs.Aliases.{Alias}
use Rattle.edif_keywords.specs.Language.{edif}
use Rattle.edif_keywords.specs.Reasons.{word_of, closing_of}
use Rattle.edif_keywords.proofs.Forms.{form_or_other}
use Rattle.edif_keywords.proofs.Collected.{item_lists}
use Rattle.edif_values.specs.declared.port.PortItem.{PortItem}
use Rattle.edif_values.specs.declared.port.PortItem.TheVariants as port_items
use Rattle.edif_values.specs.declared.instance.InstanceItem.TheVariants as instance_items
use Rattle.edif_values.specs.declared.net.NetItem.TheVariants as net_items
use Rattle.readers.specs.Items.{as_item}
use Rattle.edif_names.specs.Grammar.{property}
use Rattle.edif_status.specs.Grammar.{note}
use Rattle.edif_nets.specs.Grammar.{designator, direction, port_item, is_direction, has_direction, no_library, instance_item, whole_port, no_instance, net_item}

module _ (e : ReadError) (table : List Alias) (s : Option (Ahead Found)) (h : IsCause e (reading edif any table s)) where
  pub no_library_due : IsCause e (reading edif no_library table s)
  unfolding no_library
  no_library_due = due_then e edif _ _ table s (due_one e edif (λ _ x. closing_of x.token) table s h)

  pub no_instance_due : IsCause e (reading edif no_instance table s)
  unfolding no_instance
  no_instance_due = due_then e edif _ _ table s (due_one e edif (λ _ x. closing_of x.token) table s h)

  pub whole_port_due : IsCause e (reading edif whole_port table s)
  unfolding whole_port
  whole_port_due = due_then e edif _ _ table s (due_one e edif (λ _ x. word_of x.token) table s h)

module _ (q : Keyword) where
  pub direction_due : same_keyword q k.Direction ≡ true → port_item q ≡ direction
  unfolding port_item
  direction_due h = rw h refl

  pub port_property_due : same_keyword q k.Direction ≡ false → same_keyword q k.Property ≡ true → port_item q ≡ as_item port_items.Property property
  unfolding port_item
  port_property_due h i = rw (h, i) refl

  pub port_designator_due : same_keyword q k.Direction ≡ false → same_keyword q k.Property ≡ false → same_keyword q k.Designator ≡ true → port_item q ≡ as_item port_items.Designator designator
  unfolding port_item
  port_designator_due h i j = rw (h, i, j) refl

  pub port_note_due : same_keyword q k.Direction ≡ false → same_keyword q k.Property ≡ false → same_keyword q k.Designator ≡ false → port_item q ≡ as_item port_items.Note (note q)
  unfolding port_item
  port_note_due h i j = rw (h, i, j) refl

  pub instance_property_due : same_keyword q k.Property ≡ true → instance_item q ≡ as_item instance_items.Property property
  unfolding instance_item
  instance_property_due h = rw h refl

  pub instance_designator_due : same_keyword q k.Property ≡ false → same_keyword q k.Designator ≡ true → instance_item q ≡ as_item instance_items.Designator designator
  unfolding instance_item
  instance_designator_due h i = rw (h, i) refl

  pub instance_note_due : same_keyword q k.Property ≡ false → same_keyword q k.Designator ≡ false → instance_item q ≡ as_item instance_items.Note (note q)
  unfolding instance_item
  instance_note_due h i = rw (h, i) refl

  pub net_property_due : same_keyword q k.Property ≡ true → net_item q ≡ as_item net_items.Property property
  unfolding net_item
  net_property_due h = rw h refl

  pub net_note_due : same_keyword q k.Property ≡ false → net_item q ≡ as_item net_items.Note (note q)
  unfolding net_item
  net_note_due h = rw h refl

-- some items and one more have a direction where one of them is one
pub has_direction_more : (is : List PortItem) (i : PortItem) → has_direction (is ++ i ∷ []) ≡ (has_direction is || is_direction i)
unfolding has_direction
has_direction_more is i = list_any-append is_direction is (i ∷ []) ∙ ap (λ b. list_any is_direction is || b) (last (is_direction i))
  where
    last : (b : Bool) → (b || false) ≡ b
    last true = refl
    last false = refl

-- no items have no direction
pub has_direction_none : has_direction [] ≡ false
unfolding has_direction
has_direction_none = refl

-- for a reference that may be a form or a token
pub ruleset form_or_token = (no_library_due, no_instance_due, whole_port_due, form_or_other)

-- for the rest of a form by its keyword
pub ruleset by_keyword = (direction_due, port_property_due, port_designator_due, port_note_due, instance_property_due, instance_designator_due, instance_note_due, net_property_due, net_note_due, sequences)

-- for the items of a port
pub ruleset port_loops = (has_direction_more, has_direction_none, item_lists)
