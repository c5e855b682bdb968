-- What is written of ports, instances and nets spells them.
use Rattle.std.proofs.Common.{◌≡◌, ℕ, ◌≤◌, Bool, true, false, List, [], ◌∷◌, ◌++◌, length, Option, Some, None, refl, sym, subst, append_assoc, arith}
use Rattle.std.specs.Prelude.{ℤ}
use Rattle.std.specs.List.{AllByRecursion}
use Rattle.nl_base.specs.declared.value.Dir.{Dir}
use Rattle.nl_base.specs.declared.value.Dir.TheVariants as dirs
use Rattle.edif_values.specs.declared.token.Token.TheVariants as t
use Rattle.edif_values.specs.declared.keyword.Keyword.TheVariants as k
use Rattle.edif_values.specs.Keywords.{has, spelling}
use Rattle.edif_keywords.specs.Reasons.{meant_by}
use Rattle.edif_values.specs.declared.note.Note.TheVariants as noted
use Rattle.edif_values.specs.declared.port.PortItem.{PortItem}
use Rattle.edif_values.specs.declared.port.PortItem.TheVariants as port_items
use Rattle.edif_values.specs.declared.port.Port.{Port}
use Rattle.edif_values.specs.declared.instance.InstanceItem.{InstanceItem}
use Rattle.edif_values.specs.declared.instance.InstanceItem.TheVariants as instance_items
use Rattle.edif_values.specs.declared.instance.Instance.{Instance}
use Rattle.edif_values.specs.declared.net.PortRef.{PortRef}
use Rattle.edif_values.specs.declared.net.NetItem.{NetItem}
use Rattle.edif_values.specs.declared.net.NetItem.TheVariants as net_items
use Rattle.edif_values.specs.declared.net.Net.{Net}
use Rattle.edif_values.specs.Directions.{told, directions}
use Rattle.edif_values.specs.Values.{IsPortItem, IsPort, IsInstanceItem, IsInstance, IsPortRef, IsNetItem, IsNet}
use Rattle.edif_nets.specs.Grammar.{designator, direction_words, direction, port_item, is_direction, has_direction, port_keywords, port_rest, port, library_named, no_library, maybe_library, cell_ref, view_ref, instance_item, instance_keywords, instance_rest, instance, member, whole_port, port_or_member, instance_named, no_instance, maybe_instance, port_ref, joined_keywords, joined_rest, joined, net_item, net_keywords, net_rest, net}
use Rattle.edif_writer.specs.Forms as form
use Rattle.edif_writer.specs.Layout.{more, each, all}
use Rattle.edif_lexing.specs.Tokens.{tokens, part_tokens, block_tokens, line_tokens}
use Rattle.edif_rereading.proofs.Spelled.{Spelled, then, after, at_last, a_word, a_string, an_integer, a_close, a_choice, closes, begins, form_here, other_here, IsItem, item, all_items, block_items}
use Rattle.edif_rereading.proofs.Names.{name_spelled, port_name_spelled, property_spelled}
use Rattle.edif_rereading.proofs.Status.{comment_spelled, user_spelled}

pub designator_spelled : (s : List ℕ) → Spelled designator (t.Str s ∷ t.RightParen ∷ []) s
unfolding designator
designator_spelled s = after (a_string s) (closes s)

-- ---- ports

some_told : (s : List PortItem) (d : Dir) (is : List PortItem) → 1 ≤ length (directions (s ++ port_items.Direction d ∷ is))
unfolding told
some_told [] d is = omega arith
some_told (port_items.Direction e ∷ s) d is = omega arith
some_told (port_items.Property p ∷ s) d is = some_told s d is
some_told (port_items.Designator w ∷ s) d is = some_told s d is
some_told (port_items.Note n ∷ s) d is = some_told s d is

-- where at most one direction is told, none is before one
none_before : (s : List PortItem) (d : Dir) (is : List PortItem) → length (directions (s ++ port_items.Direction d ∷ is)) ≤ 1 → has_direction s ≡ false
unfolding told has_direction is_direction
none_before [] d is le = refl
none_before (port_items.Direction e ∷ s) d is le = absurd (omega (arith, le, some_told s d is))
none_before (port_items.Property p ∷ s) d is le = none_before s d is le
none_before (port_items.Designator w ∷ s) d is le = none_before s d is le
none_before (port_items.Note n ∷ s) d is le = none_before s d is le

direction_may : (b : Bool) → b ≡ false → has (port_keywords b) k.Direction ≡ true
unfolding has port_keywords
direction_may true e = absurd cc
direction_may false e = refl

property_may : (b : Bool) → has (port_keywords b) k.Property ≡ true
unfolding has port_keywords
property_may true = refl
property_may false = refl

designator_may : (b : Bool) → has (port_keywords b) k.Designator ≡ true
unfolding has port_keywords
designator_may true = refl
designator_may false = refl

comment_may : (b : Bool) → has (port_keywords b) k.Comment ≡ true
unfolding has port_keywords
comment_may true = refl
comment_may false = refl

user_may : (b : Bool) → has (port_keywords b) k.UserData ≡ true
unfolding has port_keywords
user_may true = refl
user_may false = refl

direction_spelled : (d : Dir) → Spelled direction (tokens (form.dir_form d) ++ t.RightParen ∷ []) (port_items.Direction d)
unfolding direction meant_by
direction_spelled dirs.Input = after (a_choice direction_words _ dirs.Input refl) (closes _)
direction_spelled dirs.Output = after (a_choice direction_words _ dirs.Output refl) (closes _)
direction_spelled dirs.Inout = after (a_choice direction_words _ dirs.Inout refl) (closes _)

port_item_spelled : (s : List PortItem) (i : PortItem) (is : List PortItem) → length (directions (s ++ i ∷ is)) ≤ 1 → IsPortItem i
    → IsItem (port_keywords (has_direction s)) port_item (tokens (form.port_item_form i)) i
unfolding port_item
port_item_spelled s (port_items.Direction d) is le g = item k.Direction (direction_may (has_direction s) (none_before s d is le)) (direction_spelled d)
port_item_spelled s (port_items.Property p) is le g = item k.Property (property_may (has_direction s)) (at_last (property_spelled p g))
port_item_spelled s (port_items.Designator w) is le g = item k.Designator (designator_may (has_direction s)) (at_last (designator_spelled w))
port_item_spelled s (port_items.Note (noted.Comment ts)) is le g = item k.Comment (comment_may (has_direction s)) (at_last (comment_spelled ts))
port_item_spelled s (port_items.Note (noted.User u)) is le g = item k.UserData (user_may (has_direction s)) (at_last (user_spelled u g))

-- the items before and these have at most one direction
abbrev ArePorts : List PortItem → List PortItem → Type 0
ArePorts s is = (length (directions (s ++ is)) ≤ 1) × AllByRecursion IsPortItem is

port_items_spelled : (is : List PortItem) → ArePorts [] is → Spelled (port_rest []) (part_tokens (each form.port_item_form is)) is
unfolding port_rest
port_items_spelled is g =
    all_items (λ so_far. port_keywords (has_direction so_far)) port_item (λ i. tokens (form.port_item_form i)) (λ is. part_tokens (each form.port_item_form is)) ArePorts refl (λ i is. refl)
    (λ s i is g. (port_item_spelled s i is g.0 g.1.0, (subst (λ (z : List PortItem). length (directions z) ≤ 1) (sym (append_assoc s (i ∷ []) is)) g.0, g.1.1))) [] is g

pub port_spelled : (p : Port) → IsPort p → Spelled port (part_tokens (more (form.port_name_form p.name) (each form.port_item_form p.items))) p
unfolding port
port_spelled p g = then (port_name_spelled p.name) (at_last (port_items_spelled p.items (g.items.1, g.items.0)))

-- ---- instances

cell_ref_spelled : (w : List ℕ) (o : Option (List ℕ)) → Spelled cell_ref (tokens (form.cell_ref_form w o)) (w, o)
unfolding cell_ref maybe_library library_named no_library has
cell_ref_spelled w None = begins _ k.CellRef refl (after (a_word w) (at_last (other_here _ _ _ (closes _))))
cell_ref_spelled w (Some l) = begins _ k.CellRef refl (after (a_word w) (at_last (form_here _ _ _ k.LibraryRef refl (after (a_word l) (after a_close (closes _))))))

view_ref_spelled : (i : Instance) → Spelled view_ref (tokens (form.view_ref_form i)) (i.view, i.cell, i.library)
unfolding view_ref has
view_ref_spelled i = begins _ k.ViewRef refl (after (a_word i.view) (then (cell_ref_spelled i.cell i.library) (closes _)))

instance_item_spelled : (i : InstanceItem) → IsInstanceItem i → IsItem instance_keywords instance_item (block_tokens (form.instance_item_block i)) i
unfolding instance_item has
instance_item_spelled (instance_items.Property p) g = item k.Property refl (at_last (property_spelled p g))
instance_item_spelled (instance_items.Designator s) g = item k.Designator refl (at_last (designator_spelled s))
instance_item_spelled (instance_items.Note (noted.Comment ts)) g = item k.Comment refl (at_last (comment_spelled ts))
instance_item_spelled (instance_items.Note (noted.User u)) g = item k.UserData refl (at_last (user_spelled u g))

pub instance_spelled : (i : Instance) → IsInstance i
    → Spelled instance (tokens (form.name_form i.name) ++ (tokens (form.view_ref_form i) ++ line_tokens (all form.instance_item_block i.items))) i
unfolding instance instance_rest
instance_spelled i g =
    then (name_spelled i.name) (then (view_ref_spelled i) (at_last (block_items instance_keywords instance_item form.instance_item_block IsInstanceItem instance_item_spelled i.items g.items)))

-- ---- nets

member_spelled : (w : List ℕ) (o : Option ℤ) → Spelled port_or_member (tokens (form.member_form w o)) (w, o)
unfolding port_or_member member whole_port has
member_spelled w None = other_here _ _ _ (at_last (a_word w))
member_spelled w (Some n) = form_here _ _ _ k.Member refl (after (a_word w) (after (an_integer n) (closes _)))

instance_ref_spelled : (o : Option (List ℕ)) → Spelled maybe_instance (part_tokens (form.instance_ref_forms o)) o
unfolding maybe_instance instance_named no_instance has
instance_ref_spelled None = other_here _ _ _ (closes _)
instance_ref_spelled (Some w) = form_here _ _ _ k.InstanceRef refl (after (a_word w) (after a_close (closes _)))

port_ref_spelled : (p : PortRef) → IsPortRef p → IsItem joined_keywords (λ _. port_ref) (block_tokens (form.port_ref_block p)) p
unfolding port_ref has
port_ref_spelled p g = item k.PortRef refl (then (member_spelled p.port p.member) (at_last (instance_ref_spelled p.instance)))

joined_spelled : (rs : List PortRef) → AllByRecursion IsPortRef rs → Spelled joined (t.LeftParen ∷ t.Word (spelling k.Joined) ∷ line_tokens (all form.port_ref_block rs)) rs
unfolding joined joined_rest has
joined_spelled rs g = begins _ k.Joined refl (block_items joined_keywords (λ _. port_ref) form.port_ref_block IsPortRef port_ref_spelled rs g)

net_item_spelled : (i : NetItem) → IsNetItem i → IsItem net_keywords net_item (block_tokens (form.net_item_block i)) i
unfolding net_item has
net_item_spelled (net_items.Property p) g = item k.Property refl (at_last (property_spelled p g))
net_item_spelled (net_items.Note (noted.Comment ts)) g = item k.Comment refl (at_last (comment_spelled ts))
net_item_spelled (net_items.Note (noted.User u)) g = item k.UserData refl (at_last (user_spelled u g))

pub net_spelled : (n : Net) → IsNet n
    → Spelled net (tokens (form.name_form n.name) ++ ((t.LeftParen ∷ t.Word (spelling k.Joined) ∷ line_tokens (all form.port_ref_block n.joined)) ++ line_tokens (all form.net_item_block n.items))) n
unfolding net net_rest
net_spelled n g =
    then (name_spelled n.name) (then (joined_spelled n.joined g.joined) (at_last (block_items net_keywords net_item form.net_item_block IsNetItem net_item_spelled n.items g.items)))
