-- What ports, instances and nets spell from the tokens of a text are values that can be written.
use Rattle.std.proofs.Common.{◌≡◌, ◌∙◌, refl, sym, subst, ◌&&◌, Bool, true, false, cond, List, [], ◌∷◌, ◌++◌, append-nil, Some, None, IfSome, Result, Ok, Err, IfOk, arith}
use Rattle.std.specs.List.{AllByRecursion, cons_option}
use Rattle.std.proofs.lemmas.List.Elements.{filter_map-append}
use Rattle.nl_base.specs.declared.value.Dir.{Dir}
use Rattle.nl_base.specs.declared.fault.ReadError.{ReadError}
use Rattle.nl_bytes.proofs.Uses.{AllByRecursion-push}
use Rattle.edif_values.specs.declared.keyword.Keyword.{Keyword}
use Rattle.edif_values.specs.declared.keyword.Keyword.TheVariants as k
use Rattle.edif_values.specs.Keywords.{has, same_keyword}
use Rattle.edif_values.specs.Values.{IsWord, IsInteger, IsString, IsPortItem, ArePortItems, IsPort, IsInstanceItem, IsInstance, IsPortRef, IsNetItem, IsNet}
use Rattle.edif_keywords.specs.Language.{Edif}
use Rattle.edif_keywords.specs.Grammar.{closing, choice, begin}
use Rattle.edif_values.proofs.Same.{spelled_alike}
use Rattle.edif_keywords.proofs.Kept.{Kept, kept_gives, kept_then, kept_after, kept_cond, kept_weaker, kept_word, kept_string, kept_integer, kept_form_or, kept_items, kept_all}
use Rattle.edif_names.proofs.Kept.{kept_name, kept_port_name, kept_property}
use Rattle.edif_status.proofs.Kept.{kept_note}
use Rattle.edif_values.specs.declared.port.PortItem.{PortItem}
use Rattle.edif_values.specs.declared.port.PortItem.TheVariants as port_items
use Rattle.edif_values.specs.declared.instance.InstanceItem.{InstanceItem}
use Rattle.edif_values.specs.declared.net.PortRef.{PortRef}
use Rattle.edif_values.specs.declared.net.NetItem.{NetItem}
use Rattle.edif_values.specs.Directions.{told, directions}
use Rattle.edif_nets.specs.Grammar.{designator, direction_words, direction, port_item, is_direction, has_direction, port_keywords, port_rest, port, library_named, no_library, maybe_library, cell_ref, view_ref, instance_item, instance_keywords, instance_rest, instance, member, whole_port, port_or_member, instance_named, no_instance, maybe_instance, port_ref, joined_keywords, joined_rest, joined, net_item, net_keywords, net_rest, net}

-- ---- ports

pub kept_designator : Kept designator IsString
unfolding designator
kept_designator = kept_then kept_string (λ s is_string. kept_after closing (λ _. kept_gives s is_string))

-- where no item is a direction, none is told
none_told : (is : List PortItem) → has_direction is ≡ false → directions is ≡ []
unfolding has_direction is_direction told
none_told [] h = refl
none_told (port_items.Direction d ∷ is) h = absurd cc
none_told (port_items.Property p ∷ is) h = none_told is h
none_told (port_items.Designator s ∷ is) h = none_told is h
none_told (port_items.Note n ∷ is) h = none_told is h

-- the directions of some items and one more
told_more : (is : List PortItem) (i : PortItem) → directions (is ++ i ∷ []) ≡ directions is ++ cons_option (told i) []
told_more is i = filter_map-append told is (i ∷ [])

-- a first direction
add_direction : (is : List PortItem) (d : Dir) → ArePortItems is → has_direction is ≡ false → ArePortItems (is ++ port_items.Direction d ∷ [])
unfolding told
add_direction is d all none = (AllByRecursion-push IsPortItem is (port_items.Direction d) all.0 tt, rw (told_more is (port_items.Direction d), none_told is none) (omega arith))

-- an item that is no direction
abbrev IsOther : PortItem → Type 0
IsOther i = IsPortItem i × (told i ≡ None)

add_other : (is : List PortItem) (i : PortItem) → ArePortItems is → IsOther i → ArePortItems (is ++ i ∷ [])
add_other is i all other = (AllByRecursion-push IsPortItem is i all.0 other.0, rw (told_more is i, other.1, append-nil (directions is)) all.1)

-- where a direction may stand, there is none before
first_direction : (b : Bool) (q : Keyword) → has (port_keywords b) q ≡ true → same_keyword q k.Direction ≡ true → b ≡ false
unfolding has port_keywords
first_direction false q h e = refl
first_direction true q h e = let f : has (port_keywords true) k.Direction ≡ true = subst (λ r. has (port_keywords true) r ≡ true) (spelled_alike q k.Direction e) h in absurd cc

-- an item that may stand in a port is no direction where there is one before
pub one_direction : (b : Bool) (q : Keyword) (i : PortItem) → has (port_keywords b) q ≡ true → is_direction i ≡ same_keyword q k.Direction → (b && is_direction i) ≡ false
one_direction false q i h e = refl
one_direction true q i h e = e ∙ by (same_keyword q k.Direction) refl
  where
    by : (t : Bool) → same_keyword q k.Direction ≡ t → same_keyword q k.Direction ≡ false
    by true f = f ∙ first_direction true q h f
    by false f = f

-- the same of what is read
pub one_direction_read : (b : Bool) (q : Keyword) (r : Result PortItem ReadError) → has (port_keywords b) q ≡ true → IfOk r (λ i. is_direction i ≡ same_keyword q k.Direction) → IfOk r (λ i. (b && is_direction i) ≡ false)
one_direction_read b q (Ok i) h e = one_direction b q i h e
one_direction_read b q (Err e) h f = tt

-- items of a port and one more, which is no direction where there is one before
pub port_items_more : (is : List PortItem) (i : PortItem) (b : Bool) → ArePortItems is → IsPortItem i → b ≡ has_direction is → (b && is_direction i) ≡ false → ArePortItems (is ++ i ∷ [])
unfolding is_direction told
port_items_more is (port_items.Direction d) b all ok e one = add_direction is d all (sym e ∙ no_other b one)
  where
    no_other : (b : Bool) → (b && true) ≡ false → b ≡ false
    no_other true h = h
    no_other false h = refl
port_items_more is (port_items.Property p) b all ok e one = add_other is (port_items.Property p) all (ok, refl)
port_items_more is (port_items.Designator s) b all ok e one = add_other is (port_items.Designator s) all (ok, refl)
port_items_more is (port_items.Note n) b all ok e one = add_other is (port_items.Note n) all (ok, refl)

-- one part or the other, as a test of the item says
pub kept_by : {I : Type 0} (Good : I → Type 0) (test : I → Bool) (b : Bool) (p q : Edif I) → Kept p (λ i. Good i × (test i ≡ true)) → Kept q (λ i. Good i × (test i ≡ false)) → Kept (cond b p q) (λ i. Good i × (test i ≡ b))
kept_by Good test true p q one other = one
kept_by Good test false p q one other = other

kept_direction : Kept direction (λ i. IsPortItem i × (is_direction i ≡ true))
unfolding direction is_direction
kept_direction = kept_after (choice direction_words) (λ d. kept_after closing (λ _. kept_gives (port_items.Direction d) (tt, refl)))

kept_port_item : (is : List PortItem) → ArePortItems is → (q : Keyword) → has (port_keywords (has_direction is)) q ≡ true → Kept (port_item q) (λ i. ArePortItems (is ++ i ∷ []))
unfolding port_item is_direction
kept_port_item is all q may_stand =
    kept_weaker
    (kept_by IsPortItem is_direction (same_keyword q k.Direction) _ _ kept_direction
    (kept_cond (same_keyword q k.Property) _ _ (kept_then kept_property (λ p is_property. kept_gives (port_items.Property p) (is_property, refl)))
    (kept_cond (same_keyword q k.Designator) _ _ (kept_then kept_designator (λ s is_string. kept_gives (port_items.Designator s) (is_string, refl)))
    (kept_then (kept_note q) (λ n is_note. kept_gives (port_items.Note n) (is_note, refl))))))
    (λ i known. port_items_more is i (has_direction is) all known.0 refl (one_direction (has_direction is) q i may_stand known.1))

kept_port_rest : (so_far : List PortItem) → ArePortItems so_far → Kept (port_rest so_far) ArePortItems
unfolding port_rest
kept_port_rest so_far all = kept_items ArePortItems (λ is. port_keywords (has_direction is)) port_item kept_port_item so_far all

pub kept_port : Kept port IsPort
unfolding port
kept_port = kept_then kept_port_name (λ n is_name. kept_then (kept_port_rest [] (tt, omega arith)) (λ is are_items. kept_gives _ (record { name = is_name; items = are_items })))

-- ---- instances

kept_library_named : Kept library_named (λ l. IfSome l IsWord)
unfolding library_named
kept_library_named = kept_then kept_word (λ w is_word. kept_after closing (λ _. kept_after closing (λ _. kept_gives (Some w) is_word)))

kept_no_library : Kept no_library (λ l. IfSome l IsWord)
unfolding no_library
kept_no_library = kept_after closing (λ _. kept_gives None tt)

kept_maybe_library : Kept maybe_library (λ l. IfSome l IsWord)
unfolding maybe_library
kept_maybe_library = kept_form_or (k.LibraryRef ∷ []) (λ _ _. kept_library_named) kept_no_library

kept_cell_ref : Kept cell_ref (λ c. IsWord c.0 × IfSome c.1 IsWord)
unfolding cell_ref
kept_cell_ref = kept_after (begin (k.CellRef ∷ [])) (λ _. kept_then kept_word (λ c is_cell. kept_then kept_maybe_library (λ l is_library. kept_gives (c, l) (is_cell, is_library))))

kept_view_ref : Kept view_ref (λ v. IsWord v.0 × IsWord v.1 × IfSome v.2 IsWord)
unfolding view_ref
kept_view_ref =
    kept_after (begin (k.ViewRef ∷ [])) (λ _. kept_then kept_word (λ v is_view. kept_then kept_cell_ref (λ c is_cell. kept_after closing (λ _. kept_gives (v, c.0, c.1) (is_view, is_cell.0, is_cell.1)))))

kept_instance_item : (q : Keyword) → Kept (instance_item q) IsInstanceItem
unfolding instance_item
kept_instance_item q =
    kept_cond (same_keyword q k.Property) _ _ (kept_then kept_property (λ p is_property. kept_gives _ is_property))
    (kept_cond (same_keyword q k.Designator) _ _ (kept_then kept_designator (λ s is_string. kept_gives _ is_string)) (kept_then (kept_note q) (λ n is_note. kept_gives _ is_note)))

kept_instance_rest : (so_far : List InstanceItem) → AllByRecursion IsInstanceItem so_far → Kept (instance_rest so_far) (λ is. AllByRecursion IsInstanceItem is)
unfolding instance_rest
kept_instance_rest so_far all = kept_all IsInstanceItem (λ _. instance_keywords) instance_item (λ _ q _. kept_instance_item q) so_far all

pub kept_instance : Kept instance IsInstance
unfolding instance
kept_instance =
    kept_then kept_name (λ n is_name. kept_then kept_view_ref (λ v is_view. kept_then (kept_instance_rest [] tt) (λ is are_items.
    kept_gives _ (record { name = is_name; view = is_view.0; cell = is_view.1; library = is_view.2; items = are_items }))))

-- ---- nets

kept_member : Kept member (λ p. IsWord p.0 × IfSome p.1 IsInteger)
unfolding member
kept_member = kept_then kept_word (λ w is_word. kept_then kept_integer (λ n is_integer. kept_after closing (λ _. kept_gives (w, Some n) (is_word, is_integer))))

kept_whole_port : Kept whole_port (λ p. IsWord p.0 × IfSome p.1 IsInteger)
unfolding whole_port
kept_whole_port = kept_then kept_word (λ w is_word. kept_gives (w, None) (is_word, tt))

kept_port_or_member : Kept port_or_member (λ p. IsWord p.0 × IfSome p.1 IsInteger)
unfolding port_or_member
kept_port_or_member = kept_form_or (k.Member ∷ []) (λ _ _. kept_member) kept_whole_port

kept_instance_named : Kept instance_named (λ l. IfSome l IsWord)
unfolding instance_named
kept_instance_named = kept_then kept_word (λ w is_word. kept_after closing (λ _. kept_after closing (λ _. kept_gives (Some w) is_word)))

kept_no_instance : Kept no_instance (λ l. IfSome l IsWord)
unfolding no_instance
kept_no_instance = kept_after closing (λ _. kept_gives None tt)

kept_maybe_instance : Kept maybe_instance (λ l. IfSome l IsWord)
unfolding maybe_instance
kept_maybe_instance = kept_form_or (k.InstanceRef ∷ []) (λ _ _. kept_instance_named) kept_no_instance

kept_port_ref : Kept port_ref IsPortRef
unfolding port_ref
kept_port_ref =
    kept_then kept_port_or_member (λ p is_port. kept_then kept_maybe_instance (λ u is_instance. kept_gives _ (record { port = is_port.0; member = is_port.1; instance = is_instance })))

kept_joined_rest : (so_far : List PortRef) → AllByRecursion IsPortRef so_far → Kept (joined_rest so_far) (λ rs. AllByRecursion IsPortRef rs)
unfolding joined_rest
kept_joined_rest so_far all = kept_all IsPortRef (λ _. joined_keywords) (λ _. port_ref) (λ _ _ _. kept_port_ref) so_far all

kept_joined : Kept joined (λ rs. AllByRecursion IsPortRef rs)
unfolding joined
kept_joined = kept_after (begin (k.Joined ∷ [])) (λ _. kept_joined_rest [] tt)

kept_net_item : (q : Keyword) → Kept (net_item q) IsNetItem
unfolding net_item
kept_net_item q = kept_cond (same_keyword q k.Property) _ _ (kept_then kept_property (λ p is_property. kept_gives _ is_property)) (kept_then (kept_note q) (λ n is_note. kept_gives _ is_note))

kept_net_rest : (so_far : List NetItem) → AllByRecursion IsNetItem so_far → Kept (net_rest so_far) (λ is. AllByRecursion IsNetItem is)
unfolding net_rest
kept_net_rest so_far all = kept_all IsNetItem (λ _. net_keywords) net_item (λ _ q _. kept_net_item q) so_far all

pub kept_net : Kept net IsNet
unfolding net
kept_net = kept_then kept_name (λ n is_name. kept_then kept_joined (λ j are_joined. kept_then (kept_net_rest [] tt) (λ is are_items. kept_gives _ (record { name = is_name; joined = are_joined; items = are_items }))))
