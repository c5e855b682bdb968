-- What is read of the nets that are written.
use Rattle.std.proofs.Common.{arith, lit<, ◌≡◌, ℕ, zero, suc, ◌+◌, ◌<◌, ◌≤◌, ◌^◌, add-one, Bool, false, cond, List, [], ◌∷◌, ◌++◌, Option, Some, None, append-nil, get_or, length, length-append, map, ℤ, pos, negsuc, refl, sym, ap, ◌∙◌, subst}
use Rattle.std.specs.Borrow.{Bor}
use Rattle.std.specs.Prelude.{nat_abs, slice_get}
use Rattle.std.specs.Fmt.{signed_decimal}
use Rattle.std.specs.Int.Signed.{mag}
use Rattle.std.specs.List.{AllByRecursion, filter_map}
use Rattle.std.proofs.lemmas.Bool.{le-ltb, lt-ltb}
use Rattle.std.proofs.lemmas.Fmt.{IsAscii-signed, length_signed_le}
use Rattle.std.proofs.lemmas.List.Concat.{flat_map-cons}
use Rattle.std.proofs.lemmas.Option.{slice_get_past}
use Rattle.nl_base.specs.Ranges.{Bounds, index_at}
use Rattle.edif_values.specs.Proper.{AreBytes}
use Rattle.edif_values.specs.Values.{IsString, IsProperty, IsNetItem}
use Rattle.edif_values.specs.declared.name.NameDef.{NameDef}
use Rattle.edif_values.specs.declared.property.Property.{Property}
use Rattle.edif_values.specs.declared.net.NetItem.TheVariants as net_items
use Rattle.edif_design.specs.Design.{net_property, property_value}
use Rattle.edif_written.specs.Naming.{name_for, seen, value_of}
use Rattle.edif_written.specs.Sound.{AreSoundProps, IsShort, IsSoundProp}
use Rattle.edif_naming.proofs.NamingLaws.{original_name_for}
use Rattle.edif_naming.proofs.SoundLaws.{ascii_bytes}
use Rattle.edif_written.proofs.Lists.{all_append, all_at}
use Rattle.net_bits.specs.Classes.{ClassTable, members_of}
use Rattle.net_hier.specs.Cells.{width_of}
use Rattle.net_hier.specs.declared.cells.HNet.{HNet}
use Rattle.net_hier.specs.declared.cells.HPort.{HPort}
use Rattle.net_hier.specs.declared.cells.HProp.{HProp}
use Rattle.net_hier.specs.declared.nodes.Node.{Node}
use Rattle.net_hier.specs.declared.nodes.Node.TheVariants as nodes
use Rattle.net_live.specs.Last.{last_of}
use Rattle.net_live.specs.Live.{bit_word, class_props, first_net, index_word, is_live, props_of_net, props_of_node}
use Rattle.edif_plans.specs.Made.{live_below}
use Rattle.edif_plans.specs.NetNames.{HasNoSpareText, first_port_bit, name_by, name_of_bit, name_of_class, name_of_net, plain_name}
use Rattle.edif_plans.specs.Sound.{IsSoundNet, IsSoundPort}
use Rattle.edif_plans.proofs.Lists.{is_at}
use Rattle.edif_naming.proofs.LastLaws.{seen_sound}
use Rattle.edif_making.specs.Nets.{HasFewDigits}

-- ---- live classes

pub live_none : (nets : List HNet) (classes : ClassTable) → live_below nets classes 0 ≡ []
unfolding live_below
live_none nets classes = refl

pub live_more : (nets : List HNet) (classes : ClassTable) (n : ℕ) → live_below nets classes (n + 1) ≡ live_below nets classes n ++ cond (is_live nets (members_of classes n)) (n ∷ []) []
unfolding live_below
live_more nets classes n = ap (live_below nets classes) (add-one n)

-- a class that is not live adds nothing, one that is live is added
pub class_skipped : (live : Bool) (class : ℕ) (classes : List ℕ) → live ≡ false → classes ≡ classes ++ cond live (class ∷ []) []
class_skipped live class classes is = sym (append-nil classes) ∙ ap (λ b. classes ++ cond b (class ∷ []) []) (sym is)

-- ---- names

mag_small : (z : ℤ) → nat_abs z ≤ 2 ^ 31 → mag z < 2 ^ 63
mag_small (pos n) small = omega (arith, small)
mag_small (negsuc n) small = omega (arith, small)

few_digits : (z : ℤ) → nat_abs z ≤ 2 ^ 31 → mag z + 1 < 10 ^ 10
few_digits (pos n) small = omega (arith, small)
few_digits (negsuc n) small = omega (arith, small)

word_bytes : (range : Option Bounds) (bit : ℕ) → HasFewDigits range bit → AreBytes (index_word range bit)
word_bytes None bit small = tt
word_bytes (Some range) bit small = (lit< tt, all_append (λ b. b < 256) (signed_decimal (index_at range bit)) (93 ∷ []) (ascii_bytes (signed_decimal (index_at range bit)) (IsAscii-signed (index_at range bit) (mag_small (index_at range bit) small))) (lit< tt, tt))

word_short : (range : Option Bounds) (bit : ℕ) → HasFewDigits range bit → length (index_word range bit) ≤ 13
word_short None bit small = omega arith
word_short (Some range) bit small =
    let digits : length (signed_decimal (index_at range bit)) ≤ 10 + 1 = length_signed_le 10 (index_at range bit) (few_digits (index_at range bit) small) (mag_small (index_at range bit) small) in
    let whole = length-append (signed_decimal (index_at range bit)) (93 ∷ []) in
    omega (arith, digits, whole)

-- the name of a bit that a port has, and of one that it has not
pub bit_there : (port : HPort) (bit : ℕ) → bit < width_of port.range → name_of_bit (Some port) bit ≡ bit_word port bit
unfolding name_of_bit
bit_there port bit inside = ap (λ b. cond b (bit_word port bit) plain_name) (lt-ltb bit (width_of port.range) inside)

pub bit_past : (port : HPort) (bit : ℕ) → width_of port.range ≤ bit → name_of_bit (Some port) bit ≡ plain_name
unfolding name_of_bit
bit_past port bit past = ap (λ b. cond b (bit_word port bit) plain_name) (le-ltb bit (width_of port.range) past)

-- those of a bit of a port that is there, and of one that is not
pub port_there : (ports : List HPort) (i : ℕ) (x : HPort) (bit : ℕ) → i < length ports → x ≡ get_or ports i x → name_of_bit (slice_get ports i) bit ≡ name_of_bit (Some x) bit
port_there ports i x bit inside is = ap (λ o. name_of_bit o bit) (is_at ports i x x inside is)

pub port_past : (ports : List HPort) (i bit : ℕ) → length ports ≤ i → name_of_bit (slice_get ports i) bit ≡ plain_name
unfolding name_of_bit
port_past ports i bit past = ap (λ o. name_of_bit o bit) (slice_get_past ports i past)

-- and those of a net
pub net_there : (nets : List HNet) (i : ℕ) (x : HNet) → i < length nets → x ≡ get_or nets i x → name_of_net (slice_get nets i) ≡ x.name
unfolding name_of_net
net_there nets i x inside is = ap name_of_net (is_at nets i x x inside is)

pub net_past : (nets : List HNet) (i : ℕ) → length nets ≤ i → name_of_net (slice_get nets i) ≡ plain_name
unfolding name_of_net
net_past nets i past = ap name_of_net (slice_get_past nets i past)

-- the name of a class with a net, of one with a port bit alone, and of another one
pub name_by_net : (nets : List HNet) (ports : List HPort) (nodes : List Node) (net : ℕ) → Some net ≡ first_net nodes → name_of_class nets ports nodes ≡ name_of_net (slice_get nets net)
unfolding name_by
name_by_net nets ports nodes net is = ap (λ f. name_by nets ports f (first_port_bit nodes)) (sym is)

pub name_by_port : (nets : List HNet) (ports : List HPort) (nodes : List Node) (port bit : ℕ) → None ≡ first_net nodes → Some (port, bit) ≡ first_port_bit nodes → name_of_class nets ports nodes ≡ name_of_bit (slice_get ports port) bit
unfolding name_by
name_by_port nets ports nodes port bit none is = (λ j. name_by nets ports (sym none j) (sym is j))

pub name_by_none : (nets : List HNet) (ports : List HPort) (nodes : List Node) → None ≡ first_net nodes → None ≡ first_port_bit nodes → name_of_class nets ports nodes ≡ plain_name
unfolding name_by
name_by_none nets ports nodes none nowhere = (λ j. name_by nets ports (sym none j) (sym nowhere j))

-- a name that is made of an identifier and a name has no spare text
pub no_spare_text : (made : NameDef) (ident name : List ℕ) → made ≡ name_for ident name → HasNoSpareText made
no_spare_text made ident name is = subst HasNoSpareText (sym is) (ap (name_for ident) (sym (original_name_for ident name)))

pub word_string : (port : HPort) (bit : ℕ) (word : List ℕ) → word ≡ bit_word port bit → HasFewDigits port.range bit → IsShort port.name → IsString word
word_string port bit word is small h =
    let short = word_short port.range bit small in
    let whole = length-append port.name (index_word port.range bit) in
    subst IsString (sym is) (all_append (λ b. b < 256) port.name (index_word port.range bit) h.bytes (word_bytes port.range bit small), omega (arith, h.short, short, whole))

pub port_sound : (ports : List HPort) (i : ℕ) (x : HPort) → AllByRecursion IsSoundPort ports → i < length ports → x ≡ get_or ports i x → IsShort x.name
port_sound ports i x all inside is = (all_at IsSoundPort ports i x x all inside is).name

pub name_sound : (nets : List HNet) (i : ℕ) (x : HNet) → AllByRecursion IsSoundNet nets → i < length nets → x ≡ get_or nets i x → IsShort x.name
name_sound nets i x all inside is = (all_at IsSoundNet nets i x x all inside is).name

-- ---- properties

pub props_read : (ps : List Property) → filter_map net_property (map net_items.Property ps) ≡ map property_value ps
props_read [] = refl
props_read (p ∷ ps) = ap (λ l. property_value p ∷ l) (props_read ps)

pub items_sound : (ps : List Property) → AllByRecursion IsProperty ps → AllByRecursion IsNetItem (map net_items.Property ps)
items_sound [] all = tt
items_sound (p ∷ ps) all = (all.0, items_sound ps all.1)

net_sound : (nets : List HNet) (net : ℕ) → AllByRecursion IsSoundNet nets → AreSoundProps (props_of_net (slice_get nets net))
net_sound [] net all = tt
net_sound (one ∷ nets) zero all = all.0.props
net_sound (one ∷ nets) (suc net) all = net_sound nets net all.1

node_sound : (nets : List HNet) (node : Node) → AllByRecursion IsSoundNet nets → AreSoundProps (props_of_node nets node)
node_sound nets (nodes.Port port bit) all = tt
node_sound nets (nodes.Pin instance port bit) all = tt
node_sound nets (nodes.Net net) all = net_sound nets net all
node_sound nets nodes.Zero all = tt
node_sound nets nodes.One all = tt

class_sound : (nets : List HNet) (members : List Node) → AllByRecursion IsSoundNet nets → AreSoundProps (class_props nets members)
class_sound nets [] all = tt
class_sound nets (node ∷ members) all = subst AreSoundProps (sym (flat_map-cons (props_of_node nets) node members)) (all_append IsSoundProp (props_of_node nets node) (class_props nets members) (node_sound nets node all) (class_sound nets members all))

pub kept_class_sound : (nets : List HNet) (members : List Node) (kept : List (Bor HProp)) → seen kept ≡ last_of (class_props nets members) → AllByRecursion IsSoundNet nets → AreSoundProps (seen kept)
kept_class_sound nets members kept are all = seen_sound (class_props nets members) kept are (class_sound nets members all)

-- no property, of which there is no last one
pub none_kept : (made : List Property) (props : List (Bor HProp)) (all : List HProp) → made ≡ [] → length props ≡ 0 → seen props ≡ all → map value_of made ≡ last_of all
unfolding last_of
none_kept made [] all is none shown = ap (map value_of) is ∙ ap last_of shown
none_kept made (prop ∷ props) all is none shown = absurd (omega (arith, none))

pub none_sound : (made : List Property) → made ≡ [] → AllByRecursion IsProperty made
none_sound made is = subst (AllByRecursion IsProperty) (sym is) tt
