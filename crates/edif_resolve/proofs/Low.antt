-- The refusals of the rules up to E12 are none of a higher rule.
use Rattle.std.proofs.Common.{◌≡◌, ℕ, ◌≤◌, Bool, true, false, cond, List, [], ◌∷◌, ◌++◌, map, Option, Some, None, refl, sym, ap, ◌∙◌, subst, arith, slice_get}
use Rattle.std.specs.Prelude.{ℤ, codes, is_none, not, nat_lt, ◌+◌, length}
use Rattle.std.specs.Fmt.{signed_decimal}
use Rattle.std.specs.List.{AllByRecursion, filter_map, flat_map, list_any}
use Rattle.std.proofs.lemmas.Bool.{false≢true}
use Rattle.std.proofs.lemmas.Bool.Decides.{nat_tests}
use Rattle.nl_base.specs.Rules.{rule_number}
use Rattle.nl_base.specs.declared.rule.Refusal.{Refusal}
use Rattle.nl_base.specs.declared.rule.Rule.{Rule}
use Rattle.nl_base.specs.declared.rule.Rule.TheVariants.{E2, E3, E4, E5, E7, E8, E9, E10, E11, E12}
use Rattle.net_hier.specs.declared.nodes.Node.{Node}
use Rattle.edif_lookup.specs.Refusals.{broken, broken_reference, each_after, if_some, in_order, is_in, lower, lowest}
use Rattle.edif_lookup.proofs.FirstLaws.{first-lowest}
use Rattle.edif_lookup.proofs.Orders.{lowest-append}
use Rattle.edif_values.specs.declared.instance.Instance.{Instance}
use Rattle.edif_values.specs.declared.net.Net.{Net}
use Rattle.edif_values.specs.declared.net.PortRef.{PortRef}
use Rattle.edif_values.specs.declared.port.Port.{Port}
use Rattle.edif_values.specs.declared.cell.Cell.{Cell}
use Rattle.edif_values.specs.declared.file.Design.{Design}
use Rattle.edif_values.specs.declared.file.EdifFile.{EdifFile}
use Rattle.edif_values.specs.declared.file.FileItem.{FileItem}
use Rattle.edif_values.specs.declared.file.FileItem.TheVariants as file_items
use Rattle.edif_values.specs.declared.view.ContentsItem.{ContentsItem}
use Rattle.edif_values.specs.declared.view.ContentsItem.TheVariants as contents_items
use Rattle.edif_design.specs.CellRules.{Owner, bit_of, bits_of_nets, index_names, inner_cell, instance_candidates, is_bad_size, is_no_member, is_wide, means_view, node_of, owner_names, owner_of, port_candidates, port_ident, port_name, same_node, size_of, bit_refusals, cell_refusals, contents_refusals, instance_ref_refusals, instance_refusals, link_refusals, member_refusals, net_refusals, port_ref_refusals, port_refusals, ref_refusals, view_refusals}
use Rattle.edif_design.specs.Design.{edif_cells}
use Rattle.edif_design.specs.FileRules.{cells_before, design_count_refusals, file_item_refusals, first_E, library_cell_refusals, reached_refusals, recursion_refusals, refusals, second_cell, second_library}
use Rattle.edif_design.specs.Parts.{cell_contents, cells_in, designs, instance_in, libraries_in, net_in, ports, views}
use Rattle.edif_design.specs.Reach.{is_reached}
use Rattle.edif_design.specs.References.{CellPlace, LinkedCell, cell_candidates, library_candidates, library_meant, linked_cell, place_in, top_meant}
use Rattle.edif_values.specs.Names.{original, port_original}
use Rattle.edif_lookup.specs.Candidates.{the_only}
use Rattle.edif_resolve.proofs.Recursion.{recursion_rule, same_rule_lowest, all_get}

-- none of the refusals is of a rule above E13
abbrev AreLow : List Refusal → Type 0
AreLow = AllByRecursion (λ refusal. rule_number refusal.rule ≤ 12)

low_both : (xs ys : List Refusal) → AreLow xs → AreLow ys → AreLow (xs ++ ys)
low_both [] ys h g = g
low_both (x ∷ xs) ys h g = (h.0, low_both xs ys h.1 g)

low_broken : (b : Bool) (rule : Rule) (cell : List ℕ) (names : List (List ℕ)) → rule_number rule ≤ 12 → AreLow (broken b rule cell names)
low_broken true rule cell names h = (h, tt)
low_broken false rule cell names h = tt

low_reference : {X : Type 0} (xs : List X) (rule : Rule) (cell : List ℕ) (names : List (List ℕ)) (spelling : List ℕ) → rule_number rule ≤ 12 → AreLow (broken_reference xs rule cell names spelling)
low_reference [] rule cell names spelling h = (h, tt)
low_reference (one ∷ []) rule cell names spelling h = tt
low_reference (one ∷ (two ∷ rest)) rule cell names spelling h = ((omega arith), tt)

low_if : {X : Type 0} (o : Option X) (f : X → List Refusal) → ((x : X) → AreLow (f x)) → AreLow (if_some o f)
low_if None f h = tt
low_if (Some x) f h = h x

low_each : {A : Type 0} (f : List A → A → List Refusal) (before items : List A) → ((earlier : List A) (x : A) → AreLow (f earlier x)) → AreLow (each_after f before items)
low_each f before [] h = tt
low_each f before (x ∷ rest) h = low_both (f before x) (each_after f (before ++ x ∷ []) rest) (h before x) (low_each f (before ++ x ∷ []) rest h)

low_flat : {A : Type 0} (f : A → List Refusal) (xs : List A) → ((x : A) → AreLow (f x)) → AreLow (flat_map f xs)
low_flat f [] h = tt
low_flat f (x ∷ xs) h = low_both (f x) (flat_map f xs) (h x) (low_flat f xs h)

low_port : (cell : List ℕ) (earlier : List Port) (port : Port) → AreLow (port_refusals cell earlier port)
low_port cell earlier port = low_both ((broken (is_in (port_ident port) (map port_ident earlier)) E5 (cell) (codes "port" ∷ (port_ident port ∷ []))) ++ (broken (is_bad_size (size_of port.name)) E12 (cell) (codes "size" ∷ (port_name port ∷ [])))) (broken (is_in (port_name port) (map port_name earlier)) E12 (cell) (codes "port" ∷ (port_name port ∷ []))) (low_both (broken (is_in (port_ident port) (map port_ident earlier)) E5 (cell) (codes "port" ∷ (port_ident port ∷ []))) (broken (is_bad_size (size_of port.name)) E12 (cell) (codes "size" ∷ (port_name port ∷ []))) (low_broken (is_in (port_ident port) (map port_ident earlier)) E5 (cell) (codes "port" ∷ (port_ident port ∷ [])) (omega arith)) (low_broken (is_bad_size (size_of port.name)) E12 (cell) (codes "size" ∷ (port_name port ∷ [])) (omega arith))) (low_broken (is_in (port_name port) (map port_name earlier)) E12 (cell) (codes "port" ∷ (port_name port ∷ [])) (omega arith))

low_link : (file : EdifFile) (home : ℕ) (cell : List ℕ) (library : Option (List ℕ)) (spelling : List ℕ) → AreLow (link_refusals file home cell library spelling)
low_link file home cell library spelling = low_both (if_some (library) (λ name. broken_reference (library_candidates file name) E2 (cell) (name ∷ []) (name))) (if_some (library_meant file home library) (λ number. broken_reference (cell_candidates file number spelling) E3 (cell) (spelling ∷ []) (spelling))) (low_if (library) (λ name. broken_reference (library_candidates file name) E2 (cell) (name ∷ []) (name)) (λ name. low_reference (library_candidates file name) E2 (cell) (name ∷ []) (name) (omega arith))) (low_if (library_meant file home library) (λ number. broken_reference (cell_candidates file number spelling) E3 (cell) (spelling ∷ []) (spelling)) (λ number. low_reference (cell_candidates file number spelling) E3 (cell) (spelling ∷ []) (spelling) (omega arith)))

low_view : (cell view : List ℕ) (meant : Option Cell) → AreLow (view_refusals cell view meant)
low_view cell view meant = low_if (meant) (λ below. broken (not (means_view below view)) E4 (cell) (view ∷ [])) (λ below. low_broken (not (means_view below view)) E4 (cell) (view ∷ []) (omega arith))

low_instance : (file : EdifFile) (home : ℕ) (cell : List ℕ) (earlier : List Instance) (instance : Instance) → AreLow (instance_refusals file home cell earlier instance)
low_instance file home cell earlier instance = low_both (((broken (is_in instance.name.ident (map (λ other. other.name.ident) earlier)) E5 (cell) (codes "instance" ∷ (instance.name.ident ∷ []))) ++ (link_refusals file home cell instance.library instance.cell)) ++ (view_refusals cell instance.view (inner_cell file home instance))) (broken (is_in (original instance.name) (map (λ other. original other.name) earlier)) E12 (cell) (codes "instance" ∷ (original instance.name ∷ []))) (low_both ((broken (is_in instance.name.ident (map (λ other. other.name.ident) earlier)) E5 (cell) (codes "instance" ∷ (instance.name.ident ∷ []))) ++ (link_refusals file home cell instance.library instance.cell)) (view_refusals cell instance.view (inner_cell file home instance)) (low_both (broken (is_in instance.name.ident (map (λ other. other.name.ident) earlier)) E5 (cell) (codes "instance" ∷ (instance.name.ident ∷ []))) (link_refusals file home cell instance.library instance.cell) (low_broken (is_in instance.name.ident (map (λ other. other.name.ident) earlier)) E5 (cell) (codes "instance" ∷ (instance.name.ident ∷ [])) (omega arith)) (low_link file home cell instance.library instance.cell)) (low_view cell instance.view (inner_cell file home instance))) (low_broken (is_in (original instance.name) (map (λ other. original other.name) earlier)) E12 (cell) (codes "instance" ∷ (original instance.name ∷ [])) (omega arith))

low_member : (cell : List ℕ) (names : List (List ℕ)) (size member : Option ℤ) → AreLow (member_refusals cell names size member)
low_member cell names size None = low_broken (is_wide size) E10 cell names (omega arith)
low_member cell names size (Some index) = low_broken (is_no_member size index) E9 cell (names ++ signed_decimal index ∷ []) (omega arith)

low_bit : (cell net : List ℕ) (bits : List Node) (owner : Owner) (port : ℕ × Port) (member : Option ℤ) → AreLow (bit_refusals cell net bits owner port member)
low_bit cell net bits owner port member = low_both (member_refusals cell (net ∷ (owner_names owner ++ (port_original port.1.name).0 ∷ [])) (size_of port.1.name) member) (if_some (bit_of (size_of port.1.name) member) (λ bit. broken (list_any (same_node (node_of owner port.0 bit)) bits) E11 (cell) ((net ∷ (owner_names owner ++ (port_original port.1.name).0 ∷ [])) ++ index_names (port_original port.1.name).1 bit))) (low_member cell (net ∷ (owner_names owner ++ (port_original port.1.name).0 ∷ [])) (size_of port.1.name) member) (low_if (bit_of (size_of port.1.name) member) (λ bit. broken (list_any (same_node (node_of owner port.0 bit)) bits) E11 (cell) ((net ∷ (owner_names owner ++ (port_original port.1.name).0 ∷ [])) ++ index_names (port_original port.1.name).1 bit)) (λ bit. low_broken (list_any (same_node (node_of owner port.0 bit)) bits) E11 (cell) ((net ∷ (owner_names owner ++ (port_original port.1.name).0 ∷ [])) ++ index_names (port_original port.1.name).1 bit) (omega arith)))

low_port_ref : (cell net : List ℕ) (bits : List Node) (ref : PortRef) (owner : Owner) → AreLow (port_ref_refusals cell net bits ref owner)
low_port_ref cell net bits ref owner = low_both (broken_reference (port_candidates owner.1 ref.port) E8 (cell) (net ∷ (owner_names owner ++ ref.port ∷ [])) (ref.port)) (if_some (the_only (port_candidates owner.1 ref.port)) (λ port. bit_refusals cell net bits owner port ref.member)) (low_reference (port_candidates owner.1 ref.port) E8 (cell) (net ∷ (owner_names owner ++ ref.port ∷ [])) (ref.port) (omega arith)) (low_if (the_only (port_candidates owner.1 ref.port)) (λ port. bit_refusals cell net bits owner port ref.member) (λ port. low_bit cell net bits owner port ref.member))

low_instance_ref : (cell : Cell) (net spelling : List ℕ) → AreLow (instance_ref_refusals cell net spelling)
low_instance_ref cell net spelling = low_reference (instance_candidates cell spelling) E7 (original cell.name) (net ∷ (spelling ∷ [])) (spelling) (omega arith)

low_ref : (linked : LinkedCell) (net : List ℕ) (bits : List Node) (ref : PortRef) → AreLow (ref_refusals linked net bits ref)
low_ref linked net bits ref =
    low_both (if_some ref.instance (instance_ref_refusals linked.cell net)) (if_some (owner_of linked ref.instance) (port_ref_refusals (original linked.cell.name) net bits ref))
    (low_if ref.instance (instance_ref_refusals linked.cell net) (low_instance_ref linked.cell net))
    (low_if (owner_of linked ref.instance) (port_ref_refusals (original linked.cell.name) net bits ref) (low_port_ref (original linked.cell.name) net bits ref))

low_net : (linked : LinkedCell) (earlier : List Net) (net : Net) → AreLow (net_refusals linked earlier net)
low_net linked earlier net = low_both (broken (is_in net.name.ident (map (λ other. other.name.ident) earlier)) E5 (original linked.cell.name) (codes "net" ∷ (net.name.ident ∷ []))) (flat_map (ref_refusals linked (original net.name) (bits_of_nets linked earlier)) net.joined) (low_broken (is_in net.name.ident (map (λ other. other.name.ident) earlier)) E5 (original linked.cell.name) (codes "net" ∷ (net.name.ident ∷ [])) (omega arith)) (low_flat (ref_refusals linked (original net.name) (bits_of_nets linked earlier)) net.joined (low_ref linked (original net.name) (bits_of_nets linked earlier)))

low_contents : (file : EdifFile) (place : CellPlace) (before : List ContentsItem) (item : ContentsItem) → AreLow (contents_refusals file place before item)
low_contents file place before (contents_items.Instance instance) = low_instance file place.library (original place.cell.name) (filter_map instance_in before) instance
low_contents file place before (contents_items.Net net) = low_net (linked_cell file place) (filter_map net_in before) net
low_contents file place before (contents_items.Note note) = tt

low_cell : (file : EdifFile) (place : CellPlace) → AreLow (cell_refusals file place)
unfolding cell_refusals
low_cell file place =
    low_both (in_order (port_refusals (original place.cell.name)) (ports place.cell)) (in_order (contents_refusals file place) (cell_contents place.cell))
    (low_each (port_refusals (original place.cell.name)) [] (ports place.cell) (low_port (original place.cell.name))) (low_each (contents_refusals file place) [] (cell_contents place.cell) (low_contents file place))

low_reached : (file : EdifFile) (b : Bool) (place : CellPlace) → AreLow (cond b (cell_refusals file place) [])
low_reached file true place = low_cell file place
low_reached file false place = tt

low_library : (file : EdifFile) (library first : ℕ) (before : List Cell) (cell : Cell) → AreLow (library_cell_refusals file library first before cell)
low_library file library first before cell =
    low_both (second_cell before cell) (reached_refusals file (first + length before) (place_in library cell))
    (low_broken (is_in cell.name.ident (map (λ other. other.name.ident) before)) E5 [] (codes "cell" ∷ (cell.name.ident ∷ [])) (omega arith)) (low_reached file (is_reached file (first + length before)) (place_in library cell))

low_item : (file : EdifFile) (before : List FileItem) (item : FileItem) → AreLow (file_item_refusals file before item)
low_item file before (file_items.Library library) =
    low_both (second_library (libraries_in before) library) (in_order (library_cell_refusals file (length (libraries_in before)) (cells_before before)) (cells_in library))
    (low_broken (is_in library.name.ident (map (λ other. other.name.ident) (libraries_in before))) E5 [] (codes "library" ∷ (library.name.ident ∷ [])) (omega arith))
    (low_each (library_cell_refusals file (length (libraries_in before)) (cells_before before)) [] (cells_in library) (low_library file (length (libraries_in before)) (cells_before before)))
low_item file before (file_items.Design design) =
    low_both (link_refusals file 0 [] (Some design.library) design.cell) (if_some (top_meant file design) (λ place. broken (is_none (slice_get (views place.1.cell) 0)) E4 [] (design.cell ∷ [])))
    (low_link file 0 [] (Some design.library) design.cell)
    (low_if (top_meant file design) (λ place. broken (is_none (slice_get (views place.1.cell) 0)) E4 [] (design.cell ∷ [])) (λ place. low_broken (is_none (slice_get (views place.1.cell) 0)) E4 [] (design.cell ∷ []) (omega arith)))
low_item file before (file_items.Status status) = tt
low_item file before (file_items.Note note) = tt

low_count : (found : List Design) → AreLow (design_count_refusals found)
low_count [] = ((omega arith), tt)
low_count (one ∷ []) = tt
low_count (one ∷ (two ∷ rest)) = ((omega arith), tt)

low_file : (file : EdifFile) → AreLow (refusals file)
unfolding refusals
low_file file = low_both (design_count_refusals (designs file)) (in_order (file_item_refusals file) file.items) (low_count (designs file)) (low_each (file_item_refusals file) [] file.items (low_item file))

low_lowest : (xs : List Refusal) → AreLow xs → (refusal : Refusal) → lowest xs ≡ Some refusal → rule_number refusal.rule ≤ 12
unfolding lower lowest
low_lowest [] h refusal e = absurd (cc)
low_lowest (x ∷ xs) h refusal e = by (lowest xs) e (low_lowest xs h.1)
  where
    by : (o : Option Refusal) → lower (Some x) o ≡ Some refusal → ((r : Refusal) → o ≡ Some r → rule_number r.rule ≤ 12) → rule_number refusal.rule ≤ 12
    by None e g = let f : x ≡ refusal = cc in subst (λ r. rule_number r.rule ≤ 12) f h.0
    by (Some y) e g = pick (nat_lt (rule_number y.rule) (rule_number x.rule)) e
      where
        pick : (b : Bool) → cond b (Some y) (Some x) ≡ Some refusal → rule_number refusal.rule ≤ 12
        pick true e = let f : y ≡ refusal = cc in subst (λ r. rule_number r.rule ≤ 12) f (g y refl)
        pick false e = let f : x ≡ refusal = cc in subst (λ r. rule_number r.rule ≤ 12) f h.0

over_last : (refusal : Refusal) (o : Option Refusal) → rule_number refusal.rule ≤ 12 → ((y : Refusal) → o ≡ Some y → rule_number y.rule ≡ 12) → lower (Some refusal) o ≡ Some refusal
unfolding lower
over_last refusal None h g = refl
over_last refusal (Some y) h g =
    pick (nat_lt (rule_number y.rule) (rule_number refusal.rule)) (let a : rule_number y.rule ≡ 12 = g y refl in let e : nat_lt (rule_number y.rule) (rule_number refusal.rule) ≡ false = grind (arith, nat_tests) in e)
  where
    pick : (b : Bool) → b ≡ false → cond b (Some y) (Some refusal) ≡ Some refusal
    pick true e = absurd (false≢true (sym e))
    pick false e = refl

-- a refusal of the rules up to E12 is the first of the file
pub first_of_file : (file : EdifFile) (refusal : Refusal) → lowest (refusals file) ≡ Some refusal → first_E file ≡ Some refusal
unfolding first_E
first_of_file file refusal e =
    first-lowest (refusals file ++ recursion_refusals (edif_cells file))
    ∙ (lowest-append (refusals file) (recursion_refusals (edif_cells file))
    ∙ (ap (λ o. lower o (lowest (recursion_refusals (edif_cells file)))) e
    ∙ over_last refusal (lowest (recursion_refusals (edif_cells file))) (low_lowest (refusals file) (low_file file) refusal e)
    (λ y g. all_get (λ r. rule_number r.rule ≡ 12) (recursion_refusals (edif_cells file)) 0 y (recursion_rule (edif_cells file))
    (sym (same_rule_lowest (recursion_refusals (edif_cells file)) (λ i x h. all_get (λ r. rule_number r.rule ≡ 12) (recursion_refusals (edif_cells file)) i x (recursion_rule (edif_cells file)) h)) ∙ g))))
