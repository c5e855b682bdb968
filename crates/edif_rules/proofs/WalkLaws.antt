-- The walk of a cell's contents.
use Rattle.std.proofs.Common.{◌≡◌, ℕ, zero-add, ◌+◌, Bool, true, false, ◌||◌, List, [], ◌∷◌, ◌++◌, map, length, get_or, Option, Some, None, option_map, refl, sym, ap, ◌∙◌}
use Rattle.std.specs.Prelude.{codes, slice_get}
use Rattle.std.specs.List.{filter_map, flat_map, list_any}
use Rattle.std.specs.Option.{option_and_then}
use Rattle.std.proofs.lemmas.List.{append-nil, length-append, map-append}
use Rattle.std.proofs.lemmas.List.Elements.{filter_map-append}
use Rattle.std.proofs.lemmas.List.Folds.{list_any-append}
use Rattle.std.proofs.lemmas.Option.{slice_get-map}
use Rattle.std.proofs.Math.ListN.{get_or-map}
use Rattle.nl_base.specs.Case.{same_bytes}
use Rattle.nl_base.specs.declared.rule.Refusal.{Refusal}
use Rattle.nl_base.specs.declared.rule.Rule.TheVariants.{E5, E11}
use Rattle.edif_lookup.specs.Refusals.{broken, if_some, is_in, lower, lowest}
use Rattle.edif_lookup.proofs.NameLaws.{or_comm}
use Rattle.edif_lookup.proofs.Orders.{lowest-append}
use Rattle.edif_values.specs.Names.{original, port_original}
use Rattle.edif_values.specs.declared.note.Note.{Note}
use Rattle.edif_values.specs.declared.instance.Instance.{Instance}
use Rattle.edif_values.specs.declared.net.Net.{Net}
use Rattle.edif_values.specs.declared.net.PortRef.{PortRef}
use Rattle.edif_values.specs.declared.port.Port.{Port}
use Rattle.net_hier.specs.declared.nodes.Node.{Node}
use Rattle.edif_values.specs.declared.cell.Cell.{Cell}
use Rattle.edif_values.specs.declared.file.EdifFile.{EdifFile}
use Rattle.edif_values.specs.declared.view.ContentsItem.{ContentsItem}
use Rattle.edif_values.specs.declared.view.ContentsItem.TheVariants as contents_items
use Rattle.edif_design.specs.CellRules.{bit_meant, bit_of, bits_of_nets, contents_refusals, index_names, member_refusals, port_name, same_node, size_of}
use Rattle.edif_design.specs.Parts.{cell_contents, instance_in, instances, net_in, ports}
use Rattle.edif_design.specs.References.{LinkedCell, linked_by, linked_cell, place_in, with_number}
use Rattle.edif_rules.specs.RefRefusals.{found_refusals, names_of, port_refusals_at, ref_refusals_by, ref_node}
use Rattle.edif_rules.specs.Idents.{instance_ident}
use Rattle.edif_rules.specs.Scopes.{IsScope, ScopeLists, found_of, port_at}
use Rattle.edif_rules.specs.Spots.{node_of_bit}
use Rattle.edif_rules.specs.Walks.{AddsBits, AddsName, HasMet, has_ident_before, instance_refusals_by, instance_original, is_name_taken, is_renamed, net_refusals_by, net_ident}
use Rattle.edif_rules.specs.declared.found.Target.{Target}
use Rattle.edif_rules.specs.declared.found.Target.TheVariants as founds
use Rattle.edif_rules.specs.declared.walk.Met.{Met}
use Rattle.edif_rules.proofs.ScopeLaws.{refusals_alike, node_alike}
use Rattle.edif_rules.proofs.FirstIdents.{other_where_before, plain_names}
use Rattle.edif_rules.proofs.Turns.{filter_grows, flat_grows}

-- the lists of a cell, of the numbers of the cells that its instances are of, and of the ports of all cells
pub scope_is : (cells : List Cell) (cell : Cell) (numbers : List (Option ℕ)) (lists : ScopeLists) → lists.own ≡ ports cell → lists.instances ≡ instances cell → lists.below ≡ numbers → lists.port_tables ≡ map ports cells
    → IsScope (linked_by cells cell numbers) lists
scope_is cells cell numbers lists own us below port_tables = record {
  own_are = own;
  instances_are = us;
  inner_are = λ instance.
      (λ j. option_and_then (slice_get (port_tables j)) (get_or (below j) instance None))
      ∙ (by (get_or numbers instance None)
      ∙ ap (option_map (λ (c : ℕ × Cell). ports c.1)) (sym (get_or-map (option_and_then (with_number cells)) numbers instance None)));
}
  where
    at : (number : ℕ) (o : Option Cell) → option_map ports o ≡ option_map (λ (c : ℕ × Cell). ports c.1) (option_map (λ c. (number, c)) o)
    at number None = refl
    at number (Some c) = refl

    by : (number : Option ℕ) → option_and_then (slice_get (map ports cells)) number ≡ option_map (λ (c : ℕ × Cell). ports c.1) (option_and_then (with_number cells) number)
    by None = refl
    by (Some number) = slice_get-map ports cells number ∙ at number (slice_get cells number)

-- one more name among those before
name_met : {A : Type 0} (f : A → List ℕ) (xs : List A) (x : A) (old new : List (List ℕ)) → ((name : List ℕ) → is_in name old ≡ is_in name (map f xs)) → AddsName old (f x) new
    → (name : List ℕ) → is_in name new ≡ is_in name (map f (xs ++ x ∷ []))
name_met f xs x old new holds adds name =
    adds name
    ∙ (ap (λ b. same_bytes name (f x) || b) (holds name)
    ∙ (sym (or_comm (same_bytes name (f x)) (is_in name (map f xs)))
    ∙ (sym (list_any-append (same_bytes name) (map f xs) (f x ∷ [])) ∙ ap (is_in name) (sym (map-append f xs (x ∷ []))))))

-- the same names
same_met : {A : Type 0} (f : A → List ℕ) (xs : List A) (old new : List (List ℕ)) → new ≡ old → ((name : List ℕ) → is_in name old ≡ is_in name (map f xs)) → (name : List ℕ) → is_in name new ≡ is_in name (map f (xs ++ []))
same_met f xs old new same holds name = ap (is_in name) same ∙ (holds name ∙ ap (λ ys. is_in name (map f ys)) (sym (append-nil xs)))

module _ (linked : LinkedCell) (before : List ContentsItem) (old new : Met) (met : HasMet linked before old) where
  pub instance_met : (instance : Instance) → new.instances ≡ old.instances + 1 → new.renamed ≡ old.renamed → (old.renamed ≡ true → AddsName old.originals (instance_original instance) new.originals) → new.nets ≡ old.nets → new.taken ≡ old.taken
      → HasMet linked (before ++ contents_items.Instance instance ∷ []) new
  instance_met instance number renamed originals nets taken =
      let us = filter_grows instance_in before (contents_items.Instance instance) in
      let ns = filter_grows net_in before (contents_items.Instance instance) in
      record {
        instances_met = number ∙ (ap (λ n. n + 1) met.instances_met ∙ (sym (length-append (filter_map instance_in before) (instance ∷ [])) ∙ ap length (sym us)));
        renamed_is = renamed ∙ met.renamed_is;
        originals_met = λ is name. name_met instance_original (filter_map instance_in before) instance old.originals new.originals (met.originals_met (sym renamed ∙ is)) (originals (sym renamed ∙ is)) name ∙ ap (λ xs. is_in name (map instance_original xs)) (sym us);
        nets_met = λ name. same_met net_ident (filter_map net_in before) old.nets new.nets nets met.nets_met name ∙ ap (λ xs. is_in name (map net_ident xs)) (sym ns);
        bits_met = λ node. ap (list_any (same_node node)) taken ∙ (met.bits_met node ∙ ap (λ xs. list_any (same_node node) (bits_of_nets linked xs)) (sym (append-nil (filter_map net_in before)) ∙ sym ns));
      }

  pub net_met : (lists : ScopeLists) → IsScope linked lists → (net : Net) → AddsName old.nets (net_ident net) new.nets → AddsBits old.taken (filter_map (ref_node lists) net.joined) new.taken → new.instances ≡ old.instances → new.renamed ≡ old.renamed → new.originals ≡ old.originals
      → HasMet linked (before ++ contents_items.Net net ∷ []) new
  net_met lists is net idents bits us renamed originals =
      let instances_kept = filter_grows instance_in before (contents_items.Net net) in
      let nets_more = filter_grows net_in before (contents_items.Net net) in
      record {
        instances_met = us ∙ (met.instances_met ∙ ap length (sym (append-nil (filter_map instance_in before)) ∙ sym instances_kept));
        renamed_is = renamed ∙ met.renamed_is;
        originals_met = λ is name.
            same_met instance_original (filter_map instance_in before) old.originals new.originals originals (met.originals_met (sym renamed ∙ is)) name ∙ ap (λ xs. is_in name (map instance_original xs)) (sym instances_kept);
        nets_met = λ name. name_met net_ident (filter_map net_in before) net old.nets new.nets met.nets_met idents name ∙ ap (λ xs. is_in name (map net_ident xs)) (sym nets_more);
        bits_met = λ node. bits node ∙ (more node ∙ ap (λ xs. list_any (same_node node) (bits_of_nets linked xs)) (sym nets_more));
      }
    where
      more : (node : Node) → list_any (same_node node) (old.taken ++ filter_map (ref_node lists) net.joined) ≡ list_any (same_node node) (bits_of_nets linked (filter_map net_in before ++ net ∷ []))
      more node =
          list_any-append (same_node node) old.taken (filter_map (ref_node lists) net.joined)
          ∙ ((λ j. met.bits_met node j || list_any (same_node node) (filter_map (λ ref. node_alike linked lists is ref j) net.joined))
          ∙ (sym (list_any-append (same_node node) (bits_of_nets linked (filter_map net_in before)) (filter_map (bit_meant linked) net.joined))
          ∙ ap (list_any (same_node node)) (sym (ap (filter_map (bit_meant linked)) (flat_grows (λ n. n.joined) (filter_map net_in before) net) ∙ filter_map-append (bit_meant linked) (flat_map (λ n. n.joined) (filter_map net_in before)) net.joined))))

  pub note_met : (note : Note) → HasMet linked (before ++ contents_items.Note note ∷ []) old
  note_met note =
      let us = filter_grows instance_in before (contents_items.Note note) in
      let ns = filter_grows net_in before (contents_items.Note note) in
      record {
        instances_met = met.instances_met ∙ ap length (sym (append-nil (filter_map instance_in before)) ∙ sym us);
        renamed_is = met.renamed_is;
        originals_met = λ is name. same_met instance_original (filter_map instance_in before) old.originals old.originals refl (met.originals_met is) name ∙ ap (λ xs. is_in name (map instance_original xs)) (sym us);
        nets_met = λ name. same_met net_ident (filter_map net_in before) old.nets old.nets refl met.nets_met name ∙ ap (λ xs. is_in name (map net_ident xs)) (sym ns);
        bits_met = λ node. met.bits_met node ∙ ap (λ xs. list_any (same_node node) (bits_of_nets linked xs)) (sym (append-nil (filter_map net_in before)) ∙ sym ns);
      }

-- what a reference breaks depends on the bits that are taken, not on their order
module _ (lists : ScopeLists) (cell net : List ℕ) (taken bits : List Node) (same : (node : Node) → list_any (same_node node) taken ≡ list_any (same_node node) bits) (ref : PortRef) where
  taken_alike : (found : Target) → found_refusals lists cell net taken ref found ≡ found_refusals lists cell net bits ref found
  unfolding found_refusals
  taken_alike (founds.Port instance port) = by (port_at lists instance port)
    where
      by : (meant : Option Port) → port_refusals_at lists cell net taken instance port ref.member meant ≡ port_refusals_at lists cell net bits instance port ref.member meant
      by None = refl
      by (Some meant) =
          let names = names_of lists net instance (port_name meant) in
          λ j. member_refusals cell names (size_of meant.name) ref.member
          ++ if_some (bit_of (size_of meant.name) ref.member) (λ bit. broken (same (node_of_bit instance port bit) j) E11 cell (names ++ index_names (port_original meant.name).1 bit))
  taken_alike founds.NoInstance = refl
  taken_alike founds.SeveralInstances = refl
  taken_alike founds.NoCell = refl
  taken_alike (founds.NoPort instance) = refl
  taken_alike founds.SeveralPorts = refl

module _ (file : EdifFile) (home : ℕ) (cell : Cell) (before : List ContentsItem) (old : Met) (met : HasMet (linked_cell file (place_in home cell)) before old) where
  pub instance_refused : (lists : ScopeLists) → IsScope (linked_cell file (place_in home cell)) lists → (instance : Instance) (after : List ContentsItem) → before ++ contents_items.Instance instance ∷ after ≡ cell_contents cell
      → lowest (instance_refusals_by file home (original cell.name) (has_ident_before lists.instances old.instances instance) (is_name_taken (has_ident_before lists.instances old.instances instance) old.renamed old.originals instance) instance)
      ≡ lowest (contents_refusals file (place_in home cell) before (contents_items.Instance instance))
  instance_refused lists is instance after whole =
      λ j. lowest (instance_refusals_by file home (original cell.name) (ident_known j) (name_known old.renamed refl j) instance)
    where
      earlier : List Instance
      earlier = filter_map instance_in before

      later : List Instance
      later = filter_map instance_in after

      all : instances cell ≡ earlier ++ instance ∷ later
      all = ap (filter_map instance_in) (sym whole) ∙ filter_map-append instance_in before (contents_items.Instance instance ∷ after)

      ident_known : has_ident_before lists.instances old.instances instance ≡ is_in (instance_ident instance) (map instance_ident earlier)
      ident_known =
          let number : old.instances ≡ 0 + length earlier = met.instances_met ∙ sym (zero-add (length earlier)) in
          (λ j. has_ident_before ((is.instances_are ∙ all) j) (number j) instance) ∙ other_where_before instance_ident earlier later instance 0 _

      name_known : (renamed : Bool) → old.renamed ≡ renamed
          → is_name_taken (has_ident_before lists.instances old.instances instance) renamed old.originals instance ≡ is_in (instance_original instance) (map instance_original earlier)
      name_known true e = met.originals_met e (instance_original instance)
      name_known false e = ident_known ∙ plain_names earlier later instance (ap (list_any is_renamed) (sym all) ∙ (sym met.renamed_is ∙ e))

  pub net_refused : (lists : ScopeLists) → IsScope (linked_cell file (place_in home cell)) lists → (net : Net) → lowest (net_refusals_by lists (original cell.name) (is_in (net_ident net) old.nets) old.taken net)
      ≡ lowest (contents_refusals file (place_in home cell) before (contents_items.Net net))
  net_refused lists is net =
      let linked = linked_cell file (place_in home cell) in
      let bits = bits_of_nets linked (filter_map net_in before) in
      (λ j. lowest (broken (met.nets_met (net_ident net) j) E5 (original cell.name) (codes "net" ∷ (net.name.ident ∷ []))
      ++ flat_map (λ ref. (taken_alike lists (original cell.name) (original net.name) old.taken bits met.bits_met ref (found_of lists ref) ∙ refusals_alike linked lists is (original net.name) bits ref) j) net.joined))

-- what a net breaks, by what was found of its parts
pub net_found : (lists : ScopeLists) (cell : List ℕ) (nets : List (List ℕ)) (taken : List Node) (net : Net) (ident named : List ℕ) (joined : List PortRef) (ident_taken : Bool) (second first result : Option Refusal)
    → ident ≡ net_ident net → named ≡ original net.name → joined ≡ net.joined → ident_taken ≡ is_in ident nets → second ≡ lowest (broken ident_taken E5 cell (codes "net" ∷ (ident ∷ [])))
    → first ≡ lowest (flat_map (ref_refusals_by lists cell named taken) joined) → result ≡ lower second first → result ≡ lowest (net_refusals_by lists cell (is_in (net_ident net) nets) taken net)
net_found lists cell nets taken net ident named joined ident_taken second first result is_ident is_named is_joined known is_second is_first is_result =
    is_result
    ∙ ((λ j. lower (is_second j) (is_first j))
    ∙ ((λ j. lower (lowest (broken ((known ∙ ap (λ s. is_in s nets) is_ident) j) E5 cell (codes "net" ∷ (is_ident j ∷ [])))) (lowest (flat_map (ref_refusals_by lists cell (is_named j) taken) (is_joined j))))
    ∙ sym (lowest-append (broken (is_in (net_ident net) nets) E5 cell (codes "net" ∷ (net_ident net ∷ []))) (flat_map (ref_refusals_by lists cell (original net.name) taken) net.joined))))
