-- What the lists of a scope find is what the references in the cell mean.
use Rattle.std.proofs.Common.{◌≡◌, ℕ, zero, suc, ◌+◌, ◌<◌, ◌≤◌, Bool, true, false, cond, List, [], ◌∷◌, ◌++◌, map, length, get_or, Option, Some, None, option_map, refl, sym, ap, ◌∙◌, subst, arith, filter, append_assoc}
use Rattle.std.specs.Prelude.{slice_get, ℤ, ⊤}
use Rattle.std.specs.List.{AllByRecursion, enumerate_from, flat_map, filter_map, list_any}
use Rattle.std.specs.Option.{option_and_then}
use Rattle.std.proofs.lemmas.List.{append-nil}
use Rattle.nl_base.specs.declared.rule.Refusal.{Refusal}
use Rattle.edif_lookup.specs.Candidates.{candidates, first_or_all, the_only}
use Rattle.edif_lookup.specs.Refusals.{broken, broken_reference, if_some}
use Rattle.edif_lookup.specs.Tables.{meant_by}
use Rattle.nl_base.specs.declared.rule.Rule.TheVariants.{E6, E7, E8, E11}
use Rattle.edif_values.specs.Names.{original, port_original}
use Rattle.edif_values.specs.declared.instance.Instance.{Instance}
use Rattle.edif_values.specs.declared.net.PortRef.{PortRef}
use Rattle.edif_values.specs.declared.port.Port.{Port}
use Rattle.net_hier.specs.declared.nodes.Node.{Node}
use Rattle.edif_values.specs.declared.cell.Cell.{Cell}
use Rattle.edif_design.specs.CellRules.{Owner, bit_meant, bit_of, bit_refusals, index_names, instance_candidates, instance_ref_refusals, member_refusals, node_of, owner_at, owner_bit, owner_names, owner_of, port_candidates, port_ident, port_name, port_ref_refusals, ref_refusals, same_node, size_of}
use Rattle.edif_design.specs.Parts.{instances, numbered, ports}
use Rattle.edif_design.specs.References.{CellPlace, LinkedCell, all_cells, cell_candidates, cells_of_library, file_cells, library_meant, link_meant, number_meant}
use Rattle.edif_values.specs.declared.file.EdifFile.{EdifFile}
use Rattle.std.proofs.lemmas.Option.{slice_get-map}
use Rattle.edif_rules.specs.RefRefusals.{found_refusals, port_refusals_at, ref_refusals_by, ref_node}
use Rattle.edif_rules.specs.Idents.{instance_ident, instances_meaning}
use Rattle.edif_rules.specs.Scopes.{IsScope, ScopeLists, found_by, found_among, found_in, found_of, found_with, inner_ports, instance_names, name_of, node_found, port_at, port_found}
use Rattle.edif_rules.specs.Spots.{node_of_bit}
use Rattle.edif_rules.specs.declared.found.Target.TheVariants as founds

-- ---- a candidate is a definition under its number

module _ {X : Type 0} (P : X → Type 0) where
  filter_keeps : (p : X → Bool) (xs : List X) → AllByRecursion P xs → AllByRecursion P (filter p xs)
  filter_keeps p [] h = h
  filter_keeps p (x ∷ xs) h = by (p x) (filter_keeps p xs h.1)
    where
      by : (b : Bool) → AllByRecursion P (filter p xs) → AllByRecursion P (cond b (x ∷ filter p xs) (filter p xs))
      by true rest = (h.0, rest)
      by false rest = rest

  first_keeps : (same alike : List X) → AllByRecursion P same → AllByRecursion P alike → AllByRecursion P (first_or_all same alike)
  first_keeps [] alike hs ha = ha
  first_keeps (one ∷ same) alike hs ha = (hs.0, tt)

abbrev IsAt : {A : Type 0} → List A → (ℕ × A) → Type 0
IsAt items definition = slice_get items definition.0 ≡ Some definition.1

get_after : {A : Type 0} (xs ys : List A) (x : A) (n : ℕ) → length xs ≡ n → slice_get (xs ++ x ∷ ys) n ≡ Some x
get_after [] ys x zero h = refl
get_after [] ys x (suc n) h = absurd (omega arith)
get_after (y ∷ xs) ys x zero h = absurd (omega arith)
get_after (y ∷ xs) ys x (suc n) h = get_after xs ys x n (omega arith)

numbered_from : {A : Type 0} (before items : List A) (n : ℕ) → length before ≡ n → AllByRecursion (IsAt (before ++ items)) (enumerate_from n items)
numbered_from before [] n h = tt
numbered_from before (x ∷ items) n h = (
  get_after before items x n h,
  subst (λ all. AllByRecursion (IsAt all) (enumerate_from (n + 1) items)) (append_assoc before (x ∷ []) items)
      (numbered_from (before ++ x ∷ []) items (n + 1) (long before x n h)),
)
  where
    long : {A : Type 0} (xs : List A) (x : A) (n : ℕ) → length xs ≡ n → length (xs ++ x ∷ []) ≡ n + 1
    long [] x n h = omega arith
    long (y ∷ xs) x zero h = absurd (omega arith)
    long (y ∷ xs) x (suc n) h = let e = long xs x n (omega arith) in omega (arith, e)

-- also among some of the definitions
pub candidate_in : {A : Type 0} (name : A → List ℕ) (items : List A) (definitions : List (ℕ × A)) → AllByRecursion (IsAt items) definitions → (spelling : List ℕ) (found : ℕ × A) (rest : List (ℕ × A)) → candidates name definitions spelling ≡ found ∷ rest
    → slice_get items found.0 ≡ Some found.1
candidate_in name items definitions all spelling found rest e =
    (subst (AllByRecursion (IsAt items)) e (first_keeps (IsAt items) _ _ (filter_keeps (IsAt items) _ definitions all) (filter_keeps (IsAt items) _ definitions all))).0

pub candidate_at : {A : Type 0} (name : A → List ℕ) (items : List A) (spelling : List ℕ) (found : ℕ × A) (rest : List (ℕ × A)) → candidates name (numbered items) spelling ≡ found ∷ rest → slice_get items found.0 ≡ Some found.1
candidate_at name items = candidate_in name items (numbered items) (numbered_from [] items 0 refl)

-- the cell that is meant is the one of the number that is meant
pub meant_cell : (file : EdifFile) (home : ℕ) (library : Option (List ℕ)) (spelling : List ℕ)
    → option_and_then (slice_get (file_cells file)) (number_meant (link_meant file home library spelling)) ≡ option_map (λ (place : ℕ × CellPlace). place.1.cell) (link_meant file home library spelling)
meant_cell file home library spelling = by (library_meant file home library)
  where
    among : (l : ℕ) (found : List (ℕ × CellPlace)) → cell_candidates file l spelling ≡ found
        → option_and_then (slice_get (file_cells file)) (number_meant (the_only found)) ≡ option_map (λ (place : ℕ × CellPlace). place.1.cell) (the_only found)
    among l [] e = refl
    among l (one ∷ []) e =
        slice_get-map (λ (place : CellPlace). place.cell) (all_cells file) one.0
        ∙ ap (option_map (λ (place : CellPlace). place.cell))
        (candidate_in (λ (place : CellPlace). place.cell.name.ident) (all_cells file) (cells_of_library file l) (filter_keeps (IsAt (all_cells file)) _ (numbered (all_cells file)) (numbered_from [] (all_cells file) 0 refl)) spelling one [] e)
    among l (one ∷ (two ∷ rest)) e = refl

    by : (o : Option ℕ) → option_and_then (slice_get (file_cells file)) (number_meant (option_and_then (λ number. the_only (cell_candidates file number spelling)) o))
        ≡ option_map (λ (place : ℕ × CellPlace). place.1.cell) (option_and_then (λ number. the_only (cell_candidates file number spelling)) o)
    by None = refl
    by (Some l) = among l (cell_candidates file l spelling) refl

-- ---- references

-- the owner of a port as the lists of a scope know it
record IsOwner (lists : ScopeLists) (owner : Owner) (instance : Option ℕ) : Type 0 where
  names_are : owner_names owner ≡ instance_names lists.instances instance
  node_is : (port bit : ℕ) → node_of owner port bit ≡ node_of_bit instance port bit
  port_is : (port : ℕ) → port_at lists instance port ≡ slice_get (ports owner.1) port

module _ (lists : ScopeLists) (cell net : List ℕ) (taken : List Node) (ref : PortRef) where
  named_alike : (owner : Owner) (instance : Option ℕ) → IsOwner lists owner instance → (port : ℕ × Port) → slice_get (ports owner.1) port.0 ≡ Some port.1
      → bit_refusals cell net taken owner port ref.member ≡ found_refusals lists cell net taken ref (founds.Port instance port.0)
  unfolding found_refusals
  named_alike owner instance is port at =
      (λ j. member_refusals cell (net ∷ (is.names_are j ++ port_name port.1 ∷ [])) (size_of port.1.name) ref.member
      ++ if_some (bit_of (size_of port.1.name) ref.member) (λ bit. broken (list_any (same_node (is.node_is port.0 bit j)) taken) E11 cell ((net ∷ (is.names_are j ++ port_name port.1 ∷ [])) ++ index_names (port_original port.1.name).1 bit)))
      ∙ ap (port_refusals_at lists cell net taken instance port.0 ref.member) (sym (is.port_is port.0 ∙ at))

  port_step : (owner : Owner) (instance : Option ℕ) → IsOwner lists owner instance → port_ref_refusals cell net taken ref owner ≡ found_refusals lists cell net taken ref (found_in instance (ports owner.1) ref.port)
  unfolding found_refusals
  port_step owner instance is = by (port_candidates owner.1 ref.port) refl
    where
      by : (found : List (ℕ × Port)) → port_candidates owner.1 ref.port ≡ found
          → broken_reference found E8 cell (net ∷ (owner_names owner ++ ref.port ∷ [])) ref.port ++ if_some (the_only found) (λ port. bit_refusals cell net taken owner port ref.member)
          ≡ found_refusals lists cell net taken ref (port_found instance (meant_by found))
      by [] e = ap (λ names. broken true E8 cell (net ∷ (names ++ ref.port ∷ []))) is.names_are
      by (one ∷ []) e = named_alike owner instance is one (candidate_at port_ident (ports owner.1) ref.port one [] e)
      by (one ∷ (two ∷ rest)) e = refl

module _ (linked : LinkedCell) (lists : ScopeLists) (is : IsScope linked lists) where
  own_owner : IsOwner lists (None, linked.cell) None
  own_owner = record { names_are = refl; node_is = λ port bit. refl; port_is = λ port. ap (λ ps. slice_get ps port) is.own_are }

  inner_owner : (instance : ℕ × Instance) (inner : Cell) → slice_get (instances linked.cell) instance.0 ≡ Some instance.1 → inner_ports lists instance.0 ≡ Some (ports inner) → IsOwner lists (Some instance, inner) (Some instance.0)
  inner_owner instance inner at below = record {
    names_are = ap name_of (sym (ap (λ us. slice_get us instance.0) is.instances_are ∙ at));
    node_is = λ port bit. refl;
    port_is = λ port. ap (option_and_then (λ ps. slice_get ps port)) below;
  }

  module _ (cell net : List ℕ) (taken : List Node) (ref : PortRef) where
    inner_step : (instance : ℕ × Instance) → slice_get (instances linked.cell) instance.0 ≡ Some instance.1
        → if_some (owner_at linked.below instance) (port_ref_refusals cell net taken ref) ≡ found_refusals lists cell net taken ref (found_among instance.0 ref.port (inner_ports lists instance.0))
    unfolding found_refusals
    inner_step instance at = by (get_or linked.below instance.0 None) (inner_ports lists instance.0) refl (is.inner_are instance.0)
      where
        by : (below : Option (ℕ × Cell)) (inner : Option (List Port)) → inner_ports lists instance.0 ≡ inner → inner ≡ option_map (λ c. ports c.1) below
            → if_some (option_map (λ c. (Some instance, c.1)) below) (port_ref_refusals cell net taken ref) ≡ found_refusals lists cell net taken ref (found_among instance.0 ref.port inner)
        by None None e h = refl
        by None (Some ps) e h = absurd cc
        by (Some c) None e h = absurd cc
        by (Some c) (Some ps) e h =
            port_step lists cell net taken ref (Some instance, c.1) (Some instance.0) (inner_owner instance c.1 at (e ∙ h))
            ∙ ap (λ found. found_refusals lists cell net taken ref (found_among instance.0 ref.port found)) (sym h)

    by_instance : (spelling : List ℕ) (found : List (ℕ × Instance)) → instance_candidates linked.cell spelling ≡ found → ref.instance ≡ Some spelling
        → broken_reference found E7 cell (net ∷ (spelling ∷ [])) spelling ++ if_some (option_and_then (owner_at linked.below) (the_only found)) (port_ref_refusals cell net taken ref)
        ≡ found_refusals lists cell net taken ref (found_by lists ref.port (meant_by found))
    unfolding found_refusals
    by_instance spelling [] e s = ap (λ o. if_some o (λ t. broken true E7 cell (net ∷ (t ∷ [])))) (sym s)
    by_instance spelling (one ∷ []) e s = inner_step one (candidate_at instance_ident (instances linked.cell) spelling one [] e)
    by_instance spelling (one ∷ (two ∷ rest)) e s = ap (λ o. if_some o (λ t. broken true E6 cell (t ∷ []))) (sym s)

  -- what a reference breaks
  pub refusals_alike : (net : List ℕ) (taken : List Node) (ref : PortRef) → ref_refusals_by lists (original linked.cell.name) net taken ref ≡ ref_refusals linked net taken ref
  refusals_alike net taken ref = sym (by ref.instance refl)
    where
      by : (instance : Option (List ℕ)) → ref.instance ≡ instance
          → if_some instance (instance_ref_refusals linked.cell net) ++ if_some (owner_of linked instance) (port_ref_refusals (original linked.cell.name) net taken ref)
          ≡ found_refusals lists (original linked.cell.name) net taken ref (found_with lists ref.port instance)
      by None e =
          port_step lists (original linked.cell.name) net taken ref (None, linked.cell) None own_owner
          ∙ ap (λ ps. found_refusals lists (original linked.cell.name) net taken ref (found_in None ps ref.port)) (sym is.own_are)
      by (Some spelling) e =
          by_instance (original linked.cell.name) net taken ref spelling (instance_candidates linked.cell spelling) refl e
          ∙ ap (λ us. found_refusals lists (original linked.cell.name) net taken ref (found_by lists ref.port (instances_meaning us spelling))) (sym is.instances_are)

  port_bit : (owner : Owner) (instance : Option ℕ) → IsOwner lists owner instance → (ref : PortRef) → owner_bit ref owner ≡ node_found lists (found_in instance (ports owner.1) ref.port) ref.member
  port_bit owner instance known ref = by (port_candidates owner.1 ref.port) refl
    where
      by : (found : List (ℕ × Port)) → port_candidates owner.1 ref.port ≡ found
          → option_and_then (λ port. option_map (node_of owner port.0) (bit_of (size_of port.1.name) ref.member)) (the_only found) ≡ node_found lists (port_found instance (meant_by found)) ref.member
      by [] e = refl
      by (one ∷ []) e =
          (λ j. option_map (λ bit. known.node_is one.0 bit j) (bit_of (size_of one.1.name) ref.member))
          ∙ ap (option_and_then (λ meant. option_map (node_of_bit instance one.0) (bit_of (size_of meant.name) ref.member))) (sym (known.port_is one.0 ∙ candidate_at port_ident (ports owner.1) ref.port one [] e))
      by (one ∷ (two ∷ rest)) e = refl

  inner_bit : (instance : ℕ × Instance) (ref : PortRef) → slice_get (instances linked.cell) instance.0 ≡ Some instance.1
      → option_and_then (owner_bit ref) (owner_at linked.below instance) ≡ node_found lists (found_among instance.0 ref.port (inner_ports lists instance.0)) ref.member
  inner_bit instance ref at = by (get_or linked.below instance.0 None) (inner_ports lists instance.0) refl (is.inner_are instance.0)
    where
      by : (below : Option (ℕ × Cell)) (inner : Option (List Port)) → inner_ports lists instance.0 ≡ inner → inner ≡ option_map (λ c. ports c.1) below
          → option_and_then (owner_bit ref) (option_map (λ c. (Some instance, c.1)) below) ≡ node_found lists (found_among instance.0 ref.port inner) ref.member
      by None None e h = refl
      by None (Some ps) e h = absurd cc
      by (Some c) None e h = absurd cc
      by (Some c) (Some ps) e h =
          port_bit (Some instance, c.1) (Some instance.0) (inner_owner instance c.1 at (e ∙ h)) ref
          ∙ ap (λ found. node_found lists (found_among instance.0 ref.port found) ref.member) (sym h)

  -- the bit that a reference means
  pub node_alike : (ref : PortRef) → ref_node lists ref ≡ bit_meant linked ref
  node_alike ref = sym (by ref.instance)
    where
      among : (spelling : List ℕ) (found : List (ℕ × Instance)) → instance_candidates linked.cell spelling ≡ found
          → option_and_then (owner_bit ref) (option_and_then (owner_at linked.below) (the_only found)) ≡ node_found lists (found_by lists ref.port (meant_by found)) ref.member
      among spelling [] e = refl
      among spelling (one ∷ []) e = inner_bit one ref (candidate_at instance_ident (instances linked.cell) spelling one [] e)
      among spelling (one ∷ (two ∷ rest)) e = refl

      by : (instance : Option (List ℕ)) → option_and_then (owner_bit ref) (owner_of linked instance) ≡ node_found lists (found_with lists ref.port instance) ref.member
      by None = port_bit (None, linked.cell) None own_owner ref ∙ ap (λ ps. node_found lists (found_in None ps ref.port) ref.member) (sym is.own_are)
      by (Some spelling) =
          among spelling (instance_candidates linked.cell spelling) refl
          ∙ ap (λ us. node_found lists (found_by lists ref.port (instances_meaning us spelling)) ref.member) (sym is.instances_are)
