-- The nets that are made, one after another, of the nodes of the live classes.
use Rattle.std.proofs.Common.{◌≡◌, ℕ, suc, ◌+◌, ◌<◌, add-one, append_assoc, append-nil, arith, drop, drop-cons, List, [], ◌∷◌, ◌++◌, get_or, length, length-append, map, reverse, take, refl, sym, ap, ◌∙◌, subst}
use Rattle.std.proofs.lemmas.List.{map-append, reverse-append, take_all, take_more}
use Rattle.std.proofs.lemmas.Simd.{map-map}
use Rattle.net_bits.specs.Classes.{ClassTable, members_of}
use Rattle.net_hier.specs.declared.nodes.Node.{Node}
use Rattle.net_live.specs.Last.{last_of}
use Rattle.net_live.specs.Live.{class_props}
use Rattle.edif_values.specs.Names.{original}
use Rattle.edif_values.specs.Values.{IsNet}
use Rattle.edif_values.specs.declared.name.NameDef.{NameDef}
use Rattle.edif_values.specs.declared.net.Net.{Net}
use Rattle.edif_values.specs.declared.view.ContentsItem.{ContentsItem}
use Rattle.edif_values.specs.declared.view.ContentsItem.TheVariants as contents_items
use Rattle.edif_meanings.specs.Apart.{AreApart}
use Rattle.edif_design.specs.Design.{net_value}
use Rattle.edif_naming.proofs.NamingLaws.{original_name_for}
use Rattle.edif_spaces.specs.Spaces.{AreIdents}
use Rattle.edif_written.proofs.Lists.{all_push}
use Rattle.edif_plans.specs.Made.{AreNetsFor, live_below}
use Rattle.edif_plans.specs.NetNames.{HasNoSpareText, name_of_class, net_names}
use Rattle.edif_plans.specs.References.{CellPlan, refs_for}
use Rattle.edif_making.specs.Nets.{AreNetsOf, HaveNets, IsNetOf}
use Rattle.edif_making.proofs.LiveBelow.{are_live}
use Rattle.edif_making.proofs.NetLaws.{no_spare_text}

-- ---- one net after another

push_map : {A B C : Type 0} (f : A → C) (g : B → C) (xs : List A) (ys : List B) (x : A) (y : B) → map f xs ≡ map g ys → f x ≡ g y → map f (xs ++ x ∷ []) ≡ map g (ys ++ y ∷ [])
push_map f g xs ys x y before here = map-append f xs (x ∷ []) ∙ ((λ j. before j ++ here j ∷ []) ∙ sym (map-append g ys (y ∷ [])))

no_nets : (cell_plan : CellPlan) → AreNetsOf cell_plan [] [] []
no_nets cell_plan = record { under = refl; names = refl; no_spare_text = tt; joined = refl; props = refl; sound = λ h. tt }

next_net : (cell_plan : CellPlan) (idents : List (List ℕ)) (classes : List (List Node)) (nets : List Net) (ident : List ℕ) (nodes : List Node) (net : Net) → AreNetsOf cell_plan idents classes nets → IsNetOf cell_plan ident nodes net
    → AreNetsOf cell_plan (idents ++ ident ∷ []) (classes ++ nodes ∷ []) (nets ++ net ∷ [])
next_net cell_plan idents classes nets ident nodes net are is = record {
  under = map-append (λ (n : Net). n.name.ident) nets (net ∷ []) ∙ (λ j. are.under j ++ ap (λ (n : NameDef). n.ident) is.name j ∷ []);
  names = push_map (λ (n : Net). original n.name) (name_of_class cell_plan.cell.nets cell_plan.cell.ports) nets classes net nodes are.names (ap original is.name ∙ original_name_for ident (name_of_class cell_plan.cell.nets cell_plan.cell.ports nodes));
  no_spare_text = all_push (λ (n : Net). HasNoSpareText n.name) nets (nets ++ net ∷ []) net are.no_spare_text (no_spare_text net.name ident (name_of_class cell_plan.cell.nets cell_plan.cell.ports nodes) is.name) refl;
  joined = push_map (λ (n : Net). n.joined) (refs_for cell_plan) nets classes net nodes are.joined is.joined;
  props = push_map (λ (n : Net). (net_value n).props) (λ (members : List Node). last_of (class_props cell_plan.cell.nets members)) nets classes net nodes are.props is.props;
  sound = λ h. all_push IsNet nets (nets ++ net ∷ []) net (are.sound h) (is.sound h) refl;
}

pub none_behind : (cell_plan : CellPlan) (first : List ContentsItem) → HaveNets first (AreNetsOf cell_plan [] []) first
none_behind cell_plan first = record { nets = []; are_behind = sym (append-nil first); hold = no_nets cell_plan }

-- the net of the next class, under its identifier, stands behind those before it
pub one_behind : (cell_plan : CellPlan) (idents : List (List ℕ)) (classes : List (List Node)) (place : ℕ) (ident : List ℕ) (nodes : List Node) (first items new : List ContentsItem) (net : Net) → place < length idents → place < length classes
    → ident ≡ get_or idents place ident → nodes ≡ get_or classes place [] → new ≡ items ++ contents_items.Net net ∷ [] → IsNetOf cell_plan ident nodes net
    → HaveNets first (AreNetsOf cell_plan (take place idents) (take place classes)) items → HaveNets first (AreNetsOf cell_plan (take (place + 1) idents) (take (place + 1) classes)) new
one_behind cell_plan idents classes place ident nodes first items new net named there is_ident are_nodes more is have =
    let idents_more : take place idents ++ ident ∷ [] ≡ take (place + 1) idents = sym (take_more idents place ident named ∙ ap (λ x. take place idents ++ x ∷ []) (sym is_ident)) in
    let classes_more : take place classes ++ nodes ∷ [] ≡ take (place + 1) classes = sym (take_more classes place [] there ∙ ap (λ x. take place classes ++ x ∷ []) (sym are_nodes)) in
    record {
      nets = have.nets ++ net ∷ [];
      are_behind = more ∙ (ap (λ l. l ++ contents_items.Net net ∷ []) have.are_behind ∙ (append_assoc first (map contents_items.Net have.nets) (contents_items.Net net ∷ []) ∙ ap (λ l. first ++ l) (sym (map-append contents_items.Net have.nets (net ∷ [])))));
      hold = subst (λ i. AreNetsOf cell_plan i (take (place + 1) classes) (have.nets ++ net ∷ [])) idents_more
          (subst (λ c. AreNetsOf cell_plan (take place idents ++ ident ∷ []) c (have.nets ++ net ∷ [])) classes_more
          (next_net cell_plan (take place idents) (take place classes) have.nets ident nodes net have.hold is));
    }

-- ---- identifiers that are taken from the end of their list, which is turned round

pub record IsTaken (idents : List (List ℕ)) (place : ℕ) (ident : List ℕ) (left : List (List ℕ)) : Type 0 where
  pub named : place < length idents
  pub is_ident : ident ≡ get_or idents place ident
  pub others : reverse left ≡ drop (place + 1) idents
  pub counted : place + 1 + length left ≡ length idents

pub ident_taken : (idents : List (List ℕ)) (place : ℕ) (ident : List ℕ) (old new : List (List ℕ)) → old ≡ new ++ ident ∷ [] → reverse old ≡ drop place idents → place + length old ≡ length idents → IsTaken idents place ident new
ident_taken idents place ident old new is before counted =
    let size : length old ≡ length new + 1 = ap length is ∙ length-append new (ident ∷ []) in
    let named : place < length idents = omega (arith, size, counted) in
    let turned : ident ∷ reverse new ≡ get_or idents place ident ∷ drop (suc place) idents = sym (reverse-append new (ident ∷ [])) ∙ (ap reverse (sym is) ∙ (before ∙ drop-cons idents place ident named)) in
    record {
      named = named;
      is_ident = ap (λ l. get_or l 0 ident) turned;
      others = ap (drop 1) turned ∙ ap (λ n. drop n idents) (sym (add-one place));
      counted = omega (arith, size, counted);
    }

-- when none is left, there is a net for each class
pub all_behind : (cell_plan : CellPlan) (idents : List (List ℕ)) (classes : List (List Node)) (place : ℕ) (left : List (List ℕ)) (first items : List ContentsItem) → length left ≡ 0 → place + length left ≡ length idents → length idents ≡ length classes
    → HaveNets first (AreNetsOf cell_plan (take place idents) (take place classes)) items → HaveNets first (AreNetsOf cell_plan idents classes) items
all_behind cell_plan idents classes place left first items none counted same have = record {
  nets = have.nets;
  are_behind = have.are_behind;
  hold = subst (λ i. AreNetsOf cell_plan i classes have.nets) (take_all place idents (omega (arith, none, counted)))
      (subst (λ c. AreNetsOf cell_plan (take place idents) c have.nets) (take_all place classes (omega (arith, none, counted, same))) have.hold);
}

-- ---- the nets of the live classes

module _ (classes : ClassTable) (live : List ℕ) (members : List (List Node)) (are_members : members ≡ map (members_of classes) live) where
  shown : {B : Type 0} (f : List Node → B) → map f members ≡ map (λ class. f (members_of classes class)) live
  shown f = ap (map f) are_members ∙ map-map f (members_of classes) live

pub nets_for : (cell_plan : CellPlan) (classes : ClassTable) (members : List (List Node)) (idents : List (List ℕ)) (nets : List Net) → members ≡ map (members_of classes) (live_below cell_plan.cell.nets classes classes.count)
    → AreIdents (map (name_of_class cell_plan.cell.nets cell_plan.cell.ports) members) idents → AreNetsOf cell_plan idents members nets → AreNetsFor cell_plan classes (live_below cell_plan.cell.nets classes classes.count) nets
nets_for cell_plan classes members idents nets are_members are_idents are =
    let live = live_below cell_plan.cell.nets classes classes.count in
    let names : map (name_of_class cell_plan.cell.nets cell_plan.cell.ports) members ≡ net_names cell_plan.cell classes live = shown classes live members are_members (name_of_class cell_plan.cell.nets cell_plan.cell.ports) in
    record {
      are_live = are_live cell_plan.cell.nets classes;
      in_order = refl;
      names = are.names ∙ names;
      idents = subst (AreIdents (net_names cell_plan.cell classes live)) (sym are.under) (subst (λ l. AreIdents l idents) names are_idents);
      no_spare_text = are.no_spare_text;
      apart = subst AreApart (sym are.under) are_idents.apart;
      joined = are.joined ∙ shown classes live members are_members (refs_for cell_plan);
      props = are.props ∙ shown classes live members are_members (λ (nodes : List Node). last_of (class_props cell_plan.cell.nets nodes));
      sound = λ ports nets_sound. are.sound (record { ports = ports; nets = nets_sound });
    }
