-- What is written of user data, notes and status spells them.
use Rattle.std.proofs.Common.{◌≡◌, ℕ, zero, suc, ◌≤◌, List, [], ◌∷◌, ◌++◌, map, Some, None, refl, sym, ap, ◌∙◌, subst, append_assoc, append-nil, arith}
use Rattle.std.specs.Prelude.{fold, max, ℤ}
use Rattle.std.specs.List.{AllByRecursion}
use Rattle.grammar.specs.Part.{gives}
use Rattle.edif_values.specs.declared.token.Token.{Token}
use Rattle.edif_values.specs.declared.token.Token.TheVariants as t
use Rattle.edif_values.specs.Proper.{IsProper}
use Rattle.edif_values.specs.declared.keyword.Keyword.TheVariants as k
use Rattle.edif_values.specs.Keywords.{spelling, has}
use Rattle.edif_keywords.specs.Grammar.{comment}
use Rattle.edif_keywords.specs.Language.{Edif}
use Rattle.edif_values.specs.declared.user.UserTree.{UserTree, ind-UserTree}
use Rattle.edif_values.specs.declared.user.UserTree.TheViews.{roll-UserTree}
use Rattle.edif_values.specs.declared.user.UserTree.TheOpen.{UserTree-F}
use Rattle.edif_values.specs.declared.user.UserTree.TheVariants.{rolls-Word, rolls-Number, rolls-Str, rolls-List}
use Rattle.edif_values.specs.declared.user.UserTree.TheVariants as tree
use Rattle.edif_values.specs.declared.user.UserData.{UserData}
use Rattle.edif_values.specs.declared.note.Note.TheVariants as noted
use Rattle.edif_values.specs.declared.written.Stamp.{Stamp}
use Rattle.edif_values.specs.declared.written.WrittenItem.{WrittenItem}
use Rattle.edif_values.specs.declared.written.WrittenItem.TheVariants as written_items
use Rattle.edif_values.specs.declared.status.StatusItem.{StatusItem}
use Rattle.edif_values.specs.declared.status.StatusItem.TheVariants as status_items
use Rattle.edif_values.specs.declared.status.Status.{Status}
use Rattle.edif_values.specs.Values.{depth, leaves, together, IsTree, AreTrees, IsUserData, IsWrittenItem, IsStatusItem, IsStatus}
use Rattle.readers.specs.Items.{as_item}
use Rattle.edif_status.specs.Grammar.{Whole, Opens, tree_of, trees_by, trees, user, clock, stamp, version_text, no_version, maybe_version, author, program, data_origin, written_item, written_keywords, written_rest, written, status_item, status_keywords, status_rest, status}
use Rattle.edif_status.proofs.Kept.{list_depth, list_leaves}
use Rattle.edif_writer.specs.Forms as form
use Rattle.edif_writer.specs.Layout.{Form, Str, Block, each, all}
use Rattle.edif_writer.proofs.Trees.{word_form, number_form, str_form, list_form}
use Rattle.edif_lexing.specs.Tokens.{tokens, part_tokens, block_tokens, line_tokens}
use Rattle.edif_rereading.proofs.Spelled.{Spelled, nothing, then, after, at_last, a_word, a_string, an_integer, a_close, closes, begins, form_here, other_here, last_round, next_round, IsItem, item, line_items, strings_spelled}

-- ---- trees

pub tree_cases : (P : UserTree → Type 0) → ((w : List ℕ) → P (tree.Word w)) → ((n : ℤ) → P (tree.Number n)) → ((s : List ℕ) → P (tree.Str s)) → ((ts : List UserTree) → P (tree.List ts)) → (t : UserTree) → P t
tree_cases P word number str list t = ind-UserTree P (λ x y e. by_layer x) t
  where
    by_layer : (x : UserTree-F UserTree) → P (roll-UserTree x)
    by_layer (UserTree-F.Word w) = subst P (sym (rolls-Word w)) (word w)
    by_layer (UserTree-F.Number n) = subst P (sym (rolls-Number n)) (number n)
    by_layer (UserTree-F.Str s) = subst P (sym (rolls-Str s)) (str s)
    by_layer (UserTree-F.List ts) = subst P (sym (rolls-List ts)) (list ts)

fold_max : (d : ℕ) (ts : List UserTree) → d ≤ fold max d (map depth ts)
fold_max d [] = omega arith
fold_max d (t ∷ ts) = omega (arith, fold_max (max d (depth t)) ts)

sides : (a b : List Token) → AllByRecursion IsProper (a ++ b) → AllByRecursion IsProper a × AllByRecursion IsProper b
sides [] b h = (tt, h)
sides (x ∷ a) b h = let s = sides a b h.1 in ((h.0, s.0), s.1)

shallow : (room d : ℕ) (ts : List UserTree) → fold max d (map depth ts) ≤ room → AllByRecursion IsProper (together (map leaves ts)) → AreTrees room ts
shallow room d [] h p = tt
shallow room d (t ∷ ts) h p =
    let s = sides (leaves t) (together (map leaves ts)) p in
    let deep : depth t ≤ room = omega (arith, h, fold_max (max d (depth t)) ts) in
    (record { shallow = deep; proper = s.0 }, shallow room (max d (depth t)) ts h s.1)

-- the trees of a list
pub inner_trees : (n : ℕ) (ts : List UserTree) → IsTree (suc n) (tree.List ts) → AreTrees n ts
inner_trees n ts h =
    let d = h.shallow in
    let e = list_depth ts in
    shallow n 0 ts (omega (arith, d, e)) (subst (λ (z : List Token). AllByRecursion IsProper z) (list_leaves ts) h.proper)

pub no_list : (ts : List UserTree) → IsTree 0 (tree.List ts) → ⊥
no_list ts h = let d = h.shallow in let e = list_depth ts in omega (arith, d, e)

module _ (room : ℕ) (inner : Edif (List UserTree)) (within : (n : ℕ) (us : List UserTree) → room ≡ suc n → AreTrees n us → Spelled inner (part_tokens (each form.tree_form us)) us) where
  abbrev Next : List UserTree → UserTree → Type 0
  Next so_far x = IsTree room x → (b : List Token) (v : List UserTree) → Spelled (trees_by room inner (so_far ++ x ∷ [])) b v → Spelled (trees_by room inner so_far) (tokens (form.tree_form x) ++ b) v

  next_tree : (so_far : List UserTree) (x : UserTree) → Next so_far x
  unfolding trees_by
  next_tree so_far x = tree_cases (Next so_far)
      (λ w d b v y. rw (word_form w) (next_round (tree_of room) _ _ so_far {a = []} (so_far ++ tree.Word w ∷ []) (Whole (tree.Word w)) refl (at_last (nothing (tree.Word w))) y))
      (λ n d b v y. rw (number_form n) (next_round (tree_of room) _ _ so_far {a = []} (so_far ++ tree.Number n ∷ []) (Whole (tree.Number n)) refl (at_last (nothing (tree.Number n))) y))
      (λ s d b v y. rw (str_form s) (next_round (tree_of room) _ _ so_far {a = []} (so_far ++ tree.Str s ∷ []) (Whole (tree.Str s)) refl (at_last (nothing (tree.Str s))) y))
      (λ us d b v y. by_room room refl us d b v y) x
    where
      by_room : (n : ℕ) → room ≡ n → (us : List UserTree) → IsTree room (tree.List us) → (b : List Token) (v : List UserTree)
          → Spelled (trees_by room inner (so_far ++ tree.List us ∷ [])) b v → Spelled (trees_by room inner so_far) (tokens (form.tree_form (tree.List us)) ++ b) v
      by_room zero e us d b v y = absurd (no_list us (subst (λ (m : ℕ). IsTree m (tree.List us)) e d))
      by_room (suc n) e us d b v y =
          let d2 : IsTree (suc n) (tree.List us) = subst (λ (m : ℕ). IsTree m (tree.List us)) e d in
          rw (list_form us) (next_round (tree_of room) _ _ so_far (so_far ++ tree.List us ∷ []) Opens (rw e refl) (at_last (at_last (within n us e (inner_trees n us d2)))) y)

  these_trees : (so_far ts : List UserTree) → AreTrees room ts → Spelled (trees_by room inner so_far) (part_tokens (each form.tree_form ts)) (so_far ++ ts)
  unfolding trees_by
  these_trees so_far [] h =
      subst (λ (v : List UserTree). Spelled (trees_by room inner so_far) (t.RightParen ∷ []) v) (sym (append-nil so_far)) (last_round (tree_of room) _ _ so_far (closes so_far))
  these_trees so_far (x ∷ ts) h =
      subst (λ (v : List UserTree). Spelled (trees_by room inner so_far) (tokens (form.tree_form x) ++ part_tokens (each form.tree_form ts)) v) (append_assoc so_far (x ∷ []) ts)
      (next_tree so_far x h.0 (part_tokens (each form.tree_form ts)) ((so_far ++ x ∷ []) ++ ts) (these_trees (so_far ++ x ∷ []) ts h.1))

pub trees_spelled : (room : ℕ) (ts : List UserTree) → AreTrees room ts → Spelled (trees room []) (part_tokens (each form.tree_form ts)) ts
unfolding trees
trees_spelled zero ts h = these_trees zero (gives []) (λ n us e s. absurd cc) [] ts h
trees_spelled (suc room) ts h = these_trees (suc room) (trees room []) (λ n us e s. trees_spelled room us (let f : n ≡ room = omega (arith, e) in subst (λ (m : ℕ). AreTrees m us) f s)) [] ts h

-- ---- notes

pub comment_spelled : (ts : List (List ℕ)) → Spelled (as_item noted.Comment comment) (part_tokens (each Str ts)) (noted.Comment ts)
comment_spelled ts = at_last (strings_spelled [] ts)

pub user_spelled : (u : UserData) → IsUserData u → Spelled (as_item noted.User user) (t.Word u.name ∷ part_tokens (each form.tree_form u.trees)) (noted.User u)
unfolding user
user_spelled u g = at_last (after (a_word u.name) (at_last (trees_spelled 64 u.trees g.trees)))

-- ---- status

stamp_spelled : (s : Stamp) → Spelled stamp (t.Number s.year ∷ t.Number s.month ∷ t.Number s.day ∷ t.Number s.hour ∷ t.Number s.minute ∷ t.Number s.second ∷ t.RightParen ∷ []) s
unfolding stamp clock
stamp_spelled s =
    after (an_integer s.year) (after (an_integer s.month) (after (an_integer s.day) (after (an_integer s.hour) (after (an_integer s.minute) (after (an_integer s.second) (closes _))))))

written_item_spelled : (i : WrittenItem) → IsWrittenItem i → IsItem written_keywords written_item (tokens (form.written_item_form i)) i
unfolding author program data_origin maybe_version version_text no_version has
written_item_spelled (written_items.Author s) g = item k.Author refl (after (a_string s) (closes _))
written_item_spelled (written_items.Program s None) g = item k.Program refl (after (a_string s) (at_last (other_here _ _ _ (closes _))))
written_item_spelled (written_items.Program s (Some v)) g = item k.Program refl (after (a_string s) (at_last (form_here _ _ _ k.Version refl (after (a_string v) (after a_close (closes _))))))
written_item_spelled (written_items.DataOrigin s None) g = item k.DataOrigin refl (after (a_string s) (at_last (other_here _ _ _ (closes _))))
written_item_spelled (written_items.DataOrigin s (Some v)) g = item k.DataOrigin refl (after (a_string s) (at_last (form_here _ _ _ k.Version refl (after (a_string v) (after a_close (closes _))))))
written_item_spelled (written_items.Note (noted.Comment ts)) g = item k.Comment refl (at_last (comment_spelled ts))
written_item_spelled (written_items.Note (noted.User u)) g = item k.UserData refl (at_last (user_spelled u g))

status_item_spelled : (i : StatusItem) → IsStatusItem i → IsItem status_keywords status_item (tokens (form.status_item_form i)) i
unfolding written written_rest has
status_item_spelled (status_items.Written w) g =
    item k.Written refl (at_last (begins _ k.TimeStamp refl (then (stamp_spelled w.stamp) (at_last (line_items written_keywords written_item form.written_item_form IsWrittenItem written_item_spelled w.items g.items)))))
status_item_spelled (status_items.Note (noted.Comment ts)) g = item k.Comment refl (at_last (comment_spelled ts))
status_item_spelled (status_items.Note (noted.User u)) g = item k.UserData refl (at_last (user_spelled u g))

-- a status on one line
pub status_spelled : (s : Status) → IsStatus s → Spelled status (part_tokens (each form.status_item_form s.items)) s
unfolding status status_rest
status_spelled s g = at_last (line_items status_keywords status_item form.status_item_form IsStatusItem status_item_spelled s.items g)

-- items have the same tokens on one line and on lines of their own
alike : {I : Type 0} (form : I → Form) (block : I → Block) → ((i : I) → block_tokens (block i) ≡ tokens (form i)) → (is : List I) → line_tokens (all block is) ≡ part_tokens (each form is)
alike form block same [] = refl
alike form block same (i ∷ is) = ap (λ (z : List Token). z ++ line_tokens (all block is)) (same i) ∙ ap (λ (z : List Token). tokens (form i) ++ z) (alike form block same is)

status_item_alike : (i : StatusItem) → block_tokens (form.status_item_block i) ≡ tokens (form.status_item_form i)
status_item_alike (status_items.Written w) =
    ap (λ (z : List Token). t.LeftParen ∷ t.Word (spelling k.Written) ∷ (tokens (form.stamp_form w.stamp) ++ z)) (alike form.written_item_form form.written_item_block (λ i. refl) w.items)
status_item_alike (status_items.Note n) = refl

-- a status on lines of its own
pub status_on_lines : (s : Status) → IsStatus s → Spelled status (line_tokens (all form.status_item_block s.items)) s
status_on_lines s g = subst (λ (z : List Token). Spelled status z s) (sym (alike form.status_item_form form.status_item_block status_item_alike s.items)) (status_spelled s g)
