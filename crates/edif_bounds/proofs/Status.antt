-- Properties, user data, notes and statuses have no more items than tokens.
use Rattle.std.proofs.Common.{◌≡◌, subst, ℕ, zero, suc, List, [], ◌∷◌, ◌++◌, arith}
use Rattle.grammar.specs.Part.{gives, takes}
use Rattle.edif_values.specs.declared.token.Token.{Token}
use Rattle.edif_values.specs.declared.token.Token.TheVariants.{LeftParen, RightParen, Word, Number, Str}
use Rattle.edif_values.specs.declared.keyword.Keyword.{Keyword}
use Rattle.edif_values.specs.declared.keyword.Keyword.TheVariants as k
use Rattle.edif_values.specs.Keywords.{same_keyword}
use Rattle.edif_keywords.specs.Language.{Edif}
use Rattle.edif_keywords.specs.Grammar.{word, string, closing, begin}
use Rattle.edif_names.specs.Grammar.{name, value, owner, tail_form, tails, property}
use Rattle.edif_values.specs.declared.user.UserTree.{UserTree}
use Rattle.edif_values.specs.declared.user.UserTree.TheVariants as tree
use Rattle.edif_status.specs.Grammar.{TreeStart, Whole, Opens, tree_of, tree_rest, trees_by, trees, user, note, stamp, maybe_version, author, program, data_origin, written_item, written_keywords, written_rest, written, status_item, status_keywords, status_rest, status}
use Rattle.edif_values.proofs.Sizes.{size-Word, size-Number, size-Str, size-List}
use Rattle.edif_values.specs.Sizes.{list_size, tail_size, property_size, tree_size, note_size, written_item_size, written_size, status_item_size, status_size}
use Rattle.edif_bounds.proofs.Bounds.{Bounded, bounded_gives, bounded_then, bounded_after, bounded_cond, bounded_while, bounded_items, bounded_comment, one_item, bounded_behind}

-- ---- properties

bounded_owner : Bounded owner tail_size 0
unfolding owner
bounded_owner = bounded_after string (λ s. bounded_after closing (λ _. bounded_gives _ (omega arith)))

bounded_tail_form : (q : Keyword) → Bounded (tail_form q) tail_size 0
unfolding tail_form
bounded_tail_form q = bounded_cond (same_keyword q k.Owner) owner _ bounded_owner (bounded_then bounded_comment (λ ts. bounded_gives _ (omega arith)))

bounded_tails : Bounded (tails []) (list_size tail_size) 0
unfolding tails
bounded_tails = bounded_items tail_size (λ _. k.Owner ∷ k.Comment ∷ []) tail_form bounded_tail_form []

pub bounded_property : Bounded property property_size 0
unfolding property
bounded_property = bounded_after name (λ n. bounded_after value (λ v. bounded_then bounded_tails (λ ts. bounded_gives _ (omega arith))))

-- ---- user data

-- a tree that is no list has no items
whole_tree : (room : ℕ) (inner : Edif (List UserTree)) → Bounded inner (list_size tree_size) 0 → (t : Token) (c : TreeStart) → tree_of room t ≡ takes c → Bounded (tree_rest inner c) tree_size 0
whole_tree room inner within (Word w) c h = let same : Whole (tree.Word w) ≡ c = cc in subst (λ c. Bounded (tree_rest inner c) tree_size 0) same (bounded_gives (tree.Word w) (let e = size-Word w in omega (arith, e)))
whole_tree room inner within (Number n) c h = let same : Whole (tree.Number n) ≡ c = cc in subst (λ c. Bounded (tree_rest inner c) tree_size 0) same (bounded_gives (tree.Number n) (let e = size-Number n in omega (arith, e)))
whole_tree room inner within (Str s) c h = let same : Whole (tree.Str s) ≡ c = cc in subst (λ c. Bounded (tree_rest inner c) tree_size 0) same (bounded_gives (tree.Str s) (let e = size-Str s in omega (arith, e)))
whole_tree room inner within RightParen c h = absurd cc
whole_tree zero inner within LeftParen c h = absurd cc
whole_tree (suc n) inner within LeftParen c h =
    let same : Opens ≡ c = cc in subst (λ c. Bounded (tree_rest inner c) tree_size 0) same (bounded_then within (λ ts. bounded_gives (tree.List ts) (let e = size-List ts in omega (arith, e))))

bounded_trees_by : (room : ℕ) (inner : Edif (List UserTree)) → Bounded inner (list_size tree_size) 0 → (s : List UserTree) → Bounded (trees_by room inner s) (list_size tree_size) (list_size tree_size s)
unfolding trees_by
bounded_trees_by room inner within s =
    bounded_while (list_size tree_size) _ _ _ (λ s table x c h. bounded_then (bounded_behind (suc (list_size tree_size s)) (whole_tree room inner within x.token c h)) (λ t. bounded_gives (s ++ t ∷ []) (one_item tree_size s t)))
    (λ s. bounded_after closing (λ _. bounded_gives s (omega arith))) s

bounded_trees : (room : ℕ) (s : List UserTree) → Bounded (trees room s) (list_size tree_size) (list_size tree_size s)
unfolding trees
bounded_trees zero s = bounded_trees_by zero (gives []) (bounded_gives [] (omega arith)) s
bounded_trees (suc room) s = bounded_trees_by (suc room) (trees room []) (bounded_trees room []) s

-- ---- notes

bounded_user : Bounded user (λ u. list_size tree_size u.trees) 0
unfolding user
bounded_user = bounded_after word (λ w. bounded_then (bounded_trees 64 []) (λ ts. bounded_gives _ (omega arith)))

pub bounded_note : (q : Keyword) → Bounded (note q) note_size 0
bounded_note q = bounded_cond (same_keyword q k.Comment) _ _ (bounded_then bounded_comment (λ ts. bounded_gives _ (omega arith))) (bounded_then bounded_user (λ u. bounded_gives _ (omega arith)))

-- ---- status

bounded_author : Bounded author written_item_size 0
unfolding author
bounded_author = bounded_after string (λ s. bounded_after closing (λ _. bounded_gives _ (omega arith)))

bounded_program : Bounded program written_item_size 0
unfolding program
bounded_program = bounded_after string (λ s. bounded_after maybe_version (λ v. bounded_gives _ (omega arith)))

bounded_data_origin : Bounded data_origin written_item_size 0
unfolding data_origin
bounded_data_origin = bounded_after string (λ s. bounded_after maybe_version (λ v. bounded_gives _ (omega arith)))

bounded_written_item : (q : Keyword) → Bounded (written_item q) written_item_size 0
bounded_written_item q =
    bounded_cond (same_keyword q k.Author) author _ bounded_author
    (bounded_cond (same_keyword q k.Program) program _ bounded_program
    (bounded_cond (same_keyword q k.DataOrigin) data_origin _ bounded_data_origin (bounded_then (bounded_note q) (λ n. bounded_gives _ (omega arith)))))

bounded_written_rest : Bounded (written_rest []) (list_size written_item_size) 0
unfolding written_rest
bounded_written_rest = bounded_items written_item_size (λ _. written_keywords) written_item bounded_written_item []

bounded_written : Bounded written written_size 0
unfolding written
bounded_written = bounded_after (begin (k.TimeStamp ∷ [])) (λ _. bounded_after stamp (λ s. bounded_then bounded_written_rest (λ is. bounded_gives _ (omega arith))))

bounded_status_item : (q : Keyword) → Bounded (status_item q) status_item_size 0
bounded_status_item q = bounded_cond (same_keyword q k.Written) _ _ (bounded_then bounded_written (λ w. bounded_gives _ (omega arith))) (bounded_then (bounded_note q) (λ n. bounded_gives _ (omega arith)))

bounded_status_rest : Bounded (status_rest []) (list_size status_item_size) 0
unfolding status_rest
bounded_status_rest = bounded_items status_item_size (λ _. status_keywords) status_item bounded_status_item []

pub bounded_status : Bounded status status_size 0
unfolding status
bounded_status = bounded_then bounded_status_rest (λ is. bounded_gives _ (omega arith))
