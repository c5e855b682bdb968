-- The user data, notes and statuses that a text spells are such as a text can have.
use Rattle.std.proofs.Common.{◌≡◌, ◌∙◌, sym, refl, ap, subst, ℕ, zero, suc, ◌+◌, ◌≤◌, List, [], ◌∷◌, ◌++◌, map, Some, None, ℤ, arith}
use Rattle.std.specs.Prelude.{fold, max}
use Rattle.std.specs.List.{AllByRecursion}
use Rattle.grammar.specs.Part.{gives, takes}
use Rattle.nl_bytes.proofs.Uses.{AllByRecursion-push, AllByRecursion-append}
use Rattle.edif_values.specs.declared.token.Token.{Token}
use Rattle.edif_values.specs.declared.token.Token.TheVariants.{LeftParen, RightParen, Word, Number, Str}
use Rattle.edif_values.specs.Proper.{IsProper}
use Rattle.edif_values.proofs.Sizes.{size-Word, size-Number, size-Str}
use Rattle.edif_values.specs.declared.keyword.Keyword.{Keyword}
use Rattle.edif_values.specs.declared.keyword.Keyword.TheVariants as k
use Rattle.edif_values.specs.Keywords.{same_keyword}
use Rattle.edif_keywords.specs.Language.{Edif}
use Rattle.edif_keywords.specs.Grammar.{closing, begin}
use Rattle.edif_keywords.proofs.Kept.{Kept, kept_gives, kept_cond, kept_then, kept_after, kept_while, kept_word, kept_string, kept_integer, kept_form_or, kept_all, kept_strings}
use Rattle.edif_values.specs.declared.user.UserTree.{UserTree}
use Rattle.edif_values.specs.declared.user.UserTree.TheVariants as tree
use Rattle.edif_values.specs.declared.user.UserTree.TheVariants.{rolls-Word, rolls-Number, rolls-Str, rolls-List}
use Rattle.edif_values.specs.declared.user.UserTree.TheFolds.{fold-roll-UserTree}
use Rattle.edif_values.specs.declared.user.UserTree.TheOpen.{UserTree-F}
use Rattle.edif_status.specs.Grammar.{TreeStart, Whole, Opens, tree_of, tree_rest, trees_by, trees, user, note, clock, stamp, version_text, no_version, maybe_version, author, program, data_origin, written_item, written_keywords, written_rest, written, status_item, status_keywords, status_rest, status}
use Rattle.edif_values.specs.Values.{depth_step, depth, together, leaves_step, leaves, IsTree, AreTrees, IsUserData, IsNote, IsStamp, IsVersion, IsWrittenItem, IsWritten, IsStatusItem, IsStatus}

-- ---- the depth and the leaves of a tree

pub word_depth : (w : List ℕ) → depth (tree.Word w) ≡ 0
word_depth w = ap depth (sym (rolls-Word w)) ∙ fold-roll-UserTree ℕ depth_step (UserTree-F.Word w)

pub number_depth : (n : ℤ) → depth (tree.Number n) ≡ 0
number_depth n = ap depth (sym (rolls-Number n)) ∙ fold-roll-UserTree ℕ depth_step (UserTree-F.Number n)

pub string_depth : (s : List ℕ) → depth (tree.Str s) ≡ 0
string_depth s = ap depth (sym (rolls-Str s)) ∙ fold-roll-UserTree ℕ depth_step (UserTree-F.Str s)

pub list_depth : (ts : List UserTree) → depth (tree.List ts) ≡ suc (fold max 0 (map depth ts))
list_depth ts = ap depth (sym (rolls-List ts)) ∙ fold-roll-UserTree ℕ depth_step (UserTree-F.List ts)

pub word_leaves : (w : List ℕ) → leaves (tree.Word w) ≡ Word w ∷ []
word_leaves w = ap leaves (sym (rolls-Word w)) ∙ fold-roll-UserTree (List Token) leaves_step (UserTree-F.Word w)

pub number_leaves : (n : ℤ) → leaves (tree.Number n) ≡ Number n ∷ []
number_leaves n = ap leaves (sym (rolls-Number n)) ∙ fold-roll-UserTree (List Token) leaves_step (UserTree-F.Number n)

pub string_leaves : (s : List ℕ) → leaves (tree.Str s) ≡ Str s ∷ []
string_leaves s = ap leaves (sym (rolls-Str s)) ∙ fold-roll-UserTree (List Token) leaves_step (UserTree-F.Str s)

pub list_leaves : (ts : List UserTree) → leaves (tree.List ts) ≡ together (map leaves ts)
list_leaves ts = ap leaves (sym (rolls-List ts)) ∙ fold-roll-UserTree (List Token) leaves_step (UserTree-F.List ts)

-- ---- what is known of a tree

pub word_tree : (room : ℕ) (w : List ℕ) → IsProper (Word w) → IsTree room (tree.Word w)
word_tree room w h = let d = word_depth w in record { shallow = omega (arith, d); proper = rw (word_leaves w) (h, tt) }

pub number_tree : (room : ℕ) (n : ℤ) → IsProper (Number n) → IsTree room (tree.Number n)
number_tree room n h = let d = number_depth n in record { shallow = omega (arith, d); proper = rw (number_leaves n) (h, tt) }

pub string_tree : (room : ℕ) (s : List ℕ) → IsProper (Str s) → IsTree room (tree.Str s)
string_tree room s h = let d = string_depth s in record { shallow = omega (arith, d); proper = rw (string_leaves s) (h, tt) }

deepest : (room d : ℕ) (ts : List UserTree) → d ≤ room → AreTrees room ts → fold max d (map depth ts) ≤ room
deepest room d [] le all = le
deepest room d (t ∷ ts) le all = deepest room (max d (depth t)) ts (omega (arith, le, all.0.shallow)) all.1

proper_leaves : (room : ℕ) (ts : List UserTree) → AreTrees room ts → AllByRecursion IsProper (together (map leaves ts))
proper_leaves room [] all = tt
proper_leaves room (t ∷ ts) all = AllByRecursion-append IsProper (leaves t) (together (map leaves ts)) all.0.proper (proper_leaves room ts all.1)

list_tree : (room : ℕ) (ts : List UserTree) → AreTrees room ts → IsTree (suc room) (tree.List ts)
list_tree room ts all =
    let d = list_depth ts in
    let m = deepest room 0 ts (omega arith) all in
    record { shallow = omega (arith, d, m); proper = rw (list_leaves ts) (proper_leaves room ts all) }

-- a list of trees within some levels is a tree within one more
pub list_within : (levels : ℕ) (ts : List UserTree) → AreTrees levels ts → IsTree (levels + 1) (tree.List ts)
list_within levels ts all = let t = list_tree levels ts all in record { shallow = omega (arith, t.shallow); proper = t.proper }

-- for a tree that is no list
pub ruleset leaf_values = (word_tree, number_tree, string_tree, size-Word, size-Number, size-Str)

-- ---- user data

-- the rest of a tree behind a token of a text
kept_rest : (room : ℕ) (inner : Edif (List UserTree)) → ((n : ℕ) → room ≡ suc n → Kept inner (AreTrees n)) → (t : Token) (c : TreeStart) → IsProper t → tree_of room t ≡ takes c → Kept (tree_rest inner c) (λ t. IsTree room t)
kept_rest room inner within (Word w) c is h = let same : Whole (tree.Word w) ≡ c = cc in subst (λ c. Kept (tree_rest inner c) (λ t. IsTree room t)) same (kept_gives (tree.Word w) (word_tree room w is))
kept_rest room inner within (Number n) c is h = let same : Whole (tree.Number n) ≡ c = cc in subst (λ c. Kept (tree_rest inner c) (λ t. IsTree room t)) same (kept_gives (tree.Number n) (number_tree room n is))
kept_rest room inner within (Str s) c is h = let same : Whole (tree.Str s) ≡ c = cc in subst (λ c. Kept (tree_rest inner c) (λ t. IsTree room t)) same (kept_gives (tree.Str s) (string_tree room s is))
kept_rest room inner within RightParen c is h = absurd cc
kept_rest zero inner within LeftParen c is h = absurd cc
kept_rest (suc n) inner within LeftParen c is h =
    let same : Opens ≡ c = cc in subst (λ c. Kept (tree_rest inner c) (λ t. IsTree (suc n) t)) same (kept_then (within n refl) (λ ts all. kept_gives (tree.List ts) (list_tree n ts all)))

kept_trees_by : (room : ℕ) (inner : Edif (List UserTree)) → ((n : ℕ) → room ≡ suc n → Kept inner (AreTrees n)) → (so_far : List UserTree) → AreTrees room so_far → Kept (trees_by room inner so_far) (AreTrees room)
unfolding trees_by
kept_trees_by room inner within so_far all =
    kept_while (AreTrees room) _ _ _ (λ s all table x c is h. kept_then (kept_rest room inner within x.token c is h) (λ t good. kept_gives (s ++ t ∷ []) (AllByRecursion-push (λ t. IsTree room t) s t all good)))
    (λ s all. kept_after closing (λ _. kept_gives s all)) so_far all

pub kept_trees : (room : ℕ) (so_far : List UserTree) → AreTrees room so_far → Kept (trees room so_far) (AreTrees room)
unfolding trees
kept_trees zero so_far all = kept_trees_by zero (gives []) (λ n e. absurd cc) so_far all
kept_trees (suc room) so_far all = kept_trees_by (suc room) (trees room []) (λ n e. subst (λ m. Kept (trees room []) (AreTrees m)) (let f : room ≡ n = omega (arith, e) in f) (kept_trees room [] tt)) so_far all

pub kept_user : Kept user IsUserData
unfolding user
kept_user = kept_then kept_word (λ w is. kept_then (kept_trees 64 [] tt) (λ ts all. kept_gives (record { name = w; trees = ts }) (record { name = is; trees = all })))

-- ---- notes

pub kept_note : (q : Keyword) → Kept (note q) IsNote
kept_note q = kept_cond (same_keyword q k.Comment) _ _ (kept_then (kept_strings [] tt) (λ ts all. kept_gives _ all)) (kept_then kept_user (λ u is. kept_gives _ is))

-- ---- written

kept_clock : (year month day : ℤ) → IsProper (Number year) → IsProper (Number month) → IsProper (Number day) → Kept (clock year month day) IsStamp
unfolding clock
kept_clock year month day y m d =
    kept_then kept_integer (λ hour h. kept_then kept_integer (λ minute n. kept_then kept_integer (λ second s. kept_after closing (λ _. kept_gives _ (record { year = y; month = m; day = d; hour = h; minute = n; second = s })))))

kept_stamp : Kept stamp IsStamp
unfolding stamp
kept_stamp = kept_then kept_integer (λ year y. kept_then kept_integer (λ month m. kept_then kept_integer (λ day d. kept_clock year month day y m d)))

kept_version_text : Kept version_text IsVersion
unfolding version_text
kept_version_text = kept_then kept_string (λ s is. kept_after closing (λ _. kept_after closing (λ _. kept_gives (Some s) is)))

kept_no_version : Kept no_version IsVersion
unfolding no_version
kept_no_version = kept_after closing (λ _. kept_gives None tt)

kept_maybe_version : Kept maybe_version IsVersion
unfolding maybe_version
kept_maybe_version = kept_form_or (k.Version ∷ []) (λ q _. kept_version_text) kept_no_version

kept_author : Kept author IsWrittenItem
unfolding author
kept_author = kept_then kept_string (λ s is. kept_after closing (λ _. kept_gives _ is))

kept_program : Kept program IsWrittenItem
unfolding program
kept_program = kept_then kept_string (λ s is. kept_then kept_maybe_version (λ v good. kept_gives _ (is, good)))

kept_data_origin : Kept data_origin IsWrittenItem
unfolding data_origin
kept_data_origin = kept_then kept_string (λ s is. kept_then kept_maybe_version (λ v good. kept_gives _ (is, good)))

kept_written_item : (q : Keyword) → Kept (written_item q) IsWrittenItem
kept_written_item q =
    kept_cond (same_keyword q k.Author) author _ kept_author
    (kept_cond (same_keyword q k.Program) program _ kept_program (kept_cond (same_keyword q k.DataOrigin) data_origin _ kept_data_origin (kept_then (kept_note q) (λ n is. kept_gives _ is))))

kept_written_rest : Kept (written_rest []) (λ is. AllByRecursion IsWrittenItem is)
unfolding written_rest
kept_written_rest = kept_all IsWrittenItem (λ _. written_keywords) written_item (λ s q _. kept_written_item q) [] tt

pub kept_written : Kept written IsWritten
unfolding written
kept_written = kept_after (begin (k.TimeStamp ∷ [])) (λ _. kept_then kept_stamp (λ s is. kept_then kept_written_rest (λ items all. kept_gives (record { stamp = s; items = items }) (record { stamp = is; items = all }))))

-- ---- status

kept_status_item : (q : Keyword) → Kept (status_item q) IsStatusItem
kept_status_item q = kept_cond (same_keyword q k.Written) _ _ (kept_then kept_written (λ w is. kept_gives _ is)) (kept_then (kept_note q) (λ n is. kept_gives _ is))

kept_status_rest : Kept (status_rest []) (λ is. AllByRecursion IsStatusItem is)
unfolding status_rest
kept_status_rest = kept_all IsStatusItem (λ _. status_keywords) status_item (λ s q _. kept_status_item q) [] tt

pub kept_status : Kept status IsStatus
unfolding status
kept_status = kept_then kept_status_rest (λ items all. kept_gives (record { items = items }) all)
