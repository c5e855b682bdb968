-- User data, notes and status are read as the extended BNF has them.
use Rattle.std.proofs.Common.{◌≡◌, ◌∙◌, sym, ap, subst, refl, ◌⊎◌, inl, inr, ℕ, zero, suc, List, [], ◌∷◌, ◌++◌, append_assoc, append-nil}
use Rattle.grammar.specs.Part.{Glance, gives, sequence, takes}
use Rattle.grammar.specs.Texts.{Spells, ends, goes}
use Rattle.grammar.specs.Whole.{proper, end}
use Rattle.nl_base.specs.declared.fault.Reason.{Reason}
use Rattle.readers.specs.Parts.{while_next}
use Rattle.edif_tokens.specs.declared.token.Found.{Found}
use Rattle.edif_values.specs.declared.token.Token.{Token}
use Rattle.edif_values.specs.declared.token.Token.TheVariants.{LeftParen, RightParen, Word, Number, Str}
use Rattle.edif_values.specs.declared.keyword.Keyword.{Keyword}
use Rattle.edif_values.specs.declared.keyword.Keyword.TheVariants as k
use Rattle.edif_keywords.specs.Aliases.{Alias}
use Rattle.edif_keywords.specs.Language.{Edif}
use Rattle.edif_keywords.specs.Grammar.{item}
use Rattle.edif_values.specs.declared.user.UserTree.{UserTree}
use Rattle.edif_values.specs.declared.user.UserTree.TheVariants as tree_values
use Rattle.edif_values.specs.declared.note.Note.{Note}
use Rattle.edif_values.specs.declared.note.Note.TheVariants as notes
use Rattle.edif_values.specs.declared.written.WrittenItem.TheVariants as written_items
use Rattle.edif_values.specs.declared.status.StatusItem.TheVariants as status_items
use Rattle.edif_status.specs.Grammar as grammar
use Rattle.edif_status.specs.Grammar.{TreeStart, Whole, Opens, tree_of, tree_rest, trees_by, trees, note_keywords, clock, stamp, version_text, no_version, maybe_version, author, program, data_origin, written_keywords, written_rest, status_keywords, status_rest}
use Rattle.edif_productions.specs.Production.{Production, optional, many, form, list, meaning, ◌·◌, ◌∣◌, Tokens, IsToken, ManyText, no_more, one_more, Texts, ident, int, str, HasTextsOf, form_of}
use Rattle.edif_productions.specs.Notes.{leaf, tree, user_data, note, written_item, stamp_of, written, status}
use Rattle.edif_productions.proofs.OneToken.{alone, words, strings, integers, closing_text, text_closing}
use Rattle.edif_productions.proofs.Combining.{ReadsOn, then_on, ends_on, gives_on, whole_form, meant}
use Rattle.edif_productions.proofs.Alternatives.{one_form, or_form, optional_form}
use Rattle.edif_productions.proofs.Alike.{grouped, alike}
use Rattle.edif_productions.proofs.Repeating.{many_forms}
use Rattle.edif_productions.proofs.NameTexts.{comments}

-- ---- trees

-- a token that begins a tree, and what is read on behind it
record Begun (k : List Alias) (room : ℕ) (inner : Edif (List UserTree)) (ts : Tokens) (t : UserTree) : Type 0 where
  first : Found
  start : TreeStart
  rest : Tokens
  is : ts ≡ proper first ∷ rest
  taken : tree_of room first.token ≡ takes start
  text : Spells k (tree_rest inner start) rest t

-- Trees that begin where so many lists may be opened, and whose lists are read on so, have the texts of the production.
record AreTreesOf (room : ℕ) (inner : Edif (List UserTree)) (P : Production UserTree) : Type 0 where
  to : (k : List Alias) (ts : Tokens) (t : UserTree) → Begun k room inner ts t → Texts k P ts t
  from : (k : List Alias) (ts : Tokens) (t : UserTree) → Texts k P ts t → Begun k room inner ts t

module _ {room : ℕ} {inner : Edif (List UserTree)} {P : Production UserTree} (h : AreTreesOf room inner P) (k : List Alias) where
  -- trees behind others, and `)`
  record Ended (before : List UserTree) (ts : Tokens) (all : List UserTree) : Type 0 where
    later : List UserTree
    value : all ≡ before ++ later
    inside : Tokens
    behind : Tokens
    is : ts ≡ inside ++ behind
    text : Texts k (many P) inside later
    closes : IsToken RightParen behind

  ended : (before : List UserTree) (ts : Tokens) (all : List UserTree) → Spells k (trees_by room inner before) ts all → Ended before ts all
  unfolding trees_by while_next
  ended before ts all (ends (u, a, b, e, c, (n, f))) = record {
    later = [];
    value = f ∙ sym (append-nil before);
    inside = [];
    behind = a;
    is = e ∙ alone a b n;
    text = no_more refl refl;
    closes = closing_text k a u c;
  }
  ended before ts all (goes t a b (proper x, c, r, m, taken, (i, p, n, e, s, (z, f))) more w) =
      let last = ended t b all more in
      let one = h.to k (proper x ∷ p) i (record { first = x; start = c; rest = p; is = refl; taken = taken; text = s }) in
      let a_is : a ≡ proper x ∷ p = m ∙ ap (λ y. proper x ∷ y) (e ∙ alone p n z) in
      record {
        later = i ∷ last.later;
        value = last.value ∙ ap (λ y. y ++ last.later) f ∙ append_assoc before (i ∷ []) last.later;
        inside = (proper x ∷ p) ++ last.inside;
        behind = last.behind;
        is = w ∙ ap (λ y. y ++ b) a_is ∙ ap (λ y. (proper x ∷ p) ++ y) last.is ∙ sym (append_assoc (proper x ∷ p) last.inside last.behind);
        text = one_more i last.later (proper x ∷ p) last.inside refl one last.text refl;
        closes = last.closes;
      }
  ended before ts all (goes t a b (end p, c, r, m, taken, s) more w) = absurd cc

  read_trees : (before : List UserTree) (a b : Tokens) (later : List UserTree) → ManyText (Texts k P) a later → IsToken RightParen b
      → Spells k (trees_by room inner before) (a ++ b) (before ++ later)
  unfolding trees_by while_next
  read_trees before a b later (no_more e n) close =
      ends (tt, b, [], ap (λ z. z ++ b) e ∙ sym (append-nil b), text_closing k b close, (refl, ap (λ z. before ++ z) n ∙ append-nil before))
  read_trees before a b later (one_more i is c d e t more n) close =
      let y = h.from k c i t in
      let last = read_trees (before ++ i ∷ []) d b is more close in
      let value : (before ++ i ∷ []) ++ is ≡ before ++ later = append_assoc before (i ∷ []) is ∙ ap (λ z. before ++ z) (sym n) in
      goes (before ++ i ∷ []) c (d ++ b)
      (proper y.first, y.start, y.rest, y.is, y.taken, (i, y.rest, [], sym (append-nil y.rest), y.text, (refl, refl)))
      (subst (λ z. Spells k (trees_by room inner (before ++ i ∷ [])) (d ++ b) z) value last)
      (ap (λ z. z ++ b) e ∙ append_assoc c d b)

trees_on : (room : ℕ) (inner : Edif (List UserTree)) (P : Production UserTree) → AreTreesOf room inner P → ReadsOn (trees_by room inner []) (many P)
trees_on room inner P h = record {
  is_text = λ k ts v s. let r = ended h k [] ts v s in
      record {
        inside = r.inside;
        behind = r.behind;
        is = r.is;
        text = subst (λ z. Texts k (many P) r.inside z) (sym r.value) r.text;
        closes = r.closes;
      };
  is_spelled = λ k ts v t. subst (λ z. Spells k (trees_by room inner []) z v) (sym t.is) (read_trees h k [] t.inside t.behind v t.text t.closes);
}

-- ---- one tree

-- what begins a tree is taken
abbrev Took : TreeStart → Glance TreeStart Reason
Took c = takes c

-- a tree that is whole with its first token
module _ (k : List Alias) (inner : Edif (List UserTree)) (whole : UserTree) (c : TreeStart) (rest : Tokens) (t : UserTree) where
  whole_tree : Took (Whole whole) ≡ Took c → Spells k (tree_rest inner c) rest t → (rest ≡ []) × (t ≡ whole)
  whole_tree h s = let same : Whole whole ≡ c = cc in subst (λ z. Spells k (tree_rest inner z) rest t) (sym same) s

-- a leaf, by its token
leaf_text : (k : List Alias) (room : ℕ) (inner : Edif (List UserTree)) (x : Found) (token : Token) (c : TreeStart) (rest : Tokens) (t : UserTree)
    → x.token ≡ token → (token ≡ LeftParen → ⊥) → tree_of room token ≡ takes c → Spells k (tree_rest inner c) rest t
    → Texts k leaf (proper x ∷ rest) t
leaf_text k room inner x LeftParen c rest t is other h s = absurd (other refl)
leaf_text k room inner x RightParen c rest t is other h s = absurd cc
leaf_text k room inner x (Word w) c rest t is other h s =
    let e = whole_tree k inner (tree_values.Word w) c rest t h s in
    inl (w, (x, ap (λ z. proper x ∷ z) e.0, is), e.1)
leaf_text k room inner x (Number n) c rest t is other h s =
    let e = whole_tree k inner (tree_values.Number n) c rest t h s in
    inr (inl (n, (x, ap (λ z. proper x ∷ z) e.0, is), e.1))
leaf_text k room inner x (Str r) c rest t is other h s =
    let e = whole_tree k inner (tree_values.Str r) c rest t h s in
    inr (inr (r, (x, ap (λ z. proper x ∷ z) e.0, is), e.1))

text_leaf : (k : List Alias) (room : ℕ) (inner : Edif (List UserTree)) (ts : Tokens) (t : UserTree) → Texts k leaf ts t → Begun k room inner ts t
text_leaf k room inner ts t (inl (w, (x, e, is), f)) =
    record { first = x; start = Whole (tree_values.Word w); rest = []; is = e; taken = ap (tree_of room) is; text = (refl, f) }
text_leaf k room inner ts t (inr (inl (n, (x, e, is), f))) =
    record { first = x; start = Whole (tree_values.Number n); rest = []; is = e; taken = ap (tree_of room) is; text = (refl, f) }
text_leaf k room inner ts t (inr (inr (s, (x, e, is), f))) =
    record { first = x; start = Whole (tree_values.Str s); rest = []; is = e; taken = ap (tree_of room) is; text = (refl, f) }

-- whether a token is `(`
opens_or_not : (t : Token) → (t ≡ LeftParen) ⊎ (t ≡ LeftParen → ⊥)
opens_or_not LeftParen = inl refl
opens_or_not RightParen = inr (λ e. absurd cc)
opens_or_not (Word w) = inr (λ e. absurd cc)
opens_or_not (Number n) = inr (λ e. absurd cc)
opens_or_not (Str s) = inr (λ e. absurd cc)

-- no list, where none may be opened
no_list : (c : TreeStart) (t : Token) → t ≡ LeftParen → tree_of zero t ≡ takes c → ⊥
no_list c t e h = let m : tree_of zero LeftParen ≡ takes c = ap (tree_of zero) (sym e) ∙ h in absurd cc

leaves_alone : AreTreesOf zero (gives []) (tree zero)
unfolding tree
leaves_alone = record {
  to = λ k ts t b. subst (λ z. Texts k leaf z t) (sym b.is)
      (leaf_text k zero (gives []) b.first b.first.token b.start b.rest t refl (λ e. no_list b.start b.first.token e b.taken) b.taken b.text);
  from = λ k ts t x. text_leaf k zero (gives []) ts t x;
}

-- a list, where one may be opened
module _ (room : ℕ) (inner : Edif (List UserTree)) (P : Production UserTree) (h : ReadsOn inner (many P)) (k : List Alias) where
  -- ( {TREE} )
  abbrev Lists : Production UserTree
  Lists = list (meaning (λ ts. tree_values.List ts) (many P))

  list_text : (x : Found) (c : TreeStart) (rest : Tokens) (t : UserTree) → x.token ≡ LeftParen → tree_of (suc room) x.token ≡ takes c
      → Spells k (tree_rest inner c) rest t → Texts k Lists (proper x ∷ rest) t
  list_text x c rest t is taken s = by (subst (λ z. Spells k (tree_rest inner z) rest t) (sym opens) s)
    where
      opens : Opens ≡ c
      opens = let m : Took Opens ≡ Took c = ap (tree_of (suc room)) (sym is) ∙ taken in cc

      by : Spells k (sequence inner (λ ts. gives (tree_values.List ts))) rest t → Texts k Lists (proper x ∷ rest) t
      by (us, a, b, e, s, (n, f)) =
          let r = h.is_text k a us s in
          record {
            before = proper x ∷ [];
            inside = r.inside;
            behind = r.behind;
            is = ap (λ z. proper x ∷ z) (e ∙ alone a b n ∙ r.is);
            opens = (x, refl, is);
            text = (us, r.text, f);
            closes = r.closes;
          }

  text_list : (ts : Tokens) (t : UserTree) → Texts k Lists ts t → Begun k (suc room) inner ts t
  text_list ts t l = record {
    first = l.opens.0;
    start = Opens;
    rest = l.inside ++ l.behind;
    is = l.is ∙ ap (λ z. z ++ (l.inside ++ l.behind)) l.opens.1;
    taken = ap (tree_of (suc room)) l.opens.2;
    text = (
      l.text.0,
      l.inside ++ l.behind,
      [],
      sym (append-nil (l.inside ++ l.behind)),
      h.is_spelled k (l.inside ++ l.behind) l.text.0
          (record { inside = l.inside; behind = l.behind; is = refl; text = l.text.1; closes = l.closes }),
      (refl, l.text.2),
    );
  }

  tree_text : (ts : Tokens) (t : UserTree) → Begun k (suc room) inner ts t → Texts k (leaf ∣ Lists) ts t
  tree_text ts t b = subst (λ z. Texts k (leaf ∣ Lists) z t) (sym b.is) (elim (opens_or_not b.first.token) [
    | inl is ↦ inr (list_text b.first b.start b.rest t is b.taken b.text)
    | inr leaf_first ↦ inl (leaf_text k (suc room) inner b.first b.first.token b.start b.rest t refl leaf_first b.taken b.text)
  ])

  text_tree : (ts : Tokens) (t : UserTree) → Texts k (leaf ∣ Lists) ts t → Begun k (suc room) inner ts t
  text_tree ts t (inl x) = text_leaf k (suc room) inner ts t x
  text_tree ts t (inr x) = text_list ts t x

leaves_and_lists : (room : ℕ) → ReadsOn (trees room []) (many (tree room)) → AreTreesOf (suc room) (trees room []) (tree (suc room))
unfolding tree
leaves_and_lists room h =
    record {
      to = λ k ts t b. tree_text room (trees room []) (tree room) h k ts t b;
      from = λ k ts t x. text_tree room (trees room []) (tree room) h k ts t x;
    }

all_trees : (room : ℕ) → ReadsOn (trees room []) (many (tree room))
unfolding trees
all_trees zero = trees_on zero (gives []) (tree zero) leaves_alone
all_trees (suc room) = trees_on (suc room) (trees room []) (tree (suc room)) (leaves_and_lists room (all_trees room))

-- ---- user data and notes

user_bodies : ReadsOn grammar.user (meaning (λ x. record { name = x.0; trees = x.1 }) (ident · many (tree 64)))
unfolding grammar.user
user_bodies = then_on (λ w ts. record { name = w; trees = ts }) words (λ w. gives_on (λ ts. record { name = w; trees = ts }) (all_trees 64))

pub user_forms : HasTextsOf (form_of k.UserData grammar.user) user_data
unfolding user_data
user_forms = whole_form k.UserData user_bodies

pub all_notes : HasTextsOf (item note_keywords grammar.note) note
unfolding note
all_notes =
    or_form grammar.note k.Comment (k.UserData ∷ []) (meant (k.Comment ∷ []) (λ ts. notes.Comment ts) comments)
    (one_form grammar.note k.UserData (meant (k.UserData ∷ []) (λ u. notes.User u) user_forms))

-- a note among other forms
pub note_among : {I : Type 0} (f : Note → I) (rest : Keyword → Edif I) → rest k.Comment ≡ sequence (grammar.note k.Comment) (λ n. gives (f n))
    → rest k.UserData ≡ sequence (grammar.note k.UserData) (λ n. gives (f n)) → HasTextsOf (item note_keywords rest) (meaning f note)
note_among f rest c u = alike k.Comment k.UserData rest (λ q. sequence (grammar.note q) (λ n. gives (f n))) c u (meant note_keywords f all_notes)

-- ---- status

stamps : ReadsOn stamp (meaning stamp_of (int · int · int · int · int · int))
unfolding stamp clock
stamps =
    then_on (λ y x. stamp_of (y, x)) integers
    (λ y. then_on (λ m x. stamp_of (y, (m, x))) integers
    (λ m. then_on (λ d x. stamp_of (y, (m, (d, x)))) integers
    (λ d. then_on (λ h x. stamp_of (y, (m, (d, (h, x))))) integers
    (λ h. then_on (λ i s. stamp_of (y, (m, (d, (h, (i, s)))))) integers (λ i. ends_on (λ s. stamp_of (y, (m, (d, (h, (i, s)))))) integers)))))

versions : ReadsOn maybe_version (optional (form k.Version str))
unfolding maybe_version version_text no_version
versions = optional_form k.Version strings

written_parts : HasTextsOf (item written_keywords grammar.written_item) written_item
unfolding written_item author program data_origin
written_parts =
    or_form grammar.written_item k.Author (k.Program ∷ k.DataOrigin ∷ note_keywords)
    (whole_form k.Author (ends_on (λ s. written_items.Author s) strings))
    (or_form grammar.written_item k.Program (k.DataOrigin ∷ note_keywords)
    (whole_form k.Program (then_on (λ s v. written_items.Program s v) strings (λ s. gives_on (λ v. written_items.Program s v) versions)))
    (or_form grammar.written_item k.DataOrigin note_keywords
    (whole_form k.DataOrigin (then_on (λ s v. written_items.DataOrigin s v) strings (λ s. gives_on (λ v. written_items.DataOrigin s v) versions)))
    (note_among (λ n. written_items.Note n) grammar.written_item refl refl)))

written_bodies : ReadsOn grammar.written
    (meaning (λ x. record { stamp = x.0; items = x.1 }) (form k.TimeStamp (meaning stamp_of (int · int · int · int · int · int)) · many written_item))
unfolding grammar.written written_rest
written_bodies =
    grouped (then_on (λ s is. record { stamp = s; items = is }) (whole_form k.TimeStamp stamps)
    (λ s. gives_on (λ is. record { stamp = s; items = is }) (many_forms written_keywords written_parts)))

pub written_forms : HasTextsOf (form_of k.Written grammar.written) written
unfolding written
written_forms = whole_form k.Written written_bodies

status_parts : HasTextsOf (item status_keywords grammar.status_item)
    (meaning (λ w. status_items.Written w) written ∣ meaning (λ n. status_items.Note n) note)
status_parts =
    or_form grammar.status_item k.Written note_keywords (meant (k.Written ∷ []) (λ w. status_items.Written w) written_forms)
    (note_among (λ n. status_items.Note n) grammar.status_item refl refl)

pub status_forms : HasTextsOf (form_of k.Status grammar.status) status
unfolding status grammar.status status_rest
status_forms = whole_form k.Status (gives_on (λ is. record { items = is }) (many_forms status_keywords status_parts))
