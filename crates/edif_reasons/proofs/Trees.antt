-- What user data read: up to 64 lists, one in another, whose words are no keywords. Notes.
use Rattle.std.proofs.Common.{◌≡◌, refl, sym, ap, subst, ℕ, zero, suc, ◌+◌, Bool, true, false, ◌&&◌, List, [], ◌∷◌, ◌++◌, Option, Some, None, arith}
use Rattle.grammar.specs.Part.{gives, sequence}
use Rattle.grammar.specs.Reading.{read}
use Rattle.grammar.specs.Whole.{Terminal, proper, end}
use Rattle.nl_base.specs.declared.place.Place.{Place}
use Rattle.readers.specs.Parts.{of_token, at_token, one, while_next}
use Rattle.edif_tokens.specs.declared.token.Found.{Found}
use Rattle.edif_values.specs.declared.token.Token.{Token}
use Rattle.edif_values.specs.declared.token.Token.TheVariants.{LeftParen, RightParen, Word, Number, Str}
use Rattle.edif_values.specs.declared.keyword.Keyword.{Keyword}
use Rattle.edif_values.specs.declared.keyword.Keyword.TheVariants as k
use Rattle.edif_keywords.specs.Aliases.{Alias}
use Rattle.edif_keywords.specs.Language.{Edif}
use Rattle.edif_keywords.specs.Reasons as say
use Rattle.edif_keywords.specs.Grammar.{word, closing, comment}
use Rattle.edif_values.specs.declared.user.UserTree.{UserTree}
use Rattle.edif_values.specs.declared.user.UserTree.TheVariants as tree
use Rattle.edif_values.specs.declared.user.UserData.{UserData}
use Rattle.edif_values.specs.declared.note.Note.{Note}
use Rattle.edif_values.specs.declared.note.Note.TheVariants as notes
use Rattle.readers.specs.Items.{as_item}
use Rattle.edif_status.specs.Grammar.{TreeStart, Whole, Opens, tree_of, tree_rest, trees_by, trees, user, note, note_keywords}
use Rattle.edif_reasons.specs.Context.{Tokens, Element, Single, Group, Form, Said, Context, placed, with_element, open_lists, at_keyword, said_by, after, behind_all}
use Rattle.edif_reasons.specs.Rows.{is_at, is_over, reason_at}
use Rattle.edif_reasons.proofs.Tracking.{Judged, judged_token, Says, Seen, seen_each, Tracks, tracks_gives, says_one, tracks_one, says_sequence, tracks_then, tracks_rounds}
use Rattle.edif_reasons.proofs.Standing.{form, begun}
use Rattle.edif_reasons.proofs.Forms.{Frame, In, opened, Reads, ends_as, reads_as, reads_plainly}
use Rattle.edif_reasons.proofs.Items.{Each, ends_comment}

-- user data, or a list in them
pub record Data : Type 0 where
  pub said : Said
  pub keyword : Option Keyword
  pub holder : Form
  pub around : List Form
  -- how many lists are open
  pub lists : ℕ
  pub are_open : (es : List Element) → open_lists ((record { keyword = keyword; elements = es }) ∷ holder ∷ around) ≡ Some lists
  pub no_keyword : (es : List Element) → at_keyword ((record { keyword = keyword; elements = es }) ∷ holder ∷ around) ≡ false
  pub says_nothing : (es : List Element) → said_by said (record { keyword = keyword; elements = es }) ≡ said

abbrev pub standing : Data → List Element → Form
standing d es = record { keyword = d.keyword; elements = es }

abbrev pub within : Data → List Element → Context
within d es = placed d.said (standing d es ∷ d.holder ∷ d.around)

abbrev pub Within : Data → Context → Type 0
Within d c = (es : List Element) × (c ≡ within d es)

-- behind the data, or the list
abbrev pub over : Data → Context
over d = placed d.said (with_element d.holder Group ∷ d.around)

not_both : (b : Bool) → (b && false) ≡ false
not_both true = refl
not_both false = refl

pub one_more : (es : List Element) (f : Form) (around : List Form) (n : ℕ) → open_lists (f ∷ around) ≡ Some n
    → open_lists ((record { keyword = None; elements = es }) ∷ f ∷ around) ≡ Some (n + 1)
unfolding open_lists
one_more es f around n h = ap (λ (o : Option ℕ). deeper o) h
  where
    deeper : Option ℕ → Option ℕ
    deeper None = None
    deeper (Some n) = Some (n + 1)

pub in_list : (es : List Element) (f : Form) (around : List Form) (n : ℕ) → open_lists (f ∷ around) ≡ Some n
    → at_keyword ((record { keyword = None; elements = es }) ∷ f ∷ around) ≡ false
unfolding at_keyword
in_list es f around n h = rw h (not_both _)

-- a list in the data
abbrev pub inner : Data → List Element → Data
inner d es = record {
  said = d.said;
  keyword = None;
  holder = standing d es;
  around = d.holder ∷ d.around;
  lists = d.lists + 1;
  are_open = λ fs. one_more fs (standing d es) (d.holder ∷ d.around) d.lists (d.are_open es);
  no_keyword = λ fs. in_list fs (standing d es) (d.holder ∷ d.around) d.lists (d.are_open es);
  says_nothing = λ fs. refl;
}

-- ---- trees

module _ (κ : List Alias) (rest : Edif (List UserTree)) (d : Data) where
  abbrev round : List UserTree → TreeStart → Edif (List UserTree)
  round s v = sequence (tree_rest rest v) (λ t. gives (s ++ t ∷ []))

  -- a tree that is no list
  whole_at : (s : List UserTree) (es : List Element) (u : UserTree) (c : Context) → Within d c → Tracks κ (round s (Whole u)) c (λ _ c. Within d c)
  whole_at s es u c i =
      tracks_then κ (gives u) (λ t. gives (s ++ t ∷ [])) c (λ _ c. Within d c) (λ _ c. Within d c) (tracks_gives κ u c (λ _ c. Within d c) i)
      (λ t c i. tracks_gives κ (s ++ t ∷ []) c (λ _ c. Within d c) i)

  list_at : (s : List UserTree) (es : List Element) → Tracks κ rest (within (inner d es) []) (λ _ c. c ≡ over (inner d es))
      → Tracks κ (round s Opens) (within (inner d es) []) (λ _ c. Within d c)
  list_at s es h =
      tracks_then κ (tree_rest rest Opens) (λ t. gives (s ++ t ∷ [])) (within (inner d es) []) (λ _ c. Within d c) (λ _ c. Within d c)
      (tracks_then κ rest (λ ts. gives (tree.List ts)) (within (inner d es) []) (λ _ c. c ≡ over (inner d es)) (λ _ c. Within d c) h
      (λ ts c i. tracks_gives κ (tree.List ts) c (λ _ c. Within d c) (es ++ Group ∷ [], i)))
      (λ t c i. tracks_gives κ (s ++ t ∷ []) c (λ _ c. Within d c) i)

  -- ---- the `)` of the trees

  judged_close : (es : List Element) (t : Token) → t ≡ RightParen → Judged (within d es) (λ _ c. c ≡ over d) t (say.closing_of t)
  judged_close es LeftParen is = absurd cc
  judged_close es RightParen is = rw (d.says_nothing es) refl
  judged_close es (Word w) is = absurd cc
  judged_close es (Number n) is = absurd cc
  judged_close es (Str s) is = absurd cc

  abbrev Last : List UserTree → List Element → Terminal Found Place → Tokens → Type 0
  Last s es x b = Says κ (sequence closing (λ _. gives s)) (within d es) (λ _ c. c ≡ over d) (x ∷ b)
      (read κ (sequence closing (λ _. gives s)) (x ∷ b))

  then_gives : (s : List UserTree) (es : List Element) (x : Terminal Found Place) (b : Tokens)
      → Says κ closing (within d es) (λ _ c. c ≡ over d) (x ∷ b) (read κ closing (x ∷ b)) → Last s es x b
  then_gives s es x b h =
      says_sequence κ closing (λ _. gives s) (within d es) (λ _ c. c ≡ over d) (λ _ c. c ≡ over d) (x ∷ b) h
      (λ u a b parts i. (tracks_gives κ s (behind_all (within d es) a) (λ _ c. c ≡ over d) i).says b)

  last_token : (s : List UserTree) (es : List Element) (x : Found) → x.token ≡ RightParen → (b : Tokens) → Last s es (proper x) b
  unfolding one
  last_token s es x is b =
      then_gives s es (proper x) b
      (says_one κ (λ _ t. of_token (λ (y : Found). say.closing_of y.token) t) (within d es) (λ _ c. c ≡ over d) (proper x) b
      (judged_token (within d es) (λ _ c. c ≡ over d) x (say.closing_of x.token) (judged_close es x.token is)))

  last_end : (s : List UserTree) (es : List Element) (p : Place) (b : Tokens) → Last s es (end p) b
  unfolding one reason_at
  last_end s es p b = then_gives s es (end p) b (says_one κ (λ _ t. of_token (λ (y : Found). say.closing_of y.token) t) (within d es)
      (λ _ c. c ≡ over d) (end p) b refl)

  -- ---- a tree that is looked at

  abbrev Tree : List UserTree → TreeStart → Context → Type 0
  Tree s v c = Tracks κ (round s v) c (λ _ c. Within d c)

  module _ (s : List UserTree) (es : List Element) where
    whole_word : (w : List ℕ) → Tree s (Whole (tree.Word w)) (after (within d es) (Word w))
    whole_word w = whole_at s es (tree.Word w) (after (within d es) (Word w)) (es ++ Single (Word w) ∷ [], rw (d.no_keyword es) refl)

    -- where no list may be opened
    seen_full : d.lists ≡ 64 → (t : Token) → Seen (Tree s) (Last s es) (within d es) t (tree_of zero t)
    seen_full full LeftParen = rw (d.are_open es, full) refl
    seen_full full RightParen = λ x is b. last_token s es x is b
    seen_full full (Word w) = whole_word w
    seen_full full (Number n) = whole_at s es (tree.Number n) (after (within d es) (Number n)) (es ++ Single (Number n) ∷ [], refl)
    seen_full full (Str t) = whole_at s es (tree.Str t) (after (within d es) (Str t)) (es ++ Single (Str t) ∷ [], refl)

    seen_open : (room : ℕ) → Tracks κ rest (within (inner d es) []) (λ _ c. c ≡ over (inner d es)) → (t : Token)
        → Seen (Tree s) (Last s es) (within d es) t (tree_of (suc room) t)
    seen_open room h LeftParen = list_at s es h
    seen_open room h RightParen = λ x is b. last_token s es x is b
    seen_open room h (Word w) = whole_word w
    seen_open room h (Number n) = whole_at s es (tree.Number n) (after (within d es) (Number n)) (es ++ Single (Number n) ∷ [], refl)
    seen_open room h (Str t) = whole_at s es (tree.Str t) (after (within d es) (Str t)) (es ++ Single (Str t) ∷ [], refl)

  pub tracks_trees_by : (room : ℕ) → ((s : List UserTree) (es : List Element) (t : Token)
      → Seen (Tree s) (Last s es) (within d es) t (tree_of room t)) → (s : List UserTree) (es : List Element)
      → Tracks κ (trees_by room rest s) (within d es) (λ _ c. c ≡ over d)
  unfolding trees_by while_next
  tracks_trees_by room seen s es =
      tracks_rounds κ (λ _ _ x. at_token (λ (y : Found). tree_of room y.token) x) round (λ s. sequence closing (λ _. gives s))
      (λ _ es. within d es) (λ _ c. c ≡ over d)
      (λ s es. seen_each (Tree s) (Last s es) (within d es) (tree_of room) (seen s es) (last_end s es)) s es

tracks_trees : (κ : List Alias) (room : ℕ) (d : Data) → d.lists + room ≡ 64 → (s : List UserTree) (es : List Element)
    → Tracks κ (trees room s) (within d es) (λ _ c. c ≡ over d)
unfolding trees
tracks_trees κ zero d full s es = tracks_trees_by κ (gives []) d zero (λ s es. seen_full κ (gives []) d s es (omega (arith, full))) s es
tracks_trees κ (suc room) d full s es = tracks_trees_by κ (trees room []) d (suc room)
    (λ s es. seen_open κ (trees room []) d s es room (tracks_trees κ room (inner d es) (omega (arith, full)) [] [])) s es

-- ---- user data and notes

pub no_list : (es : List Element) (g : Form) (around : List Form) → open_lists (form k.UserData es ∷ g ∷ around) ≡ Some 0
unfolding open_lists
no_list es g around = refl

abbrev pub data_of : Frame → List Element → Data
data_of fr es = record {
  said = fr.said;
  keyword = Some k.UserData;
  holder = form fr.keyword es;
  around = fr.holder ∷ fr.around;
  lists = 0;
  are_open = λ fs. no_list fs (form fr.keyword es) (fr.holder ∷ fr.around);
  no_keyword = λ fs. begun k.UserData fs (form fr.keyword es) (fr.holder ∷ fr.around);
  says_nothing = λ fs. refl;
}

-- the word behind userData
judged_name : (fr : Frame) (es : List Element) (t : Token) → Judged (opened fr es k.UserData) (λ _ c. Within (data_of fr es) c) t (say.word_of t)
unfolding open_lists is_at is_over
judged_name fr es LeftParen = refl
judged_name fr es RightParen = refl
judged_name fr es (Word w) = (Single (Word w) ∷ [], rw (begun k.UserData [] (form fr.keyword es) (fr.holder ∷ fr.around)) refl)
judged_name fr es (Number n) = refl
judged_name fr es (Str s) = refl

abbrev user_made : List ℕ → List UserTree → UserData
user_made w ts = record { name = w; trees = ts }

abbrev user_rest : List ℕ → Edif UserData
user_rest w = sequence (trees 64 []) (λ ts. gives (user_made w ts))

pub reads_user : Reads k.UserData user
unfolding user
reads_user fr es =
    tracks_then fr.said.aliases word user_rest (opened fr es k.UserData) (λ _ c. Within (data_of fr es) c) (λ _ c. In fr c)
    (tracks_one fr.said.aliases (λ _ t. say.word_of t) (opened fr es k.UserData) (λ _ c. Within (data_of fr es) c) (judged_name fr es))
    (λ w c i. subst (λ z. Tracks fr.said.aliases (user_rest w) z (λ _ c. In fr c)) (sym i.1)
    (tracks_then fr.said.aliases (trees 64 []) (λ ts. gives (user_made w ts)) (within (data_of fr es) i.0) (λ _ c. c ≡ over (data_of fr es))
    (λ _ c. In fr c)
    (tracks_trees fr.said.aliases 64 (data_of fr es) refl [] i.0)
    (λ ts c i. tracks_gives fr.said.aliases (user_made w ts) c (λ _ c. In fr c) (es ++ Group ∷ [], i))))

pub reads_user_note : Reads k.UserData (as_item notes.User user)
reads_user_note = reads_as notes.User k.UserData reads_user

pub reads_comment_note : Reads k.Comment (as_item notes.Comment comment)
reads_comment_note = reads_plainly k.Comment refl (ends_as notes.Comment ends_comment)

-- a note, as one of the items of a form
pub reads_notes : {I : Type 0} (f : Note → I) → Each note_keywords (λ q. Reads q (as_item f (note q)))
reads_notes f = (reads_as f k.Comment reads_comment_note, (reads_as f k.UserData reads_user_note, tt))
