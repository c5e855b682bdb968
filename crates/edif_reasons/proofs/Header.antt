-- What the forms edifVersion, edifLevel, viewType and keywordLevel read, which have rows of their own.
use Rattle.std.proofs.Common.{◌≡◌, refl, sym, subst, ℕ, Bool, true, false, not, if◌then◌else◌, List, [], ◌∷◌, ◌++◌, Some, None, Ok, Err, ℤ, pos}
use Rattle.std.specs.Prelude.{codes}
use Rattle.std.specs.Ordering.{int_eq}
use Rattle.grammar.specs.Part.{gives, sequence}
use Rattle.nl_base.specs.Case.{same_up_to_case}
use Rattle.nl_base.specs.declared.fault.Reason.{Reason}
use Rattle.nl_base.specs.declared.fault.Reason.TheVariants as reasons
use Rattle.edif_values.specs.declared.token.Token.{Token}
use Rattle.edif_values.specs.declared.token.Token.TheVariants.{LeftParen, RightParen, Word, Number, Str}
use Rattle.edif_values.specs.declared.keyword.Keyword.{Keyword}
use Rattle.edif_values.specs.declared.keyword.Keyword.TheVariants as k
use Rattle.edif_values.specs.Keywords.{same_keyword}
use Rattle.edif_keywords.specs.Aliases.{Alias}
use Rattle.edif_keywords.specs.Language.{Edif}
use Rattle.edif_keywords.specs.Reasons as say
use Rattle.edif_keywords.specs.Grammar.{closing, view_type, version_number, version, level_number, level, keyword_level_number}
use Rattle.edif_reasons.specs.Context.{Element, Single, Group, Form, Said, Context, placed, with_element, open_lists, at_keyword, after}
use Rattle.edif_reasons.specs.Rows.{is_at, is_over, reason_of}
use Rattle.edif_reasons.proofs.Tracking.{Judged, Tracks, tracks_gives, tracks_one, tracks_then}
use Rattle.edif_reasons.proofs.Standing.{form, NoneHolds, place_tests, calm_by, lists_in, begun}
use Rattle.edif_reasons.proofs.Forms.{outside_in, Stays, Reads, reads_by, tracks_closing}
use Rattle.edif_reasons.proofs.Items.{stays_item}

-- one part, behind which the text stands in a place of some kind, and then another
pub then_from : {A B X : Type 0} (κ : List Alias) (p : Edif A) (q : Edif B) (c : Context) (place : X → Context) (Q : B → Context → Type 0)
    → Tracks κ p c (λ _ d. (x : X) × (d ≡ place x)) → ((x : X) → Tracks κ q (place x) Q) → Tracks κ (sequence p (λ _. q)) c Q
then_from {X = X} κ p q c place Q h l = tracks_then κ p (λ _. q) c (λ _ d. (x : X) × (d ≡ place x)) Q h
    (λ u d i. subst (λ z. Tracks κ q z Q) (sym i.1) (l i.0))

-- the text stands in a form, and this in another form
module _ (said : Said) (g : Form) (around : List Form) (outside : open_lists (g ∷ around) ≡ None) where
  abbrev pub spot : Keyword → List Element → Context
  spot q es = placed said (form q es ∷ g ∷ around)

  -- behind the form
  abbrev pub left_at : Said → Context
  left_at s = placed s (with_element g Group ∷ around)

  pub no_lists : (q : Keyword) (es : List Element) → same_keyword q k.UserData ≡ false → open_lists (form q es ∷ g ∷ around) ≡ None
  no_lists q es e = lists_in (form q es) (g ∷ around) e outside

  abbrev pub OneMore : {A : Type 0} → Keyword → List Element → A → Context → Type 0
  OneMore q es v d = (a : Element) × (d ≡ spot q (es ++ a ∷ []))

  -- what a `)` leaves, where no row speaks of the place
  pub closed : (κ : List Alias) (q : Keyword) (es : List Element) → same_keyword q k.UserData ≡ false
      → NoneHolds (place_tests (form q es ∷ g ∷ around)) → (s : Said) → after (spot q es) RightParen ≡ left_at s
      → Tracks κ closing (spot q es) (λ _ d. d ≡ left_at s)
  closed κ q es user quiet s e = tracks_closing κ (spot q es) (λ _ d. d ≡ left_at s) (calm_by (form q es ∷ g ∷ around) (no_lists q es user) quiet)
      (begun q es g around) e

  -- where a number is due, each other token is unexpected
  abbrev IsNumber : Token → Type 0
  IsNumber (Number n) = Unit {0}
  IsNumber t = ⊥

  no_number : (q : Keyword) (es : List Element) → same_keyword q k.UserData ≡ false → same_keyword q k.ViewType ≡ false
      → same_keyword q k.KeywordAlias ≡ false → (t : Token) → (IsNumber t → ⊥) → reasons.Unexpected ≡ reason_of (spot q es) t
  unfolding is_at at_keyword is_over
  no_number q es user view alias LeftParen isnt = rw (no_lists q es user) refl
  no_number q es user view alias RightParen isnt = refl
  no_number q es user view alias (Word w) isnt = rw (view, alias) refl
  no_number q es user view alias (Number n) isnt = absurd (isnt tt)
  no_number q es user view alias (Str s) isnt = refl

  -- a number that is the one that is due, or has the reason of the form's row
  judged_due : (q : Keyword) (es : List Element) (due : ℤ) (why : Reason) → ((n : ℤ) → int_eq n due ≡ false → why ≡ reason_of (spot q es) (Number n))
      → (n : ℤ) (b : Bool) → int_eq n due ≡ b → Judged (spot q es) (OneMore {A = Unit {0}} q es) (Number n) (if b then Ok tt else Err why)
  judged_due q es due why row n true i = (Single (Number n), refl)
  judged_due q es due why row n false i = row n i

  -- ---- edifVersion

  version_0 : (n : ℤ) → int_eq n (pos 2) ≡ false → reasons.Version ≡ reason_of (spot k.EdifVersion []) (Number n)
  unfolding is_at
  version_0 n e = rw e refl

  version_1 : (a : Element) (n : ℤ) → int_eq n (pos 0) ≡ false → reasons.Version ≡ reason_of (spot k.EdifVersion (a ∷ [])) (Number n)
  unfolding is_at
  version_1 a n e = rw e refl

  version_2 : (a b : Element) (n : ℤ) → int_eq n (pos 0) ≡ false → reasons.Version ≡ reason_of (spot k.EdifVersion (a ∷ b ∷ [])) (Number n)
  unfolding is_at
  version_2 a b n e = rw e refl

  judged_version : (es : List Element) (due : ℤ) → ((n : ℤ) → int_eq n due ≡ false
      → reasons.Version ≡ reason_of (spot k.EdifVersion es) (Number n)) → (t : Token)
      → Judged (spot k.EdifVersion es) (OneMore k.EdifVersion es) t (say.version_of due t)
  judged_version es due row LeftParen = no_number k.EdifVersion es refl refl refl LeftParen (λ h. h)
  judged_version es due row RightParen = no_number k.EdifVersion es refl refl refl RightParen (λ h. h)
  judged_version es due row (Word w) = no_number k.EdifVersion es refl refl refl (Word w) (λ h. h)
  judged_version es due row (Number n) = judged_due k.EdifVersion es due reasons.Version row n (int_eq n due) refl
  judged_version es due row (Str s) = no_number k.EdifVersion es refl refl refl (Str s) (λ h. h)

  version_closed : (κ : List Alias) (a b d : Element) → Tracks κ closing (spot k.EdifVersion (a ∷ b ∷ d ∷ [])) (λ _ d. d ≡ left_at said)
  unfolding is_at is_over
  version_closed κ a b d = closed κ k.EdifVersion (a ∷ b ∷ d ∷ []) refl (
    refl,
    (refl, (refl, (refl, (refl, (refl, (refl, (refl, (refl, tt)))))))),
  ) said refl

  tracks_version_number : (κ : List Alias) (es : List Element) (due : ℤ) → ((n : ℤ) → int_eq n due ≡ false
      → reasons.Version ≡ reason_of (spot k.EdifVersion es) (Number n))
      → Tracks κ (version_number due) (spot k.EdifVersion es) (OneMore k.EdifVersion es)
  tracks_version_number κ es due row = tracks_one κ (λ _ t. say.version_of due t) (spot k.EdifVersion es) (OneMore k.EdifVersion es)
      (judged_version es due row)

  pub tracks_version : (κ : List Alias)
      → Tracks κ (sequence (version_number (pos 2)) (λ _. sequence (version_number (pos 0))
      (λ _. sequence (version_number (pos 0)) (λ _. closing)))) (spot k.EdifVersion []) (λ _ d. d ≡ left_at said)
  tracks_version κ =
      then_from κ (version_number (pos 2)) (sequence (version_number (pos 0)) (λ _. sequence (version_number (pos 0)) (λ _. closing)))
      (spot k.EdifVersion []) (λ a. spot k.EdifVersion (a ∷ [])) (λ _ d. d ≡ left_at said) (tracks_version_number κ [] (pos 2) version_0)
      (λ a. then_from κ (version_number (pos 0)) (sequence (version_number (pos 0)) (λ _. closing)) (spot k.EdifVersion (a ∷ []))
      (λ b. spot k.EdifVersion (a ∷ b ∷ [])) (λ _ d. d ≡ left_at said) (tracks_version_number κ (a ∷ []) (pos 0) (version_1 a))
      (λ b. then_from κ (version_number (pos 0)) closing (spot k.EdifVersion (a ∷ b ∷ [])) (λ d. spot k.EdifVersion (a ∷ b ∷ d ∷ []))
      (λ _ d. d ≡ left_at said) (tracks_version_number κ (a ∷ b ∷ []) (pos 0) (version_2 a b)) (version_closed κ a b)))

  -- ---- edifLevel

  level_0 : (n : ℤ) → int_eq n (pos 0) ≡ false → reasons.Level ≡ reason_of (spot k.EdifLevel []) (Number n)
  unfolding is_at
  level_0 n e = rw e refl

  judged_level : (t : Token) → Judged (spot k.EdifLevel []) (OneMore k.EdifLevel []) t (say.level_of t)
  judged_level LeftParen = no_number k.EdifLevel [] refl refl refl LeftParen (λ h. h)
  judged_level RightParen = no_number k.EdifLevel [] refl refl refl RightParen (λ h. h)
  judged_level (Word w) = no_number k.EdifLevel [] refl refl refl (Word w) (λ h. h)
  judged_level (Number n) = judged_due k.EdifLevel [] (pos 0) reasons.Level level_0 n (int_eq n (pos 0)) refl
  judged_level (Str s) = no_number k.EdifLevel [] refl refl refl (Str s) (λ h. h)

  level_closed : (κ : List Alias) (a : Element) → Tracks κ closing (spot k.EdifLevel (a ∷ [])) (λ _ d. d ≡ left_at said)
  unfolding is_at is_over
  level_closed κ a = closed κ k.EdifLevel (a ∷ []) refl (refl, (refl, (refl, (refl, (refl, (refl, (refl, (refl, (refl, tt))))))))) said refl

  pub tracks_level : (κ : List Alias) → Tracks κ (sequence level_number (λ _. closing)) (spot k.EdifLevel []) (λ _ d. d ≡ left_at said)
  tracks_level κ =
      then_from κ level_number closing (spot k.EdifLevel []) (λ a. spot k.EdifLevel (a ∷ [])) (λ _ d. d ≡ left_at said)
      (tracks_one κ (λ _ t. say.level_of t) (spot k.EdifLevel []) (OneMore k.EdifLevel []) judged_level) (level_closed κ)

  -- ---- viewType

  view_0 : (w : List ℕ) → same_up_to_case w (codes "NETLIST") ≡ false → reasons.ViewType w ≡ reason_of (spot k.ViewType []) (Word w)
  unfolding is_at at_keyword
  view_0 w e = rw e refl

  judged_netlist : (w : List ℕ) (b : Bool) → same_up_to_case w (codes "NETLIST") ≡ b
      → Judged (spot k.ViewType []) (OneMore k.ViewType []) (Word w) (say.view_type_by w b)
  judged_netlist w true i = (Single (Word w), rw (begun k.ViewType [] g around) refl)
  judged_netlist w false i = view_0 w i

  judged_view : (t : Token) → Judged (spot k.ViewType []) (OneMore k.ViewType []) t (say.view_type_of t)
  unfolding is_at is_over
  judged_view LeftParen = rw (no_lists k.ViewType [] refl) refl
  judged_view RightParen = refl
  judged_view (Word w) = judged_netlist w (same_up_to_case w (codes "NETLIST")) refl
  judged_view (Number n) = refl
  judged_view (Str s) = refl

  view_closed : (κ : List Alias) (a : Element) → Tracks κ closing (spot k.ViewType (a ∷ [])) (λ _ d. d ≡ left_at said)
  unfolding is_at is_over
  view_closed κ a = closed κ k.ViewType (a ∷ []) refl (refl, (refl, (refl, (refl, (refl, (refl, (refl, (refl, (refl, tt))))))))) said refl

  pub tracks_view : (κ : List Alias) → Tracks κ (sequence view_type (λ _. closing)) (spot k.ViewType []) (λ _ d. d ≡ left_at said)
  tracks_view κ =
      then_from κ view_type closing (spot k.ViewType []) (λ a. spot k.ViewType (a ∷ [])) (λ _ d. d ≡ left_at said)
      (tracks_one κ (λ _ t. say.view_type_of t) (spot k.ViewType []) (OneMore k.ViewType []) judged_view) (view_closed κ)

  -- ---- keywordLevel

  abbrev pub with_level : ℤ → Said
  with_level n = record { level = Some n; aliases = said.aliases }

  abbrev NumberRead : Bool → Context → Type 0
  NumberRead b d = (n : ℤ) × (int_eq n (pos 0) ≡ not b) × (d ≡ spot k.KeywordLevel (Single (Number n) ∷ []))

  keyword_level_0 : (n : ℤ) → int_eq n (pos 0) ≡ false → int_eq n (pos 1) ≡ false
      → reasons.KeywordLevel ≡ reason_of (spot k.KeywordLevel []) (Number n)
  unfolding is_at
  keyword_level_0 n e f = rw (e, f) refl

  judged_01 : (n : ℤ) (zero_it one_it : Bool) → int_eq n (pos 0) ≡ zero_it → int_eq n (pos 1) ≡ one_it
      → Judged (spot k.KeywordLevel []) NumberRead (Number n) (if zero_it then Ok false else (if one_it then Ok true else Err reasons.KeywordLevel))
  judged_01 n true one_it i j = (n, i, refl)
  judged_01 n false true i j = (n, i, refl)
  judged_01 n false false i j = keyword_level_0 n i j

  judged_keyword_level : (t : Token) → Judged (spot k.KeywordLevel []) NumberRead t (say.keyword_level_of t)
  judged_keyword_level LeftParen = no_number k.KeywordLevel [] refl refl refl LeftParen (λ h. h)
  judged_keyword_level RightParen = no_number k.KeywordLevel [] refl refl refl RightParen (λ h. h)
  judged_keyword_level (Word w) = no_number k.KeywordLevel [] refl refl refl (Word w) (λ h. h)
  judged_keyword_level (Number n) = judged_01 n (int_eq n (pos 0)) (int_eq n (pos 1)) refl refl
  judged_keyword_level (Str s) = no_number k.KeywordLevel [] refl refl refl (Str s) (λ h. h)

  -- behind the form: its number has been said
  abbrev pub LevelSaid : Bool → Context → Type 0
  LevelSaid b d = (n : ℤ) × (int_eq n (pos 0) ≡ not b) × (d ≡ left_at (with_level n))

  keyword_level_closed : (κ : List Alias) (n : ℤ)
      → Tracks κ closing (spot k.KeywordLevel (Single (Number n) ∷ [])) (λ _ d. d ≡ left_at (with_level n))
  unfolding is_at is_over
  keyword_level_closed κ n = closed κ k.KeywordLevel (Single (Number n) ∷ []) refl
      (refl, (refl, (refl, (refl, (refl, (refl, (refl, (refl, (refl, tt))))))))) (with_level n) refl

  level_given : (κ : List Alias) (b : Bool) (n : ℤ) → int_eq n (pos 0) ≡ not b
      → Tracks κ (sequence closing (λ _. gives b)) (spot k.KeywordLevel (Single (Number n) ∷ [])) LevelSaid
  level_given κ b n i =
      tracks_then κ closing (λ _. gives b) (spot k.KeywordLevel (Single (Number n) ∷ [])) (λ _ d. d ≡ left_at (with_level n)) LevelSaid
      (keyword_level_closed κ n) (λ u d e. tracks_gives κ b d LevelSaid (n, i, e))

  pub tracks_keyword_level : (κ : List Alias)
      → Tracks κ (sequence keyword_level_number (λ b. sequence closing (λ _. gives b))) (spot k.KeywordLevel []) LevelSaid
  tracks_keyword_level κ =
      tracks_then κ keyword_level_number (λ b. sequence closing (λ _. gives b)) (spot k.KeywordLevel []) NumberRead LevelSaid
      (tracks_one κ (λ _ t. say.keyword_level_of t) (spot k.KeywordLevel []) NumberRead judged_keyword_level)
      (λ b d i. subst (λ z. Tracks κ (sequence closing (λ _. gives b)) z LevelSaid) (sym i.2) (level_given κ b i.0 i.1))

-- ---- in a form without a row of its own

pub stays_version : Stays version
unfolding version
stays_version = stays_item (k.EdifVersion ∷ []) _ (
  reads_by k.EdifVersion _
      (λ fr es. tracks_version fr.said (form fr.keyword es) (fr.holder ∷ fr.around) (outside_in fr es) fr.said.aliases),
  tt,
)

pub stays_level : Stays level
unfolding level
stays_level = stays_item (k.EdifLevel ∷ []) _ (
  reads_by k.EdifLevel _
      (λ fr es. tracks_level fr.said (form fr.keyword es) (fr.holder ∷ fr.around) (outside_in fr es) fr.said.aliases),
  tt,
)

pub reads_view_type : Reads k.ViewType (sequence view_type (λ _. closing))
reads_view_type = reads_by k.ViewType _ (λ fr es. tracks_view fr.said (form fr.keyword es) (fr.holder ∷ fr.around) (outside_in fr es) fr.said.aliases)
