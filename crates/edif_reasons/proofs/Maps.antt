-- What a keywordMap reads: its level, and aliases, each of which is in force from its `)` on. The header.
use Rattle.std.proofs.Common.{◌≡◌, ◌∙◌, refl, sym, subst, ℕ, Bool, true, false, not, if◌then◌else◌, List, [], ◌∷◌, ◌++◌, Option, Some, None, ℤ}
use Rattle.grammar.specs.Part.{gives, sequence}
use Rattle.nl_base.specs.declared.fault.Reason.TheVariants as reasons
use Rattle.readers.specs.Parts.{at_token, while_next}
use Rattle.edif_tokens.specs.declared.token.Found.{Found}
use Rattle.edif_values.specs.declared.token.Token.{Token}
use Rattle.edif_values.specs.declared.token.Token.TheVariants.{LeftParen, RightParen, Word, Number, Str}
use Rattle.edif_values.specs.declared.keyword.Keyword.{Keyword}
use Rattle.edif_values.specs.declared.keyword.Keyword.TheVariants as k
use Rattle.edif_values.specs.Keywords.{has, same_keyword}
use Rattle.edif_keywords.specs.Aliases.{Alias, means, one_more}
use Rattle.edif_keywords.specs.Language.{Edif}
use Rattle.edif_keywords.specs.Reasons as say
use Rattle.edif_keywords.specs.Grammar.{closing, forms, comment, keyword_level_number, keyword_level, new_word, known_word, alias, map_keywords, map_keyword, map_form, map_item, map_items, keyword_map, version, level, header}
use Rattle.edif_values.proofs.Same.{spelled_alike}
use Rattle.edif_reasons.specs.Context.{Element, Single, Group, Form, Said, Context, placed, with_element, untouched, open_lists, at_keyword}
use Rattle.edif_reasons.specs.Rows.{is_level_0, in_plain_map, is_at, is_over, reason_of}
use Rattle.edif_reasons.proofs.Tracking.{Judged, Tracks, tracks_gives, tracks_one, tracks_then, tracks_under, tracks_rounds, tracks_less}
use Rattle.edif_reasons.proofs.Standing.{form, plain_by, IsCalm, calm_by, IsWord, no_word, lists_in, begun, is_plain_map, map_is, no_map, elsewhere, no_alias, above_level}
use Rattle.edif_reasons.proofs.Forms.{Frame, inside, In, past, calm, begun_in, outside_in, from_in}
use Rattle.edif_reasons.proofs.Items.{calm_here, is_here, Behind, judged_word, tracks_form, Each, each_of, seen_opening, ends_comment}
use Rattle.edif_reasons.proofs.Header.{no_lists, closed, LevelSaid, tracks_keyword_level, stays_version, stays_level}

-- what the header has said so far
abbrev pub saying : Option ℤ → List Alias → Said
saying l t = record { level = l; aliases = t }

-- the map stands in a form
module _ (h : Form) (around : List Form) (outside : open_lists (h ∷ around) ≡ None) where
  abbrev pub map_of : List Element → List Form
  map_of es = form k.KeywordMap es ∷ h ∷ around

  pub map_outside : (es : List Element) → open_lists (map_of es) ≡ None
  map_outside es = lists_in (form k.KeywordMap es) (h ∷ around) refl outside

  calm_map : (es : List Element) → IsCalm (map_of es)
  unfolding is_at is_over
  calm_map es = calm_by (map_of es) (map_outside es) (refl, (refl, (refl, (refl, (refl, (refl, (refl, (refl, (refl, tt)))))))))

  module _ (l : Option ℤ) (t : List Alias) (es : List Element) where
    -- behind an item of the map
    abbrev pub ItemBehind : List Alias → Context → Type 0
    ItemBehind s d = d ≡ placed (saying l s) (map_of (es ++ Group ∷ []))

    -- ---- an alias

    abbrev in_alias : List Element → Context
    in_alias fs = placed (saying l t) (form k.KeywordAlias fs ∷ map_of es)

    no_word_in : (fs : List Element) (tok : Token) → (IsWord tok → ⊥) → reasons.Unexpected ≡ reason_of (in_alias fs) tok
    unfolding is_at is_over
    no_word_in fs LeftParen isnt = rw (no_lists (saying l t) (form k.KeywordMap es) (h ∷ around) (map_outside es) k.KeywordAlias fs refl) refl
    no_word_in fs RightParen isnt = refl
    no_word_in fs (Word w) isnt = absurd (isnt tt)
    no_word_in fs (Number n) isnt = refl
    no_word_in fs (Str s) isnt = refl

    clash : (w : List ℕ) (q : Keyword) → means t w ≡ Some q → reasons.AliasClash ≡ reason_of (in_alias []) (Word w)
    unfolding is_at at_keyword
    clash w q m = rw m refl

    unmeant : (w : List ℕ) (a : Element) → means t w ≡ None → reasons.AliasUnknown ≡ reason_of (in_alias (a ∷ [])) (Word w)
    unfolding is_at at_keyword
    unmeant w a m = rw m refl

    -- the first word
    abbrev FirstBehind : List ℕ → Context → Type 0
    FirstBehind w d = d ≡ in_alias (Single (Word w) ∷ [])

    judged_new : (w : List ℕ) (o : Option Keyword) → means t w ≡ o → Judged (in_alias []) FirstBehind (Word w) (say.new_by w o)
    judged_new w None m = rw (begun k.KeywordAlias [] (form k.KeywordMap es) (h ∷ around)) refl
    judged_new w (Some q) m = clash w q m

    judged_first : (tok : Token) → Judged (in_alias []) FirstBehind tok (say.new_word_of t tok)
    judged_first LeftParen = no_word_in [] LeftParen (λ h. h)
    judged_first RightParen = no_word_in [] RightParen (λ h. h)
    judged_first (Word w) = judged_new w (means t w) refl
    judged_first (Number n) = no_word_in [] (Number n) (λ h. h)
    judged_first (Str s) = no_word_in [] (Str s) (λ h. h)

    -- the second word
    module _ (w : List ℕ) where
      abbrev two : List ℕ → List Element
      two v = Single (Word w) ∷ Single (Word v) ∷ []

      abbrev SecondBehind : Keyword → Context → Type 0
      SecondBehind q d = (v : List ℕ) × (means t v ≡ Some q) × (d ≡ in_alias (two v))

      judged_known : (v : List ℕ) (o : Option Keyword) → means t v ≡ o
          → Judged (in_alias (Single (Word w) ∷ [])) SecondBehind (Word v) (say.known_by o)
      judged_known v None m = unmeant v (Single (Word w)) m
      judged_known v (Some q) m = (v, m, rw (begun k.KeywordAlias (Single (Word w) ∷ []) (form k.KeywordMap es) (h ∷ around)) refl)

      judged_second : (tok : Token) → Judged (in_alias (Single (Word w) ∷ [])) SecondBehind tok (say.known_word_of t tok)
      judged_second LeftParen = no_word_in (Single (Word w) ∷ []) LeftParen (λ h. h)
      judged_second RightParen = no_word_in (Single (Word w) ∷ []) RightParen (λ h. h)
      judged_second (Word v) = judged_known v (means t v) refl
      judged_second (Number n) = no_word_in (Single (Word w) ∷ []) (Number n) (λ h. h)
      judged_second (Str s) = no_word_in (Single (Word w) ∷ []) (Str s) (λ h. h)

      alias_closed : (v : List ℕ) (q : Keyword) → means t v ≡ Some q → Tracks t closing (in_alias (two v)) (λ _ d. ItemBehind (one_more t w q) d)
      unfolding is_at is_over
      alias_closed v q m =
          closed (saying l t) (form k.KeywordMap es) (h ∷ around) (map_outside es) t k.KeywordAlias (two v) refl
          (refl, (refl, (refl, (refl, (refl, (refl, (refl, (refl, (refl, tt))))))))) (saying l (one_more t w q))
          (rw m refl)

      alias_given : (v : List ℕ) (q : Keyword) → means t v ≡ Some q
          → Tracks t (sequence closing (λ _. gives (one_more t w q))) (in_alias (two v)) ItemBehind
      alias_given v q m =
          tracks_then t closing (λ _. gives (one_more t w q)) (in_alias (two v)) (λ _ d. ItemBehind (one_more t w q) d) ItemBehind
          (alias_closed v q m) (λ u d e. tracks_gives t (one_more t w q) d ItemBehind e)

      alias_second : Tracks t (sequence known_word (λ q. sequence closing (λ _. gives (one_more t w q)))) (in_alias (Single (Word w) ∷ [])) ItemBehind
      alias_second =
          tracks_then t known_word (λ q. sequence closing (λ _. gives (one_more t w q))) (in_alias (Single (Word w) ∷ [])) SecondBehind ItemBehind
          (tracks_one t (λ s tok. say.known_word_of s tok) (in_alias (Single (Word w) ∷ [])) SecondBehind judged_second)
          (λ q d i. subst (λ z. Tracks t (sequence closing (λ _. gives (one_more t w q))) z ItemBehind) (sym i.2) (alias_given i.0 q i.1))

    tracks_alias : Tracks t (alias t) (in_alias []) ItemBehind
    unfolding alias
    tracks_alias =
        tracks_then t new_word (λ w. sequence known_word (λ q. sequence closing (λ _. gives (one_more t w q))))
        (in_alias []) FirstBehind ItemBehind (tracks_one t (λ s tok. say.new_word_of s tok) (in_alias []) FirstBehind judged_first)
        (λ w d e. subst (λ z. Tracks t (sequence known_word (λ q. sequence closing (λ _. gives (one_more t w q)))) z ItemBehind) (sym e)
        (alias_second w))

    -- ---- a comment

    abbrev comment_frame : Frame
    comment_frame = record {
      said = saying l t;
      keyword = k.Comment;
      holder = form k.KeywordMap es;
      around = h ∷ around;
      plain = plain_by k.Comment refl;
      outside = map_outside es;
    }

    tracks_comment : Tracks t (sequence comment (λ _. gives t)) (placed (saying l t) (form k.Comment [] ∷ map_of es)) ItemBehind
    tracks_comment =
        tracks_then t comment (λ _. gives t) (placed (saying l t) (form k.Comment [] ∷ map_of es)) (λ _ d. d ≡ past comment_frame) ItemBehind
        (ends_comment comment_frame []) (λ u d e. tracks_gives t t d ItemBehind e)

    -- ---- the keyword of an item

    module _ (b : Bool) (is_level : is_level_0 l ≡ not b) where
      abbrev at_item : Context
      at_item = placed (saying l t) (untouched ∷ map_of es)

      abbrev KeywordBehind : Keyword → Context → Type 0
      KeywordBehind = Behind (saying l t) (form k.KeywordMap es) (h ∷ around) (map_outside es) (map_keywords b)

      calm_item : IsCalm at_item.forms
      calm_item = calm_here (saying l t) (form k.KeywordMap es) (h ∷ around) (map_outside es) (map_keywords b)

      is_item : at_keyword at_item.forms ≡ true
      is_item = is_here (saying l t) (form k.KeywordMap es) (h ∷ around) (map_outside es) (map_keywords b)

      map_level : in_plain_map (saying l t) at_item.forms ≡ not b
      map_level = map_is (saying l t) untouched (form k.KeywordMap es) (h ∷ around) ∙ is_level

    -- where the level has aliases, keywordAlias is not refused
    no_alias_refused : (q : Keyword) → has (map_keywords true) q ≡ false → same_keyword q k.KeywordAlias ≡ true → ⊥
    unfolding has
    no_alias_refused q e i = by q (spelled_alike q k.KeywordAlias i) e
      where
        by : (p : Keyword) → p ≡ k.KeywordAlias → has (map_keywords true) p ≡ false → ⊥
        by p same e = let f : has (map_keywords true) k.KeywordAlias ≡ false = subst (λ z. has (map_keywords true) z ≡ false) same e in absurd cc

    refuses_by : (b : Bool) (is_level : is_level_0 l ≡ not b) (q : Keyword) (w : List ℕ) → means t w ≡ Some q → has (map_keywords b) q ≡ false
        → (c : Bool) → same_keyword q k.KeywordAlias ≡ c
        → (if c then reasons.KeywordLevel else reasons.NotInProfile w) ≡ reason_of (placed (saying l t) (untouched ∷ map_of es)) (Word w)
    refuses_by true is_level q w m e true i = absurd (no_alias_refused q e i)
    refuses_by true is_level q w m e false i = elsewhere (at_item true is_level) (calm_item true is_level) (is_item true is_level) w q
        (map_level true is_level) m
    refuses_by false is_level q w m e true i = above_level (at_item false is_level) (calm_item false is_level) (is_item false is_level) w q
        (map_level false is_level) m i
    refuses_by false is_level q w m e false i = no_alias (at_item false is_level) (calm_item false is_level) (is_item false is_level) w q
        (map_level false is_level) m i

    module _ (b : Bool) (is_level : is_level_0 l ≡ not b) where
      no_key : (tok : Token) → (IsWord tok → ⊥) → reasons.Unexpected ≡ reason_of (at_item b is_level) tok
      no_key tok isnt = no_word (at_item b is_level) (calm_item b is_level) tok isnt

      judged_key : (tok : Token) → Judged (at_item b is_level) (KeywordBehind b is_level) tok (say.map_keyword_of (map_keywords b) t tok)
      judged_key LeftParen = no_key LeftParen (λ h. h)
      judged_key RightParen = no_key RightParen (λ h. h)
      judged_key (Word w) =
          judged_word (saying l t) (form k.KeywordMap es) (h ∷ around) (map_outside es) (map_keywords b) say.above_level
          (λ q w m e. refuses_by b is_level q w m e (same_keyword q k.KeywordAlias) refl) w (means t w) refl
      judged_key (Number n) = no_key (Number n) (λ h. h)
      judged_key (Str s) = no_key (Str s) (λ h. h)

      abbrev rest_of : Keyword → Edif (List Alias)
      rest_of q = map_form t (same_keyword q k.KeywordAlias)

      pub tracks_map_item : (κ : List Alias)
          → Each (map_keywords b) (λ q. Tracks t (map_form t (same_keyword q k.KeywordAlias))
          (placed (saying l t) (form q [] ∷ map_of es)) ItemBehind) → Tracks κ (map_item b t) (at_item b is_level) ItemBehind
      unfolding map_item
      tracks_map_item κ each =
          tracks_under κ t (sequence (map_keyword b) rest_of) (at_item b is_level) ItemBehind
          (tracks_then t (map_keyword b) rest_of (at_item b is_level) (KeywordBehind b is_level) ItemBehind
          (tracks_one t (λ s tok. say.map_keyword_of (map_keywords b) s tok) (at_item b is_level) (KeywordBehind b is_level) judged_key)
          (λ q d i. subst (λ z. Tracks t (rest_of q) z ItemBehind) (sym i.1) (each_of
          (λ q. Tracks t (rest_of q) (placed (saying l t) (form q [] ∷ map_of es)) ItemBehind) (map_keywords b) q each i.0)))

    each_item : (b : Bool) → Each (map_keywords b) (λ q. Tracks t (map_form t (same_keyword q k.KeywordAlias))
        (placed (saying l t) (form q [] ∷ map_of es)) ItemBehind)
    each_item true = (tracks_alias, (tracks_comment, tt))
    each_item false = (tracks_comment, tt)

  -- ---- the items, and the map

  -- behind the map
  abbrev pub MapBehind : Option ℤ → List Alias → Context → Type 0
  MapBehind l t d = d ≡ placed (saying l t) (with_element h Group ∷ around)

  map_closed : (κ : List Alias) (l : Option ℤ) (t : List Alias) (es : List Element)
      → Tracks κ closing (placed (saying l t) (map_of es)) (λ _ d. MapBehind l t d)
  unfolding is_at is_over
  map_closed κ l t es = closed (saying l t) h around outside κ k.KeywordMap es refl
      (refl, (refl, (refl, (refl, (refl, (refl, (refl, (refl, (refl, tt))))))))) (saying l t) refl

  map_given : (κ : List Alias) (l : Option ℤ) (t : List Alias) (es : List Element)
      → Tracks κ (sequence closing (λ _. gives t)) (placed (saying l t) (map_of es)) (MapBehind l)
  map_given κ l t es =
      tracks_then κ closing (λ _. gives t) (placed (saying l t) (map_of es)) (λ _ d. MapBehind l t d) (MapBehind l) (map_closed κ l t es)
      (λ u d e. tracks_gives κ t d (MapBehind l) e)

  abbrev Mapped : Option ℤ → List Alias → Context → Type 0
  Mapped l t d = (es : List Element) × (d ≡ placed (saying l t) (map_of es))

  item_in : (κ : List Alias) (b : Bool) (l : Option ℤ) → is_level_0 l ≡ not b → (t : List Alias) (es : List Element)
      → Tracks κ (map_item b t) (placed (saying l t) (untouched ∷ map_of es)) (Mapped l)
  item_in κ b l is_level t es =
      tracks_less κ (map_item b t) (placed (saying l t) (untouched ∷ map_of es)) (ItemBehind l t es) (Mapped l) (λ v d e. (es ++ Group ∷ [], e))
      (tracks_map_item l t es b is_level κ (each_item l t es b))

  pub tracks_map_items : (κ : List Alias) (b : Bool) (l : Option ℤ) → is_level_0 l ≡ not b → (t : List Alias) (es : List Element)
      → Tracks κ (map_items b t) (placed (saying l t) (map_of es)) (MapBehind l)
  unfolding map_items forms while_next
  tracks_map_items κ b l is_level t es =
      tracks_rounds κ (λ _ _ x. at_token (λ (y : Found). say.at_opening y.token) x) (λ s _. map_item b s) (λ s. sequence closing (λ _. gives s))
      (λ t es. placed (saying l t) (map_of es)) (MapBehind l)
      (λ t es. seen_opening (λ _ d. Tracks κ (map_item b t) d (Mapped l)) _ (placed (saying l t) (map_of es)) (item_in κ b l is_level t es)
      (λ x c. (map_given κ l t es).says (x ∷ c))) t es

  abbrev BehindMap : List Alias → Context → Type 0
  BehindMap t d = (l : Option ℤ) × MapBehind l t d

  module _ (said : Said) (no_level : is_level_0 said.level ≡ false) where
    abbrev Levelled : Bool → Context → Type 0
    Levelled = LevelSaid said (form k.KeywordMap []) (h ∷ around) (map_outside [])

    behind_level : (κ : List Alias) (b : Bool) (d : Context) → Levelled b d → Tracks κ (map_items b said.aliases) d BehindMap
    behind_level κ b d i =
        subst (λ z. Tracks κ (map_items b said.aliases) z BehindMap) (sym i.2)
        (tracks_less κ (map_items b said.aliases) (placed (saying (Some i.0) said.aliases) (map_of (Group ∷ []))) (MapBehind (Some i.0)) BehindMap
        (λ v d e. (Some i.0, e)) (tracks_map_items κ b (Some i.0) i.1 said.aliases (Group ∷ [])))

    level_form : Tracks said.aliases keyword_level (placed said (map_of [])) Levelled
    unfolding keyword_level
    level_form =
        tracks_form said (form k.KeywordMap []) (h ∷ around) (map_outside []) (rw no_level refl) (calm_map [])
        (begun k.KeywordMap [] h around) k.KeywordLevel (sequence keyword_level_number (λ b. sequence closing (λ _. gives b))) Levelled
        (tracks_keyword_level said (form k.KeywordMap []) (h ∷ around) (map_outside []) said.aliases)

    pub tracks_map : IsCalm (h ∷ around) → at_keyword (h ∷ around) ≡ false → is_plain_map said h ≡ false
        → Tracks said.aliases (keyword_map said.aliases) (placed said (h ∷ around)) BehindMap
    unfolding keyword_map
    tracks_map is out not_in_map =
        tracks_form said h around outside not_in_map is out k.KeywordMap (sequence keyword_level (λ n. map_items n said.aliases)) BehindMap
        (tracks_then said.aliases keyword_level (λ n. map_items n said.aliases) (placed said (map_of [])) Levelled BehindMap level_form
        (behind_level said.aliases))

-- ---- the header

abbrev pub HeaderBehind : Frame → List Alias → Context → Type 0
HeaderBehind fr t d = (l : Option ℤ) × (es : List Element) × (d ≡ placed (saying l t) (form fr.keyword es ∷ fr.holder ∷ fr.around))

module _ (fr : Frame) (no_level : is_level_0 fr.said.level ≡ false) where
  map_in : (es : List Element) → Tracks fr.said.aliases (keyword_map fr.said.aliases) (inside fr es) (HeaderBehind fr)
  map_in es =
      tracks_less fr.said.aliases (keyword_map fr.said.aliases) (inside fr es) (BehindMap (form fr.keyword es) (fr.holder ∷ fr.around)
      (outside_in fr es)) (HeaderBehind fr) (λ t d i. (i.0, es ++ Group ∷ [], i.1))
      (tracks_map (form fr.keyword es) (fr.holder ∷ fr.around) (outside_in fr es) fr.said no_level (calm fr es) (begun_in fr es)
      (no_map fr.said (form fr.keyword es) fr.plain.map))

  level_in : (es : List Element) → Tracks fr.said.aliases (sequence level (λ _. keyword_map fr.said.aliases)) (inside fr es) (HeaderBehind fr)
  level_in es =
      tracks_then fr.said.aliases level (λ _. keyword_map fr.said.aliases) (inside fr es) (λ _ d. In fr d) (HeaderBehind fr) (stays_level fr es)
      (λ u d i. from_in fr (keyword_map fr.said.aliases) (HeaderBehind fr) map_in d i)

  pub tracks_header : (es : List Element) → Tracks fr.said.aliases (header fr.said.aliases) (inside fr es) (HeaderBehind fr)
  unfolding header
  tracks_header es =
      tracks_then fr.said.aliases version (λ _. sequence level (λ _. keyword_map fr.said.aliases)) (inside fr es) (λ _ d. In fr d)
      (HeaderBehind fr) (stays_version fr es)
      (λ u d i. from_in fr (sequence level (λ _. keyword_map fr.said.aliases)) (HeaderBehind fr) level_in d i)
