-- What forms that stand in a form read, where it has no row of its own.
use Rattle.std.proofs.Common.{◌≡◌, ◌∙◌, refl, sym, ap, subst, ℕ, Bool, true, false, ◌||◌, if◌then◌else◌, List, [], ◌∷◌, ◌++◌, Option, Some, None, Ok, Err}
use Rattle.grammar.specs.Part.{gives, sequence}
use Rattle.grammar.specs.Whole.{Terminal, end, proper}
use Rattle.nl_base.specs.declared.place.Place.{Place}
use Rattle.nl_base.specs.declared.fault.Reason.{Reason}
use Rattle.readers.specs.Parts.{at_token, if_next, while_next}
use Rattle.edif_tokens.specs.declared.token.Found.{Found}
use Rattle.edif_values.specs.declared.token.Token.{Token}
use Rattle.edif_values.specs.declared.token.Token.TheVariants.{LeftParen, RightParen, Word, Number, Str}
use Rattle.edif_values.specs.declared.keyword.Keyword.{Keyword}
use Rattle.edif_values.specs.Keywords.{has, same_keyword}
use Rattle.edif_keywords.specs.Aliases.{means}
use Rattle.edif_keywords.specs.Language.{Edif}
use Rattle.edif_keywords.specs.Reasons as say
use Rattle.edif_keywords.specs.Grammar.{opening, closing, keyword, begin, items, forms, form_or, strings, comment}
use Rattle.edif_values.proofs.Same.{spelled_alike}
use Rattle.edif_reasons.specs.Context.{Tokens, Element, Single, Form, Said, Context, placed, untouched, open_lists, at_keyword, after}
use Rattle.edif_reasons.specs.Rows.{in_plain_map}
use Rattle.edif_reasons.proofs.Tracking.{Judged, Seen, SeenAt, seen_each, Tracks, tracks_gives, tracks_one, tracks_then, tracks_ahead, tracks_rounds}
use Rattle.edif_reasons.proofs.Standing.{form, IsCalm, no_word, calm_bare, takes_keyword, is_plain_map, map_is, no_map, unknown, elsewhere}
use Rattle.edif_reasons.proofs.Forms.{Frame, inside, In, past, opened, calm, begun_in, outside_in, Stays, Ends, Reads, ReadsLast, tracks_opening, ends_with}

-- ---- ( and a keyword

module _ (said : Said) (g : Form) (around : List Form) (outside : open_lists (g ∷ around) ≡ None) (allowed : List Keyword) where
  -- directly after a `(`
  abbrev pub here : Context
  here = placed said (untouched ∷ g ∷ around)

  -- behind one of the keywords
  abbrev pub Behind : Keyword → Context → Type 0
  Behind q d = (has allowed q ≡ true) × (d ≡ placed said (form q [] ∷ g ∷ around))

  pub calm_here : IsCalm here.forms
  calm_here = calm_bare [] g around outside

  pub is_here : at_keyword here.forms ≡ true
  is_here = takes_keyword g around outside

  pub taken : (q : Keyword) (w : List ℕ) → means said.aliases w ≡ Some q → after here (Word w) ≡ placed said (form q [] ∷ g ∷ around)
  taken q w m = rw (is_here, m) refl

  -- where a keyword that may not stand is refused for the reason that `why` says
  module _ (why : Keyword → List ℕ → Reason) (refuses_it : (q : Keyword) (w : List ℕ) → means said.aliases w ≡ Some q → has allowed q ≡ false
      → Judged here Behind (Word w) (Err (why q w))) where
    judged_known : (q : Keyword) (w : List ℕ) (b : Bool) → means said.aliases w ≡ Some q → has allowed q ≡ b
        → Judged here Behind (Word w) (if b then Ok q else Err (why q w))
    judged_known q w true m e = (e, taken q w m)
    judged_known q w false m e = refuses_it q w m e

    pub judged_word : (w : List ℕ) (o : Option Keyword) → means said.aliases w ≡ o → Judged here Behind (Word w) (say.keyword_by why allowed w o)
    judged_word w None m = unknown here calm_here is_here w (in_plain_map said here.forms) refl m
    judged_word w (Some q) m = judged_known q w (has allowed q) m refl

  module _ (not_in_map : is_plain_map said g ≡ false) where
    refuses_elsewhere : (q : Keyword) (w : List ℕ) → means said.aliases w ≡ Some q → has allowed q ≡ false
        → Judged here Behind (Word w) (Err (say.elsewhere q w))
    refuses_elsewhere q w m e = elsewhere here calm_here is_here w q (map_is said untouched g around ∙ not_in_map) m

    judged : (t : Token) → Judged here Behind t (say.keyword_of allowed said.aliases t)
    judged LeftParen = no_word here calm_here LeftParen (λ h. h)
    judged RightParen = no_word here calm_here RightParen (λ h. h)
    judged (Word w) = judged_word say.elsewhere refuses_elsewhere w (means said.aliases w) refl
    judged (Number n) = no_word here calm_here (Number n) (λ h. h)
    judged (Str s) = no_word here calm_here (Str s) (λ h. h)

    -- a keyword directly after a `(`
    pub tracks_keyword : Tracks said.aliases (keyword allowed) here Behind
    tracks_keyword = tracks_one said.aliases (λ k t. say.keyword_of allowed k t) here Behind judged

    -- `(` and a keyword
    pub tracks_begin : IsCalm (g ∷ around) → at_keyword (g ∷ around) ≡ false → Tracks said.aliases (begin allowed) (placed said (g ∷ around)) Behind
    unfolding begin
    tracks_begin is out =
        tracks_then said.aliases opening (λ _. keyword allowed) (placed said (g ∷ around)) (λ _ d. d ≡ here) Behind
        (tracks_opening said.aliases (placed said (g ∷ around)) (λ _ d. d ≡ here) is out refl)
        (λ u d e. subst (λ z. Tracks said.aliases (keyword allowed) z Behind) (sym e) tracks_keyword)

only : (b : Bool) → (b || false) ≡ true → b ≡ true
only true h = refl
only false h = h

-- a form with one keyword
module _ {A : Type 0} (said : Said) (g : Form) (around : List Form) (outside : open_lists (g ∷ around) ≡ None)
    (not_in_map : is_plain_map said g ≡ false) (is : IsCalm (g ∷ around)) (out : at_keyword (g ∷ around) ≡ false) where
  pub tracks_form : (q : Keyword) (rest : Edif A) (P : A → Context → Type 0) → Tracks said.aliases rest (placed said (form q [] ∷ g ∷ around)) P
      → Tracks said.aliases (sequence (begin (q ∷ [])) (λ _. rest)) (placed said (g ∷ around)) P
  unfolding has
  tracks_form q rest P h =
      tracks_then said.aliases (begin (q ∷ [])) (λ _. rest) (placed said (g ∷ around)) (Behind said g around outside (q ∷ [])) P
      (tracks_begin said g around outside (q ∷ []) not_in_map is out)
      (λ v d e. subst (λ z. Tracks said.aliases rest z P) (sym
      (e.1 ∙ ap (λ z. placed said (form z [] ∷ g ∷ around)) (sym (spelled_alike q v (only (same_keyword q v) e.0))))) h)

-- ---- some keywords

-- each of the keywords
abbrev pub Each : List Keyword → (Keyword → Type 0) → Type 0
Each [] P = Unit {0}
Each (q ∷ qs) P = P q × Each qs P

each_by : (P : Keyword → Type 0) (a q : Keyword) (more b : Bool) → P a → (more ≡ true → P q) → same_keyword a q ≡ b → (b || more) ≡ true → P q
each_by P a q more true h rest s e = subst P (spelled_alike a q s) h
each_by P a q more false h rest s e = rest e

pub each_of : (P : Keyword → Type 0) (allowed : List Keyword) (q : Keyword) → Each allowed P → has allowed q ≡ true → P q
unfolding has
each_of P [] q h e = absurd cc
each_of P (a ∷ more) q h e = each_by P a q (has more q) (same_keyword a q) h.0 (λ i. each_of P more q h.1 i) refl e

-- ---- in a frame

not_in_map : (fr : Frame) (es : List Element) → is_plain_map fr.said (form fr.keyword es) ≡ false
not_in_map fr es = no_map fr.said (form fr.keyword es) fr.plain.map

module _ {A : Type 0} (fr : Frame) (es : List Element) (allowed : List Keyword) (rest : Keyword → Edif A) (P : A → Context
    → Type 0) (each : (q : Keyword) → has allowed q ≡ true → Tracks fr.said.aliases (rest q) (opened fr es q) P) where
  abbrev BehindIn : Keyword → Context → Type 0
  BehindIn = Behind fr.said (form fr.keyword es) (fr.holder ∷ fr.around) (outside_in fr es) allowed

  behind_keyword : (q : Keyword) (d : Context) → BehindIn q d → Tracks fr.said.aliases (rest q) d P
  behind_keyword q d e = subst (λ z. Tracks fr.said.aliases (rest q) z P) (sym e.1) (each q e.0)

  -- directly after a `(`
  pub tracks_head : Tracks fr.said.aliases (sequence (keyword allowed) rest) (placed fr.said
      (untouched ∷ form fr.keyword es ∷ fr.holder ∷ fr.around)) P
  tracks_head =
      tracks_then fr.said.aliases (keyword allowed) rest (placed fr.said (untouched ∷ form fr.keyword es ∷ fr.holder ∷ fr.around)) BehindIn P
      (tracks_keyword fr.said (form fr.keyword es) (fr.holder ∷ fr.around) (outside_in fr es) allowed (not_in_map fr es)) behind_keyword

  pub tracks_item : Tracks fr.said.aliases (sequence (begin allowed) rest) (inside fr es) P
  tracks_item =
      tracks_then fr.said.aliases (begin allowed) rest (inside fr es) BehindIn P
      (tracks_begin fr.said (form fr.keyword es) (fr.holder ∷ fr.around) (outside_in fr es) allowed (not_in_map fr es) (calm fr es)
      (begun_in fr es)) behind_keyword

module _ {A : Type 0} (allowed : List Keyword) (rest : Keyword → Edif A) where
  pub stays_item : Each allowed (λ q. Reads q (rest q)) → Stays (sequence (begin allowed) rest)
  stays_item each fr es = tracks_item fr es allowed rest (λ _ d. In fr d) (λ q is. each_of (λ q. Reads q (rest q)) allowed q each is fr es)

  pub ends_item : Each allowed (λ q. ReadsLast q (rest q)) → Ends (sequence (begin allowed) rest)
  ends_item each fr es = tracks_item fr es allowed rest (λ _ d. d ≡ past fr) (λ q is. each_of (λ q. ReadsLast q (rest q)) allowed q each is fr es)

-- ---- a `(` that is looked at

module _ (T : Unit {0} → Context → Type 0) (L : Terminal Found Place → Tokens
    → Type 0) (c : Context) (h : T tt (after c LeftParen)) (l : (x : Terminal Found Place) (b : Tokens) → L x b) where
  opening_seen : (t : Token) → Seen T L c t (say.at_opening t)
  opening_seen LeftParen = h
  opening_seen RightParen = λ x e b. l (proper x) b
  opening_seen (Word w) = λ x e b. l (proper x) b
  opening_seen (Number n) = λ x e b. l (proper x) b
  opening_seen (Str s) = λ x e b. l (proper x) b

  pub seen_opening : (x : Terminal Found Place) → SeenAt T L c x (at_token (λ (y : Found). say.at_opening y.token) x)
  seen_opening = seen_each T L c say.at_opening opening_seen (λ p b. l (end p) b)

module _ {A : Type 0} (allowed : List Keyword) (rest : Keyword → Edif A) (other : Edif A) where
  tracks_either : (fr : Frame) (es : List Element) (P : A → Context → Type 0) → ((q : Keyword) → has allowed q ≡ true
      → Tracks fr.said.aliases (rest q) (opened fr es q) P) → Tracks fr.said.aliases other (inside fr es) P
      → Tracks fr.said.aliases (form_or allowed rest other) (inside fr es) P
  unfolding form_or if_next
  tracks_either fr es P each h =
      tracks_ahead fr.said.aliases (λ _ x. at_token (λ (y : Found). say.at_opening y.token) x) (λ _. sequence (keyword allowed) rest) other
      (inside fr es) P
      (seen_opening (λ _ d. Tracks fr.said.aliases (sequence (keyword allowed) rest) d P) _ (inside fr es) (tracks_head fr es allowed rest P each)
      (λ x b. h.says (x ∷ b)))

  pub stays_or : Each allowed (λ q. Reads q (rest q)) → Stays other → Stays (form_or allowed rest other)
  stays_or each h fr es = tracks_either fr es (λ _ d. In fr d) (λ q is. each_of (λ q. Reads q (rest q)) allowed q each is fr es) (h fr es)

  pub ends_or : Each allowed (λ q. ReadsLast q (rest q)) → Ends other → Ends (form_or allowed rest other)
  ends_or each h fr es = tracks_either fr es (λ _ d. d ≡ past fr) (λ q is. each_of (λ q. ReadsLast q (rest q)) allowed q each is fr es) (h fr es)

-- ---- { } in a form

module _ {I : Type 0} (allowed : List I → List Keyword) (rest : Keyword → Edif I) (each : (s : List I)
    → Each (allowed s) (λ q. Reads q (rest q))) where
  abbrev item_then : List I → Edif (List I)
  item_then s = sequence (sequence (keyword (allowed s)) rest) (λ i. gives (s ++ i ∷ []))

  tracks_round : (s : List I) (fr : Frame) (es : List Element)
      → Tracks fr.said.aliases (item_then s) (placed fr.said (untouched ∷ form fr.keyword es ∷ fr.holder ∷ fr.around)) (λ _ d. In fr d)
  tracks_round s fr es =
      tracks_then fr.said.aliases (sequence (keyword (allowed s)) rest) (λ i. gives (s ++ i ∷ []))
      (placed fr.said (untouched ∷ form fr.keyword es ∷ fr.holder ∷ fr.around)) (λ _ d. In fr d) (λ _ d. In fr d)
      (tracks_head fr es (allowed s) rest (λ _ d. In fr d) (λ q is. each_of (λ q. Reads q (rest q)) (allowed s) q (each s) is fr es))
      (λ i d e. tracks_gives fr.said.aliases (s ++ i ∷ []) d (λ _ d. In fr d) e)

  pub ends_items : (so_far : List I) → Ends (items allowed rest so_far)
  unfolding items forms while_next
  ends_items so_far fr es =
      tracks_rounds fr.said.aliases (λ _ _ x. at_token (λ (y : Found). say.at_opening y.token) x) (λ s _. item_then s)
      (λ s. sequence closing (λ _. gives s)) (λ _ es. inside fr es) (λ _ d. d ≡ past fr)
      (λ s es. seen_opening (λ _ d. Tracks fr.said.aliases (item_then s) d (λ _ d. In fr d)) _ (inside fr es) (tracks_round s fr es)
      (λ x b. (ends_with s fr es).says (x ∷ b))) so_far es

-- ---- strings

module _ (T : List ℕ → Context → Type 0) (L : Terminal Found Place → Tokens → Type 0) (c : Context) (h : (s : List ℕ)
    → T s (after c (Str s))) (l : (x : Terminal Found Place) (b : Tokens) → L x b) where
  string_seen : (t : Token) → Seen T L c t (say.at_string t)
  string_seen LeftParen = λ x e b. l (proper x) b
  string_seen RightParen = λ x e b. l (proper x) b
  string_seen (Word w) = λ x e b. l (proper x) b
  string_seen (Number n) = λ x e b. l (proper x) b
  string_seen (Str s) = h s

  seen_string : (x : Terminal Found Place) → SeenAt T L c x (at_token (λ (y : Found). say.at_string y.token) x)
  seen_string = seen_each T L c say.at_string string_seen (λ p b. l (end p) b)

pub ends_strings : (so_far : List (List ℕ)) → Ends (strings so_far)
unfolding strings while_next
ends_strings so_far fr es =
    tracks_rounds fr.said.aliases (λ _ _ x. at_token (λ (y : Found). say.at_string y.token) x) (λ s v. gives (s ++ v ∷ []))
    (λ s. sequence closing (λ _. gives s)) (λ _ es. inside fr es) (λ _ d. d ≡ past fr)
    (λ s es. seen_string (λ v d. Tracks fr.said.aliases (gives (s ++ v ∷ [])) d (λ _ d. In fr d)) _ (inside fr es)
    (λ v. tracks_gives fr.said.aliases (s ++ v ∷ []) (after (inside fr es) (Str v)) (λ _ d. In fr d) (es ++ Single (Str v) ∷ [], refl))
    (λ x b. (ends_with s fr es).says (x ∷ b)))
    so_far es

pub ends_comment : Ends comment
ends_comment = ends_strings []
