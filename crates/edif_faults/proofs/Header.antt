-- Tokens of a header that have been read can be gone on with by proper tokens, where they are fewer than the words that are free.
use Rattle.std.proofs.Common.{◌≡◌, ◌∙◌, ap, refl, ℕ, ◌+◌, ◌≤◌, ◌<◌, Bool, true, false, List, [], ◌∷◌, ◌++◌, length, length-append, map, Ok, pos, arith}
use Rattle.grammar.specs.Part.{gives, sequence, under}
use Rattle.grammar.specs.Texts.{Spells, ends}
use Rattle.grammar.specs.Reading.{read}
use Rattle.grammar.specs.Whole.{Terminal, end, the_end, whole}
use Rattle.nl_base.specs.declared.place.Place.{Place}
use Rattle.nl_base.specs.Place.{place_at_start}
use Rattle.nl_base.specs.Identifiers.{is_identifier}
use Rattle.nl_base.specs.Case.{small}
use Rattle.edif_values.specs.Proper.{IsProper}
use Rattle.edif_tokens.specs.declared.token.Found.{Found}
use Rattle.edif_values.specs.declared.token.Token.TheVariants.{Word, Number}
use Rattle.readers.specs.Parts.{one, at_token, while_next}
use Rattle.edif_values.specs.declared.keyword.Keyword.{Keyword}
use Rattle.edif_values.specs.declared.keyword.Keyword.TheVariants as k
use Rattle.edif_values.specs.Keywords.{spelling, has, same_keyword}
use Rattle.edif_keywords.specs.Aliases.{Alias, one_more}
use Rattle.edif_keywords.specs.Language.{Edif}
use Rattle.edif_keywords.specs.Reasons as say
use Rattle.edif_keywords.specs.Reasons.{trailing}
use Rattle.edif_keywords.specs.Grammar.{closing, begin, forms, version_number, version, level, keyword_level, new_word, known_word, alias, map_keywords, map_form, map_item, map_items, keyword_map, header}
use Rattle.edif_keywords.proofs.Live.{seen, means_itself}
use Rattle.edif_keywords.proofs.Free.{numbered, unused}
use Rattle.edif_faults.proofs.Base.{Lives, live_one, live_closing, live_begin, live_comment, live_level}
use Rattle.edif_faults.specs.GoesOn.{CanStand}
use Rattle.grammar_laws.proofs.Ending.{IsToken}
use Rattle.grammar_laws.proofs.GoingOn.{IsKeptBy, live_of, HasText, SaysBy, text_by, says_sequence, says_loop, says_by, text_then}

abbrev LivesBy : {A : Type 0} → Edif A → Type 0
LivesBy p = Lives p

text_kept : {A : Type 0} (table : List Alias) (p : Edif A) → IsKeptBy CanStand IsToken table p → HasText CanStand table p
text_kept table p h = text_by CanStand table p (live_of CanStand IsToken table p h)

says_kept : {A : Type 0} (table : List Alias) (p : Edif A) → IsKeptBy CanStand IsToken table p → (ts : List (Terminal Found Place)) → SaysBy CanStand table p ts (read table p ts)
says_kept table p h ts = says_by CanStand table p (live_of CanStand IsToken table p h) ts

live_number : (n : ℕ) → say.version_of (pos n) (Number (pos n)) ≡ Ok tt → IsProper (Number (pos n)) → LivesBy (version_number (pos n))
live_number n h is table = live_one (λ _ x. say.version_of (pos n) x.token) table (seen (Number (pos n))) tt h is

pub live_version : LivesBy version
unfolding version has
live_version table = (
  live_begin k.EdifVersion (k.EdifVersion ∷ []) refl table,
  λ _. (live_number 2 refl (omega arith) table, λ _. (live_number 0 refl (omega arith) table, λ _. (live_number 0 refl (omega arith) table, λ _. live_closing table))),
)

pub live_keyword_level : LivesBy keyword_level
unfolding keyword_level has
live_keyword_level table =
    (live_begin k.KeywordLevel (k.KeywordLevel ∷ []) refl table, λ _. (live_one (λ _ x. say.keyword_level_of x.token) table (seen (Number (pos 0))) false refl (omega arith), λ n. (live_closing table, λ _. tt)))

-- ---- aliases

has_comment : (b : Bool) → has (map_keywords b) k.Comment ≡ true
unfolding has
has_comment true = refl
has_comment false = refl

more_length : (s : List Alias) (w : List ℕ) (q : Keyword) → length (one_more s w q) ≡ length s + 1
more_length s w q = length-append s ((record { word = map small w; keyword = q }) ∷ [])

-- at most so many words are taken
module _ (N : ℕ) (words : (n : ℕ) → n < N → (is_identifier (numbered n) ≡ true) × (length (numbered n) ≤ 1024)) where
  live_new_word : (table : List Alias) → length table < N → IsKeptBy CanStand IsToken table new_word
  live_new_word table few = let w = unused table in live_one (λ table x. say.new_word_of table x.token) table (seen (Word (numbered w.0))) (numbered w.0) (rw w.2 refl) (words w.0 (omega (arith, w.1, few)))

  live_known_word : (table : List Alias) → IsKeptBy CanStand IsToken table known_word
  live_known_word table = live_one (λ table x. say.known_word_of table x.token) table (seen (Word (spelling k.Edif))) k.Edif (rw (means_itself table k.Edif) refl) (refl, omega arith)

  live_alias : (t table : List Alias) → length table < N → IsKeptBy CanStand IsToken table (alias t)
  unfolding alias
  live_alias t table few = (live_new_word table few, λ w. (live_known_word table, λ q. (live_closing table, λ _. tt)))

  live_map_form : (t : List Alias) (b : Bool) (table : List Alias) → length table < N → IsKeptBy CanStand IsToken table (map_form t b)
  live_map_form t true table few = live_alias t table few
  live_map_form t false table few = (live_comment table, λ _. tt)

  live_map_item : (b : Bool) (t table : List Alias) → length t < N → IsKeptBy CanStand IsToken table (map_item b t)
  unfolding map_item
  live_map_item b t table few =
      (live_one (λ table x. say.map_keyword_of (map_keywords b) table x.token) t (seen (Word (spelling k.Comment))) k.Comment (rw (means_itself t k.Comment, has_comment b) refl) (refl, omega arith), λ q. live_map_form t (same_keyword q k.KeywordAlias) t few)

  -- an item makes at most as many aliases as it has tokens
  form_grows : (s : List Alias) (b : Bool) (ts : List (Terminal Found Place)) (v : List Alias) → Spells s (map_form s b) ts v → length v ≤ length s + 1
  unfolding alias
  form_grows s true ts v h = let is = ap length h.5.5.5.1 in let l = more_length s h.0 h.5.0 in omega (arith, is, l)
  form_grows s false ts v h = let is = ap length h.5.1 in omega (arith, is)

  grows : (b : Bool) (s t table : List Alias) (a : List (Terminal Found Place)) → Spells table (map_item b s) a t → length t ≤ length s + length a
  unfolding map_item one
  grows b s t table a h =
      let l = ap length h.3 ∙ length-append h.1 h.2 in
      let first = ap length h.4.1 in
      let f = form_grows s (same_keyword h.0 k.KeywordAlias) h.2 t h.5 in
      omega (arith, l, first, f)

  live_last : (s table : List Alias) → IsKeptBy CanStand IsToken table (sequence closing (λ _. gives s))
  live_last s table = (live_closing table, λ _. tt)

  says_map_items : (b : Bool) (t table : List Alias) (ts : List (Terminal Found Place)) → length t + length ts < N → SaysBy CanStand table (map_items b t) ts (read table (map_items b t) ts)
  unfolding map_items forms while_next
  says_map_items b t table ts few =
      says_loop CanStand table (λ _ _ x. at_token (λ x. say.at_opening x.token) x) (λ s _. map_item b s) (λ s. sequence closing (λ _. gives s)) (λ s n. length s + n < N)
      (λ s. text_kept table (sequence closing (λ _. gives s)) (live_last s table))
      (λ s c ts few. says_kept table (map_item b s) (live_map_item b s table (omega (arith, few))) ts)
      (λ s t c a b few spells. let g = grows _ s t table a spells in let l = length-append a b in omega (arith, few, g, l))
      (λ s ts. says_kept table (sequence closing (λ _. gives s)) (live_last s table) ts)
      (length ts) t ts (omega arith) few

  -- ---- the header, and the file

  items_text : (b : Bool) (t table : List Alias) → HasText CanStand table (map_items b t)
  unfolding map_items forms while_next
  items_text b t table = let h = text_kept table (sequence closing (λ _. gives t)) (live_last t table) in (h.0, h.1, h.2, ends h.3)

  abbrev map_rest : List Alias → Unit {0} → Edif (List Alias)
  map_rest t u = sequence keyword_level (λ n. map_items n t)

  map_rest_text : (t table : List Alias) (u : Unit {0}) → HasText CanStand table (map_rest t u)
  map_rest_text t table u = text_then CanStand table keyword_level (λ n. map_items n t) (text_kept table keyword_level (live_keyword_level table)) (λ n. items_text n t table)

  live_map_begin : (table : List Alias) → IsKeptBy CanStand IsToken table (begin (k.KeywordMap ∷ []))
  unfolding has
  live_map_begin table = live_begin k.KeywordMap (k.KeywordMap ∷ []) refl table

  map_text : (t table : List Alias) → HasText CanStand table (keyword_map t)
  unfolding keyword_map
  map_text t table = text_then CanStand table (begin (k.KeywordMap ∷ [])) (λ _. map_rest t tt) (text_kept table (begin (k.KeywordMap ∷ [])) (live_map_begin table)) (λ u. map_rest_text t table tt)

  behind : (ts a b : List (Terminal Found Place)) (n : ℕ) → ts ≡ a ++ b → n + length ts < N → n + length b < N
  behind ts a b n parts few = let l = ap length parts ∙ length-append a b in omega (arith, l, few)

  says_map : (t table : List Alias) (ts : List (Terminal Found Place)) → length t + length ts < N → SaysBy CanStand table (keyword_map t) ts (read table (keyword_map t) ts)
  unfolding keyword_map
  says_map t table ts few =
      says_sequence CanStand table (begin (k.KeywordMap ∷ [])) (λ _. map_rest t tt) (λ u. map_rest_text t table tt) ts (says_kept table (begin (k.KeywordMap ∷ [])) (live_map_begin table) ts)
      (λ u a b parts spells. says_sequence CanStand table keyword_level (λ n. map_items n t) (λ n. items_text n t table) b (says_kept table keyword_level (live_keyword_level table) b)
      (λ n c d parts2 spells2. says_map_items n t table d (behind b c d (length t) parts2 (behind ts a b (length t) parts few))))

  abbrev level_rest : List Alias → Edif (List Alias)
  level_rest t = sequence level (λ _. keyword_map t)

  level_text : (t table : List Alias) → HasText CanStand table (level_rest t)
  level_text t table = text_then CanStand table level (λ _. keyword_map t) (text_kept table level (live_level table)) (λ _. map_text t table)

  pub header_text : (t table : List Alias) → HasText CanStand table (header t)
  unfolding header
  header_text t table = text_then CanStand table version (λ _. level_rest t) (text_kept table version (live_version table)) (λ _. level_text t table)

  pub says_header : (t table : List Alias) (ts : List (Terminal Found Place)) → length t + length ts < N → SaysBy CanStand table (header t) ts (read table (header t) ts)
  unfolding header
  says_header t table ts few =
      says_sequence CanStand table version (λ _. level_rest t) (λ _. level_text t table) ts (says_kept table version (live_version table) ts)
      (λ u a b parts spells. says_sequence CanStand table level (λ _. keyword_map t) (λ _. map_text t table) b (says_kept table level (live_level table) b)
      (λ v c d parts2 spells2. says_map t table d (behind b c d (length t) parts2 (behind ts a b (length t) parts few))))

  -- a file: a name, the header, and a body under the aliases of the header
  module _ {B A : Type 0} (name : Edif B) (body : B → Edif A) (live_name : LivesBy name) (live_body : (n : B) → LivesBy (body n)) where
    abbrev pub body_of : B → List Alias → Edif A
    body_of n aliases = under aliases (body n)

    abbrev pub named : B → Edif A
    named n = sequence (header []) (body_of n)

    abbrev pub file_of : Edif A
    file_of = sequence (begin (k.Edif ∷ [])) (λ _. sequence name named)

    live_edif : (table : List Alias) → IsKeptBy CanStand IsToken table (begin (k.Edif ∷ []))
    unfolding has
    live_edif table = live_begin k.Edif (k.Edif ∷ []) refl table

    body_text : (n : B) (table aliases : List Alias) → HasText CanStand table (body_of n aliases)
    body_text n table aliases = text_kept table (body_of n aliases) (live_body n aliases)

    named_text : (n : B) (table : List Alias) → HasText CanStand table (named n)
    named_text n table = text_then CanStand table (header []) (body_of n) (header_text [] table) (body_text n table)

    rest_text : (table : List Alias) → HasText CanStand table (sequence name named)
    rest_text table = text_then CanStand table name named (text_kept table name (live_name table)) (λ n. named_text n table)

    pub file_text : (table : List Alias) → HasText CanStand table file_of
    file_text table = text_then CanStand table (begin (k.Edif ∷ [])) (λ _. sequence name named) (text_kept table (begin (k.Edif ∷ [])) (live_edif table)) (λ _. rest_text table)

    says_named : (n : B) (table : List Alias) (ts : List (Terminal Found Place)) → 0 + length ts < N → SaysBy CanStand table (named n) ts (read table (named n) ts)
    says_named n table ts few =
        says_sequence CanStand table (header []) (body_of n) (body_text n table) ts (says_header [] table ts few)
        (λ aliases a b parts spells. says_kept table (body_of n aliases) (live_body n aliases) b)

    pub says_file : (table : List Alias) (ts : List (Terminal Found Place)) → 0 + length ts < N → SaysBy CanStand table file_of ts (read table file_of ts)
    says_file table ts few =
        says_sequence CanStand table (begin (k.Edif ∷ [])) (λ _. sequence name named) (λ _. rest_text table) ts (says_kept table (begin (k.Edif ∷ [])) (live_edif table) ts)
        (λ u a b parts spells. says_sequence CanStand table name named (λ n. named_text n table) b (says_kept table name (live_name table) b)
        (λ n c d parts2 spells2. says_named n table d (behind b c d 0 parts2 (behind ts a b 0 parts few))))

    ending_text : (table : List Alias) (v : A) → HasText CanStand table (sequence (the_end trailing) (λ _. gives v))
    unfolding the_end
    ending_text table v = text_by CanStand table (sequence (the_end trailing) (λ _. gives v)) ((end place_at_start, tt, refl, tt), λ _. tt)

    says_ending : (table : List Alias) (v : A) (ts : List (Terminal Found Place)) → SaysBy CanStand table (sequence (the_end trailing) (λ _. gives v)) ts (read table (sequence (the_end trailing) (λ _. gives v)) ts)
    unfolding the_end
    says_ending table v ts = says_by CanStand table (sequence (the_end trailing) (λ _. gives v)) ((end place_at_start, tt, refl, tt), λ _. tt) ts

    -- a whole text
    pub says_whole : (table : List Alias) (ts : List (Terminal Found Place)) → 0 + length ts < N → SaysBy CanStand table (whole trailing file_of) ts (read table (whole trailing file_of) ts)
    unfolding whole
    says_whole table ts few =
        says_sequence CanStand table file_of (λ v. sequence (the_end trailing) (λ _. gives v)) (ending_text table) ts (says_file table ts few) (λ v a b parts spells. says_ending table v b)
