-- The map of keywords, and with it the header, is read as the extended BNF has it.
use Rattle.std.proofs.Common.{◌≡◌, ◌∙◌, sym, ap, subst, refl, ◌↔◌, inl, inr, Bool, true, false, List, [], ◌∷◌, ◌++◌, append_assoc, append-nil}
use Rattle.grammar.specs.Part.{sequence, takes}
use Rattle.grammar.specs.Texts.{Spells, ends, goes}
use Rattle.grammar.specs.Whole.{proper, end}
use Rattle.readers.specs.Parts.{while_next}
use Rattle.edif_tokens.specs.declared.token.Found.{Found}
use Rattle.edif_values.specs.declared.token.Token.TheVariants.{RightParen}
use Rattle.edif_values.specs.declared.keyword.Keyword.TheVariants as k
use Rattle.edif_keywords.specs.Aliases.{Alias}
use Rattle.edif_keywords.specs.Language.{Edif}
use Rattle.edif_keywords.specs.Reasons as say
use Rattle.edif_keywords.specs.Grammar as grammar
use Rattle.edif_keywords.specs.Grammar.{forms, map_item, map_items}
use Rattle.edif_productions.specs.Production.{Production, single, both, either, form, meaning, growing, Tokens, IsToken, IsKeyword, GrowingText, grown, grows, Texts}
use Rattle.edif_productions.specs.Header.{keyword_level, alias, remark, keyword_map, header, HeaderText}
use Rattle.edif_productions.proofs.OneToken.{alone, taken_is, closing_text, text_closing, has_only, has_first}
use Rattle.edif_productions.proofs.Combining.{item_text, text_item}
use Rattle.edif_productions.proofs.HeaderTexts.{levels, versions, level_of, IsLevel, keyword_levels, MapItem, MapForm, step_of, form_for, map_keyword_text, text_map_keyword}

-- ---- {alias | comment}

-- `(` and what is read of a form of a map behind it
taken_form : (b : Bool) (table : List Alias) (x : Found) (u : Unit {0}) (ts : Tokens) (all : List Alias) (aliases : List Alias)
    → say.at_opening x.token ≡ takes u → Spells aliases (map_item b table) ts all → MapForm b table (proper x ∷ ts) all
unfolding map_item
taken_form b table x u ts all aliases h (q, c, d, e, w, t) =
    let m = map_keyword_text b table c q w in
    record {
      key = q;
      before = proper x ∷ [];
      word = c;
      behind = d;
      is = ap (λ z. proper x ∷ z) e;
      opens = (x, refl, taken_is x.token u h);
      means_key = m.0;
      may = m.1;
      text = t;
    }

-- the other way round
record Taken (b : Bool) (table : List Alias) (ts : Tokens) (all : List Alias) : Type 0 where
  first : Found
  rest : Tokens
  is : ts ≡ proper first ∷ rest
  taken : say.at_opening first.token ≡ takes tt
  text : (aliases : List Alias) → Spells aliases (map_item b table) rest all

form_taken : (b : Bool) (table : List Alias) (ts : Tokens) (all : List Alias) → MapForm b table ts all → Taken b table ts all
unfolding map_item
form_taken b table ts all f = record {
  first = f.opens.0;
  rest = f.word ++ f.behind;
  is = f.is ∙ ap (λ z. z ++ (f.word ++ f.behind)) f.opens.1;
  taken = ap say.at_opening f.opens.2;
  text = λ aliases. (f.key, f.word, f.behind, refl, text_map_keyword b table f.word f.key f.means_key f.may, f.text);
}

module _ (b : Bool) (aliases : List Alias) where
  -- {alias | comment} under the aliases before, and `)`
  record Ended (table : List Alias) (ts : Tokens) (all : List Alias) : Type 0 where
    made : List Alias
    value : all ≡ table ++ made
    inside : Tokens
    behind : Tokens
    is : ts ≡ inside ++ behind
    text : Texts table (growing (MapItem b)) inside made
    closes : IsToken RightParen behind

  ended : (table : List Alias) (ts : Tokens) (all : List Alias) → Spells aliases (map_items b table) ts all → Ended table ts all
  unfolding map_items forms while_next
  ended table ts all (ends (u, x, y, e, c, (n, f))) = record {
    made = [];
    value = f ∙ sym (append-nil table);
    inside = [];
    behind = x;
    is = e ∙ alone x y n;
    text = grown refl refl;
    closes = closing_text aliases x u c;
  }
  ended table ts all (goes next x y (proper z, u, r, m, h, s) more w) =
      let last = ended next y all more in
      let step = step_of b table (proper z ∷ r) next (taken_form b table z u r next aliases h s) in
      record {
        made = step.made ++ last.made;
        value = last.value ∙ ap (λ q. q ++ last.made) step.value ∙ append_assoc table step.made last.made;
        inside = x ++ last.inside;
        behind = last.behind;
        is = w ∙ ap (λ q. x ++ q) last.is ∙ sym (append_assoc x last.inside last.behind);
        text = grows step.made last.made x last.inside refl (subst (λ q. Texts table (MapItem b) q step.made) (sym m) step.text)
            (subst (λ q. Texts q (growing (MapItem b)) last.inside last.made) step.value last.text) refl;
        closes = last.closes;
      }
  ended table ts all (goes next x y (end p, u, r, m, h, s) more w) = absurd cc

  read_map : (table : List Alias) (x y : Tokens) (made : List Alias) → GrowingText (λ t. Texts t (MapItem b)) table x made → IsToken RightParen y
      → Spells aliases (map_items b table) (x ++ y) (table ++ made)
  unfolding map_items forms while_next
  read_map table x y made (grown e n) close =
      ends (tt, y, [], ap (λ z. z ++ y) e ∙ sym (append-nil y), text_closing aliases y close, (refl, ap (λ z. table ++ z) n ∙ append-nil table))
  read_map table x y made (grows first later c d e t more n) close =
      let q = form_taken b table c (table ++ first) (form_for b table c first t) in
      let last = read_map (table ++ first) d y later more close in
      let value : (table ++ first) ++ later ≡ table ++ made = append_assoc table first later ∙ ap (λ z. table ++ z) (sym n) in
      goes (table ++ first) c (d ++ y) (proper q.first, tt, q.rest, q.is, q.taken, q.text aliases)
      (subst (λ z. Spells aliases (map_items b (table ++ first)) (d ++ y) z) value last)
      (ap (λ z. z ++ y) e ∙ append_assoc c d y)

-- ---- the map

-- behind `( keywordMap`, by the level
abbrev Map : Production (List Alias)
Map =
    either (meaning (λ x. x.1) (both (keyword_level 0) (growing remark)))
    (meaning (λ x. x.1) (both (keyword_level 1) (growing (either alias remark))))

-- the level, as its form has it
level_form : (aliases : List Alias) (b : Bool) (ts : Tokens) → Texts aliases (form k.KeywordLevel (single (λ _ t c. IsLevel t c))) ts b
    → Texts aliases (keyword_level (level_of b)) ts tt
level_form aliases b ts l =
    let m = l.text in
    record {
      before = l.before;
      inside = l.inside;
      behind = l.behind;
      is = l.is;
      opens = l.opens;
      text = record { word = m.word; rest = m.rest; is = m.is; key = m.key; text = m.text };
      closes = l.closes;
    }

form_level : (aliases : List Alias) (b : Bool) (ts : Tokens) → Texts aliases (keyword_level (level_of b)) ts tt
    → Texts aliases (form k.KeywordLevel (single (λ _ t c. IsLevel t c))) ts b
form_level aliases b ts l =
    let m = l.text in
    record {
      before = l.before;
      inside = l.inside;
      behind = l.behind;
      is = l.is;
      opens = l.opens;
      text = record { word = m.word; rest = m.rest; is = m.is; key = m.key; text = m.text };
      closes = l.closes;
    }

map_by : (aliases : List Alias) (b : Bool) (a c : Tokens) (made : List Alias) → Texts aliases (keyword_level (level_of b)) a tt
    → Texts aliases (growing (MapItem b)) c made → Texts aliases Map (a ++ c) made
map_by aliases false a c made l g = inl ((tt, made), (a, c, refl, l, g), refl)
map_by aliases true a c made l g = inr ((tt, made), (a, c, refl, l, g), refl)

-- the other way round
record ByLevel (aliases : List Alias) (ts : Tokens) (made : List Alias) : Type 0 where
  level : Bool
  first : Tokens
  second : Tokens
  is : ts ≡ first ++ second
  level_text : Texts aliases (keyword_level (level_of level)) first tt
  items_text : Texts aliases (growing (MapItem level)) second made

by_map : (aliases : List Alias) (ts : Tokens) (made : List Alias) → Texts aliases Map ts made → ByLevel aliases ts made
by_map aliases ts made (inl (x, (a, c, e, l, g), f)) =
    record { level = false; first = a; second = c; is = e; level_text = l; items_text = subst (λ z. Texts aliases (growing remark) c z) (sym f) g }
by_map aliases ts made (inr (x, (a, c, e, l, g), f)) =
    record {
      level = true;
      first = a;
      second = c;
      is = e;
      level_text = l;
      items_text = subst (λ z. Texts aliases (growing (either alias remark)) c z) (sym f) g;
    }

-- what is read behind `( keywordMap`
abbrev rest_of : List Alias → Edif (List Alias)
rest_of table = sequence grammar.keyword_level (λ n. map_items n table)

module _ (table : List Alias) where
  map_text : (ts : Tokens) (all : List Alias) → Spells table (grammar.keyword_map table) ts all → (made : List Alias) × (all ≡ table ++ made)
      × Texts table keyword_map ts made
  unfolding grammar.keyword_map
  map_text ts all s =
      let i = item_text table (k.KeywordMap ∷ []) (λ _. rest_of table) ts all s in
      let t = i.text in
      let r = ended t.0 table table t.2 all t.5 in
      let level = level_form table t.0 t.1 (keyword_levels.is_text table t.1 t.0 t.4) in (
        r.made,
        r.value,
        record {
          before = i.before;
          inside = i.word ++ (t.1 ++ r.inside);
          behind = r.behind;
          is = i.is ∙ ap (λ z. i.before ++ z)
              (ap (λ z. i.word ++ z) (t.3 ∙ ap (λ z. t.1 ++ z) r.is ∙ sym (append_assoc t.1 r.inside r.behind))
              ∙ sym (append_assoc i.word (t.1 ++ r.inside) r.behind));
          opens = i.opens;
          text = record {
            word = i.word;
            rest = t.1 ++ r.inside;
            is = refl;
            key = subst (λ z. IsKeyword table z i.word) (has_only k.KeywordMap i.key i.may) i.means_key;
            text = map_by table t.0 t.1 r.inside r.made level r.text;
          };
          closes = r.closes;
        },
      )

  text_map : (ts : Tokens) (made : List Alias) → Texts table keyword_map ts made → Spells table (grammar.keyword_map table) ts (table ++ made)
  unfolding grammar.keyword_map
  text_map ts made l =
      let m = l.text in
      let b = by_map table m.rest made m.text in
      let whole : ts ≡ l.before ++ (m.word ++ (b.first ++ (b.second ++ l.behind))) =
      l.is ∙ ap (λ z. l.before ++ z)
      (ap (λ z. z ++ l.behind) m.is ∙ append_assoc m.word m.rest l.behind
      ∙ ap (λ z. m.word ++ z) (ap (λ z. z ++ l.behind) b.is ∙ append_assoc b.first b.second l.behind)) in
      text_item table (k.KeywordMap ∷ []) (λ _. rest_of table) ts (table ++ made) (record {
        key = k.KeywordMap;
        before = l.before;
        word = m.word;
        behind = b.first ++ (b.second ++ l.behind);
        is = whole;
        opens = l.opens;
        means_key = m.key;
        may = has_first k.KeywordMap [];
        text = (
          b.level,
          b.first,
          b.second ++ l.behind,
          refl,
          keyword_levels.is_spelled table b.first b.level
              (form_level table b.level b.first b.level_text),
          read_map b.level table table b.second l.behind made b.items_text l.closes,
        );
      })

  header_text : (ts : Tokens) (all : List Alias) → Spells table (grammar.header table) ts all → HeaderText table ts all
  unfolding grammar.header header
  header_text ts all (u, a, b, e, v, (w, c, d, f, l, m)) =
      let r = map_text d all m in
      (r.0, r.1, ((tt, (tt, r.0)), (a, b, e, versions.is_text table a u v, (c, d, f, levels.is_text table c w l, r.2)), refl))

  text_header : (ts : Tokens) (all made : List Alias) → all ≡ table ++ made → Texts table header ts made → Spells table (grammar.header table) ts all
  unfolding grammar.header header
  text_header ts all made value (x, (a, b, e, v, (c, d, f, l, m)), is) =
      let same : table ++ x.1.1 ≡ all = ap (λ z. table ++ z) (sym is) ∙ sym value in (
        tt,
        a,
        b,
        e,
        versions.is_spelled table a tt v,
        (tt, c, d, f, levels.is_spelled table c tt l, subst (λ z. Spells table (grammar.keyword_map table) d z) same (text_map d x.1.1 m)),
      )

  -- The header is what the extended BNF has.
  pub headers : (ts : Tokens) (all : List Alias) → Spells table (grammar.header table) ts all ↔ HeaderText table ts all
  headers ts all = (header_text ts all, λ h. text_header ts all h.0 h.1 h.2)
