-- Comments, names and properties are read as the extended BNF has them.
use Rattle.std.proofs.Common.{◌≡◌, ◌∙◌, sym, ap, subst, refl, inl, inr, Bool, true, false, List, [], ◌∷◌, ◌++◌, append_assoc, append-nil, Some, None, pos}
use Rattle.grammar.specs.Part.{gives, sequence}
use Rattle.grammar.specs.Texts.{Spells}
use Rattle.nl_base.specs.declared.value.PropValue.{PropValue}
use Rattle.nl_base.specs.declared.value.PropValue.TheVariants as values
use Rattle.edif_values.specs.declared.token.Token.TheVariants.{LeftParen, RightParen}
use Rattle.edif_values.specs.declared.keyword.Keyword.{Keyword}
use Rattle.edif_values.specs.declared.keyword.Keyword.TheVariants as k
use Rattle.edif_values.specs.Keywords.{has, same_keyword}
use Rattle.edif_keywords.specs.Aliases.{Alias}
use Rattle.edif_keywords.specs.Language.{Edif}
use Rattle.edif_keywords.specs.Grammar.{closing, item}
use Rattle.edif_keywords.specs.Grammar as keywords
use Rattle.edif_values.specs.declared.name.NameDef.{NameDef}
use Rattle.edif_values.specs.declared.name.PortName.{PortName}
use Rattle.edif_values.specs.declared.name.PortName.TheVariants as port_names
use Rattle.edif_values.specs.declared.property.PropTail.{PropTail}
use Rattle.edif_values.specs.declared.property.PropTail.TheVariants as tail
use Rattle.edif_names.specs.Grammar as grammar
use Rattle.edif_names.specs.Grammar.{renamed, plain, array, port_form, exponential, whole, string_value, integer_value, number_value, boolean_value, value_form, owner, tail_form, tails}
use Rattle.edif_productions.specs.Production.{Production, nothing, many, form, meaning, ◌·◌, ◌∣◌, Tokens, IsToken, IsKeyword, Texts, ident, int, str, HasTextsOf, form_of}
use Rattle.edif_productions.specs.Header.{comment}
use Rattle.edif_productions.specs.Names.{name, port_name, scaled, value, property}
use Rattle.edif_productions.proofs.OneToken.{alone, words, strings, integers, closing_text, text_closing, has_first, has_later, has_first_or, has_only}
use Rattle.edif_productions.proofs.Combining.{EndedText, ReadsOn, then_on, ends_on, gives_on, gives_so, ItemText, item_text, text_item, whole_form, meant}
use Rattle.edif_productions.proofs.Alternatives.{one_form, or_form, form_or_part}
use Rattle.edif_productions.proofs.Alike.{has_same, choice_of_forms, choice_of_two}
use Rattle.edif_productions.proofs.Repeating.{many_forms, many_strings}

pub comments : HasTextsOf (form_of k.Comment keywords.comment) comment
comments = whole_form k.Comment many_strings

-- ---- names

-- behind `( rename`
abbrev Renamed : Production NameDef
Renamed = meaning (λ x. record { ident = x.0; text = Some x.1 }) (ident · str)

renames : ReadsOn renamed Renamed
unfolding renamed
renames = then_on (λ w s. record { ident = w; text = Some s }) words (λ w. ends_on (λ s. record { ident = w; text = Some s }) strings)

-- an identifier alone
abbrev Plain : Production NameDef
Plain = meaning (λ w. record { ident = w; text = None }) ident

plain_names : HasTextsOf plain Plain
unfolding plain
plain_names = gives_so (λ w. record { ident = w; text = None }) words

pub names : HasTextsOf grammar.name name
unfolding grammar.name name
names = form_or_part (k.Rename ∷ []) plain_names (whole_form k.Rename renames)

arrays : ReadsOn array (meaning (λ x. port_names.Array x.0 x.1) (name · int))
unfolding array
arrays = then_on (λ n size. port_names.Array n size) names (λ n. ends_on (λ size. port_names.Array n size) integers)

-- rename or array, behind its `(`
abbrev port_rest : Keyword → Edif PortName
port_rest q = port_form (same_keyword q k.Array)

pub port_names_read : HasTextsOf grammar.port_name port_name
unfolding grammar.port_name port_name name
port_names_read =
    has_same (choice_of_two (λ n. port_names.Single n) Plain (form k.Rename Renamed)
    (form k.Array (meaning (λ x. port_names.Array x.0 x.1) (name · int))))
    (form_or_part (k.Rename ∷ k.Array ∷ []) (gives_so (λ n. port_names.Single n) plain_names)
    (or_form port_rest k.Rename (k.Array ∷ []) (meant (k.Rename ∷ []) (λ n. port_names.Single n) (whole_form k.Rename renames))
    (one_form port_rest k.Array (whole_form k.Array arrays))))

-- ---- values

exponentials : ReadsOn exponential (meaning (λ x. record { mantissa = x.0; exponent = x.1 }) (int · int))
unfolding exponential
exponentials = then_on (λ m e. record { mantissa = m; exponent = e }) integers (λ m. ends_on (λ e. record { mantissa = m; exponent = e }) integers)

pub scaled_numbers : HasTextsOf grammar.scaled scaled
unfolding grammar.scaled scaled whole
scaled_numbers = form_or_part (k.E ∷ []) (gives_so (λ m. record { mantissa = m; exponent = pos 0 }) integers) (whole_form k.E exponentials)

-- ( true ) or ( false )
abbrev Flag : Production PropValue
Flag = form k.True (nothing (values.Flag true)) ∣ form k.False (nothing (values.Flag false))

-- the keywords of the two
abbrev flags : List Keyword
flags = k.True ∷ k.False ∷ []

-- what is read behind one of them: its end, and the end of `boolean`
abbrev flag_rest : Keyword → Edif PropValue
flag_rest q = sequence closing (λ _. sequence closing (λ _. gives (values.Flag (same_keyword q k.True))))

-- the form with one of them
flag_form : (aliases : List Alias) (key : Keyword) (flag : PropValue) (before word behind : Tokens) → IsToken LeftParen before
    → IsKeyword aliases key word → IsToken RightParen behind → Texts aliases (form key (nothing flag)) (before ++ (word ++ behind)) flag
flag_form aliases key flag before word behind opens means_key closes =
    record {
      before = before;
      inside = word;
      behind = behind;
      is = refl;
      opens = opens;
      text = record { word = word; rest = []; is = sym (append-nil word); key = means_key; text = (refl, refl) };
      closes = closes;
    }

flag_text : (aliases : List Alias) (ts : Tokens) (v : PropValue) → ItemText aliases flags flag_rest ts v → EndedText aliases Flag ts v
flag_text aliases ts v i =
    let s = i.text in
    let d = s.5 in
    let closes = closing_text aliases s.1 s.0 s.4 in
    let whole : ts ≡ (i.before ++ (i.word ++ s.1)) ++ d.1 =
    i.is ∙ ap (λ z. i.before ++ (i.word ++ z)) (s.3 ∙ ap (λ z. s.1 ++ z) (d.3 ∙ alone d.1 d.2 d.5.0))
    ∙ ap (λ z. i.before ++ z) (sym (append_assoc i.word s.1 d.1)) ∙ sym (append_assoc i.before (i.word ++ s.1) d.1) in
    record {
      inside = i.before ++ (i.word ++ s.1);
      behind = d.1;
      is = whole;
      text = elim (has_first_or k.True (k.False ∷ []) i.key i.may) [
        | inl same ↦ inl (subst (λ z. Texts aliases (form k.True (nothing (values.Flag true))) (i.before ++ (i.word ++ s.1)) z)
            (sym (d.5.1 ∙ ap (λ z. values.Flag (same_keyword z k.True)) same))
            (flag_form aliases k.True (values.Flag true) i.before i.word s.1 i.opens
            (subst (λ z. IsKeyword aliases z i.word) same i.means_key) closes))
        | inr may ↦ let same = has_only k.False i.key may in
            inr (subst (λ z. Texts aliases (form k.False (nothing (values.Flag false))) (i.before ++ (i.word ++ s.1)) z)
            (sym (d.5.1 ∙ ap (λ z. values.Flag (same_keyword z k.True)) same))
            (flag_form aliases k.False (values.Flag false) i.before i.word s.1 i.opens
            (subst (λ z. IsKeyword aliases z i.word) same i.means_key) closes))
      ];
      closes = closing_text aliases d.1 d.0 d.4;
    }

-- the form with one of them is read, with the end of `boolean`
read_flag : (aliases : List Alias) (key : Keyword) (flag : Bool) (ts a b : Tokens) (v : PropValue) → has flags key ≡ true
    → same_keyword key k.True ≡ flag → ts ≡ a ++ b → Texts aliases (form key (nothing (values.Flag flag))) a v → IsToken RightParen b
    → Spells aliases (item flags flag_rest) ts v
read_flag aliases key flag ts a b v may is e l closes =
    let m = l.text in
    let inside_is : l.inside ≡ m.word = m.is ∙ alone m.word m.rest m.text.0 in
    text_item aliases flags flag_rest ts v (record {
      key = key;
      before = l.before;
      word = m.word;
      behind = l.behind ++ b;
      is = e ∙ ap (λ z. z ++ b) (l.is ∙ ap (λ z. l.before ++ (z ++ l.behind)) inside_is) ∙ append_assoc l.before (m.word ++ l.behind) b
          ∙ ap (λ z. l.before ++ z) (append_assoc m.word l.behind b);
      opens = l.opens;
      means_key = m.key;
      may = may;
      text = (
        tt,
        l.behind,
        b,
        refl,
        text_closing aliases l.behind l.closes,
        (tt, b, [], sym (append-nil b), text_closing aliases b closes, (refl, m.text.1 ∙ ap values.Flag (sym is))),
      );
    })

text_flag : (aliases : List Alias) (ts a b : Tokens) (v : PropValue) → ts ≡ a ++ b → Texts aliases Flag a v → IsToken RightParen b
    → Spells aliases (item flags flag_rest) ts v
text_flag aliases ts a b v e (inl l) closes = read_flag aliases k.True true ts a b v (has_first k.True (k.False ∷ [])) refl e l closes
text_flag aliases ts a b v e (inr l) closes =
    read_flag aliases k.False false ts a b v (has_later k.True (k.False ∷ []) k.False (has_first k.False [])) refl e l closes

booleans : ReadsOn boolean_value Flag
unfolding boolean_value
booleans = record {
  is_text = λ aliases ts v s. flag_text aliases ts v (item_text aliases flags flag_rest ts v s);
  is_spelled = λ aliases ts v t. text_flag aliases ts t.inside t.behind v t.is t.text t.closes;
}

pub property_values : HasTextsOf grammar.value value
unfolding grammar.value value value_form string_value integer_value number_value
property_values =
    or_form value_form k.String (k.Integer ∷ k.Number ∷ k.Boolean ∷ []) (whole_form k.String (ends_on (λ s. values.Str s) strings))
    (or_form value_form k.Integer (k.Number ∷ k.Boolean ∷ []) (whole_form k.Integer (ends_on (λ n. values.Int n) integers))
    (or_form value_form k.Number (k.Boolean ∷ []) (whole_form k.Number (ends_on (λ x. values.Scaled x) scaled_numbers))
    (one_form value_form k.Boolean
    (has_same (choice_of_forms k.Boolean (form k.True (nothing (values.Flag true))) (form k.False (nothing (values.Flag false))))
    (whole_form k.Boolean booleans)))))

-- ---- properties

-- ( owner STR ) | comment
abbrev Tail : Production PropTail
Tail = form k.Owner (meaning (λ s. tail.Owner s) str) ∣ meaning (λ ts. tail.Comment ts) comment

property_tails : HasTextsOf (item (k.Owner ∷ k.Comment ∷ []) tail_form) Tail
unfolding tail_form owner
property_tails =
    or_form tail_form k.Owner (k.Comment ∷ []) (whole_form k.Owner (ends_on (λ s. tail.Owner s) strings))
    (one_form tail_form k.Comment (meant (k.Comment ∷ []) (λ ts. tail.Comment ts) comments))

property_bodies : ReadsOn grammar.property (meaning (λ x. record { name = x.0; value = x.1.0; tail = x.1.1 }) (name · value · many Tail))
unfolding grammar.property tails
property_bodies =
    then_on (λ n x. record { name = n; value = x.0; tail = x.1 }) names
    (λ n. then_on (λ v ts. record { name = n; value = v; tail = ts }) property_values
    (λ v. gives_on (λ ts. record { name = n; value = v; tail = ts }) (many_forms (k.Owner ∷ k.Comment ∷ []) property_tails)))

pub properties : HasTextsOf (form_of k.Property grammar.property) property
unfolding property
properties = whole_form k.Property property_bodies
