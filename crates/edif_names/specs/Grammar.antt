-- The productions of names and properties (EDIF 2 0 0, forms rename, array, property, string, integer, number, boolean, owner). A production
-- whose form has a keyword of its own reads on after it, up to the `)` of the form.
use Rattle.std.specs.Prelude.{Bool, true, false, List, [], ◌∷◌, Some, None, pos, cond}
use Rattle.readers.specs.Items.{as_item}
use Rattle.grammar.specs.Part.{gives, ◌>>=◌}
use Rattle.nl_base.specs.declared.number.Scaled.{Scaled}
use Rattle.nl_base.specs.declared.value.PropValue.{PropValue}
use Rattle.nl_base.specs.declared.value.PropValue.TheVariants as values
use Rattle.edif_values.specs.declared.keyword.Keyword.{Keyword}
use Rattle.edif_values.specs.declared.keyword.Keyword.TheVariants as k
use Rattle.edif_values.specs.Keywords.{same_keyword}
use Rattle.edif_keywords.specs.Language.{Edif}
use Rattle.edif_keywords.specs.Grammar.{word, string, integer, closing, comment, begin, item, items, form_or}
use Rattle.edif_values.specs.declared.name.NameDef.{NameDef}
use Rattle.edif_values.specs.declared.name.PortName.{PortName}
use Rattle.edif_values.specs.declared.name.PortName.TheVariants.{Single, Array}
use Rattle.edif_values.specs.declared.property.PropTail.{PropTail}
use Rattle.edif_values.specs.declared.property.PropTail.TheVariants as tail
use Rattle.edif_values.specs.declared.property.Property.{Property}

-- ---- names

-- IDENT STR ), after `( rename`
unfoldable pub renamed : Edif NameDef
renamed = do
  w ← word
  s ← string
  _ ← closing
  gives (record { ident = w; text = Some s })

-- IDENT as a name
unfoldable pub plain : Edif NameDef
plain = do
  w ← word
  gives (record { ident = w; text = None })

-- NAME      = IDENT | ( rename IDENT STR )
unfoldable pub name : Edif NameDef
name = form_or (k.Rename ∷ []) (λ _. renamed) plain

-- NAME INT ), after `( array`
unfoldable pub array : Edif PortName
array = do
  n ← name
  size ← integer
  _ ← closing
  gives (Array n size)

-- rename or array, after its keyword
abbrev pub port_form : Bool → Edif PortName
port_form true = array
port_form false = as_item Single renamed

-- PORTNAME  = NAME | ( array NAME INT )
unfoldable pub port_name : Edif PortName
port_name = form_or (k.Rename ∷ k.Array ∷ []) (λ q. port_form (same_keyword q k.Array)) (as_item Single plain)

-- ---- values

-- INT INT ), after `( e`
unfoldable pub exponential : Edif Scaled
exponential = do
  m ← integer
  e ← integer
  _ ← closing
  gives (record { mantissa = m; exponent = e })

-- INT as a scaled number
unfoldable pub whole : Edif Scaled
whole = do
  m ← integer
  gives (record { mantissa = m; exponent = pos 0 })

-- SCALED    = INT | ( e INT INT )
unfoldable pub scaled : Edif Scaled
scaled = form_or (k.E ∷ []) (λ _. exponential) whole

-- STR ), after `( string`
unfoldable pub string_value : Edif PropValue
string_value = do
  s ← string
  _ ← closing
  gives (values.Str s)

-- INT ), after `( integer`
unfoldable pub integer_value : Edif PropValue
integer_value = do
  n ← integer
  _ ← closing
  gives (values.Int n)

-- SCALED ), after `( number`
unfoldable pub number_value : Edif PropValue
number_value = do
  x ← scaled
  _ ← closing
  gives (values.Scaled x)

-- ( true ) ) or ( false ) ), after `( boolean`
unfoldable pub boolean_value : Edif PropValue
boolean_value = do
  q ← begin (k.True ∷ k.False ∷ [])
  _ ← closing
  _ ← closing
  gives (values.Flag (same_keyword q k.True))

-- the rest of a value, by its keyword
unfoldable pub value_form : Keyword → Edif PropValue
value_form q =
    cond (same_keyword q k.String) string_value (cond (same_keyword q k.Integer) integer_value (cond (same_keyword q k.Number) number_value boolean_value))

-- VALUE     = ( string STR ) | ( integer INT ) | ( number SCALED ) | ( boolean ( true ) ) | ( boolean ( false ) )
unfoldable pub value : Edif PropValue
value = item (k.String ∷ k.Integer ∷ k.Number ∷ k.Boolean ∷ []) value_form

-- ---- properties

-- STR ), after `( owner`
unfoldable pub owner : Edif PropTail
owner = do
  s ← string
  _ ← closing
  gives (tail.Owner s)

-- owner or comment, after its keyword
unfoldable pub tail_form : Keyword → Edif PropTail
tail_form q = cond (same_keyword q k.Owner) owner (as_item tail.Comment comment)

-- ( owner STR ) | comment
unfoldable pub tail_item : Edif PropTail
tail_item = item (k.Owner ∷ k.Comment ∷ []) tail_form

-- {( owner STR ) | comment} ), after some
unfoldable pub tails : List PropTail → Edif (List PropTail)
tails = items (λ _. k.Owner ∷ k.Comment ∷ []) tail_form

-- property  = ( property NAME VALUE {( owner STR ) | comment} )
unfoldable pub property : Edif Property
property = do
  n ← name
  v ← value
  ts ← tails []
  gives (record { name = n; value = v; tail = ts })
