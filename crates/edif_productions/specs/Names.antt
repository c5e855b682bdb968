-- Names and properties in the words of the extended BNF (EDIF 2 0 0, forms rename, array, property,
-- string, integer, number, boolean, owner).
use Rattle.std.specs.Prelude.{true, false, Some, None, pos}
use Rattle.nl_base.specs.declared.number.Scaled.{Scaled}
use Rattle.nl_base.specs.declared.value.PropValue.{PropValue}
use Rattle.nl_base.specs.declared.value.PropValue.TheVariants as values
use Rattle.edif_values.specs.declared.keyword.Keyword.TheVariants as k
use Rattle.edif_values.specs.declared.name.NameDef.{NameDef}
use Rattle.edif_values.specs.declared.name.PortName.{PortName}
use Rattle.edif_values.specs.declared.name.PortName.TheVariants as port_names
use Rattle.edif_values.specs.declared.property.PropTail.TheVariants as tail
use Rattle.edif_values.specs.declared.property.Property.{Property}
use Rattle.edif_productions.specs.Production.{Production, nothing, many, form, meaning, ◌·◌, ◌∣◌, ident, int, str}
use Rattle.edif_productions.specs.Header.{comment}

-- NAME      = IDENT | ( rename IDENT STR )
unfoldable pub name : Production NameDef
name =
    meaning (λ w. record { ident = w; text = None }) ident
    ∣ form k.Rename (meaning (λ x. record { ident = x.0; text = Some x.1 }) (ident · str))

-- PORTNAME  = NAME | ( array NAME INT )
unfoldable pub port_name : Production PortName
port_name =
    meaning (λ n. port_names.Single n) name
    ∣ form k.Array (meaning (λ x. port_names.Array x.0 x.1) (name · int))

-- SCALED    = INT | ( e INT INT )
unfoldable pub scaled : Production Scaled
scaled =
    meaning (λ m. record { mantissa = m; exponent = pos 0 }) int
    ∣ form k.E (meaning (λ x. record { mantissa = x.0; exponent = x.1 }) (int · int))

-- VALUE     = ( string STR ) | ( integer INT ) | ( number SCALED )
--           | ( boolean ( true ) ) | ( boolean ( false ) )
unfoldable pub value : Production PropValue
value =
    form k.String (meaning (λ s. values.Str s) str)
    ∣ form k.Integer (meaning (λ n. values.Int n) int)
    ∣ form k.Number (meaning (λ x. values.Scaled x) scaled)
    ∣ form k.Boolean (form k.True (nothing (values.Flag true)))
    ∣ form k.Boolean (form k.False (nothing (values.Flag false)))

-- property  = ( property NAME VALUE {( owner STR ) | comment} )
unfoldable pub property : Production Property
property =
    form k.Property (meaning (λ x. record { name = x.0; value = x.1.0; tail = x.1.1 })
    (name · value
    · many (form k.Owner (meaning (λ s. tail.Owner s) str)
    ∣ meaning (λ ts. tail.Comment ts) comment)))
