-- Values of properties as constants (IEEE 1364-2005, 3.5 and 3.8).
use Rattle.std.specs.Prelude.{ℕ, List, Option, Some, None}
use Rattle.nl_base.specs.declared.value.PropValue.{PropValue}
use Rattle.nl_base.specs.declared.value.PropValue.TheVariants.{Str as StrValue, Int as IntValue, Flag, Scaled as ScaledValue}
use Rattle.vlog_values.specs.Spelled.{spelled_literal}
use Rattle.vlog_values.specs.declared.expression.Const.{Const}
use Rattle.vlog_values.specs.declared.expression.Const.TheVariants.{Str, Number, Real, Lit}
use Rattle.vlog_values.specs.declared.literal.Literal.{Literal}
use Rattle.vlog_written.specs.Written.{bit_literal}

-- the constant that has the value in an attribute
abbrev pub attr_const : PropValue → Const
attr_const (StrValue text) = Str text
attr_const (IntValue number) = Number number
attr_const (Flag one) = Lit (bit_literal one)
attr_const (ScaledValue number) = Real number

-- a literal, or the text where there is none
abbrev pub lit_or : Option Literal → List ℕ → Const
lit_or None text = Str text
lit_or (Some literal) text = Lit literal

-- a text that is the normal spelling of a literal is that literal
abbrev pub text_const : List ℕ → Const
text_const text = lit_or (spelled_literal text) text

-- the constant that has the value in a parameter; a boolean has none
abbrev pub param_const : PropValue → Const
param_const (StrValue text) = text_const text
param_const (IntValue number) = Number number
param_const (Flag one) = Lit (bit_literal one)
param_const (ScaledValue number) = Real number
