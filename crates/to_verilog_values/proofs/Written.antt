-- Names, constants, attributes and parameters that can be written.
use Rattle.std.proofs.Common.{◌≡◌, ℕ, ◌≤◌, Bool, true, false, ◌&&◌, cond, if◌then◌else◌, nat_le, List, [], ◌∷◌, Option, Some, None, map, filter, length, refl, arith}
use Rattle.std.specs.List.{AllByRecursion, list_all}
use Rattle.std.proofs.lemmas.Bool.{false≢true}
use Rattle.std.proofs.lemmas.Bool.Decides.{nat_tests}
use Rattle.nl_base.specs.declared.value.PropValue.{PropValue}
use Rattle.nl_base.specs.declared.value.PropValue.TheVariants.{Str as StrValue, Int as IntValue, Flag, Scaled as ScaledValue}
use Rattle.net_bits.specs.Names.{NameSet}
use Rattle.net_hier.specs.declared.cells.HProp.{HProp}
use Rattle.net_live.specs.Last.{is_named, last_of}
use Rattle.net_values.specs.Sound.{AreSoundProps, IsSoundValue}
use Rattle.to_verilog_props.specs.Constants.{attr_const, lit_or, param_const}
use Rattle.to_verilog_props.specs.Written.{attr_of, attrs_of, given_attrs, given_params, is_param, param_of}
use Rattle.to_verilog_rules.specs.Rules.{is_graphic, is_name}
use Rattle.to_verilog_values.specs.Kept.{HaveGoodNames}
use Rattle.vlog_values.specs.Spelled.{are_digits, spelled_literal}
use Rattle.vlog_values.proofs.SpelledLaws.{digits_are, spelled_is}
use Rattle.vlog_values.specs.Values.{AreAttrs, IsConst, IsLiteral, IsName, IsParamSet}
use Rattle.vlog_values.specs.declared.literal.Base.TheVariants.{Binary}
use Rattle.vlog_values.specs.declared.literal.Literal.{Literal}
use Rattle.vlog_written.specs.Written.{bit_literal}

both : (a b : Bool) → (a && b) ≡ true → (a ≡ true) × (b ≡ true)
both true true e = (refl, refl)
both true false e = absurd (false≢true e)
both false b e = absurd (false≢true e)

graphic_bytes : (bytes : List ℕ) → list_all is_graphic bytes ≡ true → AllByRecursion (λ b. (33 ≤ b) × (b ≤ 126)) bytes
graphic_bytes [] e = tt
graphic_bytes (byte ∷ bytes) e =
    let r = both (is_graphic byte) (list_all is_graphic bytes) e in
    let s = both (nat_le 33 byte) (nat_le byte 126) r.0 in
    let low : nat_le 33 byte ≡ true = s.0 in
    let high : nat_le byte 126 ≡ true = s.1 in
    let a : 33 ≤ byte = grind (arith, nat_tests) in
    let b : byte ≤ 126 = grind (arith, nat_tests) in
    ((a, b), graphic_bytes bytes r.1)

pub name_is : (name : List ℕ) → is_name name ≡ true → IsName name
unfolding is_name
name_is name e =
    let r = both (nat_le 1 (length name) && nat_le (length name) 1024) (list_all is_graphic name) e in
    let s = both (nat_le 1 (length name)) (nat_le (length name) 1024) r.0 in
    let low : nat_le 1 (length name) ≡ true = s.0 in
    let high : nat_le (length name) 1024 ≡ true = s.1 in
    let a : 1 ≤ length name = grind (arith, nat_tests) in
    let b : length name ≤ 1024 = grind (arith, nat_tests) in
    record { some = a; short = b; graphic = graphic_bytes name r.1 }

bit_digits : (one : Bool) → are_digits Binary ((if one then 49 else 48) ∷ []) ≡ true
unfolding are_digits
bit_digits true = refl
bit_digits false = refl

pub bit_is : (one : Bool) → IsLiteral (bit_literal one)
bit_is one = record {
  least = omega arith;
  most = omega arith;
  based = record { spelled = digits_are Binary ((if one then 49 else 48) ∷ []) (bit_digits one); short = omega arith };
}

pub attribute_is : (value : PropValue) → IsSoundValue value → IsConst (attr_const value)
attribute_is (StrValue text) h = h
attribute_is (IntValue number) h = h
attribute_is (Flag one) h = bit_is one
attribute_is (ScaledValue number) h = h

pub parameter_is : (value : PropValue) → IsSoundValue value → IsConst (param_const value)
parameter_is (StrValue text) h = by (spelled_literal text) refl
  where
    by : (o : Option Literal) → spelled_literal text ≡ o → IsConst (lit_or o text)
    by None e = h
    by (Some literal) e = (spelled_is text literal e).literal_is
parameter_is (IntValue number) h = h
parameter_is (Flag one) h = bit_is one
parameter_is (ScaledValue number) h = h

-- what holds of each property holds of each that is kept, and of each that passes
kept_all : (P : HProp → Type 0) (props : List HProp) → AllByRecursion P props → AllByRecursion P (last_of props)
unfolding last_of
kept_all P [] h = tt
kept_all P (prop ∷ rest) h = by (is_named prop.name rest) (kept_all P rest h.1)
  where
    by : (b : Bool) → AllByRecursion P (last_of rest) → AllByRecursion P (cond b (last_of rest) (prop ∷ last_of rest))
    by true r = r
    by false r = (h.0, r)

passed_all : (P : HProp → Type 0) (test : HProp → Bool) (props : List HProp) → AllByRecursion P props → AllByRecursion P (filter test props)
passed_all P test [] h = tt
passed_all P test (prop ∷ rest) h = by (test prop) (passed_all P test rest h.1)
  where
    by : (b : Bool) → AllByRecursion P (filter test rest) → AllByRecursion P (cond b (prop ∷ filter test rest) (filter test rest))
    by true r = (h.0, r)
    by false r = r

-- a property that can be written
record IsGoodProp (prop : HProp) : Type 0 where
  name : is_name prop.name ≡ true
  value : IsSoundValue prop.value

good_props : (props : List HProp) → HaveGoodNames props → AreSoundProps props → AllByRecursion IsGoodProp props
good_props [] n s = tt
good_props (prop ∷ props) n s = (record { name = n.0; value = s.0 }, good_props props n.1 s.1)

attrs_are : (props : List HProp) → AllByRecursion IsGoodProp props → AreAttrs (map attr_of props)
attrs_are [] h = tt
attrs_are (prop ∷ props) h = (record { name = name_is prop.name h.0.name; value = attribute_is prop.value h.0.value }, attrs_are props h.1)

sets_are : (props : List HProp) → AllByRecursion IsGoodProp props → AllByRecursion IsParamSet (map param_of props)
sets_are [] h = tt
sets_are (prop ∷ props) h = (record { name = name_is prop.name h.0.name; value = parameter_is prop.value h.0.value }, sets_are props h.1)

pub attributes_are : (props : List HProp) → HaveGoodNames props → AreSoundProps props → AreAttrs (attrs_of props)
attributes_are props n s = attrs_are (last_of props) (kept_all IsGoodProp props (good_props props n s))

pub given_are : (params : NameSet) (props : List HProp) → HaveGoodNames props → AreSoundProps props → AreAttrs (given_attrs params (last_of props))
given_are params props n s = attrs_are _ (passed_all IsGoodProp _ (last_of props) (kept_all IsGoodProp props (good_props props n s)))

pub parameters_are : (params : NameSet) (props : List HProp) → HaveGoodNames props → AreSoundProps props → AllByRecursion IsParamSet (given_params params (last_of props))
parameters_are params props n s = sets_are _ (passed_all IsGoodProp (is_param params) (last_of props) (kept_all IsGoodProp props (good_props props n s)))
