-- What attributes and parameters mean.
use Rattle.std.proofs.Common.{◌≡◌, ℕ, ◌⊎◌, inl, inr, Bool, true, false, not, cond, ◌||◌, List, [], ◌∷◌, ◌++◌, Option, Some, None, map, filter, bytes_eq, codes, if◌then◌else◌, lit<, refl, sym, ◌∙◌, ap, subst}
use Rattle.std.specs.List.{list_any}
use Rattle.std.proofs.lemmas.Bool.{false≢true}
use Rattle.std.proofs.lemmas.Fmt.{decimal_digit}
use Rattle.std.proofs.lemmas.List.Folds.{list_any-append}
use Rattle.std.proofs.lemmas.Slice.Eq.{bytes_eq-Decides}
use Rattle.net_bits.specs.Names.{NameSet, has_name}
use Rattle.net_hier.specs.Facts.{HasProperty, SameValues}
use Rattle.net_hier.specs.declared.cells.HProp.{HProp}
use Rattle.net_live.specs.Last.{is_named, last_of}
use Rattle.net_live.proofs.LastLaws.{kept_names, last_values_kept, not_named}
use Rattle.nl_base.specs.declared.value.PropValue.{PropValue}
use Rattle.nl_base.specs.declared.value.PropValue.TheVariants.{Str as StrValue, Int as IntValue, Flag, Scaled as ScaledValue}
use Rattle.vlog_design.specs.Design.{attr_props, attr_value, param_props, param_value}
use Rattle.vlog_design.specs.Names.{clashing}
use Rattle.vlog_values.specs.Spelled.{spelled_literal}
use Rattle.vlog_values.proofs.SpelledLaws.{spelled_is}
use Rattle.vlog_values.specs.Spelling.{based_spelling, literal_spelling}
use Rattle.vlog_values.specs.declared.declaration.ParamSet.{ParamSet}
use Rattle.vlog_values.specs.declared.literal.Literal.{Literal}
use Rattle.vlog_written.specs.Written.{bit_literal}
use Rattle.to_verilog_props.specs.Constants.{attr_const, lit_or, param_const, text_const}
use Rattle.to_verilog_props.specs.Written.{HaveNoFlags, attr_of, attrs_of, given_attrs, given_params, is_param, param_of}
use Rattle.to_verilog_props.proofs.Filtered.{parts_keep}

-- the spelling of `1'b0` and `1'b1`
bit_spelled : (one : Bool) → literal_spelling (bit_literal one) ≡ 49 ∷ 39 ∷ 98 ∷ (if one then 49 else 48) ∷ []
unfolding literal_spelling based_spelling
bit_spelled one = ap (λ d. d ++ 39 ∷ 98 ∷ (if one then 49 else 48) ∷ []) (decimal_digit 1 (lit< tt))

pub attribute_means : (value : PropValue) → attr_value (attr_const value) ≡ value
unfolding attr_value
attribute_means (StrValue text) = refl
attribute_means (IntValue number) = refl
attribute_means (Flag one) = ap (λ s. if bytes_eq s (codes "1'b0") then Flag false else if bytes_eq s (codes "1'b1") then Flag true else StrValue s) (bit_spelled one) ∙ by one
  where
    by : (b : Bool) → (if bytes_eq (49 ∷ 39 ∷ 98 ∷ (if b then 49 else 48) ∷ []) (codes "1'b0") then Flag false else if bytes_eq (49 ∷ 39 ∷ 98 ∷ (if b then 49 else 48) ∷ []) (codes "1'b1") then Flag true else StrValue (49 ∷ 39 ∷ 98 ∷ (if b then 49 else 48) ∷ [])) ≡ Flag b
    by true = refl
    by false = refl
attribute_means (ScaledValue number) = refl

text_means : (text : List ℕ) → param_value (text_const text) ≡ StrValue text
unfolding param_value
text_means text = by (spelled_literal text) refl
  where
    by : (o : Option Literal) → spelled_literal text ≡ o → param_value (lit_or o text) ≡ StrValue text
    by None e = refl
    by (Some literal) e = ap StrValue (spelled_is text literal e).text_is

pub parameter_means : (value : PropValue) → ((one : Bool) → ¬ (value ≡ Flag one)) → param_value (param_const value) ≡ value
unfolding param_value
parameter_means (StrValue text) h = text_means text
parameter_means (IntValue number) h = refl
parameter_means (Flag one) h = absurd (h one refl)
parameter_means (ScaledValue number) h = refl

attributes_back : (props : List HProp) → attr_props (map attr_of props) ≡ props
attributes_back [] = refl
attributes_back (prop ∷ props) = ap (λ value. record { name = prop.name; value = value } ∷ attr_props (map attr_of props)) (attribute_means prop.value) ∙ ap (λ l. prop ∷ l) (attributes_back props)

pub attributes_are : (props : List HProp) → attr_props (attrs_of props) ≡ last_of props
attributes_are props = attributes_back (last_of props)

pub attributes_keep : (props : List HProp) → SameValues props (attr_props (attrs_of props))
attributes_keep props = subst (SameValues props) (sym (attributes_are props)) (last_values_kept props)

-- the parameters of properties, none of which is to be a boolean
parameters_back : (params : NameSet) (props : List HProp) → HaveNoFlags params props → param_props (given_params params (last_of props)) ≡ filter (is_param params) (last_of props)
unfolding last_of
parameters_back params [] h = refl
parameters_back params (prop ∷ rest) h = by (is_named prop.name rest) refl (parameters_back params rest (λ name one pass last. h name one pass (inl last)))
  where
    here : (c : Bool) → has_name params prop.name ≡ c → is_named prop.name rest ≡ false → param_props (given_params params (last_of rest)) ≡ filter (is_param params) (last_of rest) →
        param_props (map param_of (cond c (prop ∷ filter (is_param params) (last_of rest)) (filter (is_param params) (last_of rest)))) ≡ cond c (prop ∷ filter (is_param params) (last_of rest)) (filter (is_param params) (last_of rest))
    here false f e later = later
    here true f e later =
        let no_flag : (one : Bool) → ¬ (prop.value ≡ Flag one) = λ one is. h prop.name one f (inr (refl, is, not_named prop.name rest e)) in
        ap (λ value. record { name = prop.name; value = value } ∷ param_props (given_params params (last_of rest))) (parameter_means prop.value no_flag) ∙ ap (λ l. prop ∷ l) later

    by : (b : Bool) → is_named prop.name rest ≡ b → param_props (given_params params (last_of rest)) ≡ filter (is_param params) (last_of rest) →
        param_props (given_params params (cond b (last_of rest) (prop ∷ last_of rest))) ≡ filter (is_param params) (cond b (last_of rest) (prop ∷ last_of rest))
    by true e later = later
    by false e later = here (has_name params prop.name) refl e later

same_through : (a b c : List HProp) → SameValues a b → SameValues b c → SameValues a c
same_through a b c f g name value = (λ h. (g name value).0 ((f name value).0 h), λ h. (f name value).1 ((g name value).1 h))

pub given_keep : (params : NameSet) (props : List HProp) → HaveNoFlags params props → SameValues props (attr_props (given_attrs params (last_of props)) ++ param_props (given_params params (last_of props)))
given_keep params props h =
    let fails = filter (λ (prop : HProp). not (is_param params prop)) (last_of props) in
    let passes = filter (is_param params) (last_of props) in
    subst (λ l. SameValues props (attr_props (map attr_of fails) ++ l)) (sym (parameters_back params props h))
    (subst (λ l. SameValues props (l ++ passes)) (sym (attributes_back fails))
    (same_through props (last_of props) (fails ++ passes) (last_values_kept props) (parts_keep (has_name params) (last_of props))))

-- a set of names with one more
more_names : (before : List (List ℕ)) (other name : List ℕ) → list_any (bytes_eq name) (before ++ other ∷ []) ≡ true → (list_any (bytes_eq name) before ≡ true) ⊎ (name ≡ other)
more_names before other name there = by (list_any (bytes_eq name) before) (bytes_eq name other) refl refl (sym (list_any-append (bytes_eq name) before (other ∷ [])) ∙ there)
  where
    by : (x y : Bool) → list_any (bytes_eq name) before ≡ x → bytes_eq name other ≡ y → (x || (y || false)) ≡ true → (list_any (bytes_eq name) before ≡ true) ⊎ (name ≡ other)
    by true y f g h = inl f
    by false true f g h = inr ((bytes_eq-Decides name other).0 g)
    by false false f g h = absurd (false≢true h)

-- no name of a part of what is kept stands before
pub kept_apart : (test : HProp → Bool) (props : List HProp) (before : List (List ℕ)) → ((name : List ℕ) → list_any (bytes_eq name) before ≡ true → ¬ HasProperty (last_of props) name) →
    clashing bytes_eq before (map (λ (prop : HProp). prop.name) (filter test (last_of props))) ≡ []
unfolding last_of clashing
kept_apart test [] before free = refl
kept_apart test (prop ∷ rest) before free = by (is_named prop.name rest) refl free (kept_apart test rest)
  where
    later : is_named prop.name rest ≡ false → ((name : List ℕ) → list_any (bytes_eq name) before ≡ true → ¬ HasProperty (prop ∷ last_of rest) name) → (name : List ℕ) → list_any (bytes_eq name) (before ++ prop.name ∷ []) ≡ true → ¬ HasProperty (last_of rest) name
    later e free name there has = elim (more_names before prop.name name there) as (λ _. ⊥) [
      | inl early ↦ free name early (inr has)
      | inr same ↦ not_named prop.name rest e ((kept_names rest prop.name).1 (subst (HasProperty (last_of rest)) same has))
    ]

    new : (x : Bool) → list_any (bytes_eq prop.name) before ≡ x → x ≡ false →
        clashing bytes_eq (before ++ prop.name ∷ []) (map (λ (prop : HProp). prop.name) (filter test (last_of rest))) ≡ [] →
        cond x (prop.name ∷ clashing bytes_eq (before ++ prop.name ∷ []) (map (λ (prop : HProp). prop.name) (filter test (last_of rest)))) (clashing bytes_eq (before ++ prop.name ∷ []) (map (λ (prop : HProp). prop.name) (filter test (last_of rest)))) ≡ []
    new true f g none = absurd (false≢true (sym g))
    new false f g none = none

    not_before : ((name : List ℕ) → list_any (bytes_eq name) before ≡ true → ¬ HasProperty (prop ∷ last_of rest) name) → (x : Bool) → list_any (bytes_eq prop.name) before ≡ x → x ≡ false
    not_before free true f = absurd (free prop.name f (inl refl))
    not_before free false f = refl

    here : (c : Bool) → is_named prop.name rest ≡ false → ((name : List ℕ) → list_any (bytes_eq name) before ≡ true → ¬ HasProperty (prop ∷ last_of rest) name) →
        ((before : List (List ℕ)) → ((name : List ℕ) → list_any (bytes_eq name) before ≡ true → ¬ HasProperty (last_of rest) name) → clashing bytes_eq before (map (λ (prop : HProp). prop.name) (filter test (last_of rest))) ≡ []) →
        clashing bytes_eq before (map (λ (prop : HProp). prop.name) (cond c (prop ∷ filter test (last_of rest)) (filter test (last_of rest)))) ≡ []
    here false e free rec = rec before (λ name there has. free name there (inr has))
    here true e free rec = new (list_any (bytes_eq prop.name) before) refl (not_before free (list_any (bytes_eq prop.name) before) refl) (rec (before ++ prop.name ∷ []) (later e free))

    by : (b : Bool) → is_named prop.name rest ≡ b → ((name : List ℕ) → list_any (bytes_eq name) before ≡ true → ¬ HasProperty (cond b (last_of rest) (prop ∷ last_of rest)) name) →
        ((before : List (List ℕ)) → ((name : List ℕ) → list_any (bytes_eq name) before ≡ true → ¬ HasProperty (last_of rest) name) → clashing bytes_eq before (map (λ (prop : HProp). prop.name) (filter test (last_of rest))) ≡ []) →
        clashing bytes_eq before (map (λ (prop : HProp). prop.name) (filter test (cond b (last_of rest) (prop ∷ last_of rest)))) ≡ []
    by true e free rec = rec before free
    by false e free rec = here (test prop) e free rec

params_named : (props : List HProp) → map (λ (set : ParamSet). set.name) (map param_of props) ≡ map (λ (prop : HProp). prop.name) props
params_named [] = refl
params_named (prop ∷ props) = ap (λ l. prop.name ∷ l) (params_named props)

pub given_once : (params : NameSet) (props : List HProp) → clashing bytes_eq [] (map (λ (set : ParamSet). set.name) (given_params params (last_of props))) ≡ []
given_once params props = ap (clashing bytes_eq []) (params_named (filter (is_param params) (last_of props))) ∙ kept_apart (is_param params) props [] (λ name there has. false≢true there)
