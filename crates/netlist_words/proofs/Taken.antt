-- The words of options, taken apart and put together.
use Rattle.std.proofs.Common.{◌≡◌, ℕ, List, [], ◌∷◌, ◌++◌, length, Bool, true, false, ◌&&◌, ◌==◌, not, Option, Some, None, IfSome, refl, ap, ◌∙◌, arith}
use Rattle.std.specs.List.{AllByRecursion}
use Rattle.std.proofs.lemmas.Slice.Eq.{bytes_eq-Decides}
use Rattle.nl_base.specs.Case.{same_bytes}
use Rattle.netlist_words.specs.Commands.{IsName, option_words, repeated_words}
use Rattle.netlist_words.specs.Parsing.{are_options, behind_option, if_none_left, is_option, option_value, values_of}

pub same_text : (a b : List ℕ) → same_bytes a b ≡ true → a ≡ b
same_text a b e = (bytes_eq-Decides a b).0 e

pub same_itself : (a : List ℕ) → same_bytes a a ≡ true
same_itself a = (bytes_eq-Decides a a).1 refl

-- a name has a byte
pub not_empty : (value : List ℕ) → IsName value → (length value == 0) ≡ false
not_empty [] h = absurd (h refl)
not_empty (b ∷ bs) h = grind arith

-- what the words of an option are
pub record IsOption (name word value : List ℕ) : Type 0 where
  pub is_name : word ≡ name
  pub has_byte : IsName value

pub option_is : (name word value : List ℕ) → is_option name word value ≡ true → IsOption name word value
option_is name word value e = go (same_bytes word name) refl value e
  where
    go : (t : Bool) → same_bytes word name ≡ t → (v : List ℕ) → (t && not (length v == 0)) ≡ true → IsOption name word v
    go true t [] e = absurd cc
    go true t (b ∷ bs) e = record { is_name = same_text word name t; has_byte = λ h. absurd cc }
    go false t v e = absurd cc

pub is_itself : (name value : List ℕ) → IsName value → is_option name name value ≡ true
is_itself name value h = rw (same_itself name, not_empty value h) refl

-- words are those of the option with which they begin, if any, and those behind it
pub option_taken : (name : List ℕ) (words : List (List ℕ)) → words ≡ option_words name (option_value name words) ++ behind_option name words
option_taken name [] = refl
option_taken name (word ∷ []) = refl
option_taken name (word ∷ value ∷ words) = go (is_option name word value) refl
  where
    go : (t : Bool) → is_option name word value ≡ t → word ∷ value ∷ words ≡ option_words name (option_value name (word ∷ value ∷ words)) ++ behind_option name (word ∷ value ∷ words)
    go true t = rw t (ap (λ first. first ∷ value ∷ words) (option_is name word value t).is_name)
    go false t = rw t refl

pub option_named : (name : List ℕ) (words : List (List ℕ)) → IfSome (option_value name words) IsName
option_named name [] = tt
option_named name (word ∷ []) = tt
option_named name (word ∷ value ∷ words) = go (is_option name word value) refl
  where
    go : (t : Bool) → is_option name word value ≡ t → IfSome (option_value name (word ∷ value ∷ words)) IsName
    go true t = rw t (option_is name word value t).has_byte
    go false t = rw t tt

-- no word is left
pub none_left : {A : Type 0} (words : List (List ℕ)) (found : Option A) (a : A) → if_none_left words found ≡ Some a → (words ≡ []) × (found ≡ Some a)
none_left [] found a e = (refl, e)
none_left (word ∷ words) found a e = absurd cc

-- words that are options with values are those of the values
pub options_taken : (name : List ℕ) (words : List (List ℕ)) → are_options name words ≡ true → (words ≡ repeated_words name (values_of words)) × AllByRecursion IsName (values_of words)
options_taken name [] e = (refl, tt)
options_taken name (word ∷ []) e = absurd cc
options_taken name (word ∷ value ∷ words) e = go (is_option name word value) refl (options_taken name words) e
  where
    go : (t : Bool) → is_option name word value ≡ t → (are_options name words ≡ true → (words ≡ repeated_words name (values_of words)) × AllByRecursion IsName (values_of words)) → (t && are_options name words) ≡ true → (word ∷ value ∷ words ≡ repeated_words name (value ∷ values_of words)) × AllByRecursion IsName (value ∷ values_of words)
    go true t more e =
        let rest = more e in
        let first = option_is name word value t in
        (ap (λ w. w ∷ value ∷ words) first.is_name ∙ ap (λ behind. name ∷ value ∷ behind) rest.0, (first.has_byte, rest.1))
    go false t more e = absurd cc

-- the words of values with an option before each are options with these values
pub repeated_are : (name : List ℕ) (values : List (List ℕ)) → AllByRecursion IsName values → are_options name (repeated_words name values) ≡ true
repeated_are name [] h = refl
repeated_are name (value ∷ values) h = rw (is_itself name value h.0) (repeated_are name values h.1)

pub repeated_values : (name : List ℕ) (values : List (List ℕ)) → values_of (repeated_words name values) ≡ values
repeated_values name [] = refl
repeated_values name (value ∷ values) = ap (λ more. value ∷ more) (repeated_values name values)

-- ---- an option that is not the first of some words

-- words do not begin with the option of this name
pub record Passes (name : List ℕ) (words : List (List ℕ)) : Type 0 where
  pub value : option_value name words ≡ None
  pub behind : behind_option name words ≡ words

pub passes_words : (name other : List ℕ) (value : Option (List ℕ)) (words : List (List ℕ)) → same_bytes other name ≡ false → Passes name words → Passes name (option_words other value ++ words)
passes_words name other None words e h = h
passes_words name other (Some value) words e h = record { value = rw e refl; behind = rw e refl }

pub passes_option : (name other : List ℕ) (value : Option (List ℕ)) → same_bytes other name ≡ false → Passes name (option_words other value)
passes_option name other None e = record { value = refl; behind = refl }
passes_option name other (Some value) e = record { value = rw e refl; behind = rw e refl }

-- what the option of this name is taken to be, before words that do not begin with it
pub record Takes (name : List ℕ) (given : Option (List ℕ)) (words rest : List (List ℕ)) : Type 0 where
  pub value : option_value name words ≡ given
  pub behind : behind_option name words ≡ rest

pub taken : (name : List ℕ) (value : Option (List ℕ)) (words : List (List ℕ)) → IfSome value IsName → Passes name words → Takes name value (option_words name value ++ words) words
taken name None words h p = record { value = p.value; behind = p.behind }
taken name (Some value) words h p = record { value = rw (is_itself name value h) refl; behind = rw (is_itself name value h) refl }
