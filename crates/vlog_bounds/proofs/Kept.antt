-- What the values keep that a part spells from the tokens of a text: one fact for each way in which a part is made.
use Rattle.std.proofs.Common.{◌≡◌, sym, subst, ℕ, Bool, true, false, cond, List, [], ◌∷◌, ◌++◌, Option, Some, None, Result, Ok, inl, inr, arith}
use Rattle.std.specs.Prelude.{IfSome, option_map}
use Rattle.std.specs.List.{AllByRecursion, find}
use Rattle.grammar.specs.Part.{Glance, gives, sequence, takes}
use Rattle.grammar.specs.Texts.{Spells, Rounds, ends, goes, TakenText}
use Rattle.grammar.specs.Whole.{Terminal, proper, end}
use Rattle.nl_base.specs.Case.{same_bytes}
use Rattle.nl_base.specs.declared.place.Place.{Place}
use Rattle.nl_base.specs.declared.fault.Reason.{Reason}
use Rattle.readers.specs.Parts.{at_token, of_token, one, if_next, while_next}
use Rattle.vlog_values.specs.Values.{AreSome, IsName}
use Rattle.vlog_tokens.specs.declared.token.VFound.{VFound}
use Rattle.vlog_tokens.specs.declared.token.VToken.{VToken}
use Rattle.vlog_tokens.specs.declared.token.VToken.TheVariants as token
use Rattle.vlog_exprs.specs.Language.{NoContext, Vlog}
use Rattle.vlog_exprs.specs.Reasons as say
use Rattle.vlog_exprs.specs.Grammar.{name, after, commas, list}
use Rattle.vlog_exprs.proofs.Known.{name_is, some_push}
use Rattle.vlog_tokens.specs.Proper.{IsProper, AreSound}

-- What the part spells from tokens of a text is good.
pub record Kept {A : Type 0} (part : Vlog A) (Good : A → Type 0) : Type 0 where
  pub kept : (ts : List (Terminal VFound Place)) (v : A) → AreSound ts → Spells tt part ts v → Good v

-- both sides of a list of tokens
sides : (a b : List (Terminal VFound Place)) → AreSound (a ++ b) → AreSound a × AreSound b
sides [] b all = (tt, all)
sides (x ∷ a) b all = let rest = sides a b all.1 in ((all.0, rest.0), rest.1)

split : (ts a b : List (Terminal VFound Place)) → ts ≡ a ++ b → AreSound ts → AreSound a × AreSound b
split ts a b e all = sides a b (subst AreSound e all)

-- ---- how a part is made

pub kept_gives : {A : Type 0} {Good : A → Type 0} (a : A) → Good a → Kept (gives a) Good
kept_gives {Good = Good} a good = record { kept = λ ts v all spells. subst Good (sym spells.1) good }

pub kept_then : {A B : Type 0} {p : Vlog A} {q : A → Vlog B} {P : A → Type 0} {Q : B → Type 0} → Kept p P → ((u : A) → P u → Kept (q u) Q) → Kept (sequence p q) Q
kept_then first next = record {
  kept = λ ts v all spells. let parts = split ts spells.1 spells.2 spells.3 all in
      (next spells.0 (first.kept spells.1 spells.0 parts.0 spells.4)).kept spells.2 v parts.1 spells.5;
}

-- the same where nothing of the first part is needed
pub kept_after : {A B : Type 0} {q : A → Vlog B} {Q : B → Type 0} (p : Vlog A) → ((u : A) → Kept (q u) Q) → Kept (sequence p q) Q
kept_after p next = record {
  kept = λ ts v all spells. let parts = split ts spells.1 spells.2 spells.3 all in (next spells.0).kept spells.2 v parts.1 spells.5;
}

-- what is good is so in a weaker sense
pub kept_weaker : {A : Type 0} {p : Vlog A} {P Q : A → Type 0} → Kept p P → ((v : A) → P v → Q v) → Kept p Q
kept_weaker known next = record { kept = λ ts v all spells. next v (known.kept ts v all spells) }

-- one token that says a good value
pub kept_one : {A : Type 0} {Good : A → Type 0} (f : NoContext → VFound → Result A Reason) → ((x : VFound) (v : A) → IsProper x.token → f tt x ≡ Ok v → Good v) → Kept (one f) Good
unfolding one
kept_one {A = A} {Good = Good} f says = record { kept = λ ts v all spells. by ts v spells.0 all spells.1 spells.2 }
  where
    by : (ts : List (Terminal VFound Place)) (v : A) (x : Terminal VFound Place) → AreSound ts → ts ≡ x ∷ [] → of_token (f tt) x ≡ Ok v → Good v
    by ts v (proper x) all is h = says x v (subst AreSound is all).0 h
    by ts v (end p) all is h = absurd cc

-- a value that is kept so under each token that f takes
module _ {A C : Type 0} {Good : A → Type 0} (f : NoContext → VFound → Glance C Reason) (p : C → Vlog A) where
  taken : ((x : VFound) (c : C) → IsProper x.token → f tt x ≡ takes c → Kept (p c) Good)
      → (ts : List (Terminal VFound Place)) (v : A) → AreSound ts → TakenText (λ t. at_token (f tt) t) (λ c. Spells tt (p c)) ts v → Good v
  taken way ts v all text = by text.0 (subst AreSound text.3 all) text.4
    where
      by : (x : Terminal VFound Place) → AreSound (x ∷ text.2) → at_token (f tt) x ≡ takes text.1 → Good v
      by (proper x) all h = (way x text.1 all.0 h).kept text.2 v all.1 text.5
      by (end p) all h = absurd cc

-- [ ] and |
pub kept_if : {A C : Type 0} {Good : A → Type 0} (f : NoContext → VFound → Glance C Reason) (p : C → Vlog A) (q : Vlog A)
    → ((x : VFound) (c : C) → IsProper x.token → f tt x ≡ takes c → Kept (p c) Good) → Kept q Good → Kept (if_next f p q) Good
unfolding if_next
kept_if {A = A} {Good = Good} f p q one_way other = record { kept = λ ts v all spells. by ts v all spells }
  where
    by : (ts : List (Terminal VFound Place)) (v : A) → AreSound ts → Spells tt (if_next f p q) ts v → Good v
    by ts v all (inl text) = taken f p one_way ts v all text
    by ts v all (inr text) = other.kept ts v all text

-- { }, where each round keeps what is known of the state
pub kept_while : {A C S : Type 0} {Good : A → Type 0} (Holds : S → Type 0) (f : S → NoContext → VFound → Glance C Reason) (q : S → C → Vlog S) (e : S → Vlog A)
    → ((s : S) → Holds s → (x : VFound) (c : C) → IsProper x.token → f s tt x ≡ takes c → Kept (q s c) Holds) → ((s : S) → Holds s → Kept (e s) Good) → (s : S) → Holds s → Kept (while_next f q e s) Good
unfolding while_next
kept_while {A = A} {C = C} {S = S} {Good = Good} Holds f q e round last s holds = record { kept = λ ts v all spells. by s holds ts v all spells }
  where
    by : (s : S) → Holds s → (ts : List (Terminal VFound Place)) (v : A) → AreSound ts
        → Rounds (λ s. λ t. at_token (f s tt) t) (λ s c. Spells tt (q s c)) (λ s. Spells tt (e s)) s ts v → Good v
    by s holds ts v all (ends text) = (last s holds).kept ts v all text
    by s holds ts v all (goes t a b text rest is) =
        let parts = split ts a b is all in
        by t (taken {Good = Holds} (f s) (q s) (round s holds) a t parts.0 text) b v parts.1 rest

-- ---- one token

pub kept_name : Kept name IsName
kept_name = kept_one _ (λ x n is h. name_is x.token is n h)

-- ---- keywords with a value each

module _ {A : Type 0} (Good : A → Type 0) where
  found_is : (w : List ℕ) (words : List (List ℕ × A)) → AllByRecursion (λ row. Good row.1) words → IfSome (option_map (λ row. row.1) (find (λ row. same_bytes w row.0) words)) Good
  found_is w [] all = tt
  found_is w (row ∷ rows) all = by (same_bytes w row.0) (found_is w rows all.1)
    where
      by : (t : Bool) → IfSome (option_map (λ row. row.1) (find (λ row. same_bytes w row.0) rows)) Good
          → IfSome (option_map (λ (row : List ℕ × A). row.1) (cond t (Some row) (find (λ row. same_bytes w row.0) rows))) Good
      by true rest = all.0
      by false rest = rest

  meant_is : (w : List ℕ) (words : List (List ℕ × A)) → AllByRecursion (λ row. Good row.1) words → IfSome (say.meant_by words w) Good
  unfolding say.meant_by
  meant_is w words all = found_is w words all

  glance_is : (o : Option A) (a : A) → IfSome o Good → say.glance_of o ≡ takes a → Good a
  glance_is (Some b) a h e = let same : b ≡ a = cc in subst Good same h
  glance_is None a h e = absurd cc

  -- a keyword that is taken means one of the values
  pub choice_is : (words : List (List ℕ × A)) → AllByRecursion (λ row. Good row.1) words → (t : VToken) (a : A) → say.at_choice words t ≡ takes a → Good a
  choice_is words all (token.Keyword w) a h = glance_is (say.meant_by words w) a (meant_is w words all) h
  choice_is words all (token.Name m) a h = absurd cc
  choice_is words all (token.Number m) a h = absurd cc
  choice_is words all (token.Real r) a h = absurd cc
  choice_is words all (token.Based d) a h = absurd cc
  choice_is words all (token.Str s) a h = absurd cc
  choice_is words all (token.Punct b) a h = absurd cc
  choice_is words all token.AttrStart a h = absurd cc
  choice_is words all token.AttrStop a h = absurd cc
  choice_is words all (token.Symbol b) a h = absurd cc
  choice_is words all (token.Directive w) a h = absurd cc

-- ---- lists

-- a punctuation mark and one part, or another part
pub kept_mark : {A : Type 0} {Good : A → Type 0} {p q : Vlog A} (due : ℕ) → Kept p Good → Kept q Good → Kept (after due p q) Good
unfolding after
kept_mark due one_way other = kept_if _ _ _ (λ x c is h. one_way) other

module _ {A : Type 0} {Good : A → Type 0} {p : Vlog A} (item : Kept p Good) (close : Vlog (Unit {0})) where
  pub kept_commas : (so_far : List A) → AreSome Good so_far → Kept (commas p close so_far) (AreSome Good)
  unfolding commas
  kept_commas so_far some =
      kept_while (AreSome Good) _ _ _ (λ s are x c is h. kept_then item (λ a good. kept_gives (s ++ a ∷ []) (some_push Good s a are.all good))) (λ s are. kept_after close (λ _. kept_gives s are)) so_far some

  pub kept_list : Kept (list p close) (AreSome Good)
  unfolding list
  kept_list = kept_then item (λ a good. kept_commas (a ∷ []) (record { some = omega arith; all = (good, tt) }))
