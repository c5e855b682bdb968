-- Parts of a grammar over the tokens of an input, where the end of the input is one more token.
use Rattle.std.specs.Prelude.{Option, Some, None, Result, Ok, Err}
use Rattle.grammar.specs.Part.{Part, Glance, gives, token, ahead, loop, leaves}
use Rattle.grammar.specs.Whole.{Terminal, proper, end}
use Rattle.nl_base.specs.declared.place.Place.{Place}
use Rattle.nl_base.specs.declared.fault.Reason.{Reason}
use Rattle.nl_base.specs.declared.fault.Reason.TheVariants.{EndOfInput}

-- a part of a language whose tokens are of a type X, in a context of a type K, which spells values of a type A
abbrev pub PartOf : Type 0 → Type 0 → Type 0 → Type 1
PartOf K X A = Part K (Terminal X Place) Reason A

-- what a token says; at the end of the input a token is missing
abbrev pub of_token : {X A : Type 0} → (X → Result A Reason) → Terminal X Place → Result A Reason
of_token f (proper x) = f x
of_token f (end p) = Err EndOfInput

-- one token: what it says in the context, or why it may not stand
unfoldable pub one : {K X A : Type 0} → (K → X → Result A Reason) → PartOf K X A
one f = token (λ k t. of_token (f k) t)

-- one token, whichever it is
unfoldable pub any : {K X : Type 0} → PartOf K X X
any = token (λ k t. of_token (λ x. Ok x) t)

-- what a part does about the next token; the end of the input is left
abbrev pub at_token : {X C : Type 0} → (X → Glance C Reason) → Terminal X Place → Glance C Reason
at_token f (proper x) = f x
at_token f (end p) = leaves

-- [ ] and |: where f takes the next token, p of what it says; else q
unfoldable pub if_next : {K X A C : Type 0} → (K → X → Glance C Reason) → (C → PartOf K X A) → PartOf K X A → PartOf K X A
if_next f p q = ahead (λ k t. at_token (f k) t) p q

-- { }: as long as f takes the next token, q of what it says; and then e
unfoldable pub while_next : {K X A C S : Type 0} → (S → K → X → Glance C Reason) → (S → C → PartOf K X S) → (S → PartOf K X A) → S → PartOf K X A
while_next f q e s = loop (λ s k t. at_token (f s k) t) q e s

-- what f says of the next token, where it takes it
unfoldable pub maybe : {K X C : Type 0} → (K → X → Glance C Reason) → PartOf K X (Option C)
maybe f = ahead (λ k t. at_token (f k) t) (λ c. gives (Some c)) (gives None)

-- p of the value, or q where there is none
abbrev pub pick : {K X A C : Type 0} → (C → PartOf K X A) → PartOf K X A → Option C → PartOf K X A
pick p q (Some c) = p c
pick p q None = q
