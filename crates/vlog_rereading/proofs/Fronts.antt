-- Tokens whose front spells a value of a part, wherever they stand.
use Rattle.std.proofs.Common.{◌≡◌, ◌≤◌, ℕ, zero, suc, true, false, List, [], ◌∷◌, ◌++◌, length, map, Option, Some, None, Result, Ok, refl, sym, ap, ◌∙◌, subst, append_assoc, append-nil, inl, inr, arith}
use Rattle.std.specs.Prelude.{⊤, codes}
use Rattle.std.specs.List.{AllByRecursion}
use Rattle.grammar.specs.Part.{gives, sequence, Glance, takes}
use Rattle.grammar.specs.Texts.{Spells, ends, goes}
use Rattle.grammar.specs.Whole.{Terminal, proper, end}
use Rattle.nl_base.specs.declared.place.Place.{Place}
use Rattle.nl_base.specs.declared.fault.Reason.{Reason}
use Rattle.readers.specs.Parts.{one, if_next, while_next, maybe}
use Rattle.vlog_tokens.specs.declared.token.VFound.{VFound}
use Rattle.vlog_tokens.specs.declared.token.VToken.{VToken}
use Rattle.vlog_tokens.specs.declared.token.VToken.TheVariants as t
use Rattle.vlog_values.specs.Values.{AreSome}
use Rattle.vlog_exprs.specs.Language.{Vlog}
use Rattle.vlog_exprs.specs.Reasons as say
use Rattle.vlog_exprs.specs.Grammar.{name, number, mark, keyword, choice, group_end, after, commas, list}
use Rattle.vlog_writer.specs.Layout.{Form, each}
use Rattle.vlog_lexing.specs.Tokens.{tokens, listed_tokens, further_tokens}

-- some tokens of a text are these, in order
abbrev pub Row : List (Terminal VFound Place) → List VToken → Type 0
Row [] [] = ⊤
Row [] (c ∷ ts) = ⊥
Row (x ∷ xs) [] = ⊥
Row (proper f ∷ xs) (c ∷ ts) = (f.token ≡ c) × Row xs ts
Row (end p ∷ xs) (c ∷ ts) = ⊥

-- tokens of a text that spell a value, and what stands behind them
pub record Parted {A : Type 0} (p : Vlog A) (v : A) (xs : List (Terminal VFound Place)) (rest : List VToken) : Type 0 where
  pub front : List (Terminal VFound Place)
  pub behind : List (Terminal VFound Place)
  pub parts : xs ≡ front ++ behind
  pub spells : Spells tt p front v
  pub row : Row behind rest

-- The front of some tokens spells the value, wherever they stand, and a rest follows it.
pub record Front {A : Type 0} (p : Vlog A) (v : A) (ts rest : List VToken) : Type 0 where
  pub at : (xs : List (Terminal VFound Place)) → Row xs ts → Parted p v xs rest

-- the first of such tokens
pub record First (xs : List (Terminal VFound Place)) (c : VToken) (ts : List VToken) : Type 0 where
  pub found : VFound
  pub others : List (Terminal VFound Place)
  pub parts : xs ≡ proper found ∷ others
  pub same : found.token ≡ c
  pub row : Row others ts

first_of : (xs : List (Terminal VFound Place)) (c : VToken) (ts : List VToken) → Row xs (c ∷ ts) → First xs c ts
first_of [] c ts row = absurd row
first_of (end p ∷ xs) c ts row = absurd row
first_of (proper f ∷ xs) c ts row = record { found = f; others = xs; parts = refl; same = row.0; row = row.1 }

-- ---- parts one after the other

pub nothing : {A : Type 0} (v : A) (ts : List VToken) → Front (gives v) v ts ts
nothing v ts = record { at = λ xs row. record { front = []; behind = xs; parts = refl; spells = (refl, refl); row = row } }

pub then : {A B : Type 0} {p : Vlog A} {q : A → Vlog B} {u : A} {v : B} {ts mid rest : List VToken} → Front p u ts mid → Front (q u) v mid rest → Front (sequence p q) v ts rest
then {A} {B} {p} {q} {u} {v} x y = record {
  at = λ xs row.
      let a = x.at xs row in
      let b = y.at a.behind a.row in
      record {
        front = a.front ++ b.front;
        behind = b.behind;
        parts = a.parts ∙ ap (λ (z : List (Terminal VFound Place)). a.front ++ z) b.parts ∙ sym (append_assoc a.front b.front b.behind);
        spells = (u, a.front, b.front, refl, a.spells, b.spells);
        row = b.row;
      };
}

-- the last part of a sequence
pub at_last : {A B : Type 0} {p : Vlog A} {g : A → B} {u : A} {ts rest : List VToken} → Front p u ts rest → Front (sequence p (λ u. gives (g u))) (g u) ts rest
at_last {A} {B} {p} {g} {u} {ts} {rest} x = then x (nothing (g u) rest)

-- the value by another name
pub as_value : {A : Type 0} {p : Vlog A} {u v : A} {ts rest : List VToken} → u ≡ v → Front p u ts rest → Front p v ts rest
as_value {A} {p} {u} {v} {ts} {rest} e x = subst (λ (z : A). Front p z ts rest) e x

-- ---- one token

pub by_token : {A : Type 0} (f : VToken → Result A Reason) (c : VToken) (v : A) (ts : List VToken) → f c ≡ Ok v → Front (one (λ _ x. f x.token)) v (c ∷ ts) ts
unfolding one
by_token f c v ts says = record {
  at = λ xs row.
      let o = first_of xs c ts row in
      record { front = proper o.found ∷ []; behind = o.others; parts = o.parts; spells = (proper o.found, refl, ap f o.same ∙ says); row = o.row };
}

pub a_name : (n : List ℕ) (ts : List VToken) → Front name n (t.Name n ∷ ts) ts
a_name n ts = by_token say.name_of (t.Name n) n ts refl

pub a_mark : (b : ℕ) (ts : List VToken) → say.mark_of b (t.Punct b) ≡ Ok tt → Front (mark b) tt (t.Punct b ∷ ts) ts
a_mark b ts says = by_token (say.mark_of b) (t.Punct b) tt ts says

pub a_keyword : (w : List ℕ) (ts : List VToken) → say.keyword_of w (t.Keyword w) ≡ Ok tt → Front (keyword w) tt (t.Keyword w ∷ ts) ts
a_keyword w ts says = by_token (say.keyword_of w) (t.Keyword w) tt ts says

pub a_choice : {A : Type 0} (words : List (List ℕ × A)) (w : List ℕ) (v : A) (ts : List VToken) → say.meant_by words w ≡ Some v → Front (choice words) v (t.Keyword w ∷ ts) ts
a_choice words w v ts h = by_token (say.choice_of words) (t.Keyword w) v ts (ap (say.choice_by w) h)

pub a_group_end : (ts : List VToken) → Front group_end tt (t.AttrStop ∷ ts) ts
a_group_end ts = by_token say.group_end_of t.AttrStop tt ts refl

-- ---- a choice by the next token

module _ {A C : Type 0} (f : VToken → Glance C Reason) (p : C → Vlog A) (q : Vlog A) where
  pub taken : {v : A} {ts rest : List VToken} (c : VToken) (u : C) → f c ≡ takes u → Front (p u) v ts rest → Front (if_next (λ _ x. f x.token) p q) v (c ∷ ts) rest
  unfolding if_next
  taken {v} {ts} {rest} c u h x = record {
    at = λ xs row.
        let o = first_of xs c ts row in
        let a = x.at o.others o.row in
        record {
          front = proper o.found ∷ a.front;
          behind = a.behind;
          parts = o.parts ∙ ap (λ (z : List (Terminal VFound Place)). proper o.found ∷ z) a.parts;
          spells = inl (proper o.found, u, a.front, refl, ap f o.same ∙ h, a.spells);
          row = a.row;
        };
  }

  pub left : {v : A} {ts rest : List VToken} → Front q v ts rest → Front (if_next (λ _ x. f x.token) p q) v ts rest
  unfolding if_next
  left x = record {
    at = λ xs row. let a = x.at xs row in record { front = a.front; behind = a.behind; parts = a.parts; spells = inr a.spells; row = a.row };
  }

module _ {C : Type 0} (f : VToken → Glance C Reason) where
  pub some_taken : (c : VToken) (u : C) (ts : List VToken) → f c ≡ takes u → Front (maybe (λ _ x. f x.token)) (Some u) (c ∷ ts) ts
  unfolding maybe
  some_taken c u ts h = record {
    at = λ xs row.
        let o = first_of xs c ts row in
        record { front = proper o.found ∷ []; behind = o.others; parts = o.parts; spells = inl (proper o.found, u, [], refl, ap f o.same ∙ h, (refl, refl)); row = o.row };
  }

  pub none_taken : (ts : List VToken) → Front (maybe (λ _ x. f x.token)) None ts ts
  unfolding maybe
  none_taken ts = record { at = λ xs row. record { front = []; behind = xs; parts = refl; spells = inr (refl, refl); row = row } }

module _ {A : Type 0} (due : ℕ) (p q : Vlog A) where
  -- a punctuation mark and what follows it
  pub after_mark : {v : A} {ts rest : List VToken} → say.at_mark due (t.Punct due) ≡ takes tt → Front p v ts rest → Front (after due p q) v (t.Punct due ∷ ts) rest
  unfolding after
  after_mark h x = taken (say.at_mark due) (λ _. p) q (t.Punct due) tt h x

  pub no_mark : {v : A} {ts rest : List VToken} → Front q v ts rest → Front (after due p q) v ts rest
  unfolding after
  no_mark x = left (say.at_mark due) (λ _. p) q x

-- ---- rounds

module _ {S C A : Type 0} (f : VToken → Glance C Reason) (q : S → C → Vlog S) (e : S → Vlog A) (s : S) where
  pub last_round : {v : A} {ts rest : List VToken} → Front (e s) v ts rest → Front (while_next (λ _ _ x. f x.token) q e s) v ts rest
  unfolding while_next
  last_round x = record {
    at = λ xs row. let a = x.at xs row in record { front = a.front; behind = a.behind; parts = a.parts; spells = ends a.spells; row = a.row };
  }

  -- a round, and the others
  pub next_round : {v : A} {ts mid rest : List VToken} (c : VToken) (u : C) (after_it : S) → f c ≡ takes u → Front (q s u) after_it ts mid
      → Front (while_next (λ _ _ x. f x.token) q e after_it) v mid rest → Front (while_next (λ _ _ x. f x.token) q e s) v (c ∷ ts) rest
  unfolding while_next
  next_round {v} {ts} {mid} {rest} c u after_it h x y = record {
    at = λ xs row.
        let o = first_of xs c ts row in
        let a = x.at o.others o.row in
        let b = y.at a.behind a.row in
        record {
          front = proper o.found ∷ (a.front ++ b.front);
          behind = b.behind;
          parts = o.parts ∙ ap (λ (z : List (Terminal VFound Place)). proper o.found ∷ z) (a.parts ∙ ap (λ (z : List (Terminal VFound Place)). a.front ++ z) b.parts ∙ sym (append_assoc a.front b.front b.behind));
          spells = goes after_it (proper o.found ∷ a.front) b.front (proper o.found, u, a.front, refl, ap f o.same ∙ h, a.spells) b.spells refl;
          row = b.row;
        };
  }

-- ---- lists with commas

module _ {I : Type 0} (p : Vlog I) (close : Vlog (Unit {0})) (c : VToken) (form : I → Form) (Good : I → Type 0) where
  -- the end of a list
  abbrev Closes : Type 0
  Closes = (ts : List VToken) → Front close tt (c ∷ ts) ts

  -- one item
  abbrev One : Type 0
  One = (i : I) (ts : List VToken) → Good i → Front p i (tokens (form i) ts) ts

  pub commas_front : Closes → One → (so_far is : List I) (ts : List VToken) → AllByRecursion Good is → Front (commas p close so_far) (so_far ++ is) (further_tokens (each form is) (c ∷ ts)) ts
  unfolding commas
  commas_front ends_here one_item so_far [] ts good =
      as_value (sym (append-nil so_far)) (last_round (say.at_mark 44) (λ so_far _. sequence p (λ a. gives (so_far ++ a ∷ []))) (λ so_far. sequence close (λ _. gives so_far)) so_far (at_last {g = λ _. so_far} (ends_here ts)))
  commas_front ends_here one_item so_far (i ∷ is) ts good =
      as_value (append_assoc so_far (i ∷ []) is)
      (next_round (say.at_mark 44) (λ so_far _. sequence p (λ a. gives (so_far ++ a ∷ []))) (λ so_far. sequence close (λ _. gives so_far)) so_far (t.Punct 44) tt (so_far ++ i ∷ []) refl
      (at_last {g = λ a. so_far ++ a ∷ []} (one_item i (further_tokens (each form is) (c ∷ ts)) good.0)) (commas_front ends_here one_item (so_far ++ i ∷ []) is ts good.1))

  -- a list of one item or more
  pub list_front : Closes → One → (is : List I) (ts : List VToken) → AreSome Good is → Front (list p close) is (listed_tokens (each form is) (c ∷ ts)) ts
  unfolding list
  list_front ends_here one_item [] ts good = absurd (omega (arith, good.some))
  list_front ends_here one_item (i ∷ is) ts good = then (one_item i (further_tokens (each form is) (c ∷ ts)) good.all.0) (commas_front ends_here one_item (i ∷ []) is ts good.all.1)
