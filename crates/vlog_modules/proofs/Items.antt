-- The items of a module are read one by one, from their attributes on.
use Rattle.std.proofs.Common.{◌≡◌, ◌∙◌, sym, ap, refl, ℕ, Bool, true, false, cond, ◌||◌, List, [], ◌∷◌, ◌++◌, Option, Some, None, is_some, Ok, Err, option_map, codes}
use Rattle.std.specs.List.{find, list_any}
use Rattle.std.proofs.lemmas.List.{map_push}
use Rattle.grammar.specs.Part.{gives, sequence, takes, leaves}
use Rattle.grammar.specs.Reading.{read, and_then, Found as Answer}
use Rattle.grammar.specs.Whole.{Terminal, proper, end}
use Rattle.grammar.proofs.Loops.{read_loop}
use Rattle.nl_base.specs.Case.{same_bytes}
use Rattle.nl_base.specs.declared.place.Place.{Place}
use Rattle.nl_base.specs.declared.fault.Reason.{Reason}
use Rattle.nl_base.specs.declared.fault.ReadError.{ReadError}
use Rattle.readers.specs.Parts.{at_token, one, if_next, while_next}
use Rattle.nl_bytes.specs.Tokens.{Ahead}
use Rattle.readers.specs.Readers.{reading, result_of, looking, IsNext, FirstFits, IsCause}
use Rattle.readers.proofs.Choices.{Misses, while_next_is_no, cause_while}
use Rattle.readers.proofs.Reading.{sequences}
use Rattle.vlog_tokens.specs.Language.{vlog}
use Rattle.vlog_tokens.specs.declared.token.VFound.{VFound}
use Rattle.vlog_tokens.specs.declared.token.VToken.{VToken}
use Rattle.vlog_tokens.specs.declared.token.VToken.TheVariants as token
use Rattle.vlog_values.specs.declared.expression.Attr.{Attr}
use Rattle.vlog_values.specs.declared.module.ItemV.{ItemV}
use Rattle.vlog_exprs.specs.Language.{NoContext, Vlog}
use Rattle.vlog_exprs.specs.Reasons as say
use Rattle.vlog_exprs.specs.Reasons.{meant_by}
use Rattle.vlog_exprs.specs.Grammar.{attrs, group, groups, keyword}
use Rattle.vlog_items.specs.declared.item.ItemWord.{ItemWord}
use Rattle.vlog_items.specs.Grammar.{item_words, instances_item, item}
use Rattle.vlog_modules.specs.Grammar.{ItemStart, at_group, at_module_name, at_word, word_start, at_item, item_rest, items}
use Rattle.vlog_modules.specs.Starts.{is_taken, begins_item}

-- the tokens of a text
abbrev pub Tokens : Type 0
Tokens = List (Terminal VFound Place)

-- ---- the words of items

pub meant_any : {A : Type 0} (words : List (List ℕ × A)) (w : List ℕ) → is_some (meant_by words w) ≡ list_any (λ row. same_bytes w row.0) words
unfolding meant_by
meant_any [] w = refl
meant_any {A = A} (row ∷ words) w = by (same_bytes w row.0) (meant_any words w)
  where
    by : (b : Bool) → is_some (option_map (λ (row : List ℕ × A). row.1) (find (λ row. same_bytes w row.0) words)) ≡ list_any (λ row. same_bytes w row.0) words
        → is_some (option_map (λ (row : List ℕ × A). row.1) (cond b (Some row) (find (λ row. same_bytes w row.0) words))) ≡ (b || list_any (λ row. same_bytes w row.0) words)
    by true h = refl
    by false h = h

-- ---- where attributes and an item are next

-- where no attributes are next there are none
pub no_attrs : (x : VFound) (ts : Tokens) (k : NoContext) → say.at_group x.token ≡ leaves → read k attrs (proper x ∷ ts) ≡ Ok ([], proper x ∷ ts)
unfolding groups while_next
no_attrs x ts k h = read_loop k (λ _ _ t. at_token (λ x. say.at_group x.token) t) (λ so_far _. group so_far) (λ so_far. gives so_far) [] (proper x ∷ ts) ∙ rw h refl

-- attributes are read behind their first token
pub some_attrs : (x : VFound) (ts : Tokens) (k : NoContext) → say.at_group x.token ≡ takes tt → read k attrs (proper x ∷ ts) ≡ read k (sequence (group []) groups) ts
unfolding groups while_next
some_attrs x ts k h = read_loop k (λ _ _ t. at_token (λ x. say.at_group x.token) t) (λ so_far _. group so_far) (λ so_far. gives so_far) [] (proper x ∷ ts) ∙ rw h refl

-- attributes, and then a part that they go to
module _ {A : Type 0} (q : List Attr → Vlog A) (x : VFound) (ts : Tokens) (k : NoContext) where
  pub behind_none : say.at_group x.token ≡ leaves → read k (sequence attrs q) (proper x ∷ ts) ≡ read k (q []) (proper x ∷ ts)
  behind_none h = ap (λ r. and_then r (λ y. read k (q y.0) y.1)) (no_attrs x ts k h)

  pub behind_some : say.at_group x.token ≡ takes tt → read k (sequence attrs q) (proper x ∷ ts) ≡ read k (sequence (sequence (group []) groups) q) ts
  behind_some h = ap (λ r. and_then r (λ y. read k (q y.0) y.1)) (some_attrs x ts k h)

first_word : (w : List ℕ) (ts : Tokens) (k : NoContext) (c : ItemStart) (x : VFound) → x.token ≡ token.Keyword w → (o : Option ItemWord) → meant_by item_words w ≡ o → word_start o ≡ takes c → read k (item []) (proper x ∷ ts) ≡ read k (item_rest c) ts
unfolding item item_rest if_next one
first_word w ts k c x is None m h = absurd cc
first_word w ts k c x is (Some word) m h = let e : at_word word ≡ c = cc in rw (← e, is, m) refl

named_first : (x : VFound) (n : List ℕ) (ts : Tokens) (k : NoContext) → x.token ≡ token.Name n → read k (item []) (proper x ∷ ts) ≡ read k (instances_item [] n) ts
unfolding item if_next
named_first x n ts k is = rw is refl

-- an item is read from its attributes on as behind its first token
pub first_item : (x : VFound) (t : VToken) (ts : Tokens) (k : NoContext) (c : ItemStart) → x.token ≡ t → at_item t ≡ takes c → read k (sequence attrs item) (proper x ∷ ts) ≡ read k (item_rest c) ts
unfolding item_rest
first_item x token.AttrStart ts k c is h = let e : at_group ≡ c = cc in behind_some item x ts k (ap say.at_group is) ∙ rw (← e) refl
first_item x (token.Name n) ts k c is h = let e : at_module_name n ≡ c = cc in behind_none item x ts k (ap say.at_group is) ∙ named_first x n ts k is ∙ rw (← e) refl
first_item x (token.Keyword w) ts k c is h = behind_none item x ts k (ap say.at_group is) ∙ first_word w ts k c x is (meant_by item_words w) refl h
first_item x (token.Number n) ts k c is h = absurd cc
first_item x (token.Real r) ts k c is h = absurd cc
first_item x (token.Based b) ts k c is h = absurd cc
first_item x (token.Str s) ts k c is h = absurd cc
first_item x (token.Punct b) ts k c is h = absurd cc
first_item x token.AttrStop ts k c is h = absurd cc
first_item x (token.Symbol b) ts k c is h = absurd cc
first_item x (token.Directive w) ts k c is h = absurd cc

-- ---- the loop

word_taken : (o : Option ItemWord) → is_taken (word_start o) ≡ true → (c : ItemStart) × (word_start o ≡ takes c)
word_taken (Some word) h = (at_word word, refl)
word_taken None h = absurd cc

taken : (t : VToken) → is_taken (at_item t) ≡ true → (c : ItemStart) × (at_item t ≡ takes c)
taken token.AttrStart h = (at_group, refl)
taken (token.Name n) h = (at_module_name n, refl)
taken (token.Keyword w) h = word_taken (meant_by item_words w) h
taken (token.Number n) h = absurd cc
taken (token.Real r) h = absurd cc
taken (token.Based b) h = absurd cc
taken (token.Str s) h = absurd cc
taken (token.Punct b) h = absurd cc
taken token.AttrStop h = absurd cc
taken (token.Symbol b) h = absurd cc
taken (token.Directive w) h = absurd cc

word_left : (o : Option ItemWord) → is_taken (word_start o) ≡ false → word_start o ≡ leaves
word_left (Some word) h = absurd cc
word_left None h = refl

left : (t : VToken) → is_taken (at_item t) ≡ false → at_item t ≡ leaves
left token.AttrStart h = absurd cc
left (token.Name n) h = absurd cc
left (token.Keyword w) h = word_left (meant_by item_words w) h
left (token.Number n) h = refl
left (token.Real r) h = refl
left (token.Based b) h = refl
left (token.Str s) h = refl
left (token.Punct b) h = refl
left token.AttrStop h = refl
left (token.Symbol b) h = refl
left (token.Directive w) h = refl

misses : Misses begins_item (λ x. at_item x.token)
unfolding begins_item
misses x h = left x.token h

one_round : (so_far : List ItemV) (x : VFound) (ts : Tokens) (k : NoContext) → begins_item x ≡ true
    → read k (items so_far) (proper x ∷ ts) ≡ read k (sequence (sequence attrs item) (λ i. items (so_far ++ i ∷ []))) (proper x ∷ ts)
unfolding items while_next begins_item
one_round so_far x ts k b = let c = taken x.token b in
    read_loop k (λ _ _ t. at_token (λ x. at_item x.token) t) (λ so_far start. sequence (item_rest start) (λ i. gives (so_far ++ i ∷ []))) (λ so_far. sequence (keyword (codes "endmodule")) (λ _. gives so_far)) so_far (proper x ∷ ts)
    ∙ rw c.1 (by (read k (item_rest c.0) ts))
    ∙ sym (ap (λ r. and_then r (λ y. read k (items (so_far ++ y.0 ∷ [])) y.1)) (first_item x x.token ts k c.0 refl c.1))
  where
    by : (r : Answer (Terminal VFound Place) Reason ItemV)
        → and_then {A = List ItemV × Tokens} {B = List ItemV × Tokens} (and_then {A = ItemV × Tokens} r (λ z. Ok (so_far ++ z.0 ∷ [], z.1))) (λ u. read k (items u.0) u.1)
        ≡ and_then {A = ItemV × Tokens} r (λ z. read k (items (so_far ++ z.0 ∷ [])) z.1)
    by (Ok z) = refl
    by (Err e) = refl

first_round : (so_far : List ItemV) (k : NoContext) (ts : Tokens) → FirstFits begins_item true ts → read k (items so_far) ts ≡ read k (sequence (sequence attrs item) (λ i. items (so_far ++ i ∷ []))) ts
first_round so_far k [] is = absurd is
first_round so_far k (end p ∷ ts) is = absurd cc
first_round so_far k (proper x ∷ ts) is = one_round so_far x ts k (sym is)

module _ (so_far : List ItemV) (k : NoContext) where
  pub items_more : (s : Option (Ahead VFound)) → IsNext begins_item true s → reading vlog (items so_far) k s ≡ reading vlog (sequence (sequence attrs item) (λ i. items (so_far ++ i ∷ []))) k s
  unfolding reading IsNext
  items_more None is = refl
  items_more (Some s) is = ap (λ r. Some (result_of vlog s.finish r)) (first_round so_far k s.tokens is)

module _ (so_far : List ItemV) (k : NoContext) (s : Option (Ahead VFound)) where
  pub items_end : IsNext begins_item false s → reading vlog (items so_far) k s ≡ reading vlog (sequence (keyword (codes "endmodule")) (λ _. gives so_far)) k s
  unfolding items
  items_end is = while_next_is_no vlog begins_item (λ _ _ x. at_item x.token) (λ so_far start. sequence (item_rest start) (λ i. gives (so_far ++ i ∷ []))) (λ so_far. sequence (keyword (codes "endmodule")) (λ _. gives so_far)) so_far k s misses is

  pub items_fault : (e : ReadError) → IsCause e (looking s) → IsCause e (reading vlog (items so_far) k s)
  unfolding items
  items_fault e h = cause_while e vlog (λ _ _ x. at_item x.token) (λ so_far start. sequence (item_rest start) (λ i. gives (so_far ++ i ∷ []))) (λ so_far. sequence (keyword (codes "endmodule")) (λ _. gives so_far)) so_far k s h

-- for the loop over the items of a module
pub ruleset item_loops = (items_more, items_end, items_fault, map_push, sequences)
