-- The loop over the forms of a keyword map, whose state is the aliases under which it is read.
use Rattle.std.proofs.Common.{arith, ℕ, ◌≤◌, IsErrAnd, ◌≡◌, ◌∙◌, sym, ap, subst, refl, Bool, true, false, List, Option, Some, None, Result, Ok, Err}
use Rattle.grammar.specs.Part.{gives, sequence}
use Rattle.grammar.specs.Reading.{read, and_then, Found as Answer}
use Rattle.grammar.specs.Whole.{Terminal}
use Rattle.nl_base.specs.declared.place.Place.{Place}
use Rattle.nl_base.specs.declared.fault.Reason.{Reason}
use Rattle.nl_base.specs.declared.fault.ReadError.{ReadError}
use Rattle.edif_tokens.specs.declared.token.Found.{Found}
use Rattle.readers.specs.Parts.{one, any}
use Rattle.std.proofs.lemmas.Result.{err_from_is_err_and}
use Rattle.nl_io.specs.Causes.{Rose}
use Rattle.nl_bytes.specs.Bytes.{Window, given}
use Rattle.nl_bytes.proofs.Uses.{takes_then}
use Rattle.nl_io.specs.Sources.{Supply}
use Rattle.nl_bytes.specs.Tokens.{Ahead, Moves, skip}
use Rattle.readers.specs.Readers.{Reader, ReadsContext, LooksAt, stream, reading, on, on_result, result_of, IsToken, IsCause}
use Rattle.readers.proofs.Choices.{due_one, due_then}
use Rattle.readers.proofs.Loops.{GoesContext}
use Rattle.readers.proofs.Moving.{skip_skip}
use Rattle.readers.proofs.Reading.{reading_then, sequences, cause_on}
use Rattle.edif_keywords.specs.Aliases.{Alias}
use Rattle.edif_keywords.specs.Language.{edif}
use Rattle.edif_keywords.specs.Reasons.{opens, closing_of}
use Rattle.edif_keywords.specs.Grammar.{opening, closing, map_item, map_items}
use Rattle.edif_keywords.proofs.Forms.{forms_more, forms_end, forms_fault}

-- a parenthesis says the same under all aliases
pub any_under : (k t : List Alias) (s : Option (Ahead Found)) → reading edif any k s ≡ reading edif any t s
unfolding reading any
any_under k t s = refl

pub closing_under : (k t : List Alias) (s : Option (Ahead Found)) → reading edif closing k s ≡ reading edif closing t s
unfolding reading one
closing_under k t s = refl

module _ (with_aliases : Bool) (t k : List Alias) (s : Option (Ahead Found)) where
  apart : (ts : List (Terminal Found Place))
      → read k (sequence opening (λ _. sequence (map_item with_aliases t) (λ u. map_items with_aliases u))) ts
      ≡ and_then (read t (sequence opening (λ _. map_item with_aliases t)) ts) (λ x. read k (map_items with_aliases x.0) x.1)
  unfolding map_item one
  apart ts = by (read k opening ts)
    where
      by : (r : Answer (Terminal Found Place) Reason (Unit {0}))
          → and_then r (λ x. and_then (read k (map_item with_aliases t) x.1) (λ u. read k (map_items with_aliases u.0) u.1))
          ≡ and_then (and_then r (λ x. read t (map_item with_aliases t) x.1)) (λ u. read k (map_items with_aliases u.0) u.1)
      by (Ok x) = refl
      by (Err e) = refl

  pieces : (s : Option (Ahead Found)) → reading edif (sequence opening (λ _. sequence (map_item with_aliases t) (λ u. map_items with_aliases u))) k s
      ≡ on edif (map_items with_aliases) k (reading edif (sequence opening (λ _. map_item with_aliases t)) t s)
  unfolding reading on
  pieces None = refl
  pieces (Some s) = ap (λ r. Some (result_of edif s.finish r)) (apart s.tokens) ∙ by (read t (sequence opening (λ _. map_item with_aliases t)) s.tokens)
    where
      by : (r : Answer (Terminal Found Place) Reason (List Alias))
          → Some (result_of edif s.finish (and_then r (λ u. read k (map_items with_aliases u.0) u.1))) ≡ on_result edif (map_items with_aliases) k (result_of edif s.finish r)
      by (Ok x) = refl
      by (Err e) = refl

  opened : IsToken opens true s → reading edif (map_items with_aliases t) k s ≡ reading edif (sequence opening (λ _. sequence (map_item with_aliases t) (λ u. map_items with_aliases u))) k s
  unfolding map_items
  opened is = forms_more _ _ t k s is

  -- a form is read under the aliases so far, and then those that follow it
  pub map_more : IsToken opens true s → reading edif (map_items with_aliases t) k s ≡ on edif (map_items with_aliases) k (reading edif (sequence opening (λ _. map_item with_aliases t)) t s)
  map_more is = opened is ∙ pieces s

  pub map_item_fault : (e : ReadError) → IsToken opens true s → IsCause e (reading edif (sequence opening (λ _. map_item with_aliases t)) t s) → IsCause e (reading edif (map_items with_aliases t) k s)
  map_item_fault e is h = subst (IsCause e) (sym (map_more is)) (cause_on e edif (map_items with_aliases) k (reading edif (sequence opening (λ _. map_item with_aliases t)) t s) h)

  pub map_end : IsToken opens false s → reading edif (map_items with_aliases t) k s ≡ reading edif (sequence closing (λ _. gives t)) k s
  unfolding map_items
  map_end is = forms_end _ _ t k s is

  pub map_fault : (e : ReadError) → IsCause e (reading edif any k s) → IsCause e (reading edif (map_items with_aliases t) k s)
  unfolding map_items
  map_fault e h = forms_fault _ _ t k s e h (due_then e edif closing (λ _. gives t) k s (due_one e edif (λ _ x. closing_of x.token) k s h))

-- for the loop over the forms of a keyword map
pub ruleset map_loops = (map_more, map_item_fault, map_end, map_fault, any_under, closing_under, sequences)

moves_then : (a b c : Window) (i j m : Supply) → Moves a b i j → Moves b c j m → Moves a c i m
moves_then a b c i j m h n = record {
  place = omega (arith, h.place, n.place);
  taken = omega (arith, h.taken, n.taken);
  left = n.left ∙ ap (skip (given c) (given b)) h.left ∙ skip_skip (given a) (given b) (given c) i.left h.taken n.taken;
  faults = omega (arith, h.faults, n.faults);
  within = omega (arith, h.within, n.within);
  lazy = takes_then a b c n.place h.lazy n.lazy;
}

rose_since : (a b c : ℕ) → a ≤ b → Rose b c → Rose a c
rose_since a b c h r = omega (arith, h, r)

-- the loop's exit where a form is refused
module _ (with_aliases : Bool) (now start mid new : Reader (List Alias) Found) (i j m n : Supply) (goes : GoesContext edif (map_items with_aliases) now start j i)
    (b : Bool) (looks : LooksAt edif opens (Ok b) now mid j m) (is : b ≡ true) (e : ReadError) (fails : ReadsContext edif (sequence opening (λ _. map_item with_aliases mid.context)) (Err e) mid new m n) where
  cause : IsCause e (reading edif (map_items with_aliases start.context) start.context (stream edif start i))
  cause =
      let seen = subst (λ d. IsToken opens d (stream edif mid m)) is looks.value.0 in
      let refused = map_item_fault with_aliases mid.context start.context (stream edif mid m) e seen fails.error in
      subst (IsCause e)
      (ap (λ s. reading edif (map_items with_aliases mid.context) start.context s) looks.value.1.0
      ∙ ap (λ t. reading edif (map_items with_aliases t) start.context (stream edif now j)) looks.value.1.1 ∙ goes.same)
      refused

  exit : ReadsContext edif (map_items with_aliases start.context) (Err e) start new i n
  exit = record {
    value = tt;
    error = cause;
    moves = moves_then start.window now.window new.window i j n goes.moves (moves_then now.window mid.window new.window j m n looks.moves fails.moves);
    unspent = tt;
    spent = (λ s. let f = sym (fails.spent.0 s) ∙ looks.spends in absurd cc, λ s. let f = sym s ∙ sym goes.spent ∙ looks.unspent in absurd cc);
    spends = fails.spends;
    cause = λ s. rose_since i.faults m.faults n.faults (omega (arith, goes.moves.faults, looks.moves.faults)) (fails.cause s);
    near = fails.near;
  }

  pub refused_exit : (r : Result (Unit {0}) ReadError) → IsErrAnd r (λ d. d ≡ e) → ReadsContext edif (map_items with_aliases start.context) r start new i n
  refused_exit r h = let p = err_from_is_err_and r h in rw (p.1, p.2) exit
