-- Tokens at the front of a text can be gone on with exactly where some text goes on from their bytes.
use Rattle.std.proofs.Common.{◌≡◌, ◌∙◌, refl, sym, ap, subst, ℕ, List, [], ◌∷◌, ◌++◌, map, append-nil, append_assoc, arith}
use Rattle.std.specs.Prelude.{◌↔◌}
use Rattle.std.specs.List.{AllByRecursion}
use Rattle.grammar.specs.Texts.{Begins, Spells}
use Rattle.grammar.specs.Whole.{Terminal, proper, end, whole, Finish, Bad, IsText, at_token, at_bad}
use Rattle.grammar_alike.specs.Alike.{AreAlike}
use Rattle.grammar_alike.proofs.Alike.{alike_both, spells_alike, begins_alike}
use Rattle.grammar_laws.specs.GoesOn.{AllOf}
use Rattle.grammar_laws.proofs.Ending.{IsToken, one_end}
use Rattle.nl_base.specs.declared.fault.Reason.{Reason}
use Rattle.nl_base.specs.declared.fault.TextFault.{TextFault}
use Rattle.nl_base.specs.declared.place.Place.{Place}
use Rattle.nl_base.specs.Place.{place_at_start, place_past}
use Rattle.nl_bytes.specs.Tokens.{Ahead, only_end}
use Rattle.nl_bytes.proofs.Limited.{limited_front, bad_within}
use Rattle.readers.specs.Parts.{PartOf}
use Rattle.readers.specs.Readers.{fault_at}
use Rattle.readers.specs.Rises.{Rises}
use Rattle.readers.proofs.Limited.{no_end_before, no_end}
use Rattle.edif_tokens.specs.declared.token.Found.{Found}
use Rattle.edif_values.specs.declared.token.Token.{Token}
use Rattle.edif_values.specs.Proper.{AreBytes, IsProper}
use Rattle.edif_tokens.specs.Language.{stop_of, stream_from, tokens_from, tokens, all_tokens}
use Rattle.edif_keywords.specs.Aliases.{Alias}
use Rattle.edif_keywords.specs.Language.{edif}
use Rattle.edif_keywords.specs.Reasons.{trailing}
use Rattle.edif_values.specs.declared.file.EdifFile.{EdifFile}
use Rattle.edif_library.specs.Grammar.{file}
use Rattle.edif_library.specs.Text.{EdifFault}
use Rattle.edif_library.specs.AnyLength.{EdifSpells}
use Rattle.edif_lexing.specs.Lexing.{Shows, Lexes}
use Rattle.edif_lexing.proofs.Lexing.{lexes_space}
use Rattle.edif_limits.proofs.Law.{reads}
use Rattle.edif_limits.proofs.Stops.{rises}
use Rattle.edif_faults.specs.GoesOn.{CanStand}
use Rattle.edif_faults.proofs.File.{front_goes_on}
use Rattle.edif_faults.proofs.Taking.{tokens_alone}
use Rattle.edif_texts_go_on.specs.Onward.{IsSame, GoesOnFrom, GoesOnToFile, StandsAt, GoesOnBefore}
use Rattle.edif_texts_go_on.proofs.AlikeParts.{SameToken, same_token_self}
use Rattle.edif_texts_go_on.proofs.AlikeFile.{text_alike}
use Rattle.edif_texts_go_on.proofs.Spelled.{tokens_text, tokens_lex, tokens_bytes, bytes_both, front_bytes}
use Rattle.edif_texts_go_on.proofs.Splits.{Splits, splits, followed}

abbrev Tokens : Type 0
Tokens = List (Terminal Found Place)

abbrev text : PartOf (List Alias) Found EdifFile
text = whole trailing (file [])

abbrev values : List Found → List Token
values = map (λ f. f.token)

-- ---- proper tokens are those of some bytes

pub of_bytes : (xs : List Token) → AllByRecursion IsProper xs → (bytes : List ℕ) × AreBytes bytes × Lexes bytes xs
of_bytes xs good = (tokens_text xs, tokens_bytes xs good, tokens_lex xs good)

-- ---- the tokens within the limit are a front of all

front_of_all : (bs : List ℕ) → (others : Tokens) × ((all_tokens bs).tokens ≡ (tokens bs).tokens ++ others)
unfolding stream_from
front_of_all bs = limited_front stop_of (all_tokens bs)

-- a front within the limit is one of all tokens
all_front : (bs : List ℕ) (before after : Tokens) → (tokens bs).tokens ≡ before ++ after → (others : Tokens) × ((all_tokens bs).tokens ≡ before ++ (after ++ others))
all_front bs before after e =
    let all = front_of_all bs in
    (all.0, all.1 ∙ ap (λ (z : Tokens). z ++ all.0) e ∙ append_assoc before after all.0)

split : (bs : List ℕ) (front : List Found) (rest : Tokens) → (tokens bs).tokens ≡ map proper front ++ rest → Splits place_at_start bs front
split bs front rest e = let all = all_front bs (map proper front) rest e in splits front (rest ++ all.0) place_at_start bs all.1

-- ---- what goes on with the tokens ends with the end of the input, and is proper

cons_is : {A : Type 0} (y z : A) (ys zs : List A) → y ≡ z → ys ≡ zs → y ∷ ys ≡ z ∷ zs
cons_is y z ys zs e f = cc

more_tokens : (more before : Tokens) (p : Place) → AllOf IsToken before → more ≡ before ++ end p ∷ []
    → (xs : List Found) × (more ≡ map proper xs ++ end p ∷ [])
more_tokens more [] p all e = ([], e)
more_tokens more (end q ∷ before) p all e = absurd all.0
more_tokens [] (proper x ∷ before) p all e = absurd cc
more_tokens (y ∷ more) (proper x ∷ before) p all e =
    let r = more_tokens more before p all.1 cc in
    let is : y ≡ proper x = cc in
    (x ∷ r.0, cons_is y (proper x) more (map proper r.0 ++ end p ∷ []) is r.1)

behind_front : (front : List Found) (more before : Tokens) (p : Place) → AllOf IsToken before → map proper front ++ more ≡ before ++ end p ∷ []
    → (xs : List Found) × (more ≡ map proper xs ++ end p ∷ [])
behind_front [] more before p all e = more_tokens more before p all e
behind_front (x ∷ front) more [] p all e = absurd cc
behind_front (x ∷ front) more (y ∷ before) p all e = behind_front front more before p all.1 cc

proper_values : (xs : List Found) (p : Place) → AllOf CanStand (map proper xs ++ end p ∷ []) → AllByRecursion IsProper (values xs)
proper_values [] p h = tt
proper_values (x ∷ xs) p h = (h.0, proper_values xs p h.1)

-- ---- tokens that are the same

same_values : (xs ys : List Found) → values ys ≡ values xs → AreAlike SameToken (map proper xs) (map proper ys)
same_values [] [] e = tt
same_values [] (y ∷ ys) e = absurd cc
same_values (x ∷ xs) [] e = absurd cc
same_values (x ∷ xs) (y ∷ ys) e = let first : x.token ≡ y.token = cc in (first, same_values xs ys cc)

same_tokens : (xs ys : List Found) → AreAlike IsSame xs ys → AreAlike SameToken (map proper xs) (map proper ys)
same_tokens [] [] h = tt
same_tokens [] (y ∷ ys) h = absurd h
same_tokens (x ∷ xs) [] h = absurd h
same_tokens (x ∷ xs) (y ∷ ys) h = (h.0.token, same_tokens xs ys h.1)

same_back : (xs ys : List Found) → AreAlike IsSame xs ys → AreAlike SameToken (map proper ys) (map proper xs)
same_back [] [] h = tt
same_back [] (y ∷ ys) h = absurd h
same_back (x ∷ xs) [] h = absurd h
same_back (x ∷ xs) (y ∷ ys) h = (sym h.0.token, same_back xs ys h.1)

-- what a stream shows ends a text as these tokens do
shown : (s : Ahead Found) (xs : List Found) (p : Place) → Shows s (values xs) → AreAlike SameToken (map proper xs ++ end p ∷ []) s.tokens
shown s xs p h =
    subst (AreAlike SameToken (map proper xs ++ end p ∷ [])) (sym h.tokens)
    (alike_both SameToken (map proper xs) (end p ∷ []) (map proper h.found) (end h.last ∷ []) (same_values xs h.found h.same) (tt, tt))

-- ---- the text

none_left : (p : Place) → tokens_from 0 p [] ≡ only_end Found p
unfolding tokens_from
none_left p = refl

-- the text of a front and of proper tokens behind it
module _ (bs : List ℕ) (front : List Found) (s : Splits place_at_start bs front) (xs : List Found) (good : AllByRecursion IsProper (values xs)) where
  abbrev whole_text : List ℕ
  whole_text = s.used ++ 32 ∷ tokens_text (values xs)

  shows_more : (p : Place) → Shows (tokens_from 0 p (32 ∷ tokens_text (values xs))) (values xs)
  shows_more p = (lexes_space 32 (tokens_text (values xs)) (values xs) refl (tokens_lex (values xs) good)).at p

  goes_on_from : GoesOnFrom bs front whole_text
  goes_on_from =
      let here = s.again [] (λ _. tt) in
      let there = s.again (32 ∷ tokens_text (values xs)) (λ _. refl) in
      let q = place_past place_at_start s.used in
      let used : all_tokens s.used ≡ followed here.0 (only_end Found q) = ap all_tokens (sym (append-nil s.used)) ∙ here.2 ∙ ap (λ (z : Ahead Found). followed here.0 z) (none_left q) in
      record {
        used = s.used;
        behind = s.rest;
        more = 32 ∷ tokens_text (values xs);
        of_bytes = s.parts;
        of_text = refl;
        alone = here.0;
        last = q;
        used_tokens = ap (λ (z : Ahead Found). z.tokens) used;
        used_are = here.1;
        same = there.0;
        others = (tokens_from 0 q (32 ∷ tokens_text (values xs))).tokens;
        tokens = ap (λ (z : Ahead Found). z.tokens) there.2;
        are_same = there.1;
      }

  spells_text : (p : Place) (v : EdifFile) → Spells [] text (map proper front ++ (map proper xs ++ end p ∷ [])) v → EdifSpells whole_text v
  spells_text p v h =
      let there = s.again (32 ∷ tokens_text (values xs)) (λ _. refl) in
      let behind = tokens_from 0 (place_past place_at_start s.used) (32 ∷ tokens_text (values xs)) in
      let shows = shows_more (place_past place_at_start s.used) in
      let alike = alike_both SameToken (map proper front) (map proper xs ++ end p ∷ []) (map proper there.0) behind.tokens (same_tokens front there.0 there.1) (shown behind xs p shows) in
      let spelled = spells_alike SameToken [] text text_alike (map proper front ++ (map proper xs ++ end p ∷ [])) (map proper there.0 ++ behind.tokens) v alike h in
      let is : IsText [] text (followed there.0 behind) v = (spelled, shows.finish) in
      subst (λ (z : Ahead Found). IsText [] text z v) (sym there.2) is

  bytes_text : AreBytes bs → AreBytes whole_text
  bytes_text all =
      bytes_both s.used (32 ∷ tokens_text (values xs)) (front_bytes s.used s.rest (subst AreBytes s.parts all)) (omega arith, tokens_bytes (values xs) good)

  to_file : (p : Place) (v : EdifFile) → Spells [] text (map proper front ++ (map proper xs ++ end p ∷ [])) v → GoesOnToFile bs front
  to_file p v h = let spelled = spells_text p v h in (whole_text, v, goes_on_from, bytes_text, spelled, λ le. (reads whole_text v).1 (spelled, le))

-- ---- the laws

pub goes_on : (bs : List ℕ) (front : List Found) (rest : Tokens) → (tokens bs).tokens ≡ map proper front ++ rest → Begins [] text (map proper front) → GoesOnToFile bs front
goes_on bs front rest e begun =
    let h = front_goes_on bs (map proper front) rest e begun in
    let n = one_end trailing [] (file []) tokens_alone (map proper front ++ h.0) h.1 h.3 in
    let b = behind_front front h.0 n.0 n.1 n.3 n.2 in
    let good = proper_values b.0 n.1 (subst (AllOf CanStand) b.1 h.2) in
    to_file bs front (split bs front rest e) b.0 good n.1 h.1 (subst (λ (z : Tokens). Spells [] text (map proper front ++ z) h.1) b.1 h.3)

begins : (bs : List ℕ) (front : List Found) → GoesOnToFile bs front → Begins [] text (map proper front)
begins bs front h =
    let on = h.2 in
    let same : Begins [] text (map proper on.same) = (on.others, h.1, subst (λ (z : Tokens). Spells [] text z h.1) on.tokens h.4.0) in
    begins_alike SameToken [] text text_alike same_token_self (map proper on.same) (map proper front) (same_back front on.same on.are_same) same

pub fronts : (bs : List ℕ) (front : List Found) (rest : Tokens) → (tokens bs).tokens ≡ map proper front ++ rest → Begins [] text (map proper front) ↔ GoesOnToFile bs front
fronts bs front rest e = (λ h. goes_on bs front rest e h, λ h. begins bs front h)

-- ---- before a first fault

at_fault : (x : Terminal Found Place) (reason : Reason) (f : TextFault) (rest : Tokens) (finish : Finish TextFault) → f ≡ fault_at edif x reason
    → StandsAt f (x ∷ rest) finish
at_fault (proper x) reason f rest finish e = (ap (λ (z : TextFault). z.place) e, ap (λ (z : TextFault). z.stop) e)
at_fault (end p) reason f rest finish e = (ap (λ (z : TextFault). z.place) e, ap (λ (z : TextFault). z.stop) e)

-- all tokens, where bytes that are no token are found within the limit
all_there : (bs : List ℕ) (f : TextFault) → (tokens bs).finish ≡ Bad f → all_tokens bs ≡ tokens bs
unfolding stream_from
all_there bs f e = (bad_within stop_of (all_tokens bs) f e).0

pub before_fault : (bs : List ℕ) (f : TextFault) → EdifFault bs f → GoesOnBefore bs f
before_fault bs f (at_token x reason h e) =
    let all = all_front bs h.before (x ∷ h.after) h.place in
    let b = no_end_before stop_of 0 (all_tokens bs).tokens h.before (h.after ++ all.0) x (all_tokens bs).finish (rises bs) all.1 in
    let parts : (tokens bs).tokens ≡ map proper b.0 ++ x ∷ h.after = h.place ∙ ap (λ (z : Tokens). z ++ x ∷ h.after) b.1 in
    (b.0, x ∷ h.after, parts, at_fault x reason f h.after (tokens bs).finish e, goes_on bs b.0 (x ∷ h.after) parts (subst (Begins [] text) b.1 h.goes_on))
before_fault bs f (at_bad h e) =
    let risen = subst (λ (z : Ahead Found). Rises stop_of 0 z.tokens z.finish) (all_there bs f e) (rises bs) in
    let b = no_end stop_of 0 (tokens bs).tokens (tokens bs).finish f risen e in
    let parts : (tokens bs).tokens ≡ map proper b.0 ++ [] = b.1 ∙ sym (append-nil (map proper b.0)) in
    (b.0, [], parts, subst (StandsAt f []) (sym e) refl, goes_on bs b.0 [] parts (subst (Begins [] text) b.1 h))
