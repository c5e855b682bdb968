-- Tokens can be gone on with exactly where they can be so by tokens that bytes can spell, and where some text goes on from their bytes.
use Rattle.std.proofs.Common.{◌≡◌, ◌∙◌, refl, sym, ap, subst, ℕ, List, [], ◌∷◌, ◌++◌, map, append-nil, inr, arith}
use Rattle.std.specs.Prelude.{◌↔◌}
use Rattle.std.specs.List.{AllByRecursion}
use Rattle.grammar.specs.Clear.{IsLive, IsClosed}
use Rattle.grammar.specs.Texts.{Begins, Spells}
use Rattle.grammar.specs.Whole.{Terminal, proper, end, whole, Finish, IsText, at_token, at_bad}
use Rattle.grammar.proofs.Whole as grammar
use Rattle.grammar_alike.specs.Alike.{AreAlike, Respects}
use Rattle.grammar_alike.proofs.Alike.{alike_both, spells_alike, begins_alike}
use Rattle.grammar_alike.proofs.Living.{respects, says_alike}
use Rattle.grammar_laws.specs.GoesOn.{AllOf}
use Rattle.grammar_laws.proofs.Agreeing.{begins_by}
use Rattle.grammar_laws.proofs.Ending.{IsToken, one_end}
use Rattle.grammar_laws.proofs.Refusing.{text_has}
use Rattle.nl_base.specs.declared.fault.Reason.{Reason}
use Rattle.nl_base.specs.declared.fault.TextFault.{TextFault}
use Rattle.nl_base.specs.declared.place.Place.{Place}
use Rattle.nl_base.specs.Place.{place_at_start, place_past}
use Rattle.readers.specs.Parts.{PartOf}
use Rattle.readers.specs.Readers.{fault_at}
use Rattle.nl_bytes.specs.Tokens.{Ahead, only_end}
use Rattle.vlog_tokens.specs.declared.token.VFound.{VFound}
use Rattle.vlog_tokens.specs.declared.token.VToken.{VToken}
use Rattle.vlog_tokens.specs.Language.{vlog, stop_of, tokens_from, all_tokens}
use Rattle.vlog_tokens.specs.Proper.{AreBytes}
use Rattle.vlog_exprs.specs.Language.{NoContext}
use Rattle.vlog_exprs.specs.Reasons.{trailing}
use Rattle.vlog_values.specs.declared.module.VlogFile.{VlogFile}
use Rattle.vlog_modules.specs.Grammar.{file}
use Rattle.vlog_modules.proofs.Live.{live_file}
use Rattle.vlog_modules.proofs.Clear.{clear_file}
use Rattle.vlog_lexing.specs.Lexing.{Shows, Lexes}
use Rattle.vlog_lexing.proofs.Scanning.{lexes_space}
use Rattle.vlog_modules.specs.AnyLength.{VlogSpells, VlogFails}
use Rattle.readers.proofs.Limited.{no_end_before, no_end}
use Rattle.vlog_limits.proofs.Law.{reads}
use Rattle.vlog_limits.proofs.Rising.{rises}
use Rattle.vlog_faults.specs.Fitting.{Fits}
use Rattle.vlog_faults.proofs.FileProductions.{file_fit}
use Rattle.vlog_goes_on.specs.GoesOn.{IsOfBytes, CanStand, GoesOn}
use Rattle.vlog_goes_on.specs.Onward.{IsSame, GoesOnFrom, GoesOnToFile, StandsAt, GoesOnBefore}
use Rattle.vlog_goes_on.proofs.ExprsLive.{SameToken, same_token_self}
use Rattle.vlog_goes_on.proofs.FilesLive.{text_lives}
use Rattle.vlog_goes_on.proofs.Spelled.{tokens_text, tokens_lex}
use Rattle.vlog_goes_on.proofs.Bytes.{bytes_both, front_bytes, tokens_bytes}
use Rattle.vlog_goes_on.proofs.Splits.{Splits, splits, fronted, followed}

abbrev Tokens : Type 0
Tokens = List (Terminal VFound Place)

abbrev text : PartOf NoContext VFound VlogFile
text = whole trailing file

abbrev values : List VFound → List VToken
values = map (λ f. f.token)

-- ---- such tokens are those of some bytes

pub of_bytes : (xs : List VToken) → AllByRecursion IsOfBytes xs → (bytes : List ℕ) × AreBytes bytes × Lexes bytes xs
of_bytes xs good = (tokens_text xs, tokens_bytes xs good, tokens_lex xs good)

-- ---- any tokens

alive : IsLive tt text
alive = grammar.live_whole trailing tt file place_at_start live_file

closed : IsClosed tt text
closed = grammar.closed_whole trailing tt file (λ _ t. (p : Place) × (t ≡ end p)) (λ v at. (at, refl)) clear_file

text_alike : Respects SameToken tt text
text_alike = respects CanStand SameToken tt text text_lives

pub goes_on_by : (ts : Tokens) → Begins tt text ts → GoesOn ts
goes_on_by ts h = begins_by CanStand tt text alive (end place_at_start) closed ts (says_alike CanStand SameToken tt text text_lives ts) h

pub any_tokens : (ts : Tokens) → Begins tt text ts ↔ GoesOn ts
any_tokens ts = (λ h. goes_on_by ts h, λ h. (h.0, h.1, h.3))

tokens_alone : (ts : Tokens) (v : VlogFile) → Spells tt file ts v → AllOf IsToken ts
tokens_alone ts v h = text_has Fits IsToken tt file file_fit ts v h

-- ---- what goes on with the tokens ends with the end of the input, and bytes can spell it

cons_is : {A : Type 0} (y z : A) (ys zs : List A) → y ≡ z → ys ≡ zs → y ∷ ys ≡ z ∷ zs
cons_is y z ys zs e f = cc

more_tokens : (more before : Tokens) (p : Place) → AllOf IsToken before → more ≡ before ++ end p ∷ []
    → (xs : List VFound) × (more ≡ map proper xs ++ end p ∷ [])
more_tokens more [] p all e = ([], e)
more_tokens more (end q ∷ before) p all e = absurd all.0
more_tokens [] (proper x ∷ before) p all e = absurd cc
more_tokens (y ∷ more) (proper x ∷ before) p all e =
    let r = more_tokens more before p all.1 cc in
    let is : y ≡ proper x = cc in
    (x ∷ r.0, cons_is y (proper x) more (map proper r.0 ++ end p ∷ []) is r.1)

behind_front : (front : List VFound) (more before : Tokens) (p : Place) → AllOf IsToken before → map proper front ++ more ≡ before ++ end p ∷ []
    → (xs : List VFound) × (more ≡ map proper xs ++ end p ∷ [])
behind_front [] more before p all e = more_tokens more before p all e
behind_front (x ∷ front) more [] p all e = absurd cc
behind_front (x ∷ front) more (y ∷ before) p all e = behind_front front more before p all.1 cc

good_values : (xs : List VFound) (p : Place) → AllOf CanStand (map proper xs ++ end p ∷ []) → AllByRecursion IsOfBytes (values xs)
good_values [] p h = tt
good_values (x ∷ xs) p h = (h.0, good_values xs p h.1)

-- ---- tokens that are the same

same_values : (xs ys : List VFound) → values ys ≡ values xs → AreAlike SameToken (map proper xs) (map proper ys)
same_values [] [] e = tt
same_values [] (y ∷ ys) e = absurd cc
same_values (x ∷ xs) [] e = absurd cc
same_values (x ∷ xs) (y ∷ ys) e = let first : x.token ≡ y.token = cc in (first, same_values xs ys cc)

same_tokens : (xs ys : List VFound) → AreAlike IsSame xs ys → AreAlike SameToken (map proper xs) (map proper ys)
same_tokens [] [] h = tt
same_tokens [] (y ∷ ys) h = absurd h
same_tokens (x ∷ xs) [] h = absurd h
same_tokens (x ∷ xs) (y ∷ ys) h = (h.0.token, same_tokens xs ys h.1)

same_back : (xs ys : List VFound) → AreAlike IsSame xs ys → AreAlike SameToken (map proper ys) (map proper xs)
same_back [] [] h = tt
same_back [] (y ∷ ys) h = absurd h
same_back (x ∷ xs) [] h = absurd h
same_back (x ∷ xs) (y ∷ ys) h = (sym h.0.token, same_back xs ys h.1)

-- what a stream shows ends a text as these tokens do
shown : (s : Ahead VFound) (xs : List VFound) (p : Place) → Shows s (values xs) → AreAlike SameToken (map proper xs ++ end p ∷ []) s.tokens
shown s xs p h =
    subst (AreAlike SameToken (map proper xs ++ end p ∷ [])) (sym h.tokens)
    (alike_both SameToken (map proper xs) (end p ∷ []) (map proper h.found) (end h.last ∷ []) (same_values xs h.found h.same) (tt, tt))

joined : (same : List VFound) (s : Ahead VFound) → (followed same s).tokens ≡ map proper same ++ s.tokens
joined [] s = refl
joined (x ∷ same) s = ap (λ (z : Tokens). proper x ∷ z) (joined same s)

joined_finish : (same : List VFound) (s : Ahead VFound) → (followed same s).finish ≡ s.finish
joined_finish [] s = refl
joined_finish (x ∷ same) s = joined_finish same s

front_is : (front : List VFound) (rest : Tokens) → map proper front ++ rest ≡ fronted front rest
front_is [] rest = refl
front_is (x ∷ front) rest = ap (λ (z : Tokens). proper x ∷ z) (front_is front rest)

-- ---- the text

none_left : (p : Place) → tokens_from 0 p [] ≡ only_end VFound p
unfolding tokens_from
none_left p = refl

-- the text of a front and of tokens behind it
module _ (bs : List ℕ) (front : List VFound) (s : Splits place_at_start bs front) (xs : List VFound) (good : AllByRecursion IsOfBytes (values xs)) where
  abbrev whole_text : List ℕ
  whole_text = s.used ++ 32 ∷ tokens_text (values xs)

  shows_more : (p : Place) → Shows (tokens_from 0 p (32 ∷ tokens_text (values xs))) (values xs)
  shows_more p = (lexes_space 32 (tokens_text (values xs)) (values xs) refl (tokens_lex (values xs) good)).at p

  goes_on_from : GoesOnFrom bs front whole_text
  goes_on_from =
      let here = s.again [] (inr tt) in
      let there = s.again (32 ∷ tokens_text (values xs)) (inr refl) in
      let q = place_past place_at_start s.used in
      let used : all_tokens s.used ≡ followed here.0 (only_end VFound q) = ap all_tokens (sym (append-nil s.used)) ∙ here.2 ∙ ap (λ (z : Ahead VFound). followed here.0 z) (none_left q) in
      record {
        used = s.used;
        behind = s.rest;
        more = 32 ∷ tokens_text (values xs);
        of_bytes = s.parts;
        of_text = refl;
        alone = here.0;
        last = q;
        used_tokens = ap (λ (z : Ahead VFound). z.tokens) used ∙ joined here.0 (only_end VFound q);
        used_are = here.1;
        same = there.0;
        others = (tokens_from 0 q (32 ∷ tokens_text (values xs))).tokens;
        tokens = ap (λ (z : Ahead VFound). z.tokens) there.2 ∙ joined there.0 (tokens_from 0 q (32 ∷ tokens_text (values xs)));
        are_same = there.1;
      }

  spells_text : (p : Place) (v : VlogFile) → Spells tt text (map proper front ++ (map proper xs ++ end p ∷ [])) v → VlogSpells whole_text v
  spells_text p v h =
      let there = s.again (32 ∷ tokens_text (values xs)) (inr refl) in
      let behind = tokens_from 0 (place_past place_at_start s.used) (32 ∷ tokens_text (values xs)) in
      let shows = shows_more (place_past place_at_start s.used) in
      let alike = alike_both SameToken (map proper front) (map proper xs ++ end p ∷ []) (map proper there.0) behind.tokens (same_tokens front there.0 there.1) (shown behind xs p shows) in
      let spelled = spells_alike SameToken tt text text_alike (map proper front ++ (map proper xs ++ end p ∷ [])) (map proper there.0 ++ behind.tokens) v alike h in
      let is : IsText tt text (followed there.0 behind) v = (subst (λ (z : Tokens). Spells tt text z v) (sym (joined there.0 behind)) spelled, joined_finish there.0 behind ∙ shows.finish) in
      subst (λ (z : Ahead VFound). IsText tt text z v) (sym there.2) is

  bytes_text : AreBytes bs → AreBytes whole_text
  bytes_text all =
      bytes_both s.used (32 ∷ tokens_text (values xs)) (front_bytes s.used s.rest (subst AreBytes s.parts all)) (omega arith, tokens_bytes (values xs) good)

  to_file : (p : Place) (v : VlogFile) → Spells tt text (map proper front ++ (map proper xs ++ end p ∷ [])) v → GoesOnToFile bs front
  to_file p v h = let spelled = spells_text p v h in (whole_text, v, goes_on_from, bytes_text, spelled, λ le. (reads whole_text v).1 (spelled, le))

-- ---- the laws

pub goes_on : (bs : List ℕ) (front : List VFound) (rest : Tokens) → (all_tokens bs).tokens ≡ map proper front ++ rest
    → Begins tt text (map proper front) → GoesOnToFile bs front
goes_on bs front rest e begun =
    let h = goes_on_by (map proper front) begun in
    let n = one_end trailing tt file tokens_alone (map proper front ++ h.0) h.1 h.3 in
    let b = behind_front front h.0 n.0 n.1 n.3 n.2 in
    let good = good_values b.0 n.1 (subst (AllOf CanStand) b.1 h.2) in
    to_file bs front (splits front rest place_at_start bs (e ∙ front_is front rest)) b.0 good n.1 h.1 (subst (λ (z : Tokens). Spells tt text (map proper front ++ z) h.1) b.1 h.3)

begins : (bs : List ℕ) (front : List VFound) → GoesOnToFile bs front → Begins tt text (map proper front)
begins bs front h =
    let on = h.2 in
    let same : Begins tt text (map proper on.same) = (on.others, h.1, subst (λ (z : Tokens). Spells tt text z h.1) on.tokens h.4.0) in
    begins_alike SameToken tt text text_alike same_token_self (map proper on.same) (map proper front) (same_back front on.same on.are_same) same

pub fronts : (bs : List ℕ) (front : List VFound) (rest : Tokens) → (all_tokens bs).tokens ≡ map proper front ++ rest
    → Begins tt text (map proper front) ↔ GoesOnToFile bs front
fronts bs front rest e = (λ h. goes_on bs front rest e h, λ h. begins bs front h)

-- ---- before a first fault

at_fault : (x : Terminal VFound Place) (reason : Reason) (f : TextFault) (rest : Tokens) (finish : Finish TextFault) → f ≡ fault_at vlog x reason
    → StandsAt f (x ∷ rest) finish
at_fault (proper x) reason f rest finish e = (ap (λ (z : TextFault). z.place) e, ap (λ (z : TextFault). z.stop) e)
at_fault (end p) reason f rest finish e = (ap (λ (z : TextFault). z.place) e, ap (λ (z : TextFault). z.stop) e)

pub before_fault : (bs : List ℕ) (f : TextFault) → VlogFails bs f → GoesOnBefore bs f
before_fault bs f (at_token x reason h e) =
    let b = no_end_before stop_of 0 (all_tokens bs).tokens h.before h.after x (all_tokens bs).finish (rises bs) h.place in
    let parts : (all_tokens bs).tokens ≡ map proper b.0 ++ x ∷ h.after = h.place ∙ ap (λ (z : Tokens). z ++ x ∷ h.after) b.1 in
    (b.0, x ∷ h.after, parts, at_fault x reason f h.after (all_tokens bs).finish e, goes_on bs b.0 (x ∷ h.after) parts (subst (Begins tt text) b.1 h.goes_on))
before_fault bs f (at_bad h e) =
    let b = no_end stop_of 0 (all_tokens bs).tokens (all_tokens bs).finish f (rises bs) e in
    let parts : (all_tokens bs).tokens ≡ map proper b.0 ++ [] = b.1 ∙ sym (append-nil (map proper b.0)) in
    (b.0, [], parts, subst (StandsAt f []) (sym e) refl, goes_on bs b.0 [] parts (subst (Begins tt text) b.1 h))
