-- Directives and modules are read one by one, each from its first token on.
use Rattle.std.proofs.Common.{◌≡◌, ◌∙◌, sym, ap, subst, refl, ℕ, ◌+◌, Bool, true, false, List, [], ◌∷◌, ◌++◌, length-append, Option, Some, None, Ok, Err, codes, arith}
use Rattle.std.proofs.lemmas.List.{map_push}
use Rattle.std.proofs.lemmas.List.Sums.{sum_by_push}
use Rattle.grammar.specs.Part.{gives, sequence, takes, leaves}
use Rattle.grammar.specs.Reading.{read, and_then, Found as Answer}
use Rattle.grammar.specs.Whole.{Terminal, proper, end}
use Rattle.grammar.proofs.Loops.{read_loop}
use Rattle.nl_base.specs.Case.{same_bytes}
use Rattle.nl_base.specs.declared.place.Place.{Place}
use Rattle.nl_base.specs.declared.fault.Reason.{Reason}
use Rattle.nl_base.specs.declared.fault.ReadError.{ReadError}
use Rattle.readers.specs.Parts.{at_token, one, if_next, while_next}
use Rattle.readers.specs.Items.{as_item}
use Rattle.nl_bytes.specs.Tokens.{Ahead}
use Rattle.nl_bytes.proofs.Uses.{AllByRecursion-push}
use Rattle.readers.specs.Readers.{reading, result_of, looking, IsNext, FirstFits, IsCause}
use Rattle.readers.proofs.Choices.{Misses, while_next_is_no, cause_while}
use Rattle.readers.proofs.Reading.{sequences}
use Rattle.vlog_tokens.specs.Language.{vlog}
use Rattle.vlog_tokens.specs.declared.token.VFound.{VFound}
use Rattle.vlog_tokens.specs.declared.token.VToken.{VToken}
use Rattle.vlog_tokens.specs.declared.token.VToken.TheVariants as token
use Rattle.vlog_values.specs.Values.{IsModule}
use Rattle.vlog_values.specs.Sizes.{list_size, module_size}
use Rattle.vlog_values.specs.declared.module.Module.{Module}
use Rattle.vlog_values.specs.declared.module.VlogFile.{VlogFile}
use Rattle.vlog_exprs.specs.Language.{NoContext, Vlog}
use Rattle.vlog_exprs.specs.Reasons as say
use Rattle.vlog_modules.specs.declared.file.Directive.{Directive}
use Rattle.vlog_modules.specs.declared.file.Directive.TheVariants as directives
use Rattle.vlog_modules.specs.declared.file.Piece.{Piece}
use Rattle.vlog_modules.specs.declared.file.Piece.TheVariants as forms
use Rattle.vlog_modules.specs.declared.file.SoFar.{SoFar}
use Rattle.vlog_modules.specs.Grammar.{module_rest, module_of, with_module, with_implicit, net_type, directive_of, at_directive, directive, PieceStart, at_word_of, at_attributes, at_module, module_start, directive_start, at_piece, piece_rest, pieces}
use Rattle.vlog_modules.specs.Starts.{is_taken, begins_piece, said_by, one_module, piece, with_piece}
use Rattle.vlog_modules.specs.States.{AreModules, modules_size, IsPiece, piece_size}
use Rattle.vlog_modules.proofs.Items.{Tokens, behind_none, behind_some}

-- ---- one more piece

pub implicit_added : (s : SoFar) (implicit : Bool) → with_piece s (forms.Implicit implicit) ≡ with_implicit s implicit
unfolding with_piece
implicit_added s implicit = refl

pub module_added : (s : SoFar) (m : Module) → with_piece s (forms.Module m) ≡ with_module s m
unfolding with_piece
module_added s m = refl

-- the modules with one more piece, t, can be written where those before, s, and the piece can be
pub piece_is : (s t : SoFar) (p : Piece) → t ≡ with_piece s p → AreModules s → IsPiece p → AreModules t
unfolding with_piece
piece_is s t (forms.Implicit implicit) e all good = subst AreModules (sym e) all
piece_is s t (forms.Module m) e all good = subst AreModules (sym e) (AllByRecursion-push IsModule s.modules m all good)

-- and they have the items of the piece more
pub piece_sized : (s t : SoFar) (p : Piece) → t ≡ with_piece s p → modules_size t ≡ modules_size s + piece_size p
unfolding with_piece
piece_sized s t (forms.Implicit implicit) e = let l : modules_size t ≡ modules_size s = ap modules_size e in omega (arith, l)
piece_sized s t (forms.Module m) e =
    let l : modules_size t ≡ list_size module_size (s.modules ++ m ∷ []) = ap modules_size e in
    let u = sum_by_push module_size s.modules m in
    let n = length-append s.modules (m ∷ []) in
    omega (arith, l, u, n)

-- what was read, with another value in place of its own
abbrev mapped : {A B : Type 0} → (A → B) → Answer (Terminal VFound Place) Reason A → Answer (Terminal VFound Place) Reason B
mapped {A = A} {B = B} f r = and_then {A = A × Tokens} {B = B × Tokens} r (λ z. Ok (f z.0, z.1))

-- a piece that only wraps a part, added to the modules so far
wrapped : {A : Type 0} (s : SoFar) (form : A → Piece) (added : A → SoFar) → ((a : A) → with_piece s (form a) ≡ added a) → (r : Answer (Terminal VFound Place) Reason A)
    → mapped (with_piece s) (mapped form r) ≡ mapped added r
wrapped s form added same (Ok z) = ap (λ t. Ok (t, z.1)) (same z.0)
wrapped s form added same (Err e) = refl

-- ---- where a directive or a module is next

-- a piece, added to the modules so far
abbrev added_piece : SoFar → Vlog SoFar
added_piece s = sequence (piece s.implicit) (λ p. gives (with_piece s p))

other_first : (s : SoFar) (x : VFound) (ts : Tokens) (k : NoContext) → at_directive x.token ≡ leaves
    → read k (added_piece s) (proper x ∷ ts) ≡ mapped (with_module s) (read k (one_module s.implicit) (proper x ∷ ts))
unfolding piece if_next
other_first s x ts k h = rw h (wrapped s forms.Module (with_module s) (module_added s) (read k (one_module s.implicit) (proper x ∷ ts)))

said_first : (s : SoFar) (ts : Tokens) (k : NoContext) (d : Directive) → mapped (with_piece s) (read k (as_item forms.Implicit (said_by d)) ts) ≡ read k (directive s d) ts
unfolding said_by directive
said_first s ts k directives.Nettype = wrapped s forms.Implicit (with_implicit s) (implicit_added s) (read k net_type ts)
said_first s ts k directives.Reset = ap (λ t. Ok (t, ts)) (implicit_added s true)

directive_first : (s : SoFar) (x : VFound) (ts : Tokens) (k : NoContext) (d : Directive) → at_directive x.token ≡ takes d → read k (added_piece s) (proper x ∷ ts) ≡ read k (directive s d) ts
unfolding piece if_next
directive_first s x ts k d h = rw h (said_first s ts k d)

group_first : (s : SoFar) (x : VFound) (ts : Tokens) (k : NoContext) → x.token ≡ token.AttrStart
    → mapped (with_module s) (read k (one_module s.implicit) (proper x ∷ ts)) ≡ read k (piece_rest s at_attributes) ts
unfolding one_module piece_rest
group_first s x ts k is = ap (mapped (with_module s)) (behind_some (module_of s.implicit) x ts k (ap say.at_group is))

module_word : (implicit : Bool) (x : VFound) (w : List ℕ) (ts : Tokens) (k : NoContext) → x.token ≡ token.Keyword w → same_bytes w (codes "module") ≡ true → read k (module_of implicit []) (proper x ∷ ts) ≡ read k (module_rest implicit []) ts
unfolding module_of one
module_word implicit x w ts k is same = rw (is, same) refl

module_first : (s : SoFar) (x : VFound) (w : List ℕ) (ts : Tokens) (k : NoContext) → x.token ≡ token.Keyword w → same_bytes w (codes "module") ≡ true
    → mapped (with_module s) (read k (one_module s.implicit) (proper x ∷ ts)) ≡ read k (piece_rest s at_module) ts
unfolding one_module piece_rest
module_first s x w ts k is same = ap (mapped (with_module s)) (behind_none (module_of s.implicit) x ts k (ap say.at_group is) ∙ module_word s.implicit x w ts k is same)

word_first : (s : SoFar) (x : VFound) (w : List ℕ) (ts : Tokens) (k : NoContext) (c : PieceStart) (b : Bool) → x.token ≡ token.Keyword w → same_bytes w (codes "module") ≡ b → module_start b ≡ takes c → read k (added_piece s) (proper x ∷ ts) ≡ read k (piece_rest s c) ts
word_first s x w ts k c true is same h = let e : at_module ≡ c = cc in other_first s x ts k (ap at_directive is) ∙ module_first s x w ts k is same ∙ rw (← e) refl
word_first s x w ts k c false is same h = absurd cc

line_first : (s : SoFar) (x : VFound) (w : List ℕ) (ts : Tokens) (k : NoContext) (c : PieceStart) (o : Option Directive) → x.token ≡ token.Directive w → directive_of w ≡ o → directive_start o ≡ takes c → read k (added_piece s) (proper x ∷ ts) ≡ read k (piece_rest s c) ts
unfolding piece_rest
line_first s x w ts k c (Some d) is of h = let e : at_word_of d ≡ c = cc in directive_first s x ts k d (ap at_directive is ∙ ap say.glance_of of) ∙ rw (← e) refl
line_first s x w ts k c None is of h = absurd cc

-- a directive or a module is read from its first token on as behind it
pub first_piece : (s : SoFar) (x : VFound) (t : VToken) (ts : Tokens) (k : NoContext) (c : PieceStart) → x.token ≡ t → at_piece t ≡ takes c → read k (added_piece s) (proper x ∷ ts) ≡ read k (piece_rest s c) ts
first_piece s x token.AttrStart ts k c is h = let e : at_attributes ≡ c = cc in other_first s x ts k (ap at_directive is) ∙ group_first s x ts k is ∙ rw (← e) refl
first_piece s x (token.Keyword w) ts k c is h = word_first s x w ts k c (same_bytes w (codes "module")) is refl h
first_piece s x (token.Directive w) ts k c is h = line_first s x w ts k c (directive_of w) is refl h
first_piece s x (token.Name n) ts k c is h = absurd cc
first_piece s x (token.Number n) ts k c is h = absurd cc
first_piece s x (token.Real r) ts k c is h = absurd cc
first_piece s x (token.Based b) ts k c is h = absurd cc
first_piece s x (token.Str t) ts k c is h = absurd cc
first_piece s x (token.Punct b) ts k c is h = absurd cc
first_piece s x token.AttrStop ts k c is h = absurd cc
first_piece s x (token.Symbol b) ts k c is h = absurd cc

-- ---- the loop

word_taken : (b : Bool) → is_taken (module_start b) ≡ true → (c : PieceStart) × (module_start b ≡ takes c)
word_taken true h = (at_module, refl)
word_taken false h = absurd cc

line_taken : (o : Option Directive) → is_taken (directive_start o) ≡ true → (c : PieceStart) × (directive_start o ≡ takes c)
line_taken (Some d) h = (at_word_of d, refl)
line_taken None h = absurd cc

taken : (t : VToken) → is_taken (at_piece t) ≡ true → (c : PieceStart) × (at_piece t ≡ takes c)
taken token.AttrStart h = (at_attributes, refl)
taken (token.Keyword w) h = word_taken (same_bytes w (codes "module")) h
taken (token.Directive w) h = line_taken (directive_of w) h
taken (token.Name n) h = absurd cc
taken (token.Number n) h = absurd cc
taken (token.Real r) h = absurd cc
taken (token.Based b) h = absurd cc
taken (token.Str s) h = absurd cc
taken (token.Punct b) h = absurd cc
taken token.AttrStop h = absurd cc
taken (token.Symbol b) h = absurd cc

word_left : (b : Bool) → is_taken (module_start b) ≡ false → module_start b ≡ leaves
word_left true h = absurd cc
word_left false h = refl

line_left : (o : Option Directive) → is_taken (directive_start o) ≡ false → directive_start o ≡ leaves
line_left (Some d) h = absurd cc
line_left None h = refl

left : (t : VToken) → is_taken (at_piece t) ≡ false → at_piece t ≡ leaves
left token.AttrStart h = absurd cc
left (token.Keyword w) h = word_left (same_bytes w (codes "module")) h
left (token.Directive w) h = line_left (directive_of w) h
left (token.Name n) h = refl
left (token.Number n) h = refl
left (token.Real r) h = refl
left (token.Based b) h = refl
left (token.Str s) h = refl
left (token.Punct b) h = refl
left token.AttrStop h = refl
left (token.Symbol b) h = refl

misses : Misses begins_piece (λ x. at_piece x.token)
unfolding begins_piece
misses x h = left x.token h

one_round : (s : SoFar) (x : VFound) (ts : Tokens) (k : NoContext) → begins_piece x ≡ true
    → read k (pieces s) (proper x ∷ ts) ≡ read k (sequence (piece s.implicit) (λ p. pieces (with_piece s p))) (proper x ∷ ts)
unfolding pieces while_next begins_piece
one_round s x ts k b = let c = taken x.token b in
    read_loop k (λ _ _ t. at_token (λ x. at_piece x.token) t) piece_rest (λ s. gives (record { modules = s.modules })) s (proper x ∷ ts)
    ∙ rw c.1 refl
    ∙ sym (ap (λ r. and_then r (λ y. read k (pieces y.0) y.1)) (first_piece s x x.token ts k c.0 refl c.1))
    ∙ by (read k (piece s.implicit) (proper x ∷ ts))
  where
    by : (r : Answer (Terminal VFound Place) Reason Piece)
        → and_then {A = SoFar × Tokens} {B = VlogFile × Tokens} (mapped (with_piece s) r) (λ y. read k (pieces y.0) y.1)
        ≡ and_then {A = Piece × Tokens} {B = VlogFile × Tokens} r (λ z. read k (pieces (with_piece s z.0)) z.1)
    by (Ok z) = refl
    by (Err e) = refl

first_round : (s : SoFar) (k : NoContext) (ts : Tokens) → FirstFits begins_piece true ts → read k (pieces s) ts ≡ read k (sequence (piece s.implicit) (λ p. pieces (with_piece s p))) ts
first_round s k [] is = absurd is
first_round s k (end p ∷ ts) is = absurd cc
first_round s k (proper x ∷ ts) is = one_round s x ts k (sym is)

module _ (so_far : SoFar) (k : NoContext) where
  -- where a piece begins next, it is read, and then the others behind it
  pub pieces_more : (s : Option (Ahead VFound)) → IsNext begins_piece true s → reading vlog (pieces so_far) k s ≡ reading vlog (sequence (piece so_far.implicit) (λ p. pieces (with_piece so_far p))) k s
  unfolding reading IsNext
  pieces_more None is = refl
  pieces_more (Some s) is = ap (λ r. Some (result_of vlog s.finish r)) (first_round so_far k s.tokens is)

module _ (so_far : SoFar) (k : NoContext) (s : Option (Ahead VFound)) where
  pub pieces_end : IsNext begins_piece false s → reading vlog (pieces so_far) k s ≡ reading vlog (gives (record { modules = so_far.modules })) k s
  unfolding pieces
  pieces_end is = while_next_is_no vlog begins_piece (λ _ _ x. at_piece x.token) piece_rest (λ s. gives (record { modules = s.modules })) so_far k s misses is

  pub pieces_fault : (e : ReadError) → IsCause e (looking s) → IsCause e (reading vlog (pieces so_far) k s)
  unfolding pieces
  pieces_fault e h = cause_while e vlog (λ _ _ x. at_piece x.token) piece_rest (λ s. gives (record { modules = s.modules })) so_far k s h

-- for the loop over the directives and modules of a file
pub ruleset piece_loops = (pieces_more, pieces_end, pieces_fault, map_push, sequences)
