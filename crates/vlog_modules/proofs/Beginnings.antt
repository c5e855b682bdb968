-- A piece of a file reads as its beginning and then its ending.
use Rattle.std.proofs.Common.{◌≡◌, ◌∙◌, ap, refl, Bool, List, [], ◌∷◌, Option, Some, None, Ok, Err, arith, codes}
use Rattle.grammar.specs.Part.{Glance, takes, refuses, leaves, sequence}
use Rattle.grammar.specs.Reading.{read, and_then, Found as Answer}
use Rattle.grammar.specs.Whole.{Terminal, proper, end}
use Rattle.nl_base.specs.declared.place.Place.{Place}
use Rattle.nl_base.specs.declared.fault.ReadError.{ReadError}
use Rattle.nl_base.specs.declared.fault.Reason.{Reason}
use Rattle.nl_io.specs.Sources.{Supply}
use Rattle.readers.specs.Parts.{if_next}
use Rattle.readers.specs.Items.{as_item}
use Rattle.readers.specs.Readers.{Reader, Reads, reading, result_of, same}
use Rattle.readers.proofs.Reading.{sequences}
use Rattle.nl_bytes.specs.Tokens.{Ahead}
use Rattle.vlog_tokens.specs.Language.{vlog}
use Rattle.vlog_tokens.specs.declared.token.VFound.{VFound}
use Rattle.vlog_values.specs.declared.expression.Attr.{Attr}
use Rattle.vlog_values.specs.declared.module.ItemV.{ItemV}
use Rattle.vlog_values.specs.declared.module.Module.{Module}
use Rattle.vlog_exprs.specs.Language.{NoContext}
use Rattle.vlog_exprs.specs.Grammar.{attrs, keyword, mark, name}
use Rattle.vlog_modules.specs.Grammar.{at_directive, header, items, module_of, module_rest, params}
use Rattle.vlog_modules.specs.Starts.{one_module, piece, said_by}
use Rattle.vlog_modules.specs.Beginnings.{beginning, ending, heading_of, heading_rest, one_heading, with_items}
use Rattle.vlog_modules.specs.declared.file.Directive.{Directive}
use Rattle.vlog_modules.specs.declared.file.Piece.{Piece}
use Rattle.vlog_modules.specs.declared.file.Piece.TheVariants as forms
use Rattle.vlog_modules.proofs.Items.{Tokens}

-- what is read from tokens: a value and the tokens behind it, or why there is none
abbrev Read : Type 0 → Type 0
Read A = Answer (Terminal VFound Place) Reason A

-- steps behind a first one are steps behind it and the next
behind : {A B C : Type 0} (r : Read A) (whole : A × Tokens → Read C) (first : A × Tokens → Read B) (next : B × Tokens → Read C) → ((z : A × Tokens) → whole z ≡ and_then (first z) next) → and_then r whole ≡ and_then (and_then r first) next
behind (Ok z) whole first next h = h z
behind (Err e) whole first next h = refl

-- the items behind a module up to its items, and the module with them
abbrev items_behind : NoContext → Module × Tokens → Read Module
items_behind k z = and_then {A = List ItemV × Tokens} {B = Module × Tokens} (read k (items []) z.1) (λ list. Ok (with_items z.0 list.0, list.1))

module _ (implicit : Bool) (k : NoContext) where
  rest_in_two : (as_written : List Attr) (ts : Tokens) → read k (module_rest implicit as_written) ts ≡ and_then (read k (heading_rest implicit as_written) ts) (items_behind k)
  unfolding module_rest heading_rest
  rest_in_two as_written ts =
      behind (read k name ts) _ _ (items_behind k) (λ n.
      behind (read k params n.1) _ _ (items_behind k) (λ ps.
      behind (read k header ps.1) _ _ (items_behind k) (λ h.
      behind (read k (mark 59) h.1) _ _ (items_behind k) (λ m. refl))))

  of_in_two : (as_written : List Attr) (ts : Tokens) → read k (module_of implicit as_written) ts ≡ and_then (read k (heading_of implicit as_written) ts) (items_behind k)
  unfolding module_of heading_of
  of_in_two as_written ts = behind (read k (keyword (codes "module")) ts) _ _ (items_behind k) (λ w. rest_in_two as_written w.1)

  module_in_two : (ts : Tokens) → read k (one_module implicit) ts ≡ and_then (read k (one_heading implicit) ts) (items_behind k)
  unfolding one_module one_heading
  module_in_two ts = behind (read k attrs ts) _ _ (items_behind k) (λ as_written. of_in_two as_written.0 as_written.1)

  -- the same as a piece
  wrapped : (r : Read Module) → and_then {A = Module × Tokens} {B = Piece × Tokens} (and_then r (items_behind k)) (λ m. Ok (forms.Module m.0, m.1))
      ≡ and_then {A = Piece × Tokens} {B = Piece × Tokens} (and_then {A = Module × Tokens} {B = Piece × Tokens} r (λ m. Ok (forms.Module m.0, m.1))) (λ p. read k (ending p.0) p.1)
  unfolding ending
  wrapped (Ok z) = by (read k (items []) z.1)
    where
      by : (r : Read (List ItemV)) → and_then {A = Module × Tokens} {B = Piece × Tokens} (and_then {A = List ItemV × Tokens} {B = Module × Tokens} r (λ list. Ok (with_items z.0 list.0, list.1))) (λ m. Ok (forms.Module m.0, m.1))
          ≡ and_then {A = List ItemV × Tokens} {B = Piece × Tokens} r (λ list. Ok (forms.Module (with_items z.0 list.0), list.1))
      by (Ok y) = refl
      by (Err e) = refl
  wrapped (Err e) = refl

  module_first : (ts : Tokens) → read k (as_item forms.Module (one_module implicit)) ts ≡ and_then (read k (as_item forms.Module (one_heading implicit)) ts) (λ p. read k (ending p.0) p.1)
  module_first ts = ap (λ r. and_then {A = Module × Tokens} {B = Piece × Tokens} r (λ m. Ok (forms.Module m.0, m.1))) (module_in_two ts) ∙ wrapped (read k (one_heading implicit) ts)

  said : (r : Read Bool) → and_then {A = Bool × Tokens} {B = Piece × Tokens} r (λ b. Ok (forms.Implicit b.0, b.1))
      ≡ and_then {A = Piece × Tokens} {B = Piece × Tokens} (and_then {A = Bool × Tokens} {B = Piece × Tokens} r (λ b. Ok (forms.Implicit b.0, b.1))) (λ p. read k (ending p.0) p.1)
  unfolding ending
  said (Ok z) = refl
  said (Err e) = refl

  token_in_two : (t : Terminal VFound Place) (ts : Tokens) → read k (piece implicit) (t ∷ ts) ≡ and_then (read k (beginning implicit) (t ∷ ts)) (λ p. read k (ending p.0) p.1)
  unfolding piece beginning if_next
  token_in_two (proper x) ts = by (at_directive x.token) refl
    where
      by : (g : Glance Directive Reason) → at_directive x.token ≡ g → read k (piece implicit) (proper x ∷ ts) ≡ and_then (read k (beginning implicit) (proper x ∷ ts)) (λ p. read k (ending p.0) p.1)
      by (takes d) e = rw e (said (read k (said_by d) ts))
      by (refuses r) e = rw e refl
      by leaves e = rw e (module_first (proper x ∷ ts))
  token_in_two (end p) ts = module_first (end p ∷ ts)

  tokens_in_two : (ts : Tokens) → read k (piece implicit) ts ≡ read k (sequence (beginning implicit) ending) ts
  unfolding piece beginning if_next
  tokens_in_two [] = refl
  tokens_in_two (t ∷ ts) = token_in_two t ts

  -- what is seen of a source reads as a piece as it reads as the beginning of one and then its ending
  pub in_two : (s : Option (Ahead VFound)) → reading vlog (piece implicit) k s ≡ reading vlog (sequence (beginning implicit) ending) k s
  unfolding reading
  in_two None = refl
  in_two (Some s) = ap (λ r. Some (result_of vlog s.finish r)) (tokens_in_two s.tokens)

-- a piece, by its beginning
module _ (implicit : Bool) (a b : Reader NoContext VFound) (i j : Supply) where
  pub beginning_fails : (e : ReadError) → Reads vlog same (beginning implicit) (Err e) a b i j → Reads vlog same (piece implicit) (Err e) a b i j
  beginning_fails e reads = grind (arith, sequences, in_two)

  pub directive_read : (v : Bool) → Reads vlog same (beginning implicit) (Ok (forms.Implicit v)) a b i j → Reads vlog same (piece implicit) (Ok (forms.Implicit v)) a b i j
  unfolding ending
  directive_read v reads = grind (arith, sequences, in_two)

  module _ (heading : Module) (reads : Reads vlog same (beginning implicit) (Ok (forms.Module heading)) a b i j) (c : Reader NoContext VFound) (m : Supply) where
    pub items_fail : (e : ReadError) → Reads vlog same (items []) (Err e) b c j m → Reads vlog same (piece implicit) (Err e) a c i m
    unfolding ending
    items_fail e next = grind (arith, sequences, in_two)

    pub module_read : (list : List ItemV) → Reads vlog same (items []) (Ok list) b c j m → Reads vlog same (piece implicit) (Ok (forms.Module (with_items heading list))) a c i m
    unfolding ending
    module_read list next = grind (arith, sequences, in_two)
