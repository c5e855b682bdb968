-- In each part of a file a token that can be taken where it stands belongs there. The end of the input goes on with no file.
use Rattle.std.proofs.Common.{◌≡◌, ◌∙◌, sym, ap, refl, ℕ, Bool, true, false, List, [], ◌∷◌, ◌++◌, Option, Ok, Err, ◌⊎◌, inl, inr, codes}
use Rattle.std.proofs.lemmas.Slice.Eq.{bytes_eq-Decides}
use Rattle.grammar.specs.Part.{Glance, gives, sequence, takes, leaves}
use Rattle.grammar.specs.Clear.{First, IsClear}
use Rattle.grammar.specs.Whole.{end}
use Rattle.grammar.proofs.Follow.{next_given, next_then, next_ahead, next_loop}
use Rattle.nl_base.specs.declared.fault.Reason.{Reason}
use Rattle.nl_base.specs.declared.fault.Reason.TheVariants as reasons
use Rattle.nl_base.specs.Case.{same_bytes}
use Rattle.nl_base.specs.declared.place.Place.{Place}
use Rattle.nl_base.specs.declared.value.Dir.{Dir}
use Rattle.nl_base.specs.Ranges.{Bounds}
use Rattle.readers.specs.Parts.{at_token, one, if_next, while_next}
use Rattle.vlog_tokens.specs.declared.token.VToken.{VToken}
use Rattle.vlog_tokens.specs.declared.token.VToken.TheVariants as token
use Rattle.vlog_values.specs.declared.expression.Attr.{Attr}
use Rattle.vlog_values.specs.declared.declaration.PortKind.{PortKind}
use Rattle.vlog_values.specs.declared.declaration.PortDecl.{PortDecl}
use Rattle.vlog_values.specs.declared.declaration.ParamDecl.{ParamDecl}
use Rattle.vlog_values.specs.declared.declaration.ParamType.{ParamType}
use Rattle.vlog_values.specs.declared.module.Header.{Header}
use Rattle.vlog_values.specs.declared.module.Header.TheVariants as headers
use Rattle.vlog_values.specs.declared.module.ItemV.{ItemV}
use Rattle.vlog_values.specs.declared.module.Module.{Module}
use Rattle.vlog_values.specs.declared.module.VlogFile.{VlogFile}
use Rattle.vlog_exprs.specs.Language.{NoContext, Vlog}
use Rattle.vlog_exprs.specs.Reasons as say
use Rattle.vlog_exprs.specs.Reasons.{meant_by}
use Rattle.vlog_exprs.specs.Grammar.{name, mark, keyword, choice, after, attrs, group, groups}
use Rattle.vlog_exprs.proofs.TokenKinds.{Next, TokenIs, due_is, taken_is, is_left, taken_left, at_mark_is, group_is}
use Rattle.vlog_exprs.proofs.Clear.{Follows, first_due, clear_after, InList, Ends, clear_commas, ends_mark, NoDigits, clear_constant, clear_groups}
use Rattle.vlog_items.specs.Grammar.{port_kind, param_type, param_set, item_words, item}
use Rattle.vlog_items.proofs.Clear.{NextOf, NameNext, ChoiceNext, choice_left, next_mark, list_no_digits, BeginsWith, begins_next, begins_then, begins_either, begins_name, no_kind, clear_port_kind, behind_sign, begins_sign, clear_sign, clear_param_type, begins_param_set, clear_param_set, clear_word_item, clear_instances_item, ItemNext, begins_item, clear_item}
use Rattle.vlog_modules.specs.declared.header.PortDecls.{PortDecls}
use Rattle.vlog_modules.specs.declared.parameter.ParamGroups.{ParamGroups}
use Rattle.vlog_modules.specs.declared.file.Directive.{Directive}
use Rattle.vlog_modules.specs.declared.file.Directive.TheVariants as directives
use Rattle.vlog_modules.specs.declared.file.SoFar.{SoFar}
use Rattle.vlog_modules.specs.Grammar.{dir_words, port_rest, port_decl, with_decl, port_turn, port_decls, name_header, decl_header, some_header, header, param_group, with_set, more_set, with_group, param_turn, param_groups, params_rest, params, ItemStart, at_group, at_module_name, at_word, at_item, item_rest, items, module_rest, module_of, directive, PieceStart, at_word_of, at_attributes, at_module, at_piece, piece_rest, pieces, file}

-- ---- what comes next

-- attributes are next
abbrev GroupNext : Next → Type 0
GroupNext x = TokenIs token.AttrStart x

first_groups : (x : Next) → First tt attrs x → GroupNext x
unfolding groups while_next
first_groups x (inl n) = taken_is (λ y. say.at_group y.token) token.AttrStart x n.0 (λ y u e. group_is y.token u e) n.1
first_groups x (inr n) = absurd n

-- attributes, and then one of some keywords
abbrev DeclNext : Next → Type 0
DeclNext x = GroupNext x ⊎ ChoiceNext dir_words x

due_choice : {A : Type 0} (words : List (List ℕ × A)) → BeginsWith (ChoiceNext words) (choice words)
unfolding one
due_choice words = record { first = λ x n. n; full = λ v n. n }

begins_choice : {A B : Type 0} (words : List (List ℕ × A)) (q : A → Vlog B) → BeginsWith (ChoiceNext words) (sequence (choice words) q)
begins_choice words q = begins_then (ChoiceNext words) (choice words) q (due_choice words)

-- a keyword is next
pub keyword_is : (due : List ℕ) (t : VToken) (u : Unit {0}) → say.keyword_of due t ≡ Ok u → t ≡ token.Keyword due
keyword_is due (token.Keyword w) u h = by w (same_bytes w due) refl h
  where
    by : (w : List ℕ) (b : Bool) → same_bytes w due ≡ b → say.keyword_of due (token.Keyword w) ≡ Ok u → token.Keyword w ≡ token.Keyword due
    by w true e h = ap token.Keyword ((bytes_eq-Decides w due).0 e)
    by w false e h = let k : say.keyword_of due (token.Keyword w) ≡ Err (reasons.NotInProfile w) = rw e refl in let m = sym k ∙ h in absurd cc
keyword_is due (token.Name n) u h = absurd cc
keyword_is due (token.Punct b) u h = absurd cc
keyword_is due (token.Number n) u h = absurd cc
keyword_is due (token.Real r) u h = absurd cc
keyword_is due (token.Based b) u h = absurd cc
keyword_is due (token.Str s) u h = absurd cc
keyword_is due token.AttrStart u h = absurd cc
keyword_is due token.AttrStop u h = absurd cc
keyword_is due (token.Symbol b) u h = absurd cc
keyword_is due (token.Directive w) u h = absurd cc

next_keyword : {A : Type 0} (due : List ℕ) (q : Unit {0} → Vlog A) (F : Follows A) (x : Next) → NextOf (sequence (keyword due) q) F x → TokenIs (token.Keyword due) x
next_keyword due q F x n = let m = first_due (λ _ y. say.keyword_of due y.token) q F x n in due_is (λ y. say.keyword_of due y.token) (token.Keyword due) x m.0 (λ y u e. keyword_is due y.token u e) m.1

bracket : Ends (λ _ x. say.mark_of 41 x.token) (token.Punct 41)
bracket = ends_mark 41 refl

pub at_name_is : (t : VToken) (n : List ℕ) → say.at_name t ≡ takes n → t ≡ token.Name n
at_name_is (token.Name m) n h = let e : m ≡ n = cc in ap token.Name e
at_name_is (token.Keyword w) n h = absurd cc
at_name_is (token.Punct b) n h = absurd cc
at_name_is (token.Number m) n h = absurd cc
at_name_is (token.Real r) n h = absurd cc
at_name_is (token.Based b) n h = absurd cc
at_name_is (token.Str s) n h = absurd cc
at_name_is token.AttrStart n h = absurd cc
at_name_is token.AttrStop n h = absurd cc
at_name_is (token.Symbol b) n h = absurd cc
at_name_is (token.Directive w) n h = absurd cc

-- what leaves every name leaves one that need not stand
taken_name_left : {C : Type 0} (f : VToken → Glance C Reason) (x : Next) (n : List ℕ) → ((n : List ℕ) → f (token.Name n) ≡ leaves) → at_token (λ y. say.at_name y.token) x ≡ takes n → at_token (λ y. f y.token) x ≡ leaves
taken_name_left f x n l h = taken_left say.at_name f x n (λ t a e. ap f (at_name_is t a e) ∙ l a) h

-- ---- the ports of a header

abbrev decl_of : List Attr → Dir → Option PortKind → Bool → Option Bounds → List ℕ → PortDecl
decl_of as_written dir k s r n = record { attrs = as_written; dir = dir; kind = k; signed = s; range = r; names = n ∷ [] }

abbrev named_to : {B : Type 0} → (List ℕ → B) → Vlog B
named_to g = sequence name (λ n. gives (g n))

begins_named : {B : Type 0} (g : List ℕ → B) → BeginsWith NameNext (named_to g)
begins_named g = begins_then NameNext name (λ n. gives (g n)) begins_name

abbrev tail_of : List Attr → Dir → Option PortKind → Bool → Option Bounds → Vlog PortDecl
tail_of as_written dir k s r = named_to (decl_of as_written dir k s r)

begins_tail : (as_written : List Attr) (dir : Dir) (k : Option PortKind) (s : Bool) (r : Option Bounds) → BeginsWith NameNext (tail_of as_written dir k s r)
begins_tail as_written dir k s r = begins_named (decl_of as_written dir k s r)

-- a declaration behind its attributes
abbrev dir_to : List Attr → Vlog PortDecl
dir_to as_written = sequence (choice dir_words) (λ dir. sequence port_kind (λ k. behind_sign (tail_of as_written dir k) (begins_tail as_written dir k)))

begins_decl : BeginsWith DeclNext port_decl
unfolding port_decl port_rest
begins_decl = begins_either GroupNext (ChoiceNext dir_words) attrs dir_to first_groups (λ a. begins_choice dir_words (λ dir. sequence port_kind (λ k. behind_sign (tail_of a dir k) (begins_tail a dir k))))

no_group : {A : Type 0} (words : List (List ℕ × A)) (x : Next) → ChoiceNext words x → at_token (λ y. say.at_group y.token) x ≡ leaves
no_group words x n = choice_left words say.at_group x (λ w a h. refl) n

clear_port_decl : (F : Follows PortDecl) → IsClear tt port_decl F
unfolding port_decl port_rest one
clear_port_decl F = (
  clear_groups [] (λ a. NextOf (dir_to a) F) (λ a x n. no_group dir_words x (begins_next (ChoiceNext dir_words) (dir_to a) F (begins_choice dir_words (λ dir. sequence port_kind (λ k. behind_sign (tail_of a dir k) (begins_tail a dir k)))) x n)),
  λ a. (
    tt,
    λ dir. (
      clear_port_kind (λ k. NextOf (behind_sign (tail_of a dir k) (begins_tail a dir k)) F)
          (λ k x n. no_kind x (begins_next _ (behind_sign (tail_of a dir k) (begins_tail a dir k)) F (begins_sign (tail_of a dir k) (begins_tail a dir k)) x n)),
      λ k. clear_sign (tail_of a dir k) (begins_tail a dir k) F (λ s r. (tt, λ _. tt)),
    ),
  ),
)

-- no name begins a declaration
decl_no_name : (x : Next) → DeclNext x → at_token (λ y. say.at_name y.token) x ≡ leaves
decl_no_name x (inl t) = is_left say.at_name token.AttrStart x refl t
decl_no_name x (inr n) = choice_left dir_words say.at_name x (λ w a h. refl) n

decl_no_mark : (d : ℕ) (x : Next) → DeclNext x → at_token (λ y. say.at_mark d y.token) x ≡ leaves
decl_no_mark d x (inl t) = is_left (say.at_mark d) token.AttrStart x refl t
decl_no_mark d x (inr n) = choice_left dir_words (say.at_mark d) x (λ w a h. refl) n

clear_port_turn : (ds : PortDecls) (F : Follows PortDecls) → IsClear tt (port_turn ds) F
unfolding port_turn if_next
clear_port_turn ds F = (λ n. tt, (clear_port_decl _, λ d. tt), λ x n. decl_no_name x (begins_next DeclNext (sequence port_decl (λ d. gives (with_decl ds d))) F (begins_then DeclNext port_decl (λ d. gives (with_decl ds d)) begins_decl) x n))

-- where a list in brackets ends, no comma is next
closed_no_comma : {A B : Type 0} (v : A → List B) (s : A) (F : Follows (List B)) (x : Next) → NextOf (sequence (mark 41) (λ _. gives (v s))) F x → at_token (λ y. say.at_mark 44 y.token) x ≡ leaves
closed_no_comma v s F x n = is_left (say.at_mark 44) (token.Punct 41) x refl (next_mark 41 (λ _. gives (v s)) F x n)

clear_closed : {A B : Type 0} (v : A → List B) (s : A) (F : Follows (List B)) → IsClear tt (sequence (mark 41) (λ _. gives (v s))) F
unfolding one
clear_closed v s F = (tt, λ _. tt)

abbrev all_decls : PortDecls → List PortDecl
all_decls ds = ds.before ++ ds.last ∷ []

clear_port_decls : (ds : PortDecls) (F : Follows (List PortDecl)) → IsClear tt (port_decls ds) F
unfolding port_decls while_next
clear_port_decls ds F = (λ ds _. clear_port_turn ds _, λ ds. clear_closed all_decls ds F, λ ds x n. closed_no_comma all_decls ds F x n)

clear_name_header : (n : List ℕ) (F : Follows Header) → IsClear tt (name_header n) F
unfolding name_header one
clear_name_header n F = (clear_commas name (λ _ x. say.mark_of 41 x.token) (token.Punct 41) bracket (n ∷ []) (λ ns. NextOf (gives (headers.Names ns)) F) tt, λ ns. tt)

clear_decl_header : (F : Follows Header) → IsClear tt decl_header F
unfolding decl_header
clear_decl_header F = (clear_port_decl _, λ d. (clear_port_decls _ _, λ ds. tt))

begins_decl_header : BeginsWith DeclNext decl_header
unfolding decl_header
begins_decl_header = begins_then DeclNext port_decl (λ d. sequence (port_decls (record { before = []; last = d })) (λ ds. gives (headers.Decls ds))) begins_decl

clear_some_header : (F : Follows Header) → IsClear tt some_header F
unfolding some_header if_next
clear_some_header F = (λ n. clear_name_header n F, clear_decl_header F, λ x n. decl_no_name x (begins_next DeclNext decl_header F begins_decl_header x n))

-- a header in brackets is not closed by its first token
some_no_mark : (F : Follows Header) (x : Next) → NextOf some_header F x → at_token (λ y. say.at_mark 41 y.token) x ≡ leaves
unfolding some_header if_next
some_no_mark F x n = elim (next_ahead tt (λ k t. at_token (λ y. say.at_name y.token) t) name_header decl_header F x n) [
  | inl m ↦ taken_name_left (say.at_mark 41) x m.0 (λ n. refl) m.1
  | inr m ↦ decl_no_mark 41 x (begins_next DeclNext decl_header F begins_decl_header x m)
]

clear_header : (F : Follows Header) → ((h : Header) (x : Next) → F h x → at_token (λ y. say.at_mark 40 y.token) x ≡ leaves) → IsClear tt header F
unfolding header
clear_header F h =
    clear_after 40 (after 41 (gives (headers.Names [])) some_header) (gives (headers.Names [])) F (clear_after 41 (gives (headers.Names [])) some_header F tt (clear_some_header F) (some_no_mark F)) tt
    (λ x n. h (headers.Names []) x (next_given NoContext Reason tt (headers.Names []) F x n))

-- ---- the parameters of a header

abbrev set_to : ParamType → Vlog ParamDecl
set_to t = sequence param_set (λ s. gives (record { attrs = []; kind = t; sets = s ∷ [] }))

begins_set : (t : ParamType) → BeginsWith NameNext (set_to t)
begins_set t = begins_then NameNext param_set (λ s. gives (record { attrs = []; kind = t; sets = s ∷ [] })) begins_param_set

clear_param_group : (F : Follows ParamDecl) → ((g : ParamDecl) (x : Next) → F g x → NoDigits x) → IsClear tt param_group F
unfolding param_group one
clear_param_group F h = (
  tt,
  λ _. (
    clear_param_type (λ t. NextOf (set_to t) F) (λ t x n. begins_next NameNext (set_to t) F (begins_set t) x n),
    λ t. (clear_param_set (λ s. NextOf (gives (record { attrs = []; kind = t; sets = s ∷ [] })) F) (λ s x n. h (record { attrs = []; kind = t; sets = s ∷ [] }) x (next_given NoContext Reason tt (record { attrs = []; kind = t; sets = s ∷ [] }) F x n)), λ s. tt),
  ),
)

begins_keyword : (due : List ℕ) → BeginsWith (TokenIs (token.Keyword due)) (keyword due)
unfolding one
begins_keyword due = record { first = λ x n. due_is (λ y. say.keyword_of due y.token) (token.Keyword due) x n.0 (λ y u e. keyword_is due y.token u e) n.1; full = λ v n. n }

begins_param_group : BeginsWith (TokenIs (token.Keyword (codes "parameter"))) param_group
unfolding param_group
begins_param_group = begins_then (TokenIs (token.Keyword (codes "parameter"))) (keyword (codes "parameter")) (λ _. sequence param_type set_to) (begins_keyword (codes "parameter"))

next_param_group : {B : Type 0} (q : ParamDecl → Vlog B) (F : Follows B) (x : Next) → NextOf (sequence param_group q) F x → TokenIs (token.Keyword (codes "parameter")) x
next_param_group q F x n = begins_next (TokenIs (token.Keyword (codes "parameter"))) (sequence param_group q) F (begins_then (TokenIs (token.Keyword (codes "parameter"))) param_group q begins_param_group) x n

clear_more_set : (gs : ParamGroups) (n : List ℕ) (F : Follows ParamGroups) → ((gs : ParamGroups) (x : Next) → F gs x → NoDigits x) → IsClear tt (more_set gs n) F
unfolding more_set one
clear_more_set gs n F h = (tt, λ _. (clear_constant (λ v. NextOf (gives (with_set gs (record { name = n; value = v }))) F) (λ v x m. h (with_set gs (record { name = n; value = v })) x (next_given NoContext Reason tt (with_set gs (record { name = n; value = v })) F x m)), λ v. tt))

clear_param_turn : (gs : ParamGroups) (F : Follows ParamGroups) → ((gs : ParamGroups) (x : Next) → F gs x → NoDigits x) → IsClear tt (param_turn gs) F
unfolding param_turn if_next
clear_param_turn gs F h = (
  λ n. clear_more_set gs n F h,
  (clear_param_group (λ g. NextOf (gives (with_group gs g)) F) (λ g x n. h (with_group gs g) x (next_given NoContext Reason tt (with_group gs g) F x n)), λ g. tt),
  λ x n. is_left say.at_name (token.Keyword (codes "parameter")) x refl (next_param_group (λ g. gives (with_group gs g)) F x n),
)

-- behind a group stand a comma or the end of the groups
next_groups : (gs : ParamGroups) (F : Follows (List ParamDecl)) (x : Next) → NextOf (param_groups gs) F x → InList (token.Punct 41) x
unfolding param_groups while_next
next_groups gs F x n = elim (next_loop tt (λ _ _ t. at_token (λ y. say.at_mark 44 y.token) t) (λ gs _. param_turn gs) (λ (gs : ParamGroups). sequence (mark 41) (λ _. gives (gs.before ++ gs.last ∷ []))) gs F x n) [
  | inl c ↦ inl (taken_is (λ y. say.at_mark 44 y.token) (token.Punct 44) x c.0 (λ y c h. at_mark_is 44 y.token c h) c.1)
  | inr m ↦ inr (next_mark 41 (λ _. gives (gs.before ++ gs.last ∷ [])) F x m)
]

abbrev all_groups : ParamGroups → List ParamDecl
all_groups gs = gs.before ++ gs.last ∷ []

clear_param_groups : (gs : ParamGroups) (F : Follows (List ParamDecl)) → IsClear tt (param_groups gs) F
unfolding param_groups while_next
clear_param_groups gs F = (
  λ gs _. clear_param_turn gs (λ t. NextOf (param_groups t) F) (λ t x n. list_no_digits 41 x (next_groups t F x n)),
  λ gs. clear_closed all_groups gs F,
  λ gs x n. closed_no_comma all_groups gs F x n,
)

clear_params_rest : (F : Follows (List ParamDecl)) → IsClear tt params_rest F
unfolding params_rest one
clear_params_rest F = (
  tt,
  λ _. (
    clear_param_group (λ g. NextOf (param_groups (record { before = []; last = g })) F) (λ g x n. list_no_digits 41 x (next_groups (record { before = []; last = g }) F x n)),
    λ g. clear_param_groups (record { before = []; last = g }) F,
  ),
)

clear_params : (F : Follows (List ParamDecl)) → ((x : Next) → F [] x → at_token (λ y. say.at_mark 35 y.token) x ≡ leaves) → IsClear tt params F
unfolding params
clear_params F h = clear_after 35 params_rest (gives []) F (clear_params_rest F) tt (λ x n. h x (next_given NoContext Reason tt [] F x n))

-- ---- modules

item_no_group : (x : Next) → ItemNext x → at_token (λ y. say.at_group y.token) x ≡ leaves
item_no_group x (inl n) = taken_name_left say.at_group x n.0 (λ n. refl) n.1
item_no_group x (inr n) = no_group item_words x n

-- attributes behind their first token, and a part that does not begin with attributes
module _ {B : Type 0} (q : List Attr → Vlog B) (P : Next → Type 0) (b : (a : List Attr) → BeginsWith P (q a)) (leave : (x : Next) → P x → at_token (λ y. say.at_group y.token) x ≡ leaves) (F : Follows B) where
  follows : IsClear tt (groups []) (λ a. NextOf (q a) F)
  follows = clear_groups [] (λ a. NextOf (q a) F) (λ a x n. leave x (begins_next P (q a) F (b a) x n))

  clear_behind : IsClear tt (sequence (group []) groups) (λ a. NextOf (q a) F)
  unfolding groups while_next
  clear_behind = (follows.0 [] tt, λ a. clear_groups a (λ a. NextOf (q a) F) (λ a x n. leave x (begins_next P (q a) F (b a) x n)))

clear_item_rest : (start : ItemStart) (F : Follows ItemV) → IsClear tt (item_rest start) F
unfolding item_rest
clear_item_rest at_group F = (clear_behind item ItemNext begins_item item_no_group F, λ a. clear_item a F)
clear_item_rest (at_module_name m) F = clear_instances_item [] m F
clear_item_rest (at_word word) F = clear_word_item [] word F

end_no_item : (x : Next) → TokenIs (token.Keyword (codes "endmodule")) x → at_token (λ y. at_item y.token) x ≡ leaves
unfolding meant_by
end_no_item x t = is_left at_item (token.Keyword (codes "endmodule")) x refl t

clear_ended : (s : List ItemV) (F : Follows (List ItemV)) → IsClear tt (sequence (keyword (codes "endmodule")) (λ _. gives s)) F
unfolding one
clear_ended s F = (tt, λ _. tt)

clear_items : (so_far : List ItemV) (F : Follows (List ItemV)) → IsClear tt (items so_far) F
unfolding items while_next
clear_items so_far F = (
  λ s start. (clear_item_rest start _, λ i. tt),
  λ s. clear_ended s F,
  λ s x n. end_no_item x (next_keyword (codes "endmodule") (λ _. gives s) F x n),
)

-- a module behind its header, and with it
abbrev body_to : (List ItemV → Module) → Vlog Module
body_to g = sequence (mark 59) (λ _. sequence (items []) (λ is. gives (g is)))

abbrev header_to : (Header → List ItemV → Module) → Vlog Module
header_to g = sequence header (λ h. body_to (g h))

next_header : (g : Header → List ItemV → Module) (F : Follows Module) (x : Next) → NextOf (header_to g) F x → TokenIs (token.Punct 40) x ⊎ TokenIs (token.Punct 59) x
unfolding header after if_next
next_header g F x n = elim (next_then tt header (λ h. body_to (g h)) F x n) [
  | inl (inl m) ↦ inl (taken_is (λ y. say.at_mark 40 y.token) (token.Punct 40) x m.0 (λ y u e. at_mark_is 40 y.token u e) m.1)
  | inl (inr m) ↦ absurd m
  | inr m ↦ inr (next_mark 59 (λ _. sequence (items []) (λ is. gives (g m.0 is))) F x m.2)
]

header_no_params : (x : Next) → TokenIs (token.Punct 40) x ⊎ TokenIs (token.Punct 59) x → at_token (λ y. say.at_mark 35 y.token) x ≡ leaves
header_no_params x (inl t) = is_left (say.at_mark 35) (token.Punct 40) x refl t
header_no_params x (inr t) = is_left (say.at_mark 35) (token.Punct 59) x refl t

abbrev module_to : Bool → List Attr → List ℕ → List ParamDecl → Header → List ItemV → Module
module_to implicit as_written n ps h is = record { attrs = as_written; name = n; implicit = implicit; params = ps; header = h; items = is }

clear_module_rest : (implicit : Bool) (as_written : List Attr) (F : Follows Module) → IsClear tt (module_rest implicit as_written) F
unfolding module_rest one
clear_module_rest implicit as_written F = (
  tt,
  λ n. (
    clear_params (λ ps. NextOf (header_to (module_to implicit as_written n ps)) F) (λ x m. header_no_params x (next_header (module_to implicit as_written n []) F x m)),
    λ ps. (
      clear_header (λ h. NextOf (body_to (module_to implicit as_written n ps h)) F)
          (λ h x m. is_left (say.at_mark 40) (token.Punct 59) x refl (next_mark 59 (λ _. sequence (items []) (λ is. gives (module_to implicit as_written n ps h is))) F x m)),
      λ h. (tt, λ _. (clear_items [] _, λ is. tt)),
    ),
  ),
)

clear_module : (implicit : Bool) (as_written : List Attr) (F : Follows Module) → IsClear tt (module_of implicit as_written) F
unfolding module_of one
clear_module implicit as_written F = (tt, λ _. clear_module_rest implicit as_written F)

begins_module : (implicit : Bool) (as_written : List Attr) → BeginsWith (TokenIs (token.Keyword (codes "module"))) (module_of implicit as_written)
unfolding module_of
begins_module implicit as_written = begins_then (TokenIs (token.Keyword (codes "module"))) (keyword (codes "module")) (λ _. module_rest implicit as_written) (begins_keyword (codes "module"))

module_no_group : (x : Next) → TokenIs (token.Keyword (codes "module")) x → at_token (λ y. say.at_group y.token) x ≡ leaves
module_no_group x t = is_left say.at_group (token.Keyword (codes "module")) x refl t

-- ---- the file

clear_directive : (s : SoFar) (d : Directive) (F : Follows SoFar) → IsClear tt (directive s d) F
unfolding directive one
clear_directive s directives.Nettype F = (tt, λ _. tt)
clear_directive s directives.Reset F = tt

clear_piece_rest : (s : SoFar) (start : PieceStart) (F : Follows SoFar) → IsClear tt (piece_rest s start) F
unfolding piece_rest
clear_piece_rest s (at_word_of d) F = clear_directive s d F
clear_piece_rest s at_attributes F = ((clear_behind (module_of s.implicit) (TokenIs (token.Keyword (codes "module"))) (begins_module s.implicit) module_no_group _, λ a. clear_module s.implicit a _), λ m. tt)
clear_piece_rest s at_module F = (clear_module_rest s.implicit [] _, λ m. tt)

end_no_piece : (x : Next) (at : (p : Place) × (x ≡ end p)) → at_token (λ y. at_piece y.token) x ≡ leaves
end_no_piece x at = rw at.1 refl

clear_pieces : (s : SoFar) (F : Follows VlogFile) → ((v : VlogFile) (x : Next) → F v x → (p : Place) × (x ≡ end p)) → IsClear tt (pieces s) F
unfolding pieces while_next
clear_pieces s F h = (
  λ s start. clear_piece_rest s start _,
  λ s. tt,
  λ s x n. end_no_piece x (h (record { modules = s.modules }) x (next_given NoContext Reason tt (record { modules = s.modules }) F x n)),
)

-- A file is clear where the end of the input follows it.
pub clear_file : IsClear tt file (λ _ t. (p : Place) × (t ≡ end p))
unfolding file
clear_file = clear_pieces _ (λ _ t. (p : Place) × (t ≡ end p)) (λ v x at. at)
