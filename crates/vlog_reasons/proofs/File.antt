-- What headers, modules and a whole file read, from its first token to the end of the input.
use Rattle.std.proofs.Common.{◌≡◌, refl, ℕ, Bool, List, [], ◌∷◌}
use Rattle.std.specs.Prelude.{codes, IfSome}
use Rattle.grammar.specs.Part.{Glance, takes, refuses, leaves}
use Rattle.grammar.specs.Whole.{Terminal, proper, end, end_of, the_end, whole}
use Rattle.readers.specs.Parts.{if_next, while_next}
use Rattle.nl_base.specs.Case.{same_bytes}
use Rattle.nl_base.specs.declared.fault.Reason.{Reason}
use Rattle.nl_base.specs.declared.place.Place.{Place}
use Rattle.nl_base.specs.declared.value.Dir.{Dir}
use Rattle.vlog_tokens.specs.declared.token.VFound.{VFound}
use Rattle.vlog_tokens.specs.declared.token.VToken.{VToken}
use Rattle.vlog_values.specs.declared.expression.Attr.{Attr}
use Rattle.vlog_values.specs.declared.module.ItemV.{ItemV}
use Rattle.vlog_exprs.specs.Language.{Vlog}
use Rattle.vlog_exprs.specs.Reasons as say
use Rattle.vlog_exprs.specs.Reasons.{trailing}
use Rattle.vlog_exprs.specs.Grammar.{name, mark, choice}
use Rattle.vlog_bounds.proofs.Starts.{PortDecls, ParamGroups, SoFar, choose, piece_cases}
use Rattle.vlog_modules.specs.Grammar.{dir_words, port_rest, port_decl, port_turn, port_decls, name_header, decl_header, some_header, header, param_group, more_set, param_turn, param_groups, params_rest, params, ItemStart, at_group, at_module_name, at_word, at_item, item_rest, items, module_rest, module_of, net_type, net_type_of, directive_of, directive, PieceStart, at_piece, piece_rest, pieces, file}
use Rattle.vlog_reasons.specs.Context.{Tokens, Context}
use Rattle.vlog_reasons.specs.Rows.{reason_at}
use Rattle.vlog_reasons.proofs.Tracking.{JudgedAt, Seen, Tracks, tracks_gives, tracks_token, tracks_one, tracks_then, tracks_if, tracks_while}
use Rattle.vlog_reasons.proofs.Standing.{Ahead, Out, ahead_out}
use Rattle.vlog_reasons.proofs.Judges.{at_mark_by, at_name_by, at_item_by, at_piece_by, net_type_by}
use Rattle.vlog_reasons.proofs.Parts.{Stays, tracks_less, stays_keyword, choice_ahead, tracks_if_mark, tracks_commas, then_stays, gives_stays, behind_quiet, out_comma, from_out, stays_range}
use Rattle.vlog_reasons.proofs.Expressions.{constant_out, behind_equals, group_stays, groups_stay, attrs_stay}
use Rattle.vlog_reasons.proofs.Items.{quiet_open, quiet_close, quiet_hash, name_stays, end_stays, open_stays, close_stays, then_ahead, ahead_then, signed_stays, port_kind_stays, param_type_stays, param_set_stays, word_item_out, instances_item_stays, item_stays}

-- ---- headers

port_rest_stays : (attrs : List Attr) (dir : Dir) → Stays (port_rest attrs dir)
unfolding port_rest
port_rest_stays attrs dir =
    then_stays port_kind_stays (λ k. then_stays signed_stays (λ s. then_stays stays_range (λ r. then_stays name_stays (λ n. gives_stays))))

port_decl_stays : Stays port_decl
unfolding port_decl
port_decl_stays =
    then_stays attrs_stay (λ attrs. tracks_then (choice dir_words) (port_rest attrs) Out (λ _. Ahead) (λ _. Out) (choice_ahead dir_words)
    (λ dir. from_out (port_rest attrs dir) (port_rest_stays attrs dir)))

-- a name and what follows it, or else another part
if_name : {A : Type 0} {p : List ℕ → Vlog A} {q : Vlog A} → ((n : List ℕ) → Stays (p n)) → Stays q → Stays (if_next (λ _ x. say.at_name x.token) p q)
if_name {p = p} {q = q} h k =
    tracks_if say.at_name p q Out (λ _. Ahead) Out (λ _. Out) (λ c x b i. at_name_by c b i.0 (Out c (proper x ∷ b)) x.token i) (λ c p b i. (i.0, tt))
    (λ n. from_out (p n) (h n)) k

port_turn_stays : (ds : PortDecls) → Stays (port_turn ds)
unfolding port_turn
port_turn_stays ds = if_name (λ n. gives_stays) (then_stays port_decl_stays (λ d. gives_stays))

-- any number of parts behind commas
while_comma : {A S : Type 0} (q : S → Vlog S) (e : S → Vlog A) → ((s : S) → Stays (q s)) → ((s : S) → Stays (e s)) → (s : S)
    → Stays (while_next (λ _ _ x. say.at_mark 44 x.token) (λ s _. q s) e s)
while_comma q e h k s =
    tracks_while (say.at_mark 44) (λ s _. q s) e Out (λ _. Out) Out (λ _. Out)
    (λ c x b i. at_mark_by Out c b 44 (out_comma c b i.0) (Out c (proper x ∷ b)) x.token i) (λ c p b i. (i.0, tt)) (λ s _. h s) k s

port_decls_stay : (ds : PortDecls) → Stays (port_decls ds)
unfolding port_decls
port_decls_stay ds = while_comma port_turn _ port_turn_stays (λ ds. then_stays close_stays (λ u. gives_stays)) ds

name_header_stays : (n : List ℕ) → Stays (name_header n)
unfolding name_header
name_header_stays n = then_stays (tracks_commas [] name (mark 41) Out Out out_comma name_stays close_stays (n ∷ [])) (λ ns. gives_stays)

decl_header_stays : Stays decl_header
unfolding decl_header
decl_header_stays = then_stays port_decl_stays (λ d. then_stays (port_decls_stay _) (λ ds. gives_stays))

some_header_stays : Stays some_header
unfolding some_header
some_header_stays = if_name name_header_stays decl_header_stays

header_stays : Stays header
unfolding header
header_stays =
    tracks_if_mark [] 40 _ _ Out (λ _. Out) (behind_quiet [] 40 quiet_open)
    (tracks_if_mark [] 41 _ some_header Out (λ _. Out) (behind_quiet [] 41 quiet_close) gives_stays some_header_stays) gives_stays

-- ---- parameters

param_group_stays : Stays param_group
unfolding param_group
param_group_stays =
    then_stays (stays_keyword (codes "parameter")) (λ u. then_stays param_type_stays (λ t. then_stays param_set_stays (λ s. gives_stays)))

more_set_stays : (gs : ParamGroups) (n : List ℕ) → Stays (more_set gs n)
unfolding more_set
more_set_stays gs n = then_ahead behind_equals (ahead_then constant_out (λ v. gives_stays))

param_turn_stays : (gs : ParamGroups) → Stays (param_turn gs)
unfolding param_turn
param_turn_stays gs = if_name (more_set_stays gs) (then_stays param_group_stays (λ g. gives_stays))

param_groups_stay : (gs : ParamGroups) → Stays (param_groups gs)
unfolding param_groups
param_groups_stay gs = while_comma param_turn _ param_turn_stays (λ gs. then_stays close_stays (λ u. gives_stays)) gs

params_rest_stays : Stays params_rest
unfolding params_rest
params_rest_stays = then_stays open_stays (λ u. then_stays param_group_stays (λ g. param_groups_stay _))

params_stay : Stays params
unfolding params
params_stay = tracks_if_mark [] 35 params_rest _ Out (λ _. Out) (behind_quiet [] 35 quiet_hash) params_rest_stays gives_stays

-- ---- modules

item_rest_out : (start : ItemStart) → Tracks (item_rest start) Ahead (λ _. Out)
unfolding item_rest
item_rest_out at_group = from_out _ (then_stays (then_stays (group_stays []) (λ so_far. groups_stay so_far)) (λ attrs. item_stays attrs))
item_rest_out (at_module_name m) = from_out _ (instances_item_stays [] m)
item_rest_out (at_word word) = word_item_out [] word

items_stay : (so_far : List ItemV) → Stays (items so_far)
unfolding items
items_stay so_far =
    tracks_while at_item _ _ Out (λ _. Ahead) Out (λ _. Out) (λ c x b i. at_item_by c b i.0 (Out c (proper x ∷ b)) x.token i) (λ c p b i. (i.0, tt))
    (λ s start. ahead_then (item_rest_out start) (λ i. gives_stays)) (λ s. then_stays (stays_keyword (codes "endmodule")) (λ u. gives_stays)) so_far

module_rest_stays : (implicit : Bool) (attrs : List Attr) → Stays (module_rest implicit attrs)
unfolding module_rest
module_rest_stays implicit attrs =
    then_stays name_stays (λ n. then_stays params_stay (λ ps. then_stays header_stays (λ h. then_stays end_stays (λ u. then_stays (items_stay [])
    (λ is. gives_stays)))))

module_of_stays : (implicit : Bool) (attrs : List Attr) → Stays (module_of implicit attrs)
unfolding module_of
module_of_stays implicit attrs = then_stays (stays_keyword (codes "module")) (λ u. module_rest_stays implicit attrs)

-- ---- the file

net_type_stays : Stays net_type
net_type_stays =
    tracks_less _ Out (λ _. Ahead) (λ _. Out) (λ v c ts i. ahead_out c ts i)
    (tracks_one net_type_of Out (λ _. Ahead) (λ c x b i. net_type_by c b i.0 x.token i.1))

-- a directive, by its word
directive_stays : (s : SoFar) (w : List ℕ) → IfSome (directive_of w) (λ d. Stays (directive s d))
unfolding directive
directive_stays s w =
    choose (λ o. IfSome o (λ d. Stays (directive s d))) (same_bytes w (codes "`default_nettype")) _ _
    (then_stays net_type_stays (λ implicit. gives_stays))
    (choose (λ o. IfSome o (λ d. Stays (directive s d))) (same_bytes w (codes "`resetall")) _ _ gives_stays tt)

piece_stays : (s : SoFar) (u : VToken) (start : PieceStart) → at_piece u ≡ takes start → Stays (piece_rest s start)
unfolding piece_rest
piece_stays s =
    piece_cases (λ start. Stays (piece_rest s start)) (directive_stays s)
    (then_stays (then_stays (then_stays (group_stays []) (λ so_far. groups_stay so_far)) (λ attrs. module_of_stays s.implicit attrs))
    (λ m. gives_stays))
    (then_stays (module_rest_stays s.implicit []) (λ m. gives_stays))

-- with what is known of what is taken
seen_with : {C : Type 0} (K : C → Context → Type 0) (P : C → Type 0) (L : Type 0) (c : Context) (u : VToken) (g : Glance C Reason)
    → ((v : C) → g ≡ takes v → P v) → Seen K L c u g → Seen (λ v d. K v d × P v) L c u g
seen_with K P L c u (takes v) p h = (h, p v refl)
seen_with K P L c u (refuses r) p h = h
seen_with K P L c u leaves p h = h

abbrev Piece : PieceStart → Type 0
Piece start = (s : SoFar) → Stays (piece_rest s start)

file_stays : Stays file
unfolding file pieces
file_stays =
    tracks_while at_piece piece_rest _ Out (λ start c b. Ahead c b × Piece start) Out (λ _. Out)
    (λ c x b i. seen_with (λ _ d. Ahead d b) Piece (Out c (proper x ∷ b)) c x.token (at_piece x.token) (λ start e s. piece_stays s x.token start e)
    (at_piece_by c b i.0 (Out c (proper x ∷ b)) x.token i))
    (λ c p b i. (i.0, tt)) (λ s start. record { says = λ c ts i. (from_out _ (i.1 s)).says c ts i.0 }) (λ s. gives_stays) _

-- ---- the end of the input

judged_end : (c : Context) (x : Terminal VFound Place) (b : Tokens) → Out c (x ∷ b) → JudgedAt c (λ (_ : Unit {0}) _. Unit {0}) x (end_of trailing x)
unfolding reason_at
judged_end c (proper x) b i = i.1
judged_end c (end p) b i = tt

-- every reading of a text as a file gives the reasons of the table
pub tracks_whole : Tracks (whole trailing file) Out (λ _ _ _. Unit {0})
unfolding whole the_end
tracks_whole =
    tracks_then file _ Out (λ _. Out) (λ _ _ _. Unit {0}) file_stays
    (λ v. tracks_then _ _ Out (λ _ _ _. Unit {0}) (λ _ _ _. Unit {0}) (tracks_token (λ _ x. end_of trailing x) Out (λ _ _ _. Unit {0}) judged_end)
    (λ u. tracks_gives v _ _ (λ c ts i. tt)))
