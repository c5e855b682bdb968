-- What is written of headers, modules and files spells them.
use Rattle.std.proofs.Common.{◌≡◌, ◌≤◌, ℕ, zero, suc, Bool, true, false, List, [], ◌∷◌, ◌++◌, length, Option, Some, None, Ok, refl, sym, ap, ◌∙◌, subst, arith, append_assoc, append-nil}
use Rattle.std.specs.Prelude.{⊤, codes}
use Rattle.std.specs.List.{AllByRecursion}
use Rattle.grammar.specs.Part.{gives, sequence, Glance, takes}
use Rattle.nl_base.specs.declared.value.Dir.{Dir}
use Rattle.nl_base.specs.declared.value.Dir.TheVariants as dirs
use Rattle.vlog_values.specs.declared.expression.Attr.{Attr}
use Rattle.vlog_values.specs.declared.declaration.PortDecl.{PortDecl}
use Rattle.vlog_values.specs.declared.declaration.ParamDecl.{ParamDecl}
use Rattle.vlog_values.specs.declared.declaration.ParamSet.{ParamSet}
use Rattle.vlog_values.specs.declared.module.ItemV.{ItemV}
use Rattle.vlog_values.specs.declared.module.ItemV.TheVariants as item_of
use Rattle.vlog_values.specs.declared.module.Header.{Header}
use Rattle.vlog_values.specs.declared.module.Header.TheVariants as headers
use Rattle.vlog_values.specs.declared.module.Module.{Module}
use Rattle.vlog_values.specs.declared.module.VlogFile.{VlogFile}
use Rattle.vlog_values.specs.Values.{AreSome, IsName, AreAttrs, IsPortDecl, IsParamSet, IsParamDecl, IsParamGroup, IsItem, IsHeader, IsModule, IsVlogValue}
use Rattle.vlog_tokens.specs.declared.token.VToken.{VToken}
use Rattle.vlog_tokens.specs.declared.token.VToken.TheVariants as t
use Rattle.vlog_exprs.specs.Language.{Vlog}
use Rattle.vlog_exprs.specs.Reasons as say
use Rattle.vlog_exprs.specs.Grammar.{name, mark, keyword, choice, maybe_range, constant, attrs, group, groups, commas, after}
use Rattle.vlog_items.specs.Grammar.{signed, port_kind, param_type, param_set, item_words, word_item, instances_item, item}
use Rattle.vlog_items.specs.declared.item.ItemWord.{ItemWord}
use Rattle.vlog_modules.specs.Grammar.{dir_words, port_rest, port_decl, with_name, with_decl, port_turn, port_decls, name_header, decl_header, some_header, header, param_group, with_set, with_group, more_set, param_turn, param_groups, params_rest, params, ItemStart, at_group, at_module_name, at_word, at_item, word_start, item_rest, items, module_rest, module_of, net_type_of, net_type, with_module, with_implicit, directive, PieceStart, at_word_of, at_attributes, at_module, at_piece, piece_rest, pieces, file}
use Rattle.vlog_writer.specs.Forms as form
use Rattle.vlog_writer.specs.Layout.{Form, Name, Word, Mark, ◌▸◌, Forms, Lines, each, all}
use Rattle.vlog_lexing.specs.Tokens.{tokens, part_tokens, listed_tokens, further_tokens, attributed_tokens, line_tokens}
use Rattle.vlog_rereading.proofs.Expressions.{maybe_range_front, const_front, groups_front, attrs_front}
use Rattle.vlog_rereading.proofs.Fronts.{Front, nothing, then, at_last, as_value, by_token, a_name, a_mark, a_keyword, a_choice, taken, left, after_mark, no_mark, last_round, next_round, commas_front}
use Rattle.vlog_rereading.proofs.Items.{signed_front, port_kind_front, param_type_front, param_set_front, dir_word, dir_tokens, Plain, Named, plain_item, named_item, port_body, net_body, instances_body, assigns_body, defparams_body, port_plain, net_plain, param_plain, assigns_plain, defparams_plain, instances_named}

-- ---- the ports of a header

-- the declaration with these names
abbrev naming : PortDecl → List (List ℕ) → PortDecl
naming d ns = record { attrs = d.attrs; dir = d.dir; kind = d.kind; signed = d.signed; range = d.range; names = ns }

-- further declarations behind some declarations and a last one, which may have further names
abbrev decls_from : List PortDecl → PortDecl → Vlog (List PortDecl)
decls_from before last = port_decls (record { before = before; last = last })

dir_means : (d : Dir) → say.meant_by dir_words (dir_word d) ≡ Some d
unfolding say.meant_by
dir_means dirs.Input = refl
dir_means dirs.Output = refl
dir_means dirs.Inout = refl

-- a declaration up to its first name
decl_front : (d : PortDecl) (n : List ℕ) (ts : List VToken) → IsPortDecl d
    → Front port_decl (naming d (n ∷ [])) (attributed_tokens (each form.attr_form d.attrs) (tokens (form.dir_form d.dir) (part_tokens (form.port_kind_part d.kind) (part_tokens (form.vector_parts d.signed d.range) (t.Name n ∷ ts))))) ts
unfolding port_decl port_rest
decl_front d n ts good =
    let vector = part_tokens (form.vector_parts d.signed d.range) (t.Name n ∷ ts) in
    let kind = part_tokens (form.port_kind_part d.kind) vector in
    subst (λ (z : List VToken). Front port_decl (naming d (n ∷ [])) (attributed_tokens (each form.attr_form d.attrs) z) ts) (sym (dir_tokens d.dir kind))
    (then (attrs_front d.attrs (t.Keyword (dir_word d.dir) ∷ kind) good.attrs) (then (a_choice dir_words (dir_word d.dir) d.dir kind (dir_means d.dir)) (then (port_kind_front d.kind vector)
    (then (signed_front d.signed (part_tokens (form.range_part d.range) (t.Name n ∷ ts))) (then (maybe_range_front d.range (t.Name n ∷ ts) good.range)
    (at_last {g = λ n. naming d (n ∷ [])} (a_name n ts)))))))

module _ {v : List PortDecl} {rest : List VToken} where
  -- further names of the last declaration, and what follows them
  names_then : (before : List PortDecl) (last : PortDecl) (ns : List (List ℕ)) (mid : List VToken) → Front (decls_from before (naming last (last.names ++ ns))) v mid rest
      → Front (decls_from before last) v (further_tokens (each Name ns) mid) rest
  unfolding port_decls port_turn
  names_then before last [] mid x = subst (λ (ns : List (List ℕ)). Front (decls_from before (naming last ns)) v mid rest) (append-nil last.names) x
  names_then before last (n ∷ ns) mid x =
      next_round (say.at_mark 44) (λ ds _. port_turn ds) (λ ds. sequence (mark 41) (λ _. gives (ds.before ++ ds.last ∷ []))) _ (t.Punct 44) tt _ refl
      (taken say.at_name _ _ (t.Name n) n refl (nothing _ (further_tokens (each Name ns) mid)))
      (names_then before (naming last (last.names ++ n ∷ [])) ns mid
      (subst (λ (all : List (List ℕ)). Front (decls_from before (naming last all)) v mid rest) (sym (append_assoc last.names (n ∷ []) ns)) x))

-- a declaration of a header: it has a name
abbrev header_tokens : PortDecl → List (List ℕ) → List VToken → List VToken
header_tokens d ns ts = attributed_tokens (each form.attr_form d.attrs) (tokens (form.dir_form d.dir) (part_tokens (form.port_kind_part d.kind) (part_tokens (form.vector_parts d.signed d.range) (listed_tokens (each Name ns) ts))))

-- further declarations
decls_front : (before : List PortDecl) (last : PortDecl) (others : List PortDecl) (ts : List VToken) → AllByRecursion IsPortDecl others
    → Front (decls_from before last) (before ++ last ∷ others) (further_tokens (each form.port_form others) (t.Punct 41 ∷ ts)) ts
unfolding port_decls port_turn
decls_front before last [] ts good =
    last_round (say.at_mark 44) (λ ds _. port_turn ds) (λ ds. sequence (mark 41) (λ _. gives (ds.before ++ ds.last ∷ []))) _ (at_last {g = λ _. before ++ last ∷ []} (a_mark 41 ts refl))
decls_front before last (d ∷ others) ts good = by_names d.names good.0.names (decls_front (before ++ last ∷ []) d others ts good.1)
  where
    behind : List VToken
    behind = further_tokens (each form.port_form others) (t.Punct 41 ∷ ts)

    whole : List PortDecl
    whole = (before ++ last ∷ []) ++ d ∷ others

    by_names : (ns : List (List ℕ)) → AreSome IsName ns → Front (decls_from (before ++ last ∷ []) (naming d ns)) whole behind ts
        → Front (decls_from before last) (before ++ last ∷ d ∷ others) (t.Punct 44 ∷ header_tokens d ns behind) ts
    by_names [] some x = absurd (omega (arith, some.some))
    by_names (n ∷ ns) some x =
        as_value (append_assoc before (last ∷ []) (d ∷ others))
        (next_round (say.at_mark 44) (λ ds _. port_turn ds) (λ ds. sequence (mark 41) (λ _. gives (ds.before ++ ds.last ∷ []))) _ (t.Punct 44) tt _ refl
        (left say.at_name _ _ (at_last {g = with_decl (record { before = before; last = last })} (decl_front d n (further_tokens (each Name ns) behind) good.0)))
        (names_then (before ++ last ∷ []) (naming d (n ∷ [])) ns behind x))

-- the declarations of a header, on lines, have the tokens of a list
decl_tokens : (ds : List PortDecl) (ts : List VToken) → line_tokens (form.decl_lines ds) ts ≡ listed_tokens (each form.port_form ds) ts
decl_tokens [] ts = refl
decl_tokens (d ∷ []) ts = refl
decl_tokens (d ∷ e ∷ ds) ts = ap (λ (z : List VToken). tokens (form.port_form d) (t.Punct 44 ∷ z)) (decl_tokens (e ∷ ds) ts)

decl_header_front : (ds : List PortDecl) (ts : List VToken) → AreSome IsPortDecl ds → Front decl_header (headers.Decls ds) (listed_tokens (each form.port_form ds) (t.Punct 41 ∷ ts)) ts
unfolding decl_header
decl_header_front [] ts good = absurd (omega (arith, good.some))
decl_header_front (d ∷ others) ts good = by_names d.names good.all.0.names (decls_front [] d others ts good.all.1)
  where
    behind : List VToken
    behind = further_tokens (each form.port_form others) (t.Punct 41 ∷ ts)

    by_names : (ns : List (List ℕ)) → AreSome IsName ns → Front (decls_from [] (naming d ns)) (d ∷ others) behind ts → Front decl_header (headers.Decls (d ∷ others)) (header_tokens d ns behind) ts
    by_names [] some x = absurd (omega (arith, some.some))
    by_names (n ∷ ns) some x =
        then (decl_front d n (further_tokens (each Name ns) behind) good.all.0) (at_last {g = λ ds. headers.Decls ds} (names_then [] (naming d (n ∷ [])) ns behind x))

-- names in a header
name_header_front : (ns : List (List ℕ)) (ts : List VToken) → AllByRecursion IsName ns → Front header (headers.Names ns) (t.Punct 40 ∷ listed_tokens (each Name ns) (t.Punct 41 ∷ ts)) ts
unfolding header some_header name_header
name_header_front [] ts good = after_mark 40 (after 41 (gives (headers.Names [])) some_header) (gives (headers.Names [])) refl (after_mark 41 (gives (headers.Names [])) some_header refl (nothing (headers.Names []) ts))
name_header_front (n ∷ ns) ts good =
    after_mark 40 (after 41 (gives (headers.Names [])) some_header) (gives (headers.Names [])) refl (no_mark 41 (gives (headers.Names [])) some_header
    (taken say.at_name name_header decl_header (t.Name n) n refl
    (at_last {g = λ ns. headers.Names ns} (commas_front name (mark 41) (t.Punct 41) Name IsName (λ ts. a_mark 41 ts refl) (λ n ts good. a_name n ts) (n ∷ []) ns ts good.1))))

decls_header_front : (ds : List PortDecl) (ts : List VToken) → AreSome IsPortDecl ds → Front header (headers.Decls ds) (t.Punct 40 ∷ line_tokens (form.decl_lines ds) (t.Punct 41 ∷ ts)) ts
unfolding header some_header
decls_header_front ds ts good =
    subst (λ (z : List VToken). Front header (headers.Decls ds) (t.Punct 40 ∷ z) ts) (sym (decl_tokens ds (t.Punct 41 ∷ ts)))
    (after_mark 40 (after 41 (gives (headers.Names [])) some_header) (gives (headers.Names [])) refl (no_mark 41 (gives (headers.Names [])) some_header
    (left say.at_name name_header decl_header (decl_header_front ds ts good))))

-- ---- the parameters of a header

-- the group with these parameters
abbrev setting : ParamDecl → List ParamSet → ParamDecl
setting p ss = record { attrs = []; kind = p.kind; sets = ss }

group_front : (p : ParamDecl) (s : ParamSet) (ts : List VToken) → IsParamDecl p → IsParamSet s
    → Front param_group (setting p (s ∷ [])) (t.Keyword (codes "parameter") ∷ part_tokens (form.type_parts p.kind) (tokens (form.set_form s) ts)) ts
unfolding param_group
group_front p s ts good set =
    then (a_keyword (codes "parameter") (part_tokens (form.type_parts p.kind) (tokens (form.set_form s) ts)) refl) (then (param_type_front p.kind (tokens (form.set_form s) ts) good.kind)
    (at_last {g = λ s. setting p (s ∷ [])} (param_set_front s ts set)))

-- further groups behind some groups and a last one, which may have further parameters
abbrev groups_from : List ParamDecl → ParamDecl → Vlog (List ParamDecl)
groups_from before last = param_groups (record { before = before; last = last })

module _ {v : List ParamDecl} {rest : List VToken} where
  -- further parameters of the last group, and what follows them
  sets_then : (before : List ParamDecl) (p : ParamDecl) (done ss : List ParamSet) (mid : List VToken) → AllByRecursion IsParamSet ss → Front (groups_from before (setting p (done ++ ss))) v mid rest
      → Front (groups_from before (setting p done)) v (further_tokens (each form.set_form ss) mid) rest
  unfolding param_groups param_turn more_set
  sets_then before p done [] mid good x = subst (λ (ss : List ParamSet). Front (groups_from before (setting p ss)) v mid rest) (append-nil done) x
  sets_then before p done (s ∷ ss) mid good x =
      let behind = further_tokens (each form.set_form ss) mid in
      let value = tokens (form.const_form s.value) behind in
      next_round (say.at_mark 44) (λ gs _. param_turn gs) (λ gs. sequence (mark 41) (λ _. gives (gs.before ++ gs.last ∷ []))) _ (t.Punct 44) tt _ refl
      (taken say.at_name _ _ (t.Name s.name) s.name refl
      (then (a_mark 61 value refl) (at_last {g = λ v. with_set (record { before = before; last = setting p done }) (record { name = s.name; value = v })} (const_front s.value behind good.0.value))))
      (sets_then before p (done ++ s ∷ []) ss mid good.1
      (subst (λ (all : List ParamSet). Front (groups_from before (setting p all)) v mid rest) (sym (append_assoc done (s ∷ []) ss)) x))

group_tokens : ParamDecl → List ParamSet → List VToken → List VToken
group_tokens p ss ts = t.Keyword (codes "parameter") ∷ part_tokens (form.type_parts p.kind) (listed_tokens (each form.set_form ss) ts)

-- a group has no attributes
same_group : (p : ParamDecl) → IsParamGroup p → setting p p.sets ≡ p
same_group p good = ap (λ (as_written : List Attr). record { attrs = as_written; kind = p.kind; sets = p.sets }) (sym good.plain)

-- further groups
groups_of_front : (before : List ParamDecl) (last : ParamDecl) (others : List ParamDecl) (ts : List VToken) → AllByRecursion IsParamGroup others
    → Front (groups_from before last) (before ++ last ∷ others) (further_tokens (each form.group_form others) (t.Punct 41 ∷ ts)) ts
unfolding param_groups param_turn group_tokens
groups_of_front before last [] ts good =
    last_round (say.at_mark 44) (λ gs _. param_turn gs) (λ gs. sequence (mark 41) (λ _. gives (gs.before ++ gs.last ∷ []))) _ (at_last {g = λ _. before ++ last ∷ []} (a_mark 41 ts refl))
groups_of_front before last (p ∷ others) ts good =
    by_sets p.sets good.0.declaration.sets
    (subst (λ (q : ParamDecl). Front (groups_from (before ++ last ∷ []) q) whole behind ts) (sym (same_group p good.0)) (groups_of_front (before ++ last ∷ []) p others ts good.1))
  where
    behind : List VToken
    behind = further_tokens (each form.group_form others) (t.Punct 41 ∷ ts)

    whole : List ParamDecl
    whole = (before ++ last ∷ []) ++ p ∷ others

    by_sets : (ss : List ParamSet) → AreSome IsParamSet ss → Front (groups_from (before ++ last ∷ []) (setting p ss)) whole behind ts
        → Front (groups_from before last) (before ++ last ∷ p ∷ others) (t.Punct 44 ∷ group_tokens p ss behind) ts
    by_sets [] some x = absurd (omega (arith, some.some))
    by_sets (s ∷ ss) some x =
        as_value (append_assoc before (last ∷ []) (p ∷ others))
        (next_round (say.at_mark 44) (λ gs _. param_turn gs) (λ gs. sequence (mark 41) (λ _. gives (gs.before ++ gs.last ∷ []))) _ (t.Punct 44) tt _ refl
        (left say.at_name _ _ (at_last {g = with_group (record { before = before; last = last })} (group_front p s (further_tokens (each form.set_form ss) behind) good.0.declaration some.all.0)))
        (sets_then (before ++ last ∷ []) p (s ∷ []) ss behind some.all.1 x))

params_front : (ps : List ParamDecl) (ts : List VToken) → AllByRecursion IsParamGroup ps → Front params ps (part_tokens (form.hashed (each form.group_form ps)) ts) ts
unfolding params params_rest group_tokens
params_front [] ts good = no_mark 35 params_rest (gives []) (nothing [] ts)
params_front (p ∷ others) ts good =
    by_sets p.sets good.0.declaration.sets (subst (λ (q : ParamDecl). Front (groups_from [] q) (p ∷ others) behind ts) (sym (same_group p good.0)) (groups_of_front [] p others ts good.1))
  where
    behind : List VToken
    behind = further_tokens (each form.group_form others) (t.Punct 41 ∷ ts)

    by_sets : (ss : List ParamSet) → AreSome IsParamSet ss → Front (groups_from [] (setting p ss)) (p ∷ others) behind ts → Front params (p ∷ others) (t.Punct 35 ∷ t.Punct 40 ∷ group_tokens p ss behind) ts
    by_sets [] some x = absurd (omega (arith, some.some))
    by_sets (s ∷ ss) some x =
        after_mark 35 params_rest (gives []) refl (then (a_mark 40 (group_tokens p (s ∷ ss) behind) refl)
        (then (group_front p s (further_tokens (each form.set_form ss) behind) good.0.declaration some.all.0) (sets_then [] p (s ∷ []) ss behind some.all.1 x)))

-- ---- items

-- an item's first token, with which an item begins, and the rest of the item behind it
record Round (i : ItemV) (whole ts : List VToken) : Type 0 where
  token : VToken
  start : ItemStart
  mid : List VToken
  is : whole ≡ token ∷ mid
  takes_it : at_item token ≡ takes start
  front : Front (item_rest start) i mid ts

plain_round : (as_written : List Attr) (i : ItemV) (body : Form) (ts : List VToken) → AreAttrs as_written → Plain as_written i (tokens body (t.Punct 59 ∷ ts)) ts
    → Round i (tokens (form.with_attributes as_written body) (t.Punct 59 ∷ ts)) ts
unfolding item_rest
plain_round [] i body ts good p = record {
  token = t.Keyword p.word;
  start = at_word p.meant;
  mid = p.mid;
  is = p.is;
  takes_it = ap word_start p.says;
  front = p.front;
}
plain_round (a ∷ as_written) i body ts good p = record {
  token = t.AttrStart;
  start = at_group;
  mid = tokens (form.attr_form a) (further_tokens (each form.attr_form as_written) (t.AttrStop ∷ tokens body (t.Punct 59 ∷ ts)));
  is = refl;
  takes_it = refl;
  front = then (groups_front a as_written (tokens body (t.Punct 59 ∷ ts)) good) (plain_item p);
}

named_round : (as_written : List Attr) (i : ItemV) (body : Form) (ts : List VToken) → AreAttrs as_written → Named as_written i (tokens body (t.Punct 59 ∷ ts)) ts
    → Round i (tokens (form.with_attributes as_written body) (t.Punct 59 ∷ ts)) ts
unfolding item_rest
named_round [] i body ts good p = record {
  token = t.Name p.of_module;
  start = at_module_name p.of_module;
  mid = p.mid;
  is = p.is;
  takes_it = refl;
  front = p.front;
}
named_round (a ∷ as_written) i body ts good p = record {
  token = t.AttrStart;
  start = at_group;
  mid = tokens (form.attr_form a) (further_tokens (each form.attr_form as_written) (t.AttrStop ∷ tokens body (t.Punct 59 ∷ ts)));
  is = refl;
  takes_it = refl;
  front = then (groups_front a as_written (tokens body (t.Punct 59 ∷ ts)) good) (named_item p);
}

item_round : (i : ItemV) (ts : List VToken) → IsItem i → Round i (tokens (form.item_form i) (t.Punct 59 ∷ ts)) ts
item_round (item_of.Port d) ts good = plain_round d.attrs (item_of.Port d) (port_body d) ts good.attrs (port_plain d ts good)
item_round (item_of.Net d) ts good = plain_round d.attrs (item_of.Net d) (net_body d) ts good.attrs (net_plain d ts good)
item_round (item_of.Param d) ts good = plain_round d.attrs (item_of.Param d) (form.group_form d) ts good.attrs (param_plain d ts good)
item_round (item_of.Assign a) ts good = plain_round a.attrs (item_of.Assign a) (assigns_body a) ts good.attrs (assigns_plain a ts good)
item_round (item_of.Instances i) ts good = named_round i.attrs (item_of.Instances i) (instances_body i) ts good.attrs (instances_named i ts good)
item_round (item_of.Defparam d) ts good = plain_round d.attrs (item_of.Defparam d) (defparams_body d) ts good.attrs (defparams_plain d ts good)

items_front : (so_far is : List ItemV) (ts : List VToken) → AllByRecursion IsItem is → Front (items so_far) (so_far ++ is) (line_tokens (all form.item_lines is) (t.Keyword (codes "endmodule") ∷ ts)) ts
unfolding items
items_front so_far [] ts good =
    as_value (sym (append-nil so_far)) (last_round at_item (λ so_far start. sequence (item_rest start) (λ i. gives (so_far ++ i ∷ []))) (λ so_far. sequence (keyword (codes "endmodule")) (λ _. gives so_far)) so_far
    (at_last {g = λ _. so_far} (a_keyword (codes "endmodule") ts refl)))
items_front so_far (i ∷ is) ts good =
    let others = line_tokens (all form.item_lines is) (t.Keyword (codes "endmodule") ∷ ts) in
    let r = item_round i others good.0 in
    subst (λ (z : List VToken). Front (items so_far) (so_far ++ i ∷ is) z ts) (sym r.is) (as_value (append_assoc so_far (i ∷ []) is)
    (next_round at_item (λ so_far start. sequence (item_rest start) (λ i. gives (so_far ++ i ∷ []))) (λ so_far. sequence (keyword (codes "endmodule")) (λ _. gives so_far)) so_far r.token r.start (so_far ++ i ∷ []) r.takes_it
    (at_last {g = λ i. so_far ++ i ∷ []} r.front) (items_front (so_far ++ i ∷ []) is ts good.1)))

-- ---- modules

-- the tokens of a header and its `;`
abbrev header_and_end : Header → List VToken → List VToken
header_and_end (headers.Names ns) ts = t.Punct 40 ∷ listed_tokens (each Name ns) (t.Punct 41 ∷ t.Punct 59 ∷ ts)
header_and_end (headers.Decls ds) ts = t.Punct 40 ∷ line_tokens (form.decl_lines ds) (t.Punct 41 ∷ t.Punct 59 ∷ ts)

header_lines_tokens : (m : Module) (h : Header) (ts : List VToken) → line_tokens (form.header_lines m h) ts ≡ t.Keyword (codes "module") ∷ t.Name m.name ∷ part_tokens (form.hashed (each form.group_form m.params)) (header_and_end h ts)
header_lines_tokens m (headers.Names ns) ts = refl
header_lines_tokens m (headers.Decls ds) ts = refl

header_front : (h : Header) (ts : List VToken) → IsHeader h → Front header h (header_and_end h ts) (t.Punct 59 ∷ ts)
header_front (headers.Names ns) ts good = name_header_front ns (t.Punct 59 ∷ ts) good
header_front (headers.Decls ds) ts good = decls_header_front ds (t.Punct 59 ∷ ts) good

-- a module behind `module`
abbrev rest_tokens : Module → List VToken → List VToken
rest_tokens m ts = t.Name m.name ∷ part_tokens (form.hashed (each form.group_form m.params)) (header_and_end m.header (line_tokens (all form.item_lines m.items) (t.Keyword (codes "endmodule") ∷ ts)))

rest_front : (m : Module) (ts : List VToken) → IsModule m → Front (module_rest m.implicit m.attrs) m (rest_tokens m ts) ts
unfolding module_rest
rest_front m ts good =
    let body = line_tokens (all form.item_lines m.items) (t.Keyword (codes "endmodule") ∷ ts) in
    let ports = header_and_end m.header body in
    then (a_name m.name (part_tokens (form.hashed (each form.group_form m.params)) ports)) (then (params_front m.params ports good.params) (then (header_front m.header body good.header) (then (a_mark 59 body refl)
    (at_last {g = λ is. record { attrs = m.attrs; name = m.name; implicit = m.implicit; params = m.params; header = m.header; items = is }} (items_front [] m.items ts good.items)))))

module_front : (m : Module) (ts : List VToken) → IsModule m → Front (module_of m.implicit m.attrs) m (t.Keyword (codes "module") ∷ rest_tokens m ts) ts
unfolding module_of
module_front m ts good = then (a_keyword (codes "module") (rest_tokens m ts) refl) (rest_front m ts good)

-- ---- files

-- further modules behind some modules, where names may stand without a declaration or not
abbrev pieces_from : List Module → Bool → Vlog VlogFile
pieces_from modules implicit = pieces (record { modules = modules; implicit = implicit })

-- one more module
module_turn : (modules : List Module) (m : Module) (ts rest : List VToken) (v : VlogFile) → IsModule m → Front (pieces_from (modules ++ m ∷ []) m.implicit) v ts rest
    → Front (pieces_from modules m.implicit) v (line_tokens (form.module_lines m) ts) rest
unfolding pieces piece_rest
module_turn modules m ts rest v good x =
    subst (λ (z : List VToken). Front (pieces_from modules m.implicit) v (line_tokens (form.attribute_lines (each form.attr_form m.attrs)) z) rest) (sym (header_lines_tokens m m.header body)) (by_attrs m.attrs refl)
  where
    body : List VToken
    body = line_tokens (all form.item_lines m.items) (t.Keyword (codes "endmodule") ∷ ts)

    by_attrs : (as_written : List Attr) → m.attrs ≡ as_written
        → Front (pieces_from modules m.implicit) v (line_tokens (form.attribute_lines (each form.attr_form as_written)) (t.Keyword (codes "module") ∷ rest_tokens m ts)) rest
    by_attrs [] e =
        next_round at_piece piece_rest (λ s. gives (record { modules = s.modules })) _ (t.Keyword (codes "module")) at_module _ refl
        (at_last {g = with_module (record { modules = modules; implicit = m.implicit })} (subst (λ (z : List Attr). Front (module_rest m.implicit z) m (rest_tokens m ts) ts) e (rest_front m ts good))) x
    by_attrs (a ∷ as_written) e =
        let attributes : AreAttrs (a ∷ as_written) = subst AreAttrs e good.attrs in
        let behind : Front (module_of m.implicit (a ∷ as_written)) m (t.Keyword (codes "module") ∷ rest_tokens m ts) ts =
        subst (λ (z : List Attr). Front (module_of m.implicit z) m (t.Keyword (codes "module") ∷ rest_tokens m ts) ts) e (module_front m ts good) in
        next_round at_piece piece_rest (λ s. gives (record { modules = s.modules })) _ t.AttrStart at_attributes _ refl
        (at_last {g = with_module (record { modules = modules; implicit = m.implicit })} (then (groups_front a as_written (t.Keyword (codes "module") ∷ rest_tokens m ts) attributes) behind)) x

-- the directive that changes whether names may stand without a declaration
wire_turn : (modules : List Module) (before : Bool) (ts rest : List VToken) (v : VlogFile) → Front (pieces_from modules true) v ts rest → Front (pieces_from modules before) v (line_tokens (form.nettype_line true) ts) rest
unfolding pieces piece_rest directive
wire_turn modules before ts rest v x =
    next_round at_piece piece_rest (λ s. gives (record { modules = s.modules })) _ (t.Directive (codes "`default_nettype")) _ _ refl
    (at_last {g = with_implicit (record { modules = modules; implicit = before })} (by_token net_type_of (t.Keyword (codes "wire")) true ts refl)) x

none_turn : (modules : List Module) (before : Bool) (ts rest : List VToken) (v : VlogFile) → Front (pieces_from modules false) v ts rest → Front (pieces_from modules before) v (line_tokens (form.nettype_line false) ts) rest
unfolding pieces piece_rest directive
none_turn modules before ts rest v x =
    next_round at_piece piece_rest (λ s. gives (record { modules = s.modules })) _ (t.Directive (codes "`default_nettype")) _ _ refl
    (at_last {g = with_implicit (record { modules = modules; implicit = before })} (by_token net_type_of (t.Name (codes "none")) false ts refl)) x

-- that directive, where it is needed
nettype_turn : (before implicit : Bool) (modules : List Module) (ts rest : List VToken) (v : VlogFile) → Front (pieces_from modules implicit) v ts rest
    → Front (pieces_from modules before) v (line_tokens (form.nettype_lines before implicit) ts) rest
nettype_turn true true modules ts rest v x = x
nettype_turn true false modules ts rest v x = none_turn modules true ts rest v x
nettype_turn false true modules ts rest v x = wire_turn modules false ts rest v x
nettype_turn false false modules ts rest v x = x

abbrev file_of : List Module → VlogFile
file_of ms = record { modules = ms }

pieces_front : (so_far ms : List Module) (before : Bool) (ts : List VToken) → AllByRecursion IsModule ms
    → Front (pieces_from so_far before) (file_of (so_far ++ ms)) (line_tokens (form.file_lines before ms) ts) ts
unfolding pieces
pieces_front so_far [] before ts good =
    last_round at_piece piece_rest (λ s. gives (record { modules = s.modules })) _
    (as_value (ap file_of (sym (append-nil so_far))) (nothing (file_of so_far) ts))
pieces_front so_far (m ∷ ms) before ts good =
    let others = line_tokens (form.file_lines m.implicit ms) ts in
    nettype_turn before m.implicit so_far (line_tokens (form.module_lines m) others) ts (file_of (so_far ++ m ∷ ms))
    (module_turn so_far m others ts (file_of (so_far ++ m ∷ ms)) good.0
    (as_value (ap file_of (append_assoc so_far (m ∷ []) ms))
    (pieces_front (so_far ++ m ∷ []) ms m.implicit ts good.1)))

pub file_front : (v : VlogFile) (ts : List VToken) → IsVlogValue v → Front file v (line_tokens (form.file_lines true v.modules) ts) ts
unfolding file
file_front v ts good = pieces_front [] v.modules true ts good
