-- The items of a module are read as the extended BNF has them.
use Rattle.std.proofs.Common.{◌≡◌, ◌∙◌, sym, ap, subst, refl, inl, inr, ℕ, Bool, List, [], ◌∷◌, ◌++◌, Option, codes}
use Rattle.grammar.specs.Part.{sequence}
use Rattle.grammar.specs.Texts.{Spells}
use Rattle.grammar.specs.Whole.{proper, end}
use Rattle.nl_base.specs.Ranges.{Bounds}
use Rattle.nl_base.specs.declared.value.Dir.{Dir}
use Rattle.nl_base.specs.declared.value.Dir.TheVariants as dirs
use Rattle.readers.specs.Parts.{if_next}
use Rattle.vlog_tokens.specs.declared.token.VToken.TheVariants as token
use Rattle.vlog_values.specs.declared.expression.Attr.{Attr}
use Rattle.vlog_values.specs.declared.declaration.PortKind.{PortKind}
use Rattle.vlog_values.specs.declared.declaration.NetKind.{NetKind}
use Rattle.vlog_values.specs.declared.declaration.NetKind.TheVariants as net_kinds
use Rattle.vlog_values.specs.declared.declaration.PortDecl.{PortDecl}
use Rattle.vlog_values.specs.declared.declaration.NetDecl.{NetDecl}
use Rattle.vlog_values.specs.declared.declaration.ParamDecl.{ParamDecl}
use Rattle.vlog_values.specs.declared.declaration.ParamSet.{ParamSet}
use Rattle.vlog_values.specs.declared.declaration.ParamType.{ParamType}
use Rattle.vlog_values.specs.declared.statement.Instances.{Instances}
use Rattle.vlog_values.specs.declared.statement.VInst.{VInst}
use Rattle.vlog_values.specs.declared.module.ItemV.{ItemV}
use Rattle.vlog_values.specs.declared.module.ItemV.TheVariants as items
use Rattle.vlog_exprs.specs.Reasons as say
use Rattle.vlog_exprs.specs.Reasons.{meant_by}
use Rattle.vlog_exprs.specs.Grammar as exprs
use Rattle.vlog_exprs.specs.Expressions.{Tokens, IsToken}
use Rattle.vlog_items.specs.declared.item.ItemWord.{ItemWord}
use Rattle.vlog_items.specs.declared.item.ItemWord.TheVariants as words
use Rattle.vlog_items.specs.Grammar as grammar
use Rattle.vlog_items.specs.Grammar.{item_words, word_item, instances_item}
use Rattle.vlog_modules.proofs.Clear.{at_name_is}
use Rattle.vlog_productions.specs.Production.{Production, optional, list, meaning, ◌·◌, Texts, name, mark, IsRow, HasTextsOf}
use Rattle.vlog_productions.specs.Declarations.{range, signed, port_kind, ptype, pset}
use Rattle.vlog_productions.specs.Items.{inst, overrides, assignment, dset, port_item, net_item, param_item, assigns, defparams, instances, item, with_attrs, attributed}
use Rattle.vlog_productions.proofs.Combining.{then_so, gives_of, names, marks, IsTable, meant_so, choices, gives_list}
use Rattle.vlog_productions.proofs.WordTexts.{maybe_ranges, signs, kinds, types, sets, attributes}
use Rattle.vlog_productions.proofs.ConnectionTexts.{all_insts, all_overrides, assignments, dsets}

-- ---- the words of items

items_apart : IsTable item_words
unfolding meant_by
items_apart w v (inl (e, f)) = meant_so item_words (codes "input") w _ v refl e f
items_apart w v (inr (inl (e, f))) = meant_so item_words (codes "output") w _ v refl e f
items_apart w v (inr (inr (inl (e, f)))) = meant_so item_words (codes "inout") w _ v refl e f
items_apart w v (inr (inr (inr (inl (e, f))))) = meant_so item_words (codes "wire") w _ v refl e f
items_apart w v (inr (inr (inr (inr (inl (e, f)))))) = meant_so item_words (codes "tri") w _ v refl e f
items_apart w v (inr (inr (inr (inr (inr (inl (e, f))))))) = meant_so item_words (codes "supply0") w _ v refl e f
items_apart w v (inr (inr (inr (inr (inr (inr (inl (e, f)))))))) = meant_so item_words (codes "supply1") w _ v refl e f
items_apart w v (inr (inr (inr (inr (inr (inr (inr (inl (e, f))))))))) = meant_so item_words (codes "parameter") w _ v refl e f
items_apart w v (inr (inr (inr (inr (inr (inr (inr (inr (inl (e, f)))))))))) = meant_so item_words (codes "assign") w _ v refl e f
items_apart w v (inr (inr (inr (inr (inr (inr (inr (inr (inr (inl (e, f))))))))))) = meant_so item_words (codes "defparam") w _ v refl e f
items_apart w v (inr (inr (inr (inr (inr (inr (inr (inr (inr (inr row)))))))))) = absurd row

-- the words of directions, and of net kinds
abbrev dir_rows : List (List ℕ × Dir)
dir_rows = (codes "input", dirs.Input) ∷ (codes "output", dirs.Output) ∷ (codes "inout", dirs.Inout) ∷ []

abbrev net_rows : List (List ℕ × NetKind)
net_rows =
    (codes "wire", net_kinds.Wire) ∷ (codes "tri", net_kinds.Tri) ∷ (codes "supply0", net_kinds.Supply0) ∷ (codes "supply1", net_kinds.Supply1) ∷ []

dir_row : (w : List ℕ) (d : Dir) → IsRow dir_rows w d → IsRow item_words w (words.Port d)
dir_row w d (inl (e, f)) = inl (e, ap words.Port f)
dir_row w d (inr (inl (e, f))) = inr (inl (e, ap words.Port f))
dir_row w d (inr (inr (inl (e, f)))) = inr (inr (inl (e, ap words.Port f)))
dir_row w d (inr (inr (inr row))) = absurd row

net_row : (w : List ℕ) (k : NetKind) → IsRow net_rows w k → IsRow item_words w (words.Net k)
net_row w k (inl (e, f)) = inr (inr (inr (inl (e, ap words.Net f))))
net_row w k (inr (inl (e, f))) = inr (inr (inr (inr (inl (e, ap words.Net f)))))
net_row w k (inr (inr (inl (e, f)))) = inr (inr (inr (inr (inr (inl (e, ap words.Net f))))))
net_row w k (inr (inr (inr (inl (e, f))))) = inr (inr (inr (inr (inr (inr (inl (e, ap words.Net f)))))))
net_row w k (inr (inr (inr (inr row)))) = absurd row

-- ---- what is read behind the first word

module _ (as_written : List Attr) where
  -- the item with these attributes
  abbrev Item : Production ItemV
  Item = meaning (λ i. with_attrs as_written i) item

  abbrev port_of : Dir → Option PortKind × (Bool × (Option Bounds × (List (List ℕ) × Unit {0}))) → PortDecl
  port_of d x = record { attrs = as_written; dir = d; kind = x.0; signed = x.1.0; range = x.1.1.0; names = x.1.1.1.0 }

  ports : (d : Dir) → HasTextsOf (grammar.port_item as_written d) (meaning (port_of d) (port_kind · signed · optional range · list name · mark 59))
  unfolding grammar.port_item
  ports d =
      then_so (λ k x. port_of d (k, x)) kinds
      (λ k. then_so (λ s x. port_of d (k, (s, x))) signs
      (λ s. then_so (λ r x. port_of d (k, (s, (r, x)))) maybe_ranges
      (λ r. gives_list (λ ns. port_of d (k, (s, (r, (ns, tt))))) names (marks 59))))

  abbrev net_of : NetKind → Bool × (Option Bounds × (List (List ℕ) × Unit {0})) → NetDecl
  net_of k x = record { attrs = as_written; kind = k; signed = x.0; range = x.1.0; names = x.1.1.0 }

  nets : (k : NetKind) → HasTextsOf (grammar.net_item as_written k) (meaning (net_of k) (signed · optional range · list name · mark 59))
  unfolding grammar.net_item
  nets k =
      then_so (λ s x. net_of k (s, x)) signs
      (λ s. then_so (λ r x. net_of k (s, (r, x))) maybe_ranges (λ r. gives_list (λ ns. net_of k (s, (r, (ns, tt)))) names (marks 59)))

  abbrev param_of : ParamType × (List ParamSet × Unit {0}) → ParamDecl
  param_of x = record { attrs = as_written; kind = x.0; sets = x.1.0 }

  parameters : HasTextsOf (grammar.param_item as_written) (meaning param_of (ptype · list pset · mark 59))
  unfolding grammar.param_item
  parameters = then_so (λ t x. param_of (t, x)) types (λ t. gives_list (λ ss. param_of (t, (ss, tt))) sets (marks 59))

  all_assigns : HasTextsOf (grammar.assigns as_written) (meaning (λ x. record { attrs = as_written; sets = x.0 }) (list assignment · mark 59))
  unfolding grammar.assigns
  all_assigns = gives_list (λ ss. record { attrs = as_written; sets = ss }) assignments (marks 59)

  all_defparams : HasTextsOf (grammar.defparams as_written) (meaning (λ x. record { attrs = as_written; sets = x.0 }) (list dset · mark 59))
  unfolding grammar.defparams
  all_defparams = gives_list (λ ss. record { attrs = as_written; sets = ss }) dsets (marks 59)

  abbrev instances_of : List ℕ → List ParamSet × (List VInst × Unit {0}) → Instances
  instances_of m x = record { attrs = as_written; «module» = m; params = x.0; insts = x.1.0 }

  all_instances : (m : List ℕ) → HasTextsOf (grammar.instances as_written m) (meaning (instances_of m) (overrides · list inst · mark 59))
  unfolding grammar.instances
  all_instances m =
      then_so (λ ps x. instances_of m (ps, x)) all_overrides (λ ps. gives_list (λ us. instances_of m (ps, (us, tt))) all_insts (marks 59))

  -- ---- from what is read to the production

  port_text : (d : Dir) (w : List ℕ) (a b : Tokens) (v : ItemV) → IsToken (token.Keyword w) a → IsRow dir_rows w d
      → Spells tt (word_item as_written (words.Port d)) b v → Texts Item (a ++ b) v
  unfolding word_item item port_item
  port_text d w a b v t row s =
      let r = (gives_of (port_of d) (λ p. items.Port p) (ports d)).is_text b v s in
      let u = r.0 in
      let p : PortDecl = record { attrs = []; dir = d; kind = u.0; signed = u.1.0; range = u.1.1.0; names = u.1.1.1.0 } in
      (items.Port p, inl (p, ((d, u), (a, b, refl, (w, t, row), r.1), refl), refl), r.2)

  net_text : (k : NetKind) (w : List ℕ) (a b : Tokens) (v : ItemV) → IsToken (token.Keyword w) a → IsRow net_rows w k
      → Spells tt (word_item as_written (words.Net k)) b v → Texts Item (a ++ b) v
  unfolding word_item item net_item
  net_text k w a b v t row s =
      let r = (gives_of (net_of k) (λ p. items.Net p) (nets k)).is_text b v s in
      let u = r.0 in
      let p : NetDecl = record { attrs = []; kind = k; signed = u.0; range = u.1.0; names = u.1.1.0 } in
      (items.Net p, inr (inl (p, ((k, u), (a, b, refl, (w, t, row), r.1), refl), refl)), r.2)

  param_text : (a b : Tokens) (v : ItemV) → IsToken (token.Keyword (codes "parameter")) a → Spells tt (word_item as_written words.Param) b v
      → Texts Item (a ++ b) v
  unfolding word_item item param_item
  param_text a b v t s =
      let r = (gives_of param_of (λ p. items.Param p) parameters).is_text b v s in
      let u = r.0 in
      let p : ParamDecl = record { attrs = []; kind = u.0; sets = u.1.0 } in
      (items.Param p, inr (inr (inl (p, ((tt, u), (a, b, refl, t, r.1), refl), refl))), r.2)

  assign_text : (a b : Tokens) (v : ItemV) → IsToken (token.Keyword (codes "assign")) a → Spells tt (word_item as_written words.Assign) b v
      → Texts Item (a ++ b) v
  unfolding word_item item assigns
  assign_text a b v t s =
      let r = (gives_of (λ x. record { attrs = as_written; sets = x.0 }) (λ p. items.Assign p) all_assigns).is_text b v s in
      let u = r.0 in (
        items.Assign (record { attrs = []; sets = u.0 }),
        inr
            (inr (inr (inl (record { attrs = []; sets = u.0 }, ((tt, u), (a, b, refl, t, r.1), refl), refl)))),
        r.2,
      )

  defparam_text : (a b : Tokens) (v : ItemV) → IsToken (token.Keyword (codes "defparam")) a → Spells tt (word_item as_written words.Defparam) b v
      → Texts Item (a ++ b) v
  unfolding word_item item defparams
  defparam_text a b v t s =
      let r = (gives_of (λ x. record { attrs = as_written; sets = x.0 }) (λ p. items.Defparam p) all_defparams).is_text b v s in
      let u = r.0 in (
        items.Defparam (record { attrs = []; sets = u.0 }),
        inr
            (inr (inr (inr (inl (record { attrs = []; sets = u.0 }, ((tt, u), (a, b, refl, t, r.1), refl), refl))))),
        r.2,
      )

  instances_text : (m : List ℕ) (a b : Tokens) (v : ItemV) → IsToken (token.Name m) a → Spells tt (instances_item as_written m) b v
      → Texts Item (a ++ b) v
  unfolding instances_item item instances
  instances_text m a b v t s =
      let r = (gives_of (instances_of m) (λ p. items.Instances p) (all_instances m)).is_text b v s in
      let u = r.0 in
      let p : Instances = record { attrs = []; «module» = m; params = u.0; insts = u.1.0 } in
      (items.Instances p, inr (inr (inr (inr (inr (p, ((m, u), (a, b, refl, t, r.1), refl), refl))))), r.2)

  -- an item with this first word
  abbrev behind : ItemWord → Tokens → ItemV → Type 0
  behind word b v = Spells tt (word_item as_written word) b v

  word_text : (w : List ℕ) (word : ItemWord) (a b : Tokens) (v : ItemV) → IsRow item_words w word → IsToken (token.Keyword w) a → behind word b v
      → Texts Item (a ++ b) v
  word_text w word a b v (inl (e, f)) t s = port_text dirs.Input w a b v t (inl (e, refl)) (subst (λ z. behind z b v) f s)
  word_text w word a b v (inr (inl (e, f))) t s = port_text dirs.Output w a b v t (inr (inl (e, refl))) (subst (λ z. behind z b v) f s)
  word_text w word a b v (inr (inr (inl (e, f)))) t s = port_text dirs.Inout w a b v t (inr (inr (inl (e, refl)))) (subst (λ z. behind z b v) f s)
  word_text w word a b v (inr (inr (inr (inl (e, f))))) t s = net_text net_kinds.Wire w a b v t (inl (e, refl)) (subst (λ z. behind z b v) f s)
  word_text w word a b v (inr (inr (inr (inr (inl (e, f)))))) t s =
      net_text net_kinds.Tri w a b v t (inr (inl (e, refl))) (subst (λ z. behind z b v) f s)
  word_text w word a b v (inr (inr (inr (inr (inr (inl (e, f))))))) t s =
      net_text net_kinds.Supply0 w a b v t (inr (inr (inl (e, refl)))) (subst (λ z. behind z b v) f s)
  word_text w word a b v (inr (inr (inr (inr (inr (inr (inl (e, f)))))))) t s =
      net_text net_kinds.Supply1 w a b v t (inr (inr (inr (inl (e, refl))))) (subst (λ z. behind z b v) f s)
  word_text w word a b v (inr (inr (inr (inr (inr (inr (inr (inl (e, f))))))))) t s =
      param_text a b v (subst (λ z. IsToken (token.Keyword z) a) e t) (subst (λ z. behind z b v) f s)
  word_text w word a b v (inr (inr (inr (inr (inr (inr (inr (inr (inl (e, f)))))))))) t s =
      assign_text a b v (subst (λ z. IsToken (token.Keyword z) a) e t) (subst (λ z. behind z b v) f s)
  word_text w word a b v (inr (inr (inr (inr (inr (inr (inr (inr (inr (inl (e, f))))))))))) t s =
      defparam_text a b v (subst (λ z. IsToken (token.Keyword z) a) e t) (subst (λ z. behind z b v) f s)
  word_text w word a b v (inr (inr (inr (inr (inr (inr (inr (inr (inr (inr row)))))))))) t s = absurd row

  item_text : (ts : Tokens) (v : ItemV) → Spells tt (grammar.item as_written) ts v → Texts Item ts v
  unfolding grammar.item if_next
  item_text ts v (inl (proper x, m, r, e, taken, s)) =
      subst (λ z. Texts Item z v) (sym e) (instances_text m (proper x ∷ []) r v (x, refl, at_name_is x.token m taken) s)
  item_text ts v (inl (end p, m, r, e, taken, s)) = absurd cc
  item_text ts v (inr (word, a, b, e, c, s)) =
      let w = (choices item_words items_apart).is_text a word c in
      subst (λ z. Texts Item z v) (sym e) (word_text w.0 word a b v w.2 w.1 s)

  -- ---- the other way round

  text_word : (w : List ℕ) (word : ItemWord) (ts a b : Tokens) (v : ItemV) → ts ≡ a ++ b → IsToken (token.Keyword w) a → IsRow item_words w word
      → behind word b v → Spells tt (grammar.item as_written) ts v
  unfolding grammar.item if_next
  text_word w word ts a b v e t row s = inr (word, a, b, e, (choices item_words items_apart).is_spelled a word (w, t, row), s)

  text_item : (ts : Tokens) (v i : ItemV) → Texts item ts i → v ≡ with_attrs as_written i → Spells tt (grammar.item as_written) ts v
  unfolding item port_item net_item param_item assigns defparams instances word_item instances_item grammar.item if_next
  text_item ts v i (inl (p, (x, (a, b, e, (w, t, row), r), f), g)) is =
      text_word w (words.Port x.0) ts a b v e t (dir_row w x.0 row)
      ((gives_of (port_of x.0) (λ p. items.Port p) (ports x.0)).is_spelled b v (x.1, r, is ∙ ap (with_attrs as_written) (g ∙ ap items.Port f)))
  text_item ts v i (inr (inl (p, (x, (a, b, e, (w, t, row), r), f), g))) is =
      text_word w (words.Net x.0) ts a b v e t (net_row w x.0 row)
      ((gives_of (net_of x.0) (λ p. items.Net p) (nets x.0)).is_spelled b v (x.1, r, is ∙ ap (with_attrs as_written) (g ∙ ap items.Net f)))
  text_item ts v i (inr (inr (inl (p, (x, (a, b, e, t, r), f), g)))) is =
      text_word (codes "parameter") words.Param ts a b v e t (inr (inr (inr (inr (inr (inr (inr (inl (refl, refl)))))))))
      ((gives_of param_of (λ p. items.Param p) parameters).is_spelled b v (x.1, r, is ∙ ap (with_attrs as_written) (g ∙ ap items.Param f)))
  text_item ts v i (inr (inr (inr (inl (p, (x, (a, b, e, t, r), f), g))))) is =
      text_word (codes "assign") words.Assign ts a b v e t (inr (inr (inr (inr (inr (inr (inr (inr (inl (refl, refl))))))))))
      ((gives_of (λ y. record { attrs = as_written; sets = y.0 }) (λ p. items.Assign p) all_assigns).is_spelled b v
      (x.1, r, is ∙ ap (with_attrs as_written) (g ∙ ap items.Assign f)))
  text_item ts v i (inr (inr (inr (inr (inl (p, (x, (a, b, e, t, r), f), g)))))) is =
      text_word (codes "defparam") words.Defparam ts a b v e t (inr (inr (inr (inr (inr (inr (inr (inr (inr (inl (refl, refl)))))))))))
      ((gives_of (λ y. record { attrs = as_written; sets = y.0 }) (λ p. items.Defparam p) all_defparams).is_spelled b v
      (x.1, r, is ∙ ap (with_attrs as_written) (g ∙ ap items.Defparam f)))
  text_item ts v i (inr (inr (inr (inr (inr (p, (x, (a, b, e, (y, n, t), r), f), g)))))) is =
      inl (
        proper y,
        x.0,
        b,
        e ∙ ap (λ z. z ++ b) n,
        ap say.at_name t,
        (gives_of (instances_of x.0) (λ p. items.Instances p) (all_instances x.0)).is_spelled b v
            (x.1, r, is ∙ ap (with_attrs as_written) (g ∙ ap items.Instances f)),
      )

  pub all_items : HasTextsOf (grammar.item as_written) (meaning (λ i. with_attrs as_written i) item)
  all_items = record { is_text = item_text; is_spelled = λ ts v t. text_item ts v t.0 t.1 t.2 }

pub attributed_items : HasTextsOf (sequence exprs.attrs grammar.item) attributed
unfolding attributed
attributed_items = then_so (λ a i. with_attrs a i) attributes (λ a. all_items a)
