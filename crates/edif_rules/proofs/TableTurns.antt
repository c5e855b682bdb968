-- One more entry of a table, and one more port of a cell.
use Rattle.std.proofs.Common.{◌≡◌, ℕ, zero, suc, zero-add, ◌+◌, ◌<◌, Bool, List, [], ◌∷◌, ◌++◌, map, length, take, get_or, Option, refl, sym, ap, ◌∙◌, subst}
use Rattle.std.specs.Borrow.{Bor}
use Rattle.std.proofs.lemmas.List.{map-append, length-map}
use Rattle.std.proofs.Math.ListN.{get_or-map}
use Rattle.nl_base.specs.Case.{same_bytes}
use Rattle.nl_base.specs.declared.rule.Refusal.{Refusal}
use Rattle.std.specs.Prelude.{◌||◌}
use Rattle.edif_lookup.specs.Refusals.{in_order, is_in, lower, lowest}
use Rattle.edif_lookup.specs.Tables.{named, written}
use Rattle.edif_lookup.proofs.ListLaws.{enumerate_more}
use Rattle.edif_lookup.proofs.NameLaws.{names_turn}
use Rattle.edif_lookup.proofs.Orders.{lowest_turn}
use Rattle.edif_values.specs.declared.port.Port.{Port}
use Rattle.edif_design.specs.CellRules.{port_refusals_by, port_ident, port_name, port_refusals, size_of}
use Rattle.edif_design.specs.Parts.{numbered}
use Rattle.edif_rules.specs.Lists.{seen}

take_seen : {A : Type 0} (items : List (Bor A)) (i : ℕ) → seen (take i items) ≡ take i (seen items)
take_seen [] zero = refl
take_seen [] (suc i) = refl
take_seen (x ∷ items) zero = refl
take_seen (x ∷ items) (suc i) = ap (λ rest. x.now ∷ rest) (take_seen items i)

module _ {A : Type 0} (items : List (Bor A)) (i : ℕ) (x : Bor A) (within : i < length items) (at : x ≡ get_or items i x) where
  pub seen_within : i < length (seen items)
  seen_within = subst (λ n. i < n) (sym (length-map items (λ r. r.now))) within

  pub seen_at : get_or (seen items) i x.now ≡ x.now
  seen_at = get_or-map (λ r. r.now) items i x ∙ ap (λ r. r.now) (sym at)

  pub entries_turn : (name : A → List ℕ) (old new : List (ℕ × Bor (List ℕ))) (entry : ℕ × Bor (List ℕ)) → written old ≡ named name (numbered (seen (take i items))) → entry.0 ≡ i → entry.1.now ≡ name x.now → new ≡ old ++ entry ∷ []
      → written new ≡ named name (numbered (seen (take (i + 1) items)))
  entries_turn name old new entry is_old number ident is_new =
      ap written is_new
      ∙ (map-append (λ e. (e.0, e.1.now)) old (entry ∷ [])
      ∙ ((λ j. is_old j ++ (number j, ident j) ∷ [])
      ∙ (sym (map-append (λ d. (d.0, name d.1)) (numbered (seen (take i items))) ((i, x.now) ∷ []))
      ∙ ap (named name) (sym more))))
    where
      more : numbered (seen (take (i + 1) items)) ≡ numbered (seen (take i items)) ++ (i, x.now) ∷ []
      more =
          ap numbered (take_seen items (i + 1))
          ∙ (enumerate_more 0 (seen items) i x.now seen_within
          ∙ (λ j. numbered (sym (take_seen items i) j) ++ (zero-add i j, seen_at j) ∷ []))

module _ (cell : List ℕ) (items : List (Bor Port)) (i : ℕ) (x : Bor Port) (within : i < length items) (at : x ≡ get_or items i x) where
  pub idents_turn : (old new : List (List ℕ)) (noted : List ℕ) → noted ≡ port_ident x.now → ((other : List ℕ) → is_in other old ≡ is_in other (map port_ident (take i (seen items)))) → ((other : List ℕ) → is_in other new ≡ (same_bytes other noted || is_in other old))
      → (other : List ℕ) → is_in other new ≡ is_in other (map port_ident (take (i + 1) (seen items)))
  idents_turn old new noted is = names_turn port_ident (seen items) i x.now (seen_within items i x within at) old new noted (is ∙ ap port_ident (sym (seen_at items i x within at)))

  pub originals_turn : (old new : List (List ℕ)) (noted : List ℕ) → noted ≡ port_name x.now → ((other : List ℕ) → is_in other old ≡ is_in other (map port_name (take i (seen items)))) → ((other : List ℕ) → is_in other new ≡ (same_bytes other noted || is_in other old))
      → (other : List ℕ) → is_in other new ≡ is_in other (map port_name (take (i + 1) (seen items)))
  originals_turn old new noted is = names_turn port_name (seen items) i x.now (seen_within items i x within at) old new noted (is ∙ ap port_name (sym (seen_at items i x within at)))

  pub ports_turn : (idents names : List (List ℕ)) → ((other : List ℕ) → is_in other idents ≡ is_in other (map port_ident (take i (seen items)))) → ((other : List ℕ) → is_in other names ≡ is_in other (map port_name (take i (seen items))))
      → (ident name : List ℕ) → ident ≡ port_ident x.now → name ≡ port_name x.now → (ident_taken name_taken : Bool) → ident_taken ≡ is_in ident idents → name_taken ≡ is_in name names
      → (best next now : Option Refusal) → best ≡ lowest (in_order (port_refusals cell) (take i (seen items))) → next ≡ lowest (port_refusals_by cell ident_taken name_taken (port_ident x.now) (port_name x.now) (size_of x.now.name))
      → now ≡ lower best next → now ≡ lowest (in_order (port_refusals cell) (take (i + 1) (seen items)))
  ports_turn idents names has_idents has_names ident name is_ident is_name ident_taken name_taken ident_known name_known best next now is_best is_next is_now =
      let a : ident_taken ≡ is_in (port_ident x.now) (map port_ident (take i (seen items))) = ident_known ∙ (has_idents ident ∙ ap (λ s. is_in s (map port_ident (take i (seen items)))) is_ident) in
      let b : name_taken ≡ is_in (port_name x.now) (map port_name (take i (seen items))) = name_known ∙ (has_names name ∙ ap (λ s. is_in s (map port_name (take i (seen items)))) is_name) in
      let here : get_or (seen items) i x.now ≡ x.now = seen_at items i x within at in
      lowest_turn (port_refusals cell) (seen items) i x.now (seen_within items i x within at) best next now is_best
      (is_next ∙ ((λ j. lowest (port_refusals_by cell (a j) (b j) (port_ident x.now) (port_name x.now) (size_of x.now.name))) ∙ ap (λ p. lowest (port_refusals cell (take i (seen items)) p)) (sym here))) is_now
