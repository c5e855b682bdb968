-- Where each name that stands whole as a target is a port or declared net, no net is implicit.
use Rattle.std.proofs.Common.{◌≡◌, Bool, true, false, not, ◌&&◌, List, [], ◌∷◌, bytes_eq, flat_map, refl, sym, ap, ◌∙◌, inl, inr}
use Rattle.std.specs.List.{list_any}
use Rattle.std.proofs.lemmas.Bool.{and_parts, false≢true, or_cases, or_parts}
use Rattle.std.proofs.lemmas.Slice.Eq.{bytes_eq-Decides}
use Rattle.vlog_design.specs.Names.{Name, Signal, Use, first_places, has_name, implicit_names, is_declared, is_implicit, is_whole, item_targets, module_uses, target_uses, uses}
use Rattle.vlog_values.specs.declared.module.ItemV.{ItemV}
use Rattle.vlog_values.specs.declared.module.Module.{Module}
use Rattle.vlog_scopes.specs.Signals.{declared_signals}
use Rattle.vlog_scopes.specs.Distinct.{signal_names}
use Rattle.vlog_scopes.specs.Implicit.{is_unknown, used_names}
use Rattle.vlog_scopes.proofs.ImplicitLaws.{none_kept}
use Rattle.vlog_scopes.proofs.SignalLaws.{declared_known}

-- a whole name that is not unknown is one of the table's
whole_known : (whole known : Bool) → (whole && not known) ≡ false → whole ≡ true → known ≡ true
whole_known true true h e = refl
whole_known true false h e = absurd (false≢true (sym h))
whole_known false known h e = absurd (false≢true e)

module _ (table : List Signal) (name : Name) where
  target_known : (us : List Use) → list_any (is_unknown table) us ≡ false → list_any (λ u. bytes_eq name u.name && is_whole u.select) us ≡ true → has_name (signal_names table) name ≡ true
  target_known [] h e = absurd (false≢true e)
  target_known (u ∷ us) h e =
      let parts = or_parts (is_unknown table u) (list_any (is_unknown table) us) h in
      elim (or_cases (bytes_eq name u.name && is_whole u.select) (list_any (λ v. bytes_eq name v.name && is_whole v.select) us) e) [
        | inl here ↦ (let own = and_parts (bytes_eq name u.name) (is_whole u.select) here in
            ap (has_name (signal_names table)) ((bytes_eq-Decides name u.name).0 own.0)
            ∙ whole_known (is_whole u.select) (has_name (signal_names table) u.name) parts.0 own.1)
        | inr later ↦ target_known us parts.1 later
      ]

no_net : (allowed declared target : Bool) → (target ≡ true → declared ≡ true) → (allowed && not declared && target) ≡ false
no_net false declared target h = refl
no_net true true target h = refl
no_net true false false h = refl
no_net true false true h = absurd (false≢true (h refl))

among_targets : (m : Module) (table : List Signal) (us : List Use) → table ≡ declared_signals m → us ≡ target_uses m → list_any (is_unknown table) us ≡ false → implicit_names m ≡ []
unfolding implicit_names is_implicit first_places
among_targets m table us is are h =
    let known : list_any (is_unknown (declared_signals m)) (target_uses m) ≡ false = (λ j. list_any (is_unknown (sym is j)) (sym are j)) ∙ h in
    ap first_places (none_kept (is_implicit m) (used_names (module_uses m))
    (λ name. no_net m.implicit (is_declared m name) (list_any (λ u. bytes_eq name u.name && is_whole u.select) (target_uses m))
    (λ target. declared_known m name (target_known (declared_signals m) name (target_uses m) known target))))

-- the module has no implicit net
pub none_unknown : (m : Module) (table : List Signal) (items : List ItemV) → table ≡ declared_signals m → items ≡ m.items → list_any (is_unknown table) (flat_map uses (flat_map item_targets items)) ≡ false → implicit_names m ≡ []
unfolding target_uses
none_unknown m table items is are h = among_targets m table (flat_map uses (flat_map item_targets items)) is (ap (λ those. flat_map uses (flat_map item_targets those)) are) h
