-- The first port or net of too many bits.
use Rattle.std.proofs.Common.{◌≡◌, ℕ, zero, suc, ◌+◌, ◌<◌, Bool, true, false, cond, nat_lt, if◌then◌else◌, List, [], ◌∷◌, Option, Some, None, drop, find, length, map, option_map, slice_get, refl, sym, ap, ◌∙◌, add-one, arith}
use Rattle.net_hier.specs.Cells.{width_of}
use Rattle.nl_base.specs.declared.rule.Rule.TheVariants.{G12}
use Rattle.vlog_design.specs.Names.{Name, Signal, signals}
use Rattle.vlog_design.specs.Rules.{first_of, refused, too_wide}
use Rattle.vlog_rules.specs.Wide.{wide_name}
use Rattle.vlog_rules.proofs.RuleLaws.{first_filter, first_map}
use Rattle.vlog_values.specs.declared.module.Module.{Module}

abbrev is_wide : Signal → Bool
is_wide signal = nat_lt 65536 (width_of signal.slot.range)

pub wide_at : (table : List Signal) (i : ℕ) (name : Name) → Some name ≡ wide_name (slice_get table i) → option_map (λ (signal : Signal). signal.name) (find is_wide (drop i table)) ≡ Some name
wide_at [] i name e = absurd cc
wide_at (s ∷ ss) zero name e = by (is_wide s) e
  where
    by : (b : Bool) → Some name ≡ (if b then Some s.name else None) → option_map (λ (signal : Signal). signal.name) (cond b (Some s) (find is_wide ss)) ≡ Some name
    by true h = sym h
    by false h = absurd cc
wide_at (s ∷ ss) (suc i) name e = wide_at ss i name e

narrow : (table : List Signal) (i : ℕ) → i < length table → None ≡ wide_name (slice_get table i) → find is_wide (drop i table) ≡ find is_wide (drop (suc i) table)
narrow [] i h e = absurd (omega (arith, h))
narrow (s ∷ ss) zero h e = by (is_wide s) e
  where
    by : (b : Bool) → None ≡ (if b then Some s.name else None) → cond b (Some s) (find is_wide ss) ≡ find is_wide ss
    by true g = absurd cc
    by false g = refl
narrow (s ∷ ss) (suc i) h e = narrow ss i (omega (arith, h)) e

pub narrow_at : (table : List Signal) (i : ℕ) → i < length table → None ≡ wide_name (slice_get table i) → find is_wide (drop i table) ≡ find is_wide (drop (i + 1) table)
narrow_at table i h e = narrow table i h e ∙ ap (λ k. find is_wide (drop k table)) (sym (add-one i))

wide_named : (cell : Name) (o : Option Signal) → option_map (refused G12 cell) (option_map (λ (s : Signal). s.name ∷ []) o) ≡ option_map (λ name. refused G12 cell (name ∷ [])) (option_map (λ (s : Signal). s.name) o)
wide_named cell None = refl
wide_named cell (Some s) = refl

pub wide_first : (m : Module) (table : List Signal) (found : Option Name) → table ≡ signals m → found ≡ option_map (λ (s : Signal). s.name) (find is_wide table) →
    first_of (map (refused G12 m.name) (too_wide m)) ≡ option_map (λ name. refused G12 m.name (name ∷ [])) found
unfolding too_wide
wide_first m table found e f = rw (f, e, first_map, first_map, first_filter) (wide_named m.name _)
