-- The ports that are made of those of a cell break no rule.
use Rattle.std.proofs.Common.{arith, ◌≡◌, ℕ, ◌≤◌, false, ◌||◌, List, [], ◌∷◌, Option, Some, None, map, pos, refl, sym, ap, ◌∙◌, subst}
use Rattle.std.specs.Prelude.{int_lt, option_map, slice_get}
use Rattle.std.proofs.lemmas.Bool.Decides.{nat_tests}
use Rattle.std.proofs.lemmas.Option.{slice_get-map}
use Rattle.nl_base.specs.Ranges.{Bounds, range_bits}
use Rattle.edif_values.specs.declared.port.Port.{Port}
use Rattle.net_hier.specs.Cells.{width_of}
use Rattle.net_hier.specs.Valid.{Each, HaveOwnNames, IsPortWidth}
use Rattle.net_hier.specs.declared.cells.HCell.{HCell}
use Rattle.net_hier.specs.declared.cells.HPort.{HPort}
use Rattle.edif_meanings.specs.Apart.{AreApart}
use Rattle.edif_design.specs.CellRules.{is_bad_size, port_name, size_of}
use Rattle.edif_written.proofs.CellLaws.{ArePorts}
use Rattle.edif_plans.specs.Summaries.{PortSummary, summary_for, summary_of, size_for}
use Rattle.edif_plans.specs.Made.{ArePortsFor}
use Rattle.edif_plans.specs.declared.head.Head.{Head}
use Rattle.edif_partners.proofs.Free.{none_earlier, names_own, own_free, shown_at}

map_twice : {A B C : Type 0} (f : B → C) (g : A → B) (xs : List A) → map f (map g xs) ≡ map (λ x. f (g x)) xs
map_twice f g [] = refl
map_twice f g (x ∷ xs) = ap (λ l. f (g x) ∷ l) (map_twice f g xs)

-- the names of ports of these summaries
summary_names : (made : List Port) (ports : List HPort) → map summary_of made ≡ map summary_for ports → map port_name made ≡ map (λ (port : HPort). port.name) ports
summary_names made ports summaries = sym (map_twice (λ (summary : PortSummary). summary.value.name) summary_of made) ∙ (ap (map (λ (summary : PortSummary). summary.value.name)) summaries ∙ map_twice (λ (summary : PortSummary). summary.value.name) summary_for ports)

good_size : (range : Option Bounds) → 1 ≤ width_of range → width_of range ≤ 65536 → is_bad_size (size_for range) ≡ false
good_size None least most = refl
good_size (Some range) least most =
    let low : int_lt (pos (range_bits range)) (pos 1) ≡ false = grind (arith, nat_tests, least) in
    let high : int_lt (pos 65536) (pos (range_bits range)) ≡ false = grind (arith, nat_tests, most) in
    λ j. low j || high j

port_size : (made : List Port) (ports : List HPort) → map summary_of made ≡ map summary_for ports → Each IsPortWidth ports → (i : ℕ) (x : Port) → slice_get made i ≡ Some x → is_bad_size (size_of x.name) ≡ false
port_size made ports summaries widths i x there =
    let at : slice_get (map summary_for ports) i ≡ Some (summary_of x) = ap (λ l. slice_get l i) (sym summaries) ∙ (slice_get-map summary_of made i ∙ ap (option_map summary_of) there) in
    let port = shown_at summary_for ports i (summary_of x) at in
    let width = widths i port.item port.is_there in
    ap (λ (summary : PortSummary). is_bad_size summary.size) (sym port.shows) ∙ good_size port.item.range width.0 width.1

-- the ports of a cell under identifiers that differ up to case
pub ports_good : (head : Head) (cell : HCell) (made : List Port) → ArePortsFor head cell made → AreApart head.ports → HaveOwnNames (λ (port : HPort). port.name) cell.ports → Each IsPortWidth cell.ports → ArePorts made
ports_good head cell made are apart own widths = record {
  apart = subst AreApart (sym are.idents) apart;
  names = λ before x after e. none_earlier port_name made (map (λ (port : HPort). port.name) cell.ports) (summary_names made cell.ports are.summaries) (own_free [] (map (λ (port : HPort). port.name) cell.ports) (names_own (λ (port : HPort). port.name) cell.ports own)) before x after e;
  sizes = port_size made cell.ports are.summaries widths;
}
