-- What a design without a refusal has: cells with names of their own, whose modules can be written.
use Rattle.std.proofs.Common.{◌≡◌, ℕ, inl, inr, bytes_eq, List, [], ◌∷◌, None, map, refl, subst, Contains}
use Rattle.std.specs.List.{AllByRecursion}
use Rattle.nl_base.specs.declared.rule.Rule.TheVariants.{V2}
use Rattle.net_bits.specs.Names.{NameSet, has_name}
use Rattle.net_hier.specs.Design.{IsCell}
use Rattle.net_hier.specs.Valid.{HaveOwnNames}
use Rattle.net_hier.specs.declared.cells.HCell.{HCell}
use Rattle.net_hier.specs.declared.cells.HInst.{HInst}
use Rattle.net_hier.specs.declared.cells.HProp.{HProp}
use Rattle.to_verilog_props.specs.Written.{HaveNoFlags}
use Rattle.to_verilog.specs.Modules.{IsWritable}
use Rattle.to_verilog_rules.specs.Rules.{first_V}
use Rattle.to_verilog_values.proofs.Broken.{named_cell, own_cells as no_cell_twice}
use Rattle.vlog_design.specs.Names.{clashing}
use Rattle.vlog_design.specs.Rules.{refused}
use Rattle.vlog_partners.proofs.Lists.{own_names}
use Rattle.vlog_written.proofs.Members.{nothing_there, there_cases}

mapped_none : {A B : Type 0} (f : A → B) (xs : List A) → map f xs ≡ [] → xs ≡ []
mapped_none f [] e = refl
mapped_none f (x ∷ xs) e = absurd (let g : f x ∷ map f xs ≡ [] = e in cc)

all_there : {A : Type 0} (P : A → Type 0) (xs : List A) → AllByRecursion P xs → (x : A) → Contains xs x → P x
all_there P [] all x h = absurd (nothing_there x h)
all_there P (y ∷ ys) all x h =
    let rest : Contains ys x → P x = λ m. all_there P ys all.1 x m in
    elim (there_cases y ys x h) as (λ _. P x) [
      | inl e ↦ subst P e all.0
      | inr m ↦ rest m
    ]

module _ (cells : List HCell) (top : ℕ) (props : List HProp) (params : NameSet) (none : first_V cells top props (has_name params) ≡ None) where
  -- cells have names of their own
  pub own_cells : HaveOwnNames (λ (cell : HCell). cell.name) cells
  own_cells = own_names (λ (cell : HCell). cell.name) cells (mapped_none (λ name. refused V2 name []) (clashing bytes_eq [] (map (λ (cell : HCell). cell.name) cells)) (no_cell_twice cells top props params none))

  -- each cell can be written
  pub writable : (number : ℕ) (cell : HCell) → IsCell cells number cell → IsWritable params cell
  writable number cell is =
      let named = named_cell cells top props params none number cell is in
      record { apart = named.apart; no_flags = λ instance h. all_there (λ (i : HInst). HaveNoFlags params i.props) cell.instances named.no_flags instance h }
