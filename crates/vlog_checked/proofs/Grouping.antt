-- The refusals of a file, one group after the other.
use Rattle.std.proofs.Common.{◌≡◌, List, [], ◌∷◌, ◌++◌, Some, None, append_assoc, refl, sym, ap, ◌∙◌}
use Rattle.nl_base.specs.declared.rule.Refusal.{Refusal}
use Rattle.nl_base.specs.declared.rule.Rule.TheVariants.{G3, G4, G5, G6, G7, G8, G9, G10, G11, G12, G13, G14, G15, G16, G17}
use Rattle.vlog_design.specs.Names.{Name}
use Rattle.vlog_design.specs.Reach.{reached}
use Rattle.vlog_design.specs.Rules.{bad_selects, declared_twice, first_G, first_of, in_modules, modules_twice, no_top, other_ranges, params_twice, ports_twice, recursions, refusals, too_many_connections, too_wide, unequal_widths, unknown_instances, unknown_modules, unknown_names, unknown_ports, unsized, without_direction}
use Rattle.vlog_rules.proofs.RuleLaws.{first_there}
use Rattle.vlog_values.specs.declared.module.Module.{Module}
use Rattle.vlog_values.specs.declared.module.VlogFile.{VlogFile}
use Rattle.vlog_checked.specs.Groups.{connection_refusals, design_refusals, file_refusals, module_refusals, name_refusals, table_refusals, width_refusals}

module _ {A : Type 0} where
  three : (xs a b c : List A) → xs ++ a ++ b ++ c ≡ xs ++ (a ++ b ++ c)
  three xs a b c = ap (λ l. l ++ c) (append_assoc xs a b) ∙ append_assoc xs (a ++ b) c

  four : (xs a b c d : List A) → xs ++ a ++ b ++ c ++ d ≡ xs ++ (a ++ b ++ c ++ d)
  four xs a b c d = ap (λ l. l ++ d) (three xs a b c) ∙ append_assoc xs (a ++ b ++ c) d

  -- lists in a row, by groups
  in_groups : (f a3 a4 a5 a6 a7 a8 a9 a10 a11 a12 a13 a14 a15 a16 a17 : List A)
      → f ++ a3 ++ a4 ++ a5 ++ a6 ++ a7 ++ a8 ++ a9 ++ a10 ++ a11 ++ a12 ++ a13 ++ a14 ++ a15 ++ a16 ++ a17
      ≡ f ++ (a3 ++ a4 ++ a5) ++ ((a6 ++ a7 ++ a8) ++ (a9 ++ a10 ++ a11) ++ (a12 ++ a13 ++ a14 ++ a15) ++ (a16 ++ a17))
  in_groups f a3 a4 a5 a6 a7 a8 a9 a10 a11 a12 a13 a14 a15 a16 a17 =
      ap (λ l. l ++ a6 ++ a7 ++ a8 ++ a9 ++ a10 ++ a11 ++ a12 ++ a13 ++ a14 ++ a15 ++ a16 ++ a17) (three f a3 a4 a5)
      ∙ (ap (λ l. l ++ a9 ++ a10 ++ a11 ++ a12 ++ a13 ++ a14 ++ a15 ++ a16 ++ a17) (three (f ++ (a3 ++ a4 ++ a5)) a6 a7 a8)
      ∙ (ap (λ l. l ++ a12 ++ a13 ++ a14 ++ a15 ++ a16 ++ a17) (three (f ++ (a3 ++ a4 ++ a5) ++ (a6 ++ a7 ++ a8)) a9 a10 a11)
      ∙ (ap (λ l. l ++ a16 ++ a17) (four (f ++ (a3 ++ a4 ++ a5) ++ (a6 ++ a7 ++ a8) ++ (a9 ++ a10 ++ a11)) a12 a13 a14 a15)
      ∙ (append_assoc (f ++ (a3 ++ a4 ++ a5) ++ (a6 ++ a7 ++ a8) ++ (a9 ++ a10 ++ a11) ++ (a12 ++ a13 ++ a14 ++ a15)) a16 a17
      ∙ four (f ++ (a3 ++ a4 ++ a5)) (a6 ++ a7 ++ a8) (a9 ++ a10 ++ a11) (a12 ++ a13 ++ a14 ++ a15) (a16 ++ a17)))))

  -- a list without a first element is empty
  pub none_first : (xs : List A) → None ≡ first_of xs → xs ≡ []
  none_first [] e = refl
  none_first (x ∷ xs) e = absurd (cc)

module _ (file : VlogFile) (top : Name) where
  abbrev those : List Module
  those = reached file top

  grouped : refusals file top ≡ file_refusals file top ++ module_refusals file.modules those ++ table_refusals those
  unfolding refusals file_refusals module_refusals table_refusals name_refusals connection_refusals width_refusals design_refusals
  grouped =
      in_groups (no_top file top ++ modules_twice file) (in_modules G3 (unknown_modules file.modules) those) (in_modules G4 declared_twice those) (in_modules G5 without_direction those)
      (in_modules G6 unknown_names those) (in_modules G7 bad_selects those) (in_modules G8 (unequal_widths those) those)
      (in_modules G9 (unknown_ports those) those) (in_modules G10 ports_twice those) (in_modules G11 (too_many_connections those) those)
      (in_modules G12 too_wide those) (in_modules G13 (unsized those) those) (in_modules G14 params_twice those) (in_modules G15 other_ranges those)
      (in_modules G16 (recursions those) those) (in_modules G17 unknown_instances those)

  -- the first refusal of a group, where the groups before it are empty, is that of the file
  pub refused_in_file : (refusal : Refusal) → Some refusal ≡ first_of (file_refusals file top) → first_G file top ≡ Some refusal
  unfolding first_G
  refused_in_file refusal is =
      ap first_of grouped
      ∙ sym (first_there (file_refusals file top ++ module_refusals file.modules those) (table_refusals those) refusal
      (first_there (file_refusals file top) (module_refusals file.modules those) refusal is))

  pub refused_in_modules : file_refusals file top ≡ [] → (refusal : Refusal) → Some refusal ≡ first_of (module_refusals file.modules those) → first_G file top ≡ Some refusal
  unfolding first_G
  refused_in_modules named refusal is =
      ap first_of (grouped ∙ ap (λ l. l ++ module_refusals file.modules those ++ table_refusals those) named)
      ∙ sym (first_there (module_refusals file.modules those) (table_refusals those) refusal is)

  -- what is left where the groups before it are empty
  left_over : file_refusals file top ≡ [] → module_refusals file.modules those ≡ [] → refusals file top ≡ table_refusals those
  left_over named declared = grouped ∙ (λ j. named j ++ declared j ++ table_refusals those)

  pub refused_in_tables : file_refusals file top ≡ [] → module_refusals file.modules those ≡ [] → (refusal : Refusal) → Some refusal ≡ first_of (table_refusals those) → first_G file top ≡ Some refusal
  unfolding first_G
  refused_in_tables named declared refusal is = ap first_of (left_over named declared) ∙ sym is

  pub none_refused : file_refusals file top ≡ [] → module_refusals file.modules those ≡ [] → None ≡ first_of (table_refusals those) → refusals file top ≡ []
  none_refused named declared is = left_over named declared ∙ none_first (table_refusals those) is
