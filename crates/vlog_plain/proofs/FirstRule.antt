-- A file of plain modules that fit together breaks no rule.
use Rattle.std.proofs.Common.{◌≡◌, ℕ, bytes_eq, List, [], ◌∷◌, ◌++◌, None, map, if◌then◌else◌, refl, sym, ap, ◌∙◌, Contains}
use Rattle.std.specs.Prelude.{is_none}
use Rattle.nl_base.specs.declared.rule.Refusal.{Refusal}
use Rattle.nl_base.specs.declared.rule.Rule.{Rule}
use Rattle.nl_base.specs.declared.rule.Rule.TheVariants.{G1, G2, G3, G4, G5, G6, G7, G8, G9, G10, G11, G12, G13, G14, G15, G16, G17}
use Rattle.net_graph.proofs.OrderLaws.{StandsIn, contained}
use Rattle.vlog_design.specs.Names.{Name, clashing}
use Rattle.vlog_design.specs.Rules.{Objects, bad_selects, declared_twice, first_G, first_of, in_modules, modules_twice, no_top, other_ranges, params_twice, ports_twice, recursions, refusals, refused, too_many_connections, too_wide, unequal_widths, unknown_instances, unknown_modules, unknown_names, unknown_ports, unsized, without_direction}
use Rattle.vlog_design.specs.Reach.{module_named, reached}
use Rattle.vlog_values.specs.declared.module.Module.{Module}
use Rattle.vlog_values.specs.declared.module.VlogFile.{VlogFile}
use Rattle.vlog_written.specs.Written.{PlainModule, plain_module}
use Rattle.vlog_written.proofs.Contents.{image_of}
use Rattle.vlog_plain.specs.Plain.{IsPlainFile, plain_file, plain_modules}
use Rattle.vlog_plain.proofs.Connected.{all_sized, connections_few, modules_known, params_once, ports_known, ports_once, widths_equal}
use Rattle.vlog_plain.proofs.Declared.{declared_once, directions_good, instances_known, ranges_good}
use Rattle.vlog_plain.proofs.Lists.{flat_none, none_twice}
use Rattle.vlog_plain.proofs.Named.{names_known, narrow_enough, selects_good}
use Rattle.vlog_plain.proofs.Places.{found, names_are}
use Rattle.vlog_plain.proofs.Reached.{all_reached, no_recursions}

-- the refusals over these modules
abbrev over_modules : VlogFile → Name → List Module → List Refusal
over_modules file top modules =
    no_top file top
    ++ modules_twice file
    ++ in_modules G3 (unknown_modules file.modules) modules
    ++ in_modules G4 declared_twice modules
    ++ in_modules G5 without_direction modules
    ++ in_modules G6 unknown_names modules
    ++ in_modules G7 bad_selects modules
    ++ in_modules G8 (unequal_widths modules) modules
    ++ in_modules G9 (unknown_ports modules) modules
    ++ in_modules G10 ports_twice modules
    ++ in_modules G11 (too_many_connections modules) modules
    ++ in_modules G12 too_wide modules
    ++ in_modules G13 (unsized modules) modules
    ++ in_modules G14 params_twice modules
    ++ in_modules G15 other_ranges modules
    ++ in_modules G16 (recursions modules) modules
    ++ in_modules G17 unknown_instances modules

refusals_are : (file : VlogFile) (top : Name) → refusals file top ≡ over_modules file top (reached file top)
unfolding refusals
refusals_are file top = refl

module _ (ps : List PlainModule) (top : ℕ) (name : Name) (file : IsPlainFile ps top name) where
  abbrev modules : List Module
  modules = plain_modules ps

  -- a rule that no module breaks
  none_in : (rule : Rule) (objects : Module → Objects) → ((p : PlainModule) → StandsIn ps p → objects (plain_module p) ≡ []) → in_modules rule objects modules ≡ []
  none_in rule objects h = flat_none (λ (m : Module). map (refused rule m.name) (objects m)) modules by
    where
      by : (m : Module) → Contains modules m → map (refused rule m.name) (objects m) ≡ []
      by m k =
          let r = image_of plain_module ps m k in
          ap (map (refused rule m.name)) (ap objects (sym r.2) ∙ h r.0 (contained ps r.0 r.1))

  top_known : no_top (plain_file ps) name ≡ []
  top_known = ap (λ o. if is_none o then refused G1 [] (name ∷ []) ∷ [] else []) (ap (module_named modules) (sym file.top_named) ∙ found ps top file.the_top file.distinct file.is_top)

  once : modules_twice (plain_file ps) ≡ []
  once = ap (map (λ (other : Name). refused G2 [] (other ∷ []))) (ap (clashing bytes_eq []) (names_are ps) ∙ none_twice (map (λ (p : PlainModule). p.name) ps) file.distinct)

  none_refused : over_modules (plain_file ps) name modules ≡ []
  none_refused = λ j.
      top_known j
      ++ once j
      ++ none_in G3 (unknown_modules modules) (λ p s. modules_known ps top name file s.place p s.is_there) j
      ++ none_in G4 declared_twice (λ p s. declared_once ps s.place p (file.modules s.place p s.is_there)) j
      ++ none_in G5 without_direction (λ p s. directions_good ps s.place p (file.modules s.place p s.is_there)) j
      ++ none_in G6 unknown_names (λ p s. names_known ps s.place p (file.modules s.place p s.is_there)) j
      ++ none_in G7 bad_selects (λ p s. selects_good ps s.place p (file.modules s.place p s.is_there)) j
      ++ none_in G8 (unequal_widths modules) (λ p s. widths_equal ps top name file s.place p s.is_there) j
      ++ none_in G9 (unknown_ports modules) (λ p s. ports_known ps top name file s.place p s.is_there) j
      ++ none_in G10 ports_twice (λ p s. ports_once ps top name file s.place p s.is_there) j
      ++ none_in G11 (too_many_connections modules) (λ p s. connections_few ps top name file s.place p s.is_there) j
      ++ none_in G12 too_wide (λ p s. narrow_enough ps s.place p (file.modules s.place p s.is_there)) j
      ++ none_in G13 (unsized modules) (λ p s. all_sized ps top name file s.place p s.is_there) j
      ++ none_in G14 params_twice (λ p s. params_once ps top name file s.place p s.is_there) j
      ++ none_in G15 other_ranges (λ p s. ranges_good ps s.place p (file.modules s.place p s.is_there)) j
      ++ none_in G16 (recursions modules) (λ p s. no_recursions ps top name file s.place p s.is_there) j
      ++ none_in G17 unknown_instances (λ p s. instances_known p) j

  -- no rule is broken
  pub no_rule_broken : first_G (plain_file ps) name ≡ None
  unfolding first_G
  no_rule_broken = ap first_of (refusals_are (plain_file ps) name ∙ (ap (over_modules (plain_file ps) name) (all_reached ps top name file) ∙ none_refused))
