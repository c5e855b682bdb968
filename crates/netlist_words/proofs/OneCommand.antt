-- Words ask for the command that is found by taking them apart, and for no other.
use Rattle.std.proofs.Common.{◌≡◌, ℕ, ◌<◌, ◌≤◌, ◌^◌, List, [], ◌∷◌, ◌++◌, append-nil, Bool, true, false, ◌&&◌, if◌then◌else◌, Option, Some, None, IfSome, option_and_then, option_map, refl, sym, ap, subst, ◌∙◌, Result, Ok, Err, arith}
use Rattle.std.specs.Prelude.{IsSome, MatchResult, codes, nat_le}
use Rattle.std.specs.Fmt.{decimal}
use Rattle.nl_base.specs.Case.{same_bytes}
use Rattle.nl_base.specs.declared.memory.NoMemory.{NoMemory}
use Rattle.net_hier.specs.Constants.{ConstantNames, usual_names}
use Rattle.net_hier.specs.declared.constants.ConstName.{ConstName}
use Rattle.netlist_words.specs.Commands.{IsAsked, IsChosen, IsCommand, IsName, NamesDesign, NamesTop, option_words}
use Rattle.netlist_words.specs.Parsing.{Wanted, are_options, behind_option, check_of, command, constants_behind, constants_of, flatten_of, generate_for, generate_of, if_none_left, lint_of, option_value, report_of, spelled_number, to_edif_for, to_edif_of, to_spice_of, to_verilog_of, values_of, wanted_of}
use Rattle.netlist_words.specs.declared.command.Command.{Command}
use Rattle.netlist_words.specs.declared.command.Command.TheVariants as commands
use Rattle.netlist_words.proofs.Taken.{same_text, not_empty, option_taken, option_named, none_left, options_taken, repeated_are, repeated_values, taken, passes_option, passes_words}
use Rattle.netlist_words.proofs.Dots.{cell_port_named}
use Rattle.netlist_words.proofs.Choices.{Chooses, chooses, chosen}
use Rattle.netlist_words.proofs.Decimals.{number_is, number_spelled}

-- the words behind `[--top NAME]`
abbrev behind_top : List (List ℕ) → List (List ℕ)
behind_top words = behind_option (codes "--top") words

-- ---- what is found is asked for

top_is : (word : List ℕ) (words : List (List ℕ)) → behind_top words ≡ [] → NamesTop word (word ∷ words) (option_value (codes "--top") words)
top_is word words e = record {
  are = ap (λ rest. word ∷ rest) (option_taken (codes "--top") words ∙ rw e (append-nil (option_words (codes "--top") (option_value (codes "--top") words))));
  named = option_named (codes "--top") words;
}

-- what the words of constants are
record IsChoice (words : List (List ℕ)) (names : ConstantNames) : Type 0 where
  zero : Option (List ℕ)
  one : Option (List ℕ)
  are : words ≡ option_words (codes "--zero") zero ++ option_words (codes "--one") one
  chooses : Chooses zero one names

constants_are_chosen : (words : List (List ℕ)) (names : ConstantNames) → constants_behind words ≡ Some names → IsChoice words names
constants_are_chosen words names e =
    let behind_zero = behind_option (codes "--zero") words in
    let zero = option_value (codes "--zero") words in
    let one = option_value (codes "--one") (behind_option (codes "--zero") words) in
    let left = none_left (behind_option (codes "--one") (behind_option (codes "--zero") words)) (constants_of zero one) names e in
    record {
      zero = zero;
      one = one;
      are = option_taken (codes "--zero") words ∙ ap (λ rest. option_words (codes "--zero") zero ++ rest) (option_taken (codes "--one") behind_zero ∙ rw left.0 (append-nil (option_words (codes "--one") one)));
      chooses = chooses zero one names left.1;
    }

wanted_is : (word : List ℕ) (words : List (List ℕ)) (wanted : Wanted) → wanted_of words ≡ Some wanted → NamesDesign word (word ∷ words) wanted.top wanted.names
wanted_is word words wanted e = go (constants_behind (behind_top words)) refl e
  where
    go : (found : Option ConstantNames) → constants_behind (behind_top words) ≡ found → option_map (λ names. record { top = option_value (codes "--top") words; names = names }) found ≡ Some wanted
        → NamesDesign word (word ∷ words) wanted.top wanted.names
    go None f e = absurd cc
    go (Some names) f e =
        let same : record { top = option_value (codes "--top") words; names = names } ≡ wanted = cc in
        let choice = constants_are_chosen (behind_top words) names f in
        subst (λ (w : Wanted). NamesDesign word (word ∷ words) w.top w.names) same (record {
          zero = choice.zero;
          one = choice.one;
          are = ap (λ rest. word ∷ rest) (option_taken (codes "--top") words ∙ ap (λ rest. option_words (codes "--top") (option_value (codes "--top") words) ++ rest) choice.are);
          named = option_named (codes "--top") words;
          is_zero = choice.chooses.is_zero;
          is_one = choice.chooses.is_one;
          are_names = choice.chooses.are_names;
        })

-- a command that was found is the one that is meant
same_command : (a c : Command) → Some a ≡ Some c → a ≡ c
same_command a c e = cc

check_is : (words : List (List ℕ)) (c : Command) → check_of words ≡ Some c → IsCommand (codes "check" ∷ words) c
check_is words c e =
    let left = none_left (behind_top words) (Some (commands.Check (option_value (codes "--top") words))) c e in
    subst (λ (d : Command). IsCommand (codes "check" ∷ words) d) (same_command _ _ left.1) (top_is (codes "check") words left.0)

report_is : (words : List (List ℕ)) (c : Command) → report_of words ≡ Some c → IsCommand (codes "report" ∷ words) c
report_is words c e = go (wanted_of words) refl e
  where
    go : (found : Option Wanted) → wanted_of words ≡ found → option_map (λ wanted. commands.Report wanted.top wanted.names) found ≡ Some c → IsCommand (codes "report" ∷ words) c
    go None f e = absurd cc
    go (Some wanted) f e =
        let same : commands.Report wanted.top wanted.names ≡ c = cc in
        subst (λ (d : Command). IsCommand (codes "report" ∷ words) d) same (wanted_is (codes "report") words wanted f)

lint_is : (words : List (List ℕ)) (c : Command) → lint_of words ≡ Some c → IsCommand (codes "lint" ∷ words) c
lint_is words c e = go (wanted_of words) refl e
  where
    go : (found : Option Wanted) → wanted_of words ≡ found → option_map (λ wanted. commands.Lint wanted.top wanted.names) found ≡ Some c → IsCommand (codes "lint" ∷ words) c
    go None f e = absurd cc
    go (Some wanted) f e =
        let same : commands.Lint wanted.top wanted.names ≡ c = cc in
        subst (λ (d : Command). IsCommand (codes "lint" ∷ words) d) same (wanted_is (codes "lint") words wanted f)

flatten_is : (words : List (List ℕ)) (c : Command) → flatten_of words ≡ Some c → IsCommand (codes "flatten" ∷ words) c
flatten_is words c e = go (wanted_of words) refl e
  where
    go : (found : Option Wanted) → wanted_of words ≡ found → option_map (λ wanted. commands.Flatten wanted.top wanted.names) found ≡ Some c → IsCommand (codes "flatten" ∷ words) c
    go None f e = absurd cc
    go (Some wanted) f e =
        let same : commands.Flatten wanted.top wanted.names ≡ c = cc in
        subst (λ (d : Command). IsCommand (codes "flatten" ∷ words) d) same (wanted_is (codes "flatten") words wanted f)

to_verilog_is : (words : List (List ℕ)) (c : Command) → to_verilog_of words ≡ Some c → IsCommand (codes "to-verilog" ∷ words) c
to_verilog_is words c e = go (are_options (codes "--parameter") words) refl e
  where
    go : (t : Bool) → are_options (codes "--parameter") words ≡ t → (if t then Some (commands.ToVerilog (values_of words)) else None) ≡ Some c → IsCommand (codes "to-verilog" ∷ words) c
    go true t e =
        let same : commands.ToVerilog (values_of words) ≡ c = cc in
        let those = options_taken (codes "--parameter") words t in
        subst (λ (d : Command). IsCommand (codes "to-verilog" ∷ words) d) same (record { are = ap (λ rest. codes "to-verilog" ∷ rest) those.0; named = those.1 })
    go false t e = absurd cc

to_edif_is : (words : List (List ℕ)) (c : Command) → to_edif_of words ≡ Some c → IsCommand (codes "to-edif" ∷ words) c
to_edif_is words c e = go (wanted_of words) refl e
  where
    top_there : (top : Option (List ℕ)) (names : ConstantNames) → wanted_of words ≡ Some (record { top = top; names = names }) → option_map (λ name. commands.ToEdif name names) top ≡ Some c → IsCommand (codes "to-edif" ∷ words) c
    top_there None names f e = absurd cc
    top_there (Some top) names f e =
        let same : commands.ToEdif top names ≡ c = cc in
        subst (λ (d : Command). IsCommand (codes "to-edif" ∷ words) d) same (wanted_is (codes "to-edif") words (record { top = Some top; names = names }) f)

    go : (found : Option Wanted) → wanted_of words ≡ found → option_and_then to_edif_for found ≡ Some c → IsCommand (codes "to-edif" ∷ words) c
    go None f e = absurd cc
    go (Some wanted) f e = top_there wanted.top wanted.names f e

to_spice_is : (words : List (List ℕ)) (c : Command) → to_spice_of words ≡ Some c → IsCommand (codes "to-spice" ∷ words) c
to_spice_is words c e =
    let left = none_left (behind_top words) (Some (commands.ToSpice (option_value (codes "--top") words))) c e in
    subst (λ (d : Command). IsCommand (codes "to-spice" ∷ words) d) (same_command _ _ left.1) (top_is (codes "to-spice") words left.0)

cells_between : (cells : ℕ) → (nat_le 2 cells && nat_le cells 100000) ≡ true → (2 ≤ cells) × (cells ≤ 100000)
cells_between cells e = (grind (arith, e), grind (arith, e))

generate_is : (words : List (List ℕ)) (c : Command) → generate_of words ≡ Some c → IsCommand (codes "generate" ∷ words) c
generate_is [] c e = absurd cc
generate_is (seed ∷ []) c e = absurd cc
generate_is (seed ∷ cells ∷ []) c e = seeds (spelled_number seed) refl e
  where
    those : (s n : ℕ) → spelled_number seed ≡ Some s → spelled_number cells ≡ Some n → (t : Bool) → (nat_le 2 n && nat_le n 100000) ≡ t → (if t then Some (commands.Generate s n) else None) ≡ Some c
        → IsCommand (codes "generate" ∷ seed ∷ cells ∷ []) c
    those s n es en true t e =
        let same : commands.Generate s n ≡ c = cc in
        let is_seed = number_is seed s es in
        let is_cells = number_is cells n en in
        let between = cells_between n t in
        subst (λ (d : Command). IsCommand (codes "generate" ∷ seed ∷ cells ∷ []) d) same (record {
          are = ap (λ (w : List ℕ). codes "generate" ∷ w ∷ cells ∷ []) is_seed.1 ∙ ap (λ (w : List ℕ). codes "generate" ∷ decimal s ∷ w ∷ []) is_cells.1;
          seed_fits = is_seed.0;
          some = between.0;
          few = between.1;
        })
    those s n es en false t e = absurd cc

    counts : (s : ℕ) → spelled_number seed ≡ Some s → (found : Option ℕ) → spelled_number cells ≡ found → option_and_then (generate_for s) found ≡ Some c → IsCommand (codes "generate" ∷ seed ∷ cells ∷ []) c
    counts s es None f e = absurd cc
    counts s es (Some n) f e = those s n es f (nat_le 2 n && nat_le n 100000) refl e

    seeds : (found : Option ℕ) → spelled_number seed ≡ found → option_and_then (λ s. option_and_then (generate_for s) (spelled_number cells)) found ≡ Some c → IsCommand (codes "generate" ∷ seed ∷ cells ∷ []) c
    seeds None f e = absurd cc
    seeds (Some s) f e = counts s f (spelled_number cells) refl e
generate_is (seed ∷ cells ∷ word ∷ words) c e = absurd cc

format_is : (words : List (List ℕ)) (c : Command) → if_none_left words (Some commands.Format) ≡ Some c → IsCommand (codes "format" ∷ words) c
format_is words c e =
    let left = none_left words (Some commands.Format) c e in
    subst (λ (d : Command). IsCommand (codes "format" ∷ words) d) (same_command _ _ left.1) (ap (λ rest. codes "format" ∷ rest) left.0)

vformat_is : (words : List (List ℕ)) (c : Command) → if_none_left words (Some commands.Vformat) ≡ Some c → IsCommand (codes "vformat" ∷ words) c
vformat_is words c e =
    let left = none_left words (Some commands.Vformat) c e in
    subst (λ (d : Command). IsCommand (codes "vformat" ∷ words) d) (same_command _ _ left.1) (ap (λ rest. codes "vformat" ∷ rest) left.0)

-- a command by its first word, or what follows
either : (word name : List ℕ) (words : List (List ℕ)) (c : Command) (this other : Option Command) → (this ≡ Some c → IsCommand (name ∷ words) c) → (other ≡ Some c → IsCommand (word ∷ words) c)
    → (if same_bytes word name then this else other) ≡ Some c → IsCommand (word ∷ words) c
either word name words c this other is_this is_other e = go (same_bytes word name) refl e
  where
    go : (t : Bool) → same_bytes word name ≡ t → (if t then this else other) ≡ Some c → IsCommand (word ∷ words) c
    go true t e = subst (λ (first : List ℕ). IsCommand (first ∷ words) c) (sym (same_text word name t)) (is_this e)
    go false t e = is_other e

pub command_is : (words : List (List ℕ)) (c : Command) → command words ≡ Some c → IsCommand words c
command_is [] c e = absurd cc
command_is (word ∷ words) c e =
    either word (codes "format") words c _ _ (format_is words c)
    (either word (codes "vformat") words c _ _ (vformat_is words c)
    (either word (codes "check") words c _ _ (check_is words c)
    (either word (codes "report") words c _ _ (report_is words c)
    (either word (codes "lint") words c _ _ (lint_is words c)
    (either word (codes "to-verilog") words c _ _ (to_verilog_is words c)
    (either word (codes "to-edif") words c _ _ (to_edif_is words c)
    (either word (codes "flatten") words c _ _ (flatten_is words c)
    (either word (codes "to-spice") words c _ _ (to_spice_is words c)
    (either word (codes "generate") words c _ None (generate_is words c) (λ h. absurd cc)))))))))) e

-- ---- what is asked for is found

options_name : (usual : ConstName) (given : Option (List ℕ)) (name : ConstName) → IsChosen usual given name → IfSome given IsName
options_name usual None name h = tt
options_name usual (Some word) name h = cell_port_named word name h

wanted_found : (word : List ℕ) (words : List (List ℕ)) (top : Option (List ℕ)) (names : ConstantNames) → (h : NamesDesign word words top names)
    → wanted_of (option_words (codes "--top") top ++ (option_words (codes "--zero") h.zero ++ option_words (codes "--one") h.one)) ≡ Some (record { top = top; names = names })
wanted_found word words top names h =
    let ones = taken (codes "--one") h.one [] (options_name usual_names.one h.one names.one h.is_one) (record { value = refl; behind = refl }) in
    let last : option_words (codes "--one") h.one ++ [] ≡ option_words (codes "--one") h.one = append-nil (option_words (codes "--one") h.one) in
    let one = rw last at ones in
    let zero = taken (codes "--zero") h.zero (option_words (codes "--one") h.one) (options_name usual_names.zero h.zero names.zero h.is_zero) (passes_option (codes "--zero") (codes "--one") h.one refl) in
    let first = taken (codes "--top") top (option_words (codes "--zero") h.zero ++ option_words (codes "--one") h.one) h.named
    (passes_words (codes "--top") (codes "--zero") h.zero (option_words (codes "--one") h.one) refl (passes_option (codes "--top") (codes "--one") h.one refl)) in
    let found : constants_of h.zero h.one ≡ Some names = chosen h.zero h.one names (record { is_zero = h.is_zero; is_one = h.is_one; are_names = h.are_names }) in
    let those : constants_behind (option_words (codes "--zero") h.zero ++ option_words (codes "--one") h.one) ≡ Some names = rw (zero.value, zero.behind, one.value, one.behind, found) refl in
    rw (first.value, first.behind, those) refl

generate_found : (seed cells : ℕ) → seed < 2 ^ 64 → 2 ≤ cells → cells ≤ 100000 → generate_of (decimal seed ∷ decimal cells ∷ []) ≡ Some (commands.Generate seed cells)
generate_found seed cells fits some few =
    let small : cells < 2 ^ 64 = omega (arith, few) in
    let least : nat_le 2 cells ≡ true = grind (arith, some) in
    let most : nat_le cells 100000 ≡ true = grind (arith, few) in
    rw (number_spelled seed fits, number_spelled cells small) (rw (least, most) refl)

pub is_found : (words : List (List ℕ)) (c : Command) → IsCommand words c → command words ≡ Some c
is_found words commands.Format h = rw h refl
is_found words commands.Vformat h = rw h refl
is_found words (commands.Check None) h = rw h.are refl
is_found words (commands.Check (Some top)) h = rw h.are (rw (not_empty top h.named) refl)
is_found words (commands.Report top names) h = rw h.are (ap (option_map (λ wanted. commands.Report wanted.top wanted.names)) (wanted_found (codes "report") words top names h))
is_found words (commands.Lint top names) h = rw h.are (ap (option_map (λ wanted. commands.Lint wanted.top wanted.names)) (wanted_found (codes "lint") words top names h))
is_found words (commands.Flatten top names) h = rw h.are (ap (option_map (λ wanted. commands.Flatten wanted.top wanted.names)) (wanted_found (codes "flatten") words top names h))
is_found words (commands.ToVerilog names) h = rw h.are (rw (repeated_are (codes "--parameter") names h.named, repeated_values (codes "--parameter") names) refl)
is_found words (commands.ToEdif top names) h = rw h.are (ap (option_and_then to_edif_for) (wanted_found (codes "to-edif") words (Some top) names h))
is_found words (commands.ToSpice None) h = rw h.are refl
is_found words (commands.ToSpice (Some top)) h = rw h.are (rw (not_empty top h.named) refl)
is_found words (commands.Generate seed cells) h = rw h.are (generate_found seed cells h.seed_fits h.some h.few)

-- words ask for one command at most
pub one_command : (words : List (List ℕ)) (c d : Command) → IsCommand words c → IsCommand words d → c ≡ d
one_command words c d h k = let s : Some c ≡ Some d = sym (is_found words c h) ∙ is_found words d k in cc

-- what is found, in the words of the table
pub asked_of : (words : List (List ℕ)) (result : Result (Option Command) NoMemory) → MatchResult result (λ found. found ≡ command words) (λ e. IsSome (command words))
    → MatchResult result (IsAsked words) (λ e. (c : Command) × IsCommand words c)
asked_of words (Ok None) h = λ c k. let s : None ≡ Some c = h ∙ is_found words c k in cc
asked_of words (Ok (Some c)) h = command_is words c (sym h)
asked_of words (Err e) h = go (command words) refl h
  where
    go : (found : Option Command) → command words ≡ found → IsSome found → (c : Command) × IsCommand words c
    go None f h = absurd cc
    go (Some c) f h = (c, command_is words c f)
