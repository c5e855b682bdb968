-- The rules that a netlist can break.
use Rattle.std.specs.Prelude.{ℕ, List, codes}
use Rattle.nl_base.specs.declared.rule.Rule.{Rule}
use Rattle.nl_base.specs.declared.rule.Rule.TheVariants.{E1, E2, E3, E4, E5, E6, E7, E8, E9, E10, E11, E12, E13, G1, G2, G3, G4, G5, G6, G7, G8, G9, G10, G11, G12, G13, G14, G15, G16, G17, V1, V2, V3, V4, V5}

-- the name that is printed for a rule
abbrev pub rule_name : Rule → List ℕ
rule_name E1 = codes "E1"
rule_name E2 = codes "E2"
rule_name E3 = codes "E3"
rule_name E4 = codes "E4"
rule_name E5 = codes "E5"
rule_name E6 = codes "E6"
rule_name E7 = codes "E7"
rule_name E8 = codes "E8"
rule_name E9 = codes "E9"
rule_name E10 = codes "E10"
rule_name E11 = codes "E11"
rule_name E12 = codes "E12"
rule_name E13 = codes "E13"
rule_name G1 = codes "G1"
rule_name G2 = codes "G2"
rule_name G3 = codes "G3"
rule_name G4 = codes "G4"
rule_name G5 = codes "G5"
rule_name G6 = codes "G6"
rule_name G7 = codes "G7"
rule_name G8 = codes "G8"
rule_name G9 = codes "G9"
rule_name G10 = codes "G10"
rule_name G11 = codes "G11"
rule_name G12 = codes "G12"
rule_name G13 = codes "G13"
rule_name G14 = codes "G14"
rule_name G15 = codes "G15"
rule_name G16 = codes "G16"
rule_name G17 = codes "G17"
rule_name V1 = codes "V1"
rule_name V2 = codes "V2"
rule_name V3 = codes "V3"
rule_name V4 = codes "V4"
rule_name V5 = codes "V5"

-- the number of a rule in the order of the rules, from 0
abbrev pub rule_number : Rule → ℕ
rule_number E1 = 0
rule_number E2 = 1
rule_number E3 = 2
rule_number E4 = 3
rule_number E5 = 4
rule_number E6 = 5
rule_number E7 = 6
rule_number E8 = 7
rule_number E9 = 8
rule_number E10 = 9
rule_number E11 = 10
rule_number E12 = 11
rule_number E13 = 12
rule_number G1 = 13
rule_number G2 = 14
rule_number G3 = 15
rule_number G4 = 16
rule_number G5 = 17
rule_number G6 = 18
rule_number G7 = 19
rule_number G8 = 20
rule_number G9 = 21
rule_number G10 = 22
rule_number G11 = 23
rule_number G12 = 24
rule_number G13 = 25
rule_number G14 = 26
rule_number G15 = 27
rule_number G16 = 28
rule_number G17 = 29
rule_number V1 = 30
rule_number V2 = 31
rule_number V3 = 32
rule_number V4 = 33
rule_number V5 = 34
