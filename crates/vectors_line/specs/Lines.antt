-- The line of a generated file.
use Rattle.std.specs.Prelude.{ℕ, ◌-◌, ◌^◌, false, min, List, [], ◌++◌, length, codes}
use Rattle.std.specs.Fmt.{decimal}
use Rattle.net_bits.specs.Names.{NameSet}
use Rattle.vectors.specs.Numbers.{swapped_count}
use Rattle.vlog_values.specs.declared.module.VlogFile.{VlogFile}
use Rattle.vlog_writer.specs.Forms.{vlog_text}

-- a number, or the greatest of a u64 where it is larger
abbrev pub saturated : ℕ → ℕ
saturated n = min n (2 ^ 64 - 1)

-- how many leaves the design of so many generated cells has: each cell but the first has two instances of the one before
abbrev pub leaf_count : ℕ → ℕ
leaf_count cells = saturated (2 ^ (cells - 1))

-- the line of these numbers: of cells, of swapped ones, of leaves and of bytes
abbrev pub numbers_line : ℕ → ℕ → ℕ → ℕ → List ℕ
numbers_line cells swapped leaves bytes =
    codes "generated " ++ decimal cells ++ codes " cells, " ++ decimal swapped ++ codes " swapped, " ++ decimal leaves ++ codes " leaves, " ++ decimal bytes ++ codes " bytes of Verilog\n"

-- the set without names: no property is to be a parameter
abbrev pub no_params : NameSet
no_params = record { up_to_case = false; names = [] }

-- the line of the generated file of a seed and so many cells, of which these are the modules: its last number is the length of their text
abbrev pub generated_line : ℕ → ℕ → VlogFile → List ℕ
generated_line seed cells modules = numbers_line cells (swapped_count seed cells) (leaf_count cells) (saturated (length (vlog_text modules)))
