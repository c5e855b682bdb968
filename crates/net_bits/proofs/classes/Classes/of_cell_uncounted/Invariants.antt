use Rattle.net_bits.proofs.classes.Classes.of_cell_uncounted.Given as goal

abbrev pub ghosts-of_cell_from : goal.ghosts-of_cell_from
ghosts-of_cell_from a = record { name = a.blank.name; parts = a.blank.parts }
