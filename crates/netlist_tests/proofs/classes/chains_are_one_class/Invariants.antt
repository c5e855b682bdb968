use Rattle.netlist_tests.proofs.classes.chains_are_one_class.Given as goal

abbrev pub ghosts-one_class_from : goal.ghosts-one_class_from
ghosts-one_class_from g a = record { name = a.blank.name; parts = a.blank.parts }
