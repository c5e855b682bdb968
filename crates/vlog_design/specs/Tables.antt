-- Tables of names, seen as the lists of what they have.
use Rattle.std.specs.Prelude.{List, [], ℕ, map, Option, None, Some}
use Rattle.std.specs.Borrow.{Bor}
use Rattle.std.specs.declared.alloc.Global.{Global}
use Rattle.std.specs.declared.boxed.Box.{Box}
use Rattle.indexmap.specs.IndexSet.{IndexSet}
use Rattle.vlog_design.specs.Names.{Signal}
use Rattle.vlog_design.specs.declared.signals.Slot.{Slot}
use Rattle.vlog_values.specs.declared.module.Module.{Module}

-- a name with what it stands for
abbrev pub signal_of : Bor (List ℕ) × Slot → Signal
signal_of entry = record { name = entry.0.now; slot = entry.1 }

-- the signals of a table
abbrev pub signals_of : List (Bor (List ℕ) × Slot) → List Signal
signals_of entries = map signal_of entries

-- the names that are kept
abbrev pub names_of : List (Bor (List ℕ)) → List (List ℕ)
names_of keys = map (λ key. key.now) keys

-- the names behind the first, in an index that is made for them
abbrev pub keys_behind : {S : Type 0} → Option (Box (IndexSet (Bor (List ℕ)) S) Global) → List (Bor (List ℕ))
keys_behind None = []
keys_behind (Some rest) = rest.value.keys

-- the modules that are lent
abbrev pub modules_of : List (Bor Module) → List Module
modules_of = map (λ m. m.now)
