-- Places in a text.
use Rattle.std.specs.Prelude.{ℕ, ◌+◌, List, [], ◌∷◌, if◌then◌else◌, ◌==◌}
use Rattle.nl_base.specs.declared.place.Place.{Place}

-- the place before the first byte
abbrev pub place_at_start : Place
place_at_start = record { offset = 0; line = 1; column = 1 }

-- the place just past a byte that stands at a place: byte 10 begins a line
abbrev pub place_after : Place → ℕ → Place
place_after p b = record {
  offset = p.offset + 1;
  line = if b == 10 then p.line + 1 else p.line;
  column = if b == 10 then 1 else p.column + 1;
}

-- the place just past some bytes that stand at a place
abbrev pub place_past : Place → List ℕ → Place
place_past p [] = p
place_past p (b ∷ bs) = place_past (place_after p b) bs

-- the place so many bytes further in the same line
abbrev pub place_along : Place → ℕ → Place
place_along p n = record { offset = p.offset + n; line = p.line; column = p.column + n }
