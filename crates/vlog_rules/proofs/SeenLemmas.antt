-- A declaration clashes with one of a list where one of three kinds, or of five, is among those of its name.
use Rattle.std.proofs.Common.{◌≡◌, Bool, true, false, ◌&&◌, ◌||◌, not, List, [], ◌∷◌, bytes_eq, ap, refl, ◌∙◌}
use Rattle.std.specs.List.{list_any}
use Rattle.vlog_design.specs.Names.{Declaration}
use Rattle.vlog_design.specs.Rules.{same_declaration, same_kind, clash, is_signal}
use Rattle.vlog_design.specs.declared.signals.Kind.{Kind}
use Rattle.vlog_design.specs.declared.signals.Kind.TheVariants.{InHeader, Direction, NetDeclaration, Instance, Parameter}

-- three kinds, or all five, can clash
abbrev with_kind : Declaration → Kind → Declaration
with_kind d kind = record { kind = kind; name = d.name }

abbrev any_of : Declaration → Kind → List Declaration → Bool
any_of d kind = list_any (same_declaration (with_kind d kind))

swap_or : (a b x y : Bool) → ((a || b) || (x || y)) ≡ ((a || x) || (b || y))
swap_or true b x y = refl
swap_or false true true y = refl
swap_or false true false y = refl
swap_or false false x y = refl

five_or : (a b c e f u v w x y : Bool) → ((a || b || c || e || f) || (u || v || w || x || y)) ≡ ((a || u) || (b || v) || (c || w) || (e || x) || (f || y))
five_or a b c e f u v w x y =
    swap_or (a || b || c || e) f (u || v || w || x) y
    ∙ ap (λ z. z || (f || y)) (swap_or (a || b || c) e (u || v || w) x
    ∙ ap (λ z. z || (e || x)) (swap_or (a || b) c (u || v) w
    ∙ ap (λ z. z || (c || w)) (swap_or a b u v)))

-- what a declaration tests of another, for a port or net, and for an instance or parameter
abbrev three : Kind → Kind → Bool → Bool
three kind other same = (same_kind kind other && same) || (same_kind Instance other && same) || (same_kind Parameter other && same)

abbrev all_five : Kind → Bool → Bool
all_five other same = (same_kind InHeader other && same) || (same_kind Direction other && same) || (same_kind NetDeclaration other && same) || (same_kind Instance other && same) || (same_kind Parameter other && same)

abbrev clash_test : Kind → Kind → Bool → Bool
clash_test kind other same = same && (same_kind kind other || not (is_signal kind && is_signal other))

signal_step : (kind other : Kind) (same : Bool) → is_signal kind ≡ true → clash_test kind other same ≡ three kind other same
signal_step InHeader InHeader true h = refl
signal_step InHeader InHeader false h = refl
signal_step InHeader Direction true h = refl
signal_step InHeader Direction false h = refl
signal_step InHeader NetDeclaration true h = refl
signal_step InHeader NetDeclaration false h = refl
signal_step InHeader Instance true h = refl
signal_step InHeader Instance false h = refl
signal_step InHeader Parameter true h = refl
signal_step InHeader Parameter false h = refl
signal_step Direction InHeader true h = refl
signal_step Direction InHeader false h = refl
signal_step Direction Direction true h = refl
signal_step Direction Direction false h = refl
signal_step Direction NetDeclaration true h = refl
signal_step Direction NetDeclaration false h = refl
signal_step Direction Instance true h = refl
signal_step Direction Instance false h = refl
signal_step Direction Parameter true h = refl
signal_step Direction Parameter false h = refl
signal_step NetDeclaration InHeader true h = refl
signal_step NetDeclaration InHeader false h = refl
signal_step NetDeclaration Direction true h = refl
signal_step NetDeclaration Direction false h = refl
signal_step NetDeclaration NetDeclaration true h = refl
signal_step NetDeclaration NetDeclaration false h = refl
signal_step NetDeclaration Instance true h = refl
signal_step NetDeclaration Instance false h = refl
signal_step NetDeclaration Parameter true h = refl
signal_step NetDeclaration Parameter false h = refl
signal_step Instance InHeader true h = cc
signal_step Instance InHeader false h = cc
signal_step Instance Direction true h = cc
signal_step Instance Direction false h = cc
signal_step Instance NetDeclaration true h = cc
signal_step Instance NetDeclaration false h = cc
signal_step Instance Instance true h = cc
signal_step Instance Instance false h = cc
signal_step Instance Parameter true h = cc
signal_step Instance Parameter false h = cc
signal_step Parameter InHeader true h = cc
signal_step Parameter InHeader false h = cc
signal_step Parameter Direction true h = cc
signal_step Parameter Direction false h = cc
signal_step Parameter NetDeclaration true h = cc
signal_step Parameter NetDeclaration false h = cc
signal_step Parameter Instance true h = cc
signal_step Parameter Instance false h = cc
signal_step Parameter Parameter true h = cc
signal_step Parameter Parameter false h = cc

other_step : (kind other : Kind) (same : Bool) → is_signal kind ≡ false → clash_test kind other same ≡ all_five other same
other_step InHeader InHeader true h = cc
other_step InHeader InHeader false h = cc
other_step InHeader Direction true h = cc
other_step InHeader Direction false h = cc
other_step InHeader NetDeclaration true h = cc
other_step InHeader NetDeclaration false h = cc
other_step InHeader Instance true h = cc
other_step InHeader Instance false h = cc
other_step InHeader Parameter true h = cc
other_step InHeader Parameter false h = cc
other_step Direction InHeader true h = cc
other_step Direction InHeader false h = cc
other_step Direction Direction true h = cc
other_step Direction Direction false h = cc
other_step Direction NetDeclaration true h = cc
other_step Direction NetDeclaration false h = cc
other_step Direction Instance true h = cc
other_step Direction Instance false h = cc
other_step Direction Parameter true h = cc
other_step Direction Parameter false h = cc
other_step NetDeclaration InHeader true h = cc
other_step NetDeclaration InHeader false h = cc
other_step NetDeclaration Direction true h = cc
other_step NetDeclaration Direction false h = cc
other_step NetDeclaration NetDeclaration true h = cc
other_step NetDeclaration NetDeclaration false h = cc
other_step NetDeclaration Instance true h = cc
other_step NetDeclaration Instance false h = cc
other_step NetDeclaration Parameter true h = cc
other_step NetDeclaration Parameter false h = cc
other_step Instance InHeader true h = refl
other_step Instance InHeader false h = refl
other_step Instance Direction true h = refl
other_step Instance Direction false h = refl
other_step Instance NetDeclaration true h = refl
other_step Instance NetDeclaration false h = refl
other_step Instance Instance true h = refl
other_step Instance Instance false h = refl
other_step Instance Parameter true h = refl
other_step Instance Parameter false h = refl
other_step Parameter InHeader true h = refl
other_step Parameter InHeader false h = refl
other_step Parameter Direction true h = refl
other_step Parameter Direction false h = refl
other_step Parameter NetDeclaration true h = refl
other_step Parameter NetDeclaration false h = refl
other_step Parameter Instance true h = refl
other_step Parameter Instance false h = refl
other_step Parameter Parameter true h = refl
other_step Parameter Parameter false h = refl

pub any_signal : (d : Declaration) → is_signal d.kind ≡ true → (ds : List Declaration) → list_any (clash d) ds ≡ (any_of d d.kind ds || any_of d Instance ds || any_of d Parameter ds)
any_signal d h [] = refl
any_signal d h (e ∷ ds) =
    let same = bytes_eq d.name e.name in
    ap (λ b. b || list_any (clash d) ds) (signal_step d.kind e.kind same h)
    ∙ ap (λ b. three d.kind e.kind same || b) (any_signal d h ds)
    ∙ swap_or ((same_kind d.kind e.kind && same) || (same_kind Instance e.kind && same)) (same_kind Parameter e.kind && same) (any_of d d.kind ds || any_of d Instance ds) (any_of d Parameter ds)
    ∙ ap (λ b. b || ((same_kind Parameter e.kind && same) || any_of d Parameter ds)) (swap_or (same_kind d.kind e.kind && same) (same_kind Instance e.kind && same) (any_of d d.kind ds) (any_of d Instance ds))

pub any_other : (d : Declaration) → is_signal d.kind ≡ false → (ds : List Declaration) →
    list_any (clash d) ds ≡ (any_of d InHeader ds || any_of d Direction ds || any_of d NetDeclaration ds || any_of d Instance ds || any_of d Parameter ds)
any_other d h [] = refl
any_other d h (e ∷ ds) =
    let same = bytes_eq d.name e.name in
    ap (λ b. b || list_any (clash d) ds) (other_step d.kind e.kind same h)
    ∙ ap (λ b. all_five e.kind same || b) (any_other d h ds)
    ∙ five_or (same_kind InHeader e.kind && same) (same_kind Direction e.kind && same) (same_kind NetDeclaration e.kind && same) (same_kind Instance e.kind && same) (same_kind Parameter e.kind && same)
    (any_of d InHeader ds) (any_of d Direction ds) (any_of d NetDeclaration ds) (any_of d Instance ds) (any_of d Parameter ds)
