-- The range of a port is that of the first declaration that gives it a direction.
use Rattle.std.proofs.Common.{◌≡◌, ℕ, suc, ◌+◌, ◌<◌, ◌≤◌, Bool, true, false, not, ◌||◌, cond, List, [], ◌∷◌, ◌++◌, Option, None, Some, bytes_eq, find, flat_map, get_or, length, nat_lt, refl, sym, ap, ◌∙◌, arith}
use Rattle.std.specs.Prelude.{position}
use Rattle.std.specs.Option.{option_and_then, option_or}
use Rattle.std.specs.List.{position_or_len}
use Rattle.std.proofs.lemmas.Bool.{ltb-true, ltb-false}
use Rattle.std.proofs.lemmas.List.{length-map, map-append}
use Rattle.std.proofs.lemmas.List.Concat.{flat_map-append}
use Rattle.std.proofs.lemmas.List.Folds.{find-append}
use Rattle.nl_base.specs.Ranges.{Bounds}
use Rattle.vlog_design.specs.Names.{Name, has_name, header_decls, port_decl, port_decls, port_range}
use Rattle.vlog_scopes.specs.Ranged.{RangedName, lent_names, of_range, plain_names, range_named, ranged_name, ranged_names, ranged_ports}
use Rattle.vlog_scopes.specs.declared.ranged.Ranged.{Ranged}
use Rattle.vlog_values.specs.declared.declaration.PortDecl.{PortDecl}
use Rattle.vlog_values.specs.declared.module.Module.{Module}

of_one : (range : Option Bounds) (names : List Name) (name : Name) (rest : Option RangedName) →
    option_and_then (λ one. one.range) (option_or (find (λ one. bytes_eq name one.name) (of_range range names)) rest)
    ≡ cond (has_name names name) range (option_and_then (λ one. one.range) rest)
of_one range [] name rest = refl
of_one range (x ∷ xs) name rest = by (bytes_eq name x) (of_one range xs name rest)
  where
    by : (b : Bool) →
        option_and_then (λ (one : RangedName). one.range) (option_or (find (λ (one : RangedName). bytes_eq name one.name) (of_range range xs)) rest)
        ≡ cond (has_name xs name) range (option_and_then (λ (one : RangedName). one.range) rest) →
        option_and_then (λ (one : RangedName). one.range) (option_or (cond b (Some (record { name = x; range = range })) (find (λ (one : RangedName). bytes_eq name one.name) (of_range range xs))) rest)
        ≡ cond (b || has_name xs name) range (option_and_then (λ (one : RangedName). one.range) rest)
    by true h = refl
    by false h = h

in_decls : (decls : List PortDecl) (name : Name) →
    option_and_then (λ one. one.range) (find (λ one. bytes_eq name one.name) (flat_map ranged_ports decls))
    ≡ option_and_then (λ decl. decl.range) (find (λ decl. has_name decl.names name) decls)
in_decls [] name = refl
in_decls (d ∷ ds) name =
    ap (option_and_then (λ (one : RangedName). one.range)) (find-append (λ (one : RangedName). bytes_eq name one.name) (ranged_ports d) (flat_map ranged_ports ds))
    ∙ (of_one d.range d.names name (find (λ (one : RangedName). bytes_eq name one.name) (flat_map ranged_ports ds))
    ∙ by (has_name d.names name) (in_decls ds name))
  where
    by : (b : Bool) →
        option_and_then (λ (one : RangedName). one.range) (find (λ (one : RangedName). bytes_eq name one.name) (flat_map ranged_ports ds))
        ≡ option_and_then (λ (decl : PortDecl). decl.range) (find (λ (decl : PortDecl). has_name decl.names name) ds) →
        cond b d.range (option_and_then (λ (one : RangedName). one.range) (find (λ (one : RangedName). bytes_eq name one.name) (flat_map ranged_ports ds)))
        ≡ option_and_then (λ (decl : PortDecl). decl.range) (cond b (Some d) (find (λ (decl : PortDecl). has_name decl.names name) ds))
    by true h = refl
    by false h = h

pub port_range_is : (m : Module) (name : Name) → range_named (flat_map ranged_ports (port_decls m)) name ≡ port_range m name
unfolding range_named port_range
port_range_is m name = in_decls (port_decls m) name

-- look-up by the place of the name

range_at : (ranged : List Ranged) (name : Name) (d : Ranged) → position_or_len (bytes_eq name) (lent_names ranged) < length ranged →
    range_named (ranged_names ranged) name ≡ (get_or ranged (position_or_len (bytes_eq name) (lent_names ranged)) d).range
unfolding range_named
range_at [] name d h = absurd (omega (arith, h))
range_at (r ∷ rs) name d h = by (bytes_eq name r.name.now) (range_at rs name d) h
  where
    at : ℕ
    at = position_or_len (bytes_eq name) (lent_names rs)

    by : (b : Bool) → (at < length rs → option_and_then (λ (one : RangedName). one.range) (find (λ (one : RangedName). bytes_eq name one.name) (ranged_names rs)) ≡ (get_or rs at d).range)
        → cond (not b) (1 + at) 0 < suc (length rs)
        → option_and_then (λ (one : RangedName). one.range) (cond b (Some (ranged_name r)) (find (λ (one : RangedName). bytes_eq name one.name) (ranged_names rs))) ≡ (get_or (r ∷ rs) (cond (not b) (1 + at) 0) d).range
    by true next h = refl
    by false next h =
        let e : suc at ≡ 1 + at = omega arith in
        next (omega (arith, h)) ∙ ap (λ k. (get_or (r ∷ rs) k d).range) e

range_gone : (ranged : List Ranged) (name : Name) → length ranged ≤ position_or_len (bytes_eq name) (lent_names ranged) → range_named (ranged_names ranged) name ≡ None
unfolding range_named
range_gone [] name h = refl
range_gone (r ∷ rs) name h = by (bytes_eq name r.name.now) (range_gone rs name) h
  where
    at : ℕ
    at = position_or_len (bytes_eq name) (lent_names rs)

    by : (b : Bool) → (length rs ≤ at → option_and_then (λ (one : RangedName). one.range) (find (λ (one : RangedName). bytes_eq name one.name) (ranged_names rs)) ≡ None)
        → suc (length rs) ≤ cond (not b) (1 + at) 0
        → option_and_then (λ (one : RangedName). one.range) (cond b (Some (ranged_name r)) (find (λ (one : RangedName). bytes_eq name one.name) (ranged_names rs))) ≡ None
    by true next h = absurd (omega (arith, h))
    by false next h = next (omega (arith, h))

pub record IsPlace (n size at : ℕ) : Type 0 where
  pub same : n ≡ at
  pub within : n < size

pub place_is : (n size at : ℕ) → cond (nat_lt n size) (Some n) None ≡ Some at → IsPlace n size at
place_is n size at e = by (nat_lt n size) refl e
  where
    by : (b : Bool) → nat_lt n size ≡ b → cond b (Some n) None ≡ Some at → IsPlace n size at
    by true t h = record { same = cc; within = ltb-true n size t }
    by false t h = absurd cc

pub place_gone : (n size : ℕ) → cond (nat_lt n size) (Some n) None ≡ None → size ≤ n
place_gone n size e = by (nat_lt n size) refl e
  where
    by : (b : Bool) → nat_lt n size ≡ b → ◌≡◌ {A = Option ℕ} (cond b (Some n) None) None → size ≤ n
    by true t h = absurd cc
    by false t h = ltb-false n size t

lent_long : (ranged : List Ranged) → length (lent_names ranged) ≡ length ranged
lent_long ranged = length-map ranged _

-- what the place of a name tells
pub record IsRangeAt (ranged : List Ranged) (name : Name) (at : ℕ) : Type 0 where
  pub within : at < length ranged
  pub range : (d : Ranged) → range_named (ranged_names ranged) name ≡ (get_or ranged at d).range

pub range_placed : (ranged : List Ranged) (name : Name) (at : ℕ) (names : List Name) → names ≡ lent_names ranged → position (bytes_eq name) names ≡ Some at → IsRangeAt ranged name at
range_placed ranged name at names e h =
    let n = position_or_len (bytes_eq name) (lent_names ranged) in
    let is = place_is n (length (lent_names ranged)) at (ap (position (bytes_eq name)) (sym e) ∙ h) in
    record {
      within = omega (arith, is.same, is.within, lent_long ranged);
      range = λ d. range_at ranged name d (omega (arith, is.within, lent_long ranged)) ∙ ap (λ k. (get_or ranged k d).range) is.same;
    }

pub no_range_placed : (ranged : List Ranged) (name : Name) (names : List Name) → names ≡ lent_names ranged → position (bytes_eq name) names ≡ None → range_named (ranged_names ranged) name ≡ None
no_range_placed ranged name names e h =
    range_gone ranged name (omega (arith, place_gone (position_or_len (bytes_eq name) (lent_names ranged)) (length (lent_names ranged)) (ap (position (bytes_eq name)) (sym e) ∙ h), lent_long ranged))

pub lent_plain : (ranged : List Ranged) → lent_names ranged ≡ plain_names (ranged_names ranged)
lent_plain [] = refl
lent_plain (r ∷ rs) = ap (λ rest. r.name.now ∷ rest) (lent_plain rs)

plain_of_one : (range : Option Bounds) (names : List Name) → plain_names (of_range range names) ≡ names
plain_of_one range [] = refl
plain_of_one range (x ∷ xs) = ap (λ rest. x ∷ rest) (plain_of_one range xs)

pub plain_directions : (decls : List PortDecl) → plain_names (flat_map ranged_ports decls) ≡ flat_map (λ decl. decl.names) decls
plain_directions [] = refl
plain_directions (d ∷ ds) = map-append (λ (one : RangedName). one.name) (ranged_ports d) (flat_map ranged_ports ds) ∙ (λ j. plain_of_one d.range d.names j ++ plain_directions ds j)

-- directions in the header, then those of items
pub directions_are : (m : Module) (found : List RangedName) → found ≡ flat_map ranged_ports (header_decls m.header) ++ flat_map ranged_ports (flat_map port_decl m.items) → found ≡ flat_map ranged_ports (port_decls m)
unfolding port_decls
directions_are m found h = h ∙ sym (flat_map-append ranged_ports (header_decls m.header) (flat_map port_decl m.items))
