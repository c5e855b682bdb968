-- How many bits of an expression are something.
use Rattle.std.proofs.Common.{◌≡◌, ℕ, ℤ, zero, suc, ◌+◌, ◌*◌, true, false, cond, List, [], ◌∷◌, ◌++◌, Option, None, Some, flat_map, length, map, replicate, sum, sum_by, ap, refl, subst, sym, ◌∙◌, arith}
use Rattle.std.specs.Prelude.{count_by, is_some}
use Rattle.std.specs.List.{AllByRecursion, list_all, range_with_len}
use Rattle.std.specs.Option.{option_map_or}
use Rattle.std.proofs.lemmas.Bool.{and_parts}
use Rattle.std.proofs.lemmas.List.Sums.{sum-map, sum_by-append, sum_by-cons}
use Rattle.net_hier.specs.declared.nodes.Node.{Node}
use Rattle.vlog_design.specs.Design.{joins_between}
use Rattle.vlog_design.specs.Exprs.{bits, constant_bit, is_live, live_step, live_width, repeated, signal_bits, span_bits, span_count, span_of, times}
use Rattle.vlog_design.specs.Names.{Name, Signal, signal_named}
use Rattle.vlog_design.specs.Ranges.{selected}
use Rattle.vlog_design.specs.declared.signals.SignalAt.{SignalAt}
use Rattle.vlog_design.specs.declared.signals.Slot.{Slot}
use Rattle.vlog_design.specs.declared.signals.Span.{Span}
use Rattle.vlog_design.proofs.ExprLemmas.{bits-Cat, bits-Lit, bits-Loose, bits-LooseNumber, bits-Ref, bits-Rep}
use Rattle.vlog_values.specs.Bits.{literal_bits}
use Rattle.vlog_values.specs.Values.{is_left}
use Rattle.vlog_values.proofs.Values.{left-Cat, left-Lit, left-Loose, left-LooseNumber, left-Rep}
use Rattle.vlog_values.specs.declared.expression.Expr.{Expr}
use Rattle.vlog_values.specs.declared.expression.Expr.TheFolds.{fold-roll-Expr, ind-Expr, map-Expr}
use Rattle.vlog_values.specs.declared.expression.Expr.TheOpen.{Expr-F}
use Rattle.vlog_values.specs.declared.expression.Expr.TheVariants.{Ref, Lit, LooseNumber, Loose, Cat, Rep, rolls-Ref, rolls-Lit, rolls-LooseNumber, rolls-Loose, rolls-Cat, rolls-Rep}
use Rattle.vlog_values.specs.declared.expression.Expr.TheViews.{roll-Expr}
use Rattle.vlog_values.specs.declared.expression.Select.{Select}
use Rattle.vlog_values.specs.declared.literal.Based.{Based}
use Rattle.vlog_values.specs.declared.literal.Bit.{Bit}
use Rattle.vlog_values.specs.declared.literal.Literal.{Literal}
use Rattle.vlog_ties.proofs.Spelled.{every_append}

-- the live width by the variants of an expression

module _ (signals : List Signal) where
  pub live-Ref : (name : Name) (select : Select) → live_width signals (Ref select name) ≡ span_count (span_of (signal_named signals name) select)
  unfolding live_width
  live-Ref name select = ap (live_width signals) (sym (rolls-Ref select name)) ∙ fold-roll-Expr ℕ (live_step signals) (Expr-F.Ref select name)

  pub live-Lit : (literal : Literal) → live_width signals (Lit literal) ≡ count_by is_live (literal_bits literal)
  unfolding live_width
  live-Lit literal = ap (live_width signals) (sym (rolls-Lit literal)) ∙ fold-roll-Expr ℕ (live_step signals) (Expr-F.Lit literal)

  pub live-LooseNumber : (number : ℤ) → live_width signals (LooseNumber number) ≡ 0
  unfolding live_width
  live-LooseNumber number = ap (live_width signals) (sym (rolls-LooseNumber number)) ∙ fold-roll-Expr ℕ (live_step signals) (Expr-F.LooseNumber number)

  pub live-Loose : (based : Based) → live_width signals (Loose based) ≡ 0
  unfolding live_width
  live-Loose based = ap (live_width signals) (sym (rolls-Loose based)) ∙ fold-roll-Expr ℕ (live_step signals) (Expr-F.Loose based)

  pub live-Cat : (parts : List Expr) → live_width signals (Cat parts) ≡ sum (map (live_width signals) parts)
  unfolding live_width
  live-Cat parts = ap (live_width signals) (sym (rolls-Cat parts)) ∙ fold-roll-Expr ℕ (live_step signals) (Expr-F.Cat parts)

  pub live-Rep : (count : ℤ) (parts : List Expr) → live_width signals (Rep count parts) ≡ times count * sum (map (live_width signals) parts)
  unfolding live_width
  live-Rep count parts = ap (live_width signals) (sym (rolls-Rep count parts)) ∙ fold-roll-Expr ℕ (live_step signals) (Expr-F.Rep count parts)

-- the bits that are something

abbrev there : Option Node → ℕ
there o = cond (is_some o) 1 0

abbrev pub somes : List (Option Node) → ℕ
somes = count_by is_some

somes-append : (xs ys : List (Option Node)) → somes (xs ++ ys) ≡ somes xs + somes ys
somes-append xs ys = sum_by-append there xs ys

all_there : {A : Type 0} (f : A → Node) (xs : List A) → somes (map (λ x. Some (f x)) xs) ≡ length xs
all_there f [] = refl
all_there f (x ∷ xs) = omega (arith, sum_by-cons there (Some (f x)) (map (λ y. Some (f y)) xs), all_there f xs)

length-range : (first count : ℕ) → length (range_with_len first count) ≡ count
length-range first zero = refl
length-range first (suc count) = ap suc (length-range (first + 1) count)

span_there : (place : SignalAt) (o : Option Span) → somes (option_map_or (span_bits place) o []) ≡ span_count o
span_there place None = refl
span_there place (Some span) = all_there _ (range_with_len span.first span.count) ∙ length-range span.first span.count

use_there : (o : Option Slot) (select : Select) → somes (signal_bits o select) ≡ span_count (span_of o select)
use_there None select = refl
use_there (Some slot) select = span_there slot.place (selected slot.range select)

constants_there : (list : List Bit) → somes (map constant_bit list) ≡ count_by is_live list
constants_there [] = refl
constants_there (b ∷ list) = omega (arith, sum_by-cons there (constant_bit b) (map constant_bit list), sum_by-cons (λ y. cond (is_live y) 1 0) b list, constants_there list)

-- bits of one kind
pub live_copied : (bit : Bit) (count : ℕ) → is_live bit ≡ true → count ≡ count_by is_live (replicate count bit)
live_copied bit zero h = refl
live_copied bit (suc count) h =
    let one : ◌≡◌ {A = ℕ} (cond (is_live bit) 1 0) 1 = ap (λ b. cond {A = ℕ} b 1 0) h in
    omega (arith, sum_by-cons (λ y. cond (is_live y) 1 0) bit (replicate count bit), live_copied bit count h, one)

pub open_copied : (bit : Bit) (count : ℕ) → is_live bit ≡ false → 0 ≡ count_by is_live (replicate count bit)
open_copied bit zero h = refl
open_copied bit (suc count) h =
    let none : ◌≡◌ {A = ℕ} (cond (is_live bit) 1 0) 0 = ap (λ b. cond {A = ℕ} b 1 0) h in
    omega (arith, sum_by-cons (λ y. cond (is_live y) 1 0) bit (replicate count bit), open_copied bit count h, none)

pub live-append : (xs ys : List Bit) → count_by is_live (xs ++ ys) ≡ count_by is_live xs + count_by is_live ys
live-append xs ys = sum_by-append (λ y. cond (is_live y) 1 0) xs ys

somes-repeated : (n : ℕ) (once : List (Option Node)) → somes (repeated n once) ≡ n * somes once
unfolding repeated
somes-repeated zero once = omega arith
somes-repeated (suc n) once = omega (arith, somes-append once (repeated n once), somes-repeated n once)

module _ (signals : List Signal) where
  abbrev IsCounted : Expr → Type 0
  IsCounted e = somes (bits signals e) ≡ live_width signals e

  parts_counted : (parts : List ((e : Expr) × IsCounted e)) → somes (flat_map (bits signals) (map (λ p. p.0) parts)) ≡ sum_by (live_width signals) (map (λ p. p.0) parts)
  parts_counted [] = refl
  parts_counted (p ∷ parts) =
      let es = map (λ q. q.0) parts in
      omega (arith, somes-append (bits signals p.0) (flat_map (bits signals) es), sum_by-cons (live_width signals) p.0 es, p.1, parts_counted parts)

  is_counted : (y : Expr-F ((e : Expr) × IsCounted e)) → IsCounted (roll-Expr (map-Expr ((e : Expr) × IsCounted e) Expr (λ e. e.0) y))
  is_counted (Expr-F.Ref select name) = rw (rolls-Ref, bits-Ref, live-Ref) (use_there (signal_named signals name) select)
  is_counted (Expr-F.Lit literal) = rw (rolls-Lit, bits-Lit, live-Lit) (constants_there (literal_bits literal))
  is_counted (Expr-F.LooseNumber number) = rw (rolls-LooseNumber, bits-LooseNumber, live-LooseNumber) refl
  is_counted (Expr-F.Loose based) = rw (rolls-Loose, bits-Loose, live-Loose) refl
  is_counted (Expr-F.Cat parts) = rw (rolls-Cat, bits-Cat, live-Cat) (parts_counted parts ∙ sym (sum-map (live_width signals) (map (λ p. p.0) parts)))
  is_counted (Expr-F.Rep count parts) = rw (rolls-Rep, bits-Rep, live-Rep)
      (somes-repeated (times count) _ ∙ ap (λ n. times count * n) (parts_counted parts ∙ sym (sum-map (live_width signals) (map (λ p. p.0) parts))))

  -- as many bits of an expression are something as its live width says
  pub bits_live : (e : Expr) → somes (bits signals e) ≡ live_width signals e
  bits_live = ind-Expr IsCounted (λ x y is. subst (λ z. IsCounted (roll-Expr z)) is (is_counted y))

-- the bits of a left side are all something

abbrev pub IsThere : Option Node → Type 0
IsThere o = is_some o ≡ true

pub every_there : {A : Type 0} (f : A → Node) (xs : List A) → AllByRecursion IsThere (map (λ x. Some (f x)) xs)
every_there f [] = tt
every_there f (x ∷ xs) = (refl, every_there f xs)

span_every : (place : SignalAt) (o : Option Span) → AllByRecursion IsThere (option_map_or (span_bits place) o [])
span_every place None = tt
span_every place (Some span) = every_there _ (range_with_len span.first span.count)

use_every : (o : Option Slot) (select : Select) → AllByRecursion IsThere (signal_bits o select)
use_every None select = tt
use_every (Some slot) select = span_every slot.place (selected slot.range select)

module _ (signals : List Signal) where
  abbrev IsWhole : Expr → Type 0
  IsWhole e = is_left e ≡ true → AllByRecursion IsThere (bits signals e)

  parts_whole : (parts : List ((e : Expr) × IsWhole e)) → list_all (λ l. l) (map is_left (map (λ p. p.0) parts)) ≡ true → AllByRecursion IsThere (flat_map (bits signals) (map (λ p. p.0) parts))
  parts_whole [] h = tt
  parts_whole (p ∷ parts) h =
      let es = map (λ q. q.0) parts in
      let both = and_parts (is_left p.0) (list_all (λ l. l) (map is_left es)) h in
      every_append IsThere (bits signals p.0) (flat_map (bits signals) es) (p.1 both.0) (parts_whole parts both.1)

  is_whole : (y : Expr-F ((e : Expr) × IsWhole e)) → IsWhole (roll-Expr (map-Expr ((e : Expr) × IsWhole e) Expr (λ e. e.0) y))
  is_whole (Expr-F.Ref select name) = rw (rolls-Ref, bits-Ref) (λ h. use_every (signal_named signals name) select)
  is_whole (Expr-F.Lit literal) = rw (rolls-Lit, left-Lit) (λ h. absurd cc)
  is_whole (Expr-F.LooseNumber number) = rw (rolls-LooseNumber, left-LooseNumber) (λ h. absurd cc)
  is_whole (Expr-F.Loose based) = rw (rolls-Loose, left-Loose) (λ h. absurd cc)
  is_whole (Expr-F.Cat parts) = rw (rolls-Cat, left-Cat, bits-Cat) (parts_whole parts)
  is_whole (Expr-F.Rep count parts) = rw (rolls-Rep, left-Rep) (λ h. absurd cc)

  pub left_every : (e : Expr) → is_left e ≡ true → AllByRecursion IsThere (bits signals e)
  left_every = ind-Expr IsWhole (λ x y is. subst (λ z. IsWhole (roll-Expr z)) is (is_whole y))

-- joins

-- where the left side is all something and the two have one width, there is a join for each bit of the right side that is something
pub joins_counted : (left right : List (Option Node)) → length left ≡ length right → AllByRecursion IsThere left → length (joins_between left right) ≡ somes right
unfolding joins_between
joins_counted [] [] e all = refl
joins_counted [] (y ∷ ys) e all = absurd (omega arith)
joins_counted (x ∷ xs) [] e all = absurd (omega arith)
joins_counted (None ∷ xs) (y ∷ ys) e all = absurd (never all.0)
  where
    never : false ≡ true → ⊥
    never h = cc
joins_counted (Some a ∷ xs) (None ∷ ys) e all = joins_counted xs ys (omega arith) all.1 ∙ sym (sum_by-cons there None ys ∙ omega arith)
joins_counted (Some a ∷ xs) (Some b ∷ ys) e all = omega (arith, joins_counted xs ys (omega arith) all.1, sum_by-cons there (Some b) ys)
