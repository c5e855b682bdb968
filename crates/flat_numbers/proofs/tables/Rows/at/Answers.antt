use Rattle.std.proofs.Common.{◌≡◌, ◌<◌, Some, ap, arith, length, subst, sym, ◌∙◌, slice_get}
use Rattle.std.proofs.lemmas.Option.{get_or_from_slice_get, slice_get_within}
use Rattle.net_bits.specs.Parts.{part, parts}
use Rattle.flat_numbers.specs.Tables.{HasNumber}
use Rattle.flat_numbers.proofs.Rows.{number_in, rows_count}
use Rattle.flat_numbers.proofs.tables.Rows.at.Goals as goal

pub part_of-requires-clause-there : goal.part_of-requires-clause-there
part_of-requires-clause-there c =
    let starts = c.self.inside.starts.items in
    let items = c.self.inside.items.items in
    let h : HasNumber c.args.self.now c.args.row c.args.place c.requires.0 = c.requires.1 in
    let lt : c.args.row < length c.args.self.now = slice_get_within c.args.self.now c.args.row h.the_row h.is_row in
    let read = ap length c.as_slice.ensures.value in
    let count : length (parts starts items) ≡ length c.args.self.now = ap length c.self.view_is in
    omega (arith, lt, read, count, rows_count starts items)

pub bounds-part_of-place : goal.bounds-part_of-place
bounds-part_of-place c =
    let read : c.part_of.result.now ≡ part c.self.inside.starts.items c.self.inside.items.items c.args.row = c.part_of.ensures ∙ (ap (λ s. part s c.as_slice-2.result.now c.args.row) c.as_slice.ensures.value ∙ ap (λ i. part c.self.inside.starts.items i c.args.row) c.as_slice-2.ensures.value) in
    let there = number_in c.self.inside.starts.items c.self.inside.items.items c.args.self.now c.args.row c.args.place c.requires.0 c.self.view_is c.requires.1 in
    slice_get_within c.part_of.result.now c.args.place c.requires.0 (subst (λ w. slice_get w c.args.place ≡ Some c.requires.0) (sym read) there)

pub returns : goal.returns
returns c = λ number h.
    let read : c.part_of.result.now ≡ part c.self.inside.starts.items c.self.inside.items.items c.args.row = c.part_of.ensures ∙ (ap (λ s. part s c.as_slice-2.result.now c.args.row) c.as_slice.ensures.value ∙ ap (λ i. part c.self.inside.starts.items i c.args.row) c.as_slice-2.ensures.value) in
    let there = number_in c.self.inside.starts.items c.self.inside.items.items c.args.self.now c.args.row c.args.place number c.self.view_is h in
    get_or_from_slice_get c.part_of.result.now c.args.place number 0 (subst (λ w. slice_get w c.args.place ≡ Some number) (sym read) there)
