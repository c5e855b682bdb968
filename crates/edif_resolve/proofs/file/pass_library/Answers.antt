use Rattle.std.proofs.Common.{◌≡◌, ◌+◌, ◌≤◌, ◌∷◌, [], ◌∙◌, ap, length, arith}
use Rattle.std.specs.Prelude.{codes, ◌||◌}
use Rattle.std.proofs.Common.{refl}
use Rattle.std.proofs.lemmas.List.{length-map}
use Rattle.nl_base.specs.Case.{same_bytes}
use Rattle.nl_base.specs.declared.rule.Rule.TheVariants.{E5}
use Rattle.edif_lookup.specs.Refusals.{broken, in_order, is_in, lowest}
use Rattle.edif_design.specs.FileRules.{library_cell_refusals}
use Rattle.edif_design.specs.Tables.{seen}
use Rattle.edif_resolve.proofs.Sizes.{own_few, own_small}
use Rattle.edif_resolve.proofs.Walking.{passed_library}
use Rattle.edif_resolve.proofs.file.pass_library.Goals as goal

pub library_refusal-requires-clause-few : goal.library_refusal-requires-clause-few
library_refusal-requires-clause-few c =
    let a : c.args.walk.cells ≤ 268435456 = c.requires.few.1 in
    let b : length c.in_ok-own.own.items ≤ 268435456 = own_few c.args.library.now c.in_ok-own.own.items c.in_ok-own.ensures 268435456 c.requires.small in
    omega (arith, a, b, ap length c.as_slice.ensures.value)

pub library_refusal-requires-clause-small : goal.library_refusal-requires-clause-small
library_refusal-requires-clause-small c = own_small c.args.library.now c.as_slice.result.now (ap seen c.as_slice.ensures.value ∙ c.in_ok-own.ensures) 268435456 c.requires.small

pub overflow_cast-result : goal.overflow_cast-result
overflow_cast-result c =
    let b : length c.in_ok-own.own.items ≤ 268435456 = own_few c.args.library.now c.in_ok-own.own.items c.in_ok-own.ensures 268435456 c.requires.small in
    omega (arith, b, c.len.ensures, c.in_ok-own.own.ok.0)

pub overflow_add-result-2 : goal.overflow_add-result-2
overflow_add-result-2 c =
    let a : c.args.walk.cells ≤ 268435456 = c.requires.few.1 in
    let b : length c.in_ok-own.own.items ≤ 268435456 = own_few c.args.library.now c.in_ok-own.own.items c.in_ok-own.ensures 268435456 c.requires.small in
    omega (arith, a, b, c.len.ensures, c.in_ok-own.own.ok.0)

pub returns : goal.returns
returns c before passed =
    passed_library c.args.tabled.now before c.args.walk passed c.args.library.now c.in_ok-taken.taken (c.in_ok-taken.ensures.known ∙ ap (λ s. is_in s c.args.walk.names) c.bytes-ident.ensures.bytes)
    c.note.new.self (λ other. c.in_ok-taken.ensures.noted other ∙ ap (λ s. same_bytes other s || is_in other c.args.walk.names) c.bytes-ident.ensures.bytes)
    (seen c.in_ok-own.own.items) c.in_ok-own.ensures c.in_ok-second.second c.in_ok-parts.parts c.lower.result c.lower-2.result
    (c.in_ok-second.ensures ∙ ap (λ s. lowest (broken c.in_ok-taken.taken E5 [] (codes "library" ∷ (s ∷ [])))) c.bytes-ident.ensures.bytes)
    (c.in_ok-parts.ensures ∙ ap (λ own. lowest (in_order (library_cell_refusals c.args.tabled.now c.args.walk.libraries c.args.walk.cells) (seen own))) c.as_slice.ensures.value)
    c.lower.ensures c.lower-2.ensures _ _ refl
    (let e : length (seen c.in_ok-own.own.items) ≡ length c.in_ok-own.own.items = length-map c.in_ok-own.own.items (λ cell. cell.now) in
    ap (λ n. c.args.walk.cells + n) (let f : c.len.result ≡ length (seen c.in_ok-own.own.items) = omega (arith, e, c.len.ensures, c.in_ok-own.own.ok.0) in f))
