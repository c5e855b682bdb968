use Rattle.std.proofs.Common.{◌≡◌, ◌<◌, ◌∙◌, ◌∷◌, [], Some, ap, length, slice_get, subst, sym}
use Rattle.std.specs.Prelude.{option_map}
use Rattle.std.proofs.lemmas.List.{length-map}
use Rattle.std.proofs.lemmas.Option.{slice_get-map}
use Rattle.nl_base.specs.declared.rule.Rule.TheVariants.{G16}
use Rattle.vlog_design.specs.Rules.{refused}
use Rattle.vlog_design.specs.Tables.{modules_of}
use Rattle.vlog_scopes.specs.Distinct.{module_names}
use Rattle.vlog_scopes.specs.Instances.{instance_pairs, link_of, links_in, links_of}
use Rattle.vlog_scopes.proofs.RecursionLaws.{module_within, place_within, read_there, the_recursion}
use Rattle.vlog_scopes.proofs.recursion.refuse_recursion.Goals as goal

pub bounds-modules-number : goal.bounds-modules-number
bounds-modules-number c =
    subst (λ n. c.args.number < n) (length-map c.args.modules.now (λ m. m.now)) (module_within (modules_of c.args.modules.now) c.requires.differ c.args.number c.args.place c.requires.first)

pub index-requires : goal.index-requires
index-requires c =
    let modules = modules_of c.args.modules.now in
    let m = c.index-modules-number.result.now in
    let inside : c.args.number < length c.args.modules.now = subst (λ n. c.args.number < n) (length-map c.args.modules.now (λ x. x.now)) (module_within modules c.requires.differ c.args.number c.args.place c.requires.first) in
    let stands : slice_get modules c.args.number ≡ Some m =
    slice_get-map (λ x. x.now) c.args.modules.now c.args.number ∙ ap (option_map (λ x. x.now)) (read_there c.args.modules.now c.args.number _ c.index-modules-number.result inside c.index-modules-number.is) in
    let links : links_of c.in_ok-found.found.items ≡ links_in (module_names modules) (instance_pairs m) = c.in_ok-found.ensures ∙ ap (λ names. links_in names (instance_pairs m)) c.requires.are_named in
    subst (λ n. c.args.place < n) (sym (ap length links) ∙ (length-map c.in_ok-found.found.items link_of ∙ sym c.in_ok-found.found.ok.0)) (place_within modules c.requires.differ c.args.number c.args.place c.requires.first m stands)

pub returns : goal.returns
returns c =
    let modules = modules_of c.args.modules.now in
    let m = c.index-modules-number.result.now in
    let inside : c.args.number < length c.args.modules.now = subst (λ n. c.args.number < n) (length-map c.args.modules.now (λ x. x.now)) (module_within modules c.requires.differ c.args.number c.args.place c.requires.first) in
    let stands : slice_get modules c.args.number ≡ Some m =
    slice_get-map (λ x. x.now) c.args.modules.now c.args.number ∙ ap (option_map (λ x. x.now)) (read_there c.args.modules.now c.args.number _ c.index-modules-number.result inside c.index-modules-number.is) in
    let links : links_of c.in_ok-found.found.items ≡ links_in (module_names modules) (instance_pairs m) = c.in_ok-found.ensures ∙ ap (λ names. links_in names (instance_pairs m)) c.requires.are_named in
    let within : c.args.place < length c.in_ok-found.found.items =
    subst (λ n. c.args.place < n) (sym (ap length links) ∙ length-map c.in_ok-found.found.items link_of) (place_within modules c.requires.differ c.args.number c.args.place c.requires.first m stands) in
    let link = link_of c.index.result.now in
    let linked : slice_get (links_in (module_names modules) (instance_pairs m)) c.args.place ≡ Some link =
    ap (λ ls. slice_get ls c.args.place) (sym links)
    ∙ (slice_get-map link_of c.in_ok-found.found.items c.args.place ∙ ap (option_map link_of) (read_there c.in_ok-found.found.items c.args.place _ c.index.result.now within c.index.ensures)) in
    ap Some (c.in_ok-refusal.ensures ∙ ap (λ cell. refused G16 cell (link.0 ∷ [])) c.bytes.ensures)
    ∙ the_recursion modules c.requires.differ c.args.number c.args.place c.requires.first m link stands linked
