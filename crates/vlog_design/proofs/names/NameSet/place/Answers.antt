use Rattle.std.proofs.Common.{ap, arith, bytes_eq, length, option_map, refl, sym, ◌+◌, ◌++◌, ◌∙◌}
use Rattle.std.specs.Prelude.{position}
use Rattle.vlog_design.specs.Tables.{keys_behind, names_of}
use Rattle.vlog_design.proofs.NameSets.{placed_behind, placed_first}
use Rattle.vlog_design.proofs.names.NameSet.place.Goals as goal

pub returns-then-place-few : goal.returns-then-place-few
returns-then-place-few c =
    let name = c.args.name.now in
    placed_first c.as_slice-few.result.now (keys_behind c.self.inside.rest) name c.place_among-place.result c.place_among-place.ensures (omega (arith, c.if-place-few.true))
    ∙ (ap (λ few. position (bytes_eq name) (names_of (few ++ keys_behind c.self.inside.rest))) c.as_slice-few.ensures.value ∙ ap (position (bytes_eq name)) c.self.view_is)

pub returns-in-None-get_index_of : goal.returns-in-None-get_index_of
returns-in-None-get_index_of c =
    let name = c.args.name.now in
    let few = c.as_slice-few.result.now in
    let keys = ap (λ rest. rest.keys) c.deref-in-Some.ensures ∙ sym (ap keys_behind c.in-Some.is) in
    ap (option_map (λ k. length few + k)) c.in-None-get_index_of.ensures.index
    ∙ (placed_behind few c.deref-in-Some.result.now.keys _ name c.place_among-place.result (λ k. refl) c.place_among-place.ensures (omega (arith, c.if-place-few.false))
    ∙ (ap (λ behind. position (bytes_eq name) (names_of (few ++ behind))) keys
    ∙ (ap (λ few. position (bytes_eq name) (names_of (few ++ keys_behind c.self.inside.rest))) c.as_slice-few.ensures.value ∙ ap (position (bytes_eq name)) c.self.view_is)))

pub returns-in-Some-get_index_of : goal.returns-in-Some-get_index_of
returns-in-Some-get_index_of c =
    let name = c.args.name.now in
    let few = c.as_slice-few.result.now in
    let keys = ap (λ rest. rest.keys) c.deref-in-Some.ensures ∙ sym (ap keys_behind c.in-Some.is) in
    ap (option_map (λ k. length few + k)) c.in-Some-get_index_of.ensures.index
    ∙ (placed_behind few c.deref-in-Some.result.now.keys _ name c.place_among-place.result (λ k. refl) c.place_among-place.ensures (omega (arith, c.if-place-few.false))
    ∙ (ap (λ behind. position (bytes_eq name) (names_of (few ++ behind))) keys
    ∙ (ap (λ few. position (bytes_eq name) (names_of (few ++ keys_behind c.self.inside.rest))) c.as_slice-few.ensures.value ∙ ap (position (bytes_eq name)) c.self.view_is)))
