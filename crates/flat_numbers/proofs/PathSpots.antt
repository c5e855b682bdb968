-- paths and spots go with one another
use Rattle.std.proofs.Common.{◌≡◌, ℕ, zero, suc, ◌<◌, List, [], ◌∷◌, refl, sym, ◌∙◌, ap, subst, subst₂, slice_get, Some, arith}
use Rattle.net_hier.specs.Design.{Design, IsCell}
use Rattle.net_hier.specs.Paths.{Path, LeadsTo, HasInstance, CellAt}
use Rattle.net_hier.specs.Valid.{IsValid}
use Rattle.net_hier.specs.declared.cells.HCell.{HCell}
use Rattle.net_hier.specs.declared.cells.HInst.{HInst}
use Rattle.net_hier.proofs.PathLaws.{same_element}
use Rattle.flat_numbers.specs.Spots.{IsSpotBelow, IsSpotOf, top_spot}
use Rattle.flat_numbers.specs.Numbers.{CellOf}
use Rattle.flat_numbers.specs.declared.spots.Spot.{Spot}
use Rattle.flat_numbers.proofs.SpotLaws.{HasParent, SpotFacts, spot_of}

module _ (design : Design) (valid : IsValid design) (spots : List Spot) (facts : SpotFacts design.cells design.top spots) where
  -- the path of a spot leads to the spot's cell
  pub spot_leads : (path : Path) (number : ℕ) → IsSpotOf design.cells spots path number → (spot : Spot) × (slice_get spots number ≡ Some spot) × LeadsTo design.cells design.top path spot.cell
  spot_leads [] number at = (top_spot design.top, subst (λ n. slice_get spots n ≡ Some (top_spot design.top)) (sym at) facts.first, refl)
  spot_leads (name ∷ path) number at =
      let b : IsSpotBelow design.cells spots at.0 name number = at.2 in
      let (above, is_above, leads) = spot_leads path at.0 at.1 in
      let h : HasParent design.cells 0 spots number b.spot = facts.inside number b.spot b.no_top b.is_spot in
      let same_before : h.before ≡ at.0 = omega (arith, h.of_parent, b.of_parent) in
      let same_above : h.above ≡ b.above = same_element spots at.0 h.above b.above (subst (λ n. slice_get spots n ≡ Some h.above) same_before h.is_above) b.is_above in
      let same_cell : h.cell ≡ b.cell = same_element design.cells b.above.cell h.cell b.cell (subst (λ s. IsCell design.cells s.cell h.cell) same_above h.is_cell) b.is_cell in
      let same_instance : h.instance ≡ b.instance = same_element b.cell.instances b.spot.instance h.instance b.instance (subst (λ c. slice_get c.instances b.spot.instance ≡ Some h.instance) same_cell h.is_there) b.is_there in
      let top_above : above ≡ b.above = same_element spots at.0 above b.above is_above b.is_above in (
        b.spot,
        b.is_spot,
        (
          b.above.cell,
          subst (λ s. LeadsTo design.cells design.top path s.cell) top_above leads,
          record {
            cell = b.cell;
            is_cell = b.is_cell;
            number = b.spot.instance;
            instance = b.instance;
            is_there = b.is_there;
            is_named = b.is_named;
            is_of = sym (h.of_cell ∙ ap (λ i. i.cell) same_instance);
          },
        ),
      )

  pub cell_of_spot : (path : Path) (number : ℕ) (cell : HCell) → IsSpotOf design.cells spots path number → CellOf design.cells spots number cell → CellAt design path cell
  cell_of_spot path number cell at of =
      let (spot, is_spot, leads) = spot_leads path number at in
      let same : of.spot ≡ spot = same_element spots number of.spot spot of.is_spot is_spot in
      record { number = spot.cell; leads = leads; is_cell = subst (λ s. IsCell design.cells s.cell cell) same of.is_cell }

  -- the spot of an instance of the cell at a spot
  pub next_spot : (number : ℕ) (cell : HCell) (instance : ℕ) (the_instance : HInst) → CellOf design.cells spots number cell → slice_get cell.instances instance ≡ Some the_instance →
      (inner : ℕ) × (slice_get spots inner ≡ Some (spot_of number instance the_instance)) × IsSpotBelow design.cells spots number the_instance.name inner
  next_spot number cell instance the_instance of there =
      let (inner, lt, is) = facts.each number of.spot cell instance the_instance of.is_spot of.is_cell there in (
        inner,
        is,
        record {
          above = of.spot;
          is_above = of.is_spot;
          spot = spot_of number instance the_instance;
          is_spot = is;
          no_top = omega (arith, lt);
          of_parent = refl;
          cell = cell;
          is_cell = of.is_cell;
          instance = the_instance;
          is_there = there;
          is_named = refl;
        },
      )

  -- each path has a spot
  pub path_has_spot : (path : Path) (number : ℕ) → LeadsTo design.cells design.top path number → (place : ℕ) × IsSpotOf design.cells spots path place × ((spot : Spot) × (slice_get spots place ≡ Some spot) × (spot.cell ≡ number))
  path_has_spot [] number leads = (0, refl, (top_spot design.top, facts.first, sym leads))
  path_has_spot (name ∷ path) number leads =
      let i : HasInstance design.cells leads.0 name number = leads.2 in
      let (outer, at, (above, is_above, of_outer)) = path_has_spot path leads.0 leads.1 in
      let of : CellOf design.cells spots outer i.cell = record { spot = above; is_spot = is_above; is_cell = subst (λ n. IsCell design.cells n i.cell) (sym of_outer) i.is_cell } in
      let (inner, is, below) = next_spot outer i.cell i.number i.instance of i.is_there in
      (inner, (outer, at, subst (λ n. IsSpotBelow design.cells spots outer n inner) i.is_named below), (spot_of outer i.number i.instance, is, i.is_of))

  pub spot_of_cell : (path : Path) (cell : HCell) → CellAt design path cell → (number : ℕ) × IsSpotOf design.cells spots path number × CellOf design.cells spots number cell
  spot_of_cell path cell at =
      let (number, is, (spot, is_spot, same)) = path_has_spot path at.number at.leads in
      (number, is, record { spot = spot; is_spot = is_spot; is_cell = subst (λ n. IsCell design.cells n cell) (sym same) at.is_cell })

  -- two spots of one instance are one
  same_below : (outer : ℕ) (name : List ℕ) (a b : ℕ) → IsSpotBelow design.cells spots outer name a → IsSpotBelow design.cells spots outer name b → a ≡ b
  same_below outer name a b ha hb =
      let same_above : ha.above ≡ hb.above = same_element spots outer ha.above hb.above ha.is_above hb.is_above in
      let same_cell : ha.cell ≡ hb.cell = same_element design.cells hb.above.cell ha.cell hb.cell (subst (λ s. IsCell design.cells s.cell ha.cell) same_above ha.is_cell) hb.is_cell in
      let there : slice_get hb.cell.instances ha.spot.instance ≡ Some ha.instance = subst (λ c. slice_get c.instances ha.spot.instance ≡ Some ha.instance) same_cell ha.is_there in
      let p : ha.spot.instance ≡ hb.spot.instance = (valid.good_cells hb.above.cell hb.cell hb.is_cell).instance_names ha.spot.instance hb.spot.instance ha.instance hb.instance there hb.is_there (ha.is_named ∙ sym hb.is_named) in
      facts.once a b ha.spot hb.spot ha.no_top hb.no_top ha.is_spot hb.is_spot (ha.of_parent ∙ sym hb.of_parent) p

  -- a path has one spot
  pub one_spot : (path : Path) (a b : ℕ) → IsSpotOf design.cells spots path a → IsSpotOf design.cells spots path b → a ≡ b
  one_spot [] a b ha hb = ha ∙ sym hb
  one_spot (name ∷ path) a b ha hb =
      let e : ha.0 ≡ hb.0 = one_spot path ha.0 hb.0 ha.1 hb.1 in
      same_below hb.0 name a b (subst (λ o. IsSpotBelow design.cells spots o name a) e ha.2) hb.2

  -- a spot has one path
  pub one_path : (p q : Path) (number : ℕ) → IsSpotOf design.cells spots p number → IsSpotOf design.cells spots q number → p ≡ q
  one_path [] [] number hp hq = refl
  one_path [] (name ∷ q) number hp hq = let b : IsSpotBelow design.cells spots hq.0 name number = hq.2 in absurd (omega (arith, hp, b.no_top))
  one_path (name ∷ p) [] number hp hq = let b : IsSpotBelow design.cells spots hp.0 name number = hp.2 in absurd (omega (arith, hq, b.no_top))
  one_path (name ∷ p) (oname ∷ q) number hp hq =
      let a : IsSpotBelow design.cells spots hp.0 name number = hp.2 in
      let b : IsSpotBelow design.cells spots hq.0 oname number = hq.2 in
      let same_spot : a.spot ≡ b.spot = same_element spots number a.spot b.spot a.is_spot b.is_spot in
      let e : hp.0 ≡ hq.0 = sym a.of_parent ∙ (ap (λ s. s.parent) same_spot ∙ b.of_parent) in
      let same_above : a.above ≡ b.above = same_element spots hq.0 a.above b.above (subst (λ n. slice_get spots n ≡ Some a.above) e a.is_above) b.is_above in
      let same_cell : a.cell ≡ b.cell = same_element design.cells b.above.cell a.cell b.cell (subst (λ s. IsCell design.cells s.cell a.cell) same_above a.is_cell) b.is_cell in
      let there : slice_get b.cell.instances b.spot.instance ≡ Some a.instance = subst₂ (λ (c : HCell) (s : Spot). slice_get c.instances s.instance ≡ Some a.instance) same_cell same_spot a.is_there in
      let same_instance : a.instance ≡ b.instance = same_element b.cell.instances b.spot.instance a.instance b.instance there b.is_there in
      let same_name : name ≡ oname = sym a.is_named ∙ (ap (λ i. i.name) same_instance ∙ b.is_named) in
      let rest : p ≡ q = one_path p q hq.0 (subst (IsSpotOf design.cells spots p) e hp.1) hq.1 in
      ap (λ n. n ∷ p) same_name ∙ ap (λ r. oname ∷ r) rest

  -- each spot has a path
  spot_path : (bound number : ℕ) (spot : Spot) → number < bound → slice_get spots number ≡ Some spot → (path : Path) × IsSpotOf design.cells spots path number
  spot_path zero number spot lt is = absurd (omega arith)
  spot_path (suc bound) zero spot lt is = ([], refl)
  spot_path (suc bound) (suc number) spot lt is =
      let h : HasParent design.cells 0 spots (suc number) spot = facts.inside (suc number) spot (omega arith) is in
      let (path, at) = spot_path bound h.before h.above (omega (arith, lt, h.is_before)) h.is_above in (
        h.instance.name ∷ path,
        (
          h.before,
          at,
          record {
            above = h.above;
            is_above = h.is_above;
            spot = spot;
            is_spot = is;
            no_top = omega arith;
            of_parent = omega (arith, h.of_parent);
            cell = h.cell;
            is_cell = h.is_cell;
            instance = h.instance;
            is_there = h.is_there;
            is_named = refl;
          },
        ),
      )

  pub spot_has_path : (number : ℕ) (spot : Spot) → slice_get spots number ≡ Some spot → (path : Path) × IsSpotOf design.cells spots path number
  spot_has_path number spot is = spot_path (suc number) number spot (omega arith) is
