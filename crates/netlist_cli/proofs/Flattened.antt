-- What is said of flattened designs, and what is made of them.
use Rattle.std.proofs.Common.{◌≡◌, ℕ, ◌<◌, ◌≤◌, List, true, false, Option, Some, None, refl, sym, ap, subst, ◌∙◌, ◌⊎◌, inl, inr, arith}
use Rattle.std.specs.Prelude.{nat_lt}
use Rattle.nl_base.specs.declared.rule.Refusal.{Refusal}
use Rattle.edif_design.specs.Design.{edif_design}
use Rattle.edif_design.specs.FileRules.{first_E}
use Rattle.edif_design_laws.proofs.Clean.{no_refusals}
use Rattle.edif_values.specs.declared.file.EdifFile.{EdifFile}
use Rattle.edif_resolve.proofs.Clean.{top_there}
use Rattle.edif_resolve.proofs.Fitting.{good_cells}
use Rattle.flat_classes.specs.FlatSums.{flat_count, flat_limit}
use Rattle.net_flatten.specs.Flattening.{IsFirstRefusal, IsFlattening}
use Rattle.net_flatten_one.proofs.One.{one_design, one_flattened, one_refusals}
use Rattle.net_flatten_one.specs.Parts.{HasParts}
use Rattle.net_flatten_rules.specs.Rules.{first_of, refusals, refused}
use Rattle.net_flatten_rules.specs.declared.refusal.Broken.{Broken}
use Rattle.net_flatten_rules.specs.declared.refusal.FlattenRule.{FlattenRule}
use Rattle.net_hier.specs.Constants.{ConstantNames}
use Rattle.net_hier.specs.Design.{Design}
use Rattle.net_hier.specs.Valid.{HaveOwnInstances, IsValid}
use Rattle.net_hier.specs.declared.cells.HCell.{HCell}
use Rattle.net_hier.specs.declared.cells.HProp.{HProp}
use Rattle.netlist_cli.specs.declared.failure.Failure.{Failure}
use Rattle.netlist_cli.specs.declared.failure.Failure.TheVariants as failures
use Rattle.netlist_cli.specs.declared.tools.ToolRefusal.{ToolRefusal}
use Rattle.netlist_cli.specs.Designs.{IsBroken, IsFlatOf, IsNotFlattened}
use Rattle.netlist_cli.specs.Meanings.{Judgement, SaysFlattened, SaysOfFlat, flat_rules, plain_target}
use Rattle.netlist_cli.specs.Outcomes.{Verdict, breaks, breaks_of_tool, exceeds, exceeds_flat, fine, or_refused, said_of_count}
use Rattle.netlist_cli.specs.Runs.{IsFailureOf}
use Rattle.netlist_cli.specs.Tools.{BreaksFlatten, Flattens, flatten_refusal}
use Rattle.netlist_cli.proofs.Verdicts.{said_at_first, said_then}

-- a file that breaks no rule has instances with names of their own
pub own_instances : (file : EdifFile) → first_E file ≡ None → HaveOwnInstances (edif_design file).cells
own_instances file h number cell there =
    let clean = no_refusals file h in
    let top = top_there file clean in
    (good_cells file clean top.0 top.1 number cell there).instance_names

-- ---- the flat limit

count_within : (count : ℕ) → count ≤ flat_limit → said_of_count count ≡ None
count_within count le = let e : nat_lt flat_limit count ≡ false = grind (arith, le) in rw e refl

count_past : (n count : ℕ) → n ≡ count → flat_limit < n → said_of_count count ≡ Some (exceeds_flat n)
count_past n count is lt = let e : nat_lt flat_limit count ≡ true = grind (arith, is, lt) in rw e (ap (λ m. Some (exceeds_flat m)) (sym is))

-- ---- what is said of a flattened design

no_tool : (first : Option Refusal) (r : ToolRefusal) → or_refused first fine ≡ breaks_of_tool r → ⊥
no_tool None r e = absurd cc
no_tool (Some s) r e = absurd cc

no_units : (first : Option Refusal) (n : ℕ) → or_refused first fine ≡ exceeds n → ⊥
no_units None n e = absurd cc
no_units (Some s) n e = absurd cc

no_count : (first : Option Refusal) (n : ℕ) → or_refused first fine ≡ exceeds_flat n → ⊥
no_count None n e = absurd cc
no_count (Some s) n e = absurd cc

module _ (names : ConstantNames) (judge : Judgement) (design : Design) where
  -- what is said where the flat count is within the limit
  said_of_few : flat_count design.cells design.top ≤ flat_limit → (verdict : Verdict) → SaysFlattened names judge design.cells design.top design.props verdict
      → flat_rules names judge design.cells design.top design.props verdict
  said_of_few few verdict said = said_then (SaysFlattened names judge design.cells design.top design.props) verdict (said_of_count (flat_count design.cells design.top)) (count_within _ few) said

  -- why there is no flattened design, in the words of what is said of it
  pub not_flattened : (f : Failure) → IsNotFlattened names design f → IsFailureOf (flat_rules names judge design.cells design.top design.props) f
  not_flattened (failures.Text f) h = absurd h
  not_flattened failures.ReadFault h = absurd h
  not_flattened failures.WriteFault h = absurd h
  not_flattened failures.Usage h = absurd h
  not_flattened failures.NoMemory h = tt
  not_flattened failures.InputLimit h = absurd h
  not_flattened (failures.Refused r) h = absurd h
  not_flattened (failures.RefusedByTool r) h = said_of_few h.few (breaks_of_tool r) h.breaks
  not_flattened (failures.DesignLimit n) h = absurd h
  not_flattened (failures.FlatLimit n) h =
      said_at_first (SaysFlattened names judge design.cells design.top design.props) (exceeds_flat n) (said_of_count (flat_count design.cells design.top)) (count_past n _ h.is_count h.passes)

  module _ (flat : Design) (h : IsFlatOf names design flat) where
    flat_said : (verdict : Verdict) → judge flat.cells flat.top flat.props verdict → SaysOfFlat names judge design.cells design.top design.props verdict
    flat_said verdict said = record {
      flat = flat;
      flattens = record { design = design; parts = record { same_cells = refl; same_top = refl; same_props = refl }; valid = h.valid; flattens = h.flattens };
      is_said = said;
    }

    pub fine_said : judge flat.cells flat.top flat.props fine → flat_rules names judge design.cells design.top design.props fine
    fine_said said = said_of_few h.flattens.few fine (flat_said fine said)

    pub refusal_said : (r : Refusal) → judge flat.cells flat.top flat.props (breaks r) → flat_rules names judge design.cells design.top design.props (breaks r)
    refusal_said r said = said_of_few h.flattens.few (breaks r) (flat_said (breaks r) said)

-- a failure of the target is one of the flattened design
pub target_failed : (names : ConstantNames) (design flat : Design) → IsFlatOf names design flat → (f : Failure) → IsFailureOf (plain_target flat.cells flat.top flat.props) f
    → IsFailureOf (flat_rules names plain_target design.cells design.top design.props) f
target_failed names design flat h (failures.Text f) k = absurd k
target_failed names design flat h failures.ReadFault k = absurd k
target_failed names design flat h failures.WriteFault k = absurd k
target_failed names design flat h failures.Usage k = absurd k
target_failed names design flat h failures.NoMemory k = tt
target_failed names design flat h failures.InputLimit k = absurd k
target_failed names design flat h (failures.Refused r) k = refusal_said names plain_target design flat h r k
target_failed names design flat h (failures.RefusedByTool r) k = absurd (no_tool _ r k)
target_failed names design flat h (failures.DesignLimit n) k = absurd (no_units _ n k)
target_failed names design flat h (failures.FlatLimit n) k = absurd (no_count _ n k)

-- a rule of flattened designs is broken
pub broken_tells : (names : ConstantNames) (design : Design) → IsValid design → (rule : FlattenRule) (cell : List ℕ) (words : List (List ℕ)) → IsFirstRefusal names design rule cell words
    → IsBroken names design (flatten_refusal rule cell words)
broken_tells names design valid rule cell words first = record {
  few = first.few;
  breaks = record {
    design = design;
    parts = record { same_cells = refl; same_top = refl; same_props = refl };
    valid = valid;
    rule = rule;
    cell = cell;
    words = words;
    is_first = first;
    is_refusal = refl;
  };
}

-- ---- one thing is said

same_one : (a b : Broken) → Some a ≡ Some b → a ≡ b
same_one a b e = cc

module _ (names : ConstantNames) (judge : Judgement) (cells : List HCell) (top : ℕ) (props : List HProp) where
  -- a refusal by the rules of flattened designs
  record ByRule (verdict : Verdict) : Type 0 where
    refusal : ToolRefusal
    broken : BreaksFlatten names cells top props refusal
    is_verdict : verdict ≡ breaks_of_tool refusal

  either : (v : Verdict) → SaysFlattened names judge cells top props v → ByRule v ⊎ SaysOfFlat names judge cells top props v
  either fine h = inr h
  either (breaks r) h = inr h
  either (breaks_of_tool r) h = inl (record { refusal = r; broken = h; is_verdict = refl })
  either (exceeds n) h = absurd h
  either (exceeds_flat n) h = absurd h

  same_first : (rule other : FlattenRule) (cell ocell : List ℕ) (words owords : List (List ℕ)) → Some (refused rule cell words) ≡ Some (refused other ocell owords) → flatten_refusal rule cell words ≡ flatten_refusal other ocell owords
  same_first rule other cell ocell words owords e = ap (λ (b : Broken). flatten_refusal b.rule b.cell b.names) (same_one _ _ e)

  one_broken : (r s : ToolRefusal) → BreaksFlatten names cells top props r → BreaksFlatten names cells top props s → r ≡ s
  one_broken r s h k =
      let same : k.design ≡ h.design = one_design cells top props k.design h.design k.parts h.parts k.valid h.valid in
      let other : IsFirstRefusal names h.design k.rule k.cell k.words = subst (λ (d : Design). IsFirstRefusal names d k.rule k.cell k.words) same k.is_first in
      let lists : refusals h.design h.is_first.paths h.is_first.flat ≡ refusals h.design other.paths other.flat =
      one_refusals names h.design h.valid h.is_first.flat other.flat h.is_first.paths other.paths h.is_first.are_classes other.are_classes h.is_first.are_paths other.are_paths in
      h.is_refusal ∙ (same_first h.rule k.rule h.cell k.cell h.words k.words (sym h.is_first.is_first ∙ (ap (λ l. first_of l) lists ∙ other.is_first)) ∙ sym k.is_refusal)

  not_both : (r : ToolRefusal) (flat : Design) → BreaksFlatten names cells top props r → Flattens names cells top props flat → ⊥
  not_both r flat h k =
      let same : k.design ≡ h.design = one_design cells top props k.design h.design k.parts h.parts k.valid h.valid in
      let other : IsFlattening names h.design flat = subst (λ (d : Design). IsFlattening names d flat) same k.flattens in
      let is = other.is_flattened in
      let lists : refusals h.design h.is_first.paths h.is_first.flat ≡ refusals h.design is.paths is.flat =
      one_refusals names h.design h.valid h.is_first.flat is.flat h.is_first.paths is.paths h.is_first.are_classes is.are_classes h.is_first.are_paths is.are_paths in
      let none : first_of (refusals h.design h.is_first.paths h.is_first.flat) ≡ None = ap (λ l. first_of l) (lists ∙ other.no_refusals) in
      let some = h.is_first.is_first in
      absurd cc

  same_flats : (a b : Design) → Flattens names cells top props a → Flattens names cells top props b → HasParts a.cells a.top a.props b
  same_flats a b h k =
      let same : k.design ≡ h.design = one_design cells top props k.design h.design k.parts h.parts k.valid h.valid in
      let other : IsFlattening names h.design b = subst (λ (d : Design). IsFlattening names d b) same k.flattens in
      one_flattened names h.design h.valid a b h.flattens.is_flattened other.is_flattened

  module _ (one : (cs : List HCell) (t : ℕ) (ps : List HProp) (v w : Verdict) → judge cs t ps v → judge cs t ps w → v ≡ w) where
    one_of_flats : (v w : Verdict) → SaysOfFlat names judge cells top props v → SaysOfFlat names judge cells top props w → v ≡ w
    one_of_flats v w h k =
        let parts = same_flats h.flat k.flat h.flattens k.flattens in
        one h.flat.cells h.flat.top h.flat.props v w h.is_said (rw (parts.same_cells, parts.same_top, parts.same_props) at k.is_said)

    pub one_of_flattened : (v w : Verdict) → SaysFlattened names judge cells top props v → SaysFlattened names judge cells top props w → v ≡ w
    one_of_flattened v w h k = elim (either v h) [
      | inl a ↦ elim (either w k) [
        | inl b ↦ a.is_verdict ∙ (ap breaks_of_tool (one_broken a.refusal b.refusal a.broken b.broken) ∙ sym b.is_verdict)
        | inr b ↦ absurd (not_both a.refusal b.flat a.broken b.flattens)
      ]
      | inr a ↦ elim (either w k) [
        | inl b ↦ absurd (not_both b.refusal a.flat b.broken a.flattens)
        | inr b ↦ one_of_flats v w a b
      ]
    ]
