-- The last values of two parts of a list of properties, which a test of their names tells apart.
use Rattle.std.proofs.Common.{◌≡◌, ℕ, inl, inr, Bool, true, false, not, cond, List, [], ◌∷◌, ◌++◌, filter, refl, sym, ◌∙◌, ap}
use Rattle.std.proofs.lemmas.Bool.{false≢true}
use Rattle.net_hier.specs.Facts.{HasLastValue, HasProperty, SameValues}
use Rattle.net_hier.specs.declared.cells.HProp.{HProp}
use Rattle.nl_base.specs.declared.value.PropValue.{PropValue}
use Rattle.net_live.proofs.NetValues.{last_either, last_left, last_right}

-- the properties whose names pass
abbrev passing : (List ℕ → Bool) → List HProp → List HProp
passing test = filter (λ (prop : HProp). test prop.name)

module _ (test : List ℕ → Bool) (name : List ℕ) where
  -- a name of what passes passes, and is a name of the list
  passed_has : (props : List HProp) → HasProperty (passing test props) name → (test name ≡ true) × HasProperty props name
  passed_has [] h = absurd h
  passed_has (prop ∷ rest) h = by (test prop.name) refl h (passed_has rest)
    where
      by : (b : Bool) → test prop.name ≡ b → HasProperty (cond b (prop ∷ passing test rest) (passing test rest)) name → (HasProperty (passing test rest) name → (test name ≡ true) × HasProperty rest name) → (test name ≡ true) × HasProperty (prop ∷ rest) name
      by true e (inl same) rec = (ap test (sym same) ∙ e, inl same)
      by true e (inr later) rec = let r = rec later in (r.0, inr r.1)
      by false e h rec = let r = rec h in (r.0, inr r.1)

  has_passed : (props : List HProp) → test name ≡ true → HasProperty props name → HasProperty (passing test props) name
  has_passed [] pass h = absurd h
  has_passed (prop ∷ rest) pass h = by (test prop.name) refl h (has_passed rest pass)
    where
      by : (b : Bool) → test prop.name ≡ b → HasProperty (prop ∷ rest) name → (HasProperty rest name → HasProperty (passing test rest) name) → HasProperty (cond b (prop ∷ passing test rest) (passing test rest)) name
      by true e (inl same) rec = inl same
      by true e (inr later) rec = inr (rec later)
      by false e (inl same) rec = absurd (false≢true (sym e ∙ (ap test same ∙ pass)))
      by false e (inr later) rec = rec later

  passed_last : (props : List HProp) (value : PropValue) → HasLastValue (passing test props) name value → (test name ≡ true) × HasLastValue props name value
  passed_last [] value h = absurd h
  passed_last (prop ∷ rest) value h = by (test prop.name) refl h (passed_last rest value)
    where
      by : (b : Bool) → test prop.name ≡ b → HasLastValue (cond b (prop ∷ passing test rest) (passing test rest)) name value → (HasLastValue (passing test rest) name value → (test name ≡ true) × HasLastValue rest name value) →
          (test name ≡ true) × HasLastValue (prop ∷ rest) name value
      by true e (inl later) rec = let r = rec later in (r.0, inl r.1)
      by true e (inr here) rec = let pass : test name ≡ true = ap test (sym here.0) ∙ e in (pass, inr (here.0, here.1, λ has. here.2 (has_passed rest pass has)))
      by false e h rec = let r = rec h in (r.0, inl r.1)

  last_passed : (props : List HProp) (value : PropValue) → test name ≡ true → HasLastValue props name value → HasLastValue (passing test props) name value
  last_passed [] value pass h = absurd h
  last_passed (prop ∷ rest) value pass h = by (test prop.name) refl h (last_passed rest value pass)
    where
      by : (b : Bool) → test prop.name ≡ b → HasLastValue (prop ∷ rest) name value → (HasLastValue rest name value → HasLastValue (passing test rest) name value) → HasLastValue (cond b (prop ∷ passing test rest) (passing test rest)) name value
      by true e (inl later) rec = inl (rec later)
      by true e (inr here) rec = inr (here.0, here.1, λ has. here.2 (passed_has rest has).1)
      by false e (inl later) rec = rec later
      by false e (inr here) rec = absurd (false≢true (sym e ∙ (ap test here.0 ∙ pass)))

-- those whose names fail, and then those whose names pass, give each name the same last value
pub parts_keep : (test : List ℕ → Bool) (props : List HProp) → SameValues props (passing (λ name. not (test name)) props ++ passing test props)
parts_keep test props name value = (λ h. to (test name) refl h, λ h. from h)
  where
    fails : List HProp
    fails = passing (λ name. not (test name)) props

    passes : List HProp
    passes = passing test props

    to : (b : Bool) → test name ≡ b → HasLastValue props name value → HasLastValue (fails ++ passes) name value
    to true e h = last_right fails passes name value (last_passed test name props value e h)
    to false e h = last_left fails passes name value (last_passed (λ name. not (test name)) name props value (ap not e) h) (λ has. false≢true (sym e ∙ (passed_has test name props has).0))

    from : HasLastValue (fails ++ passes) name value → HasLastValue props name value
    from h = elim (last_either fails passes name value h) as (λ _. HasLastValue props name value) [
      | inl later ↦ (passed_last test name props value later).1
      | inr early ↦ (passed_last (λ name. not (test name)) name props value early.0).1
    ]
