use Rattle.std.proofs.Common.{◌≡◌, ◌⊎◌, inl, inr, List, [], ◌∷◌, ◌++◌, refl, sym, subst}
use Rattle.net_graph.specs.Walks.{IsLinked, Leads}

Leads-append : {A : Type 0} (Step : A → A → Type 0) (x : A) (places : List A) (y : A) (more : List A) (z : A) → Leads Step x places y → Leads Step y more z → Leads Step x (places ++ more) z
Leads-append Step x [] y more z first second = subst (λ v. Leads Step v more z) (sym first) second
Leads-append Step x (next ∷ rest) y more z first second = (first.0, Leads-append Step next rest y more z first.1 second)

pub linked_itself : {A : Type 0} (Step : A → A → Type 0) (x : A) → IsLinked Step x x
linked_itself Step x = record { places = []; lead = refl }

pub linked_by : {A : Type 0} {Step : A → A → Type 0} {x y : A} → Step x y → IsLinked Step x y
linked_by {y = y} step = record { places = y ∷ []; lead = (step, refl) }

pub linked_along : {A : Type 0} {Step : A → A → Type 0} {x y z : A} → IsLinked Step x y → IsLinked Step y z → IsLinked Step x z
linked_along {Step = Step} {x = x} {y = y} {z = z} first second =
    record { places = first.places ++ second.places; lead = Leads-append Step x first.places y second.places z first.lead second.lead }

-- where each step of one kind is a link of the other
each_linked : {A B : Type 0} (Step : A → A → Type 0) (Other : B → B → Type 0) (f : A → B) → ((x y : A) → Step x y → IsLinked Other (f x) (f y)) →
    (x : A) (places : List A) (y : A) → Leads Step x places y → IsLinked Other (f x) (f y)
each_linked Step Other f each x [] y lead = subst (λ v. IsLinked Other (f x) (f v)) lead (linked_itself Other (f x))
each_linked Step Other f each x (next ∷ rest) y lead = linked_along (each x next lead.0) (each_linked Step Other f each next rest y lead.1)

pub linked_map : {A B : Type 0} (Step : A → A → Type 0) (Other : B → B → Type 0) (f : A → B) → ((x y : A) → Step x y → IsLinked Other (f x) (f y)) →
    {x y : A} → IsLinked Step x y → IsLinked Other (f x) (f y)
linked_map Step Other f each {x = x} {y = y} link = each_linked Step Other f each x link.places y link.lead

back_along : {A : Type 0} (Step : A → A → Type 0) → ((x y : A) → Step x y → Step y x) → (x : A) (places : List A) (y : A) → Leads Step x places y → IsLinked Step y x
back_along Step turn x [] y lead = subst (λ v. IsLinked Step v x) lead (linked_itself Step x)
back_along Step turn x (next ∷ rest) y lead = linked_along (back_along Step turn next rest y lead.1) (linked_by (turn x next lead.0))

pub linked_back : {A : Type 0} (Step : A → A → Type 0) → ((x y : A) → Step x y → Step y x) → {x y : A} → IsLinked Step x y → IsLinked Step y x
linked_back Step turn {x = x} {y = y} link = back_along Step turn x link.places y link.lead

-- a place from which no step leads is linked to itself alone
stays : {A : Type 0} (Step : A → A → Type 0) (x : A) → ((y : A) → ¬ Step x y) → (places : List A) (y : A) → Leads Step x places y → x ≡ y
stays Step x none [] y lead = lead
stays Step x none (next ∷ rest) y lead = absurd (none next lead.0)

pub linked_alone : {A : Type 0} (Step : A → A → Type 0) (x : A) → ((y : A) → ¬ Step x y) → {y : A} → IsLinked Step x y → x ≡ y
linked_alone Step x none {y = y} link = stays Step x none link.places y link.lead

-- from z, which has a partner, one gets to e, which has one too, and e is near w
pub record Crosses {A B : Type 0} (Linked : B → B → Type 0) (Partner : A → B → Type 0) (Near : A → A → Type 0) (z w : A) : Type 0 where
  pub z_partner : B
  pub of_z : Partner z z_partner
  pub e : A
  pub e_partner : B
  pub of_e : Partner e e_partner
  pub near_w : Near e w
  pub linked : Linked z_partner e_partner

-- a walk on one side, whose steps stay near a place with a partner or cross from one such place to another, links partners on the other side
pub partners_linked : {A B : Type 0} (Step : A → A → Type 0) (Linked : B → B → Type 0) (Partner : A → B → Type 0) (Near : A → A → Type 0) →
    ((x y z : B) → Linked x y → Linked y z → Linked x z) →
    ((b z : A) (b' z' : B) → Partner b b' → Near b z → Partner z z' → Linked b' z') →
    ((b z w : A) → Near b z → Step z w → Near b w ⊎ Crosses Linked Partner Near z w) →
    (z : A) (places : List A) (t : A) → Leads Step z places t → (b : A) (b' t' : B) → Partner b b' → Near b z → Partner t t' → Linked b' t'
partners_linked Step Linked Partner Near along near step z [] t lead b b' t' pb nb pt = near b z b' t' pb nb (subst (λ v. Partner v t') (sym lead) pt)
partners_linked Step Linked Partner Near along near step z (w ∷ rest) t lead b b' t' pb nb pt =
    elim (step b z w nb lead.0) [
      | inl nw ↦ partners_linked Step Linked Partner Near along near step w rest t lead.1 b b' t' pb nw pt
      | inr c ↦ along b' c.e_partner t'
          (along b' c.z_partner c.e_partner (near b z b' c.z_partner pb nb c.of_z) c.linked)
          (partners_linked Step Linked Partner Near along near step w rest t lead.1 c.e c.e_partner t' c.of_e c.near_w pt)
    ]
