-- walks by steps
use Rattle.std.proofs.Common.{List, [], ◌∷◌, ◌++◌, refl, sym, subst}
use Rattle.net_graph.specs.Walks.{Leads, IsLinked}

pub linked-self : {A : Type 0} (step : A → A → Type 0) (a : A) → IsLinked step a a
linked-self step a = record { places = []; lead = refl }

pub linked-step : {A : Type 0} (step : A → A → Type 0) (a b : A) → step a b → IsLinked step a b
linked-step step a b h = record { places = b ∷ []; lead = (h, refl) }

leads-append : {A : Type 0} (step : A → A → Type 0) (a b c : A) (xs ys : List A) → Leads step a xs b → Leads step b ys c → Leads step a (xs ++ ys) c
leads-append step a b c [] ys h k = subst (λ x. Leads step x ys c) (sym h) k
leads-append step a b c (x ∷ xs) ys h k = (h.0, leads-append step x b c xs ys h.1 k)

pub linked-trans : {A : Type 0} (step : A → A → Type 0) (a b c : A) → IsLinked step a b → IsLinked step b c → IsLinked step a c
linked-trans step a b c h k = record { places = h.places ++ k.places; lead = leads-append step a b c h.places k.places h.lead k.lead }

-- what each step keeps holds at the end where it holds at the start
leads-keeps : {A : Type 0} (step : A → A → Type 0) (P : A → Type 0) → ((x y : A) → step x y → P x → P y) → (a b : A) (xs : List A) → Leads step a xs b → P a → P b
leads-keeps step P keeps a b [] h p = subst P h p
leads-keeps step P keeps a b (x ∷ xs) h p = leads-keeps step P keeps x b xs h.1 (keeps a x h.0 p)

pub linked-keeps : {A : Type 0} (step : A → A → Type 0) (P : A → Type 0) → ((x y : A) → step x y → P x → P y) → (a b : A) → IsLinked step a b → P a → P b
linked-keeps step P keeps a b h p = leads-keeps step P keeps a b h.places h.lead p

-- where each step of the one is followed by a step of the other between related things, links are followed by links
pub linked-follows : {A B : Type 0} (step : A → A → Type 0) (follow : B → B → Type 0) (R : A → B → Type 0)
    → ((x y : A) (u : B) → step x y → R x u → (v : B) × R y v × follow u v)
    → (a b : A) (u : B) → IsLinked step a b → R a u → (v : B) × R b v × IsLinked follow u v
linked-follows {A} {B} step follow R each a b u h r =
    linked-keeps step (λ x. (v : B) × R x v × IsLinked follow u v)
    (λ x y s k. let n = each x y k.0 s k.1 in (n.0, n.1, linked-trans follow u k.0 n.0 k.2 (linked-step follow k.0 n.0 n.2)))
    a b h (u, r, linked-self follow u)
