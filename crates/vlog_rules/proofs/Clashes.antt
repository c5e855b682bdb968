-- The first declaration that clashes with one before it.
use Rattle.std.specs.Borrow.{Bor}
use Rattle.vlog_design.specs.Tables.{names_of}
use Rattle.std.proofs.Common.{not, bytes_eq, if◌then◌else◌, ◌≡◌, ℕ, ◌+◌, ◌<◌, ◌≤◌, List, [], ◌∷◌, ◌++◌, Bool, true, false, cond, Some, None, drop, get_or, length, map, take, ap, refl, sym, ◌∙◌, add-one, arith, drop-cons, drop_of_length-le}
use Rattle.std.specs.List.{list_any}
use Rattle.std.proofs.Math.Seq.{take-suc}
use Rattle.std.proofs.lemmas.List.{map-append}
use Rattle.vlog_design.specs.Names.{clashing, has_name}
use Rattle.vlog_design.specs.Rules.{first_of}
use Rattle.vlog_values.specs.declared.statement.NamedConn.{NamedConn}

first_if : {A : Type 0} (b : Bool) (x : A) (xs : List A) → first_of (cond b (x ∷ xs) xs) ≡ cond b (Some x) (first_of xs)
first_if true x xs = refl
first_if false x xs = refl

-- one step: the element at i clashes, or the search goes on behind it
pub clash_left : {A K : Type 0} (f : K → A) (clash : A → A → Bool) (before : List A) (keys : List K) (i : ℕ) (d : K) → i < length keys →
    first_of (clashing clash before (map f (drop i keys))) ≡ cond (list_any (clash (f (get_or keys i d))) before) (Some (f (get_or keys i d))) (first_of (clashing clash (before ++ f (get_or keys i d) ∷ []) (map f (drop (i + 1) keys))))
unfolding clashing
clash_left f clash before keys i d h = rw (drop-cons keys i d h, add-one) (first_if _ _ _)

pub clash_here : {A K : Type 0} (f : K → A) (clash : A → A → Bool) (before : List A) (keys : List K) (i : ℕ) (d : K) → i < length keys → true ≡ list_any (clash (f (get_or keys i d))) before →
    first_of (clashing clash before (map f (drop i keys))) ≡ Some (f (get_or keys i d))
clash_here f clash before keys i d h e = clash_left f clash before keys i d h ∙ ap (λ b. cond b (Some (f (get_or keys i d))) (first_of (clashing clash (before ++ f (get_or keys i d) ∷ []) (map f (drop (i + 1) keys))))) (sym e)

pub clash_there : {A K : Type 0} (f : K → A) (clash : A → A → Bool) (before : List A) (keys : List K) (i : ℕ) (d : K) → i < length keys → false ≡ list_any (clash (f (get_or keys i d))) before →
    first_of (clashing clash before (map f (drop i keys))) ≡ first_of (clashing clash (before ++ f (get_or keys i d) ∷ []) (map f (drop (i + 1) keys)))
clash_there f clash before keys i d h e = clash_left f clash before keys i d h ∙ ap (λ b. cond b (Some (f (get_or keys i d))) (first_of (clashing clash (before ++ f (get_or keys i d) ∷ []) (map f (drop (i + 1) keys))))) (sym e)

pub clash_none : {A K : Type 0} (f : K → A) (clash : A → A → Bool) (before : List A) (keys : List K) (i : ℕ) → length keys ≤ i → first_of (clashing clash before (map f (drop i keys))) ≡ None
unfolding clashing
clash_none f clash before keys i h = ap (λ ks. first_of (clashing clash before (map f ks))) (drop_of_length-le keys {i = i} h)

-- names that stand in a list before: those that are kept are no others than those before the one at i

not_new : (new there : Bool) → new ≡ not there → new ≡ false → true ≡ there
not_new new true e h = refl
not_new new false e h = cc

is_new : (new there : Bool) → new ≡ not there → new ≡ true → false ≡ there
is_new new false e h = refl
is_new new true e h = cc

pub repeated_here : (before : List (List ℕ)) (keys : List (Bor (List ℕ))) (i : ℕ) (d : Bor (List ℕ)) (new : Bool) → i < length keys → new ≡ not (has_name before (get_or keys i d).now) → new ≡ false →
    first_of (clashing bytes_eq before (names_of (drop i keys))) ≡ Some (get_or keys i d).now
repeated_here before keys i d new h e n = clash_here (λ k. k.now) bytes_eq before keys i d h (not_new new (has_name before (get_or keys i d).now) e n)

pub repeated_there : (before after : List (List ℕ)) (keys : List (Bor (List ℕ))) (i : ℕ) (d : Bor (List ℕ)) (new : Bool) → i < length keys → new ≡ not (has_name before (get_or keys i d).now) → new ≡ true →
    after ≡ before ++ (if new then (get_or keys i d).now ∷ [] else []) → first_of (clashing bytes_eq after (names_of (drop (i + 1) keys))) ≡ first_of (clashing bytes_eq before (names_of (drop i keys)))
repeated_there before after keys i d true h e n a =
    ap (λ names. first_of (clashing bytes_eq names (names_of (drop (i + 1) keys)))) a ∙ sym (clash_there (λ k. k.now) bytes_eq before keys i d h (is_new true (has_name before (get_or keys i d).now) e n))
repeated_there before after keys i d false h e n a = cc

pub repeated_none : (before : List (List ℕ)) (keys : List (Bor (List ℕ))) (i : ℕ) → length keys ≤ i → first_of (clashing bytes_eq before (names_of (drop i keys))) ≡ None
repeated_none before keys i h = clash_none (λ k. k.now) bytes_eq before keys i h

-- the same where those before are the front of the list itself

pub front_there : {A K : Type 0} (f : K → A) (clash : A → A → Bool) (keys : List K) (i : ℕ) (d : K) → i < length keys → false ≡ list_any (clash (f (get_or keys i d))) (map f (take i keys)) →
    first_of (clashing clash (map f (take (i + 1) keys)) (map f (drop (i + 1) keys))) ≡ first_of (clashing clash (map f (take i keys)) (map f (drop i keys)))
front_there f clash keys i d h e =
    ap (λ before. first_of (clashing clash before (map f (drop (i + 1) keys)))) (ap (λ n. map f (take n keys)) (add-one i) ∙ (ap (map f) (take-suc keys i d h) ∙ map-append f (take i keys) (get_or keys i d ∷ [])))
    ∙ sym (clash_there f clash (map f (take i keys)) keys i d h e)

pub among_here : (keys : List (Bor (List ℕ))) (i : ℕ) (d : Bor (List ℕ)) → i < length keys → true ≡ has_name (names_of (take i keys)) (get_or keys i d).now →
    first_of (clashing bytes_eq (names_of (take i keys)) (names_of (drop i keys))) ≡ Some (get_or keys i d).now
among_here keys i d h e = clash_here (λ k. k.now) bytes_eq (names_of (take i keys)) keys i d h e

pub among_there : (keys : List (Bor (List ℕ))) (i : ℕ) (d : Bor (List ℕ)) → i < length keys → false ≡ has_name (names_of (take i keys)) (get_or keys i d).now →
    first_of (clashing bytes_eq (names_of (take (i + 1) keys)) (names_of (drop (i + 1) keys))) ≡ first_of (clashing bytes_eq (names_of (take i keys)) (names_of (drop i keys)))
among_there keys i d h e = front_there (λ k. k.now) bytes_eq keys i d h e

pub among_none : (keys : List (Bor (List ℕ))) (i : ℕ) → length keys ≤ i → first_of (clashing bytes_eq (names_of (take i keys)) (names_of (drop i keys))) ≡ None
among_none keys i h = clash_none (λ k. k.now) bytes_eq (names_of (take i keys)) keys i h

-- the same of the ports that connections name

abbrev ports_of : List NamedConn → List (List ℕ)
ports_of = map (λ conn. conn.port)

module _ (conns : List NamedConn) (i : ℕ) (d : NamedConn) (port : List ℕ) (named : port ≡ (get_or conns i d).port) (h : i < length conns) where
  pub port_here : true ≡ has_name (ports_of (take i conns)) port → first_of (clashing bytes_eq (ports_of (take i conns)) (ports_of (drop i conns))) ≡ Some port
  port_here e = clash_here (λ (x : NamedConn). x.port) bytes_eq (ports_of (take i conns)) conns i d h (e ∙ ap (has_name (ports_of (take i conns))) named) ∙ ap Some (sym named)

  pub port_there : false ≡ has_name (ports_of (take i conns)) port
      → first_of (clashing bytes_eq (ports_of (take (i + 1) conns)) (ports_of (drop (i + 1) conns))) ≡ first_of (clashing bytes_eq (ports_of (take i conns)) (ports_of (drop i conns)))
  port_there e = front_there (λ (x : NamedConn). x.port) bytes_eq conns i d h (e ∙ ap (has_name (ports_of (take i conns))) named)

pub port_none : (conns : List NamedConn) (i : ℕ) → length conns ≤ i → first_of (clashing bytes_eq (ports_of (take i conns)) (ports_of (drop i conns))) ≡ None
port_none conns i h = clash_none (λ (x : NamedConn). x.port) bytes_eq (ports_of (take i conns)) conns i h

-- a name alone is not repeated
pub alone : (names : List (List ℕ)) → length names < 2 → first_of (clashing bytes_eq [] names) ≡ None
unfolding clashing
alone [] h = refl
alone (x ∷ []) h = refl
alone (x ∷ y ∷ names) h = absurd (omega (arith, h))
