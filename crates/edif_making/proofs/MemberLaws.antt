-- Lists of nodes that lie one behind the other, and those of the classes that are live.
use Rattle.std.proofs.Common.{arith, ◌≡◌, ℕ, zero, suc, ◌+◌, ◌-◌, ◌<◌, ◌≤◌, Bool, true, false, cond, List, [], ◌∷◌, ◌++◌, append-nil, drop, get_or, length, length-append, map, take, refl, sym, ap, ◌∙◌, subst}
use Rattle.std.proofs.lemmas.List.{drop-append-le, drop_all, length-drop, map-append, take-append-le, take_all}
use Rattle.net_bits.specs.Classes.{ClassTable, members_of}
use Rattle.net_hier.specs.declared.cells.HNet.{HNet}
use Rattle.net_hier.specs.declared.nodes.Node.{Node}
use Rattle.net_live.specs.Live.{is_live}
use Rattle.edif_plans.specs.Made.{live_below}
use Rattle.edif_making.specs.Members.{AreLaid, IsLaid, IsListAt, lists_of}
use Rattle.edif_making.proofs.NetLaws.{live_more, live_none}

-- ---- where the lists lie

pub some_start : (starts : List ℕ) (count : ℕ) → IsLaid starts count → 0 < length starts
some_start [] count laid = absurd laid
some_start (from ∷ starts) count laid = omega arith

pub lists_count : (starts : List ℕ) (nodes : List Node) → length (lists_of starts nodes) ≡ length starts - 1
lists_count [] nodes = refl
lists_count (from ∷ []) nodes = refl
lists_count (from ∷ to ∷ starts) nodes = let e = lists_count (to ∷ starts) nodes in omega (arith, e)

-- a list begins within the nodes
start_within : (starts : List ℕ) (count place : ℕ) → IsLaid starts count → place < length starts → get_or starts place 0 ≤ count
start_within [] count place laid lt = absurd laid
start_within (from ∷ []) count zero laid lt = omega (arith, laid)
start_within (from ∷ []) count (suc place) laid lt = absurd (omega (arith, lt))
start_within (from ∷ to ∷ starts) count zero laid lt = let e = start_within (to ∷ starts) count 0 laid.1 (omega arith) in let l = laid.0 in omega (arith, e, l)
start_within (from ∷ to ∷ starts) count (suc place) laid lt = start_within (to ∷ starts) count place laid.1 (omega (arith, lt))

list_next : (from to : ℕ) (starts : List ℕ) (nodes : List Node) (place : ℕ) → IsListAt (to ∷ starts) nodes place → IsListAt (from ∷ to ∷ starts) nodes (suc place)
list_next from to starts nodes place at =
    let e : suc place + 1 ≡ suc (place + 1) = omega arith in
    record {
      next = let n = at.next in omega (arith, n);
      rising = subst (λ k. get_or (to ∷ starts) place 0 ≤ get_or (from ∷ to ∷ starts) k 0) (sym e) at.rising;
      within = subst (λ k. get_or (from ∷ to ∷ starts) k 0 ≤ length nodes) (sym e) at.within;
      is = ap (λ k. take (get_or (from ∷ to ∷ starts) k 0 - get_or (to ∷ starts) place 0) (drop (get_or (to ∷ starts) place 0) nodes)) e ∙ at.is;
    }

pub list_at : (starts : List ℕ) (nodes : List Node) (place : ℕ) → IsLaid starts (length nodes) → place < length (lists_of starts nodes) → IsListAt starts nodes place
list_at [] nodes place laid lt = absurd laid
list_at (from ∷ []) nodes place laid lt = absurd (omega (arith, lt))
list_at (from ∷ to ∷ starts) nodes zero laid lt = record {
  next = omega arith;
  rising = laid.0;
  within = start_within (to ∷ starts) (length nodes) 0 laid.1 (omega arith);
  is = refl;
}
list_at (from ∷ to ∷ starts) nodes (suc place) laid lt = list_next from to starts nodes place (list_at (to ∷ starts) nodes place laid.1 (omega (arith, lt)))

-- ---- one more list

-- a part of the nodes is one of the longer list
part_kept : (nodes more : List Node) (from to : ℕ) → from ≤ to → to ≤ length nodes → take (to - from) (drop from (nodes ++ more)) ≡ take (to - from) (drop from nodes)
part_kept nodes more from to up within =
    let rest = length-drop from nodes in
    ap (take (to - from)) (drop-append-le from nodes more (omega (arith, up, within))) ∙ take-append-le (to - from) (drop from nodes) more (omega (arith, rest, within))

last_part : (nodes more : List Node) → take (length (nodes ++ more) - length nodes) (drop (length nodes) (nodes ++ more)) ≡ more
last_part nodes more =
    let whole = length-append nodes more in
    let dropped : drop (length nodes) (nodes ++ more) ≡ more = drop-append-le (length nodes) nodes more (omega arith) ∙ ap (λ p. p ++ more) (drop_all (length nodes) nodes (omega arith)) in
    ap (take (length (nodes ++ more) - length nodes)) dropped ∙ take_all (length (nodes ++ more) - length nodes) more (omega (arith, whole))

lists_more : (starts : List ℕ) (nodes more : List Node) → IsLaid starts (length nodes) → lists_of (starts ++ length (nodes ++ more) ∷ []) (nodes ++ more) ≡ lists_of starts nodes ++ more ∷ []
lists_more [] nodes more laid = absurd laid
lists_more (from ∷ []) nodes more laid = ap (λ f. take (length (nodes ++ more) - f) (drop f (nodes ++ more)) ∷ []) laid ∙ ap (λ l. l ∷ []) (last_part nodes more)
lists_more (from ∷ to ∷ starts) nodes more laid =
    (λ j. part_kept nodes more from to laid.0 (start_within (to ∷ starts) (length nodes) 0 laid.1 (omega arith)) j ∷ lists_more (to ∷ starts) nodes more laid.1 j)

laid_more : (starts : List ℕ) (count more : ℕ) → IsLaid starts count → count ≤ more → IsLaid (starts ++ more ∷ []) more
laid_more [] count more laid le = absurd laid
laid_more (from ∷ []) count more laid le = (omega (arith, laid, le), refl)
laid_more (from ∷ to ∷ starts) count more laid le = (laid.0, laid_more (to ∷ starts) count more laid.1 le)

pub none_laid : (starts : List ℕ) (nodes : List Node) → starts ≡ 0 ∷ [] → nodes ≡ [] → AreLaid [] starts nodes
none_laid starts nodes begin none = subst (λ s. AreLaid [] s nodes) (sym begin) (subst (AreLaid [] (0 ∷ [])) (sym none) (record { is_laid = refl; are = refl }))

-- a list that is not added, and one that is
pub same_laid : (lists : List (List Node)) (starts : List ℕ) (nodes list : List Node) (live : Bool) → live ≡ false → AreLaid lists starts nodes → AreLaid (lists ++ cond live (list ∷ []) []) starts nodes
same_laid lists starts nodes list live is are = subst (λ l. AreLaid l starts nodes) (sym (append-nil lists) ∙ ap (λ b. lists ++ cond b (list ∷ []) []) (sym is)) are

pub next_laid : (lists : List (List Node)) (starts next : List ℕ) (nodes list longer : List Node) (end : ℕ) (live : Bool) → live ≡ true → longer ≡ nodes ++ list → end ≡ length longer → next ≡ starts ++ end ∷ [] → AreLaid lists starts nodes
    → AreLaid (lists ++ cond live (list ∷ []) []) next longer
next_laid lists starts next nodes list longer end live is whole ends more are =
    let whole_length = length-append nodes list in
    let starts_are : starts ++ length (nodes ++ list) ∷ [] ≡ next = sym (more ∙ ap (λ n. starts ++ n ∷ []) (ends ∙ ap length whole)) in
    let made : AreLaid (lists ++ list ∷ []) (starts ++ length (nodes ++ list) ∷ []) (nodes ++ list) = record {
      is_laid = laid_more starts (length nodes) (length (nodes ++ list)) are.is_laid (omega (arith, whole_length));
      are = lists_more starts nodes list are.is_laid ∙ ap (λ l. l ++ list ∷ []) are.are;
    } in
    subst (λ b. AreLaid (lists ++ cond b (list ∷ []) []) next longer) (sym is)
    (subst (AreLaid (lists ++ list ∷ []) next) (sym whole) (subst (λ s. AreLaid (lists ++ list ∷ []) s (nodes ++ list)) starts_are made))

-- ---- the nodes of the classes that are live

map_test : (f : ℕ → List Node) (n : ℕ) (b : Bool) → map f (cond b (n ∷ []) []) ≡ cond b (f n ∷ []) []
map_test f n true = refl
map_test f n false = refl

pub live_members_more : (nets : List HNet) (classes : ClassTable) (n : ℕ) (members : List Node) → members ≡ members_of classes n
    → map (members_of classes) (live_below nets classes n) ++ cond (is_live nets members) (members ∷ []) [] ≡ map (members_of classes) (live_below nets classes (n + 1))
live_members_more nets classes n members is =
    let f : ℕ → List Node = members_of classes in
    ap (λ m. map f (live_below nets classes n) ++ cond (is_live nets m) (m ∷ []) []) is
    ∙ (ap (λ l. map f (live_below nets classes n) ++ l) (sym (map_test f n (is_live nets (f n))))
    ∙ (sym (map-append f (live_below nets classes n) (cond (is_live nets (f n)) (n ∷ []) [])) ∙ ap (map f) (sym (live_more nets classes n))))

-- no class is below the first one
pub no_lists : (nets : List HNet) (classes : ClassTable) (starts : List ℕ) (nodes : List Node) → starts ≡ 0 ∷ [] → nodes ≡ [] → AreLaid (map (members_of classes) (live_below nets classes 0)) starts nodes
no_lists nets classes starts nodes begin none = subst (λ l. AreLaid (map (members_of classes) l) starts nodes) (sym (live_none nets classes)) (none_laid starts nodes begin none)
