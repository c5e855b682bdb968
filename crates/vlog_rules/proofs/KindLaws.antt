-- What is kept of each name are the kinds of its declarations, and a declaration clashes with those before it where it clashes with these.
use Rattle.std.proofs.Common.{◌≡◌, ℕ, ◌+◌, ◌<◌, Bool, true, false, cond, ◌&&◌, ◌||◌, List, [], ◌∷◌, ◌++◌, Option, Some, bytes_eq, get_or, length, take, ap, refl, sym, ◌∙◌, add-one}
use Rattle.std.specs.Borrow.{Bor}
use Rattle.std.specs.List.{list_any}
use Rattle.std.specs.Map.{lookup}
use Rattle.std.specs.Option.{option_map_or}
use Rattle.std.proofs.Math.Seq.{take-suc}
use Rattle.std.proofs.lemmas.List.{map-append}
use Rattle.std.proofs.lemmas.List.Folds.{list_any-append}
use Rattle.std.proofs.lemmas.Slice.Eq.{bytes_eq-Decides}
use Rattle.indexmap.specs.IndexMap.{insert_entry}
use Rattle.vlog_design.specs.Names.{Declaration, Name}
use Rattle.vlog_design.specs.Rules.{clash, same_declaration, same_kind}
use Rattle.vlog_design.specs.declared.signals.Kind.{Kind}
use Rattle.vlog_design.specs.declared.signals.Kind.TheVariants.{InHeader, Direction, NetDeclaration, Instance, Parameter}
use Rattle.vlog_rules.specs.declared.kinds.Kinds.{Kinds}
use Rattle.vlog_rules.specs.Kinds.{clashes_with, is_there, kept_kinds, kinds_among, named_kinds, no_kinds, with_kind}
use Rattle.vlog_rules.specs.Seen.{declaration_of, declarations_of}
use Rattle.vlog_rules.proofs.SeenLemmas.{any_other, any_signal}

-- one more entry, or another value of one

pub twice : {A : Type 0} (b : Bool) (x y z : A) → cond b x z ≡ cond b x (cond b y z)
twice true x y z = refl
twice false x y z = refl

found_first : (name : Name) (es : List (Bor (List ℕ) × Kinds)) (k j : Bor (List ℕ)) (v w : Kinds) → k.now ≡ j.now →
    lookup (λ i. bytes_eq name i.now) ((j, v) ∷ es) ≡ cond (bytes_eq name k.now) (Some v) (lookup (λ i. bytes_eq name i.now) ((j, w) ∷ es))
found_first name es k j v w e =
    twice (bytes_eq name j.now) (Some v) (Some w) (lookup (λ i. bytes_eq name i.now) es)
    ∙ ap (λ n. cond (bytes_eq name n) (Some v) (cond (bytes_eq name j.now) (Some w) (lookup (λ i. bytes_eq name i.now) es))) (sym e)

found_behind : (name : Name) (k j : Bor (List ℕ)) (x y z : Option Kinds) → bytes_eq k.now j.now ≡ false →
    cond (bytes_eq name j.now) x (cond (bytes_eq name k.now) y z) ≡ cond (bytes_eq name k.now) y (cond (bytes_eq name j.now) x z)
found_behind name k j x y z h = by (bytes_eq name j.now) (bytes_eq name k.now) refl refl
  where
    by : (a b : Bool) → bytes_eq name j.now ≡ a → bytes_eq name k.now ≡ b → cond a x (cond b y z) ≡ cond b y (cond a x z)
    by false b p q = refl
    by true false p q = refl
    by true true p q = absurd (never ((bytes_eq-Decides k.now j.now).1 (sym ((bytes_eq-Decides name k.now).0 q) ∙ (bytes_eq-Decides name j.now).0 p)))
      where
        never : bytes_eq k.now j.now ≡ true → ⊥
        never e = not_both (sym h ∙ e)
          where
            not_both : false ≡ true → ⊥
            not_both c = cc

pub found_inserted : (eq : Bor (List ℕ) → Bor (List ℕ) → Bool) → ((a b : Bor (List ℕ)) → eq a b ≡ bytes_eq a.now b.now) → (es : List (Bor (List ℕ) × Kinds)) (k : Bor (List ℕ)) (v : Kinds) (name : Name) →
    lookup (λ i. bytes_eq name i.now) (insert_entry eq es k v) ≡ cond (bytes_eq name k.now) (Some v) (lookup (λ i. bytes_eq name i.now) es)
found_inserted eq same [] k v name = refl
found_inserted eq same (e ∷ es) k v name = ap (λ b. lookup (λ i. bytes_eq name i.now) (cond b ((e.0, v) ∷ es) (e ∷ insert_entry eq es k v))) (same k e.0) ∙ by (bytes_eq k.now e.0.now) refl (found_inserted eq same es k v name)
  where
    by : (b : Bool) → bytes_eq k.now e.0.now ≡ b → lookup (λ i. bytes_eq name i.now) (insert_entry eq es k v) ≡ cond (bytes_eq name k.now) (Some v) (lookup (λ i. bytes_eq name i.now) es) →
        lookup (λ i. bytes_eq name i.now) (cond b ((e.0, v) ∷ es) (e ∷ insert_entry eq es k v)) ≡ cond (bytes_eq name k.now) (Some v) (lookup (λ i. bytes_eq name i.now) (e ∷ es))
    by true h next = found_first name es k e.0 v e.1 ((bytes_eq-Decides k.now e.0.now).0 h)
    by false h next = ap (λ o. cond (bytes_eq name e.0.now) (Some e.1) o) next ∙ found_behind name k e.0 (Some e.1) (Some v) (lookup (λ i. bytes_eq name i.now) es) h

value_of : (b : Bool) (v : Kinds) (o : Option Kinds) → option_map_or (λ kinds. kinds) (cond b (Some v) o) no_kinds ≡ cond b v (option_map_or (λ kinds. kinds) o no_kinds)
value_of true v o = refl
value_of false v o = refl

lookup_named : (es : List (Bor (List ℕ) × Kinds)) (name : Name) → lookup (bytes_eq name) (named_kinds es) ≡ lookup (λ i. bytes_eq name i.now) es
lookup_named [] name = refl
lookup_named (e ∷ es) name = ap (λ o. cond (bytes_eq name e.0.now) (Some e.1) o) (lookup_named es name)

pub kept_found : (es : List (Bor (List ℕ) × Kinds)) (name : Name) (found : Option Kinds) → found ≡ lookup (λ i. bytes_eq name i.now) es → option_map_or (λ kinds. kinds) found no_kinds ≡ kept_kinds (named_kinds es) name
kept_found es name found e = ap (λ o. option_map_or (λ kinds. kinds) o no_kinds) (e ∙ sym (lookup_named es name))

pub kept_inserted : (eq : Bor (List ℕ) → Bor (List ℕ) → Bool) → ((a b : Bor (List ℕ)) → eq a b ≡ bytes_eq a.now b.now) → (es : List (Bor (List ℕ) × Kinds)) (k : Bor (List ℕ)) (v : Kinds) (name : Name) →
    kept_kinds (named_kinds (insert_entry eq es k v)) name ≡ cond (bytes_eq name k.now) v (kept_kinds (named_kinds es) name)
kept_inserted eq same es k v name =
    ap (λ o. option_map_or (λ kinds. kinds) o no_kinds) (lookup_named (insert_entry eq es k v) name ∙ found_inserted eq same es k v name)
    ∙ (value_of (bytes_eq name k.now) v (lookup (λ i. bytes_eq name i.now) es)
    ∙ ap (λ o. cond (bytes_eq name k.now) v (option_map_or (λ kinds. kinds) o no_kinds)) (sym (lookup_named es name)))

-- the value that is kept of one name, where that name is met again
pub same_name : (kinds : Name → Kinds) (name other : Name) (f : Kinds → Kinds) (v : Kinds) → v ≡ f (kinds name) → cond (bytes_eq other name) v (kinds other) ≡ cond (bytes_eq other name) (f (kinds other)) (kinds other)
same_name kinds name other f v e = by (bytes_eq other name) refl
  where
    by : (b : Bool) → bytes_eq other name ≡ b → cond b v (kinds other) ≡ cond b (f (kinds other)) (kinds other)
    by true h = e ∙ ap (λ n. f (kinds n)) (sym ((bytes_eq-Decides other name).0 h))
    by false h = refl

-- a first declaration of a name clashes with none
pub clashes_not : (kind : Kind) → clashes_with kind no_kinds ≡ false
clashes_not InHeader = refl
clashes_not Direction = refl
clashes_not NetDeclaration = refl
clashes_not Instance = refl
clashes_not Parameter = refl

-- a declaration clashes with one of a list where it clashes with the kinds of its name
pub clash_by_kinds : (d : Declaration) (ds : List Declaration) → list_any (clash d) ds ≡ clashes_with d.kind (kinds_among ds d.name)
clash_by_kinds d ds = by d.kind
  where
    by : (kind : Kind) → list_any (clash (record { kind = kind; name = d.name })) ds ≡ clashes_with kind (kinds_among ds d.name)
    by InHeader = any_signal (record { kind = InHeader; name = d.name }) refl ds
    by Direction = any_signal (record { kind = Direction; name = d.name }) refl ds
    by NetDeclaration = any_signal (record { kind = NetDeclaration; name = d.name }) refl ds
    by Instance = any_other (record { kind = Instance; name = d.name }) refl ds
    by Parameter = any_other (record { kind = Parameter; name = d.name }) refl ds

-- the kinds of a name with one declaration more

flag : (a kind same : Bool) → (a || ((kind && same) || false)) ≡ cond same (cond kind true a) a
flag true true true = refl
flag true true false = refl
flag true false true = refl
flag true false false = refl
flag false true true = refl
flag false true false = refl
flag false false true = refl
flag false false false = refl

there_more : (ds : List Declaration) (d : Declaration) (name : Name) (kind : Kind) → is_there (ds ++ d ∷ []) name kind ≡ cond (bytes_eq name d.name) (cond (same_kind kind d.kind) true (is_there ds name kind)) (is_there ds name kind)
there_more ds d name kind = list_any-append (same_declaration (record { kind = kind; name = name })) ds (d ∷ []) ∙ flag (is_there ds name kind) (same_kind kind d.kind) (bytes_eq name d.name)

abbrev flagged : Kind → Bool → Kinds → Kinds
flagged kind same k = record {
  header = cond same (cond (same_kind InHeader kind) true k.header) k.header;
  direction = cond same (cond (same_kind Direction kind) true k.direction) k.direction;
  net = cond same (cond (same_kind NetDeclaration kind) true k.net) k.net;
  instance = cond same (cond (same_kind Instance kind) true k.instance) k.instance;
  parameter = cond same (cond (same_kind Parameter kind) true k.parameter) k.parameter;
}

flagged_is : (kind : Kind) (same : Bool) (k : Kinds) → flagged kind same k ≡ cond same (with_kind kind k) k
flagged_is InHeader true k = refl
flagged_is Direction true k = refl
flagged_is NetDeclaration true k = refl
flagged_is Instance true k = refl
flagged_is Parameter true k = refl
flagged_is InHeader false k = refl
flagged_is Direction false k = refl
flagged_is NetDeclaration false k = refl
flagged_is Instance false k = refl
flagged_is Parameter false k = refl

kinds_more : (ds : List Declaration) (d : Declaration) (name : Name) → kinds_among (ds ++ d ∷ []) name ≡ cond (bytes_eq name d.name) (with_kind d.kind (kinds_among ds name)) (kinds_among ds name)
kinds_more ds d name =
    (λ j. record {
      header = there_more ds d name InHeader j;
      direction = there_more ds d name Direction j;
      net = there_more ds d name NetDeclaration j;
      instance = there_more ds d name Instance j;
      parameter = there_more ds d name Parameter j;
    }) ∙ flagged_is d.kind (bytes_eq name d.name) (kinds_among ds name)

-- the walk over the declarations: what is kept are the kinds of those before the place

pub clash_met : (kept : Name → Kinds) (ds : List Declaration) (d : Declaration) → ((name : Name) → kept name ≡ kinds_among ds name) → (clashes b : Bool) → clashes ≡ clashes_with d.kind (kept d.name) → clashes ≡ b → b ≡ list_any (clash d) ds
clash_met kept ds d before clashes b e h = sym h ∙ (e ∙ (ap (clashes_with d.kind) (before d.name) ∙ sym (clash_by_kinds d ds)))

pub met_more : (kept after : Name → Kinds) (keys : List (Kind × Bor (List ℕ))) (i : ℕ) (d : Kind × Bor (List ℕ)) → i < length keys → ((name : Name) → kept name ≡ kinds_among (declarations_of (take i keys)) name) →
    ((name : Name) → after name ≡ cond (bytes_eq name (get_or keys i d).1.now) (with_kind (get_or keys i d).0 (kept name)) (kept name)) → (name : Name) → after name ≡ kinds_among (declarations_of (take (i + 1) keys)) name
met_more kept after keys i d h before step name =
    let key = get_or keys i d in
    step name
    ∙ (ap (λ k. cond (bytes_eq name key.1.now) (with_kind key.0 k) k) (before name)
    ∙ (sym (kinds_more (declarations_of (take i keys)) (declaration_of key) name)
    ∙ ap (λ ds. kinds_among ds name) (sym (ap (λ n. declarations_of (take n keys)) (add-one i) ∙ (ap declarations_of (take-suc keys i d h) ∙ map-append declaration_of (take i keys) (key ∷ []))))))
