-- The loop over the forms in a form, which makes the list of their items: each of its exits and each turn.
use Rattle.std.proofs.Common.{◌≡◌, ◌+◌, ◌<◌, ◌≤◌, ℕ, true, false, List, [], ◌∷◌, ◌++◌, length, Ok, Err, refl, arith}
use Rattle.std.proofs.lemmas.List.{length_push}
use Rattle.std.proofs.lemmas.List.Sums.{sum_by_push}
use Rattle.nl_base.specs.declared.fault.ReadError.{ReadError}
use Rattle.nl_io.specs.Sources.{Supply}
use Rattle.edif_tokens.specs.declared.token.Found.{Found}
use Rattle.readers.specs.Readers.{Reader, Reads, LooksAt, Adds, same, room}
use Rattle.readers.proofs.Moving.{still}
use Rattle.readers.proofs.Loops.{Collects}
use Rattle.edif_values.specs.Sizes.{list_size}
use Rattle.edif_values.specs.declared.keyword.Keyword.{Keyword}
use Rattle.edif_keywords.specs.Aliases.{Alias}
use Rattle.edif_keywords.specs.Language.{edif, Edif}
use Rattle.edif_keywords.specs.Reasons.{opens}
use Rattle.edif_keywords.specs.Grammar.{closing, item, items}
use Rattle.edif_keywords.proofs.Forms.{item_loops}

-- the loop has made no list yet
pub begun : {A Good : Type 0} {part : Edif A} {size : ℕ} (start : Reader (List Alias) Found) {i : Supply} → Good → size ≡ 0 → Collects edif part part Good size start start i i
begun start {i} good e = record { same = refl; context = refl; moves = still start.window i; spent = refl; room = omega arith; good = good }

-- one more item, which has a token of its own
pub one_more : {I : Type 0} (size : I → ℕ) (s : List I) (x : I) (left before : ℕ) → size x + left < before → list_size size (s ++ x ∷ []) + left ≤ list_size size s + before
one_more size s x left before h = omega (arith, sum_by_push size s x, length_push s x)

pub one_longer : {I : Type 0} (s : List I) (x : I) (left before : ℕ) → left < before → length (s ++ x ∷ []) + left ≤ length s + before
one_longer s x left before h = omega (arith, length_push s x)

-- s are the items so far
module _ {I : Type 0} (allowed : List I → List Keyword) (rest : Keyword → Edif I) (Good : List I → Type 0) (size : List I → ℕ) (s : List I) {now start mid : Reader (List Alias) Found} {i j m : Supply}
    (so_far : Collects edif (items allowed rest []) (items allowed rest s) (Good s) (size s) now start j i) where
  pub look_failed : {e : ReadError} → LooksAt edif opens (Err e) now mid j m → Reads {V = List I} edif same (items allowed rest []) (Err e) start mid i m
  look_failed h = grind (arith, item_loops)

  -- no form is next
  module _ {next : Reader (List Alias) Found} {n : Supply} (none : LooksAt edif opens (Ok false) now mid j m) where
    pub end_failed : {e : ReadError} → Reads edif same closing (Err e) mid next m n → Reads {V = List I} edif same (items allowed rest []) (Err e) start next i n
    end_failed h = grind (arith, item_loops)

    pub ended : Reads edif same closing (Ok tt) mid next m n → Reads edif same (items allowed rest []) (Ok s) start next i n
    ended h = grind (arith, item_loops)

    pub fewer : Reads edif same closing (Ok tt) mid next m n → size s + room next < room start
    fewer h = omega arith

  -- a form is next
  module _ {next : Reader (List Alias) Found} {n : Supply} (one : LooksAt edif opens (Ok true) now mid j m) where
    pub item_failed : {e : ReadError} → Reads {V = I} edif same (item (allowed s) rest) (Err e) mid next m n → Reads {V = List I} edif same (items allowed rest []) (Err e) start next i n
    item_failed h = grind (arith, item_loops)

    module _ {x : I} (read : Reads edif same (item (allowed s) rest) (Ok x) mid next m n) where
      pub add_failed : {e : ReadError} {last : Reader (List Alias) Found} {t : List I} → Adds x (Err e) next last s t → Reads {V = List I} edif same (items allowed rest []) (Err e) start last i n
      add_failed h = grind (arith, item_loops)

      pub smaller : {last : Reader (List Alias) Found} {t : List I} → Adds x (Ok tt) next last s t → room last < room now
      smaller h = grind arith

      turned : Good (s ++ x ∷ []) → size (s ++ x ∷ []) + room next ≤ size s + room mid → Collects edif (items allowed rest []) (items allowed rest (s ++ x ∷ [])) (Good (s ++ x ∷ [])) (size (s ++ x ∷ [])) next start n i
      turned good le = grind (arith, item_loops)

      pub turn : {last : Reader (List Alias) Found} {t : List I} → Adds x (Ok tt) next last s t → Good (s ++ x ∷ []) → size (s ++ x ∷ []) + room next ≤ size s + room mid → Collects edif (items allowed rest []) (items allowed rest t) (Good t) (size t) last start n i
      turn h good le = rw (h.added.0, h.added.1) (turned good le)
