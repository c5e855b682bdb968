-- The loop over the forms in a form, each of which is put when it is read.
use Rattle.std.proofs.Common.{◌≡◌, ◌<◌, ap, subst, ℕ, true, false, List, [], ◌∷◌, ◌++◌, Result, Ok, Err, refl, arith}
use Rattle.nl_base.specs.declared.fault.ReadError.{ReadError}
use Rattle.nl_io.specs.Sources.{Supply}
use Rattle.nl_output.specs.Writing.{State, ToCome, Puts}
use Rattle.readers.specs.Readers.{Reader, Reads, LooksAt, same, room}
use Rattle.readers.proofs.Chain.{reads_failed}
use Rattle.readers.proofs.Loops.{Goes}
use Rattle.readers.proofs.Moving.{still}
use Rattle.edif_tokens.specs.declared.token.Found.{Found}
use Rattle.edif_values.specs.declared.keyword.Keyword.{Keyword}
use Rattle.edif_keywords.specs.Aliases.{Alias}
use Rattle.edif_keywords.specs.Language.{edif, Edif}
use Rattle.edif_keywords.specs.Reasons.{opens}
use Rattle.edif_keywords.specs.Grammar.{begin, closing, item, items}
use Rattle.edif_keywords.proofs.Forms.{item_loops}
use Rattle.edif_writer.specs.Layout.{Block, all, laid, lines}
use Rattle.edif_format.specs.Parts.{IsPut, Formats, FormatsSuch}

-- the lines of blocks and one more are those of the blocks and then those of the one
lines_behind : {I : Type 0} (n : ℕ) (block : I → Block) (s : List I) (x : I) (rest : List ℕ) → lines n (all block (s ++ x ∷ [])) rest ≡ lines n (all block s) (laid n (block x) rest)
lines_behind n block [] x rest = refl
lines_behind n block (y ∷ s) x rest = ap (laid n (block y)) (lines_behind n block s x rest)

-- no form was read
pub goes_first : {A : Type 0} {part : Edif A} (start : Reader (List Alias) Found) (i : Supply) → Goes edif part part start start i i
goes_first start i = record { same = refl; context = refl; moves = still start.window i; spent = refl; room = omega arith }

-- s are the items so far, from first on their lines were put
module _ {I : Type 0} (allowed : List I → List Keyword) (rest : Keyword → Edif I) (n : ℕ) (block : I → Block) (s : List I) {now start mid : Reader (List Alias) Found} {i j m : Supply}
    (goes : Goes edif (items allowed rest []) (items allowed rest s) now start j i) where
  looks_badly : (e : ReadError) → LooksAt edif opens (Err e) now mid j m → Reads {V = List I} edif same (items allowed rest []) (Err e) start mid i m
  looks_badly e h = grind (arith, item_loops)

  pub look_failed : {e : ReadError} {first t : State} → LooksAt edif opens (Err e) now mid j m → Formats (items allowed rest []) (λ is. lines n (all block is)) (Err e) start mid i m first t
  look_failed {e} h = (Err e, looks_badly e h, refl)

  module _ {next : Reader (List Alias) Found} {k : Supply} where
    -- no form is next
    ends_badly : (e : ReadError) → LooksAt edif opens (Ok false) now mid j m → Reads edif same closing (Err e) mid next m k → Reads {V = List I} edif same (items allowed rest []) (Err e) start next i k
    ends_badly e none h = grind (arith, item_loops)

    ends_well : LooksAt edif opens (Ok false) now mid j m → Reads edif same closing (Ok tt) mid next m k → Reads edif same (items allowed rest []) (Ok s) start next i k
    ends_well none h = grind (arith, item_loops)

    pub ended : {r : Result (Unit {0}) ReadError} {first this : State} → LooksAt edif opens (Ok false) now mid j m → Puts (lines n (all block s)) first this → Reads edif same closing r mid next m k
        → Formats (items allowed rest []) (λ is. lines n (all block is)) r start next i k first this
    ended {r = Ok done} none put h = (Ok s, ends_well none h, (tt, put))
    ended {r = Err e} none put h = (Err e, ends_badly e none h, refl)

    -- a form is next
    reads_badly : (e : ReadError) → LooksAt edif opens (Ok true) now mid j m → Reads {V = I} edif same (item (allowed s) rest) (Err e) mid next m k → Reads {V = List I} edif same (items allowed rest []) (Err e) start next i k
    reads_badly e one h = grind (arith, item_loops)

    reads_one : (x : I) → LooksAt edif opens (Ok true) now mid j m → Reads edif same (item (allowed s) rest) (Ok x) mid next m k → Goes edif (items allowed rest []) (items allowed rest (s ++ x ∷ [])) next start k i
    reads_one x one h = grind (arith, item_loops)

    -- it was not read
    pub item_unread : {e : ReadError} {first after : State} → LooksAt edif opens (Ok true) now mid j m → Reads {V = I} edif same (item (allowed s) rest) (Err e) mid next m k → Formats (items allowed rest []) (λ is. lines n (all block is)) (Err e) start next i k first after
    item_unread {e} one h = (Err e, reads_badly e one h, refl)

    -- its keyword was not read
    pub keyword_unread : {e : ReadError} {first after : State} → LooksAt edif opens (Ok true) now mid j m → Reads {V = Keyword} edif same (begin (allowed s)) (Err e) mid next m k → Formats (items allowed rest []) (λ is. lines n (all block is)) (Err e) start next i k first after
    keyword_unread {e} one h = item_unread one (reads_failed edif same same (begin (allowed s)) rest (Err e) h refl)

  module _ (Such : I → Type 0) {next : Reader (List Alias) Found} {k : Supply} (one : LooksAt edif opens (Ok true) now mid j m) where
    by_read : (first this after : State) (e : ReadError) (read : Result I ReadError) → Reads edif same (item (allowed s) rest) read mid next m k → IsPut Such (λ x. laid n (block x)) read (Err e) this after → Formats (items allowed rest []) (λ is. lines n (all block is)) (Err e) start next i k first after
    by_read first this after e (Err f) reads is = (Err f, reads_badly f one reads, is)
    by_read first this after e (Ok x) reads is = absurd is

    -- what follows its keyword was not read
    pub item_failed : {e : ReadError} {first this after : State} → FormatsSuch Such (item (allowed s) rest) (λ x. laid n (block x)) (Err e) mid next m k this after → Formats (items allowed rest []) (λ is. lines n (all block is)) (Err e) start next i k first after
    item_failed {e} {first} {this} {after} h = by_read first this after e h.0 h.1 h.2

    turned : (first this after : State) (read : Result I ReadError) → Puts (lines n (all block s)) first this → Reads edif same (item (allowed s) rest) read mid next m k → IsPut Such (λ x. laid n (block x)) read (Ok tt) this after
        → (x : I) × Such x × Puts (lines n (all block (s ++ x ∷ []))) first after × Goes edif (items allowed rest []) (items allowed rest (s ++ x ∷ [])) next start k i
    turned first this after (Ok x) put reads is = (x, is.0, (λ b rest c. is.1 b rest (put b _ (subst (λ (z : List ℕ). ToCome b first z) (lines_behind n block s x rest) c))), reads_one x one reads)
    turned first this after (Err e) put reads is = absurd is

    -- it was put
    pub turn : (first this after : State) → Puts (lines n (all block s)) first this → FormatsSuch Such (item (allowed s) rest) (λ x. laid n (block x)) (Ok tt) mid next m k this after
        → (x : I) × Such x × Puts (lines n (all block (s ++ x ∷ []))) first after × Goes edif (items allowed rest []) (items allowed rest (s ++ x ∷ [])) next start k i
    turn first this after put h = turned first this after h.0 put h.1 h.2

    shorter : (this after : State) (read : Result I ReadError) → Reads edif same (item (allowed s) rest) read mid next m k → IsPut Such (λ x. laid n (block x)) read (Ok tt) this after → room next < room now
    shorter this after (Ok x) reads is = grind arith
    shorter this after (Err e) reads is = absurd is

    pub smaller : {this after : State} → FormatsSuch Such (item (allowed s) rest) (λ x. laid n (block x)) (Ok tt) mid next m k this after → room next < room now
    smaller {this} {after} h = shorter this after h.0 h.1 h.2
