-- A part that is read and put step by step.
use Rattle.std.proofs.Common.{◌≡◌, refl, ℕ, List, [], ◌∷◌, Result, Ok, Err, arith}
use Rattle.grammar.specs.Part.{gives, sequence}
use Rattle.nl_base.specs.declared.fault.ReadError.{ReadError}
use Rattle.nl_io.specs.Sources.{Supply}
use Rattle.nl_output.specs.Writing.{State, Puts}
use Rattle.readers.specs.Readers.{Reader, Reads, ReadsContext, ReadsWhole, same}
use Rattle.readers.proofs.Chain.{reads_then, reads_failed, reads_last, maybe_reads}
use Rattle.readers.proofs.Reading.{sequences}
use Rattle.edif_tokens.specs.declared.token.Found.{Found}
use Rattle.edif_values.specs.declared.file.EdifFile.{EdifFile}
use Rattle.edif_values.specs.declared.keyword.Keyword.{Keyword}
use Rattle.edif_values.specs.declared.keyword.Keyword.TheVariants as k
use Rattle.edif_values.specs.declared.name.NameDef.{NameDef}
use Rattle.edif_keywords.specs.Aliases.{Alias}
use Rattle.edif_keywords.specs.Grammar.{begin, header}
use Rattle.edif_keywords.specs.Language.{edif, Edif}
use Rattle.edif_names.specs.Grammar.{name}
use Rattle.edif_library.specs.Grammar.{file, file_body}
use Rattle.edif_format.specs.Parts.{IsPut, Formats, FormatsSuch, FormatsWhole}

-- p is the first part, and q what follows it
module _ {Y V : Type 0} (Such : V → Type 0) (p : Edif Y) (q : Y → Edif V) (text : V → List ℕ → List ℕ) {a b : Reader (List Alias) Found} {i j : Supply} {s : State} where
  -- the first part was read, and what follows is put
  pub then_put : {x : Y} {r : Result (Unit {0}) ReadError} {c : Reader (List Alias) Found} {m : Supply} {t : State} → Reads edif same p (Ok x) a b i j → FormatsSuch Such (q x) text r b c j m s t → FormatsSuch Such (sequence p q) text r a c i m s t
  then_put h (read, reads, is) = (read, reads_then edif same same p q read h (maybe_reads edif same _ _ _ _ _ _ reads), is)

  -- the first part was not read
  pub not_read : {e : ReadError} {t : State} → Reads edif same p (Err e) a b i j → FormatsSuch Such (sequence p q) text (Err e) a b i j s t
  not_read {e} h = (Err e, reads_failed edif same same p q (Err e) h refl, refl)

-- p is the last part, of whose value f makes that of the whole
module _ {A V : Type 0} (Of : A → Type 0) (Such : V → Type 0) (p : Edif A) (f : A → V) (text_of : A → List ℕ → List ℕ) (text : V → List ℕ → List ℕ) {a b : Reader (List Alias) Found} {i j : Supply} {s t : State} where
  made : (s_last t_last : State) (r : Result (Unit {0}) ReadError) (read : Result A ReadError) → Reads edif same p read a b i j → IsPut Of text_of read r s_last t_last → ((x : A) → Of x → Such (f x)) → ((x : A) → Puts (text_of x) s_last t_last → Puts (text (f x)) s t)
      → FormatsSuch Such (sequence p (λ x. gives (f x))) text r a b i j s t
  made s_last t_last (Ok done) (Ok x) reads is such put = (Ok (f x), reads_last edif same same p (λ x. gives (f x)) x (f x) a b i j (f x) refl refl reads, (such x is.0, put x is.1))
  made s_last t_last (Err g) (Err e) reads is such put = (Err e, reads_failed edif same same p (λ x. gives (f x)) (Err e) reads refl, is)
  made s_last t_last (Ok done) (Err e) reads is such put = absurd is
  made s_last t_last (Err g) (Ok x) reads is such put = absurd is

  -- it was put
  pub last_put : {r : Result (Unit {0}) ReadError} {s_last t_last : State} → FormatsSuch Of p text_of r a b i j s_last t_last → ((x : A) → Of x → Such (f x)) → ((x : A) → Puts (text_of x) s_last t_last → Puts (text (f x)) s t) → FormatsSuch Such (sequence p (λ x. gives (f x))) text r a b i j s t
  last_put {r} {s_last} {t_last} h such put = made s_last t_last r h.0 h.1 h.2 such put

  failed : (s_last t_last : State) (e : ReadError) (read : Result A ReadError) → Reads edif same p read a b i j → IsPut Of text_of read (Err e) s_last t_last → FormatsSuch Such (sequence p (λ x. gives (f x))) text (Err e) a b i j s t
  failed s_last t_last e (Err g) reads is = (Err g, reads_failed edif same same p (λ x. gives (f x)) (Err g) reads refl, is)
  failed s_last t_last e (Ok x) reads is = absurd is

  -- it was not read
  pub last_failed : {e : ReadError} {s_last t_last : State} → FormatsSuch Of p text_of (Err e) a b i j s_last t_last → FormatsSuch Such (sequence p (λ x. gives (f x))) text (Err e) a b i j s t
  last_failed {e} {s_last} {t_last} h = failed s_last t_last e h.0 h.1 h.2

-- ---- a file

module _ (table : List Alias) {a b : Reader (List Alias) Found} {i j : Supply} where
  pub begin_fails : (e : ReadError) → a.context ≡ table → Reads edif same (begin (k.Edif ∷ [])) (Err e) a b i j → ReadsWhole {V = EdifFile} edif same (file table) (Err e) a b i j
  unfolding file
  begin_fails e is h = grind (arith, sequences)

  pub name_fails : {c : Reader (List Alias) Found} {m : Supply} (q : Keyword) (e : ReadError) → a.context ≡ table → Reads edif same (begin (k.Edif ∷ [])) (Ok q) a b i j → Reads {V = NameDef} edif same name (Err e) b c j m → ReadsWhole {V = EdifFile} edif same (file table) (Err e) a c i m
  unfolding file
  name_fails {c} {m} q e is h l = grind (arith, sequences)

  module _ {c d : Reader (List Alias) Found} {m n : Supply} (q : Keyword) (v : NameDef) (is : a.context ≡ table) (begun : Reads edif same (begin (k.Edif ∷ [])) (Ok q) a b i j) (named : Reads edif same name (Ok v) b c j m) where
    pub header_fails : (e : ReadError) → ReadsContext edif (header c.context) (Err e) c d m n → ReadsWhole {V = EdifFile} edif same (file table) (Err e) a d i n
    unfolding file
    header_fails e h = grind (arith, sequences)

    module _ {last : Reader (List Alias) Found} {o : Supply} (headed : ReadsContext edif (header c.context) (Ok tt) c d m n) where
      body_read : (f : EdifFile) → Reads edif same (file_body v) (Ok f) d last n o → ReadsWhole edif same (file table) (Ok f) a last i o
      unfolding file
      body_read f h = grind (arith, sequences)

      body_fails : (e : ReadError) → Reads {V = EdifFile} edif same (file_body v) (Err e) d last n o → ReadsWhole {V = EdifFile} edif same (file table) (Err e) a last i o
      unfolding file
      body_fails e h = grind (arith, sequences)

      body_reads : (r : Result EdifFile ReadError) → Reads edif same (file_body v) r d last n o → ReadsWhole edif same (file table) r a last i o
      body_reads (Ok f) h = body_read f h
      body_reads (Err e) h = body_fails e h

      -- what follows the header was put
      pub file_put : (text : EdifFile → List ℕ → List ℕ) {r : Result (Unit {0}) ReadError} {s t : State} → Formats (file_body v) text r d last n o s t → FormatsWhole (file table) text r a last i o s t
      file_put text (read, reads, put) = (read, body_reads read reads, put)
