-- A file is read as the extended BNF has it.
use Rattle.std.proofs.Common.{◌≡◌, ◌∙◌, sym, ap, subst, refl, ◌↔◌, true, false, List, [], ◌∷◌, ◌++◌, append_assoc, append-nil, Ok}
use Rattle.grammar.specs.Part.{sequence, under}
use Rattle.grammar.specs.Texts.{Spells}
use Rattle.grammar.specs.Whole.{Terminal, proper, end, whole, the_end, end_of, IsText}
use Rattle.nl_base.specs.declared.place.Place.{Place}
use Rattle.nl_bytes.specs.Tokens.{Ahead}
use Rattle.edif_tokens.specs.declared.token.Found.{Found}
use Rattle.edif_values.specs.declared.keyword.Keyword.TheVariants as k
use Rattle.edif_keywords.specs.Aliases.{Alias}
use Rattle.edif_keywords.specs.Language.{Edif}
use Rattle.edif_keywords.specs.Reasons.{trailing}
use Rattle.edif_keywords.specs.Grammar.{item}
use Rattle.edif_keywords.specs.Grammar as header_grammar
use Rattle.edif_names.specs.Grammar as name_grammar
use Rattle.edif_status.specs.Grammar.{note_keywords}
use Rattle.edif_values.specs.declared.file.FileItem.{FileItem}
use Rattle.edif_values.specs.declared.file.FileItem.TheVariants as file_items
use Rattle.edif_values.specs.declared.file.EdifFile.{EdifFile}
use Rattle.edif_library.specs.Grammar as grammar
use Rattle.edif_library.specs.Grammar.{file_keywords, file_rest, file_body}
use Rattle.edif_productions.specs.Production.{Production, many, form, meaning, ◌∣◌, Tokens, IsKeyword, Texts, HasTextsOf}
use Rattle.edif_productions.specs.Notes.{note, status}
use Rattle.edif_productions.specs.Libraries.{library_of, library, design}
use Rattle.edif_productions.specs.File.{file_item, file, IsFileText}
use Rattle.edif_productions.proofs.OneToken.{alone, has_only, has_first}
use Rattle.edif_productions.proofs.Combining.{ReadsOn, item_text, text_item, whole_form, meant}
use Rattle.edif_productions.proofs.Alternatives.{or_form}
use Rattle.edif_productions.proofs.Alike.{has_same, choice_of_two}
use Rattle.edif_productions.proofs.Repeating.{many_forms}
use Rattle.edif_productions.proofs.NameTexts.{names}
use Rattle.edif_productions.proofs.NoteTexts.{note_among, status_forms}
use Rattle.edif_productions.proofs.LibraryTexts.{library_bodies, designs}
use Rattle.edif_productions.proofs.MapTexts.{headers}

-- design | status | note
abbrev OtherItem : Production FileItem
OtherItem = meaning (λ d. file_items.Design d) design ∣ meaning (λ s. file_items.Status s) status ∣ meaning (λ n. file_items.Note n) note

pub all_file_items : HasTextsOf (item file_keywords grammar.file_item) file_item
unfolding file_item library
all_file_items =
    has_same (choice_of_two (λ l. file_items.Library l) (form k.Library (library_of false)) (form k.External (library_of true)) OtherItem)
    (or_form grammar.file_item k.Library (k.External ∷ k.Design ∷ k.Status ∷ note_keywords)
    (meant (k.Library ∷ []) (λ l. file_items.Library l) (whole_form k.Library (library_bodies false)))
    (or_form grammar.file_item k.External (k.Design ∷ k.Status ∷ note_keywords)
    (meant (k.External ∷ []) (λ l. file_items.Library l) (whole_form k.External (library_bodies true)))
    (or_form grammar.file_item k.Design (k.Status ∷ note_keywords) (meant (k.Design ∷ []) (λ d. file_items.Design d) designs)
    (or_form grammar.file_item k.Status note_keywords (meant (k.Status ∷ []) (λ s. file_items.Status s) status_forms)
    (note_among (λ n. file_items.Note n) grammar.file_item refl refl)))))

items_on : ReadsOn (file_rest []) (many file_item)
unfolding file_rest
items_on = many_forms file_keywords all_file_items

-- what is read behind `( edif`
abbrev rest_of : List Alias → Edif EdifFile
rest_of table = sequence name_grammar.name (λ n. sequence (header_grammar.header table) (λ aliases. under aliases (file_body n)))

module _ (table : List Alias) where
  file_text : (ts : Tokens) (f : EdifFile) → Spells table (grammar.file table) ts f → Texts table file ts f
  unfolding grammar.file file file_body
  file_text ts f s =
      let i = item_text table (k.Edif ∷ []) (λ _. rest_of table) ts f s in
      let n = i.text in
      let h = n.5 in
      let made = (headers table h.1 h.0).0 h.4 in
      let b = h.5 in
      let r = items_on.is_text h.0 b.1 b.0 b.4 in
      let inside : Tokens = n.1 ++ (h.1 ++ r.inside) in
      let behind_is : i.behind ≡ inside ++ r.behind =
      n.3 ∙ ap (λ z. n.1 ++ z) (h.3 ∙ ap (λ z. h.1 ++ z) (b.3 ∙ alone b.1 b.2 b.5.0 ∙ r.is) ∙ sym (append_assoc h.1 r.inside r.behind))
      ∙ sym (append_assoc n.1 (h.1 ++ r.inside) r.behind) in
      record {
        before = i.before;
        inside = i.word ++ inside;
        behind = r.behind;
        is = i.is ∙ ap (λ z. i.before ++ z) (ap (λ z. i.word ++ z) behind_is ∙ sym (append_assoc i.word inside r.behind));
        opens = i.opens;
        text = record {
          word = i.word;
          rest = inside;
          is = refl;
          key = subst (λ z. IsKeyword table z i.word) (has_only k.Edif i.key i.may) i.means_key;
          text = (
            (n.0, b.0),
            (
              n.1,
              h.1 ++ r.inside,
              refl,
              names.is_text table n.1 n.0 n.4,
              (made.0, h.1, r.inside, refl, made.2, subst (λ z. Texts z (many file_item) r.inside b.0) made.1 r.text),
            ),
            b.5.1,
          );
        };
        closes = r.closes;
      }

  text_file : (ts : Tokens) (f : EdifFile) → Texts table file ts f → Spells table (grammar.file table) ts f
  unfolding grammar.file file file_body
  text_file ts f l =
      let m = l.text in
      let x = m.text.0 in
      let n = m.text.1 in
      let a = n.4 in
      let all : List Alias = table ++ a.0 in
      let behind_is : m.rest ++ l.behind ≡ n.0 ++ (a.1 ++ (a.2 ++ l.behind)) = ap (λ z. z ++ l.behind) n.2 ∙ append_assoc n.0 n.1 l.behind
      ∙ ap (λ z. n.0 ++ z) (ap (λ z. z ++ l.behind) a.3 ∙ append_assoc a.1 a.2 l.behind) in
      text_item table (k.Edif ∷ []) (λ _. rest_of table) ts f (record {
        key = k.Edif;
        before = l.before;
        word = m.word;
        behind = n.0 ++ (a.1 ++ (a.2 ++ l.behind));
        is = l.is ∙ ap (λ z. l.before ++ z) (ap (λ z. z ++ l.behind) m.is ∙ append_assoc m.word m.rest l.behind ∙ ap (λ z. m.word ++ z) behind_is);
        opens = l.opens;
        means_key = m.key;
        may = has_first k.Edif [];
        text = (
          x.0,
          n.0,
          a.1 ++ (a.2 ++ l.behind),
          refl,
          names.is_spelled table n.0 x.0 n.3,
          (
            all,
            a.1,
            a.2 ++ l.behind,
            refl,
            (headers table a.1 all).1 (a.0, refl, a.4),
            (
              x.1,
              a.2 ++ l.behind,
              [],
              sym (append-nil (a.2 ++ l.behind)),
              items_on.is_spelled all (a.2 ++ l.behind) x.1
                  (record { inside = a.2; behind = l.behind; is = refl; text = a.5; closes = l.closes }),
              (refl, m.text.2),
            ),
          ),
        );
      })

  -- A file is what the extended BNF has.
  pub files : (ts : Tokens) (f : EdifFile) → Spells table (grammar.file table) ts f ↔ Texts table file ts f
  files ts f = (file_text ts f, text_file ts f)

-- ---- the end of the input

end_is : (x : Terminal Found Place) (u : Unit {0}) → end_of {X = Found} trailing x ≡ Ok u → (p : Place) × (x ≡ end p)
end_is (proper x) u h = absurd cc
end_is (end p) u h = (p, refl)

whole_text : (s : Ahead Found) (f : EdifFile) → IsText [] (whole trailing (grammar.file [])) s f → IsFileText s f
unfolding whole the_end
whole_text s f ((u, a, b, e, t, (w, c, d, g, (x, m, h), (n, is))), finish) =
    let at = end_is x w h in (
      a,
      at.0,
      e ∙ ap (λ z. a ++ z) (g ∙ alone c d n ∙ m ∙ ap (λ z. z ∷ []) at.1),
      subst (λ z. Texts [] file a z) (sym is)
          ((files [] a u).0 t),
      finish,
    )

text_whole : (s : Ahead Found) (f : EdifFile) → IsFileText s f → IsText [] (whole trailing (grammar.file [])) s f
unfolding whole the_end
text_whole s f (a, p, e, t, finish) =
    ((f, a, end p ∷ [], e, (files [] a f).1 t, (tt, end p ∷ [], [], refl, (end p, refl, refl), (refl, refl))), finish)

-- The tokens of an input are a file exactly where the extended BNF has them, up to the end of the input.
pub whole_files : (s : Ahead Found) (f : EdifFile) → IsText [] (whole trailing (grammar.file [])) s f ↔ IsFileText s f
whole_files s f = (whole_text s f, text_whole s f)
