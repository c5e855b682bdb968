-- What a whole file reads, from its first token to the end of the input.
use Rattle.std.proofs.Common.{◌≡◌, refl, sym, subst, false, List, [], ◌∷◌, None}
use Rattle.grammar.specs.Part.{gives, sequence, under}
use Rattle.grammar.specs.Whole.{Terminal, proper, end, end_of, the_end, whole}
use Rattle.nl_base.specs.declared.place.Place.{Place}
use Rattle.nl_base.specs.declared.fault.Reason.TheVariants as reasons
use Rattle.edif_tokens.specs.declared.token.Found.{Found}
use Rattle.edif_values.specs.declared.token.Token.{Token}
use Rattle.edif_values.specs.declared.token.Token.TheVariants.{LeftParen, RightParen, Word, Number, Str}
use Rattle.edif_values.specs.declared.keyword.Keyword.TheVariants as k
use Rattle.edif_keywords.specs.Aliases.{Alias}
use Rattle.edif_keywords.specs.Language.{Edif}
use Rattle.edif_keywords.specs.Reasons as say
use Rattle.edif_keywords.specs.Grammar.{header}
use Rattle.edif_values.specs.declared.name.NameDef.{NameDef}
use Rattle.edif_names.specs.Grammar.{name}
use Rattle.edif_values.specs.declared.file.EdifFile.{EdifFile}
use Rattle.edif_library.specs.Grammar.{file, file_body}
use Rattle.edif_reasons.specs.Context.{Group, Said, Context, placed, untouched, with_element, open_lists, at_keyword, at_start}
use Rattle.edif_reasons.specs.Rows.{is_at, is_over, reason_of, reason_at}
use Rattle.edif_reasons.proofs.Tracking.{JudgedAt, Tracks, tracks_gives, tracks_token, tracks_then, tracks_under, tracks_less}
use Rattle.edif_reasons.proofs.Standing.{plain_by, IsCalm, calm_by}
use Rattle.edif_reasons.proofs.Forms.{Frame, inside, In, past, from_in}
use Rattle.edif_reasons.proofs.Items.{tracks_form}
use Rattle.edif_reasons.proofs.Maps.{saying, HeaderBehind, tracks_header}
use Rattle.edif_reasons.proofs.Names.{stays_name}
use Rattle.edif_reasons.proofs.Library.{ends_file_body}

no_lists : open_lists (untouched ∷ []) ≡ None
unfolding open_lists
no_lists = refl

no_keyword : at_keyword (untouched ∷ []) ≡ false
unfolding at_keyword
no_keyword = refl

calm_start : IsCalm (untouched ∷ [])
unfolding is_at is_over
calm_start = calm_by (untouched ∷ []) no_lists (refl, (refl, (refl, (refl, (refl, (refl, (refl, (refl, (refl, tt)))))))))

-- in the form of the file
abbrev in_file : Said → Frame
in_file said = record { said = said; keyword = k.Edif; holder = untouched; around = []; plain = plain_by k.Edif refl; outside = no_lists }

-- behind the form of the file
abbrev over : Said → Context
over said = placed said (with_element untouched Group ∷ [])

abbrev FileBehind : EdifFile → Context → Type 0
FileBehind v d = (said : Said) × (d ≡ over said)

abbrev body_under : NameDef → List Alias → Edif EdifFile
body_under n aliases = under aliases (file_body n)

abbrev after_name : NameDef → Edif EdifFile
after_name n = sequence (header []) (body_under n)

body_in : (n : NameDef) (aliases : List Alias) (d : Context) → HeaderBehind (in_file at_start.said) aliases d
    → Tracks [] (body_under n aliases) d FileBehind
body_in n aliases d i =
    subst (λ z. Tracks [] (body_under n aliases) z FileBehind) (sym i.2)
    (tracks_under [] aliases (file_body n) (inside (in_file (saying i.0 aliases)) i.1) FileBehind
    (tracks_less aliases (file_body n) (inside (in_file (saying i.0 aliases)) i.1) (λ _ d. d ≡ past (in_file (saying i.0 aliases))) FileBehind
    (λ v d e. (saying i.0 aliases, e)) (ends_file_body n (in_file (saying i.0 aliases)) i.1)))

named_in : (n : NameDef) (d : Context) → In (in_file at_start.said) d → Tracks [] (after_name n) d FileBehind
named_in n d i =
    from_in (in_file at_start.said) (after_name n) FileBehind
    (λ ps. tracks_then [] (header []) (body_under n) (inside (in_file at_start.said) ps) (HeaderBehind (in_file at_start.said)) FileBehind
    (tracks_header (in_file at_start.said) refl ps) (body_in n)) d i

tracks_file : Tracks [] (file []) at_start FileBehind
unfolding file
tracks_file =
    tracks_form at_start.said untouched [] no_lists refl calm_start no_keyword k.Edif (sequence name after_name) FileBehind
    (tracks_then [] name after_name (inside (in_file at_start.said) []) (λ _ d. In (in_file at_start.said) d) FileBehind
    (stays_name (in_file at_start.said) []) named_in)

-- ---- the end of the input

trailing_row : (said : Said) (t : Token) → reasons.Trailing ≡ reason_of (over said) t
unfolding open_lists at_keyword is_at is_over
trailing_row said LeftParen = refl
trailing_row said RightParen = refl
trailing_row said (Word w) = refl
trailing_row said (Number n) = refl
trailing_row said (Str s) = refl

judged_end : (said : Said) (x : Terminal Found Place) → JudgedAt (over said) (λ (_ : Unit {0}) _. Unit {0}) x (end_of say.trailing x)
unfolding reason_at
judged_end said (proper x) = trailing_row said x.token
judged_end said (end p) = tt

abbrev Any : EdifFile → Context → Type 0
Any v d = Unit {0}

abbrev ending : EdifFile → Edif EdifFile
ending v = sequence (the_end say.trailing) (λ _. gives v)

end_in : (v : EdifFile) (said : Said) → Tracks [] (ending v) (over said) Any
unfolding the_end
end_in v said =
    tracks_then [] (the_end say.trailing) (λ _. gives v) (over said) (λ _ _. Unit {0}) Any
    (tracks_token [] (λ _ x. end_of say.trailing x) (over said) (λ _ _. Unit {0}) (judged_end said))
    (λ u d i. tracks_gives [] v d Any tt)

-- every reading of a text as a file gives the reasons of the table
pub tracks_whole : Tracks [] (whole say.trailing (file [])) at_start (λ _ _. Unit {0})
unfolding whole
tracks_whole = tracks_then [] (file []) ending at_start FileBehind Any tracks_file
    (λ v d i. subst (λ z. Tracks [] (ending v) z Any) (sym i.1) (end_in v i.0))
