-- Live by proper tokens: the parts that all forms are made of.
use Rattle.std.proofs.Common.{◌≡◌, refl, ℕ, Bool, true, false, cond, List, [], ◌∷◌, Some, Ok, Result, pos, codes, arith}
use Rattle.grammar.specs.Part.{Glance, takes}
use Rattle.grammar.specs.Whole.{Terminal, proper, end}
use Rattle.nl_base.specs.declared.place.Place.{Place}
use Rattle.nl_base.specs.declared.fault.Reason.{Reason}
use Rattle.edif_values.specs.Proper.{IsProper}
use Rattle.edif_tokens.specs.declared.token.Found.{Found}
use Rattle.edif_values.specs.declared.token.Token.TheVariants.{LeftParen, RightParen, Word, Number, Str}
use Rattle.readers.specs.Parts.{of_token, at_token, one, if_next, while_next}
use Rattle.readers.specs.Items.{as_item}
use Rattle.edif_values.specs.declared.keyword.Keyword.{Keyword}
use Rattle.edif_values.specs.declared.keyword.Keyword.TheVariants as k
use Rattle.edif_values.specs.Keywords.{spelling, has}
use Rattle.edif_keywords.specs.Aliases.{Alias}
use Rattle.edif_keywords.specs.Language.{Edif}
use Rattle.edif_keywords.specs.Reasons as say
use Rattle.edif_keywords.specs.Grammar.{word, string, integer, opening, closing, choice, view_type, keyword, begin, forms, items, strings, comment, level}
pub use Rattle.edif_keywords.proofs.Live.{seen}
use Rattle.edif_keywords.proofs.Live.{means_itself}
use Rattle.edif_faults.specs.GoesOn.{CanStand}
use Rattle.grammar_laws.proofs.Ending.{IsToken}
use Rattle.grammar_laws.proofs.GoingOn.{IsKeptBy}

abbrev pub Lives : {A : Type 0} → Edif A → Type 0
Lives p = (table : List Alias) → IsKeptBy CanStand IsToken table p

-- a part as one form of an item, whichever form it is
pub live_as_item : {A : Type 0} (part : Edif A) → Lives part → Lives (as_item (λ v. v) part)
live_as_item part live table = (live table, λ _. tt)

-- one part or the other
pub live_one_of : {A : Type 0} (b : Bool) (p q : Edif A) → Lives p → Lives q → Lives (cond b p q)
live_one_of true p q h l = h
live_one_of false p q h l = l

-- no part takes the end of the input
pub one_takes : {A : Type 0} (f : Found → Result A Reason) (x : Terminal Found Place) (a : A) → of_token f x ≡ Ok a → IsToken x
one_takes f (proper x) a e = tt
one_takes f (end p) a e = absurd cc

pub look_takes : {C : Type 0} (f : Found → Glance C Reason) (x : Terminal Found Place) (c : C) → at_token f x ≡ takes c → IsToken x
look_takes f (proper x) c e = tt
look_takes f (end p) c e = absurd cc

pub live_one : {A : Type 0} (f : List Alias → Found → Result A Reason) (table : List Alias) (x : Found) (a : A) → f table x ≡ Ok a → IsProper x.token → IsKeptBy CanStand IsToken table (one f)
unfolding one
live_one f table x a h is = ((proper x, a, h, is), λ y b e. one_takes (f table) y b e)

pub live_if : {A C : Type 0} (f : List Alias → Found → Glance C Reason) (p : C → Edif A) (q : Edif A) (table : List Alias) → ((c : C) → IsKeptBy CanStand IsToken table (p c)) → IsKeptBy CanStand IsToken table q → IsKeptBy CanStand IsToken table (if_next f p q)
unfolding if_next
live_if f p q table h l = (λ x c e. look_takes (f table) x c e, h, l)

pub live_while : {A C S : Type 0} (f : S → List Alias → Found → Glance C Reason) (q : S → C → Edif S) (e : S → Edif A) (s : S) (table : List Alias) → ((s : S) (c : C) → IsKeptBy CanStand IsToken table (q s c)) → ((s : S) → IsKeptBy CanStand IsToken table (e s)) → IsKeptBy CanStand IsToken table (while_next f q e s)
unfolding while_next
live_while f q e s table h l = (λ s x c i. look_takes (f s table) x c i, h, l)

-- the spelling of a keyword is a proper word
pub spelled_proper : (q : Keyword) → IsProper (Word (spelling q))
spelled_proper k.Array = (refl, omega arith)
spelled_proper k.Author = (refl, omega arith)
spelled_proper k.Boolean = (refl, omega arith)
spelled_proper k.Cell = (refl, omega arith)
spelled_proper k.CellRef = (refl, omega arith)
spelled_proper k.CellType = (refl, omega arith)
spelled_proper k.Comment = (refl, omega arith)
spelled_proper k.Contents = (refl, omega arith)
spelled_proper k.DataOrigin = (refl, omega arith)
spelled_proper k.Design = (refl, omega arith)
spelled_proper k.Designator = (refl, omega arith)
spelled_proper k.Direction = (refl, omega arith)
spelled_proper k.E = (refl, omega arith)
spelled_proper k.Edif = (refl, omega arith)
spelled_proper k.EdifLevel = (refl, omega arith)
spelled_proper k.EdifVersion = (refl, omega arith)
spelled_proper k.External = (refl, omega arith)
spelled_proper k.False = (refl, omega arith)
spelled_proper k.Instance = (refl, omega arith)
spelled_proper k.InstanceRef = (refl, omega arith)
spelled_proper k.Integer = (refl, omega arith)
spelled_proper k.Interface = (refl, omega arith)
spelled_proper k.Joined = (refl, omega arith)
spelled_proper k.KeywordAlias = (refl, omega arith)
spelled_proper k.KeywordLevel = (refl, omega arith)
spelled_proper k.KeywordMap = (refl, omega arith)
spelled_proper k.Library = (refl, omega arith)
spelled_proper k.LibraryRef = (refl, omega arith)
spelled_proper k.Member = (refl, omega arith)
spelled_proper k.Net = (refl, omega arith)
spelled_proper k.Number = (refl, omega arith)
spelled_proper k.NumberDefinition = (refl, omega arith)
spelled_proper k.Owner = (refl, omega arith)
spelled_proper k.Port = (refl, omega arith)
spelled_proper k.PortRef = (refl, omega arith)
spelled_proper k.Program = (refl, omega arith)
spelled_proper k.Property = (refl, omega arith)
spelled_proper k.Rename = (refl, omega arith)
spelled_proper k.Scale = (refl, omega arith)
spelled_proper k.Status = (refl, omega arith)
spelled_proper k.String = (refl, omega arith)
spelled_proper k.Technology = (refl, omega arith)
spelled_proper k.TimeStamp = (refl, omega arith)
spelled_proper k.True = (refl, omega arith)
spelled_proper k.Unit = (refl, omega arith)
spelled_proper k.UserData = (refl, omega arith)
spelled_proper k.Version = (refl, omega arith)
spelled_proper k.View = (refl, omega arith)
spelled_proper k.ViewRef = (refl, omega arith)
spelled_proper k.ViewType = (refl, omega arith)
spelled_proper k.Written = (refl, omega arith)
spelled_proper k.AcLoad = (refl, omega arith)
spelled_proper k.After = (refl, omega arith)
spelled_proper k.Annotate = (refl, omega arith)
spelled_proper k.Apply = (refl, omega arith)
spelled_proper k.Arc = (refl, omega arith)
spelled_proper k.ArrayRelatedInfo = (refl, omega arith)
spelled_proper k.BaseArray = (refl, omega arith)
spelled_proper k.BoundingBox = (refl, omega arith)
spelled_proper k.Circle = (refl, omega arith)
spelled_proper k.Color = (refl, omega arith)
spelled_proper k.CommentGraphics = (refl, omega arith)
spelled_proper k.Criticality = (refl, omega arith)
spelled_proper k.Curve = (refl, omega arith)
spelled_proper k.Cycle = (refl, omega arith)
spelled_proper k.Delay = (refl, omega arith)
spelled_proper k.Derivation = (refl, omega arith)
spelled_proper k.Display = (refl, omega arith)
spelled_proper k.Dominates = (refl, omega arith)
spelled_proper k.Dot = (refl, omega arith)
spelled_proper k.Event = (refl, omega arith)
spelled_proper k.Fabricate = (refl, omega arith)
spelled_proper k.Figure = (refl, omega arith)
spelled_proper k.FigureGroup = (refl, omega arith)
spelled_proper k.FigureGroupOverride = (refl, omega arith)
spelled_proper k.FigureGroupRef = (refl, omega arith)
spelled_proper k.Follow = (refl, omega arith)
spelled_proper k.ForbiddenEvent = (refl, omega arith)
spelled_proper k.GlobalPortRef = (refl, omega arith)
spelled_proper k.GridMap = (refl, omega arith)
spelled_proper k.InstanceBackAnnotate = (refl, omega arith)
spelled_proper k.InstanceGroup = (refl, omega arith)
spelled_proper k.InstanceMap = (refl, omega arith)
spelled_proper k.Justify = (refl, omega arith)
spelled_proper k.KeywordDefine = (refl, omega arith)
spelled_proper k.ListOfNets = (refl, omega arith)
spelled_proper k.ListOfPorts = (refl, omega arith)
spelled_proper k.LoadDelay = (refl, omega arith)
spelled_proper k.LogicPort = (refl, omega arith)
spelled_proper k.LogicValue = (refl, omega arith)
spelled_proper k.MiNoMax = (refl, omega arith)
spelled_proper k.Mnm = (refl, omega arith)
spelled_proper k.MustJoin = (refl, omega arith)
spelled_proper k.Name = (refl, omega arith)
spelled_proper k.NetBackAnnotate = (refl, omega arith)
spelled_proper k.NetBundle = (refl, omega arith)
spelled_proper k.NetDelay = (refl, omega arith)
spelled_proper k.NetGroup = (refl, omega arith)
spelled_proper k.NetMap = (refl, omega arith)
spelled_proper k.NetRef = (refl, omega arith)
spelled_proper k.NonPermutable = (refl, omega arith)
spelled_proper k.OffPageConnector = (refl, omega arith)
spelled_proper k.OpenShape = (refl, omega arith)
spelled_proper k.Orientation = (refl, omega arith)
spelled_proper k.Origin = (refl, omega arith)
spelled_proper k.Page = (refl, omega arith)
spelled_proper k.PageSize = (refl, omega arith)
spelled_proper k.Parameter = (refl, omega arith)
spelled_proper k.ParameterAssign = (refl, omega arith)
spelled_proper k.Path = (refl, omega arith)
spelled_proper k.PathDelay = (refl, omega arith)
spelled_proper k.Permutable = (refl, omega arith)
spelled_proper k.PhysicalDesignRule = (refl, omega arith)
spelled_proper k.Point = (refl, omega arith)
spelled_proper k.PointList = (refl, omega arith)
spelled_proper k.Polygon = (refl, omega arith)
spelled_proper k.PortBackAnnotate = (refl, omega arith)
spelled_proper k.PortBundle = (refl, omega arith)
spelled_proper k.PortDelay = (refl, omega arith)
spelled_proper k.PortGroup = (refl, omega arith)
spelled_proper k.PortImplementation = (refl, omega arith)
spelled_proper k.PortInstance = (refl, omega arith)
spelled_proper k.PortList = (refl, omega arith)
spelled_proper k.PortListAlias = (refl, omega arith)
spelled_proper k.PortMap = (refl, omega arith)
spelled_proper k.PropertyDisplay = (refl, omega arith)
spelled_proper k.ProtectionFrame = (refl, omega arith)
spelled_proper k.Pt = (refl, omega arith)
spelled_proper k.Rectangle = (refl, omega arith)
spelled_proper k.Section = (refl, omega arith)
spelled_proper k.Shape = (refl, omega arith)
spelled_proper k.Simulate = (refl, omega arith)
spelled_proper k.SimulationInfo = (refl, omega arith)
spelled_proper k.Site = (refl, omega arith)
spelled_proper k.StringDisplay = (refl, omega arith)
spelled_proper k.Symbol = (refl, omega arith)
spelled_proper k.Symmetry = (refl, omega arith)
spelled_proper k.Table = (refl, omega arith)
spelled_proper k.TextHeight = (refl, omega arith)
spelled_proper k.Timing = (refl, omega arith)
spelled_proper k.Transform = (refl, omega arith)
spelled_proper k.Unused = (refl, omega arith)
spelled_proper k.ViewList = (refl, omega arith)
spelled_proper k.ViewMap = (refl, omega arith)
spelled_proper k.Visible = (refl, omega arith)
spelled_proper k.WeakJoined = (refl, omega arith)
spelled_proper k.When = (refl, omega arith)

pub live_word : Lives word
live_word table = live_one (λ _ x. say.word_of x.token) table (seen (Word (codes "a"))) (codes "a") refl (refl, omega arith)

pub live_string : Lives string
live_string table = live_one (λ _ x. say.string_of x.token) table (seen (Str [])) [] refl (tt, omega arith)

pub live_integer : Lives integer
live_integer table = live_one (λ _ x. say.integer_of x.token) table (seen (Number (pos 0))) (pos 0) refl (omega arith)

pub live_opening : Lives opening
live_opening table = live_one (λ _ x. say.opening_of x.token) table (seen LeftParen) tt refl tt

pub live_closing : Lives closing
live_closing table = live_one (λ _ x. say.closing_of x.token) table (seen RightParen) tt refl tt

pub live_choice : {A : Type 0} (words : List (List ℕ × A)) (w : List ℕ) (a : A) → say.meant_by words w ≡ Some a → IsProper (Word w) → Lives (choice words)
live_choice words w a h is table = live_one (λ _ x. say.choice_of words x.token) table (seen (Word w)) a (rw h refl) is

pub live_view_type : Lives view_type
live_view_type table = live_one (λ _ x. say.view_type_of x.token) table (seen (Word (codes "NETLIST"))) tt refl (refl, omega arith)

pub live_keyword : (q : Keyword) (allowed : List Keyword) → has allowed q ≡ true → Lives (keyword allowed)
live_keyword q allowed h table = live_one (λ table x. say.keyword_of allowed table x.token) table (seen (Word (spelling q))) q (rw (means_itself table q, h) refl) (spelled_proper q)

pub live_begin : (q : Keyword) (allowed : List Keyword) → has allowed q ≡ true → Lives (begin allowed)
unfolding begin
live_begin q allowed h table = (live_opening table, λ _. live_keyword q allowed h table)

module _ {I : Type 0} (allowed : List I → List Keyword) (rest : Keyword → Edif I) (so_far : List I) where
  pub live_items : ((s : List I) → Lives (keyword (allowed s))) → ((q : Keyword) → Lives (rest q)) → Lives (items allowed rest so_far)
  unfolding items forms
  live_items h r table = live_while (λ _ _ x. say.at_opening x.token) _ _ so_far table (λ s _. ((h s table, λ q. r q table), λ i. tt)) (λ s. (live_closing table, λ _. tt))

pub live_strings : (so_far : List (List ℕ)) → Lives (strings so_far)
unfolding strings
live_strings so_far table = live_while (λ _ _ x. say.at_string x.token) _ _ so_far table (λ s t. tt) (λ s. (live_closing table, λ _. tt))

pub live_comment : Lives comment
live_comment = live_strings []

pub live_level : Lives level
unfolding level has
live_level table = (live_begin k.EdifLevel (k.EdifLevel ∷ []) refl table, λ _. (live_one (λ _ x. say.level_of x.token) table (seen (Number (pos 0))) tt refl (omega arith), λ _. live_closing table))
