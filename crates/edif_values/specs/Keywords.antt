-- The keywords of EDIF 2 0 0, how they are spelled, and which keyword a word is.
use Rattle.std.specs.Prelude.{ℕ, Bool, if◌then◌else◌, List, [], ◌∷◌, Option, Some, None, codes}
use Rattle.std.specs.List.{find, list_any}
use Rattle.nl_base.specs.Case.{same_bytes, same_up_to_case}
use Rattle.edif_values.specs.declared.keyword.Keyword.{Keyword}
use Rattle.edif_values.specs.declared.keyword.Keyword.TheVariants as k

-- how a keyword is spelled in the standard
abbrev pub spelling : Keyword → List ℕ
spelling k.Array = codes "array"
spelling k.Author = codes "author"
spelling k.Boolean = codes "boolean"
spelling k.Cell = codes "cell"
spelling k.CellRef = codes "cellRef"
spelling k.CellType = codes "cellType"
spelling k.Comment = codes "comment"
spelling k.Contents = codes "contents"
spelling k.DataOrigin = codes "dataOrigin"
spelling k.Design = codes "design"
spelling k.Designator = codes "designator"
spelling k.Direction = codes "direction"
spelling k.E = codes "e"
spelling k.Edif = codes "edif"
spelling k.EdifLevel = codes "edifLevel"
spelling k.EdifVersion = codes "edifVersion"
spelling k.External = codes "external"
spelling k.False = codes "false"
spelling k.Instance = codes "instance"
spelling k.InstanceRef = codes "instanceRef"
spelling k.Integer = codes "integer"
spelling k.Interface = codes "interface"
spelling k.Joined = codes "joined"
spelling k.KeywordAlias = codes "keywordAlias"
spelling k.KeywordLevel = codes "keywordLevel"
spelling k.KeywordMap = codes "keywordMap"
spelling k.Library = codes "library"
spelling k.LibraryRef = codes "libraryRef"
spelling k.Member = codes "member"
spelling k.Net = codes "net"
spelling k.Number = codes "number"
spelling k.NumberDefinition = codes "numberDefinition"
spelling k.Owner = codes "owner"
spelling k.Port = codes "port"
spelling k.PortRef = codes "portRef"
spelling k.Program = codes "program"
spelling k.Property = codes "property"
spelling k.Rename = codes "rename"
spelling k.Scale = codes "scale"
spelling k.Status = codes "status"
spelling k.String = codes "string"
spelling k.Technology = codes "technology"
spelling k.TimeStamp = codes "timeStamp"
spelling k.True = codes "true"
spelling k.Unit = codes "unit"
spelling k.UserData = codes "userData"
spelling k.Version = codes "version"
spelling k.View = codes "view"
spelling k.ViewRef = codes "viewRef"
spelling k.ViewType = codes "viewType"
spelling k.Written = codes "written"
spelling k.AcLoad = codes "acLoad"
spelling k.After = codes "after"
spelling k.Annotate = codes "annotate"
spelling k.Apply = codes "apply"
spelling k.Arc = codes "arc"
spelling k.ArrayRelatedInfo = codes "arrayRelatedInfo"
spelling k.BaseArray = codes "baseArray"
spelling k.BoundingBox = codes "boundingBox"
spelling k.Circle = codes "circle"
spelling k.Color = codes "color"
spelling k.CommentGraphics = codes "commentGraphics"
spelling k.Criticality = codes "criticality"
spelling k.Curve = codes "curve"
spelling k.Cycle = codes "cycle"
spelling k.Delay = codes "delay"
spelling k.Derivation = codes "derivation"
spelling k.Display = codes "display"
spelling k.Dominates = codes "dominates"
spelling k.Dot = codes "dot"
spelling k.Event = codes "event"
spelling k.Fabricate = codes "fabricate"
spelling k.Figure = codes "figure"
spelling k.FigureGroup = codes "figureGroup"
spelling k.FigureGroupOverride = codes "figureGroupOverride"
spelling k.FigureGroupRef = codes "figureGroupRef"
spelling k.Follow = codes "follow"
spelling k.ForbiddenEvent = codes "forbiddenEvent"
spelling k.GlobalPortRef = codes "globalPortRef"
spelling k.GridMap = codes "gridMap"
spelling k.InstanceBackAnnotate = codes "instanceBackAnnotate"
spelling k.InstanceGroup = codes "instanceGroup"
spelling k.InstanceMap = codes "instanceMap"
spelling k.Justify = codes "justify"
spelling k.KeywordDefine = codes "keywordDefine"
spelling k.ListOfNets = codes "listOfNets"
spelling k.ListOfPorts = codes "listOfPorts"
spelling k.LoadDelay = codes "loadDelay"
spelling k.LogicPort = codes "logicPort"
spelling k.LogicValue = codes "logicValue"
spelling k.MiNoMax = codes "miNoMax"
spelling k.Mnm = codes "mnm"
spelling k.MustJoin = codes "mustJoin"
spelling k.Name = codes "name"
spelling k.NetBackAnnotate = codes "netBackAnnotate"
spelling k.NetBundle = codes "netBundle"
spelling k.NetDelay = codes "netDelay"
spelling k.NetGroup = codes "netGroup"
spelling k.NetMap = codes "netMap"
spelling k.NetRef = codes "netRef"
spelling k.NonPermutable = codes "nonPermutable"
spelling k.OffPageConnector = codes "offPageConnector"
spelling k.OpenShape = codes "openShape"
spelling k.Orientation = codes "orientation"
spelling k.Origin = codes "origin"
spelling k.Page = codes "page"
spelling k.PageSize = codes "pageSize"
spelling k.Parameter = codes "parameter"
spelling k.ParameterAssign = codes "parameterAssign"
spelling k.Path = codes "path"
spelling k.PathDelay = codes "pathDelay"
spelling k.Permutable = codes "permutable"
spelling k.PhysicalDesignRule = codes "physicalDesignRule"
spelling k.Point = codes "point"
spelling k.PointList = codes "pointList"
spelling k.Polygon = codes "polygon"
spelling k.PortBackAnnotate = codes "portBackAnnotate"
spelling k.PortBundle = codes "portBundle"
spelling k.PortDelay = codes "portDelay"
spelling k.PortGroup = codes "portGroup"
spelling k.PortImplementation = codes "portImplementation"
spelling k.PortInstance = codes "portInstance"
spelling k.PortList = codes "portList"
spelling k.PortListAlias = codes "portListAlias"
spelling k.PortMap = codes "portMap"
spelling k.PropertyDisplay = codes "propertyDisplay"
spelling k.ProtectionFrame = codes "protectionFrame"
spelling k.Pt = codes "pt"
spelling k.Rectangle = codes "rectangle"
spelling k.Section = codes "section"
spelling k.Shape = codes "shape"
spelling k.Simulate = codes "simulate"
spelling k.SimulationInfo = codes "simulationInfo"
spelling k.Site = codes "site"
spelling k.StringDisplay = codes "stringDisplay"
spelling k.Symbol = codes "symbol"
spelling k.Symmetry = codes "symmetry"
spelling k.Table = codes "table"
spelling k.TextHeight = codes "textHeight"
spelling k.Timing = codes "timing"
spelling k.Transform = codes "transform"
spelling k.Unused = codes "unused"
spelling k.ViewList = codes "viewList"
spelling k.ViewMap = codes "viewMap"
spelling k.Visible = codes "visible"
spelling k.WeakJoined = codes "weakJoined"
spelling k.When = codes "when"

-- all keywords
abbrev pub keywords : List Keyword
keywords =
    k.Array ∷ k.Author ∷ k.Boolean ∷ k.Cell ∷ k.CellRef ∷ k.CellType ∷ k.Comment ∷ k.Contents ∷ k.DataOrigin ∷ k.Design ∷ k.Designator ∷
    k.Direction ∷ k.E ∷ k.Edif ∷ k.EdifLevel ∷ k.EdifVersion ∷ k.External ∷ k.False ∷ k.Instance ∷ k.InstanceRef ∷ k.Integer ∷ k.Interface ∷
    k.Joined ∷ k.KeywordAlias ∷ k.KeywordLevel ∷ k.KeywordMap ∷ k.Library ∷ k.LibraryRef ∷ k.Member ∷ k.Net ∷ k.Number ∷ k.NumberDefinition ∷
    k.Owner ∷ k.Port ∷ k.PortRef ∷ k.Program ∷ k.Property ∷ k.Rename ∷ k.Scale ∷ k.Status ∷ k.String ∷ k.Technology ∷ k.TimeStamp ∷ k.True ∷ k.Unit ∷
    k.UserData ∷ k.Version ∷ k.View ∷ k.ViewRef ∷ k.ViewType ∷ k.Written ∷ k.AcLoad ∷ k.After ∷ k.Annotate ∷ k.Apply ∷ k.Arc ∷ k.ArrayRelatedInfo ∷
    k.BaseArray ∷ k.BoundingBox ∷ k.Circle ∷ k.Color ∷ k.CommentGraphics ∷ k.Criticality ∷ k.Curve ∷ k.Cycle ∷ k.Delay ∷ k.Derivation ∷ k.Display ∷
    k.Dominates ∷ k.Dot ∷ k.Event ∷ k.Fabricate ∷ k.Figure ∷ k.FigureGroup ∷ k.FigureGroupOverride ∷ k.FigureGroupRef ∷ k.Follow ∷ k.ForbiddenEvent ∷
    k.GlobalPortRef ∷ k.GridMap ∷ k.InstanceBackAnnotate ∷ k.InstanceGroup ∷ k.InstanceMap ∷ k.Justify ∷ k.KeywordDefine ∷ k.ListOfNets ∷
    k.ListOfPorts ∷ k.LoadDelay ∷ k.LogicPort ∷ k.LogicValue ∷ k.MiNoMax ∷ k.Mnm ∷ k.MustJoin ∷ k.Name ∷ k.NetBackAnnotate ∷ k.NetBundle ∷
    k.NetDelay ∷ k.NetGroup ∷ k.NetMap ∷ k.NetRef ∷ k.NonPermutable ∷ k.OffPageConnector ∷ k.OpenShape ∷ k.Orientation ∷ k.Origin ∷ k.Page ∷
    k.PageSize ∷ k.Parameter ∷ k.ParameterAssign ∷ k.Path ∷ k.PathDelay ∷ k.Permutable ∷ k.PhysicalDesignRule ∷ k.Point ∷ k.PointList ∷ k.Polygon ∷
    k.PortBackAnnotate ∷ k.PortBundle ∷ k.PortDelay ∷ k.PortGroup ∷ k.PortImplementation ∷ k.PortInstance ∷ k.PortList ∷ k.PortListAlias ∷
    k.PortMap ∷ k.PropertyDisplay ∷ k.ProtectionFrame ∷ k.Pt ∷ k.Rectangle ∷ k.Section ∷ k.Shape ∷ k.Simulate ∷ k.SimulationInfo ∷ k.Site ∷
    k.StringDisplay ∷ k.Symbol ∷ k.Symmetry ∷ k.Table ∷ k.TextHeight ∷ k.Timing ∷ k.Transform ∷ k.Unused ∷ k.ViewList ∷ k.ViewMap ∷ k.Visible ∷
    k.WeakJoined ∷ k.When ∷ []

-- whether two keywords are one: no two have one spelling
abbrev pub same_keyword : Keyword → Keyword → Bool
same_keyword a b = same_bytes (spelling a) (spelling b)

-- whether a keyword is one of some
unfoldable pub has : List Keyword → Keyword → Bool
has allowed keyword = list_any (λ other. same_keyword other keyword) allowed

-- whether a keyword is spelled so, up to case
abbrev pub is_spelled : List ℕ → Keyword → Bool
is_spelled word keyword = same_up_to_case word (spelling keyword)

-- the keyword that a word is, up to case (EDIF 2 0 0 does not tell capital letters from small ones)
unfoldable pub keyword_of : List ℕ → Option Keyword
keyword_of word = find (is_spelled word) keywords

-- a keyword, where it is one of some
abbrev pub if_allowed : List Keyword → Option Keyword → Option Keyword
if_allowed allowed None = None
if_allowed allowed (Some keyword) = if has allowed keyword then Some keyword else None

-- the keyword that a word is, where it is one of some
abbrev pub allowed_keyword : List Keyword → List ℕ → Option Keyword
allowed_keyword allowed word = if_allowed allowed (keyword_of word)
