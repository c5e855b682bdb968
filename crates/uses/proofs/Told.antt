-- the design that is answered is that of the file that was read
use Rattle.std.proofs.Common.{◌≡◌, ℕ, List, Option, Result, Ok, Err, IfSome, MatchResult, sym, subst}
use Rattle.std.specs.Result.{result_ok}
use Rattle.edif_library.specs.Text.{EdifReads}
use Rattle.edif_values.specs.declared.file.EdifFile.{EdifFile}
use Rattle.edif_resolve.specs.Answers.{IsDesignOf, IsFaultOf}
use Rattle.edif_resolve.specs.declared.answer.ResolveError.{ResolveError}
use Rattle.net_hier.specs.Design.{Design}

-- the bytes spell a file, and the design that was found is that of the file
abbrev IsTold : Option (List ℕ) → Option Design → Type 0
IsTold left found = IfSome found (λ design. (x : EdifFile) × IfSome left (λ bytes. EdifReads bytes x) × IsDesignOf x design)

pub told : (left : Option (List ℕ)) (file : EdifFile) → IfSome left (λ bytes. EdifReads bytes file)
    → (answer : Result Design ResolveError) → MatchResult answer (IsDesignOf file) (IsFaultOf file)
    → (found : Option Design) → found ≡ result_ok answer
    → IsTold left found
told left file spelt (Ok design) is found e = subst (IsTold left) (sym e) (file, spelt, is)
told left file spelt (Err error) is found e = subst (IsTold left) (sym e) tt
