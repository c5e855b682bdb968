-- The reasons of first faults.
use Rattle.std.proofs.Common.{◌≡◌, ℕ, Bool, List, Err}
use Rattle.grammar.specs.Reading.{refused, read}
use Rattle.grammar.specs.Whole.{Terminal, whole, at_token, at_bad}
use Rattle.nl_base.specs.declared.fault.Reason.{Reason}
use Rattle.nl_base.specs.declared.fault.TextFault.{TextFault}
use Rattle.nl_base.specs.declared.place.Place.{Place}
use Rattle.vlog_tokens.specs.declared.token.VFound.{VFound}
use Rattle.vlog_exprs.specs.Grammar.{expr, constant, attrs}
use Rattle.vlog_exprs.specs.Reasons.{trailing}
use Rattle.vlog_modules.specs.Grammar.{file}
use Rattle.vlog_modules.specs.AnyLength.{VlogFails}
use Rattle.grammar_laws.proofs.Ending.{IsToken}
use Rattle.grammar_laws.proofs.Refusing.{refused_fits}
use Rattle.vlog_faults.specs.Fitting.{Fits, HasReason, of_token, of_no_token}
use Rattle.vlog_faults.proofs.Productions.{expr_fit, constant_fit, attrs_fit}
use Rattle.vlog_faults.proofs.FileProductions.{Every, whole_fit}

pub of_expressions : (left : Bool) (room : ℕ) (ts : List (Terminal VFound Place)) (x : Terminal VFound Place) (reason : Reason) → read tt (expr left room) ts ≡ Err (refused x reason) → Fits x reason
of_expressions left room ts x r e = refused_fits Fits IsToken tt (expr left room) (expr_fit left room) ts x r e

pub of_constants : (ts : List (Terminal VFound Place)) (x : Terminal VFound Place) (reason : Reason) → read tt constant ts ≡ Err (refused x reason) → Fits x reason
of_constants ts x r e = refused_fits Fits IsToken tt constant constant_fit ts x r e

pub of_attributes : (ts : List (Terminal VFound Place)) (x : Terminal VFound Place) (reason : Reason) → read tt attrs ts ≡ Err (refused x reason) → Fits x reason
of_attributes ts x r e = refused_fits Fits IsToken tt attrs attrs_fit ts x r e

pub of_files : (bs : List ℕ) (f : TextFault) → VlogFails bs f → HasReason bs f
of_files bs f (at_token x reason h e) = of_token h.before h.after x reason h.place e (refused_fits Fits Every tt (whole trailing file) whole_fit _ x reason h.reason_is)
of_files bs f (at_bad h e) = of_no_token e
