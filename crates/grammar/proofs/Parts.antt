-- A part that is live, and clear where what may follow it does, is read exactly.
use Rattle.std.proofs.Common.{◌≡◌, sym, subst}
use Rattle.grammar.specs.Part.{Part}
use Rattle.grammar.specs.Clear.{IsLive, IsClear}
use Rattle.grammar.specs.Exact.{IsExact}
use Rattle.grammar.proofs.Again.{again}
use Rattle.grammar.proofs.Follow.{clear_fewer}
use Rattle.grammar.proofs.Exact.{one_value, text_from_read, fault_from_read, read_from_fault}

module _ {K X R A : Type 0} (k : K) (p : Part K X R A) (Follows : X → Type 0) (live : IsLive k p) (clear : IsClear k p (λ _ x. Follows x)) (last : X) (at_last : Follows last) where
  clear_last : IsClear k p (λ _ x. x ≡ last)
  clear_last = clear_fewer k p (λ _ x. x ≡ last) (λ _ x. Follows x) (λ v x e. subst Follows (sym e) at_last) clear

  pub exact : IsExact k p Follows
  exact = record {
    one_value = λ text v w. one_value k p live last clear_last text v w;
    is_text = λ tokens rest v. text_from_read k p live last clear_last tokens rest v;
    is_read = λ text rest next v h follows. again k p (λ _ x. Follows x) clear text next rest v h follows;
    is_fault = λ tokens x reason. (fault_from_read k p live last clear_last tokens x reason, read_from_fault k p live last clear_last tokens x reason);
  }
