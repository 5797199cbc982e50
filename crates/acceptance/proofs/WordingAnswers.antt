-- The public function of `wording` has no second answer, and asks for nothing: its contract fixes how much is written, what, and what stays behind it.
-- Assumes nothing.
use mathlib.Core.Path.{sym, ap, ◌∙◌}
use mathlib.Core.List.{◌++◌}
use lib.ListN.{length, drop, take-append-drop}
use Rattle.acceptance.specs.Determined.{EntryPoint}
use Rattle.wording.proofs.explain_image.Kinds as ExplainImageK
use Rattle.wording.proofs.explain_image.Reads as ExplainImage

pub one-explain-image : EntryPoint ExplainImageK.ps ExplainImageK.r ExplainImage.Asked ExplainImage.Learnt
one-explain-image = (
  λ _ _. tt,
  λ κs a x y p q.
      let front = p.1.0 ∙ sym q.1.0 in
      let same = p.0.1 ∙ (ap length front ∙ sym q.0.1) in
      let behind = p.1.1 ∙ (ap (λ n. drop n a.1.1.1.0.now) same ∙ sym q.1.1) in
      let left = sym (take-append-drop x.result x.lent.1.1.1.0) ∙ ((λ i. front i ++ behind i) ∙ take-append-drop y.result y.lent.1.1.1.0) in
      λ i. record { result = same i; lent = (tt, (tt, (tt, (left i, tt)))) },
)
