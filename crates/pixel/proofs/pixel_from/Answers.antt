-- Terms, refusal and sums are those of the eleven words.
use Rattle.std.proofs.Common.{◌≡◌, ◌++◌, List, Ok, true, sym, ap, rules, ◌∙◌}
use mir.Syntax.{w32}
use mir.Val.{to_z, of_z}
use Rattle.refusal.specs.Code.{Verdict, accepted, granted}
use Rattle.refusal.specs.declared.Table.TheVariants.{Offset, Alpha, Kta}
use Rattle.util.specs.Words.{listed}
use Rattle.util.specs.Sums.{in16}
use Rattle.steps.specs.Steps.{Step, AllInside}
use Rattle.steps.proofs.Meaning.{accepted-inside}
use Rattle.walk.specs.Inner.Single.{steps_for}
use Rattle.pixel.specs.Inner.From.{summed, told_with}
use Rattle.pixel.proofs.pixel_from.Goals as goal
use Rattle.pixel.proofs.pixel_from.Goals.{In_ok-first_fault}

module _ (c : In_ok-first_fault) where
  -- what the machine has of the three sums
  offset-held : let z = c.shared_terms-offset.result.sum in to_z w32 (of_z w32 z) ≡ z
  offset-held = search rules

  alpha-held : let z = c.shared_terms-alpha.result.sum in to_z w32 (of_z w32 z) ≡ z
  alpha-held = search rules

  kta-held : let z = c.k_ta_terms-k_ta.result.sum in to_z w32 (of_z w32 z) ≡ z
  kta-held = search rules

  -- nothing is refused, so that 16 bits hold the offset
  steps : List Step
  steps =
      steps_for Offset c.args.p c.shared_terms-offset.result
      ++ (steps_for Alpha c.args.p c.shared_terms-alpha.result ++ steps_for Kta c.args.p c.k_ta_terms-k_ta.result)

  passed : c.first_fault.result ≡ accepted
  passed = search rules

  inside : in16 c.shared_terms-offset.result.sum ≡ true
  unfolding AllInside steps
  inside = (accepted-inside steps (sym c.first_fault.ensures ∙ passed)).1.1.1.0

pub entries-requires : goal.entries-requires
entries-requires c =
    let d = (goal.at.entries-requires c).In_ok-first_fault in (
      rw (offset-held d) (inside d),
      rw (alpha-held d) c.shared_terms-alpha.ensures.sum_bound,
      rw (kta-held d) c.k_ta_terms-k_ta.ensures.sum_bound,
    )

pub returns : goal.returns
returns c =
    let d = (goal.at.returns c).In_ok-first_fault in
    let p = c.args.p in
    let words = c.args.words.now in
    let o = c.shared_terms-offset.ensures.value in
    let l = c.shared_terms-alpha.ensures.value in
    let k = c.k_ta_terms-k_ta.ensures.value in
    let given = summed c.shared_terms-offset.result.sum c.shared_terms-alpha.result.sum (listed words 4) c.k_ta_terms-k_ta.result.sum (listed words 9) in
    ap Ok (rw (offset-held d, alpha-held d, kta-held d) at c.entries.ensures)
    ∙ (ap (λ (r : Verdict). granted r given) (sym (passed d) ∙ c.first_fault.ensures)
    ∙ (λ i. told_with p (o i) (l i) (listed words 4) (k i) (listed words 9)))
