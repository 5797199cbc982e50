-- What is answered of pixel p from the eleven words that it needs, handed over in their order.
-- Assumes nothing.
use Rattle.std.specs.Prelude.{ℕ, ◌+◌, List, ◌++◌, ℤ, Result}
use Rattle.exact.specs.Dyadic.{dyadic}
use Rattle.refusal.specs.Code.{Verdict, granted}
use Rattle.refusal.specs.declared.Refusal.{Refusal}
use Rattle.refusal.specs.declared.Table.TheVariants.{Offset, Alpha, Kta}
use Rattle.util.specs.Words.{listed, field}
use Rattle.steps.specs.Steps.{first_outside}
use Rattle.walk.specs.Inner.Single.{shared_from, kta_from, steps_for}
use Rattle.walk.specs.declared.PixelTerms.{PixelTerms}
use Rattle.pixel.specs.declared.PixelEntries.{PixelEntries}

-- the refusal of three tables' terms, offset's first
abbrev pub fault_with : ℕ → PixelTerms → PixelTerms → PixelTerms → Verdict
fault_with p offset alpha kta = first_outside (steps_for Offset p offset ++ (steps_for Alpha p alpha ++ steps_for Kta p kta))

-- three sums, where nothing is refused: alpha's and Kta's over the powers of two that stand in their words of scales
abbrev pub summed : ℤ → ℤ → ℕ → ℤ → ℕ → PixelEntries
summed offset alpha x kta y = record { offset = offset; alpha = dyadic alpha (field x 12 4 + 30); k_ta = dyadic kta (field y 4 4 + 8) }

abbrev pub told : Verdict → ℤ → ℤ → ℕ → ℤ → ℕ → Result PixelEntries Refusal
told r offset alpha x kta y = granted r (summed offset alpha x kta y)

abbrev pub told_with : ℕ → PixelTerms → PixelTerms → ℕ → PixelTerms → ℕ → Result PixelEntries Refusal
told_with p offset alpha x kta y = told (fault_with p offset alpha kta) offset.sum alpha.sum x kta.sum y

abbrev pub answer_from : List ℕ → ℕ → Result PixelEntries Refusal
answer_from l p =
    told_with p
    (shared_from (listed l 0) (listed l 1) (listed l 2) (listed l 3) (listed l 10) 10 p)
    (shared_from (listed l 4) (listed l 5) (listed l 6) (listed l 7) (listed l 10) 4 p) (listed l 4)
    (kta_from (listed l 8) (listed l 9) (listed l 10) p) (listed l 9)
