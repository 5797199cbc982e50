-- Steps: numbers that 16 bits must hold, in the order in which they are tested. The refusal of a list of steps is that of the first one outside -32768..32767.
-- Nothing here knows which steps a camera has, nor how many pixels: the room `walk` lists those of the MLX90640.
-- Assumes nothing.
use Rattle.std.specs.Prelude.{ℕ, zero, suc, ◌+◌, ◌≡◌, true, false, cond, List, [], ◌∷◌, ◌++◌, ℤ, Err}
use Rattle.refusal.specs.Code.{Verdict, accepted}
use Rattle.refusal.specs.declared.Table.{Table}
use Rattle.refusal.specs.declared.Refusal.TheVariants.{TermOutside, SumOutside}
use Rattle.util.specs.Sums.{in16}

-- a scaled term, or a sum, of a pixel of a table
pub data Step : Type 0 where
  term : Table → ℕ → ℤ → Step
  sum : Table → ℕ → ℤ → Step

abbrev pub value_in : Step → ℤ
value_in (term t p z) = z
value_in (sum t p z) = z

-- refusal 3 for a term, 4 for a sum
abbrev pub refusal_in : Step → Verdict
refusal_in (term t p z) = Err (TermOutside t p)
refusal_in (sum t p z) = Err (SumOutside t p)

-- the steps of the n pixels from p on
unfoldable pub steps_from : (ℕ → List Step) → ℕ → ℕ → List Step
steps_from f zero p = []
steps_from f (suc n) p = f p ++ steps_from f n (p + 1)

-- the refusal of the first step outside 16 bits; none where every step is inside
unfoldable pub first_outside : List Step → Verdict
first_outside [] = accepted
first_outside (s ∷ rest) = cond (in16 (value_in s)) (first_outside rest) (refusal_in s)

-- the same, said of a refusal: every step is inside, or r is the refusal of a step outside with every earlier step inside. proofs/Meaning.antt shows that the two agree.
unfoldable pub AllInside : List Step → Type 0
AllInside [] = Unit {0}
AllInside (s ∷ rest) = (in16 (value_in s) ≡ true) × AllInside rest

pub record FirstIs (steps : List Step) (r : Verdict) : Type 0 where
  pub before : List Step
  pub step : Step
  pub after : List Step
  pub split : steps ≡ before ++ (step ∷ after)
  pub earlier : AllInside before
  pub outside : in16 (value_in step) ≡ false
  pub refuses : refusal_in step ≡ r
