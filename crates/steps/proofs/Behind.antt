-- Steps behind earlier tests: what the tests refuse is the answer, and where they refuse nothing the steps alone decide, since no refusal is both a test's and a step's.
-- Assumes nothing.
use mathlib.Core.Path.{◌≡◌, refl, sym, ap, ◌∙◌}
use mathlib.Core.Logic.{◌↔◌}
use mathlib.Core.Bool.{Bool, true, false, true≢false}
use mathlib.Core.List.{List}
use Rattle.refusal.specs.Code.{accepted_by, or_else, Verdict, accepted}
use Rattle.refusal.proofs.Apart.{accepted-none}
use Rattle.steps.specs.Steps.{Step, refusal_in, first_outside, AllInside, FirstIs}
use Rattle.steps.proofs.Meaning.{accepted-inside, inside-accepted, first-refused, refused-first}

module _ (early : Verdict) (xs : List Step) where
  abbrev pub behind : Verdict
  behind = or_else early (first_outside xs)

  -- the two ways that a call goes
  data Way : Type 0 where
    stopped : (early ≡ accepted → ⊥) → behind ≡ early → Way
    passed : early ≡ accepted → behind ≡ first_outside xs → Way

  way : Way
  way = go (accepted_by early) refl
    where
      go : (a : Bool) → accepted_by early ≡ a → Way
      go true e = passed (accepted-none early e) (rw e)
      go false e = stopped (λ n. true≢false (sym (ap accepted_by n) ∙ e)) (rw e)

  pub none-behind : (behind ≡ accepted) ↔ ((early ≡ accepted) × AllInside xs)
  none-behind = (λ e. to way e, λ k. from way k)
    where
      to : Way → behind ≡ accepted → (early ≡ accepted) × AllInside xs
      to (stopped n d) e = absurd (n (sym d ∙ e))
      to (passed h d) e = (h, accepted-inside xs (sym d ∙ e))

      from : Way → (early ≡ accepted) × AllInside xs → behind ≡ accepted
      from (stopped n d) k = absurd (n k.0)
      from (passed h d) k = d ∙ inside-accepted xs k.1

  module _ (r : Verdict) (some : r ≡ accepted → ⊥) where
    -- a refusal that the tests don't give
    pub step-behind : (early ≡ r → ⊥) → (behind ≡ r) ↔ ((early ≡ accepted) × FirstIs xs r)
    step-behind other = (λ e. to way e, λ k. from way k)
      where
        to : Way → behind ≡ r → (early ≡ accepted) × FirstIs xs r
        to (stopped n d) e = absurd (other (sym d ∙ e))
        to (passed h d) e = (h, refused-first xs r (sym d ∙ e) some)

        from : Way → (early ≡ accepted) × FirstIs xs r → behind ≡ r
        from (stopped n d) k = absurd (n k.0)
        from (passed h d) k = d ∙ first-refused xs r k.1

    -- a refusal that no step gives
    pub test-behind : ((s : Step) → refusal_in s ≡ r → ⊥) → (behind ≡ r) ↔ (early ≡ r)
    test-behind never = (λ e. to way e, λ k. from way k)
      where
        to : Way → behind ≡ r → early ≡ r
        to (stopped n d) e = sym d ∙ e
        to (passed h d) e = let f = refused-first xs r (sym d ∙ e) some in absurd (never f.step f.refuses)

        from : Way → early ≡ r → behind ≡ r
        from (stopped n d) k = d ∙ k
        from (passed h d) k = absurd (some (sym k ∙ h))
