-- The first refusal of two: what the earlier refuses is the answer, and where it refuses nothing the later decides.
-- Assumes nothing.
use mathlib.Core.Path.{◌≡◌, refl, sym, ap, ◌∙◌}
use mathlib.Core.Bool.{Bool, true, false, cond}
use Prim.Native.Nat.{ℕ}
use native.Mathlib.Omega.{arith}
use Rattle.std.specs.Prelude.{Ok, Err}
use Rattle.std.specs.Result.{result_and}
use Rattle.refusal.specs.Code.{Verdict, accepted, accepted_by, or_else, granted, verdict_of}
use Rattle.refusal.proofs.Apart.{accepted-none}

pub or-refused : (a b : Verdict) → accepted_by a ≡ false → or_else a b ≡ a
or-refused a b e = rw e

pub or-passed : (a b : Verdict) → accepted_by a ≡ true → or_else a b ≡ b
or-passed a b e = rw e

pub granted-verdict : {A : Type 0} (r : Verdict) (x : A) → verdict_of (granted r x) ≡ r
granted-verdict (Ok done) x = refl
granted-verdict (Err e) x = refl

-- the verdicts of two in order, with a value, is what `?` makes of the first and then the second with it
pub granted-behind : {A : Type 0} (a b : Verdict) (x : A) → granted (or_else a b) x ≡ result_and a (granted b x)
granted-behind (Ok done) b x = refl
granted-behind (Err e) b x = refl

pub earlier-accepted : (a b : Verdict) → accepted_by (or_else a b) ≡ true → accepted_by a ≡ true
earlier-accepted a b e = go (accepted_by a) refl
  where
    go : (t : Bool) → accepted_by a ≡ t → accepted_by a ≡ true
    go true h = h
    go false h = ap accepted_by (sym (ap (λ (t : Bool). cond t b a) h)) ∙ e

pub later-accepted : (a b : Verdict) → accepted_by (or_else a b) ≡ true → accepted_by b ≡ true
later-accepted a b e = ap accepted_by (sym (or-passed a b (earlier-accepted a b e))) ∙ e

or-assoc-by : (a b c : Verdict) (d : Bool) → accepted_by a ≡ d → or_else a (or_else b c) ≡ or_else (or_else a b) c
or-assoc-by a b c true p = rw p
or-assoc-by a b c false p = rw p (rw p)

pub or_assoc : (a b c : Verdict) → or_else a (or_else b c) ≡ or_else (or_else a b) c
or_assoc a b c = or-assoc-by a b c (accepted_by a) refl

-- a test that is made a second time, behind another, changes nothing
pub asked-again : (a c d : Verdict) → or_else a (or_else c (or_else a d)) ≡ or_else a (or_else c d)
asked-again (Ok done) c d = refl
asked-again (Err e) c d = refl

pub both-none : (a b : Verdict) → or_else a b ≡ accepted → (a ≡ accepted) × (b ≡ accepted)
both-none a b e = go (accepted_by a) refl
  where
    go : (d : Bool) → accepted_by a ≡ d → (a ≡ accepted) × (b ≡ accepted)
    go true h = (accepted-none a h, sym (ap (λ (d : Bool). cond d b a) h) ∙ e)
    go false h = let z : a ≡ accepted = sym (ap (λ (d : Bool). cond d b a) h) ∙ e in absurd (let y : ◌≡◌ {A = Bool} true false = sym (ap accepted_by z) ∙ h in let z : ◌≡◌ {A = ℕ} 0 1 = cc in omega arith)
