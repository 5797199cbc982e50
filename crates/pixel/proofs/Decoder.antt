-- The single answers and the decoder's: the walk goes over the same steps, table by table, so that it finds nothing exactly where no pixel has a fault, and what it finds first
-- is the first fault of the pixel that it names.
-- Assumes nothing.
use Prim.Native.Nat.{ℕ, ◌<◌}
use mathlib.Core.Path.{◌≡◌, refl, sym, ap, ◌∙◌}
use mathlib.Core.Logic.{◌↔◌}
use mathlib.Core.Bool.{Bool, true, false}
use mathlib.Core.List.{◌++◌}
use native.Mathlib.Nat.{zero-add}
use Rattle.refusal.specs.Code.{code_of, accepted_by, or_else, Verdict, accepted}
use Rattle.refusal.specs.declared.Table.{Table}
use Rattle.refusal.specs.declared.Table.TheVariants.{Offset, Alpha, Kta}
use Rattle.refusal.proofs.Apart.{accepted-none}
use Rattle.refusal.proofs.Order.{or-passed, or-refused}
use Rattle.steps.specs.Steps.{first_outside}
use Rattle.steps.proofs.Order.{first-append}
use Rattle.steps.proofs.Meaning.{none-append, none-joined, pixel-none, found-pixel}
use Rattle.walk.specs.Walk.{pixel_steps, table_steps, walk}
use Rattle.walk.proofs.Walked.{calm_walk, walk-calm, walk-order}
use Rattle.pixel.specs.Answer.{pixel_walk, pixel_fault}
use Rattle.pixel.proofs.Exactly.{table-place}

module _ (w : ℕ → ℕ) where
  -- the three tables' refusals of one pixel, one after the other
  pub fault-order : (p : ℕ) → pixel_fault w p ≡ or_else (first_outside (pixel_steps w Offset p)) (or_else (first_outside (pixel_steps w Alpha p)) (first_outside (pixel_steps w Kta p)))
  unfolding pixel_walk
  fault-order p =
      first-append (pixel_steps w Offset p) (pixel_steps w Alpha p ++ pixel_steps w Kta p)
      ∙ ap (or_else (first_outside (pixel_steps w Offset p))) (first-append (pixel_steps w Alpha p) (pixel_steps w Kta p))

  -- ---- the walk finds nothing exactly where no pixel has a fault
  pub all-answered : (first_outside (walk w) ≡ accepted) ↔ ((p : ℕ) → p < 768 → pixel_fault w p ≡ accepted)
  unfolding pixel_walk
  all-answered = (to, from)
    where
      to : first_outside (walk w) ≡ accepted → (p : ℕ) → p < 768 → pixel_fault w p ≡ accepted
      to e p h =
          none-joined (pixel_steps w Offset p) (pixel_steps w Alpha p ++ pixel_steps w Kta p) (walk-calm w e Offset p h)
          (none-joined (pixel_steps w Alpha p) (pixel_steps w Kta p) (walk-calm w e Alpha p h) (walk-calm w e Kta p h))

      calm : (t : Table) (p : ℕ) → pixel_fault w p ≡ accepted → first_outside (pixel_steps w t p) ≡ accepted
      calm Offset p e = (none-append (pixel_steps w Offset p) (pixel_steps w Alpha p ++ pixel_steps w Kta p) e).0
      calm Alpha p e = (none-append (pixel_steps w Alpha p) (pixel_steps w Kta p) (none-append (pixel_steps w Offset p) (pixel_steps w Alpha p ++ pixel_steps w Kta p) e).1).0
      calm Kta p e = (none-append (pixel_steps w Alpha p) (pixel_steps w Kta p) (none-append (pixel_steps w Offset p) (pixel_steps w Alpha p ++ pixel_steps w Kta p) e).1).1

      from : ((p : ℕ) → p < 768 → pixel_fault w p ≡ accepted) → first_outside (walk w) ≡ accepted
      from h = calm_walk w (λ t p l. calm t p (h p l))

  -- ---- what the walk finds first: first one table's, and then, where the tables before it have nothing, the walk's
  table-names : (t : Table) (r : Verdict) → first_outside (table_steps w t) ≡ r → (r ≡ accepted → ⊥) → ((code_of r).place < 768) × (first_outside (pixel_steps w t (code_of r).place) ≡ r)
  unfolding table_steps
  table-names t r e some =
      let f = found-pixel (pixel_steps w t) 768 0 r e some in
      let at : first_outside (pixel_steps w t f.0) ≡ r = rw (zero-add f.0) at f.2 in
      let place : (code_of r).place ≡ f.0 = table-place w t f.0 r at some in
      (rw place f.1, rw place at)

  calm-at : (t : Table) (p : ℕ) → first_outside (table_steps w t) ≡ accepted → p < 768 → first_outside (pixel_steps w t p) ≡ accepted
  unfolding table_steps
  calm-at t p e h = rw (← zero-add p) (pixel-none (pixel_steps w t) 768 0 p e h)

  pub decoder-names : (r : Verdict) → first_outside (walk w) ≡ r → (r ≡ accepted → ⊥) → ((code_of r).place < 768) × (pixel_fault w (code_of r).place ≡ r)
  decoder-names r e some = offset (accepted_by o) refl
    where
      o : Verdict
      o = first_outside (table_steps w Offset)

      a : Verdict
      a = first_outside (table_steps w Alpha)

      k : Verdict
      k = first_outside (table_steps w Kta)

      p : ℕ
      p = (code_of r).place

      ordered : or_else o (or_else a k) ≡ r
      ordered = sym (walk-order w) ∙ e

      refused : accepted_by r ≡ false
      refused = go (accepted_by r) refl
        where
          go : (b : Bool) → accepted_by r ≡ b → accepted_by r ≡ false
          go true h = absurd (some (accepted-none r h))
          go false h = h

      alpha : accepted_by o ≡ true → (b : Bool) → accepted_by a ≡ b → (p < 768) × (pixel_fault w p ≡ r)
      alpha before true h =
          let kta : k ≡ r = sym (or-passed a k h) ∙ (sym (or-passed o (or_else a k) before) ∙ ordered) in
          let n = table-names Kta r kta some in
          (n.0, fault-order p ∙ rw (calm-at Offset p (accepted-none o before) n.0, calm-at Alpha p (accepted-none a h) n.0) n.1)
      alpha before false h =
          let is : a ≡ r = sym (or-refused a k h) ∙ (sym (or-passed o (or_else a k) before) ∙ ordered) in
          let n = table-names Alpha r is some in
          (n.0, fault-order p ∙ rw (calm-at Offset p (accepted-none o before) n.0, n.1, refused))

      offset : (b : Bool) → accepted_by o ≡ b → (p < 768) × (pixel_fault w p ≡ r)
      offset true h = alpha h (accepted_by a) refl
      offset false h =
          let is : o ≡ r = sym (or-refused o (or_else a k) h) ∙ ordered in
          let n = table-names Offset r is some in
          (n.0, fault-order p ∙ rw (n.1, refused))
