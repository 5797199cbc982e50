-- What explaining a number of an image answers and leaves behind: the library's explanation, laid out in a lent slice. Refusal 2 for a slice that is too short comes after 1, 11 and 15;
-- 3 and 4 stand in the slice.
-- Assumes nothing.
use Rattle.std.specs.Prelude.{ℕ, List, [], Result, Ok, Err}
use Rattle.refusal.specs.Code.{or_else, Verdict}
use Rattle.refusal.specs.declared.Refusal.{Refusal}
use Rattle.explanation.specs.Explanation.{explain_refusal}
use Rattle.explanation.specs.declared.Explanation.{Explanation}
use Rattle.layout.specs.Sizes.{explanation_size}
use Rattle.layout.specs.ExplanationBytes.{explanation_bytes}
use Rattle.mofuleka.specs.Answers.{short_for}

-- of an image, a table's number, a pixel and a slice of n bytes
abbrev pub slice_explain_refusal : List ℕ → ℕ → ℕ → ℕ → Verdict
slice_explain_refusal image table p n = or_else (explain_refusal image table p) (short_for explanation_size n)

-- the bytes of an answer: none where the call is refused
abbrev pub answer_bytes : Result Explanation Refusal → List ℕ
answer_bytes (Ok e) = explanation_bytes e
answer_bytes (Err r) = []
