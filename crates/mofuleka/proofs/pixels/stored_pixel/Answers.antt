-- The cells that are read are those of the gathering that stands in the bytes.
use Rattle.std.proofs.Common.{◌∙◌}
use Rattle.gathering.specs.Inner.Chosen.{cells_answer}
use Rattle.mofuleka.proofs.Single.{read-cells}
use Rattle.mofuleka.proofs.pixels.stored_pixel.Goals as goal

pub returns : goal.returns
returns c =
    let a = c.args in
    let values = rw c.needed-words.ensures.value at c.words_at-values.ensures in
    let marks = rw c.needed-words.ensures.value at c.get_marks_at-marks.ensures in
    c.pixel_of_cells.ensures
    ∙ ((λ i. cells_answer (values i) (marks i) a.p) ∙ read-cells a.gathering.now a.p c.requires.gathering_size_in_bounds c.requires.p_bound)
