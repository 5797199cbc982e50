-- Past the tests the decoder's own walk says which pixel is described.
use Rattle.std.proofs.Common.{◌≡◌, Ok, length, rules, sym, ap, ◌∙◌}
use Rattle.refusal.specs.Code.{accepted, table_from}
use Rattle.util.specs.Words.{listed}
use Rattle.eeprom.proofs.Words.{read-words-are}
use Rattle.pixel.specs.Answer.{tests_of}
use Rattle.pixel.proofs.Exactly.{Asked, none_first}
use Rattle.explanation.specs.Explanation.{explanation_of}
use Rattle.explanation.proofs.Failures.{explained-pixel}
use Rattle.explanation.proofs.explain.Goals as goal

pub describe-requires : goal.describe-requires
describe-requires c =
    let passed : c.asked.result ≡ accepted = search rules in
    let there : Asked c.args.image.now c.args.p = (none_first c.args.image.now c.args.p).0 (sym c.asked.ensures ∙ passed) in
    search (rules, there.pixel, explained-pixel (listed c.read_words-words.result) c.in_ok-table.table c.args.p there.pixel)

pub returns : goal.returns
unfolding explanation_of
returns c =
    let image = c.args.image.now in
    let t = c.in_ok-table.table in
    let p = c.args.p in
    let passed : tests_of (length image) p ≡ accepted = search rules in
    let named : table_from c.args.table ≡ Ok t = search rules in
    let words = read-words-are image c.read_words-words.result c.read_words-words.ensures in
    rw (passed, named) (ap Ok (rw (c.pixel_in.ensures, c.table_in.ensures, c.first_refusal-found.ensures, words) at c.describe.ensures))
