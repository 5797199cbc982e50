-- The tests come in the order of the refusals, and past them the words that were read decide.
use Rattle.std.proofs.Common.{◌≡◌, false, true, length, arith, sym, ◌∙◌}
use borrow.Author.Tests.{ne_eqb}
use Rattle.eeprom.specs.Decoding.{tables_short, decoded_of, refusal_of}
use Rattle.eeprom.proofs.Words.{read-words-are}
use Rattle.eeprom.proofs.from_data.Goals as goal

pub returns-then-image-ne1664-clause-answer : goal.returns-then-image-ne1664-clause-answer
unfolding decoded_of refusal_of
returns-then-image-ne1664-clause-answer c = let other = ne_eqb (length c.args.image.now) 1664 (λ e. omega arith) in rw other

pub returns-then-tables_short-clause-answer : goal.returns-then-tables_short-clause-answer
unfolding decoded_of refusal_of
returns-then-tables_short-clause-answer c =
    let whole : length c.args.image.now ≡ 1664 = omega arith in
    let short : tables_short (length c.args.offset.now) (length c.args.alpha.now) (length c.args.k_ta.now) ≡ true = sym c.tables_short.ensures ∙ c.if-tables_short.true in
    rw (whole, short)

pub returns-clause-answer : goal.returns-clause-answer
unfolding decoded_of refusal_of
returns-clause-answer c =
    let whole : length c.args.image.now ≡ 1664 = omega arith in
    let room : tables_short (length c.args.offset.now) (length c.args.alpha.now) (length c.args.k_ta.now) ≡ false = sym c.tables_short.ensures ∙ c.if-tables_short.false in
    rw (whole, room) (rw (read-words-are c.args.image.now c.read_words-words.result c.read_words-words.ensures) at c.decode_words.ensures.answer)

pub returns-clause-offset : goal.returns-clause-offset
returns-clause-offset c = rw (read-words-are c.args.image.now c.read_words-words.result c.read_words-words.ensures) at c.decode_words.ensures.offset

pub returns-clause-alpha : goal.returns-clause-alpha
returns-clause-alpha c = rw (read-words-are c.args.image.now c.read_words-words.result c.read_words-words.ensures) at c.decode_words.ensures.alpha

pub returns-clause-k_ta : goal.returns-clause-k_ta
returns-clause-k_ta c = rw (read-words-are c.args.image.now c.read_words-words.result c.read_words-words.ensures) at c.decode_words.ensures.k_ta
