-- The decoder is lent the input's image and as many entries as the slices have room for, and what it filled is laid out.
use Rattle.std.proofs.Common.{◌≡◌, ℕ, Bool, cond, List, length, take, ap, Result, ◌∙◌}
use Rattle.std.specs.Prelude.{ℤ, Float}
use Rattle.refusal.specs.Code.{Verdict, verdict_of}
use Rattle.refusal.specs.declared.Refusal.{Refusal}
use Rattle.refusal.proofs.Order.{granted-verdict}
use Rattle.page.specs.Page.{image_length, image_in}
use Rattle.record.specs.declared.Record.{Record}
use Rattle.tables.specs.Entries.{offset_at, alpha_at, kta_at}
use Rattle.eeprom.specs.Image.{image_words}
use Rattle.eeprom.specs.Decoding.{answered, decoder_refusal, decoded_of, table_after}
use Rattle.mofuleka.specs.Answers.{refusal_word}
use Rattle.mofuleka.specs.Images.{too_short, slices_refusal}
use Rattle.mofuleka.proofs.Lent.{zeros, plain, Decodes, lent-refusal, all-lent, plain-floats, laid, accepted-roomy}
use Rattle.mofuleka.proofs.images.mofuleka_from_data.Goals as goal
use Rattle.mofuleka.proofs.images.mofuleka_from_data.Goals.{After-from_data-decoded}

-- what the decoder answers of the first count bytes of an input, and leaves in the n entries that it was lent
decodes : (input : List ℕ) (count n : ℕ) (short : Bool) (d : Result Record Refusal) (o : List ℤ) (a k : List Float)
    → count ≡ image_length (length input)
    → n ≡ cond short 0 768
    → d ≡ decoded_of (take count input) (length (take n zeros)) (length (take n plain)) (length (take n plain))
    → o ≡ table_after (verdict_of d) (offset_at (image_words (take count input))) (take n zeros)
    → a ≡ table_after (verdict_of d) (alpha_at (image_words (take count input))) (take n plain)
    → k ≡ table_after (verdict_of d) (kta_at (image_words (take count input))) (take n plain)
    → Decodes n (decoder_refusal (image_in input) short) (image_words (image_in input)) d o a k
unfolding decoded_of image_in
decodes input count n short d o a k whole lent ed eo ea ek =
    record {
      answer = rw whole at ed ∙ ap (λ (r : Verdict). answered r (image_words (image_in input))) (lent-refusal n short lent (image_in input));
      offset = rw whole at eo;
      alpha = rw whole at ea;
      kta = rw whole at ek;
    }

module _ (c : After-from_data-decoded) where
  abbrev short : Bool
  short = too_short (length c.args.offset.now) (length c.args.alpha.now) (length c.args.k_ta.now) (length c.args.«record».now)

  abbrev n : ℕ
  n = c.entries-room.result

  told : Decodes n (decoder_refusal (image_in c.args.image.now) short) (image_words (image_in c.args.image.now)) c.from_data-decoded.result c.from_data-decoded.new.offset c.from_data-decoded.new.alpha c.from_data-decoded.new.k_ta
  told =
      let f = c.from_data-decoded in
      decodes c.args.image.now c.image_length-count.result n short f.result f.new.offset f.new.alpha f.new.k_ta c.image_length-count.ensures.value c.entries-room.ensures.value
      f.ensures.answer f.ensures.offset f.ensures.alpha f.ensures.k_ta

pub lay_out-requires : goal.lay_out-requires
lay_out-requires c =
    let d = (goal.at.lay_out-requires c).After-from_data-decoded in
    let lent = c.entries-room.ensures.value in
    let roomy = accepted-roomy (image_in c.args.image.now) (short d) _ in
    record { room = all-lent (n d) (short d) lent (told d) roomy; no_nan = plain-floats (n d) (short d) lent (told d) roomy }

pub returns : goal.returns
unfolding slices_refusal
returns c =
    let d = (goal.at.returns c).After-from_data-decoded in
    let s = c.args in
    let p = c.lay_out.ensures in
    let word = c.refusal_word.ensures in
    let all = laid (n d) (short d) c.entries-room.ensures.value (told d) (accepted-roomy (image_in s.image.now) (short d) _) s.offset.now s.alpha.now s.k_ta.now s.«record».now word p.answer p.offset p.alpha p.k_ta p.«record» p.stored in
    record {
      answer = word ∙ ap refusal_word (p.answer ∙ (ap verdict_of (told d).answer ∙ granted-verdict (decoder_refusal (image_in s.image.now) (short d)) _));
      offset = all.0;
      alpha = all.1.0;
      k_ta = all.1.1.0;
      «record» = all.1.1.1.0;
      stored = all.1.1.1.1;
    }
