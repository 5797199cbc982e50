-- The gathering that stands in the bytes is decoded into as many entries as the slices have room for, and what that filled is laid out.
use Rattle.std.proofs.Common.{◌≡◌, ℕ, Bool, true, false, cond, List, length, take, ap, sym, Result, ◌∙◌}
use Rattle.std.specs.Prelude.{ℤ, Float}
use Rattle.std.specs.Result.{result_and}
use Rattle.refusal.specs.Code.{accepted_by, or_else, Verdict, verdict_of}
use Rattle.refusal.specs.declared.Refusal.{Refusal}
use Rattle.refusal.proofs.Order.{or_assoc, later-accepted, granted-behind, granted-verdict}
use Rattle.util.specs.Bytes.{bytes_of}
use Rattle.record.specs.declared.Record.{Record}
use Rattle.tables.specs.Entries.{offset_at, alpha_at, kta_at}
use Rattle.eeprom.specs.Decoding.{answered, decoder_refusal, table_after}
use Rattle.gathering.specs.State.{fault_of}
use Rattle.gathering.specs.Decoding.{calibration_of}
use Rattle.mofuleka.specs.Answers.{refusal_word}
use Rattle.mofuleka.specs.Images.{too_short, slices_refusal}
use Rattle.mofuleka.specs.Gatherings.{stored_gathering, stored_words, short_gathering, gathering_fault}
use Rattle.mofuleka.proofs.Gathered.{calibrated}
use Rattle.mofuleka.proofs.Lent.{zeros, plain, Decodes, lent-refusal, all-lent, plain-floats, laid, accepted-roomy}
use Rattle.mofuleka.proofs.gatherings.mofuleka_gathering_from_data.Goals as goal
use Rattle.mofuleka.proofs.gatherings.mofuleka_gathering_from_data.Goals.{After-decode_stored-decoded}

module _ (s : List ℕ) where
  -- 2 for the gathering, its fault, and then what the decoder refuses
  abbrev refuses : Bool → Verdict
  refuses short = or_else (gathering_fault s) (decoder_refusal (bytes_of (stored_gathering s).values) short)

  roomy : (short : Bool) → accepted_by (refuses short) ≡ true → short ≡ false
  roomy short ok =
      accepted-roomy (bytes_of (stored_gathering s).values) short _ (later-accepted (gathering_fault s) (decoder_refusal (bytes_of (stored_gathering s).values) short) ok)

  -- what the gathering in the bytes answers, and leaves in the n entries that it was lent
  decodes : (n : ℕ) (short : Bool) (d : Result Record Refusal) (o : List ℤ) (a k : List Float)
      → n ≡ cond short 0 768
      → d ≡ result_and (short_gathering s) (calibration_of (stored_gathering s) (length (take n zeros)) (length (take n plain)) (length (take n plain)))
      → o ≡ table_after (verdict_of d) (offset_at (stored_words s)) (take n zeros)
      → a ≡ table_after (verdict_of d) (alpha_at (stored_words s)) (take n plain)
      → k ≡ table_after (verdict_of d) (kta_at (stored_words s)) (take n plain)
      → Decodes n (refuses short) (stored_words s) d o a k
  decodes n short d o a k lent ed eo ea ek =
      let g = stored_gathering s in
      let decoder = lent-refusal n short lent (bytes_of g.values) in
      record {
        answer =
            ed ∙ (ap (result_and (short_gathering s)) (calibrated g _ _ _ ∙ ap (λ (r : Verdict). answered (or_else (fault_of g) r) (stored_words s)) decoder)
            ∙ (sym (granted-behind (short_gathering s) (or_else (fault_of g) (decoder_refusal (bytes_of g.values) short)) _)
            ∙ ap (λ (r : Verdict). answered r (stored_words s)) (or_assoc (short_gathering s) (fault_of g) (decoder_refusal (bytes_of g.values) short))));
        offset = eo;
        alpha = ea;
        kta = ek;
      }

module _ (c : After-decode_stored-decoded) where
  abbrev short : Bool
  short = too_short (length c.args.offset.now) (length c.args.alpha.now) (length c.args.k_ta.now) (length c.args.«record».now)

  abbrev n : ℕ
  n = c.entries-room.result

  told : Decodes n (refuses c.args.gathering.now short) (stored_words c.args.gathering.now) c.decode_stored-decoded.result c.decode_stored-decoded.new.offset c.decode_stored-decoded.new.alpha c.decode_stored-decoded.new.k_ta
  told =
      let f = c.decode_stored-decoded in
      decodes c.args.gathering.now n short f.result f.new.offset f.new.alpha f.new.k_ta c.entries-room.ensures.value f.ensures.answer f.ensures.offset f.ensures.alpha f.ensures.k_ta

pub lay_out-requires : goal.lay_out-requires
lay_out-requires c =
    let d = (goal.at.lay_out-requires c).After-decode_stored-decoded in
    let lent = c.entries-room.ensures.value in
    let enough = roomy c.args.gathering.now (short d) in
    record { room = all-lent (n d) (short d) lent (told d) enough; no_nan = plain-floats (n d) (short d) lent (told d) enough }

pub returns : goal.returns
unfolding slices_refusal
returns c =
    let d = (goal.at.returns c).After-decode_stored-decoded in
    let s = c.args in
    let p = c.lay_out.ensures in
    let word = c.refusal_word.ensures in
    let all = laid (n d) (short d) c.entries-room.ensures.value (told d) (roomy s.gathering.now (short d)) s.offset.now s.alpha.now s.k_ta.now s.«record».now word p.answer p.offset p.alpha p.k_ta p.«record» p.stored in
    record {
      answer = word ∙ ap refusal_word (p.answer ∙ (ap verdict_of (told d).answer ∙ granted-verdict (refuses s.gathering.now (short d)) _));
      offset = all.0;
      alpha = all.1.0;
      k_ta = all.1.1.0;
      «record» = all.1.1.1.0;
      stored = all.1.1.1.1;
    }
