-- The decoder decides and fills the tables, and the record is laid out.
use Rattle.std.proofs.Common.{◌≡◌, ℕ, ◌≤◌, Ok, Err, true, List, length, refl, sym, ap, rules, ◌∙◌}
use Rattle.std.specs.Prelude.{ℤ, Float, Result}
use borrow.Author.Tests.{lt-ltb, le-ltb}
use Rattle.util.specs.Lists.{tab}
use Rattle.util.proofs.Filled.{tab-length}
use Rattle.refusal.specs.Code.{Verdict, accepted, accepted_by, granted, verdict_of}
use Rattle.refusal.specs.declared.Refusal.{Refusal}
use Rattle.refusal.proofs.Order.{granted-verdict}
use Rattle.record.specs.Fields.{record_of}
use Rattle.record.specs.declared.Record.{Record}
use Rattle.tables.specs.Entries.{offset_at, alpha_at, kta_at}
use Rattle.eeprom.specs.Image.{image_words}
use Rattle.eeprom.specs.Decoding.{decoded_of, refusal_of, table_after}
use Rattle.layout.specs.RecordBytes.{record_bytes}
use Rattle.layout.specs.Sizes.{record_size}
use Rattle.mofuleka.specs.Images.{lent_after}
use Rattle.mofuleka.proofs.Lent.{lent_written}
use Rattle.bench.specs.Bench.{own_refusal}
use Rattle.bench.proofs.decode.Goals as goal

pub returns-then-record-lt-RECORD_BYTES-clause-answer : goal.returns-then-record-lt-RECORD_BYTES-clause-answer
unfolding own_refusal
returns-then-record-lt-RECORD_BYTES-clause-answer c = rw (lt-ltb _ _ c.if-record-lt-RECORD_BYTES.true)

-- past the test of the record's length the decoder decides
decided : (image : List ℕ) (offset : List ℤ) (alpha kta : List Float) (rec : List ℕ) {d : Result Record Refusal} → record_size ≤ length rec
    → d ≡ decoded_of image (length offset) (length alpha) (length kta) → verdict_of d ≡ own_refusal image offset alpha kta rec
unfolding own_refusal decoded_of
decided image offset alpha kta rec long is = ap verdict_of is ∙ (granted-verdict (refusal_of image (length offset) (length alpha) (length kta)) _ ∙ rw (le-ltb (length rec) record_size long))

-- a table that the decoder was lent, where it accepts
lent-table : {A : Type 0} (q : Verdict) (f : ℕ → A) (before : List A) {x : List A} → accepted_by q ≡ true → x ≡ table_after q f before → x ≡ lent_after true (tab f 768) before
lent-table q f before e is = is ∙ rw (e, tab-length f 768)

-- the record that it gives is the image's
given : (q : Verdict) {x y : Record} → ◌≡◌ {A = Result Record Refusal} (Ok x) (granted q y) → x ≡ y
given (Ok done) e = cc
given (Err r) e = cc

pub returns-in_err-decoded-clause-answer : goal.returns-in_err-decoded-clause-answer
returns-in_err-decoded-clause-answer c =
    let s = c.args in
    let e : c.from_residual.result ≡ verdict_of c.from_data.result = search rules in
    e ∙ decided s.image.now s.offset.now s.alpha.now s.k_ta.now s.«record».now c.if-record-lt-RECORD_BYTES.false c.from_data.ensures.answer

pub returns : goal.returns
unfolding decoded_of
returns c =
    let s = c.args in
    let f = c.from_data in
    let w = image_words s.image.now in
    let ok : accepted_by (verdict_of f.result) ≡ true = search rules in
    let passed : verdict_of f.result ≡ accepted = search rules in
    let was : f.result ≡ Ok c.in_ok-decoded.decoded = search rules in
    let put = c.put_record.ensures in
    let is : c.in_ok-decoded.decoded ≡ record_of w = given (refusal_of s.image.now (length s.offset.now) (length s.alpha.now) (length s.k_ta.now)) (sym was ∙ f.ensures.answer) in
    record {
      answer = sym passed ∙ decided s.image.now s.offset.now s.alpha.now s.k_ta.now s.«record».now c.if-record-lt-RECORD_BYTES.false f.ensures.answer;
      offset = lent-table (verdict_of f.result) (offset_at w) s.offset.now ok f.ensures.offset;
      alpha = lent-table (verdict_of f.result) (alpha_at w) s.alpha.now ok f.ensures.alpha;
      k_ta = lent-table (verdict_of f.result) (kta_at w) s.k_ta.now ok f.ensures.k_ta;
      «record» = lent_written true (record_bytes (record_of w)) s.«record».now refl (rw is at put.r_len) c.if-record-lt-RECORD_BYTES.false (rw is at put.out_after);
    }
