-- The three parts lie one after the other, and what the record's types say of it is enough for it to read back.
use Rattle.std.proofs.Common.{◌+◌, ◌≤◌, length, refl, ap, arith, rules, ◌∙◌}
use Rattle.std.proofs.lemmas.List.Edits.{sets}
use Rattle.layout.specs.RecordBytes.{head_bytes, array_bytes, tail_bytes, record_bytes, record_in}
use Rattle.layout.proofs.Held.{All, Held, floats-held, shorts-held}
use Rattle.layout.proofs.Back.{stands-stored, record-back}
use Rattle.layout.proofs.Stored.{first, next}
use Rattle.layout.proofs.fields.put_record.Goals as goal

pub returns : goal.returns
unfolding record_bytes All
returns c =
    let l = c.args.out.now in
    let r = c.args.r in
    let p1 = c.put_head.ensures in
    let p2 = c.put_arrays.ensures in
    let p3 = c.put_tail.ensures in
    let w = next (next (first l 0 (head_bytes r) p1.out_after p1.r_len) (array_bytes r) p2.out_after p2.r_len refl) (tail_bytes r) p3.out_after p3.r_len refl in
    let room : 0 + length (record_bytes r) ≤ length l = rw w.long (omega arith) in
    let held : Held r = record {
      voltages = (search rules, search rules);
      scalars = (search rules, (search rules, (search rules, (search rules, (search rules, (search rules, tt))))));
      corners = record { long = search rules; each = search (rules, shorts-held) };
      slopes = record { long = search rules; each = search (rules, floats-held) };
      alphas = record { long = search rules; each = search (rules, floats-held) };
      references = record { long = search rules; each = search (rules, shorts-held) };
      pattern = record { long = search rules; each = search (rules, floats-held) };
      compensation = (search rules, (search rules, tt));
      gradient = p3.temperature_gradient_coefficient_value;
      six = record { long = search rules; each = search (rules, floats-held) };
      last = search rules;
    } in
    let back = record-back (sets l 0 (record_bytes r)) r held (stands-stored l (record_bytes r) 0 room) in
    record { out_after = w.is; r_len = w.long; out_after_2 = ap record_in w.is ∙ back }
