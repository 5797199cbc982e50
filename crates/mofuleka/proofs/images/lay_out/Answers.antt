-- Where there is a record, it and each table stand at the front of their slices.
use Rattle.std.proofs.Common.{◌≡◌, Ok, true, is_ok, length, refl, rules}
use Rattle.layout.specs.Numbers.{shorts_bytes, floats_bytes}
use Rattle.layout.specs.RecordBytes.{record_bytes}
use Rattle.layout.proofs.Stored.{shorts-long, floats-long}
use Rattle.mofuleka.proofs.Lent.{lent_written, rooms}
use Rattle.mofuleka.proofs.images.lay_out.Goals as goal

pub returns-clause-offset : goal.returns-clause-offset
returns-clause-offset c =
    let a = c.args in
    let ok : is_ok a.decoded ≡ true = search rules in
    let room = rooms (length a.offset.now) (length a.alpha.now) (length a.k_ta.now) (length a.«record».now) (c.requires.room ok) in
    let n : length a.offsets.now ≡ 768 = search rules in
    lent_written (is_ok a.decoded) (shorts_bytes a.offsets.now) a.offset.now ok (shorts-long a.offsets.now 768 n) room.0 c.put_all.ensures

pub returns-clause-alpha : goal.returns-clause-alpha
returns-clause-alpha c =
    let a = c.args in
    let ok : is_ok a.decoded ≡ true = search rules in
    let room = rooms (length a.offset.now) (length a.alpha.now) (length a.k_ta.now) (length a.«record».now) (c.requires.room ok) in
    let n : length a.alphas.now ≡ 768 = search rules in
    lent_written (is_ok a.decoded) (floats_bytes a.alphas.now) a.alpha.now ok (floats-long a.alphas.now 768 n) room.1 c.put_table.ensures

pub returns-clause-k_ta : goal.returns-clause-k_ta
returns-clause-k_ta c =
    let a = c.args in
    let ok : is_ok a.decoded ≡ true = search rules in
    let room = rooms (length a.offset.now) (length a.alpha.now) (length a.k_ta.now) (length a.«record».now) (c.requires.room ok) in
    let n : length a.k_tas.now ≡ 768 = search rules in
    lent_written (is_ok a.decoded) (floats_bytes a.k_tas.now) a.k_ta.now ok (floats-long a.k_tas.now 768 n) room.2 c.put_table-2.ensures

pub returns-clause-record : goal.returns-clause-record
returns-clause-record c =
    let a = c.args in
    let ok : is_ok a.decoded ≡ true = search rules in
    let room = rooms (length a.offset.now) (length a.alpha.now) (length a.k_ta.now) (length a.«record».now) (c.requires.room ok) in
    let put = c.put_record.ensures in
    let is : a.decoded ≡ Ok c.in_ok-laid.laid = search rules in
    rw is (lent_written true (record_bytes c.in_ok-laid.laid) a.«record».now refl put.r_len room.3 put.out_after)
