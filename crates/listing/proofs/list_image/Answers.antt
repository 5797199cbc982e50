-- Whatever is decoded, its listing has room in the buffer, so that it stands there whole.
use Rattle.std.proofs.Common.{◌≡◌, ◌≤◌, length, arith, rules}
use Rattle.eeprom.specs.Decoding.{decoded_of}
use Rattle.listing.specs.Listing.{listing}
use Rattle.listing.proofs.Room.{stands, listing-room}
use Rattle.listing.proofs.list_image.Goals as goal

pub returns : goal.returns
returns c =
    let image = c.args.image.now in
    let l = c.args.out.now in
    let answer = c.from_data-answer.result in
    let e : answer ≡ decoded_of image 768 768 768 = c.from_data-answer.ensures.answer in
    let long : length l ≡ 1024 = search rules in
    let room : length (listing answer) ≤ length l = rw e (omega (arith, listing-room image 768 768 768)) in
    let s = rw e at (stands (listing answer) l c.list.new.out c.list.result room c.list.ensures) in
    record { prefix_len = s.0; out_after = s.1.0; out_unchanged = s.1.1 }
