use Rattle.std.proofs.Common.{◌≡◌, ℕ, ◌+◌, ◌-◌, ◌≤◌, ◌<◌, ◌^◌, true, false, List, length, take, sym, ap, ◌∙◌, arith}
use Rattle.std.specs.Int.{w32, from_be_bytes}
use Rattle.std.proofs.lemmas.List.{length-take-le}
use Rattle.ge_model_wire.specs.Frames.{is_no_size}
use Rattle.ge_wire.proofs.Cases.{take-all, take-front, reads-long-head, reads-none, reads-cut-head, reads-no-size, reads-long-payload, reads-part, reads-whole}
use Rattle.ge_wire.proofs.reading.next_frame.Goals as goal

pub returns-then-count-room-clause-reads : goal.returns-then-count-room-clause-reads
returns-then-count-room-clause-reads g c =
    let count = c.in_ok-count.count in
    let buf : List ℕ = c.fill.new.buf in
    let long : length buf ≡ 4 = c.in_ok-count.ensures.long in
    let some : length (take count buf) ≡ count = length-take-le count buf (omega (arith, long, c.in_ok-count.ensures.bound, c.min.ensures)) in
    reads-long-head _ _ (take count buf) c.args.at c.in_ok-count.ensures.moved (omega (arith, some, c.in_ok-count.ensures.bound, c.min.ensures))
    (omega (arith, some, c.requires, c.if-count-room.true))

pub returns-then-count-eq0-clause-reads : goal.returns-then-count-eq0-clause-reads
returns-then-count-eq0-clause-reads g c =
    let count = c.in_ok-count.count in
    let buf : List ℕ = c.fill.new.buf in
    let none : length (take count buf) ≡ 0 = length-take-le count buf (omega (arith, c.if-count-eq0.true)) ∙ c.if-count-eq0.true in
    reads-none _ _ (take count buf) c.args.at c.in_ok-count.ensures.moved
    (c.in_ok-count.ensures.ended (omega (arith, c.requires, c.if-count-eq0.true, c.if-count-room.false, c.min.ensures)))
    none (omega (arith, c.requires, c.if-count-eq0.true, c.if-count-room.false))

pub returns-then-count-lt4-clause-reads : goal.returns-then-count-lt4-clause-reads
returns-then-count-lt4-clause-reads g c =
    let count = c.in_ok-count.count in
    let buf : List ℕ = c.fill.new.buf in
    let long : length buf ≡ 4 = c.in_ok-count.ensures.long in
    let some : length (take count buf) ≡ count = length-take-le count buf (omega (arith, long, c.if-count-lt4.true)) in
    reads-cut-head _ _ (take count buf) c.args.at c.args.at c.in_ok-count.ensures.moved
    (c.in_ok-count.ensures.ended (omega (arith, c.if-count-lt4.true, c.if-count-room.false, c.in_ok-count.ensures.bound, c.min.ensures)))
    (omega (arith, some, c.if-count-lt4.true)) (omega (arith, some, c.if-count-eq0.false))
    (omega (arith, some, c.requires, c.in_ok-count.ensures.bound, c.min.ensures, c.if-count-room.false))

pub returns-then-is_no_length-clause-reads : goal.returns-then-is_no_length-clause-reads
returns-then-is_no_length-clause-reads g c =
    let count = c.in_ok-count.count in
    let buf : List ℕ = c.fill.new.buf in
    let long : length buf ≡ 4 = c.in_ok-count.ensures.long in
    let all : count ≡ 4 = omega (arith, c.if-count-lt4.false, c.in_ok-count.ensures.bound, c.min.ensures) in
    let four : length (take count buf) ≡ 4 = length-take-le count buf (omega (arith, long, all)) ∙ all in
    let says : c.from_be_bytes-size.result ≡ from_be_bytes w32 (take count buf) = c.from_be_bytes-size.ensures ∙ ap (λ xs. from_be_bytes w32 xs) (sym (take-all count buf (all ∙ sym long))) in
    reads-no-size _ _ (take count buf) c.args.at c.args.at c.from_be_bytes-size.result c.in_ok-count.ensures.moved four says (sym c.is_no_length.ensures ∙ c.if-is_no_length.true)
    (omega (arith, c.requires, all, c.in_ok-count.ensures.bound, c.min.ensures, c.if-count-room.false))

pub returns-then-taken-room-clause-reads : goal.returns-then-taken-room-clause-reads
returns-then-taken-room-clause-reads g c =
    let count = c.in_ok-count.count in
    let buf : List ℕ = c.fill.new.buf in
    let long : length buf ≡ 4 = c.in_ok-count.ensures.long in
    let all : count ≡ 4 = omega (arith, c.if-count-lt4.false, c.in_ok-count.ensures.bound, c.min.ensures) in
    let four : length (take count buf) ≡ 4 = length-take-le count buf (omega (arith, long, all)) ∙ all in
    let says : c.from_be_bytes-size.result ≡ from_be_bytes w32 (take count buf) = c.from_be_bytes-size.ensures ∙ ap (λ xs. from_be_bytes w32 xs) (sym (take-all count buf (all ∙ sym long))) in
    let good : is_no_size c.from_be_bytes-size.result ≡ false = sym c.is_no_length.ensures ∙ c.if-is_no_length.false in
    let taken = c.in_ok-taken.taken in
    let room : length c.fill-2.new.buf ≡ c.min-want.result = omega (arith, c.in_ok-taken.ensures.long, c.as_mut_slice.ensures.len, c.in_ok-payload.ensures) in
    let some : length (take taken c.fill-2.new.buf) ≡ taken = length-take-le taken c.fill-2.new.buf (omega (arith, room, c.in_ok-taken.ensures.bound)) in
    reads-long-payload _ _ _ (take count buf) (take taken c.fill-2.new.buf) c.args.at c.from_be_bytes-size.result c.in_ok-count.ensures.moved c.in_ok-taken.ensures.moved four says good
    (omega (arith, some, c.in_ok-taken.ensures.bound, c.min-want.ensures)) (omega (arith, some, c.if-taken-room.true, c.requires, all, c.in_ok-count.ensures.bound, c.min.ensures, c.if-count-room.false))

pub returns-then-taken-size-clause-reads : goal.returns-then-taken-size-clause-reads
returns-then-taken-size-clause-reads g c =
    let count = c.in_ok-count.count in
    let buf : List ℕ = c.fill.new.buf in
    let long : length buf ≡ 4 = c.in_ok-count.ensures.long in
    let all : count ≡ 4 = omega (arith, c.if-count-lt4.false, c.in_ok-count.ensures.bound, c.min.ensures) in
    let four : length (take count buf) ≡ 4 = length-take-le count buf (omega (arith, long, all)) ∙ all in
    let says : c.from_be_bytes-size.result ≡ from_be_bytes w32 (take count buf) = c.from_be_bytes-size.ensures ∙ ap (λ xs. from_be_bytes w32 xs) (sym (take-all count buf (all ∙ sym long))) in
    let good : is_no_size c.from_be_bytes-size.result ≡ false = sym c.is_no_length.ensures ∙ c.if-is_no_length.false in
    let taken = c.in_ok-taken.taken in
    let room : length c.fill-2.new.buf ≡ c.min-want.result = omega (arith, c.in_ok-taken.ensures.long, c.as_mut_slice.ensures.len, c.in_ok-payload.ensures) in
    let some : length (take taken c.fill-2.new.buf) ≡ taken = length-take-le taken c.fill-2.new.buf (omega (arith, room, c.in_ok-taken.ensures.bound)) in
    reads-part _ _ _ (take count buf) (take taken c.fill-2.new.buf) c.args.at c.args.at c.from_be_bytes-size.result c.in_ok-count.ensures.moved c.in_ok-taken.ensures.moved
    (c.in_ok-taken.ensures.ended (omega (arith, c.if-taken-size.true, c.if-taken-room.false, c.in_ok-taken.ensures.bound, c.min-want.ensures))) four says good
    (omega (arith, some, c.if-taken-size.true)) (omega (arith, some, c.if-taken-room.false, c.in_ok-taken.ensures.bound, c.min-want.ensures, c.requires, all, c.min.ensures, c.in_ok-count.ensures.bound, c.if-count-room.false))

pub returns-clause-reads : goal.returns-clause-reads
returns-clause-reads g c =
    let count = c.in_ok-count.count in
    let buf : List ℕ = c.fill.new.buf in
    let long : length buf ≡ 4 = c.in_ok-count.ensures.long in
    let all : count ≡ 4 = omega (arith, c.if-count-lt4.false, c.in_ok-count.ensures.bound, c.min.ensures) in
    let four : length (take count buf) ≡ 4 = length-take-le count buf (omega (arith, long, all)) ∙ all in
    let says : c.from_be_bytes-size.result ≡ from_be_bytes w32 (take count buf) = c.from_be_bytes-size.ensures ∙ ap (λ xs. from_be_bytes w32 xs) (sym (take-all count buf (all ∙ sym long))) in
    let good : is_no_size c.from_be_bytes-size.result ≡ false = sym c.is_no_length.ensures ∙ c.if-is_no_length.false in
    let taken = c.in_ok-taken.taken in
    let room : length c.fill-2.new.buf ≡ c.min-want.result = omega (arith, c.in_ok-taken.ensures.long, c.as_mut_slice.ensures.len, c.in_ok-payload.ensures) in
    let some : length (take taken c.fill-2.new.buf) ≡ taken = length-take-le taken c.fill-2.new.buf (omega (arith, room, c.in_ok-taken.ensures.bound)) in
    let full : taken ≡ c.from_be_bytes-size.result = omega (arith, c.if-taken-size.false, c.in_ok-taken.ensures.bound, c.min-want.ensures) in
    let whole : take taken c.fill-2.new.buf ≡ c.fill-2.new.buf = take-all taken c.fill-2.new.buf (omega (arith, room, full, c.in_ok-taken.ensures.bound, c.min-want.ensures)) in
    let filled : length c.fill-2.new.buf ≡ c.in_ok-payload.payload.len = omega (arith, c.in_ok-taken.ensures.long, c.as_mut_slice.ensures.len, c.in_ok-payload.ensures) in
    let text : c.from_vec.result ≡ take taken c.fill-2.new.buf = c.from_vec.ensures ∙ take-front c.in_ok-payload.payload.len c.fill-2.new.buf _ filled ∙ sym whole in
    rw text (
    reads-whole _ _ _ (take count buf) (take taken c.fill-2.new.buf) c.args.at c.from_be_bytes-size.result c.in_ok-count.ensures.moved c.in_ok-taken.ensures.moved four says good
    (some ∙ full) (omega (arith, full, c.if-taken-room.false, c.in_ok-taken.ensures.bound, c.min-want.ensures, c.requires, all, c.min.ensures, c.in_ok-count.ensures.bound, c.if-count-room.false)))
