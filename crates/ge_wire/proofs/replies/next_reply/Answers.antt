use Rattle.std.proofs.Common.{◌≡◌, ℕ, ◌+◌, ◌-◌, ◌≤◌, ◌<◌, ◌^◌, List, length, take, sym, ap, ◌∙◌, arith}
use Rattle.std.specs.Int.{w64, from_be_bytes}
use Rattle.std.proofs.lemmas.List.{length-take-le}
use Rattle.ge_wire.proofs.Cases.{take-all, behind-none}
use Rattle.ge_wire.proofs.ReplyCases.{long-reply, part-reply, whole-reply}
use Rattle.ge_wire.proofs.replies.next_reply.Goals as goal

pub returns-then-len-room-clause-reads : goal.returns-then-len-room-clause-reads
returns-then-len-room-clause-reads g c =
    let count = c.in_ok-count.count in
    let buf : List ℕ = c.fill.new.buf in
    let long : length buf ≡ 8 = c.in_ok-count.ensures.long in
    let all : count ≡ 8 = omega (arith, c.if-count-lt8.false, c.in_ok-count.ensures.bound) in
    let eight : length (take count buf) ≡ 8 = length-take-le count buf (omega (arith, long, all)) ∙ all in
    let says : c.from_be_bytes-size.result ≡ from_be_bytes w64 (take count buf) = c.from_be_bytes-size.ensures ∙ ap (λ xs. from_be_bytes w64 xs) (sym (take-all count buf (all ∙ sym long))) in
    let text : List ℕ = c.read_up_to.new.bytes.items in
    let moved = behind-none (g.S.Source.rest c.fill.new.s) (g.S.Source.rest c.read_up_to.new.s) c.new-text.result.items text c.new-text.ensures.items c.in_ok-read_up_to.ensures.moved in
    let as_long : length text ≡ c.len.result = omega (arith, c.len.ensures, c.read_up_to.new.bytes.ok) in
    long-reply _ _ _ (take count buf) text c.from_be_bytes-size.result c.in_ok-count.ensures.moved moved eight says
    (omega (arith, as_long, c.in_ok-read_up_to.ensures.bound, c.min.ensures)) (omega (arith, as_long, c.if-len-room.true))

pub returns-then-len-size-clause-reads : goal.returns-then-len-size-clause-reads
returns-then-len-size-clause-reads g c =
    let count = c.in_ok-count.count in
    let buf : List ℕ = c.fill.new.buf in
    let long : length buf ≡ 8 = c.in_ok-count.ensures.long in
    let all : count ≡ 8 = omega (arith, c.if-count-lt8.false, c.in_ok-count.ensures.bound) in
    let eight : length (take count buf) ≡ 8 = length-take-le count buf (omega (arith, long, all)) ∙ all in
    let says : c.from_be_bytes-size.result ≡ from_be_bytes w64 (take count buf) = c.from_be_bytes-size.ensures ∙ ap (λ xs. from_be_bytes w64 xs) (sym (take-all count buf (all ∙ sym long))) in
    let text : List ℕ = c.read_up_to.new.bytes.items in
    let moved = behind-none (g.S.Source.rest c.fill.new.s) (g.S.Source.rest c.read_up_to.new.s) c.new-text.result.items text c.new-text.ensures.items c.in_ok-read_up_to.ensures.moved in
    let as_long : length text ≡ c.len-2.result = omega (arith, c.len-2.ensures, c.read_up_to.new.bytes.ok) in
    part-reply _ _ _ (take count buf) text 0 c.from_be_bytes-size.result c.in_ok-count.ensures.moved moved
    (c.in_ok-read_up_to.ensures.ended (omega (arith, c.if-len-size.true, c.len-2.ensures, c.len.ensures, c.if-len-room.false, c.in_ok-read_up_to.ensures.bound, c.min.ensures))) eight says
    (omega (arith, as_long, c.if-len-size.true)) (omega (arith, as_long, c.len-2.ensures, c.len.ensures, c.if-len-room.false, c.in_ok-read_up_to.ensures.bound, c.min.ensures))

pub returns-clause-reads : goal.returns-clause-reads
returns-clause-reads g c =
    let count = c.in_ok-count.count in
    let buf : List ℕ = c.fill.new.buf in
    let long : length buf ≡ 8 = c.in_ok-count.ensures.long in
    let all : count ≡ 8 = omega (arith, c.if-count-lt8.false, c.in_ok-count.ensures.bound) in
    let eight : length (take count buf) ≡ 8 = length-take-le count buf (omega (arith, long, all)) ∙ all in
    let says : c.from_be_bytes-size.result ≡ from_be_bytes w64 (take count buf) = c.from_be_bytes-size.ensures ∙ ap (λ xs. from_be_bytes w64 xs) (sym (take-all count buf (all ∙ sym long))) in
    let text : List ℕ = c.read_up_to.new.bytes.items in
    let moved = behind-none (g.S.Source.rest c.fill.new.s) (g.S.Source.rest c.read_up_to.new.s) c.new-text.result.items text c.new-text.ensures.items c.in_ok-read_up_to.ensures.moved in
    let as_long : length text ≡ c.len-2.result = omega (arith, c.len-2.ensures, c.read_up_to.new.bytes.ok) in
    rw c.from_vec.ensures (
    whole-reply _ _ _ (take count buf) text c.from_be_bytes-size.result c.in_ok-count.ensures.moved moved eight says
    (omega (arith, as_long, c.if-len-size.false, c.len-2.ensures, c.len.ensures, c.in_ok-read_up_to.ensures.bound, c.min.ensures))
    (omega (arith, as_long, c.if-len-size.false, c.len-2.ensures, c.len.ensures, c.if-len-room.false, c.in_ok-read_up_to.ensures.bound, c.min.ensures)))
