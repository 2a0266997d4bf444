use Rattle.std.proofs.Common.{Ok, Err, subst}
use Rattle.ge_wire.specs.Replies.{Reads, reply_in}
use Rattle.ge_wire.proofs.ParsedReplies.{parsed_reply}
use Rattle.ge_wire.proofs.parsing.parse_reply.Goals as goal

pub returns-in-Ok : goal.returns-in-Ok
returns-in-Ok c =
    parsed_reply c.args.text.now (Ok c.in-Ok.reply)
    (subst (λ text. Reads (Ok c.in-Ok.reply) (reply_in text)) c.bytes.ensures c.in-Ok.ensures)

pub returns-in-Err : goal.returns-in-Err
returns-in-Err c =
    parsed_reply c.args.text.now (Err c.in-Err.fault)
    (subst (λ text. Reads (Err c.in-Err.fault) (reply_in text)) c.bytes.ensures c.in-Err.ensures)
