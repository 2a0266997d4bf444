use Rattle.std.proofs.Common.{length, drop, arith, ◌<◌, ◌≤◌, ◌≡◌, ◌∙◌, ap, sym, false}
use Rattle.std.proofs.lemmas.List.{length-drop}
use Rattle.ge_model_grammar.specs.ScriptLines.{is_header}
use Rattle.ge_script.proofs.FirstRequest.{next_text_line}
use Rattle.ge_script.proofs.requests.request_len.Goals as goal

pub loop-end-preserved : goal.loop-end-preserved
loop-end-preserved c =
    let bs = c.args.bytes.now in
    let end = c.loop-end.end in
    let left : 0 < length (drop end bs) = omega (arith, length-drop end bs) in
    let text : is_header (drop end bs) ≡ false = ap is_header (sym c.bytes_from.ensures) ∙ sym c.begins_request.ensures ∙ c.if-not-begins_request.true in
    let room : c.line_len-end-in-loop-end.result ≤ length (drop end bs) = rw c.bytes_from-in-loop-end.ensures at c.line_len-end-in-loop-end.ensures.within in
    record {
      taken = omega arith;
      within = omega (arith, length-drop end bs);
      first = next_text_line bs end _ left text (rw c.bytes_from-in-loop-end.ensures at c.line_len-end-in-loop-end.ensures.first) c.loop-end.invariant.first;
    }
