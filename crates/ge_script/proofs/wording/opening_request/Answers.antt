use Rattle.ge_script.proofs.Steps.{left-at}
use Rattle.ge_script.proofs.wording.opening_request.Goals as goal

pub returns : goal.returns
returns c =
    let found = c.get.ensures.lookup in
    left-at (λ r. r.now) c.opening_requests.result.now _ c.args.number c.get.result c.copied.result _ c.opening_requests.ensures c.copied.ensures found.1 found.3
